use Rattle.std.proofs.Common.{take, ◌≡◌}
use Rattle.std.specs.List.{flat_map}
use Rattle.place_edges.specs.Sink.{Appended}
use Rattle.record_files.specs.Texts.{text_of}
use Rattle.run_frame.proofs.lines.write_parts.Given as goal

-- the parts before this one were appended, and no put failed
abbrev pub invariant-loop-part : goal.invariant-loop-part
invariant-loop-part g l = record {
  quiet : g.N.Sink.faults l.notes ≡ g.N.Sink.faults l.initial.notes;
  so_far : Appended (g.N.Sink.written l.initial.notes) (g.N.Sink.written l.notes)
      (flat_map text_of (take l.part-index l.parts));
}
