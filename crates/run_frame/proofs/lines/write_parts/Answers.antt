use Rattle.std.specs.List.{flat_map}
use Rattle.place_edges.specs.Sink.{IsWritten}
use Rattle.record_files.specs.Texts.{text_of}
use Rattle.run_frame.proofs.Parts.{at-error, unwritten-at}
use Rattle.run_frame.proofs.lines.write_parts.Goals as goal

pub returns-in_err-write_part : goal.returns-in_err-write_part
returns-in_err-write_part g c =
    at-error (λ r. IsWritten (flat_map text_of c.args.parts.now) r
    (g.N.Sink.written c.args.notes.now) (g.N.Sink.written c.write_part.new.notes)
    (g.N.Sink.faults c.args.notes.now) (g.N.Sink.faults c.write_part.new.notes))
    c.from_residual.result c.in_err-write_part.field-0.0 c.from_residual.ensures.1
    (unwritten-at text_of c.args.parts.now c.loop-part.part-index _ _ _ _ _ _ _ _
    c.loop-part-test.true c.loop-part.invariant.so_far c.loop-part.invariant.quiet
    c.in_err-write_part.ensures)
