use Rattle.std.proofs.Common.{List, ℕ, subst}
use Rattle.place_edges.specs.Sink.{IsWritten}
use Rattle.registration_desk.proofs.NoteLines.{numbers-line}
use Rattle.registration_desk.proofs.notes.write_numbers.Goals as goal

pub returns : goal.returns
returns g c =
    subst (λ (v : List ℕ). IsWritten v c.write_parts.result
    (g.N.Sink.written c.args.notes.now) (g.N.Sink.written c.write_parts.new.notes)
    (g.N.Sink.faults c.args.notes.now) (g.N.Sink.faults c.write_parts.new.notes))
    (numbers-line c.args.numbers _ _ _ _ c.from.ensures c.from-2.ensures c.from-3.ensures
    c.from-4.ensures)
    c.write_parts.ensures
