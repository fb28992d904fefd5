use Rattle.std.proofs.Common.{List, ℕ, subst, ap, ◌∙◌, ◌/◌, ◌%◌}
use Rattle.place_edges.specs.Sink.{IsWritten}
use Rattle.run_frame.proofs.LineTexts.{fault-line}
use Rattle.run_frame.proofs.lines.write_fault.Goals as goal

pub returns : goal.returns
returns g c =
    subst (λ (v : List ℕ). IsWritten v c.write_parts.result
    (g.N.Sink.written c.args.notes.now) (g.N.Sink.written c.write_parts.new.notes)
    (g.N.Sink.faults c.args.notes.now) (g.N.Sink.faults c.write_parts.new.notes))
    (fault-line c.args.fault _ _ _ _ _ _ _ (c.as_bytes.ensures.value ∙ c.name.ensures)
    (c.as_bytes-2.ensures.value ∙ c.name-2.ensures) c.from.ensures c.from-2.ensures
    (c.from-3.ensures ∙ ap (λ n. n / 10) c.number-number.ensures)
    (c.from-4.ensures ∙ ap (λ n. n % 10) c.number-number.ensures)
    c.from-5.ensures)
    c.write_parts.ensures
