use Rattle.std.proofs.Common.{List, ℕ, subst}
use Rattle.place_edges.specs.Sink.{IsWritten}
use Rattle.run_frame.proofs.LineTexts.{words-line}
use Rattle.run_frame.proofs.lines.write_words.Goals as goal

pub returns : goal.returns
returns g c =
    subst (λ (v : List ℕ). IsWritten v c.write_parts.result
    (g.N.Sink.written c.args.notes.now) (g.N.Sink.written c.write_parts.new.notes)
    (g.N.Sink.faults c.args.notes.now) (g.N.Sink.faults c.write_parts.new.notes))
    (words-line _ _ _ _ c.as_bytes.ensures.value c.from.ensures) c.write_parts.ensures
