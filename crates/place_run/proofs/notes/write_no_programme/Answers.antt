use Rattle.std.proofs.Common.{◌≡◌, ◌++◌, ℕ, List, [], append_assoc, subst}
use Rattle.std.specs.Prelude.{codes, decimal}
use Rattle.place_edges.specs.Sink.{IsWritten}
use Rattle.place_run.specs.Statuses.{no_programme_line}
use Rattle.place_run.proofs.notes.write_no_programme.Goals as goal

-- the parts of the line as they are written, with their spaces, are the line
no-programme : (number code : ℕ) → number ≡ code
    → codes "no programme " ++ (decimal number ++ (codes "\n" ++ [])) ≡ no_programme_line code
unfolding no_programme_line
no-programme number code same = rw same (simp append_assoc)

pub returns : goal.returns
returns g c =
    subst (λ (v : List ℕ). IsWritten v c.write_parts.result
    (g.N.Sink.written c.args.notes.now) (g.N.Sink.written c.write_parts.new.notes)
    (g.N.Sink.faults c.args.notes.now) (g.N.Sink.faults c.write_parts.new.notes))
    (no-programme c.from.result c.args.code c.from.ensures) c.write_parts.ensures
