use Rattle.std.proofs.Common.{ℕ, None, Option, map, is_some, replicate, ap, ◌∙◌}
use Rattle.record_files.specs.Rows.{data_rows}
use Rattle.second_placement.proofs.Registering.{have-lines, no-lines}
use Rattle.second_placement.proofs.registrations.read_registrations.Goals as goal

pub read_table-requires-clause-empty : goal.read_table-requires-clause-empty
read_table-requires-clause-empty g c =
    let candidates = g.C.Finder.numbers c.args.candidates.now in
    λ version. record {
      distinct = c.count.ensures.distinct;
      lines_are = c.in_ok-lines.ensures
          ∙ ap (λ (n : ℕ). replicate {A = Option ℕ} n None) c.count.ensures.length
          ∙ no-lines candidates;
    }

pub returns-clause-read : goal.returns-clause-read
returns-clause-read g c =
    let candidates = g.C.Finder.numbers c.args.candidates.now in (
      c.in_ok-read.ensures.0,
      c.in_ok-have_rows.ensures ∙ ap (map is_some) c.deref.ensures.value
          ∙ ap (map is_some) c.in_ok-read.ensures.1.lines_are
          ∙ have-lines (data_rows c.args.bytes.now) candidates,
    )
