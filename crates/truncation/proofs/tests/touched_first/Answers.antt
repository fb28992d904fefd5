use Rattle.std.proofs.Common.{ℕ, ◌∙◌, ap, sym, subst, List, Option}
use Rattle.std.proofs.lemmas.Option.{none-some}
use Rattle.market.specs.Mechanism.{IsCuts}
use Rattle.market.specs.Choices.{held_in_table}
use Rattle.market.proofs.Plain.{whole_fit}
use Rattle.market.proofs.Replays.{run-none, empty_table-count}
use Rattle.truncation.proofs.Cutting.{empty_table-none}
use Rattle.truncation.proofs.tests.touched_first.Goals as goal

pub cut_lists-touched-requires-clause-table : goal.cut_lists-touched-requires-clause-table
cut_lists-touched-requires-clause-table c =
    let m = c.args.market.now in
    let e = c.in_ok-table.ensures.none in
    record {
      types = empty_table-count m c.in_ok-table.table e;
      candidates = λ t l. (run-none m c.in_ok-cuts.cuts t c.in_ok-table.table e l).candidates;
    }

pub cut_lists-touched-requires-clause-cuts : goal.cut_lists-touched-requires-clause-cuts
cut_lists-touched-requires-clause-cuts c =
    subst (IsCuts c.args.market.now) (sym c.in_ok-cuts.ensures.cuts)
    (whole_fit c.args.market.now)

pub cut_lists-touched-requires-clause-within : goal.cut_lists-touched-requires-clause-within
cut_lists-touched-requires-clause-within c =
    let m = c.args.market.now in
    let empty = λ (t i : ℕ). ap (λ (xs : List (List (Option ℕ))). held_in_table xs t i)
    c.in_ok-table.ensures.none ∙ empty_table-none m t i in
    record {
      kind = λ t i p e. absurd (none-some p (sym (empty t i) ∙ e));
      turn = λ t i p e. absurd (none-some p (sym (empty t i) ∙ e));
      within = λ t i p e. absurd (none-some p (sym (empty t i) ∙ e));
    }
