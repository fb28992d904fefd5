use Rattle.std.proofs.Common.{◌≡◌, ◌∙◌, ◌<◌, ℕ, List, [], Option, Some, length, ap, sym, subst, arith}
use Rattle.std.specs.Prelude.{slice_index_or, slice_set}
use Rattle.market.specs.Problems.{Problem}
use Rattle.market.specs.Choices.{empty_table}
use Rattle.market.specs.Examples.{three_rounds}
use Rattle.market.proofs.tests.keeps_choices_and_placements.Goals as goal

-- a table of the example with no choice, and with the one that is set, has room for each candidate
rows : (m : Problem) (table : List (List (Option ℕ))) → table ≡ empty_table m → m ≡ three_rounds
    → (0 < length table) × (1 < length (slice_index_or table 0 []))
unfolding empty_table
rows m table e em =
    subst (λ (xs : List (List (Option ℕ))). (0 < length xs) × (1 < length (slice_index_or xs 0 [])))
    (sym (e ∙ ap empty_table em)) (omega arith, omega arith)

abbrev changed : List (List (Option ℕ)) → List (List (Option ℕ))
changed table = slice_set table 0 (slice_set (slice_index_or table 0 []) 1 (Some 0))

rows_after : (m : Problem) (table new' : List (List (Option ℕ))) → table ≡ empty_table m
    → m ≡ three_rounds → new' ≡ changed table
    → (1 < length new') × (1 < length (slice_index_or new' 0 []))
    × (1 < length (slice_index_or new' 1 []))
unfolding empty_table
rows_after m table new' e em en =
    subst (λ (xs : List (List (Option ℕ))). (1 < length xs) × (1 < length (slice_index_or xs 0 []))
    × (1 < length (slice_index_or xs 1 []))) (sym (en ∙ ap changed (e ∙ ap empty_table em)))
    (omega arith, omega arith, omega arith)

pub set-requires-clause-kind : goal.set-requires-clause-kind
set-requires-clause-kind g c =
    (rows c.in_ok-market.market c.in_ok-table.table c.in_ok-table.ensures.none
    c.in_ok-market.ensures).0

pub set-requires-clause-candidate : goal.set-requires-clause-candidate
set-requires-clause-candidate g c =
    (rows c.in_ok-market.market c.in_ok-table.table c.in_ok-table.ensures.none
    c.in_ok-market.ensures).1

pub choice-requires-clause-kind : goal.choice-requires-clause-kind
choice-requires-clause-kind g c = let r =
    rows_after c.in_ok-market.market c.in_ok-table.table c.set.new.self c.in_ok-table.ensures.none
    c.in_ok-market.ensures c.set.ensures in omega (arith, r.0)

pub choice-requires-clause-candidate : goal.choice-requires-clause-candidate
choice-requires-clause-candidate g c =
    (rows_after c.in_ok-market.market c.in_ok-table.table c.set.new.self c.in_ok-table.ensures.none
    c.in_ok-market.ensures c.set.ensures).1

pub choice-requires-2-clause-kind : goal.choice-requires-2-clause-kind
choice-requires-2-clause-kind g c =
    (rows_after c.in_ok-market.market c.in_ok-table.table c.set.new.self c.in_ok-table.ensures.none
    c.in_ok-market.ensures c.set.ensures).0

pub choice-requires-2-clause-candidate : goal.choice-requires-2-clause-candidate
choice-requires-2-clause-candidate g c =
    (rows_after c.in_ok-market.market c.in_ok-table.table c.set.new.self c.in_ok-table.ensures.none
    c.in_ok-market.ensures c.set.ensures).2
