-- What a sound state has committed begins the dictatorship's choices: cell by cell, the first
-- ones are committed with them, and no other is.
use Rattle.std.proofs.Common.{◌≡◌, ℕ, zero, suc, ◌+◌, ◌<◌, ◌≤◌, false, List, [], ◌∷◌, ◌++◌, Some, None, length, map, drop, get_or, sym, refl, ap, ◌∙◌, arith}
use Rattle.std.specs.List.{cons_option, filter_map, range_with_len}
use Rattle.std.proofs.lemmas.List.{take-append-drop}
use Rattle.std.proofs.lemmas.List.FromFn.{take-map-range_with_len}
use Rattle.market.specs.Dictatorships.{Dictatorship, choice, choices, IsPrefixOf}
use Rattle.interleaving_core.specs.declared.parts.Cell.{Cell}
use Rattle.interleaving_core.specs.declared.parts.Cell.TheVariants.{Empty, Posted, Committed}
use Rattle.interleaving_core.specs.Core.{Core, is_committed, committed_place, committed_choices}
use Rattle.interleaving_core.specs.Sound.{IsSound}

not_placed : (x : Cell) → is_committed x ≡ false → committed_place x ≡ None
not_placed Empty e = refl
not_placed (Posted j) e = refl
not_placed (Committed j) e = absurd (cc (e))

-- the places of cells of which the first n, and no others, are committed at f
front_places : (f : ℕ → ℕ) (cells : List Cell) (m n : ℕ) → n ≤ length cells
    → ((k : ℕ) → k < n → get_or cells k Empty ≡ Committed (f (m + k)))
    → ((k : ℕ) → n ≤ k → is_committed (get_or cells k Empty) ≡ false)
    → filter_map committed_place cells ≡ map f (range_with_len m n)
front_places f [] m zero within is others = refl
front_places f [] m (suc n) within is others = absurd (omega arith)
front_places f (x ∷ xs) m zero within is others =
    ap (λ o. cons_option o (filter_map committed_place xs)) (not_placed x (others 0 (omega arith)))
    ∙ front_places f xs m zero (omega arith) (λ k l. absurd (omega arith))
    (λ k l. others (suc k) (omega arith))
front_places f (x ∷ xs) m (suc n) within is others =
    let here : m + 0 ≡ m = omega arith in
    let first = ap committed_place (is 0 (omega arith)) ∙ ap (λ k. Some (f k)) here in
    ap (λ o. cons_option o (filter_map committed_place xs)) first
    ∙ ap (λ rest. f m ∷ rest)
    (front_places f xs (m + 1) n (omega arith)
    (λ k l. let e : m + suc k ≡ m + 1 + k = omega arith in
    is (suc k) (omega arith) ∙ ap (λ i. Committed (f i)) e)
    (λ k l. others (suc k) (omega arith)))

-- the choices committed begin the dictatorship's choices
pub committed_prefix : (d : Dictatorship) (c : Core) → IsSound d c
    → IsPrefixOf (committed_choices c) (choices d)
unfolding choices
committed_prefix d c s =
    let n = length d.lists in
    let all = map (choice d) (range_with_len 0 n) in
    let within = s.mark.within in
    let cells = s.cells.each_turn in
    let front = front_places (choice d) c.cells 0 s.count (omega arith)
    (λ k l. let e : 0 + k ≡ k = omega arith in
    s.cells.below k l ∙ ap (λ i. Committed (choice d i)) (sym e)) s.cells.above in
    let is = front ∙ sym (take-map-range_with_len (choice d) 0 n s.count within) in (
      drop s.count all,
      ap (λ (xs : List ℕ). xs ++ drop s.count all) is
          ∙ take-append-drop s.count all,
    )
