use Rattle.std.proofs.Common.{◌≡◌, ℕ, ◌+◌, [], ◌∷◌, ◌++◌, sym, ap, ◌∙◌, arith}
use Rattle.std.specs.List.{range_with_len}
use Rattle.std.proofs.lemmas.List.{map-id}
use Rattle.std.proofs.lemmas.List.FromFn.{map-range_with_len_more}
use Rattle.case_maker.proofs.keys.rising_ranks.Goals as goal

-- one number more
range-more : (n : ℕ) → range_with_len 1 (n + 1) ≡ range_with_len 1 n ++ (n + 1) ∷ []
range-more n =
    let next : 1 + n ≡ n + 1 = omega arith in
    sym (map-id (range_with_len 1 (n + 1)))
    ∙ map-range_with_len_more (λ (k : ℕ). k) 1 n (n + 1) next
    ∙ ap (λ xs. xs ++ (n + 1) ∷ []) (map-id (range_with_len 1 n))

pub loop-turn-preserved : goal.loop-turn-preserved
loop-turn-preserved c =
    c.in_ok-push.ensures.items ∙ ap (λ xs. xs ++ (c.loop-turn.turn + 1) ∷ []) c.loop-turn.invariant
    ∙ sym (range-more c.loop-turn.turn)
