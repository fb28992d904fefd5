use Rattle.std.proofs.Common.{◌≡◌, ℕ, ◌∙◌, ap, sym, List, [], ◌++◌, ◌∷◌, Option, map, arith}
use Rattle.std.specs.Prelude.{slice_get}
use Rattle.std.specs.List.{range_with_len}
use Rattle.std.proofs.lemmas.List.FromFn.{map-range_with_len_more}
use Rattle.market.specs.Problems.{list_of}
use Rattle.market.specs.Choices.{held_in_table, best_programmes_in}
use Rattle.market.specs.Mechanism.{best_in}
use Rattle.market.proofs.tentative.Tentative.best_programmes.Goals as goal

pub loop-candidate-preserved : goal.loop-candidate-preserved
loop-candidate-preserved c =
    let m = c.args.market.now in
    let best = best_in m (held_in_table c.args.self.now) in
    let k = c.loop-candidate.candidate in
    let f = λ (i : ℕ). slice_get (list_of m i) (best i) in
    let x : c.entry_at.result ≡ f k = c.entry_at.ensures
    ∙ ap (slice_get c.list-list.result.now) c.best_place-place.ensures.place
    ∙ ap (λ (xs : List ℕ). slice_get xs (best k)) c.list-list.ensures.list in
    c.in_ok-push.ensures.items
    ∙ ap (λ (xs : List (Option ℕ)). xs ++ c.entry_at.result ∷ []) c.loop-candidate.invariant
    ∙ ap (λ (o : Option ℕ). map f (range_with_len 0 k) ++ o ∷ []) x
    ∙ sym (map-range_with_len_more f 0 k k (omega arith))

pub returns : goal.returns
unfolding best_programmes_in
returns c =
    let m = c.args.market.now in
    let n = c.candidate_count-candidate-end.ensures.count in
    c.loop-candidate.invariant
    ∙ ap (λ (k : ℕ). map (λ i. slice_get (list_of m i)
    (best_in m (held_in_table c.args.self.now) i)) (range_with_len 0 k)) (omega arith)
