use Rattle.std.proofs.Common.{◌≡◌, ◌∙◌, ◌++◌, ℕ, List, [], ◌∷◌, ap, arith, replicate}
use Rattle.std.proofs.lemmas.List.{replicate_more}
use Rattle.market.proofs.tentative.zero_rows.Goals as goal

pub loop-preserved : goal.loop-preserved
loop-preserved c =
    let k = c.loop.counter in
    let zeros : List ℕ = replicate c.args.count 0 in
    let row = c.from_vec.ensures ∙ c.in_ok-row.ensures.items_if_clones_equal (λ y h. h) in
    let pushed : ◌≡◌ {A = List (List ℕ)} c.push.new.self.items _ = c.in_ok-push.ensures.items in
    pushed
    ∙ ap (λ (xs : List (List ℕ)). xs ++ c.from_vec.result ∷ []) c.loop.invariant
    ∙ ap (λ (xs : List ℕ). replicate k zeros ++ xs ∷ []) row
    ∙ replicate_more k zeros

pub returns : goal.returns
returns c =
    let zeros : List ℕ = replicate c.args.count 0 in
    let all : c.loop.counter ≡ c.args.types = omega arith in
    c.loop.invariant ∙ ap (λ (k : ℕ). replicate k zeros) all
