-- When a programme would take a candidate, by its number of holders and its base rank.
use Rattle.std.proofs.Common.{◌≡◌, ℕ, ◌<◌, true, List, Option, Some, None, refl, sym, ap, ◌∙◌, subst, arith}
use Rattle.std.proofs.lemmas.Option.{none-some}
use Rattle.std.proofs.lemmas.Bool.{false≢true, lt-ltb, ltb-true}
use Rattle.market.specs.Problems.{Problem, kind_of, rank_of}
use Rattle.market.specs.BaseRanks.{base_rank}
use Rattle.market.specs.Stability.{HasWorseHolder, IsBetter}
use Rattle.reports.proofs.WorstHolders.{base_rank-holder, base_rank-most}
use Rattle.stability_audit.specs.FirstVerdicts.{is_better}

-- a rank, and it is worse than this one
pub record IsWorse (rank : ℕ) (other : Option ℕ) : Type 0 where
  pub worse : ℕ
  pub is : other ≡ Some worse
  pub more : rank < worse

better-some : (a b : Option ℕ) (rank : ℕ) → a ≡ Some rank → IsBetter a b → IsWorse rank b
better-some None b rank e better = absurd (none-some rank e)
better-some (Some a) None rank e better = absurd better
better-some (Some a) (Some b) rank e better =
    let same : a ≡ rank = cc in record { worse = b; is = refl; more = omega arith }

-- a base rank worse than the candidate's is that of a holder
worse-holder : (m : Problem) (held : List (Option ℕ)) (i p rank base : ℕ)
    → rank_of m (kind_of m p) i ≡ Some rank → base_rank m held p ≡ Some base → rank < base
    → HasWorseHolder m held i p
worse-holder m held i p rank base r b less =
    let h = base_rank-holder m held p base b in
    record {
      holder = h.holder;
      holds = h.holds;
      worse = subst (λ (o : Option ℕ). IsBetter o (rank_of m (kind_of m p) h.holder)) (sym r)
          (subst (λ (o : Option ℕ). IsBetter (Some rank) o) (sym h.ranked) less);
    }

-- and where a holder has a worse rank, so is the base rank
worst-is : (m : Problem) (held : List (Option ℕ)) (i p rank : ℕ)
    → rank_of m (kind_of m p) i ≡ Some rank → HasWorseHolder m held i p
    → IsWorse rank (base_rank m held p)
worst-is m held i p rank r w =
    let other = better-some (rank_of m (kind_of m p) i) (rank_of m (kind_of m p) w.holder) rank r
    w.worse in
    let most = base_rank-most m held p w.holder other.worse w.holds other.is in
    let more = other.more in
    let less = most.most in
    record { worse = most.worst; is = most.is; more = omega arith }

-- ---- the same by a test

better-parts : (a b : Option ℕ) → is_better a b ≡ true
    → (x : ℕ) × (y : ℕ) × (a ≡ Some x) × (b ≡ Some y) × (x < y)
better-parts (Some x) (Some y) e = (x, y, refl, refl, ltb-true x y e)
better-parts (Some x) None e = absurd (false≢true e)
better-parts None b e = absurd (false≢true e)

-- who has a holder of worse rank has a rank that is better than the base rank
pub worse-true : (m : Problem) (held : List (Option ℕ)) (i p : ℕ) → HasWorseHolder m held i p
    → is_better (rank_of m (kind_of m p) i) (base_rank m held p) ≡ true
worse-true m held i p w = by_rank (rank_of m (kind_of m p) i) refl
  where
    by_rank : (o : Option ℕ) → rank_of m (kind_of m p) i ≡ o
        → is_better o (base_rank m held p) ≡ true
    by_rank None e =
        absurd (subst (λ (o : Option ℕ). IsBetter o (rank_of m (kind_of m p) w.holder)) e w.worse)
    by_rank (Some rank) e =
        let worst = worst-is m held i p rank e w in
        ap (is_better (Some rank)) worst.is ∙ lt-ltb _ _ worst.more

-- and the other way round
pub worse-from : (m : Problem) (held : List (Option ℕ)) (i p : ℕ)
    → is_better (rank_of m (kind_of m p) i) (base_rank m held p) ≡ true
    → HasWorseHolder m held i p
worse-from m held i p e =
    let better = better-parts (rank_of m (kind_of m p) i) (base_rank m held p) e in
    worse-holder m held i p better.0 better.1 better.2 better.3 better.4
