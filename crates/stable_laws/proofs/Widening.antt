-- What two markets share that differ in quotas alone: lists, turns, ranks, who is acceptable, and who
-- has the better rank.
use Rattle.std.proofs.Common.{◌≡◌, ℕ, ◌<◌, List, [], length, Option, sym, ap, ◌∙◌, subst, arith}
use Rattle.std.specs.Prelude.{slice_get, slice_index_or}
use Rattle.market.specs.Problems.{Problem, IsValid, IsAcceptable, place_of, kind_of, bar_of, list_of, order_of, ranks_of, turn_of, rank_of, admits, admits_rank}
use Rattle.market.specs.Stability.{IsBetter}
use Rattle.market.specs.Comparisons.{Widens}
use Rattle.market.proofs.Valid.{kind_lt, turn-better}

module _ (m w : Problem) (wide : Widens m w) where
  -- the same lists, turn orders and turns
  pub list-same : (i : ℕ) → list_of w i ≡ list_of m i
  unfolding list_of
  list-same i = ap (λ (xs : List (List ℕ)). slice_index_or xs i []) wide.lists

  order-same : (t : ℕ) → order_of w t ≡ order_of m t
  unfolding order_of
  order-same t = ap (λ (xs : List (List ℕ)). slice_index_or xs t []) wide.orders

  turn-same : (t i : ℕ) → turn_of w t i ≡ turn_of m t i
  unfolding turn_of
  turn-same t i = ap (place_of i) (order-same t)

  -- the same ranks
  rank-same : (t i : ℕ) → rank_of w t i ≡ rank_of m t i
  unfolding rank_of ranks_of
  rank-same t i =
      ap (λ (xs : List (List ℕ)). slice_get (slice_index_or xs t []) (turn_of w t i)) wide.ranks
      ∙ ap (slice_get (ranks_of m t)) (turn-same t i)

  -- each programme admits the same candidates
  admits-same : (i p : ℕ) → admits w p i ≡ admits m p i
  unfolding admits
  admits-same i p =
      ap (λ (bar : Option ℕ). admits_rank bar (rank_of w (kind_of w p) i)) (wide.bars p)
      ∙ ap (admits_rank (bar_of m p))
      (ap (λ (t : ℕ). rank_of w t i) (wide.kinds p) ∙ rank-same (kind_of m p) i)

  -- so the same programmes are acceptable to a candidate
  pub acceptable-wide : (i p : ℕ) → IsAcceptable m i p → IsAcceptable w i p
  acceptable-wide i p a =
      record {
        listed = subst (λ (xs : List ℕ). place_of p xs < length xs) (sym (list-same i)) a.listed;
        admitted = admits-same i p ∙ a.admitted;
      }

  pub acceptable-narrow : (i p : ℕ) → IsAcceptable w i p → IsAcceptable m i p
  acceptable-narrow i p a =
      record {
        listed = subst (λ (xs : List ℕ). place_of p xs < length xs) (list-same i) a.listed;
        admitted = sym (admits-same i p) ∙ a.admitted;
      }

  -- a later turn in the one is a worse rank in the other
  pub worse-wide : IsValid m → IsValid w → (p i j : ℕ)
      → turn_of m (kind_of m p) i < turn_of m (kind_of m p) j
      → turn_of m (kind_of m p) j < length (order_of m (kind_of m p))
      → IsBetter (rank_of w (kind_of w p) i) (rank_of w (kind_of w p) j)
  worse-wide v vw p i j l n =
      let t = kind_of m p in
      let a = turn-same t i in
      let b = turn-same t j in
      let f = ap (λ (xs : List ℕ). length xs) (order-same t) in
      let own = kind_lt m v t (turn_of m t j) n in
      let types = wide.types in
      subst (λ (u : ℕ). IsBetter (rank_of w u i) (rank_of w u j)) (sym (wide.kinds p))
      (turn-better w vw t i j (omega arith) (omega arith) (omega arith))
