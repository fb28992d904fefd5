-- In every stable placement, of the same market or of one with more seats, each candidate holds
-- what the mechanism gives or a programme listed higher.
--
-- No turn of any round takes a programme that its candidate prefers to what the candidate holds in
-- the other placement. By induction on rounds, and on turns within a round. So far no cut has
-- removed what the other placement gives, since each cut lies behind a tentative programme. Let a
-- turn be the first to take a programme p that its candidate prefers. As the pair does not block
-- the other placement, all seats of p are held there by candidates of better rank, whose turns come
-- before. One of these did not take p, although it had a seat left and stood in the list: so it
-- took one that it prefers to p, at an earlier turn.
use Rattle.std.proofs.Common.{◌≡◌, ℕ, zero, suc, ◌<◌, ◌≤◌, Bool, cond, List, length, Option, Some, None, refl, sym, ap, ◌∙◌, subst, arith, ⊎_elim, inl, inr}
use Rattle.std.specs.Prelude.{slice_index, ◌⊎◌}
use Rattle.std.proofs.lemmas.Bool.{cases_lt, cases_eq, cases_Bool, false≢true}
use Rattle.market.specs.Counting.{is_programme, count_of}
use Rattle.market.specs.Problems.{Problem, IsValid, IsAcceptable, place_of, kind_of, quota_of, list_of, order_of, turn_of}
use Rattle.market.specs.Stability.{held_by, Prefers, HasWorseHolder, IsStable}
use Rattle.market.specs.Comparisons.{HoldsAtLeast, Widens, GivesAtLeast, IsWorstStable}
use Rattle.market.specs.Dictatorships.{pick}
use Rattle.market.specs.Mechanism.{type_dictatorship, tentative, has_several, cuts_after, cutting_rounds, best_programmes, mechanism_placement}
use Rattle.market.proofs.Firsts.{place_same}
use Rattle.market.proofs.Turns.{is_programme-true, is_programme-from}
use Rattle.market.proofs.Tallies.{tally, seats_taken-tally, tally-mono, tally_gap, at_turn, count-le-tally}
use Rattle.market.proofs.Tentatives.{turn_at, candidate_at, tentative-pick, tentative-takes, takes_by, seats_before, offered-from, offered-admits}
use Rattle.market.proofs.Rounds.{several-takes, best_by, next_cut-same, next_cut-several, next_cuts-at, cuts_after-suc, cuts_after-zero}
use Rattle.market.proofs.Valid.{candidate_lt, kind_lt, listed_kind, admitted-turn}
use Rattle.stable_laws.proofs.Holders.{holder-takes}
use Rattle.stable_laws.proofs.Stable.{stable}
use Rattle.stable_laws.proofs.Widening.{list-same, acceptable-wide, acceptable-narrow, worse-wide}

-- ---- turns

-- the candidate of a turn
abbrev candidate_of : Problem → ℕ → ℕ → ℕ
candidate_of m t k = slice_index (order_of m t) k

-- a turn from k on that has p
record HasFrom (h : ℕ → Option ℕ) (k n p : ℕ) : Type 0 where
  turn : ℕ
  from : k ≤ turn
  below : turn < n
  has : h turn ≡ Some p

-- where more are tallied, a later turn takes it
has_from : (h : ℕ → Option ℕ) (k n p : ℕ) → tally h k p < tally h n p → HasFrom h k n p
has_from h k zero p l = absurd (omega arith)
has_from h k (suc n) p l =
    ⊎_elim
    (λ less.
    let r = has_from h k n p less in
    record { turn = r.turn; from = r.from; below = omega (arith, r.below); has = r.has })
    (λ here.
    ⊎_elim
    (λ t.
    ⊎_elim
    (λ early. let mono = tally-mono h (suc n) k p early in absurd (omega arith))
    (λ late. record {
      turn = n;
      from = late;
      below = omega arith;
      has = is_programme-true p (h n) t;
    })
    (cases_lt n k))
    (λ f. let none = ap (λ (b : Bool). cond {A = ℕ} b 1 0) f in absurd (omega arith))
    (cases_Bool (is_programme p (h n))))
    (cases_lt (tally h k p) (tally h n p))

-- ---- a stable placement of a market as wide or wider

module _ (m w : Problem) (v : IsValid m) (vw : IsValid w) (wide : Widens m w)
    (other : List (Option ℕ)) (st : IsStable w other) where
  -- what the other placement gives stands within the cuts
  KeepsOther : List ℕ → Type 0
  KeepsOther cuts = (i q : ℕ) → held_by other i ≡ Some q → place_of q (list_of m i) < slice_index
      cuts i

  -- the candidate's turn takes nothing that is preferred to what the other placement gives
  TakesLeast : List ℕ → ℕ → ℕ → Type 0
  TakesLeast cuts t i = (p : ℕ) → tentative m cuts t i ≡ Some p
      → HoldsAtLeast (list_of m i) (Some p) (held_by other i)

  other-acceptable : (i q : ℕ) → held_by other i ≡ Some q → IsAcceptable m i q
  other-acceptable i q e = acceptable-narrow m w wide i q (st.placement.acceptable i q e)

  other-listed : (i q : ℕ) → held_by other i ≡ Some q
      → place_of q (list_of m i) < length (list_of m i)
  other-listed i q e = (other-acceptable i q e).listed

  other-turn : (i q : ℕ) → held_by other i ≡ Some q
      → turn_of m (kind_of m q) i < length (order_of m (kind_of m q))
  other-turn i q e =
      admitted-turn m v i q (listed_kind m v i q (other-listed i q e))
      (other-acceptable i q e).admitted

  -- ---- a programme p that candidate i would rather have

  module _ (i p : ℕ) (acceptable : IsAcceptable m i p)
      (turn : turn_of m (kind_of m p) i < length (order_of m (kind_of m p)))
      (preferred : Prefers (list_of m i) p (held_by other i)) where
    -- the two do not block the other placement
    no_room : (count_of p other < quota_of w p) ⊎ HasWorseHolder w other i p → ⊥
    no_room room =
        st.unblocked i p
        (record {
          acceptable = acceptable-wide m w wide i p acceptable;
          preferred =
              subst (λ (xs : List ℕ). Prefers xs p (held_by other i)) (sym (list-same m w wide i))
              preferred;
          room = room;
        })

    not_held : held_by other i ≡ Some p → ⊥
    not_held e =
        let before = subst (Prefers (list_of m i) p) e preferred in
        absurd (omega (arith, before.0))

    -- so all seats of p are held there
    all_held : quota_of w p ≤ count_of p other
    all_held =
        ⊎_elim (λ free. absurd (no_room (inl free))) (λ full. full)
        (cases_lt (count_of p other) (quota_of w p))

    -- by candidates with earlier turns
    holders_before : count_of p other
        ≤ tally (at_turn other (candidate_of m (kind_of m p))) (turn_of m (kind_of m p) i) p
    holders_before =
        let t = kind_of m p in
        let k = turn_of m t i in
        let n = length (order_of m t) in
        let o = candidate_of m t in
        let all = count-le-tally o p n other (λ c holds.
        let own = other-turn c p holds in
        record { turn = turn_of m t c; before = own; is_theirs = candidate_at m t c own }) in
        ⊎_elim
        (λ some_later.
        let r = has_from (at_turn other o) k n p some_later in
        let its_turn = turn_at m v t r.turn (kind_lt m v t r.turn r.below) r.below in
        ⊎_elim
        (λ same.
        let own = candidate_at m t i turn in
        absurd (not_held (ap (held_by other) (sym own) ∙ ap (λ (j : ℕ). held_by other (o j)) same
        ∙ r.has)))
        (λ ne.
        let later : k < turn_of m t (o r.turn) = omega (arith, r.from) in
        let has_turn : turn_of m t (o r.turn) < n = omega (arith, r.below) in
        absurd (no_room (inr (record {
          holder = o r.turn;
          holds = r.has;
          worse = worse-wide m w wide v vw p i (o r.turn) later has_turn;
        }))))
        (cases_eq k r.turn))
        (λ none_later. omega arith)
        (cases_lt (tally (at_turn other o) k p) (tally (at_turn other o) n p))

  -- ---- one round

  -- who holds p in the other placement takes p, where it has a seat left and the turn takes nothing
  -- better
  takes_too : (cuts : List ℕ) → KeepsOther cuts → (c p : ℕ) → TakesLeast cuts (kind_of m p) c
      → held_by other c ≡ Some p → seats_before m cuts (kind_of m p) c p < quota_of m p
      → tentative m cuts (kind_of m p) c ≡ Some p
  unfolding KeepsOther TakesLeast
  takes_too cuts keeps c p least holds room =
      let t = kind_of m p in
      let own = other-listed c p holds in
      let r =
      takes_by m cuts t c p
      (record {
        turn = other-turn c p holds;
        offered = offered-from m t c p refl (other-acceptable c p holds).admitted;
        kind = refl;
        listed = own;
        within = keeps c p holds;
        room = room;
      }) in
      let no_sooner = subst (HoldsAtLeast (list_of m c) (Some r.entry)) holds (least r.entry
      r.takes) in
      let same = place_same p r.entry (list_of m c) own (omega (arith, r.no_later)) in
      r.takes ∙ ap Some (sym same)

  -- a turn that takes p takes nothing preferred, if no earlier turn of the type does
  step : (cuts : List ℕ) → KeepsOther cuts → (i p : ℕ)
      → ((c : ℕ) → turn_of m (kind_of m p) c < turn_of m (kind_of m p) i
      → TakesLeast cuts (kind_of m p) c)
      → tentative m cuts (kind_of m p) i ≡ Some p
      → HoldsAtLeast (list_of m i) (Some p) (held_by other i)
  unfolding seats_before
  step cuts keeps i p before takes = by_held (held_by other i) refl
    where
      preferred-not : Prefers (list_of m i) p (held_by other i) → ⊥
      preferred-not preferred =
          let d = type_dictatorship m cuts (kind_of m p) in
          let k = turn_of m (kind_of m p) i in
          let o = candidate_of m (kind_of m p) in
          let x = tentative-takes m cuts (kind_of m p) i p takes in
          let seats = seats_taken-tally d k p in
          let wider = wide.quotas p in
          let acceptable : IsAcceptable m i p = record {
            listed = x.listed;
            admitted = offered-admits m (kind_of m p) i p x.offered;
          } in
          let full = all_held i p acceptable x.turn preferred in
          let holders = holders_before i p acceptable x.turn preferred in
          let gap = tally_gap (pick d) (at_turn other o) k p (omega (arith, x.room)) in
          let j = gap.turn in
          let has_turn : j < length (order_of m (kind_of m p)) = omega (arith, gap.before, x.turn)
          in
          let at = turn_at m v (kind_of m p) j (kind_lt m v (kind_of m p) j has_turn) has_turn in
          let earlier : turn_of m (kind_of m p) (o j) < k = omega (arith, gap.before) in
          let fewer = tally-mono (pick d) (turn_of m (kind_of m p) (o j)) k p (omega arith) in
          let seats_then = seats_taken-tally d (turn_of m (kind_of m p) (o j)) p in
          let too = takes_too cuts keeps (o j) p (before (o j) earlier) gap.has (omega (
            arith,
            x.room,
          )) in
          let own : turn_of m (kind_of m p) (o j) < length (order_of m (kind_of m p)) = omega arith
          in
          let took = ap (pick d) (sym at) ∙ sym (tentative-pick m cuts (kind_of m p) (o j) own)
          ∙ too in
          false≢true (sym gap.has_not ∙ is_programme-from p (pick d j) took)

      by_held : (h : Option ℕ) → held_by other i ≡ h
          → HoldsAtLeast (list_of m i) (Some p) (held_by other i)
      by_held None nothing =
          let x = tentative-takes m cuts (kind_of m p) i p takes in
          absurd (preferred-not (subst (Prefers (list_of m i) p) (sym nothing) x.listed))
      by_held (Some q) something =
          ⊎_elim
          (λ sooner.
          absurd (preferred-not
          (subst (Prefers (list_of m i) p) (sym something) (sooner, other-listed i q something))))
          (λ least. subst (HoldsAtLeast (list_of m i) (Some p)) (sym something) least)
          (cases_lt (place_of p (list_of m i)) (place_of q (list_of m i)))

  -- so no turn does
  all_least : (cuts : List ℕ) → KeepsOther cuts → (t n i : ℕ) → turn_of m t i < n
      → TakesLeast cuts t i
  unfolding TakesLeast
  all_least cuts keeps t zero i l p takes = absurd (omega arith)
  all_least cuts keeps t (suc n) i l p takes =
      let kind = (tentative-takes m cuts t i p takes).kind in
      step cuts keeps i p
      (λ c sooner.
      let before = subst (λ (u : ℕ). turn_of m u c < turn_of m u i) kind sooner in
      subst (λ (u : ℕ). TakesLeast cuts u c) (sym kind) (all_least cuts keeps t n c (omega arith)))
      (subst (λ (u : ℕ). tentative m cuts u i ≡ Some p) (sym kind) takes)

  takes-least : (cuts : List ℕ) → KeepsOther cuts → (t i : ℕ) → TakesLeast cuts t i
  takes-least cuts keeps t i = all_least cuts keeps t (suc (turn_of m t i)) i (omega arith)

  -- ---- all rounds

  -- no cut removes what the other placement gives
  keeps_other : (r : ℕ) → KeepsOther (cuts_after m r)
  unfolding KeepsOther TakesLeast
  keeps_other zero i q holds =
      let whole = cuts_after-zero m i in
      let listed = other-listed i q holds in
      omega arith
  keeps_other (suc r) i q holds =
      let cuts = cuts_after m r in
      let keeps = keeps_other r in
      let candidate = candidate_lt m i (place_of q (list_of m i)) (other-listed i q holds) in
      let cut = ap (λ (c : List ℕ). slice_index c i) (cuts_after-suc m r)
      ∙ next_cuts-at m cuts i candidate in
      ⊎_elim
      (λ several.
      let two = several-takes m cuts i several in
      let b = best_by m cuts two.first_kind i two.first two.takes_first in
      let behind = next_cut-several m cuts i several in
      let place = b.is_best.place in
      let least =
      subst (HoldsAtLeast (list_of m i) (Some b.best)) holds
      (takes-least cuts keeps (kind_of m b.best) i b.best b.is_best.takes) in
      omega arith)
      (λ not_several.
      let same = next_cut-same m cuts i not_several in
      let kept = keeps i q holds in
      omega arith)
      (cases_Bool (has_several m cuts i))

  -- so the mechanism's placement gives nobody more than the other placement does
  pub worst : GivesAtLeast m (mechanism_placement m) other
  unfolding mechanism_placement TakesLeast
  worst i = by_given (held_by (best_programmes m (cuts_after m (cutting_rounds m))) i) refl
    where
      by_given : (o : Option ℕ) → held_by (best_programmes m (cuts_after m (cutting_rounds m))) i ≡
          o
          → HoldsAtLeast (list_of m i) o (held_by other i)
      by_given None e = tt
      by_given (Some p) e =
          let last = cutting_rounds m in
          takes-least (cuts_after m last) (keeps_other last) (kind_of m p) i p
          (holder-takes m (cuts_after m last) i p e)

-- ---- the same market

-- a market is as wide as itself
same_width : (m : Problem) → Widens m m
same_width m =
    record {
      types = refl;
      lists = refl;
      orders = refl;
      ranks = refl;
      kinds = λ p. refl;
      bars = λ p. refl;
      quotas = λ p. omega arith;
    }

-- the mechanism's placement is stable, and no stable one gives a candidate less
pub worst_of_stable : (m : Problem) → IsValid m → IsWorstStable m (mechanism_placement m)
worst_of_stable m v =
    record { stable = stable m v; worst = λ other s. worst m m v v (same_width m) other s }
