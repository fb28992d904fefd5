-- Seats that are split and joined keep the rule.
use Rattle.std.proofs.Common.{◌≡◌, ◌≢◌, ℕ, ◌+◌, ◌<◌, ◌≤◌, List, [], ◌∷◌, ◌++◌, set, None, sym, refl, subst, inl, inr, ⊎_elim, ◌∙◌, arith}
use Rattle.std.specs.List.{sum_by}
use Rattle.std.proofs.lemmas.List.Sums.{sum_by-append, sum_by-cons}
use mathlib.Core.Option.{some}
use lib.ListN.{get_elem?}
use Rattle.atomic_table.specs.Table.{Splits, Joins}
use Rattle.atomic_table.proofs.Lists.{at_set, at_snoc}
use Rattle.registration_desk.specs.Clerks.{ClerkKnows, spent_clerk, next_part, kept_part, new_part, joined}
use Rattle.registration_desk.specs.Rule.{share_of, left_of, served_of, hold_bit, served_number, IsOrderly}
use Rattle.registration_desk.specs.declared.rule.DeskKey.{DeskKey}
use Rattle.registration_desk.proofs.Views.{sum_set}
use Rattle.registration_desk.proofs.Belonging.{not_holding, is_none, Belongs, is_clerk}

module _ (key : DeskKey) where
  -- a seat that does not hold may be split, where its part is at most what it has left
  pub split_keeps : (id : ℕ) (x : ClerkKnows) → 1 < x.share → x.holds ≡ None → next_part x ≤ x.left
      → Splits (IsOrderly key) id x (kept_part x) (new_part x)
  split_keeps id x more free part s h at =
      let left = kept_part x in
      let right = new_part x in
      let c = is_clerk key (served_number s.words) x (omega arith) (h.each id x at) in
      let sums : (g : ClerkKnows → ℕ) → sum_by g (set s.views id left ++ right ∷ []) + g x
      ≡ sum_by g s.views + (g left + g right) =
      λ g.
      let a = sum_by-append g (set s.views id left) (right ∷ []) in
      let b = sum_by-cons g right [] in
      let e = sum_set g s.views id x left at in
      omega arith in
      let shares = sums share_of in
      let served = sums served_of in
      let lefts = sums left_of in
      let holds = sums hold_bit in
      let was_free = is_none x free in
      let was_shares = h.shares in
      let was_served = h.served in
      let was_all = h.all in
      let was_holders = h.holders in
      let of_part : (z : ClerkKnows) → 1 ≤ z.share → z.holds ≡ None → z.seats ≡ x.seats → z.requests
      ≡ x.requests
      → z.clerks ≡ x.clerks → Belongs key (served_number s.words) z =
      λ z live none_held e f g.
      inr record {
        some = live;
        same_seats = e ∙ c.same_seats;
        same_requests = f ∙ c.same_requests;
        same_clerks = g ∙ c.same_clerks;
        held = λ n is. absurd (not_holding z (is_none z none_held) n is);
      } in
      record {
        few = h.few;
        wide = h.wide;
        each = λ i z is.
            ⊎_elim
            (λ (p : get_elem? (set s.views id left) i ≡ some z).
            ⊎_elim
            (λ (t : (i ≡ id) × (left ≡ z)).
            subst (Belongs key (served_number s.words)) t.1
            (of_part left (omega arith) free refl refl refl))
            (λ (t : (i ≢ id) × (get_elem? s.views i ≡ some z)). h.each i z t.1)
            (at_set s.views id i left z p))
            (λ (p : right ≡ z).
            subst (Belongs key (served_number s.words)) p
            (of_part right (omega arith) free refl refl refl))
            (at_snoc (set s.views id left) right z i is);
        shares = omega arith;
        served = omega arith;
        all = omega arith;
        holders = omega arith;
        home = h.home;
      }

  -- seats that do not hold may be joined
  pub join_keeps : (id : ℕ) (x : ClerkKnows) (other : ℕ) (y : ClerkKnows) → 0 < x.share → x.holds
      ≡ None
      → y.holds ≡ None → Joins (IsOrderly key) id x other y (joined x y) spent_clerk
  join_keeps id x other y live free other_free s h at apart at_other =
      let both = joined x y in
      let mid : List ClerkKnows = set s.views id both in
      let c = is_clerk key (served_number s.words) x live (h.each id x at) in
      let sums : (g : ClerkKnows → ℕ) → sum_by g (set mid other spent_clerk) + (g x + g y)
      ≡ sum_by g s.views + (g both + g spent_clerk) =
      λ g.
      let a = sum_set g mid other y spent_clerk at_other in
      let e = sum_set g s.views id x both at in
      omega arith in
      let shares = sums share_of in
      let served = sums served_of in
      let lefts = sums left_of in
      let holds = sums hold_bit in
      let was_free = is_none x free in
      let was_other_free = is_none y other_free in
      let was_shares = h.shares in
      let was_served = h.served in
      let was_all = h.all in
      let was_holders = h.holders in
      record {
        few = h.few;
        wide = h.wide;
        each = λ i z is.
            ⊎_elim
            (λ (t : (i ≡ other) × (spent_clerk ≡ z)). inl (sym t.1))
            (λ (t : (i ≢ other) × (get_elem? mid i ≡ some z)).
            ⊎_elim
            (λ (u : (i ≡ id) × (both ≡ z)).
            subst (Belongs key (served_number s.words)) u.1
            (inr record {
              some = omega arith;
              same_seats = c.same_seats;
              same_requests = c.same_requests;
              same_clerks = c.same_clerks;
              held = λ n e. absurd (not_holding x was_free n e);
            }))
            (λ (u : (i ≢ id) × (get_elem? s.views i ≡ some z)). h.each i z u.1)
            (at_set s.views id i both z t.1))
            (at_set mid other i spent_clerk z is);
        shares = omega arith;
        served = omega arith;
        all = omega arith;
        holders = omega arith;
        home = h.home;
      }
