-- A table meets the rule at its opening; and at its end, where one seat has every share, the slot
-- is at home with as many replies as that seat served.
use Rattle.std.proofs.Common.{◌≡◌, ◌≢◌, ℕ, zero, suc, ◌+◌, ◌<◌, ◌≤◌, List, [], ◌∷◌, length, set, Option, None, Some, sym, refl, ap, subst, inr, ⊎_elim, ◌∙◌, arith}
use Rattle.std.specs.List.{sum_by}
use Rattle.place_base.specs.declared.limits.TheConstants.{MOST_REQUESTS}
use mathlib.Core.Option.{some, some-injective, some-ne-none}
use lib.ListN.{get_elem?}
use Rattle.atomic_table.specs.Table.{Seen, Final, opening}
use Rattle.atomic_table.proofs.Lists.{at_set}
use Rattle.registration_desk.specs.declared.reply.Reply.{Reply}
use Rattle.registration_desk.specs.States.{DeskValue}
use Rattle.registration_desk.specs.Clerks.{ClerkKnows, spent_clerk}
use Rattle.registration_desk.specs.Rule.{DeskTable, share_of, left_of, served_of, hold_bit, served_number, HasReplies, IsClerk, IsOrderly, first_clerk_of}
use Rattle.registration_desk.specs.declared.rule.DeskKey.{DeskKey}
use Rattle.registration_desk.proofs.Views.{sum_set, terms_le, sum_zero}
use Rattle.registration_desk.proofs.Belonging.{is_none, Belongs}

module _ (key : DeskKey) where
  -- the table at the opening
  pub desk_opens : (words : List ℕ) (slots : List (Option DeskValue)) (state : DeskValue)
      → words ≡ 0 ∷ [] → slots ≡ Some state ∷ [] → state ≡ key.desk.value → state.history ≡ []
      → length state.requests ≤ MOST_REQUESTS → 0 < key.clerks
      → IsOrderly key (opening words slots (first_clerk_of key))
  desk_opens words slots state first filled same empty few staffed =
      subst (λ (z : List ℕ × List (Option DeskValue)). IsOrderly key
      (opening z.0 z.1 (first_clerk_of key)))
      (λ k. (sym first k, sym filled k))
      record {
        few = let r = ap (λ (d : DeskValue). length d.requests) same in omega arith;
        wide = refl;
        each = λ i z is. one i z is;
        shares = omega arith;
        served = refl;
        all = omega arith;
        holders = refl;
        home = λ none_held.
            record {
              state = state;
              there = refl;
              fits =
                  record {
                    same_seats = ap (λ (d : DeskValue). d.seats) same;
                    same_requests = ap (λ (d : DeskValue). d.requests) same;
                    count = ap (λ (l : List Reply). length l) empty;
                  };
            };
      }
    where
      one : (i : ℕ) (z : ClerkKnows) → get_elem? (first_clerk_of key ∷ []) i ≡ some z
          → Belongs key 0 z
      one zero z is =
          let same : first_clerk_of key ≡ z = some-injective _ z is in
          subst (Belongs key 0) same
          (inr record {
            some = staffed;
            same_seats = refl;
            same_requests = refl;
            same_clerks = refl;
            held = λ n e. absurd (cc (e));
          })
      one (suc i) z is = absurd (some-ne-none z (sym is))

-- what the last seat of a desk finds: the slot is at home, its state has as many replies as the
-- seats served together, and these with the requests left are all requests
pub record DeskEnd (key : DeskKey) (x : ClerkKnows) (slots : List (Option DeskValue)) : Type 0 where
  pub state : DeskValue
  pub there : get_elem? slots 0 ≡ some (Some state)
  pub fits : HasReplies key.desk.value.seats key.desk.value.requests x.served state
  pub all : x.served + x.left ≡ length key.desk.value.requests

module _ (key : DeskKey) (s : DeskTable) (h : IsOrderly key s) (id : ℕ) (x : ClerkKnows) where
  -- a seat with every share has no other beside it that is not spent
  others_spent : get_elem? s.views id ≡ some x → 0 < x.share → x.share ≡ key.clerks
      → (i : ℕ) (z : ClerkKnows)
      → i ≢ id → get_elem? s.views i ≡ some z → z ≡ spent_clerk
  others_spent here live every i z other at_z =
      let two = terms_le share_of s.views id i x z refl other here at_z in
      let all = h.shares in
      ⊎_elim
      (λ (spent : z ≡ spent_clerk). spent)
      (λ (c : IsClerk key (served_number s.words) z). absurd (let l = c.some in omega arith))
      (h.each i z at_z)

  -- so a sum over the views is its own number
  alone : (g : ClerkKnows → ℕ) → g spent_clerk ≡ 0 → get_elem? s.views id ≡ some x → 0 < x.share
      → x.share ≡ key.clerks → sum_by g s.views ≡ g x
  alone g nothing here live every =
      let without = sum_set g s.views id x spent_clerk here in
      let rest_zero = sum_zero g (set s.views id spent_clerk) (λ i z is.
      ⊎_elim
      (λ (t : (i ≡ id) × (spent_clerk ≡ z)). ap g (sym t.1) ∙ nothing)
      (λ (t : (i ≢ id) × (get_elem? s.views i ≡ some z)).
      ap g (others_spent here live every i z t.0 t.1) ∙ nothing)
      (at_set s.views id i spent_clerk z is)) in
      omega arith

-- the end of a desk, by a seat with every share that does not hold the slot
pub desk_ends : (key : DeskKey) (id : ℕ) (x : ClerkKnows) (words : List ℕ)
    (slots : List (Option DeskValue))
    → Final (Seen (IsOrderly key) id x) words slots → 0 < x.share → x.share ≡ key.clerks → x.holds
    ≡ None
    → DeskEnd key x slots
desk_ends key id x words slots f live every free =
    let s = f.0 in
    let h = f.1.0 in
    let here = f.1.1 in
    let held = alone key s h id x hold_bit refl here live every in
    let served = alone key s h id x served_of refl here live every in
    let left = alone key s h id x left_of refl here live every in
    let none_held = is_none x free in
    let was_holders = h.holders in
    let was_served = h.served in
    let was_all = h.all in
    let home = h.home (omega arith) in
    record {
      state = home.state;
      there = f.4 0 (Some home.state) home.there;
      fits =
          record {
            same_seats = home.fits.same_seats;
            same_requests = home.fits.same_requests;
            count = let n = home.fits.count in omega arith;
          };
      all = omega arith;
    }

-- what was taken out of the closed table is that state
pub record IsClosed (key : DeskKey) (x : ClerkKnows) (taken : Option DeskValue) : Type 0 where
  pub state : DeskValue
  pub is : taken ≡ Some state
  pub fits : HasReplies key.desk.value.seats key.desk.value.requests x.served state
  pub all : x.served + x.left ≡ length key.desk.value.requests

-- it is so for a seat that has every share and does not hold the slot
pub desk_closed : (key : DeskKey) (id : ℕ) (x : ClerkKnows) (words : List ℕ)
    (slots : List (Option DeskValue))
    (taken : Option DeskValue) → Final (Seen (IsOrderly key) id x) words slots → 0 < x.share
    → x.share ≡ key.clerks → x.holds ≡ None → get_elem? slots 0 ≡ some taken → IsClosed key x taken
desk_closed key id x words slots taken f live every free at =
    let e = desk_ends key id x words slots f live every free in
    record {
      state = e.state;
      is = some-injective taken (Some e.state) (sym at ∙ e.there);
      fits = e.fits;
      all = e.all;
    }
