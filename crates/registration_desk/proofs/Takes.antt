-- A try to take the slot keeps the rule.
use Rattle.std.proofs.Common.{◌≡◌, ◌≢◌, ℕ, ◌/◌, ◌%◌, ◌<◌, Bool, true, false, List, ◌∷◌, length, set, get_or, bit_or, Option, None, Some, MatchBool, sym, refl, ap, subst, inr, ⊎_elim, ◌∙◌, arith, length-set}
use Rattle.std.proofs.lemmas.List.{set-get_or}
use mathlib.Core.Option.{some}
use lib.ListN.{get_elem?}
use Rattle.atomic_table.specs.Table.{Act, Valid, stepped, carried_after, keeps, takes, Allows}
use Rattle.atomic_table.proofs.Lists.{at_set, set_again}
use Rattle.registration_desk.specs.States.{DeskValue}
use Rattle.registration_desk.specs.Clerks.{ClerkKnows, holding}
use Rattle.registration_desk.specs.Rule.{DeskTable, share_of, left_of, served_of, hold_bit, served_number, held_bit, IsOrderly}
use Rattle.registration_desk.specs.Steps.{ClerkMe, is_odd, HasTakenSlot, TakeTold}
use Rattle.registration_desk.specs.declared.rule.DeskKey.{DeskKey}
use Rattle.registration_desk.proofs.Views.{sum_set, term_le}
use Rattle.registration_desk.proofs.LockWord.{or_one, or_odd, odd_word, even_word, word_now}
use Rattle.registration_desk.proofs.Belonging.{is_none, Belongs, is_clerk}

module _ (key : DeskKey) where
  -- the seat can take the slot, or leave all as it is
  abbrev CanTry : ℕ → ClerkMe → DeskTable → Type 0
  CanTry id me s = (w : ClerkKnows) × (a : Act (Option DeskValue)) × Valid s.homes me.1 a
      × IsOrderly key (stepped s 0 (bit_or (get_or s.words 0 0) 1) id me.1 w a)
      × TakeTold me (get_or s.words 0 0) (w, carried_after me.1 a)

  try_by : (id : ℕ) (me : ClerkMe) (s : DeskTable) → IsOrderly key s
      → get_elem? s.views id ≡ some me.0 → 0 < me.0.share → 0 < me.0.left → me.0.holds ≡ None
      → (b : Bool) → is_odd (get_or s.words 0 0) ≡ b → CanTry id me s
  try_by id me s h at live left free true odd =
      let x : ClerkKnows = me.0 in
      let found = get_or s.words 0 0 in
      let same_words : set s.words 0 (bit_or found 1) ≡ s.words =
      ap (set s.words 0) (or_odd found (odd_word found odd)) ∙ set-get_or s.words 0 0 in
      let same_views : set s.views id x ≡ s.views = set_again s.views id x at in (
        x,
        keeps,
        tt,
        subst (IsOrderly key)
            (λ k. record { words = sym same_words k; homes = s.homes; views = sym same_views k }) h,
        subst (λ (b : Bool). MatchBool b (me ≡ me) (HasTakenSlot me (found / 2) me)) (sym odd) refl,
      )
  try_by id me s h at live left free false odd =
      let x : ClerkKnows = me.0 in
      let found = get_or s.words 0 0 in
      let even = even_word found odd in
      let y = holding x (found / 2) in
      let word = bit_or found 1 in
      let now = word_now s.words word h.wide in
      let half : served_number (set s.words 0 word) ≡ served_number s.words =
      ap (λ (z : ℕ). z / 2) now ∙ (or_one found).0 in
      let bit : held_bit (set s.words 0 word) ≡ 1 = ap (λ (z : ℕ). z % 2) now ∙ (or_one found).1 in
      let home = h.home even in
      let c = is_clerk key (served_number s.words) x live (h.each id x at) in
      let shares = sum_set share_of s.views id x y at in
      let served = sum_set served_of s.views id x y at in
      let lefts = sum_set left_of s.views id x y at in
      let holds = sum_set hold_bit s.views id x y at in
      let was_free = is_none x free in
      let was_shares = h.shares in
      let was_served = h.served in
      let was_all = h.all in
      let was_holders = h.holders in
      let mine = term_le left_of s.views id x at in (
        y,
        takes 0 (Some home.state),
        home.there,
        record {
          few = h.few;
          wide = length-set s.words 0 word ∙ h.wide;
          each = λ i z is.
              ⊎_elim
              (λ (t : (i ≡ id) × (y ≡ z)).
              subst (Belongs key (served_number (set s.words 0 word))) t.1
              (inr record {
                some = c.some;
                same_seats = c.same_seats;
                same_requests = c.same_requests;
                same_clerks = c.same_clerks;
                held = λ n e. (let q : found / 2 ≡ n = cc (e) in sym q ∙ sym half, left);
              }))
              (λ (t : (i ≢ id) × (get_elem? s.views i ≡ some z)).
              subst (λ (n : ℕ). Belongs key n z) (sym half) (h.each i z t.1))
              (at_set s.views id i y z is);
          shares = omega arith;
          served = omega arith;
          all = omega arith;
          holders = omega arith;
          home = λ none_held. absurd (omega arith);
        },
        subst (λ (b : Bool). MatchBool b ((y, (0, Some home.state) ∷ me.1) ≡ me)
            (HasTakenSlot me (found / 2) (y, (0, Some home.state) ∷ me.1))) (sym odd)
            record {
              state = home.state;
              seat = refl;
              fits =
                  record {
                    same_seats = home.fits.same_seats ∙ sym c.same_seats;
                    same_requests = home.fits.same_requests ∙ sym c.same_requests;
                    count = home.fits.count;
                  };
              next = let r = ap (λ (l : List ℕ). length l) c.same_requests in omega arith;
            },
      )

  -- a try to take the slot
  pub take_allowed : (slots id : ℕ) (me : ClerkMe) → 0 < me.0.share
      → 0 < me.0.left → me.0.holds ≡ None
      → Allows (IsOrderly key) slots id me 0 (λ n. bit_or n 1) (TakeTold me)
  take_allowed slots id me live left free s h homes at fits =
      try_by id me s h at live left free (is_odd (get_or s.words 0 0)) refl
