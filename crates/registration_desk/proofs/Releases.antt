-- The release of the slot keeps the rule.
use Rattle.std.proofs.Common.{◌≡◌, ◌≢◌, ℕ, ◌+◌, ◌*◌, ◌/◌, ◌%◌, ◌<◌, List, [], ◌∷◌, set, Option, Some, sym, refl, ap, subst, inr, ⊎_elim, ◌∙◌, arith, length-set}
use mathlib.Core.Option.{some}
use lib.ListN.{get_elem?}
use Rattle.atomic_table.specs.Table.{gives, put_back, Allows}
use Rattle.atomic_table.proofs.Lists.{at_set, set_here}
use Rattle.registration_desk.specs.States.{DeskValue}
use Rattle.registration_desk.specs.Clerks.{ClerkKnows, released}
use Rattle.registration_desk.specs.Rule.{share_of, left_of, served_of, hold_bit, served_number, held_bit, HasReplies, IsOrderly}
use Rattle.registration_desk.specs.Steps.{ClerkMe, ReleaseTold}
use Rattle.registration_desk.specs.declared.rule.DeskKey.{DeskKey}
use Rattle.registration_desk.proofs.Views.{sum_set, term_le, terms_le}
use Rattle.registration_desk.proofs.LockWord.{word_now}
use Rattle.registration_desk.proofs.Belonging.{is_one, Belongs, is_clerk, moved}

module _ (key : DeskKey) where
  -- a release
  pub release_allowed : (slots id : ℕ) (me : ClerkMe) (number word : ℕ)
      (state : DeskValue) → slots ≡ 1 → 0 < me.0.share → me.0.holds ≡ Some number
      → me.1 ≡ (0, Some state) ∷ [] → HasReplies me.0.seats me.0.requests (number + 1) state
      → word ≡ 2 * (number + 1)
      → Allows (IsOrderly key) slots id me 0 (λ _. word) (λ _. ReleaseTold me)
  release_allowed slots id me number word state one live hold carried replies is s h homes at fits =
      let x : ClerkKnows = me.0 in
      let y = released x in
      let c = is_clerk key (served_number s.words) x live (h.each id x at) in
      let mine = c.held number hold in
      let at_number = mine.0 in
      let some_left = mine.1 in
      let now = word_now s.words word h.wide in
      let half : served_number (set s.words 0 word) ≡ number + 1 =
      ap (λ (z : ℕ). z / 2) now ∙ (let e : word / 2 ≡ number + 1 = omega arith in e) in
      let bit : held_bit (set s.words 0 word) ≡ 0 =
      ap (λ (z : ℕ). z % 2) now ∙ (let e : word % 2 ≡ 0 = omega arith in e) in
      let shares = sum_set share_of s.views id x y at in
      let served = sum_set served_of s.views id x y at in
      let lefts = sum_set left_of s.views id x y at in
      let holds = sum_set hold_bit s.views id x y at in
      let was_one = is_one x number hold in
      let was_shares = h.shares in
      let was_served = h.served in
      let was_all = h.all in
      let was_holders = h.holders in
      let bit_one = term_le hold_bit s.views id x at in
      let low : held_bit s.words < 2 = omega arith in
      let there_now : get_elem? (set s.homes 0 (some (Some state))) 0 ≡ some (some (Some state)) =
      set_here s.homes 0 (some (Some state)) (omega arith) in
      let homes_now : put_back s.homes me.1
      ≡ set s.homes 0 (some (Some state)) = ap (put_back s.homes) carried in (
        y,
        gives,
        tt,
        record {
          few = h.few;
          wide = length-set s.words 0 word ∙ h.wide;
          each = λ i z at_z.
              ⊎_elim
              (λ (t : (i ≡ id) × (y ≡ z)).
              subst (Belongs key (served_number (set s.words 0 word))) t.1
              (inr record {
                some = c.some;
                same_seats = c.same_seats;
                same_requests = c.same_requests;
                same_clerks = c.same_clerks;
                held = λ n e. absurd (cc (e));
              }))
              (λ (t : (i ≢ id) × (get_elem? s.views i ≡ some z)).
              moved key (served_number s.words) (served_number (set s.words 0 word)) z
              (let two = terms_le hold_bit s.views id i x z refl t.0 at t.1 in omega arith)
              (h.each i z t.1))
              (at_set s.views id i y z at_z);
          shares = omega arith;
          served = omega arith;
          all = omega arith;
          holders = omega arith;
          home = λ none_held.
              record {
                state = state;
                there = ap
                    (λ (l : List (mathlib.Core.Option.Option (Option DeskValue))). get_elem? l 0)
                    homes_now ∙ there_now;
                fits =
                    record {
                      same_seats = replies.same_seats ∙ c.same_seats;
                      same_requests = replies.same_requests ∙ c.same_requests;
                      count = replies.count ∙ sym half;
                    };
              };
        },
        refl,
      )
