-- The views of a desk's table: each is spent, or a seat of this desk.
use Rattle.std.proofs.Common.{◌≡◌, ◌⊎◌, ℕ, ◌<◌, None, Some, ap, inl, inr, ⊎_elim, arith}
use Rattle.registration_desk.specs.Clerks.{ClerkKnows, spent_clerk}
use Rattle.registration_desk.specs.Rule.{share_of, some_bit, hold_bit, IsClerk}
use Rattle.registration_desk.specs.declared.rule.DeskKey.{DeskKey}

-- where the bit of a holder is 0 no number is held
pub not_holding : (x : ClerkKnows) → hold_bit x ≡ 0 → (n : ℕ) → x.holds ≡ Some n → ⊥
not_holding x zero_bit n is = let e = ap some_bit is in absurd (omega arith)

-- and where none is held the bit is 0
pub is_none : (x : ClerkKnows) → x.holds ≡ None → hold_bit x ≡ 0
is_none x free = ap some_bit free

-- the bit of a holder
pub is_one : (x : ClerkKnows) (n : ℕ) → x.holds ≡ Some n → hold_bit x ≡ 1
is_one x n holds = ap some_bit holds

module _ (key : DeskKey) where
  -- a view is spent, or that of a clerk of this desk, where the word has this number
  abbrev pub Belongs : ℕ → ClerkKnows → Type 0
  Belongs number x = (x ≡ spent_clerk) ⊎ IsClerk key number x

  -- a seat with a share is not spent
  pub is_clerk : (number : ℕ) (x : ClerkKnows) → 0 < x.share → Belongs number x
      → IsClerk key number x
  is_clerk number x live either =
      ⊎_elim
      (λ (spent : x ≡ spent_clerk). absurd (let e = ap share_of spent in omega arith))
      (λ c. c)
      either

  -- a view that does not hold belongs to the desk also where the word has another number
  pub moved : (a b : ℕ) (x : ClerkKnows) → hold_bit x ≡ 0 → Belongs a x → Belongs b x
  moved a b x free either =
      ⊎_elim
      (λ (spent : x ≡ spent_clerk). inl spent)
      (λ (c : IsClerk key a x).
      inr record {
        some = c.some;
        same_seats = c.same_seats;
        same_requests = c.same_requests;
        same_clerks = c.same_clerks;
        held = λ n is. absurd (not_holding x free n is);
      })
      either
