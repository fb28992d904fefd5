-- What the placement says of a candidate stands at the index at which its number is found.
use Rattle.std.proofs.Common.{◌≡◌, ℕ, zero, suc, ◌<◌, ◌≤◌, Bool, true, false, cond, [], ◌∷◌, length, get_or, nat_eq, nat_lt, Option, Some, None, sym, refl, ◌∙◌, arith}
use Rattle.std.specs.List.{position, position_or_len}
use Rattle.std.proofs.lemmas.Bool.{ltb-false, eqb-true}
use Rattle.std.proofs.lemmas.List.{length-map}
use Rattle.std.proofs.lemmas.List.Sums.{fails_before_first}
use Rattle.std.proofs.lemmas.List.Quantifiers.{position-Some}
use Rattle.placement_file.specs.SeatLists.{SeatRows, candidates_of, code_held}
use Rattle.registration_desk.specs.Seats.{seat_of}

module _ (candidate : ℕ) where
  at_first : (seats : SeatRows) (i : ℕ) → i < length seats
      → nat_eq candidate (get_or (candidates_of seats) i 0) ≡ true
      → ((k : ℕ) → k < i → nat_eq candidate (get_or (candidates_of seats) k 0) ≡ false)
      → seat_of seats candidate ≡ Some (code_held seats i)
  at_first [] i inside is before = absurd (omega arith)
  at_first (x ∷ xs) zero inside is before = rw is refl
  at_first (x ∷ xs) (suc i) inside is before =
      rw (before 0 (omega arith))
      (at_first xs i (omega arith) is (λ k l. before (suc k) (omega arith)))

  -- a candidate that was found
  pub found : (seats : SeatRows) (i : ℕ) → position (nat_eq candidate) (candidates_of seats)
      ≡ Some i
      → (i < length seats) × (seat_of seats candidate ≡ Some (code_held seats i))
  found seats i is =
      let p = position-Some (nat_eq candidate) (candidates_of seats) i 0 is in
      let long = length-map seats (λ (row : ℕ × Option ℕ). row.0) in
      let within = p.0 in
      let inside : i < length seats = omega arith in
      (inside, at_first seats i inside p.1 p.2)

  nowhere : (seats : SeatRows)
      → ((k : ℕ) → k < length seats → nat_eq candidate (get_or (candidates_of seats) k 0) ≡ false)
      → seat_of seats candidate ≡ None
  nowhere [] none = refl
  nowhere (x ∷ xs) none = rw (none 0 (omega arith)) (nowhere xs (λ k l. none (suc k) (omega arith)))

  -- a candidate that was not found
  pub missing : (seats : SeatRows) → position (nat_eq candidate) (candidates_of seats) ≡ None
      → seat_of seats candidate ≡ None
  missing seats is =
      nowhere seats (λ k l.
      fails_before_first (nat_eq candidate) (candidates_of seats) k 0
      (let far =
      past (nat_lt (position_or_len (nat_eq candidate) (candidates_of seats))
      (length (candidates_of seats))) refl is in
      let long = length-map seats (λ (row : ℕ × Option ℕ). row.0) in
      omega arith))
    where
      past : (within : Bool)
          → nat_lt (position_or_len (nat_eq candidate) (candidates_of seats))
          (length (candidates_of seats)) ≡ within
          → cond within (Some (position_or_len (nat_eq candidate) (candidates_of seats))) None
          ≡ None
          → length (candidates_of seats) ≤ position_or_len (nat_eq candidate) (candidates_of seats)
      past true e h = absurd (cc (h))
      past false e h = ltb-false _ _ e

-- candidates that are found at one index are one candidate
pub same_candidate : (seats : SeatRows) (a b i : ℕ)
    → position (nat_eq a) (candidates_of seats) ≡ Some i
    → position (nat_eq b) (candidates_of seats) ≡ Some i → a ≡ b
same_candidate seats a b i p q =
    let x = (position-Some (nat_eq a) (candidates_of seats) i 0 p).1 in
    let y = (position-Some (nat_eq b) (candidates_of seats) i 0 q).1 in
    eqb-true a _ x ∙ sym (eqb-true b _ y)
