-- Lists of seats: the last one taken away, or one put behind the others.
use Rattle.std.proofs.Common.{◌≡◌, ℕ, ◌+◌, ◌-◌, List, [], ◌∷◌, ◌++◌, length, take, refl, ap, ◌∙◌, arith}
use Rattle.std.specs.List.{sum_by}
use Rattle.std.proofs.lemmas.List.Sums.{sum_by-append, sum_by-cons}
use Rattle.interleaving_core.proofs.Places.{each_last, each_snoc}
use Rattle.word_rule.specs.Views.{SeatKnows}
use Rattle.word_rule.specs.Rule.{share_of, sealed_of, first_seat_of}
use Rattle.word_rule.specs.Rounds.{knows, key_of, shares_of, sealed_in, IsNew, AreNew, IsOver, AreOver}
use Rattle.word_rule.specs.declared.rule.RoundKey.{RoundKey}
use Rattle.word_rule.specs.declared.seat.SharedRound.{SharedRound}
use Rattle.word_rule.specs.declared.seat.WorkSeat.{WorkSeat}

-- the last of seats that are over, and the others
pub over_last : (round : SharedRound) (l xs : List WorkSeat) (m : WorkSeat) → l ≡ xs ++ m ∷ []
    → AreOver round l → IsOver round m × AreOver round xs
over_last round = each_last (λ _ me. IsOver round me)

module _ (f : WorkSeat → ℕ) where
  -- the sum of what they have
  pub sum_last : (l xs : List WorkSeat) (m : WorkSeat) → l ≡ xs ++ m ∷ []
      → sum_by f l ≡ f m + sum_by f xs
  sum_last l xs m is =
      let one = sum_by-cons f m [] in
      let both = sum_by-append f xs (m ∷ []) in
      let all = ap (λ z. sum_by f z) is in
      omega arith

  -- no seat is left
  pub sum_none : (l left : List WorkSeat) (n : ℕ) → l ≡ left ++ [] → n ≡ 0 → left ≡ take (n - 1) l
      → sum_by f l ≡ 0
  sum_none l left n is none rest =
      let empty : left ≡ [] = rest ∙ ap (λ (k : ℕ). take (k - 1) l) none in
      ap (λ z. sum_by f z) (is ∙ ap (λ (z : List WorkSeat). z ++ []) empty)

-- their shares
pub shares_last : (l xs : List WorkSeat) (m : WorkSeat) → l ≡ xs ++ m ∷ []
    → shares_of l ≡ (knows m).share + shares_of xs
shares_last = sum_last (λ me. share_of (knows me))

-- no share is left
pub shares_none : (l left : List WorkSeat) (n : ℕ) → l ≡ left ++ [] → n ≡ 0 → left ≡ take (n - 1) l
    → shares_of l ≡ 0
shares_none = sum_none (λ me. share_of (knows me))

-- how many turns they have committed
pub sealed_last : (l xs : List WorkSeat) (m : WorkSeat) → l ≡ xs ++ m ∷ []
    → sealed_in l ≡ (knows m).sealed + sealed_in xs
sealed_last = sum_last (λ me. sealed_of (knows me))

-- and none have, where no seat is left
pub sealed_none : (l left : List WorkSeat) (n : ℕ) → l ≡ left ++ [] → n ≡ 0 → left ≡ take (n - 1) l
    → sealed_in l ≡ 0
sealed_none = sum_none (λ me. sealed_of (knows me))

-- one more seat at the opening
pub new_snoc : (round : SharedRound) (l xs : List WorkSeat) (m : WorkSeat) → l ≡ xs ++ m ∷ []
    → AreNew round xs → IsNew round (length xs) m → AreNew round l
new_snoc round = each_snoc (IsNew round)

-- a seat of the opening with this number, and with this share of the workers
abbrev pub part : RoundKey → ℕ → ℕ → SeatKnows
part key number share = record (first_seat_of key) { number = number; share = share }

-- a seat that is one worker's part
pub new_part_of : (round : SharedRound) (worker n share : ℕ) (me : WorkSeat)
    → me.seat.table_id ≡ round.table.shared.table_id → knows me ≡ part (key_of round) n share
    → n ≡ worker → share ≡ 1 → IsNew round worker me
new_part_of round worker n share me table is number one = record {
  of_round = record {
    table = table;
    dict = ap (λ (x : SeatKnows). x.dict) is;
    workers = ap (λ (x : SeatKnows). x.workers) is;
  };
  fresh = ap (λ (x : SeatKnows). x.core) is;
  number = ap (λ (x : SeatKnows). x.number) is ∙ number;
  share = ap (λ (x : SeatKnows). x.share) is ∙ one;
  tries = ap (λ (x : SeatKnows). x.tries) is;
  missed = ap (λ (x : SeatKnows). x.missed) is;
  took = ap (λ (x : SeatKnows). x.took) is;
  released = ap (λ (x : SeatKnows). x.released) is;
  sealed = ap (λ (x : SeatKnows). x.sealed) is;
  flags = ap (λ (x : SeatKnows). x.flags) is;
}

-- one more seat
pub count_snoc : (l xs : List WorkSeat) (m : WorkSeat) → l ≡ xs ++ m ∷ [] → length l ≡ length xs + 1
count_snoc l xs m is = ap (λ z. length z) is ∙ one xs
  where
    one : (xs : List WorkSeat) → length (xs ++ m ∷ []) ≡ length xs + 1
    one [] = refl
    one (y ∷ ys) = omega (arith, one ys)
