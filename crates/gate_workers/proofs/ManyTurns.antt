-- Many turns with short lists are a valid dictatorship.
use Rattle.std.proofs.Common.{◌≡◌, ℕ, zero, suc, ◌+◌, ◌<◌, ◌≤◌, List, [], ◌∷◌, ◌++◌, length, length-append, Some, refl, ap, arith}
use Rattle.std.specs.Prelude.{slice_get, slice_index, slice_index_or}
use Rattle.std.proofs.lemmas.Option.{slice_get-get_or}
use Rattle.interleaving_core.proofs.Places.{each_snoc}
use Rattle.market.specs.Dictatorships.{IsValidDictatorship, dictatorship, list_at}
use Rattle.market.proofs.Checks.{dictatorship_fits, turn_lists_fit, dictatorship_valid_from}
use Rattle.market.proofs.Computes.{computes}

-- the list is short and of programmes below this number
pub record IsSmall (programmes : ℕ) (list : List ℕ) : Type 0 where
  pub short : length list ≤ 48
  pub below : (j : ℕ) → j < length list → slice_index list j < programmes

-- each of these lists is
abbrev pub AreSmall : ℕ → List (List ℕ) → Type 0
AreSmall programmes lists =
    (k : ℕ) (list : List ℕ) → slice_get lists k ≡ Some list → IsSmall programmes list

-- three programmes below this number are such a list
pub small_three : (programmes a b c : ℕ) → a < programmes → b < programmes → c < programmes
    → IsSmall programmes (a ∷ b ∷ c ∷ [])
small_three programmes a b c la lb lc = record { short = omega arith; below = at }
  where
    at : (j : ℕ) → j < 3 → slice_index (a ∷ b ∷ c ∷ []) j < programmes
    at zero l = la
    at (suc zero) l = lb
    at (suc (suc zero)) l = lc
    at (suc (suc (suc j))) l = absurd (omega arith)

-- one more
pub small_snoc : (programmes : ℕ) (l xs : List (List ℕ)) (m : List ℕ) → l ≡ xs ++ m ∷ []
    → AreSmall programmes xs → IsSmall programmes m → AreSmall programmes l
small_snoc programmes = each_snoc (λ _ list. IsSmall programmes list)

-- how many they are then
pub count_more : (l xs : List (List ℕ)) (m : List ℕ) → l ≡ xs ++ m ∷ []
    → length l ≡ length xs + 1
count_more l xs m is =
    let more = length-append xs (m ∷ []) in
    let all = ap (λ (z : List (List ℕ)). length z) is in
    omega arith

-- the seven programmes, of which no seat is taken, without a turn
pub seven_programmes_valid : IsValidDictatorship
    (dictatorship (28 ∷ 10 ∷ 6 ∷ 20 ∷ 4 ∷ 20 ∷ 3 ∷ []) (0 ∷ 0 ∷ 0 ∷ 0 ∷ 0 ∷ 0 ∷ 0 ∷ []) [])
unfolding computes dictatorship_fits turn_lists_fit
seven_programmes_valid = dictatorship_valid_from _ refl refl

-- a valid dictatorship without a turn stays valid with turns that have such lists
pub many_turns_valid : (quota fill : List ℕ) (lists : List (List ℕ))
    → IsValidDictatorship (dictatorship quota fill []) → length lists ≤ 3500000
    → AreSmall (length quota) lists → IsValidDictatorship (dictatorship quota fill lists)
unfolding list_at
many_turns_valid quota fill lists none few small =
    let at : (k : ℕ) → k < length lists
    → IsSmall (length quota) (slice_index_or lists k []) =
    λ k l. small k _ (slice_get-get_or lists k [] l) in
    record {
      fills = none.fills;
      programmes = none.programmes;
      turns = few;
      quotas = none.quotas;
      filled = none.filled;
      list_lengths = λ k l. (at k l).short;
      list_entries = λ k j l lj. (at k l).below j lj;
    }
