-- The lists of a market become lists over offers, one candidate after the other.
use Rattle.std.proofs.Common.{◌≡◌, ℕ, ◌+◌, ◌<◌, ◌≤◌, Bool, true, false, List, [], length, set, sym, ap, ◌∙◌, arith, subst, ⊎_elim}
use Rattle.std.specs.Prelude.{slice_index_or}
use Rattle.std.proofs.lemmas.Bool.{cases_lt}
use Rattle.std.proofs.lemmas.List.{get_or-set_same, get_or-set_other}
use Rattle.std.proofs.lemmas.List.FromFn.{fill_by_all}
use Rattle.reserved_seats.specs.Reservations.{is_marked}
use Rattle.reserved_seats.specs.Expansion.{offered_list, offered_lists}
use Rattle.reserved_seats.proofs.OfferedLists.{offered-unmarked}

-- the lists of the first k candidates are over offers, and the others are as they were
pub record AreOffered (rows : ℕ) (marked : List Bool) (old : List (List ℕ)) (k : ℕ)
    (lists : List (List ℕ)) : Type 0 where
  pub done : (i : ℕ) → i < k
      → slice_index_or lists i [] ≡ offered_list rows (is_marked marked i) (slice_index_or old i [])
  pub rest : (i : ℕ) → k ≤ i → slice_index_or lists i [] ≡ slice_index_or old i []

module _ (rows : ℕ) (marked : List Bool) (old : List (List ℕ)) (k : ℕ) (lists : List (List ℕ))
    (so_far : AreOffered rows marked old k lists) where
  -- the next candidate is marked
  pub AreOffered-marked : (list : List ℕ) → k < length lists → is_marked marked k ≡ true
      → list ≡ offered_list rows true (slice_index_or lists k [])
      → AreOffered rows marked old (k + 1) (set lists k list)
  AreOffered-marked list lt is list_is =
      let here : slice_index_or (set lists k list) k []
      ≡ offered_list rows (is_marked marked k) (slice_index_or old k []) =
      get_or-set_same lists k list [] lt ∙ list_is
      ∙ ap (offered_list rows true) (so_far.rest k (omega arith))
      ∙ ap (λ b. offered_list rows b (slice_index_or old k [])) (sym is) in
      record {
        done = λ i below. ⊎_elim
            (λ (earlier : i < k).
            get_or-set_other lists k i list [] (λ e. omega arith) ∙ so_far.done i earlier)
            (λ (last : k ≤ i).
            let same : k ≡ i = omega arith in
            subst (λ j. slice_index_or (set lists k list) j []
            ≡ offered_list rows (is_marked marked j) (slice_index_or old j [])) same here)
            (cases_lt i k);
        rest = λ i above.
            get_or-set_other lists k i list [] (λ e. omega arith) ∙ so_far.rest i (omega arith);
      }

  -- or not
  pub AreOffered-unmarked : is_marked marked k ≡ false → AreOffered rows marked old (k + 1) lists
  AreOffered-unmarked is =
      let here : slice_index_or lists k []
      ≡ offered_list rows (is_marked marked k) (slice_index_or old k []) =
      so_far.rest k (omega arith) ∙ sym (offered-unmarked rows (slice_index_or old k []))
      ∙ ap (λ b. offered_list rows b (slice_index_or old k [])) (sym is) in
      record {
        done = λ i below. ⊎_elim
            (λ (earlier : i < k). so_far.done i earlier)
            (λ (last : k ≤ i).
            let same : k ≡ i = omega arith in
            subst (λ j. slice_index_or lists j []
            ≡ offered_list rows (is_marked marked j) (slice_index_or old j [])) same here)
            (cases_lt i k);
        rest = λ i above. so_far.rest i (omega arith);
      }

  -- after the last candidate all are
  pub AreOffered-all : k ≡ length old → length lists ≡ length old
      → lists ≡ offered_lists rows marked old
  AreOffered-all last size =
      fill_by_all (λ i. offered_list rows (is_marked marked i) (slice_index_or old i [])) lists
      (length old) [] size (λ i lt. so_far.done i (omega arith))
