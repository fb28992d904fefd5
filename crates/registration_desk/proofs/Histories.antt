-- A history that grows by the next reply is one of the desk of one thread, and each candidate is
-- registered in it at most once.
use Rattle.std.proofs.Common.{◌≡◌, ◌≢◌, ◌⊎◌, ℕ, zero, suc, ◌<◌, ◌≤◌, false, List, [], ◌∷◌, ◌++◌, length, take, Some, sym, refl, ap, subst, ◌∙◌, inl, inr, ⊎_elim, arith}
use Rattle.std.specs.Prelude.{slice_get}
use Rattle.std.proofs.lemmas.Bool.{cases_order}
use Rattle.std.proofs.lemmas.List.{take-append-le}
use Rattle.std.proofs.lemmas.Option.{slice_get_within}
use Rattle.registration_desk.specs.declared.reply.Reply.{Reply}
use Rattle.registration_desk.specs.declared.reply.Reply.TheVariants.{Registered}
use Rattle.placement_file.specs.SeatLists.{SeatRows}
use Rattle.registration_desk.specs.Replies.{is_registration, WasRegistered, IsReply, IsHistory, IsPlaced, IsOnceEach, IsOnlyPlaced}
use Rattle.registration_desk.specs.States.{NumberFits}
use Rattle.registration_desk.proofs.Pushes.{at_snoc, at_longer}

module _ (requests : List ℕ) (history : List Reply) (reply : Reply) where
  -- a registration stays one
  pub was_more : (candidate number : ℕ) → WasRegistered requests history candidate number
      → WasRegistered requests (history ++ reply ∷ []) candidate number
  was_more candidate number was =
      record {
        place = was.place;
        request = was.request;
        reply = at_longer history (reply ∷ []) was.place (Registered number) was.reply;
      }

  -- a registration is an old one, or the last reply
  was_either : (candidate number : ℕ)
      → WasRegistered requests (history ++ reply ∷ []) candidate number
      → WasRegistered requests history candidate number
      ⊎ ((slice_get requests (length history) ≡ Some candidate) × (reply ≡ Registered number))
  was_either candidate number was =
      ⊎_elim
      (λ old. inl record { place = was.place; request = was.request; reply = old })
      (λ last. inr (ap (slice_get requests) (sym last.0) ∙ was.request, last.1))
      (at_snoc history reply (Registered number) was.place was.reply)

  -- it is an old one where the last reply is none
  pub was_plain : (candidate number : ℕ) → is_registration reply ≡ false
      → WasRegistered requests (history ++ reply ∷ []) candidate number
      → WasRegistered requests history candidate number
  was_plain candidate number plain was =
      ⊎_elim (λ old. old)
      (λ last. absurd (let e = ap is_registration last.1 in cc (e, plain)))
      (was_either candidate number was)

  -- it is an old one where the last reply is to another candidate
  pub was_other : (candidate number next : ℕ) → slice_get requests (length history) ≡ Some next
      → candidate ≢ next → WasRegistered requests (history ++ reply ∷ []) candidate number
      → WasRegistered requests history candidate number
  was_other candidate number next at other was =
      ⊎_elim (λ old. old)
      (λ last. absurd (other (let e = last.0 in cc (e, at))))
      (was_either candidate number was)

  -- a number kept fits still, where no registration of its candidate was added
  pub fits_more : (candidate number : ℕ) → NumberFits requests history candidate number
      → ((n : ℕ) → WasRegistered requests (history ++ reply ∷ []) candidate n
      → WasRegistered requests history candidate n)
      → NumberFits requests (history ++ reply ∷ []) candidate number
  fits_more candidate zero none old = λ n was. none n (old n was)
  fits_more candidate (suc n) was old = was_more candidate (suc n) was

-- a number of a registration fits
pub fits_now : (requests : List ℕ) (history : List Reply) (candidate number : ℕ) → 0 < number
    → WasRegistered requests history candidate number → NumberFits requests history candidate number
fits_now requests history candidate zero some was = absurd (omega arith)
fits_now requests history candidate (suc n) some was = was

module _ (seats : SeatRows) (requests : List ℕ) where
  -- the history with the next reply
  pub history_more : (history : List Reply) (reply : Reply) (candidate : ℕ)
      → IsHistory seats requests history → slice_get requests (length history) ≡ Some candidate
      → IsReply seats requests history candidate reply
      → IsHistory seats requests (history ++ reply ∷ [])
  history_more history reply candidate all at next place r is =
      let front : (k : ℕ) → k ≤ length history → history ≡ history → take k (history ++ reply ∷ [])
      ≡ take k history =
      λ k l _. take-append-le k history (reply ∷ []) l in
      ⊎_elim
      (λ (old : slice_get history place ≡ Some r).
      let was = all place r old in
      let inside = slice_get_within history place r old in
      record {
        candidate = was.candidate;
        request = was.request;
        fits = subst (λ (h : List Reply). IsReply seats requests h was.candidate r)
            (sym (front place (omega arith) refl)) was.fits;
      })
      (λ (last : (place ≡ length history) × (reply ≡ r)).
      record {
        candidate = candidate;
        request = ap (slice_get requests) last.0 ∙ at;
        fits = subst (λ (h : List Reply). IsReply seats requests h candidate r)
            (sym (front place (let e = last.0 in omega arith) refl
            ∙ (ap (λ (k : ℕ). take k history) last.0 ∙ whole history)))
            (subst (IsReply seats requests history candidate) last.1 next);
      })
      (at_snoc history reply r place is)
    where
      whole : (l : List Reply) → take (length l) l ≡ l
      whole [] = refl
      whole (x ∷ xs) = ap (λ z. x ∷ z) (whole xs)

-- what stands in the beginning of a list
at_front : {A : Type 0} (l : List A) (n i : ℕ) (x : A) → i < n → slice_get l i ≡ Some x
    → slice_get (take n l) i ≡ Some x
at_front [] n i x below is = absurd (cc (is))
at_front (y ∷ ys) zero i x below is = absurd (omega arith)
at_front (y ∷ ys) (suc n) zero x below is = is
at_front (y ∷ ys) (suc n) (suc i) x below is = at_front ys n i x (omega arith) is

module _ (seats : SeatRows) (requests : List ℕ) (history : List Reply) where
  -- no second registration of a candidate stands behind the first
  no_second : IsHistory seats requests history → (candidate i j k l : ℕ) → i < j
      → slice_get requests i ≡ Some candidate → slice_get history i ≡ Some (Registered k)
      → slice_get requests j ≡ Some candidate → slice_get history j ≡ Some (Registered l) → ⊥
  no_second all candidate i j k l before at_i is_i at_j is_j =
      let second = all j (Registered l) is_j in
      let same : second.candidate ≡ candidate = let r = second.request in cc (r, at_j) in
      second.fits.1 k
      record {
        place = i;
        request = at_i ∙ ap Some (sym same);
        reply = at_front history j i (Registered k) before is_i;
      }

  -- each candidate is registered at most once
  pub once_each : IsHistory seats requests history → IsOnceEach requests history
  once_each all candidate i j k l at_i is_i at_j is_j =
      ⊎_elim (λ (same : i ≡ j). same)
      (λ either.
      ⊎_elim
      (λ (before : i < j). absurd (no_second all candidate i j k l before at_i is_i at_j is_j))
      (λ (after : j < i). absurd (no_second all candidate j i l k after at_j is_j at_i is_i))
      either)
      (cases_order i j)

  -- and only where placed
  pub only_placed : IsHistory seats requests history → IsOnlyPlaced seats requests history
  only_placed all candidate number was =
      let it = all was.place (Registered number) was.reply in
      let same : it.candidate ≡ candidate = let r = it.request in let q = was.request in
      cc (r, q) in
      subst (IsPlaced seats) same it.fits.0

-- what stands in the beginning of a list stands in the list
pub at_longer_front : {A : Type 0} (l : List A) (n i : ℕ) (x : A) → slice_get (take n l) i ≡ Some x
    → slice_get l i ≡ Some x
at_longer_front [] zero i x is = absurd (cc (is))
at_longer_front [] (suc n) i x is = absurd (cc (is))
at_longer_front (y ∷ ys) zero i x is = absurd (cc (is))
at_longer_front (y ∷ ys) (suc n) zero x is = is
at_longer_front (y ∷ ys) (suc n) (suc i) x is = at_longer_front ys n i x is
