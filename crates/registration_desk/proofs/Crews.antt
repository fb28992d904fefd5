-- The clerks of a desk, before and after their work: these are all of them, and none has a request
-- left.
use Rattle.std.proofs.Common.{◌≡◌, ℕ, ◌<◌, List, [], ◌∷◌, ◌++◌, length, take, drop, get_or, Some, sym, refl, ap, subst, ◌∙◌, arith, append-nil}
use Rattle.std.specs.Prelude.{slice_get}
use Rattle.std.proofs.Math.ListN.{drop_of_length-le}
use Rattle.std.proofs.lemmas.List.Sums.{sum_by-le}
use Rattle.std.proofs.lemmas.Option.{slice_get-get_or, slice_get_within, get_or_from_slice_get}
use Rattle.registration_desk.specs.Desks.{knows, key_of, left_by, AreAllClerksOf, IsNew, AllNew}
use Rattle.registration_desk.specs.Crew.{HasWorked}
use Rattle.registration_desk.specs.declared.desk.Desk.{Desk}
use Rattle.registration_desk.specs.declared.desk.Clerk.{Clerk}
use Rattle.registration_desk.proofs.Clerks.{sum_ones}

module _ {A : Type 0} where
  take_all : (l : List A) (n : ℕ) → n ≡ length l → take n l ≡ l
  take_all l n e = ap (λ (k : ℕ). take k l) e ∙ all l
    where
      all : (l : List A) → take (length l) l ≡ l
      all [] = refl
      all (x ∷ xs) = ap (λ z. x ∷ z) (all xs)

  -- a vector whose elements were all written is what was written
  pub whole : (n : ℕ) (new old : List A) → length new ≡ length old → n ≡ length old
      → take n (new ++ drop (length new) old) ≡ new
  whole n new old same is =
      ap (λ (z : List A). take n (new ++ z)) (drop_of_length-le old (omega arith))
      ∙ (ap (take n) (append-nil new) ∙ take_all new n (is ∙ sym same))

module _ (desk : Desk) (xs ys : List Clerk) (new : AllNew desk xs) (same : length ys ≡ length xs)
    (worked : (i : ℕ) (d : Clerk) → i < length xs → HasWorked (get_or xs i d) (get_or ys i d)) where
  -- what each of them was and has done
  one : (k : ℕ) (clerk : Clerk) → slice_get ys k ≡ Some clerk
      → IsNew desk k (get_or xs k clerk) × HasWorked (get_or xs k clerk) clerk
  one k clerk is =
      let inside = slice_get_within ys k clerk is in
      let before : k < length xs = omega arith in (
        new k (get_or xs k clerk) (slice_get-get_or xs k clerk before),
        subst (HasWorked (get_or xs k clerk)) (get_or_from_slice_get ys k clerk clerk is)
            (worked k clerk before),
      )

  -- where they are as many as the desk has, they are still all of its clerks
  pub still_all : length ys ≡ (key_of desk).clerks → AreAllClerksOf desk ys
  still_all count =
      record {
        each = λ k clerk is.
            let o = one k clerk is in
            o.1.stays.table ∙ o.0.of_desk;
        all = sum_ones (λ clerk. (knows clerk).share) ys
            (λ k clerk is. let o = one k clerk is in o.1.stays.share ∙ o.0.share) ∙ count;
      }

  -- and none has a request left
  pub none_left : left_by ys ≡ 0
  none_left =
      let le = sum_by-le (λ clerk. (knows clerk).left) 0 ys (λ k clerk inside.
      let none = (one k (get_or ys k clerk) (slice_get-get_or ys k clerk inside)).1.none_left in
      omega arith) in
      omega arith
