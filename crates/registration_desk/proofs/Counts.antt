-- How many replies are of each kind is a function of the placement and the requests: each reply
-- tells what the placement says of its candidate, and the registrations are the numbers kept.
use Rattle.std.proofs.Common.{◌≡◌, ℕ, suc, ◌+◌, ◌-◌, Bool, cond, List, [], ◌∷◌, length, take, get_or, nat_eq, nat_lt, Option, Some, None, sym, refl, ap, subst, ◌∙◌, arith}
use Rattle.std.specs.Prelude.{slice_get}
use Rattle.std.specs.List.{IsDistinct, count_by, sum_by}
use Rattle.std.proofs.lemmas.List.Sums.{length-filter, sum_by-cons, sum_by_more}
use Rattle.std.proofs.lemmas.Option.{get_or_from_slice_get, slice_get_within}
use Rattle.placement_file.specs.SeatLists.{SeatRows, candidates_of}
use Rattle.registration_desk.specs.declared.reply.Reply.{Reply}
use Rattle.registration_desk.specs.declared.reply.Reply.TheVariants.{Registered, Already, NotPlaced, Unknown}
use Rattle.registration_desk.specs.declared.report.DeskNumbers.{DeskNumbers}
use Rattle.registration_desk.specs.Seats.{seat_row_at, seat_of}
use Rattle.registration_desk.specs.Replies.{IsReply, is_again, is_not_placed, is_registration, is_unknown, registrations}
use Rattle.registration_desk.specs.States.{DeskValue, IsDesk}
use Rattle.registration_desk.specs.Reports.{is_named, desk_numbers, registered_rows, replies_of, says_nothing, says_placed, says_without, with_reply}
use Rattle.registration_desk.proofs.Reports.{number_named}

-- a number with one more where the test holds
abbrev bit : Bool → ℕ
bit test = cond test 1 0

abbrev with_bits : DeskNumbers → Reply → DeskNumbers
with_bits n reply = record {
  registered = n.registered + bit (is_registration reply);
  again = n.again + bit (is_again reply);
  not_placed = n.not_placed + bit (is_not_placed reply);
  unknown = n.unknown + bit (is_unknown reply);
}

plus_zero : (n : ℕ) → n ≡ n + 0
plus_zero n = omega arith

-- a reply adds one to the number of its kind, and to no other
bits : (n : DeskNumbers) (reply : Reply) → with_reply n reply ≡ with_bits n reply
bits n (Registered number) = λ j. record {
  registered = n.registered + 1;
  again = plus_zero n.again j;
  not_placed = plus_zero n.not_placed j;
  unknown = plus_zero n.unknown j;
}
bits n (Already number) = λ j. record {
  registered = plus_zero n.registered j;
  again = n.again + 1;
  not_placed = plus_zero n.not_placed j;
  unknown = plus_zero n.unknown j;
}
bits n NotPlaced = λ j. record {
  registered = plus_zero n.registered j;
  again = plus_zero n.again j;
  not_placed = n.not_placed + 1;
  unknown = plus_zero n.unknown j;
}
bits n Unknown = λ j. record {
  registered = plus_zero n.registered j;
  again = plus_zero n.again j;
  not_placed = plus_zero n.not_placed j;
  unknown = n.unknown + 1;
}

-- the numbers of the first replies
abbrev pub replies_to : List Reply → ℕ → DeskNumbers
replies_to history n = replies_of (take n history)

-- and of one more
pub replies_more : (history : List Reply) (n : ℕ) (reply : Reply) (k new : DeskNumbers)
    → slice_get history n ≡ Some reply → k ≡ replies_to history n → new ≡ with_reply k reply
    → new ≡ replies_to history (n + 1)
replies_more history n reply k new at before after =
    let inside = slice_get_within history n reply at in
    let is : get_or history n Unknown ≡ reply = get_or_from_slice_get history n reply Unknown at in
    let more : (p : Reply → Bool) → count_by p (take (n + 1) history)
    ≡ count_by p (take n history) + bit (p reply) =
    λ p. sum_by_more (λ r. bit (p r)) history n Unknown inside
    ∙ ap (λ r. count_by p (take n history) + bit (p r)) is in
    after ∙ bits k reply ∙ ap (λ z. with_bits z reply) before ∙ (λ j. record {
      registered = sym (more is_registration) j;
      again = sym (more is_again) j;
      not_placed = sym (more is_not_placed) j;
      unknown = sym (more is_unknown) j;
    })

-- lists of one length have one sum where what is added is the same at each place
same_sum : {A B : Type 0} (f : A → ℕ) (g : B → ℕ) (xs : List A) (ys : List B)
    → length xs ≡ length ys
    → ((i : ℕ) (x : A) (y : B) → slice_get xs i ≡ Some x → slice_get ys i ≡ Some y → f x ≡ g y)
    → sum_by f xs ≡ sum_by g ys
same_sum f g [] [] sizes same = refl
same_sum f g [] (y ∷ ys) sizes same = absurd (omega arith)
same_sum f g (x ∷ xs) [] sizes same = absurd (omega arith)
same_sum f g (x ∷ xs) (y ∷ ys) sizes same =
    let first = same 0 x y refl refl in
    let rest = same_sum f g xs ys (omega arith) (λ i a b p q. same (suc i) a b p q) in
    omega (arith, sum_by-cons f x xs, sum_by-cons g y ys)

-- the sum of two numbers of each element
sum_both : {A : Type 0} (f g : A → ℕ) (xs : List A)
    → sum_by (λ x. f x + g x) xs ≡ sum_by f xs + sum_by g xs
sum_both f g [] = refl
sum_both f g (x ∷ xs) =
    omega (
      arith,
      sum_by-cons (λ y. f y + g y) x xs,
      sum_by-cons f x xs,
      sum_by-cons g x xs,
      sum_both f g xs,
    )

-- a reply tells what the placement says of its candidate, where a reply of each kind tells what is
-- said of a seat of that kind
tells : (told : Reply → ℕ) (says : Option (Option ℕ) → ℕ)
    → ((number code : ℕ) → told (Registered number) ≡ says (Some (Some code)))
    → ((number code : ℕ) → told (Already number) ≡ says (Some (Some code)))
    → told NotPlaced ≡ says (Some None) → told Unknown ≡ says None
    → (seats : SeatRows) (requests : List ℕ) (history : List Reply) (c : ℕ) (reply : Reply)
    → IsReply seats requests history c reply → told reply ≡ says (seat_of seats c)
tells told says new again without nothing seats requests history c (Registered number) fits =
    new number fits.0.0 ∙ ap says (sym fits.0.1)
tells told says new again without nothing seats requests history c (Already number) fits =
    again number fits.0.0 ∙ ap says (sym fits.0.1)
tells told says new again without nothing seats requests history c NotPlaced fits =
    without ∙ ap says (sym fits)
tells told says new again without nothing seats requests history c Unknown fits =
    nothing ∙ ap says (sym fits)

module _ (desk : DeskValue) (numbers : List ℕ) (total : ℕ) (h : IsDesk desk numbers total)
    (all : length desk.history ≡ length desk.requests)
    (distinct : IsDistinct nat_eq (candidates_of desk.seats)) where
  -- what each reply tells is counted over all requests
  counts : (told : Reply → ℕ) (says : Option (Option ℕ) → ℕ)
      → ((number code : ℕ) → told (Registered number) ≡ says (Some (Some code)))
      → ((number code : ℕ) → told (Already number) ≡ says (Some (Some code)))
      → told NotPlaced ≡ says (Some None) → told Unknown ≡ says None
      → sum_by told desk.history ≡ sum_by (λ c. says (seat_of desk.seats c)) desk.requests
  counts told says new again without nothing =
      same_sum told (λ c. says (seat_of desk.seats c)) desk.history desk.requests all
      (λ i reply c given request.
      let it = h.history i reply given in
      let same : it.candidate ≡ c = let r = it.request in cc (r, request) in
      subst (λ z. told reply ≡ says (seat_of desk.seats z)) same
      (tells told says new again without nothing desk.seats desk.requests (take i desk.history)
      it.candidate reply it.fits))

  -- there are as many registrations as rows of the text
  named : registrations desk.history ≡ length (registered_rows desk.seats desk.requests)
  named =
      sym h.counted ∙ sym h.numbered
      ∙ same_sum (λ n. bit (nat_lt 0 n)) (λ row. bit (is_named desk.requests row)) numbers
      desk.seats h.wide (λ i n row number seat.
      let inside = slice_get_within desk.seats i row seat in
      let kept : get_or numbers i 0 ≡ n = get_or_from_slice_get numbers i n 0 number in
      let at : seat_row_at desk.seats i
      ≡ row = get_or_from_slice_get desk.seats i row (0, None) seat in
      ap (λ m. bit (nat_lt 0 m)) (sym kept)
      ∙ ap bit (number_named desk numbers total h all distinct i inside)
      ∙ ap (λ r. bit (is_named desk.requests r)) at)
      ∙ sym (length-filter (is_named desk.requests) desk.seats)

  -- the numbers of the replies are those of the placement and the requests
  pub replies_are : replies_of desk.history ≡ desk_numbers desk.seats desk.requests
  replies_are =
      let placed = counts (λ r. bit (is_registration r) + bit (is_again r))
      (λ seat. bit (says_placed seat)) (λ _ _. refl) (λ _ _. refl) refl refl in
      let both = sum_both (λ r. bit (is_registration r)) (λ r. bit (is_again r)) desk.history in
      let without = counts (λ r. bit (is_not_placed r)) (λ seat. bit (says_without seat))
      (λ _ _. refl) (λ _ _. refl) refl refl in
      let nothing = counts (λ r. bit (is_unknown r)) (λ seat. bit (says_nothing seat))
      (λ _ _. refl) (λ _ _. refl) refl refl in
      let rows = named in
      let again : count_by is_again desk.history
      ≡ count_by (λ c. says_placed (seat_of desk.seats c)) desk.requests
      - length (registered_rows desk.seats desk.requests) = omega arith in
      λ j. record {
        registered = rows j;
        again = again j;
        not_placed = without j;
        unknown = nothing j;
      }
