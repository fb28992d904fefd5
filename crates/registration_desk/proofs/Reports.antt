-- What a desk prints once every request is answered is a function of the placement and the
-- requests: a candidate has a number exactly where it is placed and a request names it.
use Rattle.std.proofs.Common.{◌≡◌, ◌≢◌, ℕ, zero, suc, ◌+◌, ◌<◌, Bool, true, false, cond, ◌&&◌, List, [], ◌∷◌, ◌++◌, length, take, get_or, nat_eq, nat_lt, Option, Some, None, is_some, sym, refl, ap, subst, ◌∙◌, ⊎_elim, arith, append-nil}
use Rattle.std.specs.Prelude.{slice_get, codes, decimal}
use Rattle.std.specs.Cmp.{nat_eq_equiv}
use Rattle.std.specs.List.{position, position_or_len, list_any, filter, flat_map, IsDistinct, Any}
use Rattle.std.proofs.lemmas.Bool.{eq-eqb, eqb-true, lt-ltb, cases_order}
use Rattle.std.proofs.lemmas.List.{length-map, get_or-map, flat_map_more}
use Rattle.std.proofs.lemmas.List.Sums.{passes_at_first, fails_before_first}
use Rattle.std.proofs.lemmas.List.Folds.{Any-from_list_any}
use Rattle.std.proofs.lemmas.List.Elements.{filter_more}
use Rattle.std.proofs.lemmas.Map.Keys.{apart_from_distinct, any_passes_from_place}
use Rattle.std.proofs.lemmas.Map.Entries.{lookup_from_place}
use Rattle.std.proofs.lemmas.Option.{cond_some, slice_get_read, slice_get-get_or, get_or_from_slice_get}
use Rattle.record_files.specs.Texts.{row_text}
use Rattle.registration_desk.specs.declared.reply.Reply.{Reply}
use Rattle.registration_desk.specs.declared.reply.Reply.TheVariants.{Registered, Already, NotPlaced, Unknown}
use Rattle.placement_file.specs.SeatLists.{SeatRows, candidates_of}
use Rattle.registration_desk.specs.Seats.{seat_row_at, seat_of}
use Rattle.registration_desk.specs.Replies.{IsUnregistered, IsReply}
use Rattle.registration_desk.specs.States.{DeskValue, NumberFits, IsDesk}
use Rattle.registration_desk.specs.Reports.{is_named, named_at, number_row}
use Rattle.registration_desk.proofs.Histories.{only_placed, at_longer_front}

-- the place of an element that is the first of its kind
first_place : (p : ℕ → Bool) (xs : List ℕ) (i : ℕ) → i < length xs → p (get_or xs i 0) ≡ true
    → ((k : ℕ) → k < i → p (get_or xs k 0) ≡ false) → position p xs ≡ Some i
first_place p xs i inside is before =
    let n : ℕ = position_or_len p xs in
    let same : n ≡ i =
    ⊎_elim (λ (e : n ≡ i). e)
    (λ either.
    ⊎_elim
    (λ (below : n < i).
    absurd
    (let a = passes_at_first p xs 0 (omega arith) in
    let b = before n below in
    cc (a, b)))
    (λ (above : i < n). absurd (let a = fails_before_first p xs i 0 above in cc (a, is)))
    either)
    (cases_order n i) in
    let within : n < length xs = omega arith in
    ap (λ (b : Bool). cond b (Some n) None) (lt-ltb n (length xs) within) ∙ ap Some same

module _ (seats : SeatRows) (distinct : IsDistinct nat_eq (candidates_of seats)) where
  -- a candidate is found at its own index
  pub own_place : (i : ℕ) → i < length seats
      → position (nat_eq (seat_row_at seats i).0) (candidates_of seats) ≡ Some i
  own_place i inside =
      let long = length-map seats (λ (row : ℕ × Option ℕ). row.0) in
      let at : get_or (candidates_of seats) i 0 ≡ (seat_row_at seats i).0 =
      get_or-map (λ (row : ℕ × Option ℕ). row.0) seats i (0, None) 0 inside in
      first_place (nat_eq (seat_row_at seats i).0) (candidates_of seats) i (omega arith)
      (eq-eqb _ _ (sym at))
      (λ k below.
      let apart =
      apart_from_distinct nat_eq (candidates_of seats) k i 0 distinct below (omega arith) in
      flip (get_or (candidates_of seats) k 0) (get_or (candidates_of seats) i 0)
      (seat_row_at seats i).0 at apart)
    where
      flip : (a b c : ℕ) → b ≡ c → nat_eq a b ≡ false → nat_eq c a ≡ false
      flip a b c e apart = by (nat_eq c a) refl
        where
          by : (t : Bool) → nat_eq c a ≡ t → t ≡ false
          by true is =
              absurd (let same = eqb-true c a is in let there = eq-eqb a b (sym (e ∙ same)) in
              cc (there, apart))
          by false is = refl

  -- what the placement says of it
  pub own_row : (i : ℕ) → i < length seats → seat_of seats (seat_row_at seats i).0
      ≡ Some (seat_row_at seats i).1
  own_row i inside =
      lookup_from_place nat_eq_equiv seats i (seat_row_at seats i).0 (seat_row_at seats i).1
      distinct
      (slice_get-get_or seats i (0, None) inside)

module _ (desk : DeskValue) (numbers : List ℕ) (total : ℕ) (h : IsDesk desk numbers total)
    (all : length desk.history ≡ length desk.requests)
    (distinct : IsDistinct nat_eq (candidates_of desk.seats)) where
  -- a candidate that is placed and named was registered
  was_named : (candidate code : ℕ) → seat_of desk.seats candidate ≡ Some (Some code)
      → Any (λ x. nat_eq candidate x ≡ true) desk.requests
      → IsUnregistered desk.requests desk.history candidate → ⊥
  was_named candidate code holds any unregistered =
      let place = any.0 in
      let inside : place < length desk.requests = any.2 in
      let same : candidate ≡ any.1 = eqb-true candidate any.1 any.4 in
      let request : slice_get desk.requests place ≡ Some candidate =
      slice_get-get_or desk.requests place any.1 inside ∙ (ap Some any.3 ∙ ap Some (sym same)) in
      let reply = get_or desk.history place Unknown in
      let given : slice_get desk.history place ≡ Some reply =
      slice_get-get_or desk.history place Unknown (omega arith) in
      let it = h.history place reply given in
      let its : it.candidate ≡ candidate = let r = it.request in cc (r, request) in
      by reply place given
      (subst (λ (c : ℕ). IsReply desk.seats desk.requests (take place desk.history) c reply) its
      it.fits) request
    where
      by : (reply : Reply) (place : ℕ) → slice_get desk.history place ≡ Some reply
          → IsReply desk.seats desk.requests (take place desk.history) candidate reply
          → slice_get desk.requests place ≡ Some candidate → ⊥
      by (Registered number) place given fits request =
          unregistered number record { place = place; request = request; reply = given }
      by (Already number) place given fits request =
          let was = fits.1 in
          unregistered number record {
            place = was.place;
            request = was.request;
            reply = at_longer_front desk.history place was.place _ was.reply;
          }
      by NotPlaced place given fits request = cc (fits, holds)
      by Unknown place given fits request = cc (fits, holds)

  -- a number is kept at an index exactly where the candidate is placed and named
  pub number_named : (i : ℕ) → i < length desk.seats
      → nat_lt 0 (get_or numbers i 0) ≡ is_named desk.requests (seat_row_at desk.seats i)
  number_named i inside =
      by (get_or numbers i 0)
      (h.agree (seat_row_at desk.seats i).0 i (own_place desk.seats distinct i inside))
    where
      without : (held : Option ℕ) (b : Bool) → (seat_row_at desk.seats i).1 ≡ held
          → list_any (nat_eq (seat_row_at desk.seats i).0) desk.requests ≡ b
          → IsUnregistered desk.requests desk.history (seat_row_at desk.seats i).0 → false
          ≡ (is_some held && b)
      without None b e f free = refl
      without (Some code) false e f free = refl
      without (Some code) true e f free =
          absurd
          (was_named (seat_row_at desk.seats i).0 code
          (own_row desk.seats distinct i inside ∙ ap Some e)
          (Any-from_list_any (nat_eq (seat_row_at desk.seats i).0) desk.requests f) free)

      by : (n : ℕ) → NumberFits desk.requests desk.history (seat_row_at desk.seats i).0 n
          → nat_lt 0 n
          ≡ is_named desk.requests (seat_row_at desk.seats i)
      by zero free =
          without (seat_row_at desk.seats i).1
          (list_any (nat_eq (seat_row_at desk.seats i).0) desk.requests) refl refl free
      by (suc n) was =
          let placed =
          only_placed desk.seats desk.requests desk.history h.history (seat_row_at desk.seats i).0
          (suc n) was in
          let holds : (seat_row_at desk.seats i).1 ≡ Some placed.0 =
          let own = own_row desk.seats distinct i inside in
          let its = placed.1 in
          cc (own, its) in
          let named =
          any_passes_from_place (nat_eq (seat_row_at desk.seats i).0) desk.requests was.place
          (seat_row_at desk.seats i).0 was.request
          (eq-eqb (seat_row_at desk.seats i).0 (seat_row_at desk.seats i).0 refl) in
          lt-ltb 0 (suc n) (omega arith) ∙ (λ k. is_some (sym holds k) && sym named k)

-- the text so far
abbrev pub text_to : SeatRows → List ℕ → ℕ → List ℕ
text_to seats requests n =
    row_text (codes "candidate" ∷ []) ++ flat_map number_row
    (filter (is_named requests) (take n seats))

module _ (seats : SeatRows) (requests : List ℕ) (n : ℕ) (inside : n < length seats) where
  abbrev row_n : ℕ × Option ℕ
  row_n = seat_row_at seats n

  more : filter (is_named requests) (take (n + 1) seats)
      ≡ filter (is_named requests) (take n seats) ++ cond (is_named requests row_n) (row_n ∷ []) []
  more = filter_more (is_named requests) seats n (0, None) inside

  -- one more row
  pub text_named : (old new : List ℕ) (number : ℕ) → named_at seats requests n ≡ Some number
      → old ≡ text_to seats requests n → new ≡ old ++ row_text (decimal number ∷ [])
      → new ≡ text_to seats requests (n + 1)
  text_named old new number is before after =
      let c = cond_some (is_named requests row_n) row_n.0 number is in
      let kept = filter (is_named requests) (take n seats) in
      after
      ∙ (ap (λ v. v ++ row_text (decimal number ∷ [])) before
      ∙ (ap (λ v. text_to seats requests n ++ row_text (decimal v ∷ [])) (sym c.1)
      ∙ (flat_map_more number_row (row_text (codes "candidate" ∷ [])) kept row_n
      ∙ ap (λ v. row_text (codes "candidate" ∷ []) ++ flat_map number_row v)
      (ap (λ (b : Bool). kept ++ cond b (row_n ∷ []) []) (sym c.0) ∙ sym more))))

  -- no row
  not_named : named_at seats requests n ≡ None → is_named requests row_n ≡ false
  not_named is = by (is_named requests row_n) is
    where
      by : (b : Bool) → cond b (Some row_n.0) None ≡ None → b ≡ false
      by true e = absurd (cc (e))
      by false e = refl

  -- so the text stays where the index has no number
  pub text_skipped : (old : List ℕ) → named_at seats requests n ≡ None → old
      ≡ text_to seats requests n
      → old ≡ text_to seats requests (n + 1)
  text_skipped old is before =
      let kept = filter (is_named requests) (take n seats) in
      before
      ∙ ap (λ v. row_text (codes "candidate" ∷ []) ++ flat_map number_row v)
      (sym (append-nil kept)
      ∙ (ap (λ (b : Bool). kept ++ cond b (row_n ∷ []) []) (sym (not_named is)) ∙ sym more))

-- a number is kept at an index, or none
pub named_some : (seats : SeatRows) (requests : List ℕ) (i n number : ℕ) → n ≢ 0
    → nat_lt 0 n ≡ is_named requests (seat_row_at seats i) → number ≡ (seat_row_at seats i).0
    → Some number ≡ named_at seats requests i
named_some seats requests i zero number some_number is same = absurd (some_number refl)
named_some seats requests i (suc n) number some_number is same =
    ap Some same
    ∙ ap (λ (b : Bool). cond b (Some (seat_row_at seats i).0) None)
    (sym (lt-ltb 0 (suc n) (omega arith)) ∙ is)

-- and none where 0 is kept for it
pub named_none : (seats : SeatRows) (requests : List ℕ) (i n : ℕ) → n ≡ 0
    → nat_lt 0 n ≡ is_named requests (seat_row_at seats i) → None ≡ named_at seats requests i
named_none seats requests i n none is =
    ap (λ (b : Bool). cond b (Some (seat_row_at seats i).0) None) (ap (nat_lt 0) (sym none) ∙ is)

-- an element that was read
pub read_at : (l : List ℕ) (i x : ℕ) → i < length l → x ≡ get_or l i x → get_or l i 0 ≡ x
read_at l i x inside is =
    get_or_from_slice_get l i x 0 (slice_get_read l (length l) i x refl inside is)

-- the number of a candidate
pub number_is : (seats : SeatRows) (i number : ℕ) → i < length seats
    → slice_get (candidates_of seats) i ≡ Some number → number ≡ (seat_row_at seats i).0
number_is seats i number inside is =
    sym (get_or_from_slice_get (candidates_of seats) i number 0 is)
    ∙ get_or-map (λ (row : ℕ × Option ℕ). row.0) seats i (0, None) 0 inside
