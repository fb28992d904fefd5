-- One request served: the reply is that of the desk of one thread, and the desk keeps its numbers.
use Rattle.std.proofs.Common.{◌≡◌, ℕ, zero, suc, ◌+◌, ◌<◌, ◌≤◌, Bool, false, cond, List, [], ◌∷◌, ◌++◌, length, set, get_or, nat_eq, nat_lt, Some, None, sym, refl, ap, subst, ◌∙◌, arith, length-set, get_or-set_same, get_or-set_other}
use Rattle.std.specs.Prelude.{slice_get}
use Rattle.std.specs.List.{position}
use Rattle.std.proofs.lemmas.List.{set-get_or, length-append}
use Rattle.std.proofs.lemmas.Bool.{lt-ltb}
use Rattle.std.proofs.lemmas.List.Sums.{sum_by-set, sum_by_push}
use Rattle.std.proofs.lemmas.Option.{slice_get_read, get_or_from_slice_get}
use mathlib.Core.Logic.{dite}
use native.Mathlib.Decide.{ℕ_discrete}
use Rattle.registration_desk.specs.declared.reply.Reply.{Reply}
use Rattle.registration_desk.specs.declared.state.DeskState.TheInside.{Inside}
use Rattle.registration_desk.specs.declared.reply.Reply.TheVariants.{Registered, Already, NotPlaced, Unknown}
use Rattle.placement_file.specs.SeatLists.{SeatRows, candidates_of, code_held}
use Rattle.registration_desk.specs.Replies.{is_registration, registrations, IsReply, IsPlaced}
use Rattle.registration_desk.specs.States.{DeskValue, replied, NumberFits, IsDesk, Numbered}
use Rattle.registration_desk.proofs.Pushes.{at_last}
use Rattle.registration_desk.proofs.Lookups.{found, missing, same_candidate}
use Rattle.registration_desk.proofs.Histories.{was_plain, was_other, fits_more, fits_now, history_more}

-- the request is served: its reply, and what the desk keeps then
pub record Serves (desk : DeskValue) (candidate : ℕ) (reply : Reply) (numbers : List ℕ)
    (total : ℕ) : Type 0 where
  pub fits : IsReply desk.seats desk.requests desk.history candidate reply
  pub keeps : IsDesk (replied desk reply) numbers total

module _ (desk : DeskValue) (numbers : List ℕ) (total candidate : ℕ) where
  counted_more : (reply : Reply) → registrations (desk.history ++ reply ∷ [])
      ≡ registrations desk.history + cond (is_registration reply) 1 0
  counted_more reply = sum_by_push (λ r. cond (is_registration r) 1 0) desk.history reply

  longer : (reply : Reply) → length desk.history < length desk.requests
      → length (desk.history ++ reply ∷ []) ≤ length desk.requests
  longer reply more = omega (arith, length-append desk.history (reply ∷ []))

  -- a reply that is no registration
  pub serves_plain : (reply : Reply) → IsDesk desk numbers total
      → length desk.history < length desk.requests
      → slice_get desk.requests (length desk.history) ≡ Some candidate
      → IsReply desk.seats desk.requests desk.history candidate reply → is_registration reply
      ≡ false
      → Serves desk candidate reply numbers total
  serves_plain reply h more at fits plain =
      record {
        fits = fits;
        keeps =
            record {
              few = h.few;
              within = longer reply more;
              history =
                  history_more desk.seats desk.requests desk.history reply candidate h.history at
                  fits;
              wide = h.wide;
              numbered = h.numbered;
              agree = λ c i is.
                  fits_more desk.requests desk.history reply c (get_or numbers i 0) (h.agree c i is)
                  (λ n was. was_plain desk.requests desk.history reply c n plain was);
              counted =
                  let more = counted_more reply in
                  let none : ◌≡◌ {A = ℕ} (cond (is_registration reply) 1 0) 0 =
                  ap (λ (b : Bool). cond {A = ℕ} b 1 0) plain in
                  let was = h.counted in
                  omega arith;
            };
      }

  -- a registration under the next number
  serves_new : (i : ℕ) → IsDesk desk numbers total → length desk.history < length desk.requests
      → slice_get desk.requests (length desk.history) ≡ Some candidate
      → position (nat_eq candidate) (candidates_of desk.seats) ≡ Some i
      → get_or numbers i 0 ≡ 0
      → IsReply desk.seats desk.requests desk.history candidate (Registered (total + 1))
      → Serves desk candidate (Registered (total + 1)) (set numbers i (total + 1)) (total + 1)
  serves_new i h more at is none fits =
      let reply = Registered (total + 1) in
      let wide = h.wide in
      let inside = (found candidate desk.seats i is).0 in
      record {
        fits = fits;
        keeps =
            record {
              few = h.few;
              within = longer reply more;
              history =
                  history_more desk.seats desk.requests desk.history reply candidate h.history at
                  fits;
              wide = length-set numbers i (total + 1) ∙ h.wide;
              numbered =
                  let set_one =
                  sum_by-set (λ n. cond {A = ℕ} (nat_lt 0 n) 1 0) numbers i (total + 1) 0
                  (omega arith) in
                  let was : ◌≡◌ {A = ℕ} (cond (nat_lt 0 (get_or numbers i 0)) 1 0) 0 =
                  ap (λ (n : ℕ). cond {A = ℕ} (nat_lt 0 n) 1 0) none in
                  let now : ◌≡◌ {A = ℕ} (cond (nat_lt 0 (total + 1)) 1 0) 1 =
                  ap (λ (b : Bool). cond {A = ℕ} b 1 0) (lt-ltb 0 (total + 1) (omega arith)) in
                  let before = h.numbered in
                  omega arith;
              agree = λ c j found_at.
                  dite (ℕ_discrete j i)
                  (λ here.
                  let same : c ≡ candidate =
                  same_candidate desk.seats c candidate i (found_at ∙ ap Some here) is in
                  let number : get_or (set numbers i (total + 1)) j 0 ≡ total + 1 =
                  ap (λ (k : ℕ). get_or (set numbers i (total + 1)) k 0) here
                  ∙ get_or-set_same numbers i (total + 1) 0 (omega arith) in
                  subst (λ (n : ℕ). NumberFits desk.requests (desk.history ++ reply ∷ []) c n)
                  (sym number)
                  (fits_now desk.requests (desk.history ++ reply ∷ []) c (total + 1) (omega arith)
                  record {
                    place = length desk.history;
                    request = at ∙ ap Some (sym same);
                    reply = at_last desk.history reply;
                  }))
                  (λ apart.
                  subst (λ (n : ℕ). NumberFits desk.requests (desk.history ++ reply ∷ []) c n)
                  (sym (get_or-set_other numbers i j (total + 1) 0 apart))
                  (fits_more desk.requests desk.history reply c (get_or numbers j 0)
                  (h.agree c j found_at)
                  (λ n was.
                  was_other desk.requests desk.history reply c n candidate at
                  (λ same. apart
                  (let e = ap
                  (λ (z : ℕ). position (nat_eq z) (candidates_of desk.seats)) same in
                  cc (e, is, found_at)))
                  was)));
              counted =
                  let more = counted_more reply in
                  let was = h.counted in
                  omega arith;
            };
      }

  -- a candidate that is not in the placement
  pub serves_unknown : IsDesk desk numbers total → length desk.history < length desk.requests
      → slice_get desk.requests (length desk.history) ≡ Some candidate
      → position (nat_eq candidate) (candidates_of desk.seats) ≡ None
      → Serves desk candidate Unknown numbers total
  serves_unknown h more at is =
      serves_plain Unknown h more at (missing candidate desk.seats is) refl

  -- a candidate that holds none
  pub serves_without : (i : ℕ) → IsDesk desk numbers total
      → length desk.history < length desk.requests
      → slice_get desk.requests (length desk.history) ≡ Some candidate
      → position (nat_eq candidate) (candidates_of desk.seats) ≡ Some i → code_held desk.seats i
      ≡ None
      → Serves desk candidate NotPlaced numbers total
  serves_without i h more at is none =
      serves_plain NotPlaced h more at ((found candidate desk.seats i is).1 ∙ ap Some none) refl

  -- a candidate that holds a programme
  pub serves_placed : (i code : ℕ) (reply : Reply) (number' total' : ℕ) → IsDesk desk numbers total
      → length desk.history < length desk.requests
      → slice_get desk.requests (length desk.history) ≡ Some candidate
      → position (nat_eq candidate) (candidates_of desk.seats) ≡ Some i → code_held desk.seats i
      ≡ Some code
      → Numbered (get_or numbers i 0) total reply number' total'
      → Serves desk candidate reply (set numbers i number') total'
  serves_placed i code reply number' total' h more at is holds numbered =
      by (get_or numbers i 0) refl (h.agree candidate i is) numbered
    where
      placed : IsPlaced desk.seats candidate
      placed = (code, (found candidate desk.seats i is).1 ∙ ap Some holds)

      by : (n : ℕ) → get_or numbers i 0 ≡ n → NumberFits desk.requests desk.history candidate n
          → Numbered n total reply number' total'
          → Serves desk candidate reply (set numbers i number') total'
      by zero e fits (r, n, t) =
          subst (λ (z : Reply × (ℕ × ℕ)). Serves desk candidate z.0 (set numbers i z.1.0) z.1.1)
          (λ k. (sym r k, (sym n k, sym t k)))
          (serves_new i h more at is e (placed, fits, ap (λ (z : ℕ). z + 1) h.counted))
      by (suc m) e fits (r, n, t) =
          let as_was : set numbers i (suc m) ≡ numbers =
          ap (set numbers i) (sym e) ∙ set-get_or numbers i 0 in
          subst (λ (z : Reply × (ℕ × ℕ)). Serves desk candidate z.0 (set numbers i z.1.0) z.1.1)
          (λ k. (sym r k, (sym n k, sym t k)))
          (subst (λ (l : List ℕ). Serves desk candidate (Already (suc m)) l total) (sym as_was)
          (serves_plain (Already (suc m)) h more at (placed, fits) refl))

-- a desk's fields as a clause sees them
abbrev pub value_of : Inside → DeskValue
value_of desk =
    record { seats = desk.seats; requests = desk.requests.items; history = desk.history.items }

-- the request is served, and its reply is still to be put into the history
pub record IsServed (old : Inside) (candidate : ℕ) (reply : Reply) (new : Inside) : Type 0 where
  pub serves : Serves (value_of old) candidate reply new.numbers.items new.total
  pub seats : new.seats ≡ old.seats
  pub requests : new.requests ≡ old.requests
  pub history : new.history ≡ old.history

-- the desk once the reply is in its history
pub serves_after : (old : Inside) (candidate : ℕ) (reply : Reply) (new : Inside)
    (history : List Reply)
    → IsServed old candidate reply new → history ≡ new.history.items ++ reply ∷ []
    → IsDesk (record { seats = new.seats; requests = new.requests.items; history = history })
    new.numbers.items new.total
serves_after old candidate reply new history s is =
    subst (λ (d : DeskValue). IsDesk d new.numbers.items new.total)
    (λ k.
    record {
      seats = sym s.seats k;
      requests = (sym s.requests k).items;
      history = sym (is ∙ ap (λ h. h.items ++ reply ∷ []) s.history) k;
    })
    s.serves.keeps

-- the number kept for a candidate that was found
pub number_at : (numbers : List ℕ) (seats : SeatRows) (candidate i number : ℕ)
    → length numbers ≡ length seats → position (nat_eq candidate) (candidates_of seats) ≡ Some i
    → number ≡ get_or numbers i number → get_or numbers i 0 ≡ number
number_at numbers seats candidate i number wide is at =
    let inside = (found candidate seats i is).0 in
    get_or_from_slice_get numbers i number 0
    (slice_get_read numbers (length numbers) i number refl (omega arith) at)
