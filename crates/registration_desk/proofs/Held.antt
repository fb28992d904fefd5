-- The slot that a seat holds, and the state in it.
use Rattle.std.proofs.Common.{◌≡◌, ℕ, ◌+◌, List, [], ◌∷◌, length, length-append, Option, Some, None, sym, ap, subst, ◌∙◌, arith}
use Rattle.atomic_table.specs.Table.{rest}
use Rattle.registration_desk.specs.declared.reply.Reply.{Reply}
use Rattle.registration_desk.specs.States.{DeskValue, replied}
use Rattle.registration_desk.specs.Clerks.{ClerkKnows}
use Rattle.registration_desk.specs.Rule.{HasReplies}

abbrev Slots : Type 0
Slots = List (ℕ × Option DeskValue)

abbrev value_in : Option DeskValue → Slots → Option DeskValue
value_in d [] = d
value_in d (x ∷ xs) = x.1

-- the state that is there, or else this one
abbrev pub state_or : DeskValue → Option DeskValue → DeskValue
state_or d None = d
state_or d (Some s) = s

-- the state that was exchanged out is the one that the seat held
pub first_is : (slots : Slots) (state out : DeskValue) (result : Option DeskValue) → slots
    ≡ (0, Some state) ∷ []
    → slots ≡ (0, result) ∷ rest slots → result ≡ Some out → state ≡ out
first_is slots state out result held exchanged is =
    ap (state_or state)
    (sym (ap (value_in (Some state)) held) ∙ (ap (value_in (Some state)) exchanged ∙ is))

-- the state once it has given one reply more
pub one_more : (a b : ClerkKnows) (number : ℕ) (state out new : DeskValue) (reply : Reply)
    → HasReplies a.seats a.requests number state → b ≡ a → state ≡ out → new ≡ replied out reply
    → HasReplies b.seats b.requests (number + 1) new
one_more a b number state out new reply fits same is after =
    let before : HasReplies b.seats b.requests number out =
    subst (λ (z : ClerkKnows × DeskValue). HasReplies z.0.seats z.0.requests number z.1)
    (λ k. (sym same k, is k)) fits in
    record {
      same_seats = ap (λ (d : DeskValue). d.seats) after ∙ before.same_seats;
      same_requests = ap (λ (d : DeskValue). d.requests) after ∙ before.same_requests;
      count =
          let n = ap (λ (d : DeskValue). length d.history) after in
          let m = length-append out.history (reply ∷ []) in
          let l = before.count in
          omega arith;
    }
