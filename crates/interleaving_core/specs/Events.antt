-- The eleven events: when each is allowed, what it leads to and what it tells.
use Rattle.std.specs.Prelude.{◌≡◌, ℕ, ◌+◌, ◌<◌, ◌⊎◌, ◌++◌, ◌&&◌, ◌==◌, Bool, true, false, not, nat_lt, nat_le, List, [], ◌∷◌, length, drop, slice_index, slice_set, Option, Some, None}
use Rattle.std.specs.List.{position_or_len}
use Rattle.market.specs.Dictatorships.{Dictatorship, list_at}
use Rattle.interleaving_core.specs.declared.parts.Cell.{Cell}
use Rattle.interleaving_core.specs.declared.parts.Cell.TheVariants.{Posted, Committed}
use Rattle.interleaving_core.specs.declared.parts.Claiming.{Claiming}
use Rattle.interleaving_core.specs.declared.parts.OwnTurn.{OwnTurn}
use Rattle.interleaving_core.specs.declared.parts.Phase.{Phase}
use Rattle.interleaving_core.specs.declared.parts.Phase.TheVariants.{Idle, Halted, Scan, Ready, Seated, Raised}
use Rattle.interleaving_core.specs.declared.parts.Holding.{Holding}
use Rattle.interleaving_core.specs.declared.events.CoreEvent.{CoreEvent}
use Rattle.interleaving_core.specs.declared.events.CoreEvent.TheVariants.{Claim, Flags, Read, Post, Take, Look, Weigh, Seat, Raise, Seal, Release}
use Rattle.interleaving_core.specs.declared.events.Told.{Told}
use Rattle.interleaving_core.specs.declared.events.Told.TheVariants as tells
use Rattle.interleaving_core.specs.Flags.{flag_group, is_raised_in, with_flag}
use Rattle.interleaving_core.specs.Core.{View, Core, turn_count, entry, quota_of, seats_of, is_open, cell_at, claim_at, hold_at}

-- an event with what its condition finds in the worker's view: the turn (k, or for a holder the
-- number of committed turns, c), the place j, and, where the condition has two parts, which one
-- holds
pub data Action : Type 0 where
  Claims : Action
  ReadsFlags : ℕ → ℕ → Action
  Reads : ℕ → ℕ → Action
  Posts : ℕ → ℕ → Bool → Bool → Action
  Takes : Action
  Looks : ℕ → Action
  Weighs : ℕ → ℕ → Action
  Seats : ℕ → ℕ → Action
  Raises : ℕ → ℕ → Action
  Seals : ℕ → ℕ → Phase → Action
  Releases : ℕ → Phase → Action

-- the event of an action
abbrev pub event_of : Action → CoreEvent
event_of Claims = Claim
event_of (ReadsFlags k j) = Flags
event_of (Reads k j) = Read
event_of (Posts k j looked met) = Post
event_of Takes = Take
event_of (Looks c) = Look
event_of (Weighs c j) = Weigh
event_of (Seats c j) = Seat
event_of (Raises c j) = Raise
event_of (Seals c j phase) = Seal
event_of (Releases c phase) = Release

-- a turn is committed at place j once its seat is taken there and, where that filled the programme,
-- its flag is raised; or once its whole list is found full
abbrev pub CanSeal : ℕ → ℕ → Phase → Type 0
CanSeal places j Idle = ⊥
CanSeal places j Halted = ⊥
CanSeal places j (Scan i) = (i ≡ j) × (j ≡ places)
CanSeal places j (Ready i) = ⊥
CanSeal places j (Seated i filled) = (i ≡ j) × (filled ≡ false)
CanSeal places j (Raised i) = i ≡ j

-- the mark is given back at an empty cell, or once all n turns are committed
abbrev pub CanRelease : ℕ → ℕ → Phase → Type 0
CanRelease n c Idle = c ≡ n
CanRelease n c Halted = Unit {0}
CanRelease n c (Scan j) = ⊥
CanRelease n c (Ready j) = ⊥
CanRelease n c (Seated j filled) = ⊥
CanRelease n c (Raised j) = ⊥

-- when a worker with this view may act so
abbrev pub IsAllowed : Dictatorship → View → Action → Type 0
IsAllowed d v Claims = (v.claim ≡ None) × (v.hold ≡ None) × (v.done ≡ false) × (v.owes ≡ false)
IsAllowed d v (ReadsFlags k j) =
    (v.claim ≡ claim_at k j false false) × (j < length (list_at d k))
IsAllowed d v (Reads k j) = (v.claim ≡ claim_at k j true false) × (j < length (list_at d k))
IsAllowed d v (Posts k j looked met) =
    (v.claim ≡ claim_at k j looked met) × ((met ≡ true) ⊎ (j ≡ length (list_at d k)))
IsAllowed d v Takes = (v.claim ≡ None) × (v.hold ≡ None)
IsAllowed d v (Looks c) = (v.hold ≡ hold_at c Idle) × (c < turn_count d)
IsAllowed d v (Weighs c j) = (v.hold ≡ hold_at c (Scan j)) × (j < length (list_at d c))
IsAllowed d v (Seats c j) = v.hold ≡ hold_at c (Ready j)
IsAllowed d v (Raises c j) = v.hold ≡ hold_at c (Seated j true)
IsAllowed d v (Seals c j phase) =
    (v.hold ≡ hold_at c phase) × CanSeal (length (list_at d c)) j phase
IsAllowed d v (Releases c phase) = (v.hold ≡ hold_at c phase) × CanRelease (turn_count d) c phase

-- no action of this event is allowed
abbrev pub Refuses : Dictatorship → View → CoreEvent → Type 0
Refuses d v event = (a : Action) → event_of a ≡ event → ¬ (IsAllowed d v a)

-- the view with another claim
abbrev pub with_claim : View → Option Claiming → View
with_claim v claim = record v { claim = claim }

-- the view with another holding
abbrev pub with_hold : View → Option Holding → View
with_hold v hold = record v { hold = hold }

-- by whether the number drawn is a turn: it is claimed, or the worker is done
abbrev pub after_claim_if : Bool → View → ℕ → View
after_claim_if true v k =
    record v {
      claim = claim_at k 0 false false;
      own = v.own ++ record { turn = k; place = None } ∷ [];
    }
after_claim_if false v k = record v { done = true }

-- the view after drawing this number
abbrev pub after_claim : Dictatorship → View → ℕ → View
after_claim d v k = after_claim_if (nat_lt k (turn_count d)) v k

-- whether the flag of programme p stands in this word, which is that of a group, and is raised
abbrev pub is_raised_among : ℕ → ℕ → ℕ → Bool
is_raised_among group word p = (flag_group p == group) && is_raised_in word p

-- the least place from j on of turn k's list whose entry has its flag in another word than the
-- entry at j, or lowered in this one; or the list's length
abbrev pub place_past_flags : Dictatorship → ℕ → ℕ → ℕ → ℕ
place_past_flags d k j word =
    j + position_or_len (λ p. not (is_raised_among (flag_group (entry d k j)) word p))
    (drop j (list_at d k))

-- whether there is an entry at place i, whose flag stands in the word of that at place j
abbrev pub shares_flag_word : Dictatorship → ℕ → ℕ → ℕ → Bool
shares_flag_word d k j i =
    nat_lt i (length (list_at d k)) && (flag_group (entry d k i) == flag_group (entry d k j))

-- the claim after a look at the flags from place j on, in this word
abbrev pub claim_past_flags : Dictatorship → ℕ → ℕ → ℕ → Claiming
claim_past_flags d k j word =
    record {
      turn = k;
      passed = place_past_flags d k j word;
      looked = shares_flag_word d k j (place_past_flags d k j word);
      met = false;
    }

-- the view after it
abbrev pub after_flags : Dictatorship → View → ℕ → ℕ → ℕ → View
after_flags d v k j word = with_claim v (Some (claim_past_flags d k j word))

-- by whether the entry at place j has a seat left: it is met, or passed
abbrev pub after_read : Bool → View → ℕ → ℕ → View
after_read true v k j = with_claim v (claim_at k j true true)
after_read false v k j = with_claim v (claim_at k (j + 1) false false)

-- the last of these turns is posted at place j
abbrev pub with_place : List OwnTurn → ℕ → List OwnTurn
with_place [] j = []
with_place (x ∷ []) j = record { turn = x.turn; place = Some j } ∷ []
with_place (x ∷ y ∷ ys) j = x ∷ with_place (y ∷ ys) j

-- the view after a post at place j
abbrev pub after_post : View → ℕ → View
after_post v j = record v { claim = None; own = with_place v.own j; owes = true }

-- by whether the mark was held: the try is made, and else the mark is this worker's
abbrev pub after_take : View → Bool → ℕ → View
after_take v true c = record v { owes = false }
after_take v false c = record v { owes = false; hold = hold_at c Idle }

-- the phase after a look at this cell
abbrev pub phase_after_look : Cell → Phase
phase_after_look (Posted j) = Scan j
phase_after_look _ = Halted

-- the phase after the entry at place j was weighed, by whether it has a seat left
abbrev pub phase_after_weigh : Bool → ℕ → Phase
phase_after_weigh true j = Ready j
phase_after_weigh false j = Scan (j + 1)

-- whether a programme is full once one more seat is taken
abbrev pub is_last_seat : Dictatorship → Core → ℕ → Bool
is_last_seat d c p = nat_le (quota_of d p) (seats_of c p + 1)

-- the view of a worker after it acts so
abbrev pub view_after : Dictatorship → Core → View → Action → View
view_after d c v Claims = after_claim d v c.claim_number
view_after d c v (ReadsFlags k j) =
    after_flags d v k j (slice_index c.flags (flag_group (entry d k j)))
view_after d c v (Reads k j) = after_read (is_open d c (entry d k j)) v k j
view_after d c v (Posts k j looked met) = after_post v j
view_after d c v Takes = after_take v c.mark_held c.mark_number
view_after d c v (Looks h) = with_hold v (hold_at h (phase_after_look (cell_at c h)))
view_after d c v (Weighs h j) =
    with_hold v (hold_at h (phase_after_weigh (is_open d c (entry d h j)) j))
view_after d c v (Seats h j) =
    with_hold v (hold_at h (Seated j (is_last_seat d c (entry d h j))))
view_after d c v (Raises h j) = with_hold v (hold_at h (Raised j))
view_after d c v (Seals h j phase) = with_hold v (hold_at (h + 1) Idle)
view_after d c v (Releases h phase) = with_hold v None

-- what is shared, after an action: four only read, and each other writes one word
abbrev pub words_after : Dictatorship → Core → Action → Core
words_after d c Claims = record c { claim_number = c.claim_number + 1 }
words_after d c (ReadsFlags k j) = c
words_after d c (Reads k j) = c
words_after d c (Posts k j looked met) = record c { cells = slice_set c.cells k (Posted j) }
words_after d c Takes = record c { mark_held = true }
words_after d c (Looks h) = c
words_after d c (Weighs h j) = c
words_after d c (Seats h j) =
    record c { seats = slice_set c.seats (entry d h j) (seats_of c (entry d h j) + 1) }
words_after d c (Raises h j) =
    record c {
      flags =
          slice_set c.flags (flag_group (entry d h j))
          (with_flag (slice_index c.flags (flag_group (entry d h j))) (entry d h j));
    }
words_after d c (Seals h j phase) = record c { cells = slice_set c.cells h (Committed j) }
words_after d c (Releases h phase) = record c { mark_held = false; mark_number = h }

-- the state after the worker i, whose view is v, acts so
abbrev pub after : Dictatorship → Core → ℕ → View → Action → Core
after d c i v a =
    record (words_after d c a) { views = slice_set c.views i (view_after d c v a) }

-- what a draw tells, by whether the number drawn is a turn
abbrev pub told_of_claim : Bool → ℕ → Told
told_of_claim true k = tells.Claimed k
told_of_claim false k = tells.NoTurn

-- what a reading tells, by whether the entry has a seat left
abbrev pub told_of_read : Bool → Told
told_of_read true = tells.Met
told_of_read false = tells.Passed

-- what a try on the mark tells, by whether it was held
abbrev pub told_of_take : Bool → ℕ → Told
told_of_take true c = tells.Missed
told_of_take false c = tells.Took c

-- what a look at this cell tells
abbrev pub told_of_look : Cell → Told
told_of_look (Posted j) = tells.Found j
told_of_look _ = tells.Nothing

-- what weighing tells, by whether the entry has a seat left
abbrev pub told_of_weigh : Bool → Told
told_of_weigh true = tells.Room
told_of_weigh false = tells.Full

-- what an action tells
abbrev pub told_by : Dictatorship → Core → Action → Told
told_by d c Claims = told_of_claim (nat_lt c.claim_number (turn_count d)) c.claim_number
told_by d c (ReadsFlags k j) = tells.Flags (slice_index c.flags (flag_group (entry d k j)))
told_by d c (Reads k j) = told_of_read (is_open d c (entry d k j))
told_by d c (Posts k j looked met) = tells.Posted j
told_by d c Takes = told_of_take c.mark_held c.mark_number
told_by d c (Looks h) = told_of_look (cell_at c h)
told_by d c (Weighs h j) = told_of_weigh (is_open d c (entry d h j))
told_by d c (Seats h j) = tells.Seated (is_last_seat d c (entry d h j))
told_by d c (Raises h j) = tells.Raised (entry d h j)
told_by d c (Seals h j phase) = tells.Sealed h
told_by d c (Releases h phase) = tells.Released h
