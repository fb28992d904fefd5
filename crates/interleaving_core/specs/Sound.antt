-- When a core state is sound.
use Rattle.std.specs.Prelude.{◌≡◌, ℕ, ◌+◌, ◌<◌, ◌*◌, ◌≤◌, ◌⊎◌, ◌++◌, ◌==◌, Bool, true, false, nat_le, List, [], ◌∷◌, length, slice_get, slice_index, slice_index_or, Option, Some, None}
use Rattle.std.specs.List.{sum_by}
use Rattle.std.specs.Int.{bit_at}
use Rattle.market.specs.Dictatorships.{Dictatorship, list_at, choice, seats_taken}
use Rattle.interleaving_core.specs.declared.limits.TheConstants.{FLAGS_PER_WORD}
use Rattle.interleaving_core.specs.declared.parts.Cell.{Cell}
use Rattle.interleaving_core.specs.declared.parts.Cell.TheVariants.{Empty, Posted, Committed}
use Rattle.interleaving_core.specs.declared.parts.Claiming.{Claiming}
use Rattle.interleaving_core.specs.declared.parts.OwnTurn.{OwnTurn}
use Rattle.interleaving_core.specs.declared.parts.Phase.{Phase}
use Rattle.interleaving_core.specs.declared.parts.Phase.TheVariants.{Idle, Halted, Scan, Ready, Seated, Raised}
use Rattle.interleaving_core.specs.declared.parts.Holding.{Holding}
use Rattle.interleaving_core.specs.Flags.{flag_word_count, flag_group, is_raised_in}
use Rattle.interleaving_core.specs.Core.{View, Core, turn_count, entry, quota_of, seats_of, cell_at, is_committed}

-- 1 for true
abbrev pub bit : Bool → ℕ
bit true = 1
bit false = 0

-- 1 where there is something
abbrev pub some_bit : {A : Type 0} → Option A → ℕ
some_bit None = 0
some_bit (Some _) = 1

-- 1 for an empty cell
abbrev pub empty_bit : Cell → ℕ
empty_bit Empty = 1
empty_bit _ = 0

-- 1 for a view that holds the mark
abbrev pub hold_bit : View → ℕ
hold_bit v = some_bit v.hold

-- 1 for a view that is done
abbrev pub done_bit : View → ℕ
done_bit v = bit v.done

-- 1 for a claim of turn k
abbrev pub turn_bit : ℕ → Option Claiming → ℕ
turn_bit k None = 0
turn_bit k (Some x) = bit (k == x.turn)

-- 1 for a view that claims turn k
abbrev pub claim_bit : ℕ → View → ℕ
claim_bit k v = turn_bit k v.claim

-- 1 where a seat of p is taken in this phase for a turn c that is not committed yet
abbrev pub phase_seat_bit : Dictatorship → ℕ → ℕ → Phase → ℕ
phase_seat_bit d p c Idle = 0
phase_seat_bit d p c Halted = 0
phase_seat_bit d p c (Scan j) = 0
phase_seat_bit d p c (Ready j) = 0
phase_seat_bit d p c (Seated j filled) = bit (entry d c j == p)
phase_seat_bit d p c (Raised j) = bit (entry d c j == p)

-- the same for what a holder knows
abbrev pub holder_seat_bit : Dictatorship → ℕ → Option Holding → ℕ
holder_seat_bit d p None = 0
holder_seat_bit d p (Some h) = phase_seat_bit d p h.committed h.phase

-- the same for a view
abbrev pub seat_bit : Dictatorship → ℕ → View → ℕ
seat_bit d p v = holder_seat_bit d p v.hold

-- 1 where p was just filled in this phase for turn c, and its flag is not raised yet
abbrev pub phase_late_bit : Dictatorship → ℕ → ℕ → Phase → ℕ
phase_late_bit d p c Idle = 0
phase_late_bit d p c Halted = 0
phase_late_bit d p c (Scan j) = 0
phase_late_bit d p c (Ready j) = 0
phase_late_bit d p c (Seated j false) = 0
phase_late_bit d p c (Seated j true) = bit (entry d c j == p)
phase_late_bit d p c (Raised j) = 0

-- the same for what a holder knows
abbrev pub holder_late_bit : Dictatorship → ℕ → Option Holding → ℕ
holder_late_bit d p None = 0
holder_late_bit d p (Some h) = phase_late_bit d p h.committed h.phase

-- the same for a view
abbrev pub late_bit : Dictatorship → ℕ → View → ℕ
late_bit d p v = holder_late_bit d p v.hold

-- the seats of p that the fill and the first k turns take
abbrev pub seats_after : Dictatorship → ℕ → ℕ → ℕ
seats_after d k p = slice_index d.fill p + seats_taken d k p

-- each of the first j entries of turn k is full
abbrev pub IsFullBefore : Dictatorship → Core → ℕ → ℕ → Type 0
IsFullBefore d c k j = (i : ℕ) → i < j → quota_of d (entry d k i) ≤ seats_of c (entry d k i)

-- the turn h is posted at a place not after j
abbrev pub IsPostedUpTo : Dictatorship → Core → ℕ → ℕ → Type 0
IsPostedUpTo d c h j = (h < turn_count d) × ((i : ℕ) × (cell_at c h ≡ Posted i) × (i ≤ j))

-- what the holder knows of turn h, the first that is not committed
abbrev pub IsSoundPhase : Dictatorship → Core → ℕ → Phase → Type 0
IsSoundPhase d c h Idle = Unit {0}
IsSoundPhase d c h Halted = Unit {0}
IsSoundPhase d c h (Scan j) =
    IsPostedUpTo d c h j × (j ≤ length (list_at d h)) × IsFullBefore d c h j
IsSoundPhase d c h (Ready j) =
    IsPostedUpTo d c h j × (j < length (list_at d h)) × (choice d h ≡ j)
IsSoundPhase d c h (Seated j filled) =
    IsPostedUpTo d c h j × (j < length (list_at d h)) × (choice d h ≡ j)
    × (filled ≡ nat_le (quota_of d (entry d h j)) (seats_of c (entry d h j)))
IsSoundPhase d c h (Raised j) =
    IsPostedUpTo d c h j × (j < length (list_at d h)) × (choice d h ≡ j)
    × (quota_of d (entry d h j) ≤ seats_of c (entry d h j))

-- the cell is posted at place j, or committed there or later
abbrev pub IsCellFrom : Cell → ℕ → Type 0
IsCellFrom Empty j = ⊥
IsCellFrom (Posted i) j = i ≡ j
IsCellFrom (Committed i) j = j ≤ i

-- an own turn is the claimed one, without a place, or it was posted
abbrev pub IsSoundOwnTurn : Core → Option Claiming → OwnTurn → Type 0
IsSoundOwnTurn c claim x =
    ((x.place ≡ None) × ((y : Claiming) × (claim ≡ Some y) × (y.turn ≡ x.turn)))
    ⊎ ((j : ℕ) × (x.place ≡ Some j) × IsCellFrom (cell_at c x.turn) j)

-- the own turns were drawn, rise strictly, and end with the claimed turn
pub record AreSoundOwnTurns (d : Dictatorship) (c : Core) (own : List OwnTurn)
    (claim : Option Claiming) : Type 0 where
  pub each : (i : ℕ) (x : OwnTurn) → slice_get own i ≡ Some x
      → (x.turn < turn_count d) × (x.turn < c.claim_number) × IsSoundOwnTurn c claim x
  pub rise : (i j : ℕ) (x y : OwnTurn) → slice_get own i ≡ Some x → slice_get own j ≡ Some y
      → i < j → x.turn < y.turn
  pub last : (y : Claiming) → claim ≡ Some y
      → (before : List OwnTurn) × (own ≡ before ++ record { turn = y.turn; place = None } ∷ [])

-- a claimed turn was drawn, and what the claim has passed is full
pub record IsSoundClaim (d : Dictatorship) (c : Core) (x : Claiming) : Type 0 where
  pub turn : x.turn < turn_count d
  pub drawn : x.turn < c.claim_number
  pub passed : x.passed ≤ length (list_at d x.turn)
  pub full : IsFullBefore d c x.turn x.passed
  pub met : x.met ≡ true → x.passed < length (list_at d x.turn)

-- the holder knows how many turns are committed, and of the next one what its phase says
pub record IsSoundHolding (d : Dictatorship) (c : Core) (count : ℕ) (h : Holding) : Type 0 where
  pub committed : h.committed ≡ count
  pub phase : IsSoundPhase d c h.committed h.phase

-- a worker claims, owes or holds, but no two of these; a done one neither claims nor owes
pub record DoesOneThing (v : View) : Type 0 where
  pub holder : (h : Holding) → v.hold ≡ Some h → v.claim ≡ None
  pub debtor : v.owes ≡ true → (v.claim ≡ None) × (v.hold ≡ None)
  pub leaver : v.done ≡ true → (v.claim ≡ None) × (v.owes ≡ false)

-- a view fits a state in which count turns are committed
pub record IsSoundView (d : Dictatorship) (c : Core) (count : ℕ) (v : View) : Type 0 where
  pub one : DoesOneThing v
  pub claim : (x : Claiming) → v.claim ≡ Some x → IsSoundClaim d c x
  pub hold : (h : Holding) → v.hold ≡ Some h → IsSoundHolding d c count h
  pub own : AreSoundOwnTurns d c v.own v.claim
  pub past : v.done ≡ true → turn_count d < c.claim_number

-- the mark's number is at most the true one, and is the true one where the mark is free; one view
-- holds a held mark, and none a free one
pub record IsSoundMark (d : Dictatorship) (held : Bool) (number : ℕ) (views : List View)
    (count : ℕ) : Type 0 where
  pub within : count ≤ turn_count d
  pub behind : number ≤ count
  pub free : held ≡ false → number ≡ count
  pub holders : sum_by hold_bit views ≡ bit held

-- there is a cell for each turn; the first ones are committed with their choices, and no other is
pub record AreSoundCells (d : Dictatorship) (cells : List Cell) (count : ℕ) : Type 0 where
  pub each_turn : length cells ≡ turn_count d
  pub below : (k : ℕ) → k < count → slice_index_or cells k Empty ≡ Committed (choice d k)
  pub above : (k : ℕ) → count ≤ k → is_committed (slice_index_or cells k Empty) ≡ false

-- there is a count for each programme: the seats that the committed turns take, and the one that
-- the holder has just taken
pub record AreSoundSeats (d : Dictatorship) (seats : List ℕ) (views : List View)
    (count : ℕ) : Type 0 where
  pub each_programme : length seats ≡ length d.quota
  pub counts : (p : ℕ) → p < length d.quota
      → slice_index seats p ≡ seats_after d count p + sum_by (seat_bit d p) views

-- there is a word for each 64 programmes or part of 64. The flag of a programme is raised exactly
-- where the programme is full, but that it is still lowered where the holder has just filled it;
-- and a bit that is no programme's flag is 0
pub record AreSoundFlags (d : Dictatorship) (flags : List ℕ) (seats : List ℕ)
    (views : List View) : Type 0 where
  pub each_group : length flags ≡ flag_word_count (length d.quota)
  pub raised : (p : ℕ) → p < length d.quota
      → bit (is_raised_in (slice_index flags (flag_group p)) p) + sum_by (late_bit d p) views
      ≡ bit (nat_le (quota_of d p) (slice_index seats p))
  pub unused : (group b : ℕ) → b < FLAGS_PER_WORD → length d.quota ≤ FLAGS_PER_WORD * group + b
      → bit_at (slice_index flags group) b ≡ 0
  pub narrow : (group b : ℕ) → FLAGS_PER_WORD ≤ b → bit_at (slice_index flags group) b ≡ 0

-- a posted place is one of the list or its length, and what lies before it is full
abbrev pub AreSoundPosts : Dictatorship → Core → Type 0
AreSoundPosts d c =
    (k j : ℕ) → cell_at c k ≡ Posted j → (j ≤ length (list_at d k)) × IsFullBefore d c k j

-- a drawn turn has an empty cell where one view claims it, and else nobody claims it; what is not
-- drawn is untouched; and a number past the turns was drawn only by who is done
pub record AreSoundClaims (d : Dictatorship) (claim_number : ℕ) (cells : List Cell)
    (views : List View) : Type 0 where
  pub claimed : (k : ℕ) → k < turn_count d → k < claim_number
      → sum_by (claim_bit k) views ≡ empty_bit (slice_index_or cells k Empty)
  pub untouched : (k : ℕ) → claim_number ≤ k → slice_index_or cells k Empty ≡ Empty
  pub few : claim_number ≤ turn_count d + sum_by done_bit views

-- the state is sound: `count` is the true number of committed turns, and all fits it
pub record IsSound (d : Dictatorship) (c : Core) : Type 0 where
  pub count : ℕ
  pub mark : IsSoundMark d c.mark_held c.mark_number c.views count
  pub cells : AreSoundCells d c.cells count
  pub seats : AreSoundSeats d c.seats c.views count
  pub flags : AreSoundFlags d c.flags c.seats c.views
  pub posts : AreSoundPosts d c
  pub claims : AreSoundClaims d c.claim_number c.cells c.views
  pub views : (i : ℕ) (v : View) → slice_get c.views i ≡ Some v → IsSoundView d c count v
