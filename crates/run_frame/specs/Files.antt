-- What reading files came to.
use Rattle.std.specs.Prelude.{◌≡◌, ◌≤◌, ◌<◌, ◌⊎◌, ℕ, ◌+◌, List, [], ◌∷◌, ◌++◌, length, Option, Some, None, Result, IfOk, IsErrOf, MatchResult, IfSome, option_map, Vec, vec_len, ⊤}
use Rattle.place_base.specs.declared.fault.FileKind.{FileKind}
use Rattle.place_edges.specs.Causes.{Rose}
use Rattle.place_edges.specs.Shelf.{Files, GaveMore, HasBytes, HasMore, IsWithin, file_limit, byte_count, piece_size, tally_with}
use Rattle.run_frame.specs.Meetings.{IsDecided, Meets}
use Rattle.run_frame.specs.Stops.{is_free, too_long}
use Rattle.run_frame.specs.declared.stop.FileStop.{FileStop}
use Rattle.run_frame.specs.declared.stop.FileStop.TheVariants.{Fault, ReadFault, Memory}

-- A moment of a shelf: how often a call has failed so far, and how many bytes were given.
pub record Moment : Type 0 where
  pub faults : ℕ
  pub tally : ℕ

-- that of a state
abbrev pub moment : {S : Type 0} → (S → ℕ) → (S → ℕ) → S → Moment
moment faults tally state = record { faults = faults state; tally = tally state }

-- why a file could not be read whole: only too long a file is a fault
abbrev pub IsUnread : Option Files → List ℕ → FileKind → FileStop → Type 0
IsUnread files name kind (Fault found) = (found ≡ too_long kind) × HasMore files name file_limit
IsUnread files name kind ReadFault = ⊤
IsUnread files name kind Memory = ⊤

-- No count of a shelf fell. No failed call is passed over: where there is an answer the count of
-- faults stands still. A read fault comes only where that count rose, and a file that is too long
-- only where the tally rose by more than 2^30.
pub record HasCauses {T S : Type 0} (stopped : FileStop → S) (result : Result T S)
    (before now : Moment) : Type 0 where
  pub faults : before.faults ≤ now.faults
  pub tally : before.tally ≤ now.tally
  pub quiet : IfOk result (λ _. now.faults ≡ before.faults)
  pub read : IsErrOf result (stopped ReadFault) → Rose before.faults now.faults
  pub long : (kind : FileKind) → IsErrOf result (stopped (Fault (too_long kind)))
      → GaveMore before.tally now.tally file_limit

-- What reading one file whole came to. What is given is the file, and what was taken is as much;
-- else it says why not. Whatever is answered, no more was taken than the file has, and each stop
-- has its cause in the counts. In no case were more bytes taken than one piece beyond 2^30, nor
-- more than 2^30 where a read failed or memory was refused, so that the reading of a file that is
-- too long, or whose last piece cannot be read, is not begun again. Memory is refused only where
-- bytes were taken.
pub record IsReadWhole {Z : Type 0} (told : Option Files) (name : List ℕ) (kind : FileKind)
    (result : Result (Vec ℕ Z) FileStop) (before now : Moment) : Type 0 where
  pub says : MatchResult result (λ bytes. HasBytes told name bytes.items)
      (λ stop. IsUnread told name kind stop)
  pub few : IfOk result (λ bytes. vec_len bytes ≤ file_limit)
  pub given : IfOk result (λ bytes. now.tally ≡ tally_with before.tally (vec_len bytes))
  pub within : IsWithin told name before.tally now.tally
  pub causes : HasCauses (λ stop. stop) result before now
  pub once : now.tally ≤ before.tally + file_limit + piece_size
  pub failed : IsErrOf result ReadFault → now.tally ≤ before.tally + file_limit
  pub refused : IsErrOf result Memory → now.tally ≤ before.tally + file_limit
  pub begun : IsErrOf result Memory → tally_with before.tally 1 ≤ now.tally

-- the bytes held under a name, none where there is no such file, if that is told
abbrev pub IsHeld : Option Files → List ℕ → Option (List ℕ) → Type 0
IsHeld told name held = IfSome told (λ files. files name ≡ held)

-- the tally rose by the bytes of a file; or, where it has more than 2^30, by more than that, by at
-- most one piece beyond it, and by no more than the file has
pub record IsTaken (bytes : List ℕ) (before now : ℕ) : Type 0 where
  pub short : length bytes ≤ file_limit → now ≡ tally_with before (length bytes)
  pub long : file_limit < length bytes → GaveMore before now file_limit
  pub once : file_limit < length bytes → now ≤ before + file_limit + piece_size
  pub within : now ≤ before + length bytes

-- the same of files that were read one after the other
abbrev pub AreTaken : List (List ℕ) → ℕ → ℕ → Type 0
AreTaken [] before now = now ≡ before
AreTaken (bytes ∷ files) before now =
    (between : ℕ) × IsTaken bytes before between × AreTaken files between now

-- how many bytes the next of these files has, none where there is none
abbrev pub next_length : List (List ℕ) → ℕ
next_length [] = 0
next_length (bytes ∷ files) = length bytes

-- Of these files some in front were each read once, and beside them no more bytes were taken than
-- the next one has, and at most 2^30.
pub record AreTakenUpTo (files : List (List ℕ)) (before now : ℕ) : Type 0 where
  pub front : List (List ℕ)
  pub behind : List (List ℕ)
  pub all : front ++ behind ≡ files
  pub between : ℕ
  pub taken : AreTaken front before between
  pub more : now ≤ between + file_limit
  pub next : now ≤ between + next_length behind

-- the reading of a file has begun: a byte was taken of it, or it has none
abbrev pub HasBegun : Option (List ℕ) → ℕ → ℕ → Type 0
HasBegun bytes before now = (bytes ≡ Some []) ⊎ (tally_with before 1 ≤ now)

-- What reading and judging one file came to: there are bytes, those held where that is told, by
-- which it meets what the file says, and they were taken once; where a read fault or want of memory
-- stands in place of that, no more were taken than the file has, and at most 2^30.
pub record IsJudged {T : Type 0} (told : Option Files) (name : List ℕ)
    (judge : List ℕ → Result T FileStop) (result : Result T FileStop)
    (before now : Moment) : Type 0 where
  pub bytes : Option (List ℕ)
  pub held : IsHeld told name bytes
  pub meets : Meets is_free (option_map judge bytes) result
  pub taken : (file : List ℕ) → bytes ≡ Some file → IsDecided is_free result
      → IsTaken file before.tally now.tally
  pub few : (IsDecided is_free result → ⊥) → now.tally ≤ before.tally + file_limit
  pub within : now.tally ≤ before.tally + byte_count bytes
  pub begun : (IsErrOf result ReadFault → ⊥) → HasBegun bytes before.tally now.tally
  pub causes : HasCauses (λ stop. stop) result before now

-- the bytes of the files of each kind, none where there is no such file
abbrev pub Reads : Type 0
Reads = FileKind → Option (List ℕ)

-- they are those held under the files' names, if that is told
abbrev pub AreHeld : Option Files → (FileKind → List ℕ) → Reads → Type 0
AreHeld told names reads =
    IfSome told (λ files. (kind : FileKind) → files (names kind) ≡ reads kind)

-- The bytes are those held under the files' names, if that is told; and the files that are read of
-- them were read once each, one after the other.
pub record AreReadOnce (told : Option Files) (names : FileKind → List ℕ)
    (files : Reads → List (List ℕ)) (reads : Reads) (before now : ℕ) : Type 0 where
  pub held : AreHeld told names reads
  pub taken : AreTaken (files reads) before now

-- the reading of the first file has begun, if there is one
abbrev pub FirstHasBegun : Option FileKind → Reads → ℕ → ℕ → Type 0
FirstHasBegun None reads before now = ⊤
FirstHasBegun (Some kind) reads before now = HasBegun (reads kind) before now
