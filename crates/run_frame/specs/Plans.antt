-- The plan of a run: which files it opens and what it says in the end. From the one plan follow
-- what is said over the bytes of the files, which files are read for it, which is opened first, and
-- which names may be opened.
use Rattle.std.specs.Prelude.{◌≡◌, ℕ, List, [], Bool, IsErrOf, IsTrue, Option, Some, None, Result, Ok, Err, ⊤}
use Rattle.place_base.specs.declared.fault.FileKind.{FileKind}
use Rattle.place_edges.specs.Shelf.{Files}
use Rattle.run_frame.specs.Files.{AreHeld, AreTaken, AreTakenUpTo, FirstHasBegun, HasCauses, IsHeld, Moment, Reads}
use Rattle.run_frame.specs.Meetings.{IsDecided, Meets}
use Rattle.run_frame.specs.Says.{opened, read_from}
use Rattle.run_frame.specs.Stops.{is_free_stop}
use Rattle.run_frame.specs.declared.stop.FileStop.{FileStop}
use Rattle.run_frame.specs.declared.stop.FileStop.TheVariants.{ReadFault}
use Rattle.run_frame.specs.declared.stop.Stop.{Stop}
use Rattle.run_frame.specs.declared.stop.Stop.TheVariants.{File}

-- A plan ends with an answer or a stop, and no file is opened any more; or it opens a file of a
-- kind, whose bytes say a stop, or a table with which the plan goes on.
pub data Plan (A W : Type 0) : Type 1 where
  ends : Result A (Stop W) → Plan A W
  opens : {T : Type 0} → FileKind → (List ℕ → Result T FileStop) → (T → Plan A W) → Plan A W

-- what is said over the bytes of the files, none where a file is missed before anything is refused
abbrev pub said : {A W : Type 0} → Plan A W → Reads → Option (Result A (Stop W))
said (ends result) reads = Some result
said (opens kind judge next) reads = opened (reads kind) judge (λ table. said (next table) reads)

-- the files that are read for it: each once, in this order
abbrev pub files_read : {A W : Type 0} → Plan A W → Reads → List (List ℕ)
files_read (ends result) reads = []
files_read (opens kind judge next) reads =
    read_from (reads kind) judge (λ table. files_read (next table) reads)

-- the kind of the file that is opened first, none where no file is asked for
abbrev pub first_file : {A W : Type 0} → Plan A W → Option FileKind
first_file (ends result) = None
first_file (opens kind judge next) = Some kind

-- The name of each file is granted where the files before it may have no fault. Where the shelf
-- tells no bytes these are the names of all files that the plan can reach.
abbrev pub MayOpen : {A W : Type 0} → Option Files → (List ℕ → Bool) → (FileKind → List ℕ)
    → Plan A W → Type 0
MayOpen told grants names (ends result) = ⊤
MayOpen told grants names (opens {T} kind judge next) =
    IsTrue (grants (names kind))
    × ((bytes : List ℕ) (table : T) → IsHeld told (names kind) (Some bytes)
    → judge bytes ≡ Ok table → MayOpen told grants names (next table))

-- the plan that opens one file, and ends with its table
abbrev pub file : {T W : Type 0} → FileKind → (List ℕ → Result T FileStop) → Plan T W
file kind judge = opens kind judge (λ table. ends (Ok table))

-- go on with the answer of a plan
abbrev pub and_then : {A B W : Type 0} → Plan A W → (A → Plan B W) → Plan B W
and_then (ends (Ok answer)) next = next answer
and_then (ends (Err stop)) next = ends (Err stop)
and_then (opens kind judge behind) next =
    opens kind judge (λ table. and_then (behind table) next)

-- an answer that is made of that of a plan
abbrev pub answered : {A B W : Type 0} → (A → B) → Plan A W → Plan B W
answered make plan = and_then plan (λ answer. ends (Ok (make answer)))

-- What reading files came to in a run: there are bytes for each kind of file, those held under the
-- files' names where that is told, such that the result meets what the plan says over them. Each
-- file up to the one that decides was read once; where a read fault or want of memory stands in
-- place of that, some in front were, and beside them no more bytes were taken than the next one
-- has, and at most 2^30. Memory is refused only once the reading of the first file has begun.
pub record AreRead {A W : Type 0} (told : Option Files) (names : FileKind → List ℕ)
    (plan : Plan A W) (result : Result A (Stop W)) (before now : Moment) : Type 0 where
  pub reads : Reads
  pub held : AreHeld told names reads
  pub meets : Meets is_free_stop (said plan reads) result
  pub taken : IsDecided is_free_stop result
      → AreTaken (files_read plan reads) before.tally now.tally
  pub once : AreTakenUpTo (files_read plan reads) before.tally now.tally
  pub begun : (IsErrOf result (File ReadFault) → ⊥)
      → FirstHasBegun (first_file plan) reads before.tally now.tally
  pub causes : HasCauses File result before now
