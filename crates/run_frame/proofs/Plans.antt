-- Laws of plans: what goes on behind a plan's answer is said and read behind it; a plan does not
-- depend on files that it does not open; what holds of each end holds of what is said; and a name
-- that a plan reaches is granted.
use Rattle.std.proofs.Common.{◌≡◌, ◌⊎◌, ◌∙◌, ℕ, List, [], ◌∷◌, ◌++◌, Option, Some, None, Result, Ok, Err, refl, ap, subst, inl, inr}
use Rattle.std.specs.Prelude.{Bool}
use Rattle.place_base.specs.declared.fault.FileKind.{FileKind}
use Rattle.place_edges.specs.Shelf.{Files}
use Rattle.run_frame.specs.Files.{AreHeld, IsHeld, Reads}
use Rattle.run_frame.specs.Plans.{MayOpen, Plan, and_then, ends, files_read, opens, said}
use Rattle.run_frame.specs.Says.{behind, opened, read_behind, read_from}
use Rattle.run_frame.specs.declared.stop.FileStop.{FileStop}
use Rattle.run_frame.specs.declared.stop.Stop.{Stop}
use Rattle.run_frame.specs.declared.stop.Stop.TheVariants.{File}

-- go on with an answer that is said
abbrev pub said_behind : {A B W : Type 0} → Option (Result A (Stop W))
    → (A → Option (Result B (Stop W))) → Option (Result B (Stop W))
said_behind None next = None
said_behind (Some (Err stop)) next = Some (Err stop)
said_behind (Some (Ok answer)) next = next answer

-- the files that are read behind it
abbrev pub files_behind : {A W : Type 0} → Option (Result A (Stop W)) → (A → List (List ℕ))
    → List (List ℕ)
files_behind None next = []
files_behind (Some (Err stop)) next = []
files_behind (Some (Ok answer)) next = next answer

behind-both : {T A B W : Type 0} (read : Result T FileStop) (first : T → Option (Result A (Stop W)))
    (next : A → Option (Result B (Stop W)))
    → behind read (λ table. said_behind (first table) next) ≡ said_behind (behind read first) next
behind-both (Err stop) first next = refl
behind-both (Ok table) first next = refl

opened-both : {T A B W : Type 0} (held : Option (List ℕ)) (judge : List ℕ → Result T FileStop)
    (first : T → Option (Result A (Stop W))) (next : A → Option (Result B (Stop W)))
    → opened held judge (λ table. said_behind (first table) next)
    ≡ said_behind (opened held judge first) next
opened-both None judge first next = refl
opened-both (Some bytes) judge first next = behind-both (judge bytes) first next

-- what is said behind a plan
pub said-then : {A B W : Type 0} (plan : Plan A W) (next : A → Plan B W) (reads : Reads)
    → said (and_then plan next) reads
    ≡ said_behind (said plan reads) (λ answer. said (next answer) reads)
said-then (ends (Ok answer)) next reads = refl
said-then (ends (Err stop)) next reads = refl
said-then (opens kind judge first) next reads =
    (λ j. opened (reads kind) judge (λ table. said-then (first table) next reads j))
    ∙ opened-both (reads kind) judge (λ table. said (first table) reads)
    (λ answer. said (next answer) reads)

read-both : {T A W : Type 0} (bytes : List ℕ) (read : Result T FileStop)
    (files : T → List (List ℕ)) (first : T → Option (Result A (Stop W)))
    (next : A → List (List ℕ))
    → bytes ∷ read_behind read (λ table. files table ++ files_behind (first table) next)
    ≡ (bytes ∷ read_behind read files) ++ files_behind (behind read first) next
read-both bytes (Err stop) files first next = refl
read-both bytes (Ok table) files first next = refl

from-both : {T A W : Type 0} (held : Option (List ℕ)) (judge : List ℕ → Result T FileStop)
    (files : T → List (List ℕ)) (first : T → Option (Result A (Stop W)))
    (next : A → List (List ℕ))
    → read_from held judge (λ table. files table ++ files_behind (first table) next)
    ≡ read_from held judge files ++ files_behind (opened held judge first) next
from-both None judge files first next = refl
from-both (Some bytes) judge files first next = read-both bytes (judge bytes) files first next

-- and which files are read
pub read-then : {A B W : Type 0} (plan : Plan A W) (next : A → Plan B W) (reads : Reads)
    → files_read (and_then plan next) reads
    ≡ files_read plan reads
    ++ files_behind (said plan reads) (λ answer. files_read (next answer) reads)
read-then (ends (Ok answer)) next reads = refl
read-then (ends (Err stop)) next reads = refl
read-then (opens kind judge first) next reads =
    (λ j. read_from (reads kind) judge (λ table. read-then (first table) next reads j))
    ∙ from-both (reads kind) judge (λ table. files_read (first table) reads)
    (λ table. said (first table) reads) (λ answer. files_read (next answer) reads)

-- each file that a plan opens is of a kind for which the test says so
abbrev pub OpensBy : {A W : Type 0} → (FileKind → Bool) → Bool → Plan A W → Type 0
OpensBy test side (ends result) = Unit {0}
OpensBy test side (opens {T} kind judge next) =
    (test kind ≡ side) × ((table : T) → OpensBy test side (next table))

-- files of those kinds are the same
abbrev pub AreSame : (FileKind → Bool) → Bool → Reads → Reads → Type 0
AreSame test side reads others = (kind : FileKind) → test kind ≡ side → reads kind ≡ others kind

module _ (test : FileKind → Bool) (side : Bool) (reads others : Reads)
    (same : AreSame test side reads others) where
  -- then the same is said
  pub same-said : {A W : Type 0} (plan : Plan A W) → OpensBy test side plan
      → said plan reads ≡ said plan others
  same-said (ends result) by = refl
  same-said (opens kind judge next) (is, by) =
      λ j. opened (same kind is j) judge (λ table. same-said (next table) (by table) j)

  -- and the same files are read
  pub same-files : {A W : Type 0} (plan : Plan A W) → OpensBy test side plan
      → files_read plan reads ≡ files_read plan others
  same-files (ends result) by = refl
  same-files (opens kind judge next) (is, by) =
      λ j. read_from (same kind is j) judge (λ table. same-files (next table) (by table) j)

-- each end of a plan is so
abbrev pub EndsSo : {A W : Type 0} → (Result A (Stop W) → Type 0) → Plan A W → Type 0
EndsSo Is (ends result) = Is result
EndsSo Is (opens {T} kind judge next) = (table : T) → EndsSo Is (next table)

behind-so : {T A W : Type 0} (Is : Result A (Stop W) → Type 0) (read : Result T FileStop)
    (next : T → Option (Result A (Stop W))) (result : Result A (Stop W))
    → ((stop : FileStop) → Is (Err (File stop)))
    → ((table : T) → next table ≡ Some result → Is result)
    → behind read next ≡ Some result → Is result
behind-so Is (Err stop) next result stops so e = subst Is (cc e) (stops stop)
behind-so Is (Ok table) next result stops so e = so table e

opened-so : {T A W : Type 0} (Is : Result A (Stop W) → Type 0) (held : Option (List ℕ))
    (judge : List ℕ → Result T FileStop) (next : T → Option (Result A (Stop W)))
    (result : Result A (Stop W)) → ((stop : FileStop) → Is (Err (File stop)))
    → ((table : T) → next table ≡ Some result → Is result)
    → opened held judge next ≡ Some result → Is result
opened-so Is None judge next result stops so e = cc e
opened-so Is (Some bytes) judge next result stops so e =
    behind-so Is (judge bytes) next result stops so e

-- what is said is so where each end is, and so is each stop of a file
pub ends-so : {A W : Type 0} (Is : Result A (Stop W) → Type 0) (plan : Plan A W) (reads : Reads)
    (result : Result A (Stop W)) → ((stop : FileStop) → Is (Err (File stop))) → EndsSo Is plan
    → said plan reads ≡ Some result → Is result
ends-so Is (ends end) reads result stops so e = subst Is (cc e) so
ends-so Is (opens kind judge next) reads result stops so e =
    opened-so Is (reads kind) judge (λ table. said (next table) reads) result stops
    (λ table. ends-so Is (next table) reads result stops (so table)) e

table-behind : {T A W : Type 0} (read : Result T FileStop) (next : T → Option (Result A (Stop W)))
    (answer : A) → behind read next ≡ Some (Ok answer)
    → (table : T) × (read ≡ Ok table) × (next table ≡ Some (Ok answer))
table-behind (Err stop) next answer e = cc e
table-behind (Ok table) next answer e = (table, refl, e)

-- where an answer is said in the end, a file was there, and said its table
pub said-from : {T A W : Type 0} (held : Option (List ℕ)) (judge : List ℕ → Result T FileStop)
    (next : T → Option (Result A (Stop W))) (answer : A)
    → opened held judge next ≡ Some (Ok answer)
    → (bytes : List ℕ) × (held ≡ Some bytes)
    × (table : T) × (judge bytes ≡ Ok table) × (next table ≡ Some (Ok answer))
said-from None judge next answer e = cc e
said-from (Some bytes) judge next answer e =
    let found = table-behind (judge bytes) next answer e in
    (bytes, refl, found.0, found.1, found.2)

-- an answer behind a plan is said behind the plan's answer
pub answer-behind : {A B W : Type 0} (said : Option (Result A (Stop W)))
    (next : A → Option (Result B (Stop W))) (end : B) → said_behind said next ≡ Some (Ok end)
    → (answer : A) × (said ≡ Some (Ok answer)) × (next answer ≡ Some (Ok end))
answer-behind None next end e = cc e
answer-behind (Some (Err stop)) next end e = cc e
answer-behind (Some (Ok answer)) next end e = (answer, refl, e)

-- and a stop behind a plan is the plan's, or it is said behind the plan's answer
pub stop-behind : {A B W : Type 0} (said : Option (Result A (Stop W)))
    (next : A → Option (Result B (Stop W))) (stop : Stop W)
    → said_behind said next ≡ Some (Err stop)
    → (said ≡ Some (Err stop))
    ⊎ ((answer : A) × (said ≡ Some (Ok answer)) × (next answer ≡ Some (Err stop)))
stop-behind None next stop e = cc e
stop-behind (Some (Err other)) next stop e =
    let same : other ≡ stop = cc e in inl (ap (λ v. Some (Err v)) same)
stop-behind (Some (Ok answer)) next stop e = inr (answer, refl, e)

-- the bytes of one kind of file are held under its name
pub held-at : (told : Option Files) (names : FileKind → List ℕ) (kind : FileKind) (reads : Reads)
    → AreHeld told names reads → IsHeld told (names kind) (reads kind)
held-at None names kind reads held = tt
held-at (Some files) names kind reads held = held kind

-- the names that a plan reaches alone are granted
pub may-front : {A B W : Type 0} (told : Option Files) (grants : List ℕ → Bool)
    (names : FileKind → List ℕ) (plan : Plan A W) (next : A → Plan B W)
    → MayOpen told grants names (and_then plan next) → MayOpen told grants names plan
may-front told grants names (ends result) next may = tt
may-front told grants names (opens kind judge first) next (granted, may) = (
  granted,
  λ bytes table held says. may-front told grants names (first table) next
      (may bytes table held says),
)

-- and so are those that are reached behind its answer
pub may-behind : {A B W : Type 0} (told : Option Files) (grants : List ℕ → Bool)
    (names : FileKind → List ℕ) (reads : Reads) → AreHeld told names reads
    → (plan : Plan A W) (next : A → Plan B W) (answer : A) → said plan reads ≡ Some (Ok answer)
    → MayOpen told grants names (and_then plan next) → MayOpen told grants names (next answer)
may-behind told grants names reads held (ends (Ok end)) next answer e may =
    subst (λ v. MayOpen told grants names (next v)) (cc e) may
may-behind told grants names reads held (ends (Err stop)) next answer e may = cc e
may-behind told grants names reads held (opens kind judge first) next answer e (granted, may) =
    let from = said-from (reads kind) judge (λ table. said (first table) reads) answer e in
    may-behind told grants names reads held (first from.2) next answer from.4
    (may from.0 from.2
    (subst (IsHeld told (names kind)) from.1 (held-at told names kind reads held)) from.3)
