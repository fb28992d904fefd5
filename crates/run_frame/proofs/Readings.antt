-- What reading files came to by a plan: one file that was read and judged, a plan behind it, and
-- the end.
use Rattle.std.proofs.Common.{◌≡◌, ◌∙◌, ℕ, ◌+◌, ◌≤◌, List, [], ◌∷◌, ◌++◌, Option, Some, None, Result, Ok, Err, IfOk, refl, sym, ap, subst, append_assoc, append-nil, inl, inr, arith, ⊎_elim}
use Rattle.std.specs.Prelude.{Bool, true, false, IsErrAnd, IsFalse, IsTrue, cond, nat_eq, nat_lt, option_map}
use Rattle.std.proofs.lemmas.Result.{IfOk-weaker}
use Rattle.place_base.specs.declared.fault.FileKind.{FileKind}
use Rattle.place_base.specs.declared.fault.FileKind.TheVariants as file
use Rattle.place_edges.specs.Shelf.{Files, GaveMore, file_limit, byte_count}
use Rattle.run_frame.specs.Files.{AreHeld, AreTaken, AreTakenUpTo, FirstHasBegun, HasBegun, HasCauses, IsHeld, IsJudged, IsTaken, Moment, Reads, next_length}
use Rattle.run_frame.specs.Meetings.{Meets}
use Rattle.run_frame.specs.Plans.{AreRead, MayOpen, Plan, and_then, answered, ends, files_read, first_file, opens, said}
use Rattle.run_frame.specs.Plans as plans
use Rattle.run_frame.specs.Says.{opened, read_from}
use Rattle.run_frame.specs.Stops.{is_free, is_free_stop, too_long}
use Rattle.run_frame.specs.declared.stop.FileStop.{FileStop}
use Rattle.run_frame.specs.declared.stop.FileStop.TheVariants.{Fault, ReadFault, Memory}
use Rattle.run_frame.specs.declared.stop.Stop.{Stop}
use Rattle.run_frame.specs.declared.stop.Stop.TheVariants.{File, Refused}
use Rattle.run_frame.proofs.Endings.{decided-said}
use Rattle.run_frame.proofs.Parts.{at-error, every-ok}
use Rattle.run_frame.proofs.Plans.{AreSame, OpensBy, files_behind, may-behind, read-then, said-then, said_behind, same-files, same-said}

-- a file that says its table is there
said-ok : {T : Type 0} (judge : List ℕ → Result T FileStop) (held : Option (List ℕ)) (table : T)
    → Meets is_free (option_map judge held) (Ok table)
    → (bytes : List ℕ) × (held ≡ Some bytes) × (judge bytes ≡ Ok table)
said-ok judge None table e = cc e
said-ok judge (Some bytes) table e = (bytes, refl, cc e)

-- of the first file so many bytes may be taken
none-taken : (files : List (List ℕ)) (before now : ℕ) → now ≤ before + file_limit
    → now ≤ before + next_length files → AreTakenUpTo files before now
none-taken files before now few within = record {
  front = [];
  behind = files;
  all = refl;
  between = before;
  taken = refl;
  more = few;
  next = within;
}

all-taken : (files : List (List ℕ)) (before now : ℕ) → AreTaken files before now
    → AreTakenUpTo files before now
all-taken files before now taken = record {
  front = files;
  behind = [];
  all = append-nil files;
  between = now;
  taken = taken;
  more = omega arith;
  next = omega arith;
}

-- files that end in a stop: all are taken where it decides, and else so many bytes of the first
up-to-stop : (files : List (List ℕ)) (stop : FileStop) (before now : ℕ)
    → (IsFalse (is_free stop) → AreTaken files before now)
    → ((IsFalse (is_free stop) → ⊥) → now ≤ before + file_limit) → now ≤ before + next_length files
    → AreTakenUpTo files before now
up-to-stop files (Fault found) before now taken few within =
    all-taken files before now (taken refl)
up-to-stop files ReadFault before now taken few within =
    none-taken files before now (few (λ decided. cc decided)) within
up-to-stop files Memory before now taken few within =
    none-taken files before now (few (λ decided. cc decided)) within

-- of the first file at most its bytes are taken
next-read : {T : Type 0} (judge : List ℕ → Result T FileStop) (next : T → List (List ℕ))
    (given held : Option (List ℕ)) (before now : ℕ) → given ≡ held → now ≤ before + byte_count held
    → now ≤ before + next_length (read_from given judge next)
next-read judge next None held before now same within =
    subst (λ v. now ≤ before + byte_count v) (sym same) within
next-read judge next (Some bytes) held before now same within =
    subst (λ v. now ≤ before + byte_count v) (sym same) within

-- no file is taken behind one that has a stop
taken-stop : {T : Type 0} (judge : List ℕ → Result T FileStop) (next : T → List (List ℕ))
    (given held : Option (List ℕ)) (stop : FileStop) (before now : ℕ) → given ≡ held
    → Meets is_free (option_map judge held) (Err stop)
    → ((bytes : List ℕ) → held ≡ Some bytes → IsFalse (is_free stop) → IsTaken bytes before now)
    → IsFalse (is_free stop) → AreTaken (read_from given judge next) before now
taken-stop judge next given held stop before now same (inl free) taken decided =
    cc (free, decided)
taken-stop judge next given None stop before now same (inr e) taken decided = cc e
taken-stop judge next given (Some bytes) stop before now same (inr e) taken decided =
    let says : judge bytes ≡ Err stop = cc e in
    rw same (rw says (now, taken bytes refl decided, refl))

-- a file that has a stop ends it there
opened-stop : {T U W : Type 0} (judge : List ℕ → Result T FileStop)
    (next : T → Option (Result U (Stop W))) (given held : Option (List ℕ)) (stop : FileStop)
    → given ≡ held → Meets is_free (option_map judge held) (Err stop)
    → Meets is_free_stop (opened given judge next) (Err (File stop))
opened-stop judge next given held stop same (inl allowed) = inl allowed
opened-stop judge next given None stop same (inr e) = cc e
opened-stop judge next given (Some bytes) stop same (inr e) =
    let says : judge bytes ≡ Err stop = cc e in inr (rw same (rw says refl))

-- files that are taken one behind the other
taken-both : (xs ys : List (List ℕ)) (before between now : ℕ) → AreTaken xs before between
    → AreTaken ys between now → AreTaken (xs ++ ys) before now
taken-both [] ys before between now first rest = subst (λ v. AreTaken ys v now) first rest
taken-both (x ∷ xs) ys before between now (at, taken, more) rest =
    (at, taken, taken-both xs ys at between now more rest)

-- and so are those in front of them
up-to-both : (xs ys : List (List ℕ)) (before between now : ℕ) → AreTaken xs before between
    → AreTakenUpTo ys between now → AreTakenUpTo (xs ++ ys) before now
up-to-both xs ys before between now first rest = record {
  front = xs ++ rest.front;
  behind = rest.behind;
  all = append_assoc xs rest.front rest.behind ∙ ap (λ v. xs ++ v) rest.all;
  between = rest.between;
  taken = taken-both xs rest.front before between rest.between first rest.taken;
  more = rest.more;
  next = rest.next;
}

-- further files behind do not make the next one shorter
next-behind : (xs ys : List (List ℕ)) → next_length xs ≤ next_length (xs ++ ys)
next-behind [] ys = omega arith
next-behind (x ∷ xs) ys = omega arith

up-to-first : (xs ys : List (List ℕ)) (before now : ℕ) → AreTakenUpTo xs before now
    → AreTakenUpTo (xs ++ ys) before now
up-to-first xs ys before now first = record {
  front = first.front;
  behind = first.behind ++ ys;
  all = sym (append_assoc first.front first.behind ys) ∙ ap (λ v. v ++ ys) first.all;
  between = first.between;
  taken = first.taken;
  more = first.more;
  next = omega (arith, first.next, next-behind first.behind ys);
}

-- what has begun by a count has begun by a later one
begun-later : (bytes : Option (List ℕ)) (before between now : ℕ) → between ≤ now
    → HasBegun bytes before between → HasBegun bytes before now
begun-later bytes before between now later begun =
    ⊎_elim (λ none. inl none) (λ rose. inr (omega (arith, later, rose))) begun

more-later : (first before now : ℕ) → first ≤ before → GaveMore before now file_limit
    → GaveMore first now file_limit
more-later first before now later more =
    ⊎_elim (λ many. inl (omega (arith, later, many))) (λ last. inr last) more

-- the causes of a file's stop are those of the run's
stop-causes : {T U W : Type 0} (stop : FileStop) (before now : Moment)
    → HasCauses {T = T} (λ v. v) (Err stop) before now
    → HasCauses {T = U} {S = Stop W} File (Err (File stop)) before now
stop-causes stop before now causes = record {
  faults = causes.faults;
  tally = causes.tally;
  quiet = tt;
  read = λ e. let same : stop ≡ ReadFault = cc e in causes.read (ap (λ v. Err v) same);
  long = λ kind e.
      let same : stop ≡ Fault (too_long kind) = cc e in
      causes.long kind (ap (λ v. Err v) same);
}

-- the causes of a stop are the same whatever there would be without it
causes-same : {T U W : Type 0} (stop : Stop W) (before now : Moment)
    → HasCauses {T = T} File (Err stop) before now → HasCauses {T = U} File (Err stop) before now
causes-same stop before now causes = record {
  faults = causes.faults;
  tally = causes.tally;
  quiet = tt;
  read = λ e. causes.read (ap (λ v. Err v) (cc e));
  long = λ kind e. causes.long kind (ap (λ v. Err v) (cc e));
}

-- causes are counted from before the files before them, none of whose calls failed
causes-later : {T W : Type 0} (result : Result T (Stop W)) (first before now : Moment)
    → before.faults ≡ first.faults → first.tally ≤ before.tally
    → HasCauses File result before now → HasCauses File result first now
causes-later result first before now same tally causes =
    record {
      faults = omega (arith, same, causes.faults);
      tally = omega (arith, tally, causes.tally);
      quiet = IfOk-weaker result _ _ (λ answer still. still ∙ same) causes.quiet;
      read = λ e. omega (arith, same, causes.read e);
      long = λ kind e. more-later first.tally before.tally now.tally tally (causes.long kind e);
    }

-- The result is no stop of a file: it is an answer, a refusal, or memory was refused.
abbrev pub NeedsNoCause : {A W : Type 0} → Result A (Stop W) → Type 0
NeedsNoCause (Ok answer) = Unit {0}
NeedsNoCause (Err (Refused refused)) = Unit {0}
NeedsNoCause (Err (File Memory)) = Unit {0}
NeedsNoCause (Err (File ReadFault)) = ⊥
NeedsNoCause (Err (File (Fault found))) = ⊥

-- then no cause is asked for
causes-none : {A W : Type 0} (result : Result A (Stop W)) (before now : Moment)
    → NeedsNoCause result → now.faults ≡ before.faults → before.tally ≤ now.tally
    → HasCauses File result before now
causes-none result before now free same tally = record {
  faults = omega (arith, same);
  tally = tally;
  quiet = every-ok result same;
  read = λ e. absurd (subst NeedsNoCause e free);
  long = λ kind e. absurd (subst NeedsNoCause e free);
}

-- the files that are held, where that is told, and else these bytes for each
abbrev one_read : Option Files → (FileKind → List ℕ) → Option (List ℕ) → Reads
one_read None names bytes = λ kind. bytes
one_read (Some files) names bytes = λ kind. files (names kind)

one-held : (told : Option Files) (names : FileKind → List ℕ) (bytes : Option (List ℕ))
    → AreHeld told names (one_read told names bytes)
one-held None names bytes = tt
one-held (Some files) names bytes = λ kind. refl

one-at : (told : Option Files) (names : FileKind → List ℕ) (kind : FileKind)
    (bytes : Option (List ℕ)) → IsHeld told (names kind) bytes
    → one_read told names bytes kind ≡ bytes
one-at None names kind bytes one = refl
one-at (Some files) names kind bytes one = one

-- the files that are held, where that is told, and else some of these and some of those
abbrev both_read : Option Files → (FileKind → Bool) → Reads → Reads → Reads
both_read None test reads others = λ kind. cond (test kind) (reads kind) (others kind)
both_read (Some files) test reads others = reads

both-held : (told : Option Files) (names : FileKind → List ℕ) (test : FileKind → Bool)
    (reads others : Reads) → AreHeld told names reads
    → AreHeld told names (both_read told test reads others)
both-held None names test reads others held = tt
both-held (Some files) names test reads others held = held

both-first : (told : Option Files) (test : FileKind → Bool) (reads others : Reads)
    → AreSame test true (both_read told test reads others) reads
both-first None test reads others = λ kind is. ap (λ v. cond v (reads kind) (others kind)) is
both-first (Some files) test reads others = λ kind is. refl

both-others : (told : Option Files) (names : FileKind → List ℕ) (test : FileKind → Bool)
    (reads others : Reads) → AreHeld told names reads → AreHeld told names others
    → AreSame test false (both_read told test reads others) others
both-others None names test reads others held given =
    λ kind is. ap (λ v. cond v (reads kind) (others kind)) is
both-others (Some files) names test reads others held given =
    λ kind is. sym (held kind) ∙ given kind

-- of the first file of a plan that opens files of these kinds
first-same : {A W : Type 0} (test : FileKind → Bool) (side : Bool) (reads others : Reads)
    → AreSame test side reads others → (plan : Plan A W) → OpensBy test side plan → (before now : ℕ)
    → FirstHasBegun (first_file plan) others before now
    → FirstHasBegun (first_file plan) reads before now
first-same test side reads others same (ends result) by before now begun = tt
first-same test side reads others same (opens kind judge next) (is, by) before now begun =
    subst (λ v. HasBegun v before now) (sym (same kind is)) begun

module _ {A W : Type 0} {told : Option Files} {names : FileKind → List ℕ} where
  -- a file that has a stop is the last that is read
  pub file-stops : {T : Type 0} {kind : FileKind} {judge : List ℕ → Result T FileStop}
      {stop : FileStop} {before now : Moment} (next : T → Plan A W)
      → IsJudged told (names kind) judge (Err stop) before now
      → AreRead told names (opens kind judge next) (Err (File stop)) before now
  file-stops {kind = kind} {judge = judge} {stop = stop} {before = before} {now = now} next one =
      let all = one_read told names one.bytes in
      let same = one-at told names kind one.bytes one.held in
      let taken = taken-stop judge (λ table. files_read (next table) all) (all kind) one.bytes stop
      before.tally now.tally same one.meets one.taken in
      record {
        reads = all;
        held = one-held told names one.bytes;
        meets = opened-stop judge (λ table. said (next table) all) (all kind) one.bytes stop same
            one.meets;
        taken = taken;
        once = up-to-stop _ stop before.tally now.tally taken one.few
            (next-read judge (λ table. files_read (next table) all) (all kind) one.bytes
            before.tally now.tally same one.within);
        begun = λ unread. subst (λ v. HasBegun v before.tally now.tally) (sym same)
            (one.begun (λ e. let is : stop ≡ ReadFault = cc e in
            unread (ap (λ v. Err (File v)) is)));
        causes = stop-causes stop before now one.causes;
      }

  -- a file that says its table was read
  pub file-read : {kind : FileKind} {judge : List ℕ → Result A FileStop} {table : A}
      {before now : Moment}
      → IsJudged told (names kind) judge (Ok table) before now
      → AreRead {W = W} told names (plans.file kind judge) (Ok table) before now
  file-read {kind = kind} {judge = judge} {table = table} {before = before} {now = now} one =
      let all = one_read told names one.bytes in
      let same = one-at told names kind one.bytes one.held in
      let found = said-ok judge one.bytes table one.meets in
      let taken : AreTaken (read_from (all kind) judge (λ table. [])) before.tally now.tally =
      rw same (rw found.1 (rw found.2 (now.tally, one.taken found.0 found.1 tt, refl))) in
      record {
        reads = all;
        held = one-held told names one.bytes;
        meets = rw same (rw found.1 (rw found.2 refl));
        taken = λ _. taken;
        once = all-taken _ before.tally now.tally taken;
        begun = λ unread. subst (λ v. HasBegun v before.tally now.tally) (sym same)
            (one.begun (λ e. cc e));
        causes = causes-none (Ok table) before now tt one.causes.quiet one.causes.tally;
      }

  -- Behind an answer, what the plan behind it comes to is what the whole plan comes to. The files
  -- in front are those of the kinds that a test tells, and those behind are others.
  pub plan-goes-on : {T B : Type 0} {kind : FileKind} {judge : List ℕ → Result T FileStop}
      {front : T → Plan A W} {answer : A} {result : Result B (Stop W)} {first before now : Moment}
      (test : FileKind → Bool) (next : A → Plan B W)
      → OpensBy test true (opens kind judge front) → OpensBy test false (next answer)
      → AreRead told names (opens kind judge front) (Ok answer) first before
      → AreRead told names (next answer) result before now
      → AreRead told names (and_then (opens kind judge front) next) result first now
  plan-goes-on {kind = kind} {judge = judge} {front = front} {answer = answer} {result = result}
      {first = first} {before = before} {now = now} test next by others one rest =
      let plan = opens kind judge front in
      let all = both_read told test one.reads rest.reads in
      let mine = both-first told test one.reads rest.reads in
      let given = both-others told names test one.reads rest.reads one.held rest.held in
      let says : said plan all ≡ Some (Ok answer) =
      same-said test true all one.reads mine plan by ∙ one.meets in
      let is : said (and_then plan next) all ≡ said (next answer) rest.reads =
      said-then plan next all ∙ ap (λ v. said_behind v (λ a. said (next a) all)) says
      ∙ same-said test false all rest.reads given (next answer) others in
      let files : files_read (and_then plan next) all
      ≡ files_read plan one.reads ++ files_read (next answer) rest.reads =
      read-then plan next all
      ∙ ap (λ v. files_read plan all ++ files_behind v (λ a. files_read (next a) all)) says
      ∙ (λ j. same-files test true all one.reads mine plan by j
      ++ same-files test false all rest.reads given (next answer) others j) in
      record {
        reads = all;
        held = both-held told names test one.reads rest.reads one.held;
        meets = subst (λ v. Meets is_free_stop v result) (sym is) rest.meets;
        taken = λ decided. subst (λ v. AreTaken v first.tally now.tally) (sym files)
            (taken-both _ _ first.tally before.tally now.tally (one.taken tt)
            (rest.taken decided));
        once = subst (λ v. AreTakenUpTo v first.tally now.tally) (sym files)
            (up-to-both _ _ first.tally before.tally now.tally (one.taken tt) rest.once);
        begun = λ unread. begun-later (all kind) first.tally before.tally now.tally
            rest.causes.tally
            (subst (λ v. HasBegun v first.tally before.tally) (sym (mine kind by.0))
            (one.begun (λ e. cc e)));
        causes = causes-later result first before now one.causes.quiet one.causes.tally
            rest.causes;
      }

  -- where the files in front have a stop, nothing is read behind them
  pub plan-stops : {T B : Type 0} {kind : FileKind} {judge : List ℕ → Result T FileStop}
      {front : T → Plan A W} {stop : Stop W} {before now : Moment} (next : A → Plan B W)
      → AreRead told names (opens kind judge front) (Err stop) before now
      → AreRead told names (and_then (opens kind judge front) next) (Err stop) before now
  plan-stops {kind = kind} {judge = judge} {front = front} {stop = stop} {before = before}
      {now = now} next one =
      let plan = opens kind judge front in
      let reads = one.reads in
      let files = read-then plan next reads in
      record {
        reads = reads;
        held = one.held;
        meets = ⊎_elim (λ free. inl free)
            (λ is. inr (said-then plan next reads
            ∙ ap (λ v. said_behind v (λ a. said (next a) reads)) is)) one.meets;
        taken = λ decided.
            let is = decided-said is_free_stop (said plan reads) stop decided one.meets in
            subst (λ v. AreTaken v before.tally now.tally)
            (sym (files
            ∙ ap (λ v. files_read plan reads ++ files_behind v (λ a. files_read (next a) reads)) is
            ∙ append-nil (files_read plan reads))) (one.taken decided);
        once = subst (λ v. AreTakenUpTo v before.tally now.tally) (sym files)
            (up-to-first (files_read plan reads) _ before.tally now.tally one.once);
        begun = λ unread. one.begun (λ e. unread (ap (λ v. Err v) (cc e)));
        causes = causes-same stop before now one.causes;
      }

  -- a plan that ends comes to its end, or to a stop that is free, with no file
  pub plan-ends : (end result : Result A (Stop W)) (now : Moment)
      → Meets is_free_stop (Some end) result → NeedsNoCause result
      → AreRead told names (ends end) result now now
  plan-ends end result now meets free = record {
    reads = one_read told names None;
    held = one-held told names None;
    meets = meets;
    taken = λ _. refl;
    once = none-taken [] now.tally now.tally (omega arith) (omega arith);
    begun = λ _. tt;
    causes = causes-none result now now free refl (omega arith);
  }

  -- an end behind an answer keeps what is promised of it over the same bytes
  pub plan-ends-so : {T B : Type 0} {kind : FileKind} {judge : List ℕ → Result T FileStop}
      {front : T → Plan A W} {answer : A} {before now : Moment}
      (finish : A → Result B (Stop W)) (Keeps : Reads → B → Type 0) (result : Result B (Stop W))
      → (one : AreRead told names (opens kind judge front) (Ok answer) before now)
      → Meets is_free_stop (Some (finish answer)) result → NeedsNoCause result
      → IfOk result (Keeps one.reads)
      → (all : AreRead told names (and_then (opens kind judge front) (λ a. ends (finish a))) result
      before now) × IfOk result (Keeps all.reads)
  plan-ends-so {kind = kind} {judge = judge} {front = front} {answer = answer} {before = before}
      {now = now} finish Keeps result one meets free kept =
      let plan = opens kind judge front in
      let reads = one.reads in
      let is : said (and_then plan (λ a. ends (finish a))) reads ≡ Some (finish answer) =
      said-then plan (λ a. ends (finish a)) reads
      ∙ ap (λ v. said_behind v (λ a. Some (finish a))) one.meets in
      let files : files_read (and_then plan (λ a. ends (finish a))) reads ≡ files_read plan reads =
      read-then plan (λ a. ends (finish a)) reads
      ∙ ap (λ v. files_read plan reads ++ files_behind v (λ a. [])) one.meets
      ∙ append-nil (files_read plan reads) in (
        record {
          reads = reads;
          held = one.held;
          meets = subst (λ v. Meets is_free_stop v result) (sym is) meets;
          taken = λ _. subst (λ v. AreTaken v before.tally now.tally) (sym files) (one.taken tt);
          once = subst (λ v. AreTakenUpTo v before.tally now.tally) (sym files) one.once;
          begun = λ _. one.begun (λ e. cc e);
          causes = causes-none result before now free one.causes.quiet one.causes.tally;
        },
        kept,
      )

  -- an answer is made of what was read, and keeps what is promised of it
  pub answer-made : {T B : Type 0} {kind : FileKind} {judge : List ℕ → Result T FileStop}
      {front : T → Plan A W} {read : A} {before now : Moment} (make : A → B)
      (Keeps : Reads → B → Type 0) (answer : B)
      → (one : AreRead told names (opens kind judge front) (Ok read) before now)
      → answer ≡ make read → Keeps one.reads answer
      → (all : AreRead told names (answered make (opens kind judge front)) (Ok answer) before now)
      × Keeps all.reads answer
  answer-made make Keeps answer one same kept =
      plan-ends-so (λ read. Ok (make read)) Keeps (Ok answer) one
      (ap (λ v. Some (Ok v)) (sym same)) tt kept

  -- where the files have a stop there is none
  pub answer-stopped : {T B : Type 0} {kind : FileKind} {judge : List ℕ → Result T FileStop}
      {front : T → Plan A W} {stop : Stop W} {before now : Moment} (make : A → B)
      → AreRead told names (opens kind judge front) (Err stop) before now
      → AreRead told names (answered make (opens kind judge front)) (Err stop) before now
  answer-stopped make one = plan-stops (λ read. ends (Ok (make read))) one

  -- and memory may be refused once the files are read
  pub answer-refused : {T B : Type 0} {kind : FileKind} {judge : List ℕ → Result T FileStop}
      {front : T → Plan A W} {read : A} {before now : Moment} (make : A → B)
      → AreRead told names (opens kind judge front) (Ok read) before now
      → AreRead told names (answered make (opens kind judge front)) (Err (File Memory)) before now
  answer-refused {B = B} make one =
      (plan-ends-so (λ read. Ok (make read)) (λ reads (answer : B). Unit {0}) (Err (File Memory))
      one (inl refl) tt tt).0

  -- the names that are reached behind an answer are granted
  pub may-go-on : {B : Type 0} {plan : Plan A W} {answer : A} {before now : Moment}
      (grants : List ℕ → Bool) (next : A → Plan B W)
      → MayOpen told grants names (and_then plan next)
      → AreRead told names plan (Ok answer) before now → MayOpen told grants names (next answer)
  may-go-on {plan = plan} {answer = answer} grants next may one =
      may-behind told grants names one.reads one.held plan next answer one.meets may

-- the place of a kind of file among the others
abbrev place : FileKind → ℕ
place file.Programmes = 0
place file.Candidates = 1
place file.Ranks = 2
place file.Placement = 3
place file.Registrations = 4

-- the kinds of file in front of this one
abbrev pub before_kind : FileKind → FileKind → Bool
before_kind kind other = nat_lt (place other) (place kind)

-- the kinds of file that are this one
abbrev pub same_kind : FileKind → FileKind → Bool
same_kind kind other = nat_eq (place kind) (place other)

kind-same : (kind : FileKind) → same_kind kind kind ≡ true
kind-same file.Programmes = refl
kind-same file.Candidates = refl
kind-same file.Ranks = refl
kind-same file.Placement = refl
kind-same file.Registrations = refl

module _ {A T W : Type 0} {told : Option Files} {names : FileKind → List ℕ} {kind : FileKind}
    {judge : List ℕ → Result T FileStop} {table : T} where
  -- Behind a file that says its table, what the plan behind it comes to is what the whole plan
  -- comes to. No file of its kind is opened behind it.
  pub file-goes-on : {result : Result A (Stop W)} {first before now : Moment} (next : T → Plan A W)
      → OpensBy (same_kind kind) false (next table)
      → IsJudged told (names kind) judge (Ok table) first before
      → AreRead told names (next table) result before now
      → AreRead told names (opens kind judge next) result first now
  file-goes-on next others one rest =
      plan-goes-on (same_kind kind) next (kind-same kind, λ _. tt) others (file-read one) rest

-- and what is known behind each table of it is known behind this one, as that names are granted
pub reached : {T : Type 0} {told : Option Files} {name : List ℕ}
    {judge : List ℕ → Result T FileStop} {table : T} {before now : Moment} {P : T → Type 0}
    → ((bytes : List ℕ) (given : T) → IsHeld told name (Some bytes) → judge bytes ≡ Ok given
    → P given)
    → IsJudged told name judge (Ok table) before now → P table
reached {told = told} {name = name} {judge = judge} {table = table} known one =
    let found = said-ok judge one.bytes table one.meets in
    known found.0 table (subst (IsHeld told name) found.1 one.held) found.2

-- what reading came to that ended in a stop, of a result that is this stop
pub stopped-as : {A W : Type 0} {told : Option Files} {names : FileKind → List ℕ} {plan : Plan A W}
    {before now : Moment} {stop : Stop W} {result : Result A (Stop W)}
    → IsErrAnd result (λ found. found ≡ stop)
    → AreRead told names plan (Err stop) before now → AreRead told names plan result before now
stopped-as {told = told} {names = names} {plan = plan} {before = before} {now = now} {stop = stop}
    {result = result} is reading =
    at-error (λ r. AreRead told names plan r before now) result stop is reading

-- a file is judged so under another name for the same things
pub judged-as : {T : Type 0} {told known : Option Files} {name word : List ℕ}
    {judge : List ℕ → Result T FileStop} {result : Result T FileStop} {before now : Moment}
    → told ≡ known → name ≡ word
    → IsJudged told name judge result before now → IsJudged known word judge result before now
judged-as {told = told} {word = word} {judge = judge} {result = result} {before = before}
    {now = now} e f one =
    subst (λ v. IsJudged v word judge result before now) e
    (subst (λ v. IsJudged told v judge result before now) f one)

-- a name that is granted stays so
pub granted-as : {grants later : List ℕ → Bool} {name word : List ℕ} → later ≡ grants
    → word ≡ name → IsTrue (grants name) → IsTrue (later word)
granted-as {grants = grants} {word = word} e f granted =
    subst (λ v. IsTrue (v word)) (sym e) (subst (λ v. IsTrue (grants v)) (sym f) granted)
