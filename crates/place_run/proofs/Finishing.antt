-- What a run leaves of a sink, and what follows where no read and no write failed.
use Rattle.std.specs.Prelude.{IsErrOf}
use Rattle.std.proofs.Common.{◌≡◌, ◌∙◌, ◌≤◌, ℕ, List, refl, sym, ap, subst, inl, inr, Option, Some, None, Result, Ok, Err, IfOk, ⊎_elim, ◌⊎◌}
use Rattle.place_base.specs.declared.fault.FileKind.TheVariants as file
use Rattle.command_words.specs.Words.{command_of}
use Rattle.command_words.specs.declared.words.Command.{Command}
use Rattle.command_words.specs.declared.words.Command.TheVariants.{Place, Base, Reasons, Audit, Fixed, Sweep, Second, Make}
use Rattle.command_words.specs.declared.words.WordsFault.{WordsFault}
use Rattle.place_edges.specs.Causes.{Rose}
use Rattle.place_edges.specs.Shelf.{Files}
use Rattle.place_edges.specs.Sink.{Appended}
use Rattle.programme_table.specs.Table.{codes_of}
use Rattle.candidate_table.specs.Table.{numbers_of}
use Rattle.run_frame.specs.Files.{AreHeld, Moment, Reads}
use Rattle.run_frame.specs.Meetings.{IsDecided, Meets}
use Rattle.run_frame.specs.declared.stop.FileStop.TheVariants.{Fault, ReadFault, Memory}
use Rattle.run_frame.specs.Runs.{IsDone, IsFinished, IsQuiet, IsWhole}
use Rattle.run_frame.specs.Plans.{Plan, ends as ends_with, said}
use Rattle.run_frame.proofs.Endings as frame
use Rattle.run_frame.proofs.Endings.{AreApart, answered-finished, refused-said, stopped, whole-run}
use Rattle.run_frame.proofs.JudgedTables.{judged-ok}
use Rattle.run_frame.proofs.Plans.{EndsSo, ends-so, said-then, said_behind, stop-behind}
use Rattle.place_run.specs.Runs.{AreFilesRead, HasStatusCause, IsAnsweredRun, IsComplete, LeavesSink, PlacesWhole, PrintsAnswer, PrintsReports, PrintsSecond, PrintsSummary, PrintsSweep, PrintsText, PrintsVerdict, PrintsWorstStable, ReadsNothing, RunsWithoutFile, SweepsFound, SweepsWhole, endings}
use Rattle.place_run.specs.Answers.{Answer, done}
use Rattle.place_run.specs.Says.{KeepsPromise, named, plan, tables_plan}
use Rattle.place_run.specs.Statuses.{ended, status_of}
use Rattle.run_frame.specs.Stops.{is_free_stop}
use Rattle.place_run.specs.Tables.{HasNoFault, Tables, ThreeFiles, candidates_said, codes_in, numbers_in, programmes_said, ranks_said, tables_in}
use Rattle.place_run.specs.commands.Audit.{IsAudit}
use Rattle.place_run.specs.commands.Base.{IsBaseText}
use Rattle.place_run.specs.commands.Fixed.{IsFixedText}
use Rattle.place_run.specs.commands.Make.{summary_of}
use Rattle.place_run.specs.commands.Place.{AreThree, IsWorstStableText, printed_placement}
use Rattle.place_run.specs.commands.Reasons.{IsReasonsText}
use Rattle.place_run.specs.commands.Second.{IsSecond}
use Rattle.place_run.specs.commands.Sweep.{IsSweepText, IsWithoutProgramme, programme_with, rows_or_none, sweep_of, swept}
use Rattle.place_run.specs.declared.status.Ending.{Ending}
use Rattle.place_run.specs.declared.status.Ending.TheVariants as ending
use Rattle.place_run.specs.declared.status.Refusal.{Refusal}
use Rattle.place_run.specs.declared.status.Refusal.TheVariants.{Words, NoProgramme}
use Rattle.place_run.specs.declared.status.Status.{Status}
use Rattle.place_run.specs.declared.status.Status.TheVariants as ends
use Rattle.run_frame.specs.declared.stop.Stop.{Stop}
use Rattle.run_frame.specs.declared.stop.Stop.TheVariants.{Refused, File}
use Rattle.place_run.proofs.Headline.{printed-in}
use Rattle.place_run.proofs.Sweeps.{without-programme}

-- the stop of a status, if it is that of one
abbrev stop_in : Status → Option (Stop Refusal)
stop_in ends.Done = None
stop_in (ends.Words refused) = Some (Refused (Words refused))
stop_in (ends.FileFault found) = Some (File (Fault found))
stop_in ends.ReadFault = Some (File ReadFault)
stop_in ends.WriteFault = None
stop_in ends.Memory = Some (File Memory)
stop_in ends.AuditNo = None
stop_in (ends.NoProgramme code) = Some (Refused (NoProgramme code))

stop-in : (stop : Stop Refusal) → stop_in (status_of stop) ≡ Some stop
stop-in (Refused (Words refused)) = refl
stop-in (Refused (NoProgramme code)) = refl
stop-in (File (Fault found)) = refl
stop-in (File ReadFault) = refl
stop-in (File Memory) = refl

-- an answer that is written whole ends in no stop, and in no write fault
ended-well : (end : Ending) → (stop_in (ended end) ≡ None) × (ended end ≡ ends.WriteFault → ⊥)
ended-well ending.Done = (refl, λ e. cc e)
ended-well ending.AuditNo = (refl, λ e. cc e)

-- two ends with one status are the same
ended-same : (one other : Ending) → ended one ≡ ended other → one ≡ other
ended-same ending.Done ending.Done e = refl
ended-same ending.Done ending.AuditNo e = cc e
ended-same ending.AuditNo ending.Done e = cc e
ended-same ending.AuditNo ending.AuditNo e = refl

-- the statuses of the ends are apart
are-apart : AreApart endings
are-apart = record {
  stop_in = stop_in;
  stop = stop-in;
  done = λ answer. (ended-well answer.ending).0;
  fault = refl;
  whole = λ answer. (ended-well answer.ending).1;
}

-- a result is no refusal, and no answer that ends otherwise than well
abbrev IsPlain : Result Answer (Stop Refusal) → Type 0
IsPlain (Ok ready) = ready.ending ≡ ending.Done
IsPlain (Err (Refused refused)) = ⊥
IsPlain (Err (File stop)) = Unit {0}

plain : (plan : Plan Answer Refusal) (reads : Reads) (result : Result Answer (Stop Refusal))
    → EndsSo IsPlain plan → said plan reads ≡ Some result → IsPlain result
plain plan reads result so e = ends-so IsPlain plan reads result (λ stop. tt) so e

-- what is known where a refusal is said: the words give no command, and with this fault; or they
-- ask for the quotas of a programme that the files, which have no fault, do not have
abbrev RefusedBy : Result Command WordsFault → Reads → Refusal → Type 0
RefusedBy command reads (Words fault) = command ≡ Err fault
RefusedBy command reads (NoProgramme code) =
    (low high workers : ℕ) × (command ≡ Ok (Sweep code low high workers))
    × IsWithoutProgramme code reads

-- three files are read without a refusal
says-no-refusal : (reads : Reads) (refused : Refusal)
    → said tables_plan reads ≡ Some (Err (Refused refused)) → ⊥
says-no-refusal reads refused e =
    ends-so (λ result. IsErrOf result (Refused refused) → ⊥) tables_plan reads _ (λ stop e. cc e)
    (λ p c r e. cc e) e refl

-- a sweep refuses the code where no programme was found for it
rows-refused : (code low high : ℕ) (tables : Tables) (found : Option ℕ) (refused : Refusal)
    → Some (rows_or_none code low high tables found) ≡ Some (Err (Refused refused))
    → (NoProgramme code ≡ refused) × (found ≡ None)
rows-refused code low high tables None refused e = (cc e, refl)
rows-refused code low high tables (Some p) refused e = cc e

-- only words that give no command are refused as such, and only a sweep says that no programme has
-- a code
says-refused : (command : Result Command WordsFault) (reads : Reads) (refused : Refusal)
    → said (plan command) reads ≡ Some (Err (Refused refused)) → RefusedBy command reads refused
says-refused (Err other) reads refused e =
    let same : Words other ≡ refused = cc e in subst (RefusedBy (Err other) reads) same refl
says-refused (Ok (Place workers)) reads refused e =
    absurd (plain (plan (Ok (Place workers))) reads _ (λ p c r. refl) e)
says-refused (Ok (Base workers)) reads refused e =
    absurd (plain (plan (Ok (Base workers))) reads _ (λ p c r. refl) e)
says-refused (Ok (Reasons workers)) reads refused e =
    absurd (plain (plan (Ok (Reasons workers))) reads _ (λ p c r. refl) e)
says-refused (Ok (Fixed workers)) reads refused e =
    absurd (plain (plan (Ok (Fixed workers))) reads _ (λ p c r. refl) e)
says-refused (Ok (Sweep code low high workers)) reads refused e =
    ⊎_elim (λ stopped. absurd (says-no-refusal reads refused stopped))
    (λ behind.
    let codes = codes_of behind.0.programmes.rows in
    let found = rows-refused code low high behind.0 (programme_with code codes) refused behind.2 in
    subst (RefusedBy (Ok (Sweep code low high workers)) reads) found.0
    (low, high, workers, refl, without-programme reads behind.0 code behind.1 found.1))
    (stop-behind (said tables_plan reads) (λ tables. Some (swept code low high tables))
    (Refused refused)
    (sym (said-then tables_plan (λ tables. ends_with (swept code low high tables)) reads) ∙ e))
says-refused (Ok (Audit workers)) reads refused e =
    absurd (ends-so (λ result. IsErrOf result (Refused refused) → ⊥) (plan (Ok (Audit workers)))
    reads _ (λ stop e. cc e) (λ p c r h e. cc e) e refl)
says-refused (Ok (Second workers)) reads refused e =
    absurd (ends-so (λ result. IsErrOf result (Refused refused) → ⊥) (plan (Ok (Second workers)))
    reads _ (λ stop e. cc e) (λ p c r h n e. cc e) e refl)
says-refused (Ok (Make seed candidates programmes types workers)) reads refused e = cc e

-- an answer ends well, if it is one
abbrev EndsWell : Result Answer (Stop Refusal) → Type 0
EndsWell (Ok ready) = ready.ending ≡ ending.Done
EndsWell (Err stop) = Unit {0}

rows-end-well : (code low high : ℕ) (tables : Tables) (found : Option ℕ)
    → EndsWell (rows_or_none code low high tables found)
rows-end-well code low high tables None = tt
rows-end-well code low high tables (Some p) = refl

-- only `audit` and `second` end otherwise than well
says-unstable : (command : Result Command WordsFault) (reads : Reads) (ready : Answer)
    → said (plan command) reads ≡ Some (Ok ready) → ready.ending ≡ ending.AuditNo
    → (workers : ℕ) × ((command ≡ Ok (Audit workers)) ⊎ (command ≡ Ok (Second workers)))
says-unstable (Err refused) reads ready e is = cc e
says-unstable (Ok (Place workers)) reads ready e is =
    cc (sym (plain (plan (Ok (Place workers))) reads _ (λ p c r. refl) e) ∙ is)
says-unstable (Ok (Base workers)) reads ready e is =
    cc (sym (plain (plan (Ok (Base workers))) reads _ (λ p c r. refl) e) ∙ is)
says-unstable (Ok (Reasons workers)) reads ready e is =
    cc (sym (plain (plan (Ok (Reasons workers))) reads _ (λ p c r. refl) e) ∙ is)
says-unstable (Ok (Fixed workers)) reads ready e is =
    cc (sym (plain (plan (Ok (Fixed workers))) reads _ (λ p c r. refl) e) ∙ is)
says-unstable (Ok (Sweep code low high workers)) reads ready e is =
    cc (sym (ends-so EndsWell (plan (Ok (Sweep code low high workers))) reads _ (λ stop. tt)
    (λ p c r.
    let tables : Tables = record { programmes = p; candidates = c; ranks = r } in
    rows-end-well code low high tables (programme_with code (codes_of p.rows))) e) ∙ is)
says-unstable (Ok (Audit workers)) reads ready e is = (workers, inl refl)
says-unstable (Ok (Second workers)) reads ready e is = (workers, inr refl)
says-unstable (Ok (Make seed candidates programmes types workers)) reads ready e is =
    let same : done (summary_of seed candidates programmes types) ≡ ready = cc e in
    let never : ending.Done ≡ ending.AuditNo = ap (λ (v : Answer). v.ending) same ∙ is in cc never

-- where a run ends with its text, an answer with this end was appended whole
record HasEnded {K : Type 0} (written : K → Option (List ℕ))
    (answer : Result Answer (Stop Refusal)) (end : Ending) (old new : K) : Type 0 where
  ready : Answer
  is : answer ≡ Ok ready
  ends_so : ready.ending ≡ end
  wrote : Appended (written old) (written new) ready.text

ended-finished : {K : Type 0} (written : K → Option (List ℕ)) (faults : K → ℕ)
    (answer : Result Answer (Stop Refusal)) (status : Status) (old new : K) (end : Ending)
    → IsFinished endings written faults answer status old new → status ≡ ended end
    → HasEnded written answer end old new
unfolding are-apart
ended-finished written faults answer status old new end finished same =
    let whole = answered-finished are-apart written faults answer status old new finished
    (ap stop_in same ∙ (ended-well end).0) (λ is. (ended-well end).1 (sym same ∙ is)) in
    record {
      ready = whole.0;
      is = whole.1;
      ends_so = ended-same whole.0.ending end (sym whole.2 ∙ same);
      wrote = whole.3;
    }

says-programmes : (three : ThreeFiles) → HasNoFault three
    → programmes_said three.programmes ≡ Ok (tables_in three).programmes
unfolding programmes_said tables_in
says-programmes three faultless = judged-ok _ _ _ three.programmes faultless.programmes_few
    faultless.programmes

says-candidates : (three : ThreeFiles) → HasNoFault three
    → candidates_said (codes_of (tables_in three).programmes.rows) three.candidates
    ≡ Ok (tables_in three).candidates
unfolding candidates_said tables_in codes_in
says-candidates three faultless = judged-ok _ _ _ three.candidates faultless.candidates_few
    faultless.candidates

says-ranks : (three : ThreeFiles) → HasNoFault three
    → ranks_said (tables_in three).programmes.names (numbers_of (tables_in
    three).candidates.numbers)
    three.ranks ≡ Ok (tables_in three).ranks
unfolding ranks_said tables_in numbers_in codes_in
says-ranks three faultless = judged-ok _ _ _ three.ranks faultless.ranks_few faultless.ranks

-- three files without a fault say their tables
three-said : (reads : Reads) (three : ThreeFiles) → AreThree reads three → HasNoFault three
    → said tables_plan reads ≡ Some (Ok (tables_in three))
three-said reads three read faultless =
    rw read.programmes (rw (says-programmes three faultless)
    (rw read.candidates (rw (says-candidates three faultless)
    (rw read.ranks (rw (says-ranks three faultless) refl)))))

-- the bytes that were read are those of three files that are held
seen-three : (files : Files) (words : List (List ℕ)) (reads : Reads) (three : ThreeFiles)
    → AreHeld (Some files) (named words) reads → AreThree (λ kind. files (named words kind)) three
    → AreThree reads three
seen-three files words reads three held read = record {
  programmes = sym (held file.Programmes) ∙ read.programmes;
  candidates = sym (held file.Candidates) ∙ read.candidates;
  ranks = sym (held file.Ranks) ∙ read.ranks;
}

places-whole : (told : Option Files) (words : List (List ℕ)) (status : Status)
    (old new : Option (List ℕ)) (before now : Moment)
    → IsWhole endings told (named words) (plan (command_of words)) status old new before now
    → PlacesWhole told words status old new
places-whole None words status old new before now whole = tt
places-whole (Some files) words status old new before now (reads, held, whole) =
    λ three workers accepted read faultless.
    let seen = seen-three files words reads three held read in
    let says : said (plan (command_of words)) reads
    ≡ Some (Ok (done (printed_placement (tables_in three)))) =
    ap (λ v. said (plan v) reads) accepted
    ∙ said-then tables_plan (λ tables. ends_with (Ok (done (printed_placement tables)))) reads
    ∙ ap (λ v. said_behind v (λ tables. Some (Ok (done (printed_placement tables)))))
    (three-said reads three seen faultless) in
    ⊎_elim (λ refused. inl refused)
    (λ other. let same : other.1 ≡ Ok (done (printed_placement (tables_in three))) =
    cc (other.2, says) in
    let all = subst (λ v. IsDone endings v status old new) same other.3 in
    inr (all.0, subst (λ v. Appended old new v) (printed-in three) all.1))
    whole

-- what is done of a sweep of three files without a fault
rows-found : (three : ThreeFiles) (code low high : ℕ) (status : Status)
    (old new : Option (List ℕ)) (found : Option ℕ)
    → IsDone endings (rows_or_none code low high (tables_in three) found) status old new
    → SweepsFound three code low high status old new found
unfolding sweep_of
rows-found three code low high status old new None (is, wrote) = is
rows-found three code low high status old new (Some p) (is, wrote) = (is, wrote)

sweeps-whole : (told : Option Files) (words : List (List ℕ)) (status : Status)
    (old new : Option (List ℕ)) (before now : Moment)
    → IsWhole endings told (named words) (plan (command_of words)) status old new before now
    → SweepsWhole told words status old new
unfolding codes_in tables_in
sweeps-whole None words status old new before now whole = tt
sweeps-whole (Some files) words status old new before now (reads, held, whole) =
    λ three code low high workers accepted read faultless.
    let sweep = swept code low high in
    let says : said (plan (command_of words)) reads ≡ Some (sweep (tables_in three)) =
    ap (λ v. said (plan v) reads) accepted
    ∙ said-then tables_plan (λ tables. ends_with (sweep tables)) reads
    ∙ ap (λ v. said_behind v (λ tables. Some (sweep tables)))
    (three-said reads three (seen-three files words reads three held read) faultless) in
    ⊎_elim (λ refused. inl refused)
    (λ other. let same : other.1 ≡ sweep (tables_in three) = cc (other.2, says) in
    inr (rows-found three code low high status old new (programme_with code (codes_in three))
    (subst (λ v. IsDone endings v status old new) same other.3)))
    whole

-- the clauses of a run
module _ {K : Type 0} {written : K → Option (List ℕ)} {faults : K → ℕ} {told : Option Files}
    {words : List (List ℕ)} {status : Status} {old new : K} {before now : Moment}
    (run : IsAnsweredRun written faults told words status old new before now) where
  -- where the run ends with its text, an answer with this end was appended whole
  ended-so : (end : Ending) → status ≡ ended end → HasEnded written run.answer end old new
  ended-so end same =
      ended-finished written faults run.answer status old new end run.finished same

  -- the promise of a command whose run ended with its text
  kept : (command : Result Command WordsFault) → command_of words ≡ command
      → (ready : Answer) → run.answer ≡ Ok ready
      → KeepsPromise command run.answers.reading.reads ready
  kept command accepted ready is =
      subst (λ v. KeepsPromise v run.answers.reading.reads ready) accepted
      (subst (λ v. IfOk v (KeepsPromise (command_of words) run.answers.reading.reads)) is
      run.answers.promise)

  -- where there is an answer, the files of the bytes that it is about were read once each
  read-once : (ready : Answer) → run.answer ≡ Ok ready
      → AreFilesRead told words run.answers.reading.reads before.tally now.tally
  read-once ready is = record {
    held = run.answers.reading.held;
    taken = run.answers.reading.taken (subst (λ v. IsDecided is_free_stop v) (sym is) tt);
  }

  -- a run that is done has printed the text that its command promises
  text-done : (asked : ℕ → Command) (IsText : Reads → List ℕ → Type 0)
      → ((workers : ℕ) (reads : Reads) (ready : Answer)
      → KeepsPromise (Ok (asked workers)) reads ready → IsText reads ready.text)
      → PrintsText asked IsText told words status (written old) (written new) before.tally now.tally
  text-done asked IsText promised = λ workers accepted well.
      let end = ended-so ending.Done well in (
        run.answers.reading.reads,
        read-once end.ready end.is,
        end.ready.text,
        promised workers run.answers.reading.reads end.ready
            (kept (Ok (asked workers)) accepted end.ready end.is),
        end.wrote,
      )

  -- that of `place` the worst stable placement
  pub worst-done : PrintsWorstStable told words status (written old) (written new) before.tally
      now.tally
  worst-done = text-done Place IsWorstStableText (λ workers reads ready keeps. keeps)

  -- those of `base`, `reasons` and `fixed` that placement's reports
  pub reports-done : PrintsReports told words status (written old) (written new) before.tally
      now.tally
  reports-done = record {
    bases = text-done Base IsBaseText (λ workers reads ready keeps. keeps);
    reasons = text-done Reasons IsReasonsText (λ workers reads ready keeps. keeps);
    fixed = text-done Fixed IsFixedText (λ workers reads ready keeps. keeps);
  }

  -- a run that ends with its text has printed the answer that its command promises
  answer-done : (asked : ℕ → Command) (IsAnswer : Reads → Answer → Type 0)
      → ((workers : ℕ) (reads : Reads) (ready : Answer)
      → KeepsPromise (Ok (asked workers)) reads ready → IsAnswer reads ready)
      → PrintsAnswer asked IsAnswer told words status (written old) (written new) before.tally
      now.tally
  answer-done asked IsAnswer promised = λ workers accepted ending same.
      let end = ended-so ending same in (
        run.answers.reading.reads,
        read-once end.ready end.is,
        end.ready,
        end.ends_so,
        promised workers run.answers.reading.reads end.ready
            (kept (Ok (asked workers)) accepted end.ready end.is),
        end.wrote,
      )

  -- that of `audit` its verdict
  pub verdict-done : PrintsVerdict told words status (written old) (written new) before.tally
      now.tally
  verdict-done = answer-done Audit IsAudit (λ workers reads ready keeps. keeps)

  -- and that of `second` the second placement, or the verdict
  pub second-done : PrintsSecond told words status (written old) (written new) before.tally
      now.tally
  second-done = answer-done Second IsSecond (λ workers reads ready keeps. keeps)

  -- a run of `sweep` has printed the rows of the programme's quotas, or told that there is none
  pub sweep-done : PrintsSweep told words status (written old) (written new) before.tally now.tally
  sweep-done = record {
    rows = λ code low high. text-done (Sweep code low high) (IsSweepText code low high)
        (λ workers reads ready keeps. keeps);
    none = λ code same.
        let stop = Refused (NoProgramme code) in
        let is = (stopped are-apart written faults run.answer status old new stop run.finished
        same).0 in
        let by = says-refused (command_of words) run.answers.reading.reads (NoProgramme code)
        (refused-said are-apart written faults (said (plan (command_of words))
        run.answers.reading.reads) run.answer status old new (NoProgramme code)
        run.answers.reading.meets run.finished same) in (
          by.0,
          by.1,
          by.2,
          by.3,
          run.answers.reading.reads,
          record {
            held = run.answers.reading.held;
            taken = run.answers.reading.taken
                (subst (λ v. IsDecided is_free_stop v) (sym is) refl);
          },
          by.4,
        );
  }

  -- a run of `make` that is done has printed the summary of the market of its numbers
  pub summary-done : PrintsSummary words status (written old) (written new)
  summary-done = λ seed candidates programmes types workers accepted well.
      let end = ended-so ending.Done well in (
        end.ready.text,
        kept (Ok (Make seed candidates programmes types workers)) accepted end.ready end.is,
        end.wrote,
      )

  -- where the words ask for no file, a run leaves the shelf as it was and has no read fault
  pub unread-run : {H : Type 0} (shelf_old shelf_new : H)
      → ReadsNothing (command_of words) run.answer shelf_old shelf_new
      → RunsWithoutFile (command_of words) status shelf_old shelf_new
  unread-run shelf_old shelf_new nothing = λ none.
      let both = nothing none in (
        both.0,
        λ same. both.1 (stopped are-apart written faults run.answer status old new
            (File ReadFault) run.finished same).0,
      )

  -- where no read and no write failed, all that is said over the bytes read was done
  pub complete-run : (Rose before.faults now.faults → ⊥) → (Rose (faults old) (faults new) → ⊥)
      → IsComplete told words status (written old) (written new) before now
  complete-run no_read no_write =
      let whole = whole-run are-apart written faults status old new run.answers.reading
      run.finished no_read no_write in
      record {
        whole = whole;
        places = places-whole told words status (written old) (written new) before now whole;
        sweeps = sweeps-whole told words status (written old) (written new) before now whole;
      }

  -- each refusal has its cause, and only `audit` and `second` say that a placement is not stable
  pub causes-run : ((refused : WordsFault) → command_of words ≡ Err refused
      → run.answer ≡ Err (Refused (Words refused)))
      → HasStatusCause (command_of words) status before now (faults old) (faults new)
  causes-run exact = record {
    refusal = frame.causes-run are-apart written faults Words (command_of words) status old new
        run.answers.reading run.finished
        (λ fault. says-refused (command_of words) run.answers.reading.reads (Words fault)) exact;
    unstable = λ same.
        let end = ended-so ending.AuditNo same in
        says-unstable (command_of words) run.answers.reading.reads end.ready
        (subst (λ v. Meets is_free_stop (said (plan (command_of words)) run.answers.reading.reads) v)
        end.is run.answers.reading.meets) end.ends_so;
  }

  -- where the run ends with its text no failed read or write was passed over
  pub quiet-run : IsQuiet endings status before now (faults old) (faults new)
  quiet-run =
      frame.quiet-run are-apart written faults status old new run.answers.reading run.finished

  -- what was written before stays in front, and after a refusal the sink is as it was
  pub leaves-sink : faults old ≤ faults new → LeavesSink written faults status old new
  leaves-sink later =
      frame.leaves-sink are-apart written faults run.answer status old new run.finished later
