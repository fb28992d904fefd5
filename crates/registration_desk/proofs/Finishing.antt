-- What follows of a run of the desk, from its report and how that was written.
use Rattle.std.proofs.Common.{◌≡◌, ◌∙◌, ◌≤◌, ℕ, List, refl, sym, ap, subst, inl, inr, Option, Some, None, Result, Ok, Err, ⊎_elim}
use Rattle.place_base.specs.declared.fault.FileKind.TheVariants as file
use Rattle.place_edges.specs.Causes.{Rose}
use Rattle.place_edges.specs.Shelf.{Files}
use Rattle.place_edges.specs.Sink.{Appended}
use Rattle.placement_file.specs.Requests.{requests_in}
use Rattle.placement_file.specs.SeatLists.{seats_in}
use Rattle.run_frame.proofs.Endings as frame
use Rattle.run_frame.proofs.Endings.{AreApart, answered-finished, whole-run}
use Rattle.run_frame.proofs.Plans.{answer-behind, ends-so, said-then, said_behind}
use Rattle.run_frame.specs.Files.{Moment, Reads}
use Rattle.run_frame.specs.Plans.{ends as ends_with, said}
use Rattle.run_frame.specs.Lines.{IsNoted}
use Rattle.run_frame.specs.Meetings.{IsDecided, Meets}
use Rattle.run_frame.specs.Runs.{HasStatusCause, IsDone, IsQuiet, IsWhole, LeavesSink}
use Rattle.run_frame.specs.Stops.{is_free_stop}
use Rattle.run_frame.specs.declared.stop.FileStop.TheVariants.{Fault, ReadFault, Memory}
use Rattle.registration_desk.specs.Reports.{DeskReport, report_on}
use Rattle.registration_desk.specs.Runs.{AreTwo, IsComplete, IsDeskRun, PrintsRegistered, ServesWhole, endings, line_in}
use Rattle.registration_desk.specs.Says.{DeskFiles, both_plan, named, numbers_said, plan, reported}
use Rattle.registration_desk.specs.Statuses.{status_line, status_of}
use Rattle.registration_desk.specs.Words.{clerks_of}
use Rattle.registration_desk.specs.declared.status.DeskStatus.{DeskStatus}
use Rattle.registration_desk.specs.declared.status.DeskStatus.TheVariants as ends
use Rattle.run_frame.specs.declared.stop.Stop.{Stop}
use Rattle.run_frame.specs.declared.stop.Stop.TheVariants.{File, Refused}
use Rattle.registration_desk.specs.declared.words.DeskWords.{DeskWords}
use Rattle.registration_desk.proofs.BothFiles.{are-served, two-said}

-- the stop of a status, if it is that of one
abbrev stop_in : DeskStatus → Option (Stop DeskWords)
stop_in ends.Done = None
stop_in (ends.Words refused) = Some (Refused refused)
stop_in (ends.FileFault found) = Some (File (Fault found))
stop_in ends.ReadFault = Some (File ReadFault)
stop_in ends.WriteFault = None
stop_in ends.Memory = Some (File Memory)

stop-in : (stop : Stop DeskWords) → stop_in (status_of stop) ≡ Some stop
stop-in (Refused refused) = refl
stop-in (File (Fault found)) = refl
stop-in (File ReadFault) = refl
stop-in (File Memory) = refl

-- the statuses of the ends are apart
are-apart : AreApart endings
are-apart = record {
  stop_in = stop_in;
  stop = stop-in;
  done = λ report. refl;
  fault = refl;
  whole = λ report e. cc e;
}

-- words are said to be refused only where they are
says-refused : (clerks : Result ℕ DeskWords) (reads : Reads) (refused : DeskWords)
    → said (plan clerks) reads ≡ Some (Err (Refused refused)) → clerks ≡ Err refused
says-refused (Err other) reads refused e = ap (λ v. Err v) (cc e)
says-refused (Ok clerks) reads refused e = absurd
    (ends-so (λ result. result ≡ Err (Refused refused) → ⊥) (plan (Ok clerks)) reads _
    (λ stop e. cc e) (λ s r e. cc e) e refl)

-- a report that is said is that of two files
says-report : (clerks : Result ℕ DeskWords) (reads : Reads) (report : DeskReport)
    → said (plan clerks) reads ≡ Some (Ok report)
    → (files : DeskFiles) × (said both_plan reads ≡ Some (Ok files)) × (report ≡ reported files)
says-report (Err refused) reads report e = cc e
says-report (Ok clerks) reads report e =
    let found = answer-behind (said both_plan reads) (λ files. Some (Ok (reported files))) report
    (sym (said-then both_plan (λ files. ends_with (Ok (reported files))) reads) ∙ e) in
    (found.0, found.1, sym (cc found.2))

serves-whole : (told : Option Files) (words : List (List ℕ)) (status : DeskStatus)
    (old new : Option (List ℕ)) (before now : Moment)
    → IsWhole endings told (named words) (plan (clerks_of words)) status old new before now
    → ServesWhole told words status old new
serves-whole None words status old new before now whole = tt
serves-whole (Some files) words status old new before now (reads, held, whole) =
    λ two clerks accepted read faultless.
    let seen : AreTwo reads two = record {
      placement = sym (held file.Placement) ∙ read.placement;
      requests = sym (held file.Registrations) ∙ read.requests;
    } in
    let report = report_on (seats_in two.placement) (requests_in two.requests) in
    let says : said (plan (clerks_of words)) reads ≡ Some (Ok report) =
    ap (λ v. said (plan v) reads) accepted
    ∙ said-then both_plan (λ files. ends_with (Ok (reported files))) reads
    ∙ ap (λ v. said_behind v (λ files. Some (Ok (reported files))))
    (two-said reads two seen faultless) in
    ⊎_elim (λ refused. inl refused)
    (λ other. let same : other.1 ≡ Ok report = cc (other.2, says) in
    inr (subst (λ v. IsDone endings v status old new) same other.3))
    whole

-- the clauses of a run
module _ {K N : Type 0} {written : K → Option (List ℕ)} {faults : K → ℕ}
    {noted : N → Option (List ℕ)} {note_faults : N → ℕ} {told : Option Files}
    {words : List (List ℕ)} {status : DeskStatus} {old new : K} {notes_old notes_new : N}
    {before now : Moment}
    (run : IsDeskRun written faults noted note_faults told words status old new notes_old notes_new
    before now) where
  -- a run that is done has read two faultless files, printed their text and noted their line
  pub registered-run : PrintsRegistered told words status (written old) (written new)
      (noted notes_old) (noted notes_new) (note_faults notes_old) (note_faults notes_new)
      before.tally now.tally
  unfolding are-apart
  registered-run = λ well.
      let reading = run.answers in
      let done = answered-finished are-apart written faults run.answer status old new run.finished
      (ap stop_in well) (λ is. cc (sym well ∙ is)) in
      let says = says-report (clerks_of words) reading.reads done.0
      (subst (Meets is_free_stop (said (plan (clerks_of words)) reading.reads)) done.1
      reading.meets) in
      let served = are-served reading.reads says.0 says.1 in
      let is : done.0
      ≡ report_on (seats_in served.two.placement) (requests_in served.two.requests) =
      says.2 ∙ (λ j. report_on (served.placement j) (served.requests j)) in
      let line : status_line (numbers_said run.answer) status ≡ line_in served.two =
      (λ j. status_line (numbers_said (done.1 j)) (well j))
      ∙ (λ j. status_line (is j).numbers ends.Done) in
      record {
        reads = reading.reads;
        once = record {
          held = reading.held;
          taken = reading.taken (subst (λ v. IsDecided is_free_stop v) (sym done.1) tt);
        };
        two = served.two;
        read = served.read;
        no_fault = served.no_fault;
        printed = subst (λ (v : DeskReport). Appended (written old) (written new) v.text) is done.3;
        noted = subst (λ v. IsNoted v (noted notes_old) (noted notes_new) (note_faults notes_old)
            (note_faults notes_new)) line run.line;
      }

  -- where no read and no write failed, all that is said over the bytes read was done
  pub complete-run : (Rose before.faults now.faults → ⊥) → (Rose (faults old) (faults new) → ⊥)
      → IsComplete told words status (written old) (written new) before now
  complete-run no_read no_write =
      let whole = whole-run are-apart written faults status old new run.answers run.finished no_read
      no_write in
      record {
        whole = whole;
        serves = serves-whole told words status (written old) (written new) before now whole;
      }

  -- where it ends with its text no failed read or write was passed over
  pub quiet-run : IsQuiet endings status before now (faults old) (faults new)
  quiet-run = frame.quiet-run are-apart written faults status old new run.answers run.finished

  -- each refusal has its cause, where words that give no number of clerks are refused
  pub causes-run : ((refused : DeskWords) → clerks_of words ≡ Err refused
      → run.answer ≡ Err (Refused refused))
      → HasStatusCause (λ refused. refused) endings (clerks_of words) status before now (faults old)
      (faults new)
  causes-run exact =
      frame.causes-run are-apart written faults (λ refused. refused) (clerks_of words) status old
      new run.answers run.finished (says-refused (clerks_of words) run.answers.reads) exact

  -- what was written before stays in front, and after a refusal the sink is as it was
  pub leaves-sink : faults old ≤ faults new → LeavesSink status_of written faults status old new
  leaves-sink later =
      frame.leaves-sink are-apart written faults run.answer status old new run.finished later
