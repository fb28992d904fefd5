-- What follows from how a run ends, where the statuses of its ends are apart.
use Rattle.std.proofs.Common.{◌≡◌, ◌⊎◌, ◌≤◌, ◌∙◌, ℕ, List, [], sym, ap, subst, take, inl, inr, refl, arith, Option, Some, None, Result, Ok, Err, IfOk, ⊎_elim}
use Rattle.std.specs.Prelude.{Bool, IsFalse}
use Rattle.place_base.specs.declared.fault.FileKind.{FileKind}
use Rattle.place_edges.specs.Causes.{Rose}
use Rattle.place_edges.specs.Shelf.{Files}
use Rattle.place_edges.specs.Sink.{Appended}
use Rattle.run_frame.specs.Files.{Moment}
use Rattle.run_frame.specs.Meetings.{IsDecided, Meets}
use Rattle.run_frame.specs.Plans.{AreRead, Plan, said}
use Rattle.run_frame.specs.Runs.{Endings, HasStatusCause, IsConstant, IsDone, IsFinished, IsQuiet, IsWhole, LeavesSink, StaysInFront, WordsCause}
use Rattle.run_frame.specs.Stops.{is_free_stop, too_long}
use Rattle.run_frame.specs.declared.stop.FileStop.TheVariants.{Fault, Memory, ReadFault}
use Rattle.run_frame.specs.declared.stop.Stop.{Stop}
use Rattle.run_frame.specs.declared.stop.Stop.TheVariants.{File, Refused}
use Rattle.run_frame.proofs.Parts.{appended-nothing}

-- The status of a stop tells the stop, and neither that of an answer nor that of a write fault is a
-- stop's; these are apart too.
pub record AreApart {A W E : Type 0} (ends : Endings A W E) : Type 0 where
  pub stop_in : E → Option (Stop W)
  pub stop : (stop : Stop W) → stop_in (ends.stopped stop) ≡ Some stop
  pub done : (answer : A) → stop_in (ends.done answer) ≡ None
  pub fault : stop_in ends.write_fault ≡ None
  pub whole : (answer : A) → ends.done answer ≡ ends.write_fault → ⊥

-- a count that is constant does not rise
pub constant-count : {S : Type 0} (count : S → ℕ) (old new : S) → IsConstant count
    → Rose (count old) (count new) → ⊥
constant-count count old new (n, few, same) rose =
    omega (arith, few, same old, same new, rose)

-- a stop that is not free is said
pub decided-said : {T S : Type 0} (free : S → Bool) (said : Option (Result T S)) (stop : S)
    → IsFalse (free stop) → Meets free said (Err stop) → said ≡ Some (Err stop)
decided-said free said stop decided (inl allowed) = cc (allowed, decided)
decided-said free said stop decided (inr e) = e

module _ {A W E K : Type 0} {ends : Endings A W E} (apart : AreApart ends)
    (written : K → Option (List ℕ)) (faults : K → ℕ) where
  -- a status that tells no stop is that of none
  unstopped : (status : E) (stop : Stop W) → apart.stop_in status ≡ None
      → status ≡ ends.stopped stop → ⊥
  unstopped status stop none same =
      let never : None ≡ Some stop = sym none ∙ ap apart.stop_in same ∙ apart.stop stop in cc never

  -- a status that is a stop's is that of the answer
  pub stopped : (answer : Result A (Stop W)) (status : E) (old new : K) (stop : Stop W)
      → IsFinished ends written faults answer status old new → status ≡ ends.stopped stop
      → (answer ≡ Err stop) × (new ≡ old)
  stopped (Ok answer) status old new stop (inl (well, wrote, still)) same =
      absurd (unstopped (ends.done answer) stop (apart.done answer) (sym well ∙ same))
  stopped (Ok answer) status old new stop (inr (fault, wrote, rose)) same =
      absurd (unstopped ends.write_fault stop apart.fault (sym fault ∙ same))
  stopped (Err other) status old new stop (is, same_sink) same =
      let one : Some other ≡ Some stop = sym (apart.stop other)
      ∙ ap apart.stop_in (sym is ∙ same) ∙ apart.stop stop in
      (ap (λ v. Err v) (cc one), same_sink)

  front-finished : (answer : Result A (Stop W)) (status : E) (old new : K)
      → IsFinished ends written faults answer status old new
      → StaysInFront (written old) (written new)
  front-finished (Ok answer) status old new (inl (well, wrote, still)) = (ends.text answer, wrote)
  front-finished (Ok answer) status old new (inr (fault, (k, few, wrote), rose)) =
      (take k (ends.text answer), wrote)
  front-finished (Err stop) status old new (is, same) =
      ([], appended-nothing (written old) (written new) (ap written same))

  -- a write fault has its cause
  pub write-cause : (answer : Result A (Stop W)) (status : E) (old new : K)
      → IsFinished ends written faults answer status old new → status ≡ ends.write_fault
      → Rose (faults old) (faults new)
  write-cause (Ok answer) status old new (inl (well, wrote, still)) same =
      absurd (apart.whole answer (sym well ∙ same))
  write-cause (Ok answer) status old new (inr (fault, wrote, rose)) same = rose
  write-cause (Err stop) status old new (is, same_sink) same =
      absurd (unstopped ends.write_fault stop apart.fault (sym same ∙ is))

  -- where the status tells no stop and is no write fault, an answer was appended whole
  pub answered-finished : (answer : Result A (Stop W)) (status : E) (old new : K)
      → IsFinished ends written faults answer status old new
      → apart.stop_in status ≡ None → (status ≡ ends.write_fault → ⊥)
      → (ready : A) × (answer ≡ Ok ready) × (status ≡ ends.done ready)
      × Appended (written old) (written new) (ends.text ready) × (faults new ≡ faults old)
  answered-finished (Ok answer) status old new (inl (well, wrote, still)) none unfailed =
      (answer, refl, well, wrote, still)
  answered-finished (Ok answer) status old new (inr (fault, wrote, rose)) none unfailed =
      absurd (unfailed fault)
  answered-finished (Err stop) status old new (is, same) none unfailed =
      absurd (unstopped status stop none is)

  -- where a run ends with its text no failed read or write was passed over
  pub quiet-run : {told : Option Files} {names : FileKind → List ℕ} {plan : Plan A W}
      {answer : Result A (Stop W)} {before now : Moment} (status : E) (old new : K)
      → AreRead told names plan answer before now
      → IsFinished ends written faults answer status old new
      → IsQuiet ends status before now (faults old) (faults new)
  quiet-run {answer = answer} {before = before} {now = now} status old new reading finished =
      λ ended same.
      let whole = answered-finished answer status old new finished
      (ap apart.stop_in same ∙ apart.done ended) (λ fault. apart.whole ended (sym same ∙ fault)) in (
        subst (λ v. IfOk v (λ _. now.faults ≡ before.faults)) whole.1 reading.causes.quiet,
        whole.4,
      )

  -- what was written before stays in front, and after a stop the sink is as it was
  pub leaves-sink : (answer : Result A (Stop W)) (status : E) (old new : K)
      → IsFinished ends written faults answer status old new → faults old ≤ faults new
      → LeavesSink ends.stopped written faults status old new
  leaves-sink answer status old new finished later = record {
    kept = front-finished answer status old new finished;
    untouched = λ stop same. (stopped answer status old new stop finished same).1;
    later = later;
  }

  -- a refusal that the status tells is said
  pub refused-said : (said : Option (Result A (Stop W))) (answer : Result A (Stop W)) (status : E)
      (old new : K) (refused : W) → Meets is_free_stop said answer
      → IsFinished ends written faults answer status old new
      → status ≡ ends.stopped (Refused refused) → said ≡ Some (Err (Refused refused))
  refused-said said answer status old new refused meets finished same =
      decided-said is_free_stop said (Refused refused) refl
      (subst (λ v. Meets is_free_stop said v)
      (stopped answer status old new (Refused refused) finished same).0 meets)

  -- words that are refused exactly where they give no command have their cause in the status
  words-cause : {C F : Type 0} (refusal : F → W) (command : Result C F)
      (said : Option (Result A (Stop W))) (answer : Result A (Stop W)) (status : E) (old new : K)
      → Meets is_free_stop said answer → IsFinished ends written faults answer status old new
      → ((fault : F) → said ≡ Some (Err (Refused (refusal fault))) → command ≡ Err fault)
      → ((fault : F) → command ≡ Err fault → answer ≡ Err (Refused (refusal fault)))
      → WordsCause (λ fault. ends.stopped (Refused (refusal fault))) command status
  words-cause refusal command said answer status old new meets finished only exact = record {
    only = λ fault same. only fault
        (refused-said said answer status old new (refusal fault) meets finished same);
    always = λ fault none.
        (subst (λ v. IsFinished ends written faults v status old new) (exact fault none)
        finished).0;
  }

  -- each refusal of a run has its cause
  pub causes-run : {C F : Type 0} {told : Option Files} {names : FileKind → List ℕ}
      {plan : Plan A W} {answer : Result A (Stop W)} {before now : Moment} (refusal : F → W)
      (command : Result C F) (status : E) (old new : K)
      → (reading : AreRead told names plan answer before now)
      → IsFinished ends written faults answer status old new
      → ((fault : F) → said plan reading.reads ≡ Some (Err (Refused (refusal fault)))
      → command ≡ Err fault)
      → ((fault : F) → command ≡ Err fault → answer ≡ Err (Refused (refusal fault)))
      → HasStatusCause refusal ends command status before now (faults old) (faults new)
  causes-run {plan = plan} {answer = answer} refusal command status old new reading finished only
      exact =
      record {
        words = words-cause refusal command (said plan reading.reads) answer status old new
            reading.meets finished only exact;
        read = λ same. reading.causes.read
            (stopped answer status old new (File ReadFault) finished same).0;
        long = λ kind same. reading.causes.long kind
            (stopped answer status old new (File (Fault (too_long kind))) finished same).0;
        write = write-cause answer status old new finished;
      }

  -- a stop that is no free one is done
  stop-done : (said : Option (Result A (Stop W))) (stop : Stop W) (status : E) (old new : K)
      → IsFalse (is_free_stop stop) → Meets is_free_stop said (Err stop)
      → status ≡ ends.stopped stop → new ≡ old
      → (status ≡ ends.stopped (File Memory))
      ⊎ (IsFalse (is_free_stop stop) × (all : Result A (Stop W)) × (said ≡ Some all)
      × IsDone ends all status (written old) (written new))
  stop-done said stop status old new decided meets is same = inr (
    decided,
    Err stop,
    decided-said is_free_stop said stop decided meets,
    (is, appended-nothing (written old) (written new) (ap written same)),
  )

  -- where no write failed, what is said was done and the answer is no free stop, or memory was
  -- refused
  done-finished : (said : Option (Result A (Stop W))) (answer : Result A (Stop W)) (status : E)
      (old new : K) → Meets is_free_stop said answer
      → IsFinished ends written faults answer status old new
      → (answer ≡ Err (File ReadFault) → ⊥) → (Rose (faults old) (faults new) → ⊥)
      → (status ≡ ends.stopped (File Memory))
      ⊎ (IsDecided is_free_stop answer × (all : Result A (Stop W)) × (said ≡ Some all)
      × IsDone ends all status (written old) (written new))
  done-finished said (Ok answer) status old new meets (inl (well, wrote, still)) read write =
      inr (tt, Ok answer, meets, (well, wrote))
  done-finished said (Ok answer) status old new meets (inr (fault, wrote, rose)) read write =
      absurd (write rose)
  done-finished said (Err (File ReadFault)) status old new meets finished read write =
      absurd (read refl)
  done-finished said (Err (File Memory)) status old new meets (is, same) read write = inl is
  done-finished said (Err (File (Fault found))) status old new meets (is, same) read write =
      stop-done said (File (Fault found)) status old new refl meets is same
  done-finished said (Err (Refused refused)) status old new meets (is, same) read write =
      stop-done said (Refused refused) status old new refl meets is same

  -- the same of files that were read, each once where the answer is no free stop
  pub whole-run : {told : Option Files} {names : FileKind → List ℕ} {plan : Plan A W}
      {answer : Result A (Stop W)} {before now : Moment} (status : E) (old new : K)
      → AreRead told names plan answer before now
      → IsFinished ends written faults answer status old new
      → (Rose before.faults now.faults → ⊥) → (Rose (faults old) (faults new) → ⊥)
      → IsWhole ends told names plan status (written old) (written new) before now
  whole-run {plan = plan} {answer = answer} status old new reading finished no_read no_write = (
    reading.reads,
    reading.held,
    ⊎_elim (λ refused. inl refused)
        (λ well. inr (reading.taken well.0, well.1, well.2, well.3))
        (done-finished (said plan reading.reads) answer status old new reading.meets finished
        (λ unread. no_read (reading.causes.read unread)) no_write),
  )
