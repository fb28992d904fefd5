-- A file that was read whole is judged by its bytes; one that was not has its cause.
use Rattle.std.proofs.Common.{◌≡◌, ℕ, ◌+◌, ◌<◌, ◌≤◌, List, [], ◌∷◌, Option, Some, None, Result, Ok, Err, Vec, refl, sym, ap, subst, ◌∙◌, inl, inr, arith}
use Rattle.std.specs.Prelude.{length, replicate, IsTrue, vec_len}
use Rattle.std.proofs.lemmas.List.{length-replicate}
use Rattle.place_base.specs.declared.fault.FileKind.{FileKind}
use Rattle.place_edges.specs.Shelf.{Files, HasBytes, HasMore, IsWithin, file_limit, byte_count, piece_size, tally_with}
use Rattle.run_frame.specs.Files.{HasBegun, HasCauses, IsHeld, IsJudged, IsReadWhole, Moment, IsTaken}
use Rattle.run_frame.specs.Meetings.{Meets}
use Rattle.run_frame.specs.Stops.{is_free, too_long}
use Rattle.run_frame.specs.declared.stop.FileStop.{FileStop}
use Rattle.run_frame.specs.declared.stop.FileStop.TheVariants.{Fault, ReadFault, Memory}

-- a file that has more than so many bytes, and no fewer than were taken: one that is held, where
-- that is told, and else some
long-file : (told : Option Files) (name : List ℕ) (n more before now : ℕ) → HasMore told name n
    → IsWithin told name before now → now ≤ before + n + more → 0 < more
    → (bytes : List ℕ) × IsHeld told name (Some bytes) × (n < length bytes)
    × (now ≤ before + length bytes)
long-file None name n more before now many within once some = (
  replicate (n + more) 0,
  tt,
  omega (arith, length-replicate {A = ℕ}, some),
  omega (arith, length-replicate {A = ℕ}, once),
)
long-file (Some files) name n more before now (bytes, is, long) within once some =
    (bytes, is, long, subst (λ v. now ≤ before + byte_count v) is within)

held-bytes : (told : Option Files) (name bytes : List ℕ) → HasBytes told name bytes
    → IsHeld told name (Some bytes)
held-bytes None name bytes held = tt
held-bytes (Some files) name bytes held = held

-- a file that has no fewer bytes than were taken
held-some : (told : Option Files) (name : List ℕ) (n before now : ℕ)
    → IsWithin told name before now → now ≤ before + n
    → (bytes : Option (List ℕ)) × IsHeld told name bytes × (now ≤ before + byte_count bytes)
held-some None name n before now within few =
    (Some (replicate n 0), tt, omega (arith, length-replicate {A = ℕ}, few))
held-some (Some files) name n before now within few = (files name, refl, within)

-- of a file that was read at least one byte was taken, but where it has none
begun-bytes : (bytes : List ℕ) (before now : ℕ) → now ≡ tally_with before (length bytes)
    → HasBegun (Some bytes) before now
begun-bytes [] before now given = inl refl
begun-bytes (byte ∷ bytes) before now given = inr (omega (arith, given))

-- the bytes of a vector are as many as it says
count-items : {X Z : Type 0} (v : Vec X Z) → length v.items ≡ vec_len v
count-items v = omega (arith, v.ok.0)

-- a file whose bytes were read is short
pub short-bytes : {Z : Type 0} {told : Option Files} {name : List ℕ} {kind : FileKind}
    {bytes : Vec ℕ Z} {before now : Moment}
    → IsReadWhole told name kind (Ok bytes) before now
    → length bytes.items ≤ file_limit
short-bytes {bytes = bytes} reading = omega (arith, count-items bytes, reading.few)

-- a file whose bytes were read is judged by them
pub judged-bytes : {T Z : Type 0} {told : Option Files} {name : List ℕ} {kind : FileKind}
    {bytes : Vec ℕ Z} {before now : Moment}
    (judge : List ℕ → Result T FileStop) (result : Result T FileStop)
    → IsReadWhole told name kind (Ok bytes) before now
    → Meets is_free (Some (judge bytes.items)) result
    → HasCauses (λ stop. stop) result before now
    → IsJudged told name judge result before now
judged-bytes {told = told} {name = name} {bytes = bytes} {before = before}
    {now = now} judge result reading meets causes =
    let few = short-bytes reading in
    let given : now.tally ≡ tally_with before.tally (length bytes.items) =
    reading.given ∙ ap (λ n. tally_with before.tally n) (sym (count-items bytes)) in
    record {
      bytes = Some bytes.items;
      held = held-bytes told name bytes.items reading.says;
      meets = meets;
      taken = λ file same decided.
          let e : file ≡ bytes.items = cc same in
          subst (λ v. IsTaken v before.tally now.tally) (sym e)
          (record {
            short = λ _. given;
            long = λ many. absurd (omega (arith, few, many));
            once = λ many. absurd (omega (arith, few, many));
            within = omega (arith, given);
          });
      few = λ _. omega (arith, few, given);
      within = omega (arith, given);
      begun = λ unread. begun-bytes bytes.items before.tally now.tally given;
      causes = causes;
    }

-- the causes of a stop are the same whatever there would be without it
same-causes : {T S : Type 0} (stop : FileStop) (before now : Moment)
    → HasCauses {T = S} (λ v. v) (Err stop) before now
    → HasCauses {T = T} (λ v. v) (Err stop) before now
same-causes stop before now causes = record {
  faults = causes.faults;
  tally = causes.tally;
  quiet = tt;
  read = λ e. let same : stop ≡ ReadFault = cc e in causes.read (ap (λ v. Err v) same);
  long = λ kind e.
      let same : stop ≡ Fault (too_long kind) = cc e in causes.long kind (ap (λ v. Err v) same);
}

-- a file that was not read whole is judged by some bytes, of which no fewer were taken
judged-some : {T : Type 0} (told : Option Files) (name : List ℕ)
    (judge : List ℕ → Result T FileStop) (stop : FileStop)
    (before now : Moment) → IsTrue (is_free stop)
    → IsWithin told name before.tally now.tally → now.tally ≤ before.tally + file_limit
    → ((stop ≡ ReadFault → ⊥) → tally_with before.tally 1 ≤ now.tally)
    → HasCauses {T = T} (λ v. v) (Err stop) before now
    → IsJudged told name judge (Err stop) before now
judged-some told name judge stop before now free within few begun causes =
    let file = held-some told name file_limit before.tally now.tally within few in
    record {
      bytes = file.0;
      held = file.1;
      meets = inl free;
      taken = λ bytes same decided. absurd (cc (free, decided));
      few = λ _. few;
      within = file.2;
      begun = λ unread. inr (begun (λ e. unread (ap (λ v. Err v) e)));
      causes = causes;
    }

-- a file that was not read whole is judged so
pub judged-unread : {T Z : Type 0} (told : Option Files) (name : List ℕ) (kind : FileKind)
    (judge : List ℕ → Result T FileStop) (stop : FileStop)
    (before now : Moment)
    → ((bytes : List ℕ) → file_limit < length bytes → judge bytes ≡ Err (Fault (too_long kind)))
    → IsReadWhole {Z = Z} told name kind (Err stop) before now
    → IsJudged told name judge (Err stop) before now
judged-unread told name kind judge (Fault found) before now long reading =
    let is = reading.says.0 in
    let file = long-file told name file_limit piece_size before.tally now.tally reading.says.1
    reading.within reading.once (omega arith) in
    let given = reading.causes.long kind (ap (λ v. Err (Fault v)) is) in
    record {
      bytes = Some file.0;
      held = file.1;
      meets = inr (ap (λ v. Some v) (long file.0 file.2 ∙ ap (λ v. Err (Fault v)) (sym is)));
      taken = λ bytes same decided.
          let e : bytes ≡ file.0 = cc same in
          subst (λ v. IsTaken v before.tally now.tally) (sym e) (record {
            short = λ few. absurd (omega (arith, few, file.2));
            long = λ many. given;
            once = λ many. reading.once;
            within = file.3;
          });
      few = λ undecided. absurd (undecided refl);
      within = file.3;
      begun = λ unread. inr (omega (arith, reading.causes.tally, given));
      causes = same-causes _ before now reading.causes;
    }
judged-unread told name kind judge ReadFault before now long reading =
    judged-some told name judge ReadFault before now refl reading.within
    (reading.failed refl) (λ unread. absurd (unread refl))
    (same-causes _ before now reading.causes)
judged-unread told name kind judge Memory before now long reading =
    judged-some told name judge Memory before now refl reading.within
    (reading.refused refl) (λ _. reading.begun refl)
    (same-causes _ before now reading.causes)
