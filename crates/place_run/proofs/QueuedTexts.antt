-- Texts that pass through a buffer: what was queued, and what was written where a put failed.
use Rattle.std.proofs.Common.{◌≡◌, ℕ, ◌+◌, ◌<◌, List, [], ◌++◌, take, drop, refl, sym, ap, ◌∙◌, append_assoc, append-nil, subst, Option, Result, Err}
use Rattle.std.specs.List.{flat_map, range_with_len}
use Rattle.std.proofs.lemmas.List.{take-append-drop}
use Rattle.std.proofs.lemmas.List.Concat.{flat_map-append}
use Rattle.place_edges.specs.Sink.{IsWritten}
use Rattle.run_frame.proofs.Parts.{appended-nothing, appended-two}
use Rattle.place_run.specs.Texts.{AreQueued, IsQueued}
use Rattle.place_run.proofs.RowTexts.{texts-next, texts_before}
use Rattle.place_run.proofs.WrittenTexts.{unwritten-first, written-two}

-- nothing is queued where nothing happens
pub queued-nothing : (held : List ℕ) (old new : Option (List ℕ)) → new ≡ old
    → AreQueued [] held held old new
queued-nothing held old new same = record {
  bytes = [];
  written = appended-nothing old new same;
  rest = sym (append-nil held);
}

-- a text more in the buffer
pub queued-put : (text more held holds after : List ℕ) (old new : Option (List ℕ))
    → AreQueued text held holds old new → after ≡ holds ++ more
    → AreQueued (text ++ more) held after old new
queued-put text more held holds after old new queued put = record {
  bytes = queued.bytes;
  written = queued.written;
  rest = ap (λ v. queued.bytes ++ v) put ∙ sym (append_assoc queued.bytes holds more)
      ∙ ap (λ v. v ++ more) queued.rest ∙ append_assoc held text more;
}

-- one text queued behind another
queued-two : (first second held between holds : List ℕ) (old mid new : Option (List ℕ))
    → AreQueued first held between old mid → AreQueued second between holds mid new
    → AreQueued (first ++ second) held holds old new
queued-two first second held between holds old mid new one two = record {
  bytes = one.bytes ++ two.bytes;
  written = appended-two old mid new one.bytes two.bytes one.written two.written;
  rest = append_assoc one.bytes two.bytes holds ∙ ap (λ v. one.bytes ++ v) two.rest
      ∙ sym (append_assoc one.bytes between second) ∙ ap (λ v. v ++ second) one.rest
      ∙ append_assoc held first second;
}

-- the text of one number more
pub queued-more : (text : ℕ → List ℕ) (count n : ℕ) (held between holds : List ℕ)
    (old mid new : Option (List ℕ)) → n < count
    → AreQueued (texts_before text count n) held between old mid
    → AreQueued (text n) between holds mid new
    → AreQueued (texts_before text count (n + 1)) held holds old new
queued-more text count n held between holds old mid new within before more =
    subst (λ v. AreQueued v held holds old new) (texts-next text [] count n within)
    (queued-two (texts_before text count n) (text n) held between holds old mid new before more)

-- where queueing failed, what the buffer had and the text were not written whole
pub unwritten-of : {T E : Type 0} (text : List ℕ) (error : E) (held holds : List ℕ)
    (old new : Option (List ℕ)) (before now : ℕ)
    → IsQueued {T = T} text (Err error) held holds old new before now
    → IsWritten {T = T} (held ++ text) (Err error) old new before now
unwritten-of text error held holds old new before now queued = record {
  whole = tt;
  quiet = tt;
  prefix = queued.prefix;
  failed = queued.failed;
  later = queued.later;
}

-- the same from what was not written
pub unqueued-of : {T E : Type 0} (text : List ℕ) (error : E) (held holds : List ℕ)
    (old new : Option (List ℕ)) (before now : ℕ)
    → IsWritten {T = T} (held ++ text) (Err error) old new before now
    → IsQueued {T = T} text (Err error) held holds old new before now
unqueued-of text error held holds old new before now written = record {
  whole = tt;
  quiet = tt;
  prefix = written.prefix;
  failed = written.failed;
  later = written.later;
}

-- where the rest of what was queued is written, all of it is
pub queued-written : {T E : Type 0} (text : List ℕ) (result : Result T E) (held holds : List ℕ)
    (old mid new : Option (List ℕ)) (before between now : ℕ)
    → AreQueued text held holds old mid → between ≡ before
    → IsWritten holds result mid new between now
    → IsWritten (held ++ text) result old new before now
queued-written text result held holds old mid new before between now queued same written =
    subst (λ v. IsWritten v result old new before now) queued.rest
    (written-two queued.bytes holds result old mid new before between now queued.written same
    written)

-- where the text of a number was not queued whole, neither were all of them
pub texts-unqueued : {T E : Type 0} (text : ℕ → List ℕ) (count n : ℕ) (error : E)
    (held between : List ℕ) (old mid new : Option (List ℕ)) (before later now : ℕ) → n < count
    → AreQueued (texts_before text count n) held between old mid → later ≡ before
    → IsWritten {T = T} (between ++ text n) (Err error) mid new later now
    → IsWritten {T = T} (held ++ flat_map text (range_with_len 0 count)) (Err error) old new before
    now
texts-unqueued {T} {E} text count n error held between old mid new before later now within queued
    same written =
    let xs = range_with_len 0 count in
    let more = texts_before text count (n + 1) in
    let rest = flat_map text (drop (n + 1) xs) in
    let all : more ++ rest ≡ flat_map text xs =
    sym (flat_map-append text (take (n + 1) xs) (drop (n + 1) xs))
    ∙ ap (flat_map text) (take-append-drop (n + 1) xs) in
    let next = queued-put (texts_before text count n) (text n) held between (between ++ text n)
    old mid queued refl in
    let far = queued-written (texts_before text count n ++ text n) (Err error) held
    (between ++ text n) old mid new before later now next same written in
    subst (λ v. IsWritten {T = T} v (Err error) old new before now)
    (append_assoc held more rest ∙ ap (λ v. held ++ v) all)
    (unwritten-first (held ++ more) rest error old new before now
    (subst (λ v. IsWritten {T = T} (held ++ v) (Err error) old new before now)
    (texts-next text [] count n within) far))
