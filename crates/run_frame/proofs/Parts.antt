-- Texts that are written one behind the other: what was appended so far, and a prefix of all of
-- them.
use Rattle.std.proofs.Common.{◌≡◌, ℕ, ◌+◌, ◌<◌, ◌≤◌, List, [], ◌∷◌, ◌++◌, length, take, drop, get_or, sym, ◌∙◌, ap, append_assoc, append-nil, subst, arith, add-one, Some, None, Result, Ok, Err, IfOk, length-append, drop-cons}
use Rattle.std.specs.Prelude.{Option, IsErrAnd}
use Rattle.std.specs.List.{flat_map}
use Rattle.std.proofs.Math.Seq.{take-append-add}
use Rattle.std.proofs.lemmas.Grind.{common_steps}
use Rattle.std.proofs.lemmas.List.{take-append-drop, take-append-le}
use Rattle.std.proofs.lemmas.List.Concat.{flat_map-append}
use Rattle.place_edges.specs.Sink.{Appended, AppendedPrefix, IsWritten}
use Rattle.run_frame.specs.Lines.{IsNoted}

-- what holds of an error holds of a result that is this error
pub at-error : {T E : Type 0} (P : Result T E → Type 0) (result : Result T E) (error : E)
    → IsErrAnd result (λ found. found ≡ error) → P (Err error) → P result
at-error P (Ok x) error never p = absurd never
at-error P (Err found) error is p = subst (λ v. P (Err v)) (sym is) p

-- what holds anyhow holds where there is an answer
pub every-ok : {T E : Type 0} {P : Type 0} (result : Result T E) → P → IfOk result (λ _. P)
every-ok (Ok x) p = p
every-ok (Err error) p = tt

-- nothing was appended where what was written is the same
pub appended-nothing : (old new : Option (List ℕ)) → new ≡ old → Appended old new []
appended-nothing None new same = tt
appended-nothing (Some xs) None same = cc same
appended-nothing (Some xs) (Some ys) same =
    let e : ys ≡ xs = cc same in e ∙ sym (append-nil xs)

-- one text behind another
pub appended-two : (old mid new : Option (List ℕ)) (first second : List ℕ)
    → Appended old mid first → Appended mid new second → Appended old new (first ++ second)
appended-two None mid new first second p q = tt
appended-two (Some xs) None new first second p q = absurd p
appended-two (Some xs) (Some ys) None first second p q = absurd q
appended-two (Some xs) (Some ys) (Some zs) first second p q =
    q ∙ ap (λ v. v ++ second) p ∙ append_assoc xs first second

-- a text that was appended is a prefix of a longer one
prefix-whole : (old new : Option (List ℕ)) (text rest : List ℕ) → Appended old new text
    → AppendedPrefix old new (text ++ rest)
prefix-whole old new text rest p =
    let e : take (length text) (text ++ rest) ≡ text = grind (arith, common_steps) in
    (length text, omega (arith, length-append text rest), subst (λ v. Appended old new v) (sym e) p)

-- a prefix of a text, behind another and before the rest
prefix-two : (old mid new : Option (List ℕ)) (first second rest : List ℕ)
    → Appended old mid first → AppendedPrefix mid new second
    → AppendedPrefix old new ((first ++ second) ++ rest)
prefix-two old mid new first second rest p (k, few, q) =
    let within : length first + k ≤ length (first ++ second) = omega
    (arith, length-append first second) in
    let e : take (length first + k) ((first ++ second) ++ rest) ≡ first ++ take k second =
    take-append-le (length first + k) (first ++ second) rest within ∙ take-append-add first second
    k in (
      length first + k,
      omega (arith, length-append (first ++ second) rest, within),
      subst (λ v. Appended old new v) (sym e) (appended-two old mid new first (take k second) p q),
    )

-- a line that was written was noted
pub noted : {T E : Type 0} (result : Result T E) (line : List ℕ) (old new : Option (List ℕ))
    (before now : ℕ) → IsWritten line result old new before now → IsNoted line old new before now
noted (Ok x) line old new before now written =
    let e : line ++ [] ≡ line = append-nil line in
    record {
      part = subst (λ v. AppendedPrefix old new v) e (prefix-whole old new line [] written.whole);
      whole = λ _. written.whole;
      later = written.later;
    }
noted (Err x) line old new before now written = record {
  part = written.prefix;
  whole = λ never. absurd (never written.failed);
  later = written.later;
}

-- a list as its front, the element at an index, and the rest, in joined texts
joined-at : {X : Type 0} (f : X → List ℕ) (xs : List X) (i : ℕ) (d : X) → i < length xs
    → flat_map f xs ≡ (flat_map f (take i xs) ++ f (get_or xs i d)) ++ flat_map f (drop (i + 1) xs)
joined-at f xs i d h =
    let e : xs ≡ take i xs ++ get_or xs i d ∷ drop (i + 1) xs =
    sym (take-append-drop i xs) ∙ ap (λ v. take i xs ++ v) (rw add-one (drop-cons xs i d h)) in
    ap (flat_map f) e ∙ flat_map-append f (take i xs) (get_or xs i d ∷ drop (i + 1) xs)
    ∙ sym (append_assoc (flat_map f (take i xs)) (f (get_or xs i d)) (flat_map f (drop (i + 1) xs)))

-- where the text at an index was not written whole, neither were all of them
pub unwritten-at : {X T E : Type 0} (f : X → List ℕ) (xs : List X) (i : ℕ) (d : X) (error : E)
    (old mid new : Option (List ℕ)) (before between now : ℕ) → i < length xs
    → Appended old mid (flat_map f (take i xs)) → between ≡ before
    → IsWritten {T = T} (f (get_or xs i d)) (Err error) mid new between now
    → IsWritten {T = T} (flat_map f xs) (Err error) old new before now
unwritten-at f xs i d error old mid new before between now h p same written = record {
  whole = tt;
  quiet = tt;
  prefix = subst (λ v. AppendedPrefix old new v) (sym (joined-at f xs i d h))
      (prefix-two old mid new (flat_map f (take i xs)) (f (get_or xs i d))
      (flat_map f (drop (i + 1) xs)) p written.prefix);
  failed = omega (arith, same, written.failed);
  later = omega (arith, same, written.later);
}
