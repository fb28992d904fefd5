-- A text that is written in two parts.
use Rattle.std.proofs.Common.{◌≡◌, ◌∙◌, ℕ, ◌+◌, List, ◌++◌, length, take, sym, subst, arith, Option, Result, Ok, Err, length-append}
use Rattle.std.proofs.Math.Seq.{take-append-add}
use Rattle.std.proofs.lemmas.List.{take-append-le}
use Rattle.place_edges.specs.Sink.{Appended, IsWritten}
use Rattle.run_frame.proofs.Parts.{appended-two}

-- where the first part was not written whole, neither were both
pub unwritten-first : {T E : Type 0} (first second : List ℕ) (error : E)
    (old new : Option (List ℕ)) (before now : ℕ)
    → IsWritten {T = T} first (Err error) old new before now
    → IsWritten {T = T} (first ++ second) (Err error) old new before now
unwritten-first first second error old new before now written =
    let part = written.prefix in
    record {
      whole = tt;
      quiet = tt;
      prefix = (
        part.0,
        omega (arith, part.1, length-append first second),
        subst (λ v. Appended old new v) (sym (take-append-le part.0 first second part.1)) part.2,
      );
      failed = written.failed;
      later = written.later;
    }

-- behind the first part the second one was written
pub written-two : {T E : Type 0} (first second : List ℕ) (result : Result T E)
    (old mid new : Option (List ℕ)) (before between now : ℕ) → Appended old mid first
    → between ≡ before → IsWritten second result mid new between now
    → IsWritten (first ++ second) result old new before now
written-two first second (Ok value) old mid new before between now wrote same rest = record {
  whole = appended-two old mid new first second wrote rest.whole;
  quiet = rest.quiet ∙ same;
  prefix = tt;
  failed = tt;
  later = omega (arith, same, rest.later);
}
written-two first second (Err error) old mid new before between now wrote same rest =
    let part = rest.prefix in
    record {
      whole = tt;
      quiet = tt;
      prefix = (
        length first + part.0,
        omega (arith, part.1, length-append first second),
        subst (λ v. Appended old new v) (sym (take-append-add first second part.0))
            (appended-two old mid new first (take part.0 second) wrote part.2),
      );
      failed = omega (arith, same, rest.failed);
      later = omega (arith, same, rest.later);
    }
