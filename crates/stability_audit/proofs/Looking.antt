-- The look through a candidate's list, entry by entry.
use Rattle.std.proofs.Common.{◌≡◌, ℕ, ◌+◌, ◌<◌, ◌≤◌, Bool, true, false, List, length, Option, Some, None, refl, sym, ap, ◌∙◌, subst, arith, ⊎_elim}
use Rattle.std.specs.Prelude.{slice_index, ◌==◌, ◌||◌}
use Rattle.std.proofs.lemmas.Bool.{cases_lt, cases_eq, false≢true, ne_eqb, eq-eqb}
use Rattle.std.proofs.lemmas.List.Folds.{list_any_more}
use Rattle.market.specs.Counting.{is_programme}
use Rattle.market.specs.Problems.{Problem, IsValid, list_of, place_of}
use Rattle.market.specs.Stability.{IsBlocking, Prefers, held_by}
use Rattle.market.proofs.Firsts.{place_get}
use Rattle.market.proofs.Turns.{is_programme-true}
use Rattle.market.proofs.Valid.{candidate_lt}
use Rattle.reports.specs.Reasons.{stands_before}
use Rattle.reports.proofs.FullEntries.{place-at, prefers}
use Rattle.stability_audit.specs.Entries.{IsFirstEntry, WouldTake}
use Rattle.stability_audit.specs.Verdicts.{HeldIsAcceptable}

-- the first entries of the list: the candidate blocks with none of them, and holds none
pub record HasPassed (m : Problem) (held : List (Option ℕ)) (i k : ℕ) : Type 0 where
  pub blocks_with_none : (p : ℕ) → place_of p (list_of m i) < k → IsBlocking m held i p → ⊥
  pub holds_none : stands_before (list_of m i) (held_by held i) k ≡ false

-- of no entry everything is so
nothing-before : (list : List ℕ) (holds : Option ℕ) → stands_before list holds 0 ≡ false
nothing-before list None = refl
nothing-before list (Some q) = refl

-- before the first entry it is so
pub HasPassed-none : (m : Problem) (held : List (Option ℕ)) (i : ℕ) → HasPassed m held i 0
HasPassed-none m held i =
    record {
      blocks_with_none = λ p l. absurd (omega arith);
      holds_none = nothing-before (list_of m i) (held_by held i);
    }

-- an entry that is not held keeps what is held behind
still-behind : (list : List ℕ) (holds : Option ℕ) (k : ℕ) → k < length list
    → stands_before list holds k ≡ false → is_programme (slice_index list k) holds ≡ false
    → stands_before list holds (k + 1) ≡ false
still-behind list None k l behind other = refl
still-behind list (Some q) k l behind other =
    list_any_more (λ x. x == q) list k 0 l
    ∙ ap (λ (b : Bool). b || (slice_index list k == q)) behind
    ∙ ⊎_elim
    (λ (same : slice_index list k ≡ q).
    absurd (false≢true (sym other ∙ eq-eqb q (slice_index list k) (sym same))))
    (λ apart. ne_eqb (slice_index list k) q apart)
    (cases_eq (slice_index list k) q)

-- below the programme that is held nothing is preferred to it
pub held-ends : (m : Problem) → IsValid m → (held : List (Option ℕ)) (i k : ℕ)
    → k < length (list_of m i) → HasPassed m held i k
    → is_programme (slice_index (list_of m i) k) (held_by held i) ≡ true
    → (p : ℕ) → IsBlocking m held i p → ⊥
held-ends m v held i k l passed is p b =
    let list = list_of m i in
    let q = slice_index list k in
    let holds = is_programme-true q (held_by held i) is in
    let at = place-at list (v.list_distinct i (candidate_lt m i k l)) k l in
    let before = subst (λ (o : Option ℕ). Prefers list p o) holds b.preferred in
    let less = before.0 in
    passed.blocks_with_none p (omega arith) b

-- the programme of an entry would take the candidate, who prefers it: the first pair that blocks
pub first-entry : (m : Problem) → IsValid m → (held : List (Option ℕ)) (i k : ℕ)
    → k < length (list_of m i) → HasPassed m held i k → HeldIsAcceptable m held i
    → is_programme (slice_index (list_of m i) k) (held_by held i) ≡ false
    → WouldTake m held i (slice_index (list_of m i) k)
    → IsFirstEntry m held i (slice_index (list_of m i) k)
first-entry m v held i k l passed acceptable other takes =
    let list = list_of m i in
    let p = slice_index list k in
    let distinct = v.list_distinct i (candidate_lt m i k l) in
    let at = place-at list distinct k l in
    record {
      blocks = record {
        acceptable = record { listed = omega arith; admitted = takes.admitted };
        preferred = prefers list (held_by held i) k distinct l
            (λ q holds. (acceptable q holds).listed) other passed.holds_none;
        room = takes.room;
      };
      first = λ q before b. passed.blocks_with_none q (omega arith) b;
    }

-- an entry that is not held and would not take the candidate is passed
pub HasPassed-more : (m : Problem) (held : List (Option ℕ)) (i k : ℕ) → k < length (list_of m i)
    → HasPassed m held i k → is_programme (slice_index (list_of m i) k) (held_by held i) ≡ false
    → (WouldTake m held i (slice_index (list_of m i) k) → ⊥) → HasPassed m held i (k + 1)
HasPassed-more m held i k l passed other refuses =
    let list = list_of m i in
    record {
      blocks_with_none = λ p lp b.
          ⊎_elim
          (λ less. passed.blocks_with_none p less b)
          (λ past.
          let here : place_of p list ≡ k = omega arith in
          let same : slice_index list k ≡ p = ap (slice_index list) (sym here)
          ∙ place_get p list 0 (omega arith) in
          refuses (subst (λ (x : ℕ). WouldTake m held i x) (sym same)
          (record { admitted = b.acceptable.admitted; room = b.room })))
          (cases_lt (place_of p list) k);
      holds_none = still-behind list (held_by held i) k l passed.holds_none other;
    }

-- a list gone through to its end
pub HasPassed-all : (m : Problem) (held : List (Option ℕ)) (i k : ℕ) → length (list_of m i) ≤ k
    → HasPassed m held i k → (p : ℕ) → IsBlocking m held i p → ⊥
HasPassed-all m held i k past passed p b =
    let listed = b.acceptable.listed in passed.blocks_with_none p (omega arith) b
