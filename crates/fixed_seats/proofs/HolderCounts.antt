-- The numbers of holders among the first candidates: how they grow with one more.
use Rattle.std.proofs.Common.{◌≡◌, ℕ, ◌+◌, ◌<◌, List, length, Option, Some, None, sym, ap, ◌∙◌, subst, get_or, set, map, replicate, take, ⊎_elim}
use Rattle.std.specs.Prelude.{slice_index}
use Rattle.std.specs.List.{range_with_len}
use Rattle.std.proofs.lemmas.Bool.{cases_eq, ne_eqb}
use Rattle.std.proofs.lemmas.List.{length-set, get_or-set_same, get_or-set_other, get_or-replicate, length-replicate}
use Rattle.std.proofs.lemmas.List.FromFn.{fill_by_all}
use Rattle.std.proofs.lemmas.List.Sums.{count_by_more_no, count_by_more_yes}
use Rattle.std.proofs.Math.Seq.{take-length}
use Rattle.market.specs.Counting.{is_programme, count_of}
use Rattle.market.specs.Stability.{held_by}
use Rattle.market.proofs.Turns.{is_programme-from}

-- the numbers of holders of so many programmes among the first n candidates
pub record HasCounted (held : List (Option ℕ)) (programmes : ℕ) (counts : List ℕ) (n : ℕ) : Type 0
  where
    pub count : length counts ≡ programmes
    pub each : (p : ℕ) → p < programmes → slice_index counts p ≡ count_of p (take n held)

-- nobody is counted in zeros
pub HasCounted-none : (held : List (Option ℕ)) (programmes : ℕ) (counts : List ℕ)
    → counts ≡ replicate programmes 0 → HasCounted held programmes counts 0
HasCounted-none held programmes counts zeros =
    record {
      count = ap (λ (xs : List ℕ). length xs) zeros ∙ length-replicate programmes 0;
      each = λ p l. ap (λ (xs : List ℕ). get_or xs p 0) zeros
          ∙ get_or-replicate programmes p 0 0 l;
    }

-- who holds nothing is counted nowhere
pub HasCounted-skip : (held : List (Option ℕ)) (programmes : ℕ) (counts : List ℕ) (n : ℕ)
    → n < length held → held_by held n ≡ None → HasCounted held programmes counts n
    → HasCounted held programmes counts (n + 1)
HasCounted-skip held programmes counts n l nothing c =
    record {
      count = c.count;
      each = λ p lp. c.each p lp
          ∙ sym (count_by_more_no (is_programme p) held n None l (ap (is_programme p) nothing));
    }

-- a holder is counted at the programme held
pub HasCounted-more : (held : List (Option ℕ)) (programmes : ℕ) (counts more : List ℕ) (n p : ℕ)
    → n < length held → p < programmes → held_by held n ≡ Some p
    → HasCounted held programmes counts n → more ≡ set counts p (slice_index counts p + 1)
    → HasCounted held programmes more (n + 1)
HasCounted-more held programmes counts more n p l lp holds c written =
    let one = slice_index counts p + 1 in
    let within : p < length counts = subst (λ (k : ℕ). p < k) (sym c.count) lp in
    record {
      count = ap (λ (xs : List ℕ). length xs) written ∙ length-set counts p one ∙ c.count;
      each = λ q lq. ap (λ (xs : List ℕ). get_or xs q 0) written ∙ ⊎_elim
          (λ (same : q ≡ p).
          subst (λ (x : ℕ). get_or (set counts p one) x 0 ≡ count_of x (take (n + 1) held))
          (sym same) (get_or-set_same counts p one 0 within ∙ ap (λ (x : ℕ). x + 1) (c.each p lp)
          ∙ sym (count_by_more_yes (is_programme p) held n None l
          (is_programme-from p (held_by held n) holds))))
          (λ other. get_or-set_other counts p q one 0 other ∙ c.each q lq
          ∙ sym (count_by_more_no (is_programme q) held n None l
          (ap (is_programme q) holds ∙ ne_eqb p q (λ same. other (sym same)))))
          (cases_eq q p);
    }

-- at the end all are counted
pub HasCounted-all : (held : List (Option ℕ)) (programmes : ℕ) (counts : List ℕ)
    → HasCounted held programmes counts (length held)
    → counts ≡ map (λ p. count_of p held) (range_with_len 0 programmes)
HasCounted-all held programmes counts c =
    fill_by_all (λ p. count_of p held) counts programmes 0 c.count
    (λ p l. c.each p l ∙ ap (count_of p) (take-length held))
