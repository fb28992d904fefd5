-- The rows of the first quotas, and what is known between two placings.
use Rattle.std.proofs.Common.{◌≡◌, ℕ, zero, suc, ◌+◌, ◌<◌, ◌≤◌, List, [], ◌∷◌, ◌++◌, length, Option, Some, sym, ap, ◌∙◌, arith, map}
use Rattle.std.specs.Prelude.{IfSome}
use Rattle.std.specs.List.{range_with_len}
use Rattle.std.proofs.lemmas.List.FromFn.{map-range_with_len_more}
use Rattle.market.specs.declared.limits.TheConstants.{MAX_QUOTA}
use Rattle.market.specs.Mechanism.{mechanism_placement}
use Rattle.market.specs.Problems.{Problem, IsValid, with_quota}
use Rattle.market.proofs.Quotas.{with_quota-again, with_quota-own, with_quota-valid}
use Rattle.market.specs.Problems.{quota_of}
use Rattle.stable_laws.proofs.Stable.{stable}
use Rattle.quota_sweep.proofs.Widening.{length-same}
use Rattle.quota_sweep.specs.declared.row.SweepRow.{SweepRow}
use Rattle.quota_sweep.specs.Sweeps.{IsQuotaChanged, placed_before, placed_with, row_of, sweep_row}

-- the rows of the first k quotas from `low` on, and what the last of them gave
pub record IsSweptUpto (m : Problem) (p low k : ℕ) (market : Problem) (rows : List SweepRow)
    (before : Option (List (Option ℕ))) : Type 0 where
  pub changed : IsQuotaChanged m p market
  pub rows_are : rows ≡ map (sweep_row m p low) (range_with_len 0 k)
  pub before_is : before ≡ placed_before m p low k

-- nothing was changed yet
pub unchanged : (m : Problem) (p : ℕ) → IsQuotaChanged m p m
unchanged m p = record { quota = quota_of m p; is = sym (with_quota-own m p) }

-- a quota that is given to a market in which one was changed
pub changed-again : (m market now : Problem) (p quota : ℕ) → p < length m.programmes
    → IsQuotaChanged m p market → now ≡ with_quota market p quota → now ≡ with_quota m p quota
changed-again m market now p quota l changed e =
    e ∙ ap (λ (x : Problem). with_quota x p quota) changed.is
    ∙ with_quota-again m p changed.quota l quota

-- so only that quota is changed
pub changed-still : (m market now : Problem) (p quota : ℕ) → p < length m.programmes
    → IsQuotaChanged m p market → now ≡ with_quota market p quota → IsQuotaChanged m p now
changed-still m market now p quota l changed e =
    record { quota = quota; is = changed-again m market now p quota l changed e }

-- there are as many programmes
pub changed-count : (m market : Problem) (p : ℕ) → IsQuotaChanged m p market
    → length market.programmes ≡ length m.programmes
changed-count m market p changed =
    ap (λ (x : Problem). length x.programmes) changed.is ∙ length-same m p changed.quota

-- and as many candidates
pub changed-candidates : (m market : Problem) (p : ℕ) → IsQuotaChanged m p market
    → length market.lists ≡ length m.lists
unfolding with_quota
changed-candidates m market p changed = ap (λ (x : Problem). length x.lists) changed.is

-- what a quota gives has an entry for each candidate
length-placed_with : (m : Problem) → IsValid m → (p quota : ℕ) → p < length m.programmes
    → quota ≤ MAX_QUOTA → length (placed_with m p quota) ≡ length m.lists
unfolding placed_with with_quota
length-placed_with m v p quota l few =
    (stable (with_quota m p quota) (with_quota-valid m p quota l v few)).placement.candidates

-- so has what was given before
pub length-before : (m : Problem) → IsValid m → (p low k : ℕ) → p < length m.programmes
    → low + k ≤ MAX_QUOTA
    → IfSome (placed_before m p low k) (λ held. length held ≡ length m.lists)
length-before m v p low zero l few = tt
length-before m v p low (suc k) l few = length-placed_with m v p (low + k) l (omega arith)

-- one row more
pub IsSweptUpto-more : (m : Problem) (p low k : ℕ) (market now : Problem)
    (rows more : List SweepRow) (before : Option (List (Option ℕ))) (held : List (Option ℕ))
    (row : SweepRow) → now ≡ with_quota m p (low + k)
    → IsSweptUpto m p low k market rows before → held ≡ mechanism_placement now
    → row ≡ row_of now p (low + k) before held → more ≡ rows ++ row ∷ []
    → IsSweptUpto m p low (k + 1) now more (Some held)
unfolding sweep_row placed_with
IsSweptUpto-more m p low k market now rows more before held row n s h r e =
    let given : held ≡ placed_with m p (low + k) = h ∙ ap mechanism_placement n in
    let next : suc k ≡ k + 1 = omega arith in
    let own = r ∙ (λ i. row_of (n i) p (low + k) (s.before_is i) (given i)) in
    record {
      changed = record { quota = low + k; is = n };
      rows_are = e
          ∙ (λ i. s.rows_are i ++ own i ∷ [])
          ∙ sym (map-range_with_len_more (sweep_row m p low) 0 k k (omega arith));
      before_is = ap Some given ∙ ap (placed_before m p low) next;
    }
