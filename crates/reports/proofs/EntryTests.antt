-- Which reason an entry has, by three tests.
use Rattle.std.proofs.Common.{◌≡◌, ℕ, true, false, List, Option, refl}
use Rattle.std.specs.Prelude.{if◌then◌else◌}
use Rattle.market.specs.Counting.{is_programme}
use Rattle.market.specs.Problems.{Problem, admits, bar_of, kind_of, list_of, rank_of}
use Rattle.market.specs.BaseRanks.{base_rank}
use Rattle.market.specs.Stability.{held_by}
use Rattle.reports.specs.Reasons.{entry_at, reason_of, refusal, stands_before}
use Rattle.reports.specs.declared.reasons.Reason.TheVariants.{Placed, Below, Full}

-- an entry that is held
pub reason-placed : (m : Problem) (held : List (Option ℕ)) (i place : ℕ)
    → is_programme (entry_at m i place) (held_by held i) ≡ true
    → reason_of m held i place ≡ Placed
unfolding reason_of
reason-placed m held i place h = rw h refl

-- an entry below the one held
pub reason-below : (m : Problem) (held : List (Option ℕ)) (i place : ℕ)
    → is_programme (entry_at m i place) (held_by held i) ≡ false
    → stands_before (list_of m i) (held_by held i) place ≡ true
    → reason_of m held i place ≡ Below
unfolding reason_of
reason-below m held i place h b = rw h (rw b refl)

-- an entry above it, by whether the programme admits the candidate
pub reason-above : (m : Problem) (held : List (Option ℕ)) (i place : ℕ)
    → is_programme (entry_at m i place) (held_by held i) ≡ false
    → stands_before (list_of m i) (held_by held i) place ≡ false
    → reason_of m held i place
    ≡ (if admits m (entry_at m i place) i then Full (base_rank m held (entry_at m i place))
    else refusal (rank_of m (kind_of m (entry_at m i place)) i) (bar_of m (entry_at m i place)))
unfolding reason_of
reason-above m held i place h b = rw h (rw b refl)

-- what is so where the reason is that the programme is full
pub record IsFullEntry (m : Problem) (held : List (Option ℕ)) (i place : ℕ) : Type 0 where
  pub not_held : is_programme (entry_at m i place) (held_by held i) ≡ false
  pub not_below : stands_before (list_of m i) (held_by held i) place ≡ false
  pub admitted : admits m (entry_at m i place) i ≡ true
