-- Why a list entry is held or not.
use Rattle.std.specs.Prelude.{ℕ, Bool, false, List, if◌then◌else◌, take, ◌==◌, Option, Some, None, slice_index}
use Rattle.std.specs.List.{list_any}
use Rattle.market.specs.Counting.{is_programme}
use Rattle.market.specs.Problems.{Problem, admits, kind_of, bar_of, list_of, rank_of}
use Rattle.market.specs.BaseRanks.{base_rank}
use Rattle.market.specs.Stability.{held_by}
use Rattle.reports.specs.declared.reasons.Reason.{Reason}
use Rattle.reports.specs.declared.reasons.Reason.TheVariants.{Placed, Below, NoRank, Bar, Full}

-- whether what is held stands before this place of the list
abbrev pub stands_before : List ℕ → Option ℕ → ℕ → Bool
stands_before list None place = false
stands_before list (Some p) place = list_any (λ q. q == p) (take place list)

-- why a programme does not admit a candidate, by the rank in its type and its bar: there is no
-- rank; or else there is a bar, and the rank is worse
abbrev pub refusal : Option ℕ → Option ℕ → Reason
refusal None bar = NoRank
refusal (Some rank) None = NoRank
refusal (Some rank) (Some bar) = Bar bar

-- the reason of programme p at a place of a candidate's list: it is held; else a programme
-- before it is held; else it does not admit the candidate, who has no rank in its type or one that
-- is worse than its bar; else it is full, with this base rank
abbrev pub reason_by : Problem → ℕ → Option ℕ → ℕ → ℕ → Option ℕ → Reason
reason_by m i held place p base =
    if is_programme p held then Placed
    else (if stands_before (list_of m i) held place then Below
    else (if admits m p i then Full base
    else refusal (rank_of m (kind_of m p) i) (bar_of m p)))

-- the programme at a place of a candidate's list
abbrev pub entry_at : Problem → ℕ → ℕ → ℕ
entry_at m i place = slice_index (list_of m i) place

-- the reason of a list entry in a placement
unfoldable pub reason_of : Problem → List (Option ℕ) → ℕ → ℕ → Reason
reason_of m held i place =
    reason_by m i (held_by held i) place (entry_at m i place)
    (base_rank m held (entry_at m i place))
