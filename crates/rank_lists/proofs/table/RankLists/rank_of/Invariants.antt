use Rattle.std.proofs.Common.{◌≢◌, ℕ, ◌<◌, get_or}
use Rattle.rank_lists.proofs.table.RankLists.rank_of.Given as goal

-- the candidate did not stand so far
abbrev pub invariant-loop-turn : goal.invariant-loop-turn
invariant-loop-turn l = (k : ℕ) → k < l.turn → get_or l.order k 0 ≢ l.candidate
