use Rattle.std.proofs.Common.{◌≡◌, ℕ, ◌<◌, slice_index, nat_lt, false}
use Rattle.dictatorship.proofs.turns.first_place.Given as goal

-- no entry before this one has a seat left
abbrev pub invariant-loop-place : goal.invariant-loop-place
invariant-loop-place l = (k : ℕ) → k < l.place
    → nat_lt (slice_index l.seats (slice_index l.list k))
    (slice_index l.dict.quota (slice_index l.list k)) ≡ false
