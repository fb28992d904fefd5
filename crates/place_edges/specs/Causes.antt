-- A count of faults, and what may be said of an answer by it.
use Rattle.std.specs.Prelude.{◌≡◌, ℕ, ◌+◌, ◌-◌, ◌^◌, ◌≤◌, min, Result, Ok, Err, OnOk, OnErr}

-- the count after one more, which stands still at its last value
abbrev pub counted : ℕ → ℕ
counted before = min (before + 1) (2 ^ 64 - 1)

-- the count rose, or stands at its last value
abbrev pub Rose : ℕ → ℕ → Type 0
Rose before now = min (before + 1) (2 ^ 64 - 1) ≤ now

-- the count has not fallen, a failure is answered only where it rose, and none is passed over: after
-- an answer it stands still
pub record HasCause {T E : Type 0} (before now : ℕ) (result : Result T E) : Type 0 where
  pub later : before ≤ now
  pub kept : OnOk result (now ≡ before)
  pub failed : OnErr result (Rose before now)

-- the count after an answer: one more after a failure, and else the same
abbrev pub faults_after : {T E : Type 0} → ℕ → Result T E → ℕ
faults_after before (Ok _) = before
faults_after before (Err _) = counted before
