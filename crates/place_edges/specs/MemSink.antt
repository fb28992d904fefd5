-- A sink in memory.
use Rattle.std.specs.Prelude.{◌≡◌, ℕ, ◌-◌, ◌<◌, ◌⊎◌, List, length, min, Contains}

-- what was written, how much is taken at once and how much there is room for; the numbers of the
-- puts that are to fail, and how many puts and faults there were
pub record MemorySink : Type 0 where
  pub bytes : List ℕ
  pub piece : ℕ
  pub room : ℕ
  pub failing : List ℕ
  pub calls : ℕ
  pub faults : ℕ

-- how many bytes there is room for yet
abbrev pub room_left : MemorySink → ℕ
room_left sink = sink.room - length sink.bytes

-- a put with this number fails: it is told to, or there are bytes and no room is left
abbrev pub FailsToPut : MemorySink → ℕ → List ℕ → Type 0
FailsToPut sink call bytes = Contains sink.failing call ⊎ ((0 < length bytes)
    × (room_left sink ≡ 0))

-- how many of the bytes a put appends
abbrev pub put_count : MemorySink → List ℕ → ℕ
put_count sink bytes = min (min (length bytes) sink.piece) (room_left sink)
