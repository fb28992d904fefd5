-- What the tally says of a file that was read whole.
use Rattle.std.specs.Prelude.{ℕ, ◌+◌, ◌≤◌, Result, IsErrOf}
use Rattle.place_edges.specs.Shelf.{GaveMore, file_limit, piece_size, tally_with}
use Rattle.place_edges.specs.declared.whole.ReadStop.{ReadStop}
use Rattle.place_edges.specs.declared.whole.ReadStop.TheVariants.{Failed, TooLong, Memory}

-- A file is too long only where more than 2^30 bytes were taken. Else no more were taken than that,
-- and in no case more than one piece beyond it. Memory is refused only where bytes were taken.
pub record HasTally {T : Type 0} (result : Result T ReadStop) (before now : ℕ) : Type 0 where
  pub later : before ≤ now
  pub long : IsErrOf result TooLong → GaveMore before now file_limit
  pub failed : IsErrOf result Failed → now ≤ before + file_limit
  pub memory : IsErrOf result Memory → now ≤ before + file_limit
  pub bounded : now ≤ before + file_limit + piece_size
  pub begun : IsErrOf result Memory → tally_with before 1 ≤ now
