-- A key and its candidate as one number.
use Rattle.std.specs.Prelude.{ℕ, ◌/◌, ◌%◌}
use Rattle.case_maker.specs.Draws.{Key}
use Rattle.case_maker.specs.declared.keys.TheConstants.{INDEXES}

-- the key and the candidate of a packed key
abbrev pub unpacked : ℕ → Key
unpacked packed = (packed / INDEXES, packed % INDEXES)
