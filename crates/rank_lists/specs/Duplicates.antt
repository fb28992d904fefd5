-- The first row that repeats an earlier one.
use Rattle.std.specs.Prelude.{ℕ, ◌+◌, List, length, nat_lt, if◌then◌else◌, Option, Some, None}
use Rattle.rank_lists.specs.Repeats.{HasNoRepeat, IsFirstRepeat}
use Rattle.rank_lists.specs.declared.repeats.Repeat.{Repeat}
use Rattle.rank_lists.specs.declared.duplicates.Duplicate.{Duplicate}
use Rattle.rank_lists.specs.declared.duplicates.Duplicate.TheVariants.{Candidate, Rank}

-- the places of a duplicate, and the field that is at fault
abbrev pub duplicate_of : Duplicate → Repeat × ℕ
duplicate_of (Candidate repeat) = (repeat, 2)
duplicate_of (Rank repeat) = (repeat, 3)

-- the first row that repeats the candidate or the rank of an earlier one in the same type, the
-- candidate first, if there is one
abbrev pub IsFirstDuplicate : List ℕ → List ℕ → Option Duplicate → Type 0
IsFirstDuplicate candidates ranks None =
    HasNoRepeat candidates (length candidates) × HasNoRepeat ranks (length ranks)
IsFirstDuplicate candidates ranks (Some (Candidate repeat)) =
    IsFirstRepeat candidates repeat.earlier repeat.later × HasNoRepeat ranks repeat.later
IsFirstDuplicate candidates ranks (Some (Rank repeat)) =
    IsFirstRepeat ranks repeat.earlier repeat.later × HasNoRepeat candidates (repeat.later + 1)

-- the one in the earlier row; in one row the candidate comes first
abbrev pub earlier_duplicate : Option Repeat → Option Repeat → Option Duplicate
earlier_duplicate None None = None
earlier_duplicate None (Some rank) = Some (Rank rank)
earlier_duplicate (Some candidate) None = Some (Candidate candidate)
earlier_duplicate (Some candidate) (Some rank) =
    if nat_lt rank.later candidate.later then Some (Rank rank) else Some (Candidate candidate)
