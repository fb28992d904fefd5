-- How a result meets what is said of it.
use Rattle.std.specs.Prelude.{◌≡◌, ◌⊎◌, Bool, IsTrue, IsFalse, Option, Some, Result, Ok, Err, ⊤}

-- A result meets what is said: an answer is the said one, and so is a stop; but a free stop may
-- stand in place of anything.
abbrev pub Meets : {T S : Type 0} → (S → Bool) → Option (Result T S) → Result T S → Type 0
Meets free said (Ok answer) = said ≡ Some (Ok answer)
Meets free said (Err stop) = IsTrue (free stop) ⊎ (said ≡ Some (Err stop))

-- a result is no free stop
abbrev pub IsDecided : {T S : Type 0} → (S → Bool) → Result T S → Type 0
IsDecided free (Ok answer) = ⊤
IsDecided free (Err stop) = IsFalse (free stop)
