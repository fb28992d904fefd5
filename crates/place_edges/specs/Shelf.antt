-- What a shelf holds, and what its calls do.
use Rattle.std.specs.Prelude.{◌≡◌, ℕ, ◌+◌, ◌-◌, ◌^◌, ◌<◌, ◌≤◌, ◌⊎◌, min, max, List, [], ◌++◌, length, take, Option, Some, None, Result, Ok, Err, IfSome, IsSome, ⊤}

-- the most bytes that a file may have
abbrev pub file_limit : ℕ
file_limit = 2 ^ 30

-- how many bytes of a file are taken at once
abbrev pub piece_size : ℕ
piece_size = 2 ^ 16

-- the bytes held under each name
abbrev pub Files : Type 0
Files = List ℕ → Option (List ℕ)

-- an open makes the named file current from its start; a shelf that tells its files opens only what
-- it holds
abbrev pub Opens : {T E : Type 0} → Option Files → List ℕ → Result T E → Option (List ℕ) → Type 0
Opens None name result rest = ⊤
Opens (Some files) name (Ok _) rest = (files name ≡ rest) × IsSome rest
Opens (Some files) name (Err _) rest = rest ≡ Some []

-- the rest loses these bytes from its front
abbrev pub Loses : Option (List ℕ) → Option (List ℕ) → List ℕ → Type 0
Loses None new bytes = new ≡ None
Loses (Some xs) None bytes = ⊥
Loses (Some xs) (Some ys) bytes = xs ≡ bytes ++ ys

-- nothing is left, where that is told
abbrev pub IsAtEnd : Option (List ℕ) → Type 0
IsAtEnd None = ⊤
IsAtEnd (Some xs) = xs ≡ []

-- a take of n bytes
abbrev pub TakesCount : Option (List ℕ) → Option (List ℕ) → ℕ → List ℕ → Type 0
TakesCount old new n into = Loses old new (take n into) × (n ≡ 0 → 0 < length into → IsAtEnd new)

-- a take gives the next bytes, and none only at the end; after a failure the rest is not told
abbrev pub Takes : {E : Type 0} → Option (List ℕ) → Option (List ℕ) → Result ℕ E → List ℕ → Type 0
Takes old new (Ok n) into = TakesCount old new n into
Takes old new (Err _) into = new ≡ None

-- the tally after n more bytes, which stands still at its last value
abbrev pub tally_with : ℕ → ℕ → ℕ
tally_with tally n = max tally (min (tally + n) (2 ^ 64 - 1))

-- the tally after an answer
abbrev pub tally_after : {E : Type 0} → ℕ → Result ℕ E → ℕ
tally_after tally (Ok n) = tally_with tally n
tally_after tally (Err _) = tally

-- these bytes were taken of the named file, and this is the rest
abbrev pub TakenOf : Option Files → List ℕ → List ℕ → Option (List ℕ) → Type 0
TakenOf None name bytes rest = ⊤
TakenOf (Some files) name bytes None = ⊥
TakenOf (Some files) name bytes (Some rest) = files name ≡ Some (bytes ++ rest)

-- the named file has these bytes, where that is told
abbrev pub HasBytes : Option Files → List ℕ → List ℕ → Type 0
HasBytes told name bytes = IfSome told (λ files. files name ≡ Some bytes)

-- the named file has more than this many bytes, where that is told
abbrev pub HasMore : Option Files → List ℕ → ℕ → Type 0
HasMore told name n =
    IfSome told (λ files. (bytes : List ℕ) × (files name ≡ Some bytes) × (n < length bytes))

-- the tally rose by more than n, or stands at its last value
abbrev pub GaveMore : ℕ → ℕ → ℕ → Type 0
GaveMore before now n = (before + n < now) ⊎ (2 ^ 64 - 1 ≤ now)

-- how many bytes these are, none where none are told or held
abbrev pub byte_count : Option (List ℕ) → ℕ
byte_count None = 0
byte_count (Some xs) = length xs

-- no more bytes were taken than the named file has, and none where it is not held, if that is told
abbrev pub IsWithin : Option Files → List ℕ → ℕ → ℕ → Type 0
IsWithin told name before now = IfSome told (λ files. now ≤ before + byte_count (files name))
