-- Keys in order: by key, and equal keys by candidate.
use Rattle.std.specs.Prelude.{ℕ, Bool, ◌&&◌, ◌||◌, ◌==◌, nat_lt, nat_le, List, [], ◌∷◌, map, if◌then◌else◌}
use Rattle.case_maker.specs.Draws.{Key}

-- a lesser key, or the same key of no later candidate
abbrev pub is_before : Key → Key → Bool
is_before a b = nat_lt a.0 b.0 || ((a.0 == b.0) && nat_le a.1 b.1)

-- one key more, in its place
abbrev pub put_in : Key → List Key → List Key
put_in a [] = a ∷ []
put_in a (b ∷ rest) = if is_before a b then a ∷ b ∷ rest else b ∷ put_in a rest

-- the keys in order
abbrev pub in_order : List Key → List Key
in_order [] = []
in_order (a ∷ rest) = put_in a (in_order rest)

-- the candidates of the keys in order
abbrev pub turn_order : List Key → List ℕ
turn_order keys = map (λ a. a.1) (in_order keys)
