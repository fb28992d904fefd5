-- The lists of a type in turn order, kept whole and flat, from which its dictatorships are copied.
use Rattle.std.specs.Prelude.{◌≡◌, ℕ, suc, ◌<◌, Bool, if◌then◌else◌, List, [], ◌∷◌, length, map, filter, nat_lt, slice_index_or}
use Rattle.market.specs.Problems.{Problem, list_of, order_of}
use Rattle.market.specs.Mechanism.{is_offered}
use Rattle.market.specs.LocalNumbers.{local_of}
use Rattle.market.specs.Tables.{HasTurnTables, HasMembers, IsLocals}
use Rattle.market.specs.FlatLists.{IsFlat}

-- the places at which the test holds, where the list begins at place s
abbrev pub places_from : (ℕ → Bool) → ℕ → List ℕ → List ℕ
places_from f s [] = []
places_from f s (x ∷ xs) = if f x then s ∷ places_from f (suc s) xs else places_from f (suc s) xs

-- the items whose places are below the cut
abbrev pub items_below : ℕ → List ℕ → List ℕ → List ℕ
items_below cut [] places = []
items_below cut (x ∷ xs) [] = []
items_below cut (x ∷ xs) (p ∷ ps) =
    if nat_lt p cut then x ∷ items_below cut xs ps else items_below cut xs ps

-- the lists of a type in turn order: local numbers, and their places in the whole preference lists
pub record FlatTypeLists : Type 0 where
  pub items : List ℕ
  pub places : List ℕ
  pub bounds : List ℕ

-- the programmes that a candidate's turn in a type may take, as local numbers: listed, of the type,
-- and admitting the candidate
unfoldable pub type_items : Problem → ℕ → ℕ → List ℕ
type_items m t i = map (local_of m) (filter (is_offered m t i) (list_of m i))

-- their places in the candidate's list
unfoldable pub type_places : Problem → ℕ → ℕ → List ℕ
type_places m t i = places_from (is_offered m t i) 0 (list_of m i)

-- the lists of the turns of a type, with their places
pub record IsTypeLists (m : Problem) (t : ℕ) (f : FlatTypeLists) : Type 0 where
  pub items : IsFlat f.items f.bounds (map (type_items m t) (order_of m t))
  pub places : IsFlat f.places f.bounds (map (type_places m t) (order_of m t))

-- those of one type
abbrev pub type_lists_at : List FlatTypeLists → ℕ → FlatTypeLists
type_lists_at found t = slice_index_or found t (record { items = []; places = []; bounds = [] })

-- for each type its lists in turn order
pub record HasTypeLists (m : Problem) (found : List FlatTypeLists) : Type 0 where
  pub count : length found ≡ m.types
  pub each : (t : ℕ) → t < m.types → IsTypeLists m t (type_lists_at found t)

-- all that a market keeps beside its parts
pub record HasTables (m : Problem) (tables by_type : List (List ℕ)) (numbers : List ℕ)
    (found : List FlatTypeLists) : Type 0 where
  pub turns : HasTurnTables m tables
  pub members : HasMembers m by_type
  pub locals : IsLocals m numbers
  pub type_lists : HasTypeLists m found
