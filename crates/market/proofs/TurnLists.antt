-- The dictatorships copied from a market's lists in turn order have the lists of their turns.
use Rattle.std.proofs.Common.{◌≡◌, ℕ, ◌+◌, ◌-◌, ◌*◌, ◌<◌, ◌≤◌, List, [], ◌∷◌, ◌++◌, length, sym, ap, ◌∙◌, arith, take, drop}
use Rattle.std.specs.Prelude.{slice_index}
use Rattle.std.proofs.lemmas.List.{length-map, get_or-map, length-take, length-drop, get_or-drop, get_or-take, length-append}
use Rattle.market.specs.declared.limits.TheConstants.{MAX_ENTRIES}
use Rattle.market.specs.Problems.{Problem, IsValid, order_of}
use Rattle.market.specs.LocalNumbers.{local_list}
use Rattle.market.specs.FlatLists.{between}
use Rattle.market.specs.TypeLists.{items_below, type_items, type_places, FlatTypeLists, IsTypeLists, type_lists_at}
use Rattle.market.proofs.Dicts.{local_length}
use Rattle.market.proofs.Tables.{each_more}
use Rattle.market.proofs.Below.{front_local}

-- the place of an entry of the rest of an order
pub record IsRestAt (order rest : List ℕ) (from k : ℕ) : Type 0 where
  pub inside : from + k < length order
  pub same : slice_index rest k ≡ slice_index order (from + k)

-- an entry of the rest of an order
pub rest_at : (order part : List ℕ) (from k : ℕ) → part ≡ order
    → k < length (take (length part - from) (drop from part))
    → IsRestAt order (take (length part - from) (drop from part)) from k
rest_at order part from k e l =
    let a = length-take (length part - from) (drop from part) in
    let b = length-drop from part in
    let n = ap (λ (xs : List ℕ). length xs) e in
    record {
      inside = omega arith;
      same =
          get_or-take (length part - from) (drop from part) k 0 (omega arith)
          ∙ get_or-drop from part k 0 ∙ ap (λ (xs : List ℕ). slice_index xs (from + k)) e;
    }

-- the list of a turn lies within the lists of its type
pub record HasTurn (f : FlatTypeLists) (k : ℕ) : Type 0 where
  pub turn : k + 1 < length f.bounds
  pub rising : slice_index f.bounds k ≤ slice_index f.bounds (k + 1)
  pub items : slice_index f.bounds (k + 1) ≤ length f.items
  pub places : slice_index f.bounds (k + 1) ≤ length f.places

-- and so does each turn of the type
pub has_turn : (m : Problem) (t k : ℕ) (f : FlatTypeLists) → IsTypeLists m t f
    → k < length (order_of m t) → HasTurn f k
has_turn m t k f h l =
    let a = length-map (order_of m t) (type_items m t) in
    let b = length-map (order_of m t) (type_places m t) in
    let count = h.items.count in
    record {
      turn = omega arith;
      rising = h.items.rising k (omega arith);
      items = h.items.within (k + 1) (omega arith);
      places = h.places.within (k + 1) (omega arith);
    }

-- what a turn's cut leaves is the turn's list
pub turn_below : (m : Problem) (cuts : List ℕ) (t k i cut : ℕ) (f : FlatTypeLists)
    → IsTypeLists m t f → k < length (order_of m t) → i ≡ slice_index (order_of m t) k
    → cut ≡ slice_index cuts i
    → items_below cut (between f.items f.bounds k) (between f.places f.bounds k)
    ≡ local_list m cuts t i
turn_below m cuts t k i cut f h l ei ec =
    let order = order_of m t in
    let a = length-map order (type_items m t) in
    let b = length-map order (type_places m t) in
    let items : between f.items f.bounds k ≡ type_items m t i = h.items.each k (omega arith)
    ∙ get_or-map (type_items m t) order k 0 [] l ∙ ap (type_items m t) (sym ei) in
    let places : between f.places f.bounds k ≡ type_places m t i = h.places.each k (omega arith)
    ∙ get_or-map (type_places m t) order k 0 [] l ∙ ap (type_places m t) (sym ei) in
    ap (λ (xs : List ℕ). items_below cut xs (between f.places f.bounds k)) items
    ∙ ap (items_below cut (type_items m t i)) places
    ∙ ap (λ (c : ℕ). items_below c (type_items m t i) (type_places m t i)) ec
    ∙ front_local m cuts t i

-- a turn's list adds no more items than a list may have entries
pub few_more : (m : Problem) (cuts : List ℕ) (t i k : ℕ) (items items' xs : List ℕ) → IsValid m
    → i < length m.lists → xs ≡ local_list m cuts t i → items' ≡ items ++ xs
    → length items ≤ MAX_ENTRIES * k
    → length items' ≤ MAX_ENTRIES * (k + 1)
few_more m cuts t i k items items' xs v li e ei few =
    let a = ap (λ (ys : List ℕ). length ys) ei ∙ length-append items xs in
    let b = ap (λ (ys : List ℕ). length ys) e in
    let c = local_length m cuts t i v li in
    omega arith

-- the lists of one type more
pub type_lists_more : (P : ℕ → FlatTypeLists → Type 0) (found more : List FlatTypeLists)
    (f : FlatTypeLists) (k : ℕ) → length found ≡ k → more ≡ found ++ f ∷ []
    → ((t : ℕ) → t < k → P t (type_lists_at found t)) → P k f
    → (t : ℕ) → t < k + 1 → P t (type_lists_at more t)
type_lists_more = each_more (record { items = []; places = []; bounds = [] })
