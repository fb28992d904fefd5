-- The dictatorship over local numbers makes the choices of the one over the market's own numbers:
-- by induction on the turns as many seats are taken under both, so the same entries are open.
use Rattle.std.proofs.Common.{◌≡◌, ℕ, zero, suc, ◌+◌, ◌-◌, ◌<◌, ◌≤◌, Bool, true, false, cond, List, [], ◌∷◌, length, Option, Some, None, refl, sym, ap, ◌∙◌, subst, arith, map, take, drop, replicate, ⊎_elim}
use Rattle.std.specs.Prelude.{slice_index, find, ◌==◌, nat_lt, slice_get}
use Rattle.std.specs.Option.{option_map}
use Rattle.std.specs.List.{position_or_len}
use Rattle.std.proofs.lemmas.Bool.{cases_lt, cases_eq, cases_Bool, eqb-true, eq-eqb, ne_eqb}
use Rattle.std.proofs.lemmas.List.{length-map, get_or-map, length-drop, get_or-drop, get_or_past, get_or-replicate, length-replicate}
use Rattle.std.proofs.lemmas.List.FromFn.{length-map-range_with_len, get_or-map-range_with_len}
use Rattle.std.proofs.lemmas.List.Elements.{filter_passes}
use Rattle.market.specs.Counting.{is_programme}
use Rattle.market.specs.Problems.{Problem, IsValid, kind_of, quota_of, list_of, order_of, place_of}
use Rattle.market.specs.Stability.{held_by}
use Rattle.market.specs.Dictatorships.{Dictatorship, has_seat, list_at, first_open, choice, choices, pick, seats_taken, IsValidDictatorship}
use Rattle.market.specs.Mechanism.{is_offered, turn_list, type_dictatorship}
use Rattle.market.specs.LocalNumbers.{programmes_of, local_of, local_list, local_dictatorship, IsFill, IsFillBefore}
use Rattle.market.proofs.Firsts.{find_listed, place_get, place_step}
use Rattle.market.proofs.Turns.{is_open, pick-find, seats_taken-zero, seats_taken-suc}
use Rattle.market.proofs.Tentatives.{type-quota, type-fill, type-list, offered-kind, zeros}
use Rattle.market.proofs.Dicts.{front_entry, filter_within, local_back, local_lt}

-- one entry of such lists
find_step : (a b : Bool) (x y : ℕ) (g : ℕ → ℕ) (m n : Option ℕ) → a ≡ b → m ≡ option_map g n
    → cond a (Some (g x)) m ≡ option_map g (cond b (Some x) n)
find_step true true x y g m n e h = refl
find_step true false x y g m n e h = absurd (Rattle.std.proofs.lemmas.Bool.false≢true (sym e))
find_step false true x y g m n e h = absurd (Rattle.std.proofs.lemmas.Bool.false≢true e)
find_step false false x y g m n e h = h

-- what is found under local numbers is what is found under the market's own
find-map : (f h : ℕ → Bool) (g : ℕ → ℕ) (xs : List ℕ)
    → ((j : ℕ) → j < length xs → f (g (slice_index xs j)) ≡ h (slice_index xs j))
    → find f (map g xs) ≡ option_map g (find h xs)
find-map f h g [] e = refl
find-map f h g (x ∷ xs) e =
    find_step (f (g x)) (h x) x x g (find f (map g xs)) (find h xs) (e 0 (omega arith))
    (find-map f h g xs (λ j l. e (suc j) (omega arith)))

-- so is its place
position-map : (f h : ℕ → Bool) (g : ℕ → ℕ) (xs : List ℕ)
    → ((j : ℕ) → j < length xs → f (g (slice_index xs j)) ≡ h (slice_index xs j))
    → position_or_len f (map g xs) ≡ position_or_len h xs
position-map f h g [] e = refl
position-map f h g (x ∷ xs) e =
    place_step (f (g x)) (h x) (position_or_len f (map g xs)) (position_or_len h xs)
    (e 0 (omega arith)) (position-map f h g xs (λ j l. e (suc j) (omega arith)))

-- when a programme has a seat left
open-is : (d : Dictatorship) (k p : ℕ)
    → is_open d k p ≡ nat_lt (slice_index d.fill p + seats_taken d k p) (slice_index d.quota p)
unfolding is_open has_seat seats_taken
open-is d k p = refl

-- the choice is the first entry that has a seat left
choice-is : (d : Dictatorship) (k : ℕ) → choice d k ≡ position_or_len (is_open d k) (list_at d k)
unfolding choice first_open is_open
choice-is d k = refl

-- the quotas over local numbers
local-quota : (m : Problem) (cuts fill : List ℕ) (t from : ℕ)
    → (local_dictatorship m cuts t from fill).quota ≡ map (quota_of m) (programmes_of m t)
unfolding local_dictatorship
local-quota m cuts fill t from = refl

-- the seats taken before
pub local-fill : (m : Problem) (cuts fill : List ℕ) (t from : ℕ)
    → (local_dictatorship m cuts t from fill).fill ≡ fill
unfolding local_dictatorship
local-fill m cuts fill t from = refl

-- how many turns are left
pub local-turns : (m : Problem) (cuts fill : List ℕ) (t from : ℕ)
    → length (local_dictatorship m cuts t from fill).lists ≡ length (order_of m t) - from
unfolding local_dictatorship
local-turns m cuts fill t from =
    length-map (drop from (order_of m t)) (local_list m cuts t) ∙ length-drop from (order_of m t)

-- a turn's list, in local numbers
local-list_at : (m : Problem) (cuts fill : List ℕ) (t from k : ℕ) → from + k < length (order_of m t)
    → list_at (local_dictatorship m cuts t from fill) k
    ≡ map (local_of m) (turn_list m cuts t (slice_index (order_of m t) (from + k)))
unfolding local_dictatorship list_at local_list
local-list_at m cuts fill t from k l =
    let n = length-drop from (order_of m t) in
    get_or-map (local_list m cuts t) (drop from (order_of m t)) k 0 [] (omega arith)
    ∙ ap (local_list m cuts t) (get_or-drop from (order_of m t) k 0)

-- ---- the entries of a turn's list

-- an entry of a turn's list is a programme of the type
turn_entry : (m : Problem) (cuts : List ℕ) (t i j : ℕ) → IsValid m → i < length m.lists
    → j < length (turn_list m cuts t i)
    → (slice_index (turn_list m cuts t i) j < length m.programmes)
    × (kind_of m (slice_index (turn_list m cuts t i) j) ≡ t)
unfolding turn_list
turn_entry m cuts t i j v li l =
    let front = take (slice_index cuts i) (list_of m i) in (
      filter_within (is_offered m t i) (length m.programmes) front
          (λ k h. front_entry m v i (slice_index cuts i) (list_of m i) m.programmes li refl refl k
          h) j l,
      offered-kind m t i _ (filter_passes (is_offered m t i) front j 0 l),
    )

module _ (m : Problem) (v : IsValid m) (cuts fill : List ℕ) (t from : ℕ) (lt : t < m.types) where
  local-quota_at : (p : ℕ) → p < length m.programmes → kind_of m p ≡ t
      → slice_index (local_dictatorship m cuts t from fill).quota (local_of m p) ≡ quota_of m p
  local-quota_at p l k =
      ap (λ (xs : List ℕ). slice_index xs (local_of m p)) (local-quota m cuts fill t from)
      ∙ get_or-map (quota_of m) (programmes_of m t) (local_of m p) 0 0 (local_lt m t p l k)
      ∙ ap (quota_of m) (local_back m t p l k)

  -- the seats taken, by local numbers and by the market's own
  SameSeats : ℕ → Type 0
  SameSeats k = (p : ℕ) → p < length m.programmes → kind_of m p ≡ t
      → slice_index fill (local_of m p) + seats_taken (local_dictatorship m cuts t from fill) k
      (local_of m p) ≡ seats_taken (type_dictatorship m cuts t) (from + k) p

  same_open : (k p : ℕ) → SameSeats k → p < length m.programmes → kind_of m p ≡ t
      → is_open (local_dictatorship m cuts t from fill) k (local_of m p)
      ≡ is_open (type_dictatorship m cuts t) (from + k) p
  unfolding SameSeats
  same_open k p s l kind =
      let e = local_dictatorship m cuts t from fill in
      let d = type_dictatorship m cuts t in
      let f = ap (λ (xs : List ℕ). slice_index xs (local_of m p)) (local-fill m cuts fill t from) in
      let z = type-fill m cuts t p in
      let h = s p l kind in
      let seats : slice_index e.fill (local_of m p) + seats_taken e k (local_of m p)
      ≡ slice_index d.fill p + seats_taken d (from + k) p = omega arith in
      open-is e k (local_of m p)
      ∙ ap (λ (n : ℕ). nat_lt n (slice_index e.quota (local_of m p))) seats
      ∙ ap (nat_lt (slice_index d.fill p + seats_taken d (from + k) p))
      (local-quota_at p l kind ∙ sym (type-quota m cuts t p))
      ∙ sym (open-is d (from + k) p)

  agree : (k : ℕ) → SameSeats k → from + k < length (order_of m t) → (j : ℕ)
      → j < length (turn_list m cuts t (slice_index (order_of m t) (from + k)))
      → is_open (local_dictatorship m cuts t from fill) k
      (local_of m (slice_index (turn_list m cuts t (slice_index (order_of m t) (from + k))) j))
      ≡ is_open (type_dictatorship m cuts t) (from + k)
      (slice_index (turn_list m cuts t (slice_index (order_of m t) (from + k))) j)
  agree k s l j lj =
      let i = slice_index (order_of m t) (from + k) in
      let x = turn_entry m cuts t i j v (v.order_entries t (from + k) lt l) lj in
      same_open k (slice_index (turn_list m cuts t i) j) s x.0 x.1

  same_choice : (k : ℕ) → SameSeats k → from + k < length (order_of m t)
      → choice (local_dictatorship m cuts t from fill) k
      ≡ choice (type_dictatorship m cuts t) (from + k)
  same_choice k s l =
      let e = local_dictatorship m cuts t from fill in
      let d = type_dictatorship m cuts t in
      let i = slice_index (order_of m t) (from + k) in
      choice-is e k
      ∙ ap (position_or_len (is_open e k)) (local-list_at m cuts fill t from k l)
      ∙ position-map (is_open e k) (is_open d (from + k)) (local_of m) (turn_list m cuts t i)
      (agree k s l)
      ∙ ap (position_or_len (is_open d (from + k))) (sym (type-list m cuts t (from + k) l))
      ∙ sym (choice-is d (from + k))

  same_pick : (k : ℕ) → SameSeats k → from + k < length (order_of m t)
      → pick (local_dictatorship m cuts t from fill) k
      ≡ option_map (local_of m) (pick (type_dictatorship m cuts t) (from + k))
  same_pick k s l =
      let e = local_dictatorship m cuts t from fill in
      let d = type_dictatorship m cuts t in
      let i = slice_index (order_of m t) (from + k) in
      pick-find e k
      ∙ ap (find (is_open e k)) (local-list_at m cuts fill t from k l)
      ∙ find-map (is_open e k) (is_open d (from + k)) (local_of m) (turn_list m cuts t i) (agree k
      s l)
      ∙ ap (λ (xs : List ℕ). option_map (local_of m) (find (is_open d (from + k)) xs))
      (sym (type-list m cuts t (from + k) l))
      ∙ ap (option_map (local_of m)) (sym (pick-find d (from + k)))

  -- local numbers are those of one programme each
  same_number : (p q : ℕ) → p < length m.programmes → q < length m.programmes → kind_of m p ≡ t
      → kind_of m q ≡ t → (local_of m q == local_of m p) ≡ (q == p)
  same_number p q lp lq kp kq =
      ⊎_elim
      (λ same. eq-eqb _ _ (ap (local_of m) same) ∙ sym (eq-eqb q p same))
      (λ ne. ne_eqb _ _ (λ e. ne
      (sym (local_back m t q lq kq) ∙ ap (slice_index (programmes_of m t)) e
      ∙ local_back m t p lp kp)) ∙ sym (ne_eqb q p ne))
      (cases_eq q p)

  pick_entry : (k q : ℕ) → k < length (order_of m t)
      → pick (type_dictatorship m cuts t) k ≡ Some q
      → (q < length m.programmes) × (kind_of m q ≡ t)
  pick_entry k q l e =
      let d = type_dictatorship m cuts t in
      let i = slice_index (order_of m t) k in
      let found = ap (find (is_open d k)) (sym (type-list m cuts t k l)) ∙ sym (pick-find d k)
      ∙ e in
      let li = find_listed (is_open d k) (turn_list m cuts t i) q found in
      let x = turn_entry m cuts t i (place_of q (turn_list m cuts t i)) v (v.order_entries t k lt l)
      li in
      let at = place_get q (turn_list m cuts t i) 0 li in
      (subst (λ (n : ℕ). n < length m.programmes) at x.0, ap (kind_of m) (sym at) ∙ x.1)

  same_takes : (k p : ℕ) → SameSeats k → from + k < length (order_of m t) → p < length m.programmes
      → kind_of m p ≡ t
      → is_programme (local_of m p) (pick (local_dictatorship m cuts t from fill) k)
      ≡ is_programme p (pick (type_dictatorship m cuts t) (from + k))
  same_takes k p s l lp kp =
      ap (is_programme (local_of m p)) (same_pick k s l)
      ∙ by_picked (pick (type_dictatorship m cuts t) (from + k)) refl
    where
      by_picked : (o : Option ℕ) → pick (type_dictatorship m cuts t) (from + k) ≡ o
          → is_programme (local_of m p) (option_map (local_of m) o) ≡ is_programme p o
      by_picked None e = refl
      by_picked (Some q) e = let x = pick_entry (from + k) q l e in same_number p q lp x.0 kp x.1

  same_seats : IsFillBefore m cuts t from fill → (k : ℕ) → from + k ≤ length (order_of m t)
      → SameSeats k
  unfolding SameSeats
  same_seats fills zero l p lp kp =
      let e = local_dictatorship m cuts t from fill in
      let d = type_dictatorship m cuts t in
      let z = seats_taken-zero e (local_of m p) in
      let f = fills (local_of m p) (local_lt m t p lp kp) in
      let b = ap (seats_taken d from) (local_back m t p lp kp) in
      let n : from + 0 ≡ from = omega arith in
      let c = ap (λ (k : ℕ). seats_taken d k p) n in
      omega arith
  same_seats fills (suc k) l p lp kp =
      let e = local_dictatorship m cuts t from fill in
      let d = type_dictatorship m cuts t in
      let s = same_seats fills k (omega arith) in
      let ih = s p lp kp in
      let a = seats_taken-suc e k (local_of m p) in
      let b = seats_taken-suc d (from + k) p in
      let same = ap (λ (b : Bool). cond {A = ℕ} b 1 0) (same_takes k p s (omega arith) lp kp) in
      let n : from + suc k ≡ suc (from + k) = omega arith in
      let c = ap (λ (k : ℕ). seats_taken d k p) n in
      omega arith

  -- where the fill is what earlier turns took, a turn chooses the same place under both
  pub local-choice : IsFillBefore m cuts t from fill → (k : ℕ) → from + k < length (order_of m t)
      → choice (local_dictatorship m cuts t from fill) k
      ≡ choice (type_dictatorship m cuts t) (from + k)
  local-choice fills k l = same_choice k (same_seats fills k (omega arith)) l

  -- and it picks the same programme, by its local number under the one
  pub local-pick : IsFillBefore m cuts t from fill → (k : ℕ) → from + k < length (order_of m t)
      → pick (local_dictatorship m cuts t from fill) k
      ≡ option_map (local_of m) (pick (type_dictatorship m cuts t) (from + k))
  local-pick fills k l = same_pick k (same_seats fills k (omega arith)) l

-- there and back gives the same
back_step : (f g : ℕ → ℕ) (o : Option ℕ) → ((q : ℕ) → o ≡ Some q → f (g q) ≡ q)
    → option_map f (option_map g o) ≡ o
back_step f g None h = refl
back_step f g (Some q) h = ap Some (h q refl)

-- from the first turn on with no seats taken
no_fills : (m : Problem) (cuts fill : List ℕ) (t : ℕ) → ((j : ℕ) → slice_index fill j ≡ 0) → (j : ℕ)
    → j < length (programmes_of m t)
    → slice_index fill j ≡ seats_taken (type_dictatorship m cuts t) 0 (slice_index (programmes_of m
    t) j)
no_fills m cuts fill t z j l = let e =
    seats_taken-zero (type_dictatorship m cuts t) (slice_index (programmes_of m t) j) in let h = z
    j in
    omega arith

-- the entry that a turn chooses, in the market's own numbers
pub entry-pick : (m : Problem) → IsValid m → (cuts fill : List ℕ) (t from k : ℕ)
    → t < m.types
    → IsFillBefore m cuts t from fill → from + k < length (order_of m t)
    → option_map (slice_index (programmes_of m t))
    (pick (local_dictatorship m cuts t from fill) k)
    ≡ pick (type_dictatorship m cuts t) (from + k)
entry-pick m v cuts fill t from k lt fills l =
    let d = type_dictatorship m cuts t in
    ap (option_map (slice_index (programmes_of m t))) (local-pick m v cuts fill t from lt fills k l)
    ∙ back_step (slice_index (programmes_of m t)) (local_of m) (pick d (from + k))
    (λ q e. let x = pick_entry m v cuts fill t from lt (from + k) q l e in local_back m t q
    x.0 x.1)

-- ---- what a caller of the dictatorship reads

-- a choice for each turn
pub length-choices : (d : Dictatorship) → length (choices d) ≡ length d.lists
unfolding choices
length-choices d = length-map-range_with_len (choice d) 0 (length d.lists)

-- the choice of one turn among all
pub choices-at : (d : Dictatorship) (k : ℕ) → k < length d.lists
    → slice_index (choices d) k ≡ choice d k
unfolding choices
choices-at d k l = get_or-map-range_with_len (choice d) 0 (length d.lists) k k 0 l (omega arith)

-- the pick is the entry at the choice
pick_is : (d : Dictatorship) (k : ℕ) → slice_get (list_at d k) (choice d k) ≡ pick d k
unfolding pick
pick_is d k = refl

-- the entries of a turn's list are local numbers of the type
pub entries_fit : (m : Problem) (cuts fill : List ℕ) (t from k : ℕ) (d : Dictatorship)
    (list : List ℕ) → IsValidDictatorship d → d ≡ local_dictatorship m cuts t from fill
    → k < length d.lists → list ≡ list_at d k → (j : ℕ) → j < length list
    → slice_index list j < length (programmes_of m t)
entries_fit m cuts fill t from k d list valid e l el j lj =
    let q = ap (λ (x : Dictatorship). length x.quota) e
    ∙ ap (λ (xs : List ℕ). length xs) (local-quota m cuts fill t from)
    ∙ length-map (programmes_of m t) (quota_of m) in
    let h = valid.list_entries k j l (subst (λ (xs : List ℕ). j < length xs) el lj) in
    let x = ap (λ (xs : List ℕ). slice_index xs j) el in
    omega arith

-- what a caller reads at the choice of a turn is the pick of the type's own dictatorship
pub turn_pick : (m : Problem) → IsValid m
    → (cuts fill : List ℕ) (t from k : ℕ) (d : Dictatorship) (members list : List ℕ) (place : ℕ)
    (x : Option ℕ)
    → t < m.types → IsFillBefore m cuts t from fill → d ≡ local_dictatorship m cuts t from fill
    → from + k < length (order_of m t) → members ≡ programmes_of m t → list ≡ list_at d k
    → place ≡ choice d k → x ≡ option_map (slice_index members) (slice_get list place)
    → x ≡ pick (type_dictatorship m cuts t) (from + k)
turn_pick m v cuts fill t from k d members list place x lt fills e l em el ep ex =
    ex
    ∙ ap (λ (xs : List ℕ). option_map (slice_index xs) (slice_get list place)) em
    ∙ ap (λ (xs : List ℕ). option_map (slice_index (programmes_of m t)) (slice_get xs place)) el
    ∙ ap (λ (c : ℕ). option_map (slice_index (programmes_of m t)) (slice_get (list_at d k) c)) ep
    ∙ ap (option_map (slice_index (programmes_of m t)))
    (pick_is d k ∙ ap (λ (y : Dictatorship). pick y k) e)
    ∙ entry-pick m v cuts fill t from k lt fills l

-- with no seat taken, from the first turn on
pub zero_fill : (m : Problem) (cuts fill : List ℕ) (t n : ℕ) → n ≡ length (programmes_of m t)
    → fill ≡ replicate n 0 → IsFillBefore m cuts t 0 fill × IsFill m t fill
zero_fill m cuts fill t n e f =
    let z : (j : ℕ) → slice_index fill j ≡ 0 = λ j. ap (λ (xs : List ℕ). slice_index xs j) f
    ∙ zeros n j in (
      no_fills m cuts fill t z,
      record {
        programmes = ap (λ (xs : List ℕ). length xs) f ∙ length-replicate n 0 ∙ e;
        within = λ j l. let h = z j in omega arith;
      },
    )

-- an empty row has nothing anywhere
pub none_at : (n i : ℕ) → held_by (replicate n None) i ≡ None
none_at n i =
    ⊎_elim
    (λ l. get_or-replicate n i None None l)
    (λ past. let e : length (replicate {A = Option ℕ} n None)
    ≡ n = length-replicate n None in get_or_past (replicate n None) i None (omega arith))
    (cases_lt i n)
