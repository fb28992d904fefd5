-- The dictatorship over local numbers is a valid one. Local numbers are those of one programme
-- each, and a type has no more turns than there are candidates, since none has two.
use Rattle.std.proofs.Common.{◌≡◌, ℕ, zero, suc, ◌+◌, ◌<◌, ◌≤◌, Bool, true, false, cond, List, [], ◌∷◌, ◌++◌, length, Option, Some, None, refl, sym, ap, ◌∙◌, subst, arith, get_or, map, take, drop, replicate, ⊎_elim}
use Rattle.std.specs.Prelude.{slice_index, filter, ◌==◌}
use Rattle.std.specs.List.{range_with_len, All}
use Rattle.std.proofs.lemmas.Bool.{cases_lt, cases_Bool, eqb-true, eq-eqb}
use Rattle.std.proofs.lemmas.List.{length-map, get_or-map, length-take, length-drop, get_or-drop, get_or-take, length_push, get_or_append_left, get_or_push, map-append, take_more, append-nil, get_or-replicate, length-replicate}
use Rattle.std.proofs.lemmas.List.Sums.{length-filter, count_by-le-length}
use Rattle.std.proofs.lemmas.List.Elements.{All-filter, filter_passes, filter-append}
use Rattle.std.proofs.lemmas.List.FromFn.{length-range_with_len, get_or-range_with_len}
use Rattle.market.specs.declared.programme.Prog.{Prog}
use Rattle.market.specs.declared.limits.TheConstants.{MAX_PROGRAMMES, MAX_ENTRIES}
use Rattle.market.specs.Counting.{count_below, is_programme}
use Rattle.market.specs.Problems.{Problem, IsValid, kind_of, quota_of, list_of, order_of}
use Rattle.market.specs.Dictatorships.{Dictatorship, IsValidDictatorship, list_at}
use Rattle.market.specs.Mechanism.{is_offered, turn_list}
use Rattle.market.specs.LocalNumbers.{programmes_of, local_of, local_list, local_dictatorship, IsFill}
use Rattle.market.proofs.Tentatives.{offered-kind}
use Rattle.market.proofs.Tallies.{tally, at_turn, tally-le-count}
use Rattle.market.proofs.Members.{range_more}
use Rattle.market.proofs.Turns.{one_more, no_more, is_programme-from}

-- a programme of a type is one of the market
pub member_lt : (m : Problem) (t j : ℕ) → j < length (programmes_of m t)
    → slice_index (programmes_of m t) j < length m.programmes
unfolding programmes_of
member_lt m t j l =
    let n = length m.programmes in
    let all : All (λ p. p < n) (range_with_len 0 n) = λ k d lk.
    let len = length-range_with_len 0 n in
    let at = get_or-range_with_len 0 n k d (omega arith) in omega arith in
    All-filter (λ p. kind_of m p == t) (λ p. p < n) (range_with_len 0 n) all j 0 l

-- it is of the type
pub member_kind : (m : Problem) (t j : ℕ) → j < length (programmes_of m t)
    → kind_of m (slice_index (programmes_of m t) j) ≡ t
unfolding programmes_of
member_kind m t j l =
    eqb-true _ _ (filter_passes (λ p. kind_of m p == t) (range_with_len 0 (length m.programmes)) j 0
    l)

-- an entry of a list is a programme
pub entry_lt : (m : Problem) → IsValid m → (i j : ℕ) → i < length m.lists → j < length (list_of m i)
    → slice_index (list_of m i) j < length m.programmes
entry_lt m v i j li lj = v.list_entries i j li lj

-- entries read from an equal list are as small
pub read_lt : (xs ys : List ℕ) (n : ℕ) → xs ≡ ys
    → ((k : ℕ) → k < length ys → slice_index ys k < n) → (k : ℕ) → k < length xs
    → slice_index xs k < n
read_lt xs ys n e h =
    subst (λ (zs : List ℕ). (k : ℕ) → k < length zs → slice_index zs k < n) (sym e) h

-- an entry of a list's front is a programme
pub front_entry : (m : Problem) → IsValid m → (i cut : ℕ) (list : List ℕ) (ps : List Prog)
    → i < length m.lists → list ≡ list_of m i → ps ≡ m.programmes → (j : ℕ)
    → j < length (take cut list) → slice_index (take cut list) j < length ps
front_entry m v i cut list ps li e ep j l =
    let n = length-take cut list in
    let len = ap (λ (xs : List ℕ). length xs) e in
    let at = get_or-take cut list j 0 (omega arith) in
    let x = ap (λ (xs : List ℕ). slice_index xs j) e in
    let b = v.list_entries i j li (omega arith) in
    let p = ap (λ (xs : List Prog). length xs) ep in
    omega arith

-- ---- local numbers

-- what is kept of small numbers is small
pub filter_within : (f : ℕ → Bool) (n : ℕ) (xs : List ℕ)
    → ((j : ℕ) → j < length xs → slice_index xs j < n) → (j : ℕ) → j < length (filter f xs)
    → slice_index (filter f xs) j < n
filter_within f n xs h j l =
    All-filter f (λ p. p < n) xs
    (λ k d lk. let e = h k lk in subst (λ (x : ℕ). x < n)
    (Rattle.std.proofs.lemmas.List.get_or_default xs k 0 d lk) e) j 0 l

-- a map one entry further
pub map_next : {X Y : Type 0}
    (f : X → Y) (xs : List X) (k : ℕ) (d : X) (y : Y) (found more : List Y)
    → k < length xs → found ≡ map f (take k xs) → y ≡ f (get_or xs k d) → more ≡ found ++ y ∷ []
    → more ≡ map f (take (k + 1) xs)
map_next {X = X} {Y = Y} f xs k d y found more l e h m =
    m ∙ ap (λ (ys : List Y). ys ++ y ∷ []) e ∙ ap (λ (z : Y). map f (take k xs) ++ z ∷ []) h
    ∙ sym (map-append f (take k xs) (get_or xs k d ∷ [])) ∙ ap (map f) (sym (take_more xs k d l))

-- ---- the numbers of the programmes of a type

-- the numbers below one more
range_suc : (n : ℕ) → range_with_len 0 (suc n) ≡ range_with_len 0 n ++ n ∷ []
range_suc n = let e : suc n ≡ n + 1 = omega arith in ap (range_with_len 0) e ∙ range_more n

-- what is kept of the numbers below one more
filter_suc : (f : ℕ → Bool) (n : ℕ)
    → filter f (range_with_len 0 (suc n)) ≡ filter f (range_with_len 0 n) ++ cond (f n) (n ∷ []) []
filter_suc f n = ap (filter f) (range_suc n) ∙ filter-append f (range_with_len 0 n) (n ∷ [])

-- where the last one passes
filter_yes : (f : ℕ → Bool) (n : ℕ) → f n ≡ true
    → filter f (range_with_len 0 (suc n)) ≡ filter f (range_with_len 0 n) ++ n ∷ []
filter_yes f n t =
    filter_suc f n ∙ ap (λ (b : Bool). filter f (range_with_len 0 n) ++ cond b (n ∷ []) []) t

-- where the last one fails
filter_no : (f : ℕ → Bool) (n : ℕ) → f n ≡ false
    → filter f (range_with_len 0 (suc n)) ≡ filter f (range_with_len 0 n)
filter_no f n t =
    filter_suc f n ∙ ap (λ (b : Bool). filter f (range_with_len 0 n) ++ cond b (n ∷ []) []) t
    ∙ append-nil (filter f (range_with_len 0 n))

-- as many are kept as are counted
length_members : (f : ℕ → Bool) (n : ℕ) → length (filter f (range_with_len 0 n)) ≡ count_below f n
length_members f zero = refl
length_members f (suc n) =
    let ih = length_members f n in
    ⊎_elim
    (λ t. let one = one_more (f n) t in
    let len = length_push (filter f (range_with_len 0 n)) n in
    ap (λ (xs : List ℕ). length xs) (filter_yes f n t) ∙ (omega arith))
    (λ t. let none = no_more (f n) t in
    ap (λ (xs : List ℕ). length xs) (filter_no f n t) ∙ (omega arith))
    (cases_Bool (f n))

-- p is kept of the numbers below n, at the place that counts those kept before it
pub record IsNumbered (f : ℕ → Bool) (n p : ℕ) : Type 0 where
  pub below : count_below f p < length (filter f (range_with_len 0 n))
  pub at : slice_index (filter f (range_with_len 0 n)) (count_below f p) ≡ p

-- a number that passes stands at the place that counts those before it
numbers : (f : ℕ → Bool) (n p : ℕ) → p < n → f p ≡ true → IsNumbered f n p
numbers f zero p l t = absurd (omega arith)
numbers f (suc n) p l t =
    let front = filter f (range_with_len 0 n) in
    let len = length_members f n in
    ⊎_elim
    (λ less.
    let ih = numbers f n p less t in
    ⊎_elim
    (λ y.
    let e = filter_yes f n y in
    let ln = ap (λ (xs : List ℕ). length xs) e ∙ length_push front n in
    record {
      below =
          omega (arith, ih.below);
      at = ap (λ (xs : List ℕ). slice_index xs (count_below f p)) e
          ∙ get_or_append_left front (n ∷ []) 0 (count_below f p) ih.below ∙ ih.at;
    })
    (λ no'.
    let e = filter_no f n no' in
    let ln = ap (λ (xs : List ℕ). length xs) e in
    record {
      below =
          omega (arith, ih.below);
      at = ap (λ (xs : List ℕ). slice_index xs (count_below f p)) e
          ∙ ih.at;
    })
    (cases_Bool (f n)))
    (λ more.
    let same : n ≡ p = omega arith in
    let e = filter_yes f n (ap f same ∙ t) in
    let ln = ap (λ (xs : List ℕ). length xs) e ∙ length_push front n in
    let c = ap (count_below f) same in
    record {
      below =
          omega arith;
      at = ap (λ (xs : List ℕ). slice_index xs (count_below f p)) e
          ∙ get_or_push front n 0 (count_below f p) (len ∙ c) ∙ same;
    })
    (cases_lt p n)

-- a local number is less than the count of the type
pub local_lt : (m : Problem) (t p : ℕ) → p < length m.programmes → kind_of m p ≡ t
    → local_of m p < length (programmes_of m t)
unfolding local_of programmes_of
local_lt m t p l k =
    subst (λ (u : ℕ). count_below (λ q. kind_of m q == kind_of m p) p
    < length (filter (λ q. kind_of m q == u) (range_with_len 0 (length m.programmes)))) k
    (numbers (λ q. kind_of m q == kind_of m p) (length m.programmes) p l
    (eq-eqb (kind_of m p) (kind_of m p) refl)).below

-- the programme with the local number of p is p
pub local_back : (m : Problem) (t p : ℕ) → p < length m.programmes → kind_of m p ≡ t
    → slice_index (programmes_of m t) (local_of m p) ≡ p
unfolding local_of programmes_of
local_back m t p l k =
    subst (λ (u : ℕ). slice_index
    (filter (λ q. kind_of m q == u) (range_with_len 0 (length m.programmes)))
    (count_below (λ q. kind_of m q == kind_of m p) p) ≡ p) k
    (numbers (λ q. kind_of m q == kind_of m p) (length m.programmes) p l
    (eq-eqb (kind_of m p) (kind_of m p) refl)).at

-- ---- the dictatorship is valid

-- a dictatorship with these parts is the one made of them
same_parts : (d : Dictatorship) (quota fill : List ℕ) (lists : List (List ℕ)) → d.quota ≡ quota
    → d.fill ≡ fill → d.lists ≡ lists → d ≡ record { quota = quota; fill = fill; lists = lists }
same_parts d quota fill lists q f l = λ i. record { quota = q i; fill = f i; lists = l i }

-- no more are kept than there were
pub length_filter_le : (f : ℕ → Bool) (xs : List ℕ) → length (filter f xs) ≤ length xs
length_filter_le f xs = let e = length-filter f xs in let h = count_by-le-length f xs in omega arith

-- where each turn takes it, it is taken as often as there are turns
tally_all : (h : ℕ → Option ℕ) (n p : ℕ) → ((j : ℕ) → j < n → h j ≡ Some p) → tally h n p ≡ n
tally_all h zero p e = refl
tally_all h (suc n) p e =
    let ih = tally_all h n p (λ j l. e j (omega arith)) in
    let one = one_more (is_programme p (h n)) (is_programme-from p (h n) (e n (omega arith))) in
    omega arith

-- before the number kept at place j there are j that are kept
numbers_back : (f : ℕ → Bool) (n j : ℕ) → j < length (filter f (range_with_len 0 n))
    → count_below f (slice_index (filter f (range_with_len 0 n)) j) ≡ j
numbers_back f zero j l = absurd (omega arith)
numbers_back f (suc n) j l =
    let front = filter f (range_with_len 0 n) in
    let len = length_members f n in
    ⊎_elim
    (λ y.
    let e = filter_yes f n y in
    let ln = ap (λ (xs : List ℕ). length xs) e ∙ length_push front n in
    ⊎_elim
    (λ less. ap (λ (xs : List ℕ). count_below f (slice_index xs j)) e
    ∙ ap (count_below f) (get_or_append_left front (n ∷ []) 0 j less) ∙ numbers_back f n j less)
    (λ more. let same : length front ≡ j =
    omega arith in ap (λ (xs : List ℕ). count_below f (slice_index xs j)) e
    ∙ ap (count_below f) (get_or_push front n 0 j same) ∙ sym len ∙ same)
    (cases_lt j (length front)))
    (λ no'.
    let e = filter_no f n no' in
    let ln = ap (λ (xs : List ℕ). length xs) e in
    ap (λ (xs : List ℕ). count_below f (slice_index xs j)) e ∙ numbers_back f n j (omega arith))
    (cases_Bool (f n))

-- the programme at place j of its type has the local number j
pub local_member : (m : Problem) (t j : ℕ) → j < length (programmes_of m t)
    → local_of m (slice_index (programmes_of m t) j) ≡ j
unfolding local_of programmes_of
local_member m t j l =
    let p = slice_index (filter (λ q. kind_of m q == t) (range_with_len 0 (length m.programmes))) j
    in
    ap (λ (u : ℕ). count_below (λ q. kind_of m q == u) p) (member_kind m t j l)
    ∙ numbers_back (λ q. kind_of m q == t) (length m.programmes) j l

-- a type has no more turns than there are candidates
pub order-le : (m : Problem) → IsValid m → (t : ℕ) → t < m.types
    → length (order_of m t) ≤ length m.lists
order-le m v t l =
    let n = length m.lists in
    let held : List (Option ℕ) = replicate n (Some 0) in
    let o = λ (j : ℕ). slice_index (order_of m t) j in
    let k = length (order_of m t) in
    let a = tally_all (at_turn held o) k 0
    (λ j lj. get_or-replicate n (o j) (Some 0) None (v.order_entries t j l lj)) in
    let b = tally-le-count o 0 k (λ i j x y. v.order_distinct t l i j x y) held in
    let c = count_by-le-length (is_programme 0) held in
    let d : length held ≡ n = length-replicate n (Some 0) in
    omega arith

-- a type has no more programmes than a market may have
member_count-le : (m : Problem) (t : ℕ) → IsValid m → length (programmes_of m t) ≤ MAX_PROGRAMMES
unfolding programmes_of
member_count-le m t v =
    let a = length_filter_le (λ p. kind_of m p == t) (range_with_len 0 (length m.programmes)) in
    let b = length-range_with_len 0 (length m.programmes) in
    let c = v.programmes in
    omega arith

-- a turn's list is short
pub local_length : (m : Problem) (cuts : List ℕ) (t i : ℕ) → IsValid m → i < length m.lists
    → length (local_list m cuts t i) ≤ MAX_ENTRIES
unfolding local_list turn_list
local_length m cuts t i v li =
    let front = take (slice_index cuts i) (list_of m i) in
    let kept = filter (is_offered m t i) front in
    let a = length-map kept (local_of m) in
    let b = length_filter_le (is_offered m t i) front in
    let c = length-take (slice_index cuts i) (list_of m i) in
    let d = v.list_lengths i li in
    omega arith

-- an entry of a turn's list is a local number
local_entry : (m : Problem) (cuts : List ℕ) (t i j : ℕ) → IsValid m → i < length m.lists
    → j < length (local_list m cuts t i)
    → slice_index (local_list m cuts t i) j < length (programmes_of m t)
unfolding local_list turn_list
local_entry m cuts t i j v li lj =
    let front = take (slice_index cuts i) (list_of m i) in
    let kept = filter (is_offered m t i) front in
    let a = length-map kept (local_of m) in
    let lk : j < length kept = omega arith in
    let at = get_or-map (local_of m) kept j 0 0 lk in
    let programme =
    filter_within (is_offered m t i) (length m.programmes) front
    (λ k l. front_entry m v i (slice_index cuts i) (list_of m i) m.programmes li refl refl k l)
    j lk in
    let kind =
    offered-kind m t i (slice_index kept j) (filter_passes (is_offered m t i) front j 0 lk) in
    let l = local_lt m t (slice_index kept j) programme kind in
    omega arith

-- the dictatorship over local numbers is valid
pub local_valid : (m : Problem) → IsValid m → (t : ℕ) (cuts fill : List ℕ) (from : ℕ) → t < m.types
    → IsFill m t fill → from ≤ length (order_of m t)
    → IsValidDictatorship (local_dictatorship m cuts t from fill)
unfolding local_dictatorship list_at
local_valid m v t cuts fill from lt f lf =
    let members = programmes_of m t in
    let order = order_of m t in
    let count = length-map members (quota_of m) in
    let turns = length-map (drop from order) (local_list m cuts t) in
    let rest = length-drop from order in
    let few = order-le m v t lt in
    let candidates = v.candidates in
    let small = member_count-le m t v in
    record {
      fills = f.programmes ∙ sym count;
      programmes = omega arith;
      turns = omega arith;
      quotas = λ p l. let e = get_or-map (quota_of m) members p 0 0 (omega arith) in
          let h = v.quotas (slice_index members p) (member_lt m t p (omega arith)) in omega arith;
      filled = λ p l. let e = get_or-map (quota_of m) members p 0 0 (omega arith) in
          let h = f.within p (omega arith) in omega arith;
      list_lengths = λ k l.
          let lk : k < length (drop from order) = omega arith in
          let at = get_or-map (local_list m cuts t) (drop from order) k 0 [] lk
          ∙ ap (local_list m cuts t) (get_or-drop from order k 0) in
          subst (λ (xs : List ℕ). length xs ≤ MAX_ENTRIES) (sym at)
          (local_length m cuts t (slice_index order (from + k)) v
          (v.order_entries t (from + k) lt (omega arith)));
      list_entries = λ k j l lj.
          let lk : k < length (drop from order) = omega arith in
          let at = get_or-map (local_list m cuts t) (drop from order) k 0 [] lk
          ∙ ap (local_list m cuts t) (get_or-drop from order k 0) in
          let i = slice_index order (from + k) in
          let lj' = subst (λ (xs : List ℕ). j < length xs) at lj in
          subst (λ (n : ℕ). slice_index (get_or (map (local_list m cuts t) (drop from order)) k [])
          j < n) (sym count)
          (subst (λ (xs : List ℕ). slice_index xs j < length members) (sym at)
          (local_entry m cuts t i j v (v.order_entries t (from + k) lt (omega arith)) lj'));
    }

-- what the parts make
pub dict_valid : (m : Problem) → IsValid m
    → (t : ℕ) (cuts fill quota fill' : List ℕ) (lists : List (List ℕ)) (from : ℕ) → t < m.types
    → IsFill m t fill → from ≤ length (order_of m t) → quota ≡ map (quota_of m) (programmes_of m t)
    → fill' ≡ fill → lists ≡ map (local_list m cuts t) (drop from (order_of m t))
    → IsValidDictatorship (record { quota = quota; fill = fill'; lists = lists })
unfolding local_dictatorship
dict_valid m v t cuts fill quota fill' lists from lt f lf eq ef el =
    let d = same_parts (local_dictatorship m cuts t from fill) quota fill' lists (sym eq) (sym ef)
    (sym el) in
    subst IsValidDictatorship d (local_valid m v t cuts fill from lt f lf)
