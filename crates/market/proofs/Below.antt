-- The lists of a type in turn order, and what a cut leaves of them: the entries whose places are
-- below the cut are those of the front of the preference list.
use Rattle.std.proofs.Common.{◌≡◌, ℕ, suc, ◌+◌, ◌-◌, ◌<◌, ◌≤◌, Bool, true, false, cond, List, [], ◌∷◌, ◌++◌, length, refl, sym, ap, ◌∙◌, subst, arith, map, take, ⊎_elim}
use Rattle.std.specs.Prelude.{slice_index, filter, nat_lt}
use Rattle.std.proofs.lemmas.Bool.{cases_lt, cases_Bool, lt-ltb, le-ltb}
use Rattle.std.proofs.lemmas.List.{take_more, append-nil, append_assoc, length-map, length-take, map-append}
use Rattle.std.proofs.lemmas.List.Elements.{filter-append}
use Rattle.std.proofs.Math.Seq.{take-nil}
use Rattle.market.specs.Problems.{Problem, list_of}
use Rattle.market.specs.Mechanism.{is_offered, turn_list}
use Rattle.market.specs.LocalNumbers.{local_of, local_list}
use Rattle.market.specs.FlatLists.{IsFlat}
use Rattle.market.specs.TypeLists.{places_from, items_below, type_items, type_places}
use Rattle.market.proofs.Between.{flat-more}
use Rattle.market.proofs.Dicts.{map_next, length_filter_le}

-- ---- one entry more

-- what stands before an optional entry moves past it
cond_append : (b : Bool) (s : ℕ) (xs ys : List ℕ)
    → cond b (s ∷ xs) xs ++ ys ≡ cond b (s ∷ (xs ++ ys)) (xs ++ ys)
cond_append true s xs ys = refl
cond_append false s xs ys = refl

-- the places of a list with one entry more
places-push : (f : ℕ → Bool) (s n : ℕ) (xs : List ℕ) (x : ℕ) → n ≡ s + length xs
    → places_from f s (xs ++ x ∷ []) ≡ places_from f s xs ++ cond (f x) (n ∷ []) []
places-push f s n [] x e = let same : s ≡ n = omega arith in ap (λ (k : ℕ). cond (f x) (k ∷ []) [])
    same
places-push f s n (y ∷ ys) x e =
    let ih = places-push f (suc s) n ys x (omega arith) in
    ap (λ (ps : List ℕ). cond (f y) (s ∷ ps) ps) ih
    ∙ sym (cond_append (f y) s (places_from f (suc s) ys) (cond (f x) (n ∷ []) []))

-- the items below a cut, with one item more
items_below-push : (cut x p : ℕ) (xs ps : List ℕ) → length ps ≡ length xs
    → items_below cut (xs ++ x ∷ []) (ps ++ p ∷ []) ≡ items_below cut xs ps ++ cond (nat_lt p cut)
    (x ∷ []) []
items_below-push cut x p [] [] e = refl
items_below-push cut x p [] (q ∷ qs) e = absurd (omega arith)
items_below-push cut x p (y ∷ ys) [] e = absurd (omega arith)
items_below-push cut x p (y ∷ ys) (q ∷ qs) e =
    let ih = items_below-push cut x p ys qs (omega arith) in
    ap (λ (ks : List ℕ). cond (nat_lt q cut) (y ∷ ks) ks) ih
    ∙ sym (cond_append (nat_lt q cut) y (items_below cut ys qs) (cond (nat_lt p cut) (x ∷ []) []))

-- one entry more that passes the test: its place is added
pub places_more : (f : ℕ → Bool) (xs first old more : List ℕ) (k : ℕ) → k < length xs
    → f (slice_index xs k) ≡ true → old ≡ first ++ places_from f 0 (take k xs)
    → more ≡ old ++ k ∷ [] → more ≡ first ++ places_from f 0 (take (k + 1) xs)
places_more f xs first old more k l t e m =
    let n = length-take k xs in
    let step = places-push f 0 k (take k xs) (slice_index xs k) (omega arith)
    ∙ ap (λ (b : Bool). places_from f 0 (take k xs) ++ cond b (k ∷ []) []) t in
    m ∙ ap (λ (ys : List ℕ). ys ++ k ∷ []) e
    ∙ append_assoc first (places_from f 0 (take k xs)) (k ∷ [])
    ∙ ap (λ (ys : List ℕ). first ++ ys) (sym step ∙ ap (places_from f 0) (sym (take_more xs k 0 l)))

-- one entry more that fails the test: no place is added
pub places_same : (f : ℕ → Bool) (xs first old : List ℕ) (k : ℕ) → k < length xs
    → f (slice_index xs k) ≡ false → old ≡ first ++ places_from f 0 (take k xs)
    → old ≡ first ++ places_from f 0 (take (k + 1) xs)
places_same f xs first old k l t e =
    let n = length-take k xs in
    let step = places-push f 0 k (take k xs) (slice_index xs k) (omega arith)
    ∙ ap (λ (b : Bool). places_from f 0 (take k xs) ++ cond b (k ∷ []) []) t
    ∙ append-nil (places_from f 0 (take k xs)) in
    e
    ∙ ap (λ (ys : List ℕ). first ++ ys) (sym step ∙ ap (places_from f 0) (sym (take_more xs k 0 l)))

-- one entry more that passes the test: its number is added
pub items_more : (g : ℕ → ℕ) (f : ℕ → Bool) (xs first old more : List ℕ) (k : ℕ) → k < length xs
    → f (slice_index xs k) ≡ true → old ≡ first ++ map g (filter f (take k xs))
    → more ≡ old ++ g (slice_index xs k) ∷ [] → more ≡ first ++ map g (filter f (take (k + 1) xs))
items_more g f xs first old more k l t e m =
    let x = slice_index xs k in
    let front = filter f (take k xs) in
    let step = ap (filter f) (take_more xs k 0 l) ∙ filter-append f (take k xs) (x ∷ [])
    ∙ ap (λ (b : Bool). front ++ cond b (x ∷ []) []) t in
    m ∙ ap (λ (ys : List ℕ). ys ++ g x ∷ []) e ∙ append_assoc first (map g front) (g x ∷ [])
    ∙ ap (λ (ys : List ℕ). first ++ ys) (sym (map-append g front (x ∷ [])) ∙ ap (map g) (sym step))

-- one entry more that fails the test: no number is added
pub items_same : (g : ℕ → ℕ) (f : ℕ → Bool) (xs first old : List ℕ) (k : ℕ) → k < length xs
    → f (slice_index xs k) ≡ false → old ≡ first ++ map g (filter f (take k xs))
    → old ≡ first ++ map g (filter f (take (k + 1) xs))
items_same g f xs first old k l t e =
    let x = slice_index xs k in
    let front = filter f (take k xs) in
    let step = ap (filter f) (take_more xs k 0 l) ∙ filter-append f (take k xs) (x ∷ [])
    ∙ ap (λ (b : Bool). front ++ cond b (x ∷ []) []) t ∙ append-nil front in
    e ∙ ap (λ (ys : List ℕ). first ++ map g ys) (sym step)

-- the items below a cut of a part that is one longer
items_below-take : (cut k : ℕ) (xs ps : List ℕ) (b : Bool) → k < length xs → length ps ≡ length xs
    → nat_lt (slice_index ps k) cut ≡ b
    → items_below cut (take (k + 1) xs) (take (k + 1) ps) ≡ items_below cut (take k xs) (take k ps)
    ++ cond b (slice_index xs k ∷ []) []
items_below-take cut k xs ps b l n t =
    let lx = length-take k xs in
    let lp = length-take k ps in
    ap (λ (ys : List ℕ). items_below cut ys (take (k + 1) ps)) (take_more xs k 0 l)
    ∙ ap (items_below cut (take k xs ++ slice_index xs k ∷ [])) (take_more ps k 0 (omega arith))
    ∙ items_below-push cut (slice_index xs k) (slice_index ps k) (take k xs) (take k ps) (omega
    arith)
    ∙ ap (λ (c : Bool). items_below cut (take k xs) (take k ps) ++ cond c (slice_index xs k ∷ [])
    []) t

-- one place more below the cut: its item is added
pub below_more : (cut k : ℕ) (xs ps first old more : List ℕ) → k < length xs → length ps ≡ length xs
    → slice_index ps k < cut → old ≡ first ++ items_below cut (take k xs) (take k ps)
    → more ≡ old ++ slice_index xs k ∷ []
    → more ≡ first ++ items_below cut (take (k + 1) xs) (take (k + 1) ps)
below_more cut k xs ps first old more l n t e m =
    m ∙ ap (λ (ys : List ℕ). ys ++ slice_index xs k ∷ []) e
    ∙ append_assoc first (items_below cut (take k xs) (take k ps)) (slice_index xs k ∷ [])
    ∙ ap (λ (ys : List ℕ). first ++ ys) (sym (items_below-take cut k xs ps true l n (lt-ltb _ _ t)))

-- one place more at or beyond the cut: no item is added
pub below_same : (cut k : ℕ) (xs ps first old : List ℕ) → k < length xs → length ps ≡ length xs
    → cut ≤ slice_index ps k → old ≡ first ++ items_below cut (take k xs) (take k ps)
    → old ≡ first ++ items_below cut (take (k + 1) xs) (take (k + 1) ps)
below_same cut k xs ps first old l n t e =
    e
    ∙ ap (λ (ys : List ℕ). first ++ ys)
    (sym (items_below-take cut k xs ps false l n (le-ltb _ _ t)
    ∙ append-nil (items_below cut (take k xs) (take k ps))))

-- a list more of a map
pub flat_next : (F : ℕ → List ℕ) (order items bounds items' bounds' xs : List ℕ) (k n : ℕ)
    → k < length order → IsFlat items bounds (map F (take k order)) → xs ≡ F (slice_index order k)
    → items' ≡ items ++ xs → bounds' ≡ bounds ++ n ∷ [] → n ≡ length items'
    → IsFlat items' bounds' (map F (take (k + 1) order))
flat_next F order items bounds items' bounds' xs k n l f ex ei eb en =
    subst (IsFlat items' bounds')
    (map_next F order k 0 xs (map F (take k order)) (map F (take k order) ++ xs ∷ []) l refl ex
    refl)
    (flat-more items bounds items' bounds' xs (map F (take k order)) n f ei eb en)

-- ---- the entries below a cut

-- the first entry of a list, by whether it passes the test
front_head : (b : Bool) (cut s y : ℕ) (g : ℕ → ℕ) (x : ℕ) (xs ps : List ℕ) → y ≡ g x
    → items_below cut (map g (cond b (x ∷ xs) xs)) (cond b (s ∷ ps) ps)
    ≡ cond b (cond (nat_lt s cut) (y ∷ items_below cut (map g xs) ps) (items_below cut (map g xs)
    ps))
    (items_below cut (map g xs) ps)
front_head true cut s y g x xs ps e =
    ap (λ (z : ℕ). cond (nat_lt s cut) (z ∷ items_below cut (map g xs) ps) (items_below cut (map g
    xs) ps))
    (sym e)
front_head false cut s y g x xs ps e = refl

-- the same of a list to which the function was applied
front_in : (b : Bool) (g : ℕ → ℕ) (x : ℕ) (xs ks : List ℕ) → ks ≡ map g xs
    → cond b (g x ∷ ks) ks ≡ map g (cond b (x ∷ xs) xs)
front_in true g x xs ks e = ap (λ (ys : List ℕ). g x ∷ ys) e
front_in false g x xs ks e = e

-- the same in both cases
cond_same : (b : Bool) (xs : List ℕ) → cond b xs xs ≡ xs
cond_same true xs = refl
cond_same false xs = refl

-- those whose places are below the cut are those of the list's front
pub items_below-front : (cut s n : ℕ) (g : ℕ → ℕ) (f : ℕ → Bool) (xs : List ℕ) → n ≡ cut - s
    → items_below cut (map g (filter f xs)) (places_from f s xs) ≡ map g (filter f (take n xs))
items_below-front cut s n g f [] e = ap (λ (ys : List ℕ). map g (filter f ys)) (sym (take-nil {A =
    ℕ} n))
items_below-front cut s n g f (x ∷ xs) e =
    let rest = items_below cut (map g (filter f xs)) (places_from f (suc s) xs) in
    let head = front_head (f x) cut s (g x) g x (filter f xs) (places_from f (suc s) xs) refl in
    ⊎_elim
    (λ less.
    let n' = cut - suc s in
    let en : suc n' ≡ n = omega arith in
    let ih = items_below-front cut (suc s) n' g f xs refl in
    head
    ∙ ap (λ (c : Bool). cond (f x) (cond c (g x ∷ rest) rest) rest) (lt-ltb s cut less)
    ∙ front_in (f x) g x (filter f (take n' xs)) rest ih
    ∙ ap (λ (k : ℕ). map g (filter f (take k (x ∷ xs)))) en)
    (λ more.
    let en : 0 ≡ n = omega arith in
    let ih = items_below-front cut (suc s) 0 g f xs (omega arith) in
    head
    ∙ ap (λ (c : Bool). cond (f x) (cond c (g x ∷ rest) rest) rest) (le-ltb s cut more)
    ∙ cond_same (f x) rest
    ∙ ih
    ∙ ap (λ (k : ℕ). map g (filter f (take k (x ∷ xs)))) en)
    (cases_lt s cut)

-- as many places as entries that pass the test
places-length : (f : ℕ → Bool) (s : ℕ) (xs : List ℕ)
    → length (places_from f s xs) ≡ length (filter f xs)
places-length f s [] = refl
places-length f s (x ∷ xs) =
    let ih = places-length f (suc s) xs in
    ⊎_elim
    (λ t. ap (λ (b : Bool). length
    (cond b (s ∷ places_from f (suc s) xs) (places_from f (suc s) xs))) t ∙ ap suc ih
    ∙ sym (ap (λ (b : Bool). length (cond b (x ∷ filter f xs) (filter f xs))) t))
    (λ t. ap (λ (b : Bool). length
    (cond b (s ∷ places_from f (suc s) xs) (places_from f (suc s) xs))) t ∙ ih
    ∙ sym (ap (λ (b : Bool). length (cond b (x ∷ filter f xs) (filter f xs))) t))
    (cases_Bool (f x))

-- a candidate's turn in a type may take no more programmes than are listed
pub length-type_items : (m : Problem) (t i : ℕ) → length (type_items m t i) ≤ length (list_of m i)
unfolding type_items
length-type_items m t i =
    let a = length-map (filter (is_offered m t i) (list_of m i)) (local_of m) in
    let b = length_filter_le (is_offered m t i) (list_of m i) in
    omega arith

-- as many places as items
pub length-type_places : (m : Problem) (t i : ℕ)
    → length (type_places m t i) ≡ length (type_items m t i)
unfolding type_items type_places
length-type_places m t i =
    places-length (is_offered m t i) 0 (list_of m i)
    ∙ sym (length-map (filter (is_offered m t i) (list_of m i)) (local_of m))

-- the entries below the cut are the turn's list
pub front_local : (m : Problem) (cuts : List ℕ) (t i : ℕ)
    → items_below (slice_index cuts i) (type_items m t i) (type_places m t i) ≡ local_list m cuts t
    i
unfolding type_items type_places local_list turn_list
front_local m cuts t i =
    items_below-front (slice_index cuts i) 0 (slice_index cuts i) (local_of m) (is_offered m t i)
    (list_of m i) (omega arith)
