-- The views of the core that the seats of a table give: where a seat's own view stands among them,
-- whose each of them is, and what their sums are.
use Rattle.std.proofs.Common.{◌≡◌, ℕ, zero, suc, ◌+◌, ◌*◌, ◌<◌, ◌⊎◌, Bool, List, [], ◌∷◌, ◌++◌, length, set, replicate, Some, sym, refl, ap, inl, inr, ⊎_elim, subst, ◌∙◌, suc-mul, arith}
use Rattle.std.specs.Prelude.{slice_get}
use Rattle.std.specs.List.{sum_by}
use Rattle.std.proofs.lemmas.List.Sums.{sum_by-cons, sum_by-append}
use Rattle.std.proofs.lemmas.List.Folds.{sum_by-replicate}
use mathlib.Core.Option.{some, some-injective, some-ne-none}
use lib.ListN.{get_elem?}
use Rattle.interleaving_core.specs.Core.{View}
use Rattle.interleaving_core.proofs.Places.{at_replicate}
use Rattle.word_rule.specs.Views.{SeatKnows, other_view, shared_views, core_views}
use Rattle.word_rule.specs.Rule.{IsLive}

module _ {A : Type 0} where
  -- a table's list is read by `get_elem?`
  pub there : (l : List A) (i : ℕ) (x : A) → get_elem? l i ≡ some x → slice_get l i ≡ Some x
  there [] i x e = absurd (some-ne-none x (sym e))
  there (y ∷ ys) zero x e = ap Some (some-injective y x e)
  there (y ∷ ys) (suc i) x e = there ys i x e

  after_front : (a b : List A) (j : ℕ) → slice_get (a ++ b) (length a + j) ≡ slice_get b j
  after_front [] b j = ap (slice_get b) (let e : 0 + j ≡ j = omega arith in e)
  after_front (x ∷ xs) b j =
      ap (slice_get (x ∷ (xs ++ b)))
      (let e : length (x ∷ xs) + j ≡ suc (length xs + j) = omega arith in e)
      ∙ after_front xs b j

  set_after_front : (a b : List A) (j : ℕ) (y : A)
      → set (a ++ b) (length a + j) y ≡ a ++ set b j y
  set_after_front [] b j y = ap (λ (k : ℕ). set b k y) (let e : 0 + j ≡ j = omega arith in e)
  set_after_front (x ∷ xs) b j y =
      ap (λ (k : ℕ). set (x ∷ (xs ++ b)) k y)
      (let e : length (x ∷ xs) + j ≡ suc (length xs + j) = omega arith in e)
      ∙ ap (λ l. x ∷ l) (set_after_front xs b j y)

  in_either : (a b : List A) (p : ℕ) (v : A) → slice_get (a ++ b) p ≡ Some v
      → (slice_get a p ≡ Some v) ⊎ ((q : ℕ) × (slice_get b q ≡ Some v))
  in_either [] b p v e = inr (p, e)
  in_either (x ∷ xs) b zero v e = inl e
  in_either (x ∷ xs) b (suc p) v e = in_either xs b p v e

-- a seat that the table has is one that is not spent
pub live_there : (l : List SeatKnows) (i : ℕ) (x : SeatKnows) → get_elem? l i ≡ some x
    → 0 < x.share → IsLive l i x
live_there l i x at live = record { there = there l i x at; live = live }

-- where a seat's own view stands
abbrev pub place : List SeatKnows → ℕ → ℕ
place [] i = 0
place (x ∷ xs) zero = 0
place (x ∷ xs) (suc i) = length (shared_views x.share x.core) + place xs i

first_shared : (n : ℕ) (v : View) (rest : List View) → 0 < n
    → slice_get (shared_views n v ++ rest) 0 ≡ Some v
first_shared zero v rest l = absurd (omega arith)
first_shared (suc n) v rest l = refl

second_shared : (n : ℕ) (v : View) (rest : List View) → 1 < n
    → slice_get (shared_views n v ++ rest) 1 ≡ Some (other_view v.done)
second_shared zero v rest l = absurd (omega arith)
second_shared (suc zero) v rest l = absurd (omega arith)
second_shared (suc (suc n)) v rest l = refl

-- a seat's own view is one of the core
pub at_place : (l : List SeatKnows) (i : ℕ) (x : SeatKnows) → IsLive l i x
    → slice_get (core_views l) (place l i) ≡ Some x.core
at_place [] i x a = absurd (let e = a.there in cc (e))
at_place (y ∷ ys) zero x a =
    let same : y ≡ x = let e = a.there in cc (e) in
    subst
    (λ (z : SeatKnows).
    slice_get (shared_views z.share z.core ++ core_views ys) 0 ≡ Some x.core)
    (sym same) (first_shared x.share x.core (core_views ys) a.live)
at_place (y ∷ ys) (suc i) x a =
    after_front (shared_views y.share y.core) (core_views ys) (place ys i)
    ∙ at_place ys i x record { there = a.there; live = a.live }

-- so is each other one that it stands for
pub other_there : (l : List SeatKnows) (i : ℕ) (x : SeatKnows) → IsLive l i x → 1 < x.share
    → (p : ℕ) × (slice_get (core_views l) p ≡ Some (other_view x.core.done))
other_there [] i x a more = absurd (let e = a.there in cc (e))
other_there (y ∷ ys) zero x a more =
    let same : y ≡ x = let e = a.there in cc (e) in (
      1,
      subst
          (λ (z : SeatKnows).
          slice_get (shared_views z.share z.core ++ core_views ys) 1
          ≡ Some (other_view x.core.done))
          (sym same) (second_shared x.share x.core (core_views ys) more),
    )
other_there (y ∷ ys) (suc i) x a more =
    let t = other_there ys i x record { there = a.there; live = a.live } more in (
      length (shared_views y.share y.core) + t.0,
      after_front (shared_views y.share y.core) (core_views ys) t.0 ∙ t.1,
    )

front_set : (n m : ℕ) (v w : View) (rest : List View) → 0 < n → m ≡ n → (1 < n → w.done ≡ v.done)
    → shared_views m w ++ rest ≡ set (shared_views n v ++ rest) 0 w
front_set zero m v w rest l e same = absurd (omega arith)
front_set (suc zero) m v w rest l e same = ap (λ (k : ℕ). shared_views k w ++ rest) e
front_set (suc (suc n)) m v w rest l e same =
    ap (λ (k : ℕ). shared_views k w ++ rest) e
    ∙ ap (λ (b : Bool). w ∷ (replicate (suc n) (other_view b) ++ rest)) (same (omega arith))

-- where a seat's view changes, its own view in the core does, and no other
pub set_place : (l : List SeatKnows) (i : ℕ) (x y : SeatKnows) → IsLive l i x → y.share ≡ x.share
    → (1 < x.share → y.core.done ≡ x.core.done)
    → core_views (set l i y) ≡ set (core_views l) (place l i) y.core
set_place [] i x y a same others = absurd (let e = a.there in cc (e))
set_place (z ∷ zs) zero x y a same others =
    let is : z ≡ x = let e = a.there in cc (e) in
    subst
    (λ (u : SeatKnows).
    shared_views y.share y.core ++ core_views zs
    ≡ set (shared_views u.share u.core ++ core_views zs) 0 y.core)
    (sym is) (front_set x.share y.share x.core y.core (core_views zs) a.live same others)
set_place (z ∷ zs) (suc i) x y a same others =
    ap (λ r. shared_views z.share z.core ++ r)
    (set_place zs i x y record { there = a.there; live = a.live } same others)
    ∙ sym (set_after_front (shared_views z.share z.core) (core_views zs) (place zs i) y.core)

of_shared : (n p : ℕ) (v w : View) → slice_get (shared_views n v) p ≡ Some w
    → (0 < n) × ((w ≡ v) ⊎ ((1 < n) × (w ≡ other_view v.done)))
of_shared zero p v w e = absurd (cc (e))
of_shared (suc n) zero v w e = (omega arith, inl (let q : v ≡ w = cc (e) in sym q))
of_shared (suc zero) (suc p) v w e = absurd (cc (e))
of_shared (suc (suc n)) (suc p) v w e =
    (omega arith, inr (omega arith, sym (at_replicate (suc n) p (other_view v.done) w e)))

-- a seat that a view of the core is of: its own view, or one of the others that it stands for
pub record Whose (l : List SeatKnows) (v : View) : Type 0 where
  pub at : ℕ
  pub seat : SeatKnows
  pub live : IsLive l at seat
  pub which : (v ≡ seat.core) ⊎ ((1 < seat.share) × (v ≡ other_view seat.core.done))

-- each view of the core is some seat's
pub whose : (l : List SeatKnows) (p : ℕ) (v : View) → slice_get (core_views l) p ≡ Some v
    → Whose l v
whose [] p v e = absurd (cc (e))
whose (x ∷ xs) p v e =
    ⊎_elim
    (λ (a : slice_get (shared_views x.share x.core) p ≡ Some v).
    let t = of_shared x.share p x.core v a in
    record { at = 0; seat = x; live = record { there = refl; live = t.0 }; which = t.1 })
    (λ (a : (q : ℕ) × (slice_get (core_views xs) q ≡ Some v)).
    let t = whose xs a.0 v a.1 in
    record {
      at = suc t.at;
      seat = t.seat;
      live = record { there = t.live.there; live = t.live.live };
      which = t.which;
    })
    (in_either (shared_views x.share x.core) (core_views xs) p v e)

-- what a seat adds to a sum over the views of the core
abbrev pub weight : (View → ℕ) → SeatKnows → ℕ
weight f x = sum_by f (shared_views x.share x.core)

-- a sum over the views of the core, seat by seat
pub sum_views : (f : View → ℕ) (l : List SeatKnows)
    → sum_by f (core_views l) ≡ sum_by (weight f) l
sum_views f [] = refl
sum_views f (x ∷ xs) =
    let a = sum_by-append f (shared_views x.share x.core) (core_views xs) in
    omega (arith, a, sum_views f xs, sum_by-cons (weight f) x xs)

-- a view with a share, by its own term and that of the others
pub shared_sum : (f : View → ℕ) (n : ℕ) (v : View)
    → sum_by f (shared_views (suc n) v) ≡ f v + n * f (other_view v.done)
shared_sum f n v =
    sum_by-cons f v (replicate n (other_view v.done))
    ∙ ap (λ (k : ℕ). f v + k) (sum_by-replicate f n (other_view v.done))

-- where all terms are one number
pub even_sum : (f : View → ℕ) (n : ℕ) (v : View) (z : ℕ) → f v ≡ z → f (other_view v.done) ≡ z
    → sum_by f (shared_views n v) ≡ n * z
even_sum f zero v z e g = let q : 0 ≡ 0 * z = omega arith in q
even_sum f (suc n) v z e g =
    let a = shared_sum f n v in
    let b : n * f (other_view v.done) ≡ n * z = ap (λ (k : ℕ). n * k) g in
    let c : suc n * z ≡ n * z + z = suc-mul n z in
    omega arith
