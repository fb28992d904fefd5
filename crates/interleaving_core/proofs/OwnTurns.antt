-- The own turns of a view: how they still fit once a turn is drawn, read or posted.
use Rattle.std.proofs.Common.{◌≡◌, ℕ, zero, suc, ◌+◌, ◌<◌, ◌≤◌, Bool, false, List, [], ◌∷◌, ◌++◌, length, get_or, set, Option, Some, None, sym, refl, ap, inl, inr, ⊎_elim, subst, ◌∙◌, arith}
use Rattle.std.specs.Prelude.{slice_get}
use Rattle.std.proofs.lemmas.Option.{slice_get_within}
use Rattle.market.specs.Dictatorships.{Dictatorship}
use Rattle.interleaving_core.specs.declared.parts.Cell.{Cell}
use Rattle.interleaving_core.specs.declared.parts.Cell.TheVariants.{Posted}
use Rattle.interleaving_core.specs.declared.parts.Claiming.{Claiming}
use Rattle.interleaving_core.specs.declared.parts.OwnTurn.{OwnTurn}
use Rattle.interleaving_core.specs.Core.{Core, turn_count, claim_at, cell_at}
use Rattle.interleaving_core.specs.Events.{with_place}
use Rattle.interleaving_core.specs.Sound.{IsCellFrom, IsSoundOwnTurn, AreSoundOwnTurns}
use Rattle.interleaving_core.proofs.Places.{at_snoc, at_longer, at_last}

abbrev turn_in : Option Claiming → ℕ
turn_in None = 0
turn_in (Some x) = x.turn

-- own turns that fit a state fit one with more draws, in which cells have only gone on
pub own_stays : (d : Dictatorship) (c e : Core) (own : List OwnTurn) (claim : Option Claiming)
    → c.claim_number ≤ e.claim_number
    → ((k j : ℕ) → IsCellFrom (cell_at c k) j → IsCellFrom (cell_at e k) j)
    → AreSoundOwnTurns d c own claim
    → AreSoundOwnTurns d e own claim
own_stays d c e own claim more cells f = record {
  each = λ i x at. let a = f.each i x at in
      (a.0, omega arith, ⊎_elim (λ p. inl p) (λ p. inr (p.0, p.1, cells x.turn p.0 p.2)) a.2);
  rise = f.rise;
  last = f.last;
}

-- an empty list of own turns fits any state, where nothing is claimed
pub own_nil : (d : Dictatorship) (c : Core) → AreSoundOwnTurns d c [] None
own_nil d c =
    record {
      each = λ i x at. absurd (cc (at));
      rise = λ i j x y at. absurd (cc (at));
      last = λ y e. absurd (cc (e));
    }

-- another claim of the same turn
pub own_moves : (d : Dictatorship) (c : Core) (own : List OwnTurn) (x y : Claiming)
    → y.turn ≡ x.turn → AreSoundOwnTurns d c own (Some x) → AreSoundOwnTurns d c own (Some y)
own_moves d c own x y same f = record {
  each = λ n z at. let t = f.each n z at in (
    t.0,
    t.1,
    ⊎_elim (λ p. inl (p.0, (y, refl, same ∙ (ap turn_in p.1.1 ∙ p.1.2)))) (λ p. inr p) t.2,
  );
  rise = f.rise;
  last = λ z e. let t = f.last x refl in (
    t.0,
    t.1 ∙ ap (λ (n : ℕ). t.0 ++ record { turn = n; place = None } ∷ [])
        (sym same ∙ ap turn_in e),
  );
}

-- turns that rise still do with a greater one at their end
pub rise_snoc : (own : List OwnTurn) (z : OwnTurn)
    → ((i j : ℕ) (x y : OwnTurn) → slice_get own i ≡ Some x → slice_get own j ≡ Some y → i < j
    → x.turn < y.turn) → ((i : ℕ) (x : OwnTurn) → slice_get own i ≡ Some x → x.turn < z.turn)
    → (i j : ℕ) (x y : OwnTurn) → slice_get (own ++ z ∷ []) i ≡ Some x
    → slice_get (own ++ z ∷ []) j ≡ Some y → i < j → x.turn < y.turn
rise_snoc own z rise below i j x y ex ey l = ⊎_elim
    (λ (p : slice_get own i ≡ Some x). ⊎_elim (λ (q : slice_get own j ≡ Some y). rise i j x y p q l)
    (λ (q : (j ≡ length own) × (z ≡ y)). subst (λ (u : OwnTurn). x.turn < u.turn) q.1
    (below i x p)) (at_snoc own z y j ey))
    (λ (p : (i ≡ length own) × (z ≡ x)). ⊎_elim
    (λ (q : slice_get own j ≡ Some y). absurd (let w = slice_get_within own j y q in
    let e = p.0 in omega arith))
    (λ (q : (j ≡ length own) × (z ≡ y)). absurd (let e = p.0 in let g = q.0 in omega arith))
    (at_snoc own z y j ey))
    (at_snoc own z x i ex)

-- a turn is claimed
pub own_claimed : (d : Dictatorship) (c e : Core) (own : List OwnTurn) (found : ℕ)
    → c.claim_number ≤ found → found < e.claim_number → found < turn_count d
    → ((k j : ℕ) → IsCellFrom (cell_at c k) j → IsCellFrom (cell_at e k) j)
    → AreSoundOwnTurns d c own None
    → AreSoundOwnTurns d e (own ++ record { turn = found; place = None } ∷ [])
    (claim_at found 0 false false)
own_claimed d c e own found new more inside cells f = record {
  each = λ i x at. ⊎_elim
      (λ (p : slice_get own i ≡ Some x). let a = f.each i x p in (
        a.0,
        omega arith,
        ⊎_elim (λ q. absurd (let r = q.1.1 in cc (r)))
            (λ q. inr (q.0, q.1, cells x.turn q.0 q.2)) a.2,
      ))
      (λ (p : (i ≡ length own) × (record { turn = found; place = None } ≡ x)). subst
      (λ (u : OwnTurn). (u.turn < turn_count d) × (u.turn < e.claim_number)
      × IsSoundOwnTurn e (claim_at found 0 false false) u) p.1 (
        inside,
        more,
        inl (refl, (record { turn = found; passed = 0; looked = false; met = false }, refl, refl)),
      ))
      (at_snoc own record { turn = found; place = None } x i at);
  rise = rise_snoc own record { turn = found; place = None } f.rise
      (λ i x at. let a = f.each i x at in omega arith);
  last = λ y is.
      (own, ap (λ (z : ℕ). own ++ record { turn = z; place = None } ∷ []) (ap turn_in is));
}

-- the last own turn is the one that a post places
placed_snoc : (xs : List OwnTurn) (x : OwnTurn) (j : ℕ)
    → with_place (xs ++ x ∷ []) j ≡ xs ++ record { turn = x.turn; place = Some j } ∷ []
placed_snoc [] x j = refl
placed_snoc (y ∷ []) x j = refl
placed_snoc (y ∷ z ∷ zs) x j = ap (λ l. y ∷ l) (placed_snoc (z ∷ zs) x j)

-- the claimed turn is posted
pub own_posted : (d : Dictatorship) (c e : Core) (own : List OwnTurn) (k j : ℕ)
    (looked met : Bool) → k < turn_count d → k < e.claim_number → c.claim_number ≤ e.claim_number
    → cell_at e k ≡ Posted j → ((x i : ℕ) → IsCellFrom (cell_at c x) i → IsCellFrom (cell_at e x) i)
    → AreSoundOwnTurns d c own (claim_at k j looked met)
    → AreSoundOwnTurns d e (with_place own j) None
own_posted d c e own k j looked met inside drawn more here cells f =
    let t = f.last record { turn = k; passed = j; looked = looked; met = met } refl in
    let before : List OwnTurn = t.0 in
    let old : OwnTurn = record { turn = k; place = None } in
    let new : OwnTurn = record { turn = k; place = Some j } in
    let is : with_place own j ≡ before ++ new ∷ [] = ap (λ (l : List OwnTurn). with_place l j) t.1
    ∙ placed_snoc before old j in
    let in_own : (i : ℕ) (x : OwnTurn) → slice_get before i ≡ Some x → slice_get own i ≡ Some x =
    λ i x at. ap (λ (l : List OwnTurn). slice_get l i) t.1
    ∙ at_longer before (old ∷ []) i x at in
    let end : slice_get own (length before) ≡ Some old =
    ap (λ (l : List OwnTurn). slice_get l (length before)) t.1 ∙ at_last before old in
    let below : (i : ℕ) (x : OwnTurn) → slice_get before i ≡ Some x → x.turn < k =
    λ i x at. f.rise i (length before) x old (in_own i x at) end
    (slice_get_within before i x at) in
    subst (λ (l : List OwnTurn). AreSoundOwnTurns d e l None) (sym is) record {
      each = λ i x at. ⊎_elim
          (λ (p : slice_get before i ≡ Some x). let a = f.each i x (in_own i x p) in
          let l = below i x p in (
            a.0,
            omega arith,
            ⊎_elim (λ q. absurd (let r = ap turn_in q.1.1 in let u = q.1.2 in omega arith))
                (λ q. inr (q.0, q.1, cells x.turn q.0 q.2)) a.2,
          ))
          (λ (p : (i ≡ length before) × (new ≡ x)). subst
          (λ (u : OwnTurn). (u.turn < turn_count d) × (u.turn < e.claim_number)
          × IsSoundOwnTurn e None u) p.1
          (inside, drawn, inr (j, refl, subst (λ (z : Cell). IsCellFrom z j) (sym here) refl)))
          (at_snoc before new x i at);
      rise = rise_snoc before new
          (λ i n x y ex ey. f.rise i n x y (in_own i x ex) (in_own n y ey)) below;
      last = λ y e. absurd (cc (e));
    }

-- writing the last own turn's place, where the own turns are kept in a vector
pub placed_at : (own : List OwnTurn) (i : ℕ) (x : OwnTurn) (j : ℕ) → i + 1 ≡ length own
    → x ≡ get_or own i x
    → set own i record { turn = x.turn; place = Some j } ≡ with_place own j
placed_at [] i x j end at = absurd (omega arith)
placed_at (y ∷ []) zero x j end at =
    ap (λ (z : OwnTurn). record { turn = z.turn; place = Some j } ∷ []) at
placed_at (y ∷ []) (suc i) x j end at = absurd (omega arith)
placed_at (y ∷ z ∷ zs) zero x j end at = absurd (omega arith)
placed_at (y ∷ z ∷ zs) (suc i) x j end at =
    ap (λ l. y ∷ l) (placed_at (z ∷ zs) i x j (omega arith) at)
