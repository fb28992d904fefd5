-- Who holds the mark is alone: so the seat counts are those of the committed turns, and of the seat
-- that the holder has just taken.
use Rattle.std.proofs.Common.{◌≡◌, ℕ, suc, ◌<◌, ◌≤◌, ◌≢◌, Bool, true, false, length, set, eqb, Option, Some, None, sym, refl, ap, subst, ◌∙◌, arith}
use Rattle.std.specs.Prelude.{slice_get}
use Rattle.std.specs.List.{sum_by}
use Rattle.market.specs.Dictatorships.{Dictatorship, IsValidDictatorship, list_at, choice}
use Rattle.interleaving_core.specs.declared.parts.Phase.{Phase}
use Rattle.interleaving_core.specs.declared.parts.Phase.TheVariants.{Idle, Halted, Scan, Ready, Seated, Raised}
use Rattle.interleaving_core.specs.declared.parts.Holding.{Holding}
use Rattle.interleaving_core.specs.Core.{View, Core, fresh_view, entry, seats_of, hold_at}
use Rattle.interleaving_core.specs.Events.{CanSeal}
use Rattle.interleaving_core.specs.Sound.{bit, some_bit, hold_bit, phase_seat_bit, holder_seat_bit, seat_bit, seats_after, IsPostedUpTo, IsSoundPhase, IsSound}
use Rattle.interleaving_core.proofs.Places.{each_set, sum_set, terms_le, term_le, sum_zero}
use Rattle.interleaving_core.proofs.Choices.{choice_is, takes_seat, takes_none}

-- nobody else holds
pub lone : (d : Dictatorship) (c : Core) (s : IsSound d c) (i : ℕ) (v : View)
    → slice_get c.views i ≡ Some v → (h : Holding) → v.hold ≡ Some h → (j : ℕ) (u : View) → j ≢ i
    → slice_get c.views j ≡ Some u → (g : Holding) → u.hold ≡ Some g → ⊥
lone d c s i v at h is j u other there g its =
    let a : some_bit v.hold ≡ 1 = ap some_bit is in
    let b : some_bit u.hold ≡ 1 = ap some_bit its in
    let two = terms_le hold_bit c.views i j v u other at there in
    let one = s.mark.holders in
    let most = bit_le c.mark_held in
    omega arith
  where
    bit_le : (b : Bool) → bit b ≤ 1
    bit_le true = omega arith
    bit_le false = omega arith

-- the mark is held where a view holds it
pub held_is : (d : Dictatorship) (c : Core) (s : IsSound d c) (i : ℕ) (v : View)
    → slice_get c.views i ≡ Some v → (h : Holding) → v.hold ≡ Some h → c.mark_held ≡ true
held_is d c s i v at h is =
    let a : some_bit v.hold ≡ 1 = ap some_bit is in
    let t = term_le hold_bit c.views i v at in
    let one = s.mark.holders in
    up c.mark_held (omega arith)
  where
    up : (b : Bool) → 1 ≤ bit b → b ≡ true
    up true l = refl
    up false l = absurd (omega arith)

-- what is seated is what the holder seated
pub seated_is : (d : Dictatorship) (c : Core) (s : IsSound d c) (i : ℕ) (v : View)
    → slice_get c.views i ≡ Some v → (h : Holding) → v.hold ≡ Some h → (p : ℕ)
    → sum_by (seat_bit d p) c.views ≡ phase_seat_bit d p h.committed h.phase
seated_is d c s i v at h is p =
    let views = set c.views i fresh_view in
    let t = sum_set (seat_bit d p) c.views i v fresh_view at in
    let mine : seat_bit d p v ≡ phase_seat_bit d p h.committed h.phase =
    ap (holder_seat_bit d p) is in
    let rest : sum_by (seat_bit d p) views ≡ 0 =
    sum_zero (seat_bit d p) views
    (each_set (λ u. seat_bit d p u ≡ 0) c.views i fresh_view refl
    (λ j u other there. nobody u.hold (lone d c s i v at h is j u other there))) in
    omega arith
  where
    nobody : (o : Option Holding) → ((g : Holding) → o ≡ Some g → ⊥) → holder_seat_bit d p o ≡ 0
    nobody None n = refl
    nobody (Some g) n = absurd (n g refl)

-- where the holder has seated nobody, the seats are those of the committed turns
pub seats_now : (d : Dictatorship) (c : Core) (s : IsSound d c) (i : ℕ) (v : View)
    → slice_get c.views i ≡ Some v → (h : Holding) → v.hold ≡ Some h
    → ((p : ℕ) → phase_seat_bit d p h.committed h.phase ≡ 0) → (p : ℕ) → p < length d.quota
    → seats_of c p ≡ seats_after d h.committed p
seats_now d c s i v at h is none p l =
    let n = s.seats.counts p l in
    let one = seated_is d c s i v at h is p in
    let zero = none p in
    let same = ap (λ (k : ℕ). seats_after d k p) ((s.views i v at).hold h is).committed in
    omega arith

-- where it took a seat at its turn's choice, they are those after the turn
seats_next : (d : Dictatorship) (c : Core) (s : IsSound d c) (i : ℕ) (v : View)
    → slice_get c.views i ≡ Some v → (h : Holding) → v.hold ≡ Some h → (k : ℕ)
    → ((p : ℕ) → phase_seat_bit d p h.committed h.phase ≡ bit (eqb (entry d h.committed k) p))
    → k < length (list_at d h.committed) → choice d h.committed ≡ k → (p : ℕ)
    → p < length d.quota → seats_of c p ≡ seats_after d (suc h.committed) p
seats_next d c s i v at h is k took inside chosen p l =
    let n = s.seats.counts p l in
    let one = seated_is d c s i v at h is p in
    let taken = took p in
    let next = takes_seat d h.committed k p chosen inside in
    let same = ap (λ (m : ℕ). seats_after d m p) ((s.views i v at).hold h is).committed in
    omega arith

-- a turn that may be committed: it is posted, the place is its choice, and the seats are those
-- after it
pub record IsDecided (d : Dictatorship) (c : Core) (h j : ℕ) : Type 0 where
  pub posted : IsPostedUpTo d c h j
  pub place : choice d h ≡ j
  pub seats : (p : ℕ) → p < length d.quota → seats_of c p ≡ seats_after d (suc h) p

-- a turn that its holder may commit at place j is decided there
pub decided : (d : Dictatorship) (c : Core) (i : ℕ) (v : View) (h j : ℕ) (phase : Phase)
    → IsValidDictatorship d → (s : IsSound d c) → slice_get c.views i ≡ Some v
    → v.hold ≡ hold_at h phase
    → CanSeal (length (list_at d h)) j phase → IsSoundPhase d c h phase → IsDecided d c h j
decided d c i v h j (Seated k filled) valid s at hold is fits =
    record {
      posted = subst (IsPostedUpTo d c h) is.0 fits.0;
      place = fits.2 ∙ is.0;
      seats = seats_next d c s i v at _ hold k (λ p. refl) fits.1 fits.2;
    }
decided d c i v h j (Raised k) valid s at hold is fits =
    record {
      posted = subst (IsPostedUpTo d c h) is fits.0;
      place = fits.2 ∙ is;
      seats = seats_next d c s i v at _ hold k (λ p. refl) fits.1 fits.2;
    }
decided d c i v h j (Scan k) valid s at hold is fits =
    let mine : Holding = record { committed = h; phase = Scan k } in
    let same = seats_now d c s i v at mine hold (λ p. refl) in
    let all : k ≡ length (list_at d h) = is.0 ∙ is.1 in
    let none =
    choice_is d h (length (list_at d h)) (omega arith)
    (λ n m.
    let full = fits.2 n (omega arith) in
    let now = same (entry d h n) (valid.list_entries h n fits.0.0 m) in
    omega arith)
    (λ l. absurd (omega arith)) in
    record {
      posted = subst (IsPostedUpTo d c h) is.0 fits.0;
      place = none ∙ sym is.1;
      seats = λ p l. let now = same p l in let next = takes_none d h p none in omega arith;
    }
decided d c i v h j Idle valid s at hold is fits = absurd is
decided d c i v h j Halted valid s at hold is fits = absurd is
decided d c i v h j (Ready k) valid s at hold is fits = absurd is
