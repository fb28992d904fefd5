-- A split and a join keep the rule. They move shares between seats; the views of the core stay
-- those of as many workers at the opening, or done, as before, so that each sum over the views
-- stays, and what is known of each view.
use Rattle.std.proofs.Common.{◌≡◌, ℕ, zero, suc, ◌+◌, ◌-◌, ◌*◌, ◌/◌, ◌<◌, ◌≢◌, ◌⊎◌, Bool, true, false, List, [], ◌∷◌, ◌++◌, length, set, get_or, Some, None, sym, refl, ap, inl, inr, ⊎_elim, subst, ◌∙◌, add-mul, suc-mul, arith, length-set}
use Rattle.std.specs.Prelude.{slice_get}
use Rattle.std.specs.List.{sum_by}
use Rattle.std.proofs.lemmas.List.Sums.{sum_by-append, sum_by-cons}
use Rattle.atomic_table.specs.Table.{State, Splits, Joins}
use Rattle.market.specs.Dictatorships.{Dictatorship}
use Rattle.interleaving_core.specs.declared.parts.Phase.{Phase}
use Rattle.interleaving_core.specs.declared.parts.Phase.TheVariants.{Idle, Halted, Scan, Ready, Seated, Raised}
use Rattle.interleaving_core.specs.Core.{View, Core, fresh_view}
use Rattle.interleaving_core.specs.Sound.{bit, some_bit, turn_bit, holder_seat_bit, holder_late_bit, hold_bit, done_bit, claim_bit, seat_bit, late_bit, IsSoundPhase, IsSoundView, IsSound}
use Rattle.interleaving_core.proofs.Places.{at_set, at_snoc, at_longer, sum_set}
use Rattle.interleaving_core.proofs.OwnTurns.{own_stays, own_nil}
use Rattle.interleaving_core.proofs.Views.{here_set}
use Rattle.interleaving_core.proofs.Counts.{same_count}
use Rattle.word_rule.specs.Views.{SeatKnows, ended_view, other_view, shared_views, core_views, kept_part, new_part, joined, spent_seat}
use Rattle.word_rule.specs.Rule.{IsLive, Belongs, IsSoundTable, HasReadFull, share_of, sealed_of, table_core}
use Rattle.word_rule.specs.declared.rule.RoundKey.{RoundKey}
use Rattle.word_rule.proofs.CoreViews.{there, live_there, other_there, Whose, whose, weight, sum_views, shared_sum, even_sum}
use Rattle.word_rule.proofs.Keeps.{seat_fits}
use Rattle.word_rule.proofs.Undrawn.{still_there, nobody_before}

module _ (d : Dictatorship) (c : Core) (vs : List View) where
  abbrev regrouped : Core
  regrouped = record c { views = vs }

  phase_refits : (h : ℕ) (x : Phase) → IsSoundPhase d c h x → IsSoundPhase d regrouped h x
  phase_refits h Idle f = f
  phase_refits h Halted f = f
  phase_refits h (Scan j) f = f
  phase_refits h (Ready j) f = f
  phase_refits h (Seated j full) f = f
  phase_refits h (Raised j) f = f

  refits : (count : ℕ) (v : View) → IsSoundView d c count v → IsSoundView d regrouped count v
  refits count v f =
      record {
        one = f.one;
        claim = λ x is.
            let g = f.claim x is in
            record {
              turn = g.turn;
              drawn = g.drawn;
              passed = g.passed;
              full = g.full;
              met =
                  g.met;
            };
        hold = λ h is.
            let g = f.hold h is in
            record { committed = g.committed; phase = phase_refits h.committed h.phase g.phase };
        own = own_stays d c regrouped v.own v.claim (omega arith) (λ k j e. e) f.own;
        past = f.past;
      }

  -- a sound state stays so where its views are others with the same sums
  pub resound : (s : IsSound d c) → sum_by hold_bit vs ≡ sum_by hold_bit c.views
      → sum_by done_bit vs ≡ sum_by done_bit c.views
      → ((k : ℕ) → sum_by (claim_bit k) vs ≡ sum_by (claim_bit k) c.views)
      → ((p : ℕ) → sum_by (seat_bit d p) vs ≡ sum_by (seat_bit d p) c.views)
      → ((p : ℕ) → sum_by (late_bit d p) vs ≡ sum_by (late_bit d p) c.views)
      → ((i : ℕ) (v : View) → slice_get vs i ≡ Some v → IsSoundView d c s.count v)
      → IsSound d regrouped
  resound s same_hold same_done same_claim same_seat same_late each =
      record {
        count = s.count;
        mark =
            record {
              within = s.mark.within;
              behind = s.mark.behind;
              free = s.mark.free;
              holders = same_hold ∙ s.mark.holders;
            };
        cells = s.cells;
        seats =
            record {
              each_programme = s.seats.each_programme;
              counts = λ p l. let a = s.seats.counts p l in let e = same_seat p in omega arith;
            };
        flags =
            record {
              each_group = s.flags.each_group;
              raised = λ p l. let a = s.flags.raised p l in let e = same_late p in omega arith;
              unused = s.flags.unused;
              narrow = s.flags.narrow;
            };
        posts = s.posts;
        claims =
            record {
              claimed = λ k l m. same_claim k ∙ s.claims.claimed k l m;
              untouched = s.claims.untouched;
              few = let a = s.claims.few in omega arith;
            };
        views = λ i v at. refits s.count v (each i v at);
      }

-- the two parts of a split seat weigh what it weighed
split_weight : (f : View → ℕ) (n more : ℕ) (v : View) → v ≡ fresh_view → n ≡ suc more → 0 < more
    → sum_by f (shared_views 1 v) + sum_by f (shared_views more fresh_view)
    ≡ sum_by f (shared_views n v)
split_weight f n zero v is one l = absurd (omega arith)
split_weight f n (suc m) v is one l =
    subst
    (λ (z : View × ℕ).
    sum_by f (shared_views 1 z.0) + sum_by f (shared_views (suc m) fresh_view)
    ≡ sum_by f (shared_views z.1 z.0))
    (λ i. (sym is i, sym one i))
    (let a = shared_sum f 0 fresh_view in
    let b = shared_sum f m fresh_view in
    let c = shared_sum f (suc m) fresh_view in
    let e = suc-mul m (f fresh_view) in
    let z : 0 * f fresh_view ≡ 0 = omega arith in
    omega arith)

module _ (key : RoundKey) where
  abbrev d : Dictatorship
  d = key.dict.value

  abbrev Table : Type 0
  Table = State ℕ SeatKnows

  abbrev Fits : (s : Table) → IsSoundTable key s → View → Type 0
  Fits s h = IsSoundView d (table_core key s) h.sound.count

  -- each other view that a seat stands for fits as well
  other_fits : (s : Table) (h : IsSoundTable key s) (i : ℕ) (x : SeatKnows) → IsLive s.views i x
      → 1 < x.share → Fits s h (other_view x.core.done)
  other_fits s h i x at more =
      let t = other_there s.views i x at more in
      h.sound.views t.0 (other_view x.core.done) t.1

  -- a view of a seat from before fits
  old_fits : (s : Table) (h : IsSoundTable key s) (i : ℕ) (x : SeatKnows) (v : View)
      → IsLive s.views i x → (v ≡ x.core) ⊎ ((1 < x.share) × (v ≡ other_view x.core.done))
      → Fits s h v
  old_fits s h i x v at which =
      ⊎_elim
      (λ (own : v ≡ x.core). subst (Fits s h) (sym own) (seat_fits key s h i x at))
      (λ (other : (1 < x.share) × (v ≡ other_view x.core.done)).
      subst (Fits s h) (sym other.1) (other_fits s h i x at other.0))
      which

  -- a seat at the opening may be split
  pub split_keeps : (id : ℕ) (x : SeatKnows) → x.core ≡ fresh_view → 1 < x.share
      → Splits (IsSoundTable key) id x (kept_part x) (new_part x)
  split_keeps id x fresh more s h at =
      let left = kept_part x in
      let right = new_part x in
      let vs : List SeatKnows = set s.views id left ++ right ∷ [] in
      let m : ℕ = x.share - 1 in
      let up : x.share ≡ suc m = omega arith in
      let mine = live_there s.views id x at (omega arith) in
      let b = h.each id x mine in
      let not_done : x.core.done ≡ false = ap (λ (v : View). v.done) fresh in
      let fresh_fits : Fits s h fresh_view = subst (Fits s h) fresh (seat_fits key s h id x mine) in
      let sums : (f : View → ℕ) → sum_by f (core_views vs) ≡ sum_by f (core_views s.views) =
      λ f.
      let a = sum_views f vs in
      let c = sum_views f s.views in
      let p = sum_by-append (weight f) (set s.views id left) (right ∷ []) in
      let o = sum_by-cons (weight f) right [] in
      let q = sum_set (weight f) s.views id x left mine.there in
      let r : weight f left + weight f right ≡ weight f x =
      split_weight f x.share m x.core fresh up (omega arith) in
      omega arith in
      let origin : (i : ℕ) (y : SeatKnows) → IsLive vs i y
      → ((i ≡ id) × (left ≡ y))
      ⊎ (((i ≢ id) × IsLive s.views i y) ⊎ ((i ≡ length s.views) × (right ≡ y))) =
      λ i y is.
      ⊎_elim
      (λ (p : slice_get (set s.views id left) i ≡ Some y).
      ⊎_elim
      (λ (q : (i ≡ id) × (left ≡ y)). inl q)
      (λ (q : (i ≢ id) × (slice_get s.views i ≡ Some y)).
      inr (inl (q.0, record { there = q.1; live = is.live })))
      (at_set s.views id i left y p))
      (λ (p : (i ≡ length (set s.views id left)) × (right ≡ y)).
      inr (inr (p.0 ∙ length-set s.views id left, p.1)))
      (at_snoc (set s.views id left) right y i is.there) in
      let fits_of : (v : View) → Whose vs v → Fits s h v =
      λ v w.
      ⊎_elim
      (λ (p : (w.at ≡ id) × (left ≡ w.seat)).
      ⊎_elim
      (λ (own : v ≡ w.seat.core).
      subst (Fits s h) (ap (λ (z : SeatKnows). z.core) p.1 ∙ sym own) (seat_fits key s h id x mine))
      (λ (other : (1 < w.seat.share) × (v ≡ other_view w.seat.core.done)).
      let one : 1 ≡ w.seat.share = ap share_of p.1 in
      let l = other.0 in
      absurd (omega arith))
      w.which)
      (λ rest.
      ⊎_elim
      (λ (p : (w.at ≢ id) × IsLive s.views w.at w.seat). old_fits s h w.at w.seat v p.1 w.which)
      (λ (p : (w.at ≡ length s.views) × (right ≡ w.seat)).
      ⊎_elim
      (λ (own : v ≡ w.seat.core).
      subst (Fits s h) (ap (λ (z : SeatKnows). z.core) p.1 ∙ sym own) fresh_fits)
      (λ (other : (1 < w.seat.share) × (v ≡ other_view w.seat.core.done)).
      subst (Fits s h) (ap (λ (z : SeatKnows). other_view z.core.done) p.1 ∙ sym other.1)
      fresh_fits)
      w.which)
      rest)
      (origin w.at w.seat w.live) in
      -- by its number a live seat is the one split, the new one, or one of a lesser number
      let lower : (j : ℕ) (y : SeatKnows) → j ≢ id → IsLive s.views j y → y.number < x.number =
      λ j y other is. h.last id j x y mine is (λ q. other (sym q)) more not_done in
      let numbered : (i : ℕ) (y : SeatKnows) → IsLive vs i y
      → ((i ≡ id) × (y.number ≡ x.number) × (y.share ≡ 1))
      ⊎ (((i ≢ id) × IsLive s.views i y) ⊎ ((i ≡ length s.views) × (y.number ≡ x.number + 1))) =
      λ i y is.
      ⊎_elim
      (λ p. inl (p.0, ap (λ (z : SeatKnows). z.number) (sym p.1), ap share_of (sym p.1)))
      (λ r. inr (⊎_elim (λ p. inl p) (λ p. inr (p.0, ap (λ (z : SeatKnows). z.number) (sym p.1)))
      r))
      (origin i y is) in
      let sound = resound d (table_core key s) (core_views vs) h.sound (sums hold_bit)
      (sums done_bit) (λ k. sums (claim_bit k)) (λ p. sums (seat_bit d p))
      (λ p. sums (late_bit d p)) (λ i v e. fits_of v (whose vs i v e)) in
      record {
        valid = h.valid;
        team = h.team;
        wide = h.wide;
        sound = sound;
        shares =
            let p = sum_by-append share_of (set s.views id left) (right ∷ []) in
            let o = sum_by-cons share_of right [] in
            let q = sum_set share_of s.views id x left mine.there in
            let t = h.shares in
            omega arith;
        sealed =
            let p = sum_by-append sealed_of (set s.views id left) (right ∷ []) in
            let o = sum_by-cons sealed_of right [] in
            let q = sum_set sealed_of s.views id x left mine.there in
            let t = h.sealed in
            let n = same_count d (table_core key s) _ h.sound sound (λ k. refl) in
            omega arith;
        spent = λ i y is none.
            ⊎_elim
            (λ (p : slice_get (set s.views id left) i ≡ Some y).
            ⊎_elim
            (λ (q : (i ≡ id) × (left ≡ y)). let l = ap share_of q.1 in absurd (omega arith))
            (λ (q : (i ≢ id) × (slice_get s.views i ≡ Some y)). h.spent i y q.1 none)
            (at_set s.views id i left y p))
            (λ (p : (i ≡ length (set s.views id left)) × (right ≡ y)).
            let l = ap share_of p.1 in absurd (omega arith))
            (at_snoc (set s.views id left) right y i is);
        each = λ i y is.
            ⊎_elim
            (λ (p : (i ≡ id) × (left ≡ y)).
            subst (Belongs key (get_or s.words 1 0 / 2)) p.1 record {
              dict = b.dict;
              workers = b.workers;
              wide = λ z. absurd (omega arith);
              behind = b.behind;
            })
            (λ rest.
            ⊎_elim
            (λ (p : (i ≢ id) × IsLive s.views i y). h.each i y p.1)
            (λ (p : (i ≡ length s.views) × (right ≡ y)).
            subst (Belongs key (get_or s.words 1 0 / 2)) p.1 record {
              dict = b.dict;
              workers = b.workers;
              wide = λ z. inl refl;
              behind = omega arith;
            })
            rest)
            (origin i y is);
        apart = λ i j a c ai cj other same.
            ⊎_elim
            (λ p.
            ⊎_elim
            (λ q. other (p.0 ∙ sym q.0))
            (λ r.
            ⊎_elim
            (λ q. let u = lower j c q.0 q.1 in let v = p.1 in absurd (omega arith))
            (λ q. let v = p.1 in let w = q.1 in absurd (omega arith))
            r)
            (numbered j c cj))
            (λ t.
            ⊎_elim
            (λ p.
            let u = lower i a p.0 p.1 in
            ⊎_elim
            (λ q. let v = q.1 in absurd (omega arith))
            (λ r.
            ⊎_elim
            (λ q. h.apart i j a c p.1 q.1 other same)
            (λ q. let v = q.1 in absurd (omega arith))
            r)
            (numbered j c cj))
            (λ p.
            let w = p.1 in
            ⊎_elim
            (λ q. let v = q.1 in absurd (omega arith))
            (λ r.
            ⊎_elim
            (λ q. let u = lower j c q.0 q.1 in absurd (omega arith))
            (λ q. other (p.0 ∙ sym q.0))
            r)
            (numbered j c cj))
            t)
            (numbered i a ai);
        last = λ i j a c ai cj other wide unfinished.
            ⊎_elim
            (λ p. let v = p.2 in absurd (omega arith))
            (λ t.
            ⊎_elim
            (λ p.
            let u = lower i a p.0 p.1 in
            let v = h.last i id a x p.1 mine p.0 wide unfinished in
            absurd (omega arith))
            (λ p.
            let w = p.1 in
            ⊎_elim
            (λ q. let v = q.1 in omega arith)
            (λ r.
            ⊎_elim
            (λ q. let u = lower j c q.0 q.1 in omega arith)
            (λ q. absurd (other (p.0 ∙ sym q.0)))
            r)
            (numbered j c cj))
            t)
            (numbered i a ai);
        full = λ i y is.
            ⊎_elim
            (λ (p : (i ≡ id) × (left ≡ y)).
            subst (HasReadFull d (table_core key s).seats) p.1 (h.full id x mine))
            (λ rest.
            ⊎_elim
            (λ (p : (i ≢ id) × IsLive s.views i y). h.full i y p.1)
            (λ (p : (i ≡ length s.views) × (right ≡ y)).
            subst (HasReadFull d (table_core key s).seats) p.1
            (λ n word none. absurd (cc (none))))
            rest)
            (origin i y is);
        undrawn = λ nobody.
            h.undrawn
            (nobody_before s.views id x left mine
            (ap (λ (v : View). v.own) fresh, not_done)
            (λ i y is.
            nobody i y record {
              there = at_longer (set s.views id left) (right ∷ []) i y is.there;
              live = is.live;
            }));
      }

-- a seat that may be joined: it is done, and neither claims nor holds
pub record IsIdle (x : SeatKnows) : Type 0 where
  pub live : 0 < x.share
  pub done : x.core.done ≡ true
  pub claim : x.core.claim ≡ None
  pub hold : x.core.hold ≡ None

idle_weight : (f : View → ℕ) (x : SeatKnows) → IsIdle x → f x.core ≡ f ended_view
    → weight f x ≡ x.share * f ended_view
idle_weight f x o e =
    even_sum f x.share x.core (f ended_view) e (ap (λ (b : Bool). f (other_view b)) o.done)

module _ (key : RoundKey) where
  -- a done view with nothing else fits wherever a done view does
  ended_fits : (s : State ℕ SeatKnows) (h : IsSoundTable key s) (v : View)
      → IsSoundView key.dict.value (table_core key s) h.sound.count v → v.done ≡ true
      → IsSoundView key.dict.value (table_core key s) h.sound.count ended_view
  ended_fits s h v f done =
      record {
        one =
            record {
              holder = λ g e. absurd (cc (e));
              debtor = λ e. absurd (cc (e));
              leaver = λ e. (refl, refl);
            };
        claim = λ x e. absurd (cc (e));
        hold = λ g e. absurd (cc (e));
        past = λ e. f.past done;
        own = own_nil key.dict.value (table_core key s);
      }

  -- seats that are over may be joined
  pub join_keeps : (id : ℕ) (x : SeatKnows) (other : ℕ) (y : SeatKnows) → IsIdle x → IsIdle y
      → Joins (IsSoundTable key) id x other y (joined x y) spent_seat
  join_keeps id x other y o p s h at apart at_other =
      let d : Dictatorship = key.dict.value in
      let both = joined x y in
      let mid : List SeatKnows = set s.views id both in
      let vs : List SeatKnows = set mid other spent_seat in
      let mine : IsLive s.views id x = record { there = there s.views id x at; live = o.live } in
      let in_mid : slice_get mid other ≡ Some y = there mid other y at_other in
      let in_old : slice_get s.views other ≡ Some y =
      ⊎_elim
      (λ (t : (other ≡ id) × (both ≡ y)). absurd (apart t.0))
      (λ (t : (other ≢ id) × (slice_get s.views other ≡ Some y)). t.1)
      (at_set s.views id other both y in_mid) in
      let b = h.each id x mine in
      let lx = o.live in
      let ly = p.live in
      let idle_both : IsIdle both =
      record { live = omega arith; done = o.done; claim = o.claim; hold = o.hold } in
      let own_fits = seat_fits key s h id x mine in
      let others_fit = ended_fits s h x.core own_fits o.done in
      let sums : (f : View → ℕ) → f x.core ≡ f ended_view → f y.core ≡ f ended_view
      → sum_by f (core_views vs) ≡ sum_by f (core_views s.views) =
      λ f ex ey.
      let a = sum_views f vs in
      let q = sum_views f s.views in
      let r = sum_set (weight f) mid other y spent_seat in_mid in
      let t = sum_set (weight f) s.views id x both mine.there in
      let wx = idle_weight f x o ex in
      let wy = idle_weight f y p ey in
      let wb = idle_weight f both idle_both ex in
      let z = f ended_view in
      let add : (x.share + y.share) * z ≡ x.share * z + y.share * z =
      add-mul x.share y.share (f ended_view) in
      omega arith in
      let origin : (i : ℕ) (z : SeatKnows) → IsLive vs i z
      → ((i ≡ id) × (z ≡ both)) ⊎ ((i ≢ id) × IsLive s.views i z) =
      λ i z is.
      ⊎_elim
      (λ (t : (i ≡ other) × (spent_seat ≡ z)).
      let none_left : 0 ≡ z.share = ap share_of t.1 in
      let l = is.live in
      absurd (omega arith))
      (λ (t : (i ≢ other) × (slice_get mid i ≡ Some z)).
      ⊎_elim
      (λ (u : (i ≡ id) × (both ≡ z)). inl (u.0, sym u.1))
      (λ (u : (i ≢ id) × (slice_get s.views i ≡ Some z)).
      inr (u.0, record { there = u.1; live = is.live }))
      (at_set s.views id i both z t.1))
      (at_set mid other i spent_seat z is.there) in
      let fits_of : (v : View) → Whose vs v → IsSoundView d (table_core key s) h.sound.count v =
      λ v w.
      ⊎_elim
      (λ (t : (w.at ≡ id) × (w.seat ≡ both)).
      ⊎_elim
      (λ (own : v ≡ w.seat.core).
      subst (IsSoundView d (table_core key s) h.sound.count)
      (sym (own ∙ ap (λ (u : SeatKnows). u.core) t.1)) own_fits)
      (λ (rest : (1 < w.seat.share) × (v ≡ other_view w.seat.core.done)).
      subst (IsSoundView d (table_core key s) h.sound.count)
      (sym (rest.1 ∙ ap other_view (ap (λ (u : SeatKnows). u.core.done) t.1 ∙ o.done))) others_fit)
      w.which)
      (λ (t : (w.at ≢ id) × IsLive s.views w.at w.seat). old_fits key s h w.at w.seat v t.1 w.which)
      (origin w.at w.seat w.live) in
      let sound = resound d (table_core key s) (core_views vs) h.sound
      (sums hold_bit (ap some_bit o.hold) (ap some_bit p.hold))
      (sums done_bit (ap bit o.done) (ap bit p.done))
      (λ k. sums (claim_bit k) (ap (turn_bit k) o.claim) (ap (turn_bit k) p.claim))
      (λ q. sums (seat_bit d q) (ap (holder_seat_bit d q) o.hold) (ap (holder_seat_bit d q) p.hold))
      (λ q. sums (late_bit d q) (ap (holder_late_bit d q) o.hold) (ap (holder_late_bit d q) p.hold))
      (λ i v e. fits_of v (whose vs i v e)) in
      record {
        valid = h.valid;
        team = h.team;
        wide = h.wide;
        sound = sound;
        shares =
            let r = sum_set share_of mid other y spent_seat in_mid in
            let t = sum_set share_of s.views id x both mine.there in
            let all = h.shares in
            omega arith;
        sealed =
            let r = sum_set sealed_of mid other y spent_seat in_mid in
            let t = sum_set sealed_of s.views id x both mine.there in
            let all = h.sealed in
            let n = same_count d (table_core key s) _ h.sound sound (λ k. refl) in
            omega arith;
        spent = λ i z is none.
            ⊎_elim
            (λ (t : (i ≡ other) × (spent_seat ≡ z)). ap sealed_of (sym t.1))
            (λ (t : (i ≢ other) × (slice_get mid i ≡ Some z)).
            ⊎_elim
            (λ (u : (i ≡ id) × (both ≡ z)). let l = ap share_of u.1 in absurd (omega arith))
            (λ (u : (i ≢ id) × (slice_get s.views i ≡ Some z)). h.spent i z u.1 none)
            (at_set s.views id i both z t.1))
            (at_set mid other i spent_seat z is);
        each = λ i z is.
            ⊎_elim
            (λ (t : (i ≡ id) × (z ≡ both)).
            subst (Belongs key (get_or s.words 1 0 / 2)) (sym t.1) record {
              dict = b.dict;
              workers = b.workers;
              wide = λ _. inr o.done;
              behind = b.behind;
            })
            (λ (t : (i ≢ id) × IsLive s.views i z). h.each i z t.1)
            (origin i z is);
        apart = λ i j a c ai cj differ same.
            ⊎_elim
            (λ (t : (i ≡ id) × (a ≡ both)).
            ⊎_elim
            (λ (u : (j ≡ id) × (c ≡ both)). differ (t.0 ∙ sym u.0))
            (λ (u : (j ≢ id) × IsLive s.views j c).
            h.apart id j x c mine u.1 (λ q. u.0 (sym q))
            (ap (λ (v : SeatKnows). v.number) (sym t.1) ∙ same))
            (origin j c cj))
            (λ (t : (i ≢ id) × IsLive s.views i a).
            ⊎_elim
            (λ (u : (j ≡ id) × (c ≡ both)).
            h.apart i id a x t.1 mine t.0 (same ∙ ap (λ (v : SeatKnows). v.number) u.1))
            (λ (u : (j ≢ id) × IsLive s.views j c). h.apart i j a c t.1 u.1 differ same)
            (origin j c cj))
            (origin i a ai);
        last = λ i j a c ai cj differ wide unfinished.
            ⊎_elim
            (λ (t : (i ≡ id) × (a ≡ both)).
            absurd
            (let is_done : a.core.done ≡ true = ap (λ (v : SeatKnows). v.core.done) t.1 ∙ o.done in
            cc))
            (λ (t : (i ≢ id) × IsLive s.views i a).
            ⊎_elim
            (λ (u : (j ≡ id) × (c ≡ both)).
            let n = h.last i id a x t.1 mine t.0 wide unfinished in
            let e : c.number ≡ x.number = ap (λ (v : SeatKnows). v.number) u.1 in
            omega arith)
            (λ (u : (j ≢ id) × IsLive s.views j c). h.last i j a c t.1 u.1 differ wide unfinished)
            (origin j c cj))
            (origin i a ai);
        full = λ i z is.
            ⊎_elim
            (λ (t : (i ≡ id) × (z ≡ both)).
            subst (HasReadFull d (table_core key s).seats) (sym t.1) (h.full id x mine))
            (λ (t : (i ≢ id) × IsLive s.views i z). h.full i z t.1)
            (origin i z is);
        -- the seat joined into is done
        undrawn = λ nobody.
            let at_both : slice_get vs id ≡ Some both =
            still_there mid other id both spent_seat (λ q. apart (sym q))
            (here_set s.views id x both mine.there) in
            let done = (nobody id both record { there = at_both; live = idle_both.live }).1 in
            absurd (let is_done : both.core.done ≡ true = o.done in cc (done, is_done));
      }
