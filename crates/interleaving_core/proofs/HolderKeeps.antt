-- The events of the mark keep a sound state. The holder weighs the first turn that is not committed
-- against counts that nobody else raises, so the place where it finds a seat is the turn's choice.
use Rattle.std.proofs.Common.{◌≡◌, ℕ, suc, ◌+◌, ◌<◌, ◌≤◌, ◌≢◌, Bool, true, false, length, set, Option, Some, None, nat_le, eqb, eq-eqb, ne_eqb, sym, refl, ap, subst, ◌∙◌, arith, length-set, get_or-set_same, get_or-set_other}
use Rattle.std.specs.Prelude.{slice_get}
use Rattle.std.proofs.lemmas.Bool.{ltb-true, ltb-false, leb-true, lt-leb}
use mathlib.Core.Logic.{dite}
use native.Mathlib.Decide.{ℕ_discrete}
use Rattle.market.specs.Dictatorships.{Dictatorship, IsValidDictatorship, list_at, choice}
use Rattle.interleaving_core.specs.declared.parts.Cell.{Cell}
use Rattle.interleaving_core.specs.declared.parts.Cell.TheVariants.{Empty, Posted, Committed}
use Rattle.interleaving_core.specs.declared.parts.Phase.{Phase}
use Rattle.interleaving_core.specs.declared.parts.Phase.TheVariants.{Idle, Halted, Scan, Ready, Seated, Raised}
use Rattle.interleaving_core.specs.declared.parts.Holding.{Holding}
use Rattle.interleaving_core.specs.Flags.{flag_group}
use Rattle.interleaving_core.specs.Core.{View, Core, turn_count, entry, quota_of, seats_of, is_open, cell_at, is_committed, is_raised, hold_at}
use Rattle.interleaving_core.specs.Events.{Takes, Looks, Weighs, Seats, Raises, Seals, Releases, CanSeal, CanRelease, IsAllowed, with_hold, after_take, phase_after_look, phase_after_weigh, is_last_seat, after}
use Rattle.interleaving_core.specs.Sound.{bit, some_bit, hold_bit, done_bit, claim_bit, empty_bit, phase_seat_bit, holder_seat_bit, seat_bit, phase_late_bit, holder_late_bit, late_bit, IsSoundPhase, IsCellFrom, IsSoundHolding, IsSoundView, IsSoundMark, IsSound}
use Rattle.interleaving_core.proofs.Places.{sum_set, term_le}
use Rattle.interleaving_core.proofs.Choices.{choice_is, choice_open}
use Rattle.interleaving_core.proofs.Flags.{raised_now, raised_as_before, bit_as_before}
use Rattle.interleaving_core.proofs.Views.{Grows, holding_at, holder_fits, mark_stays, seats_stay, flags_stay, claims_stay, views_fit, calm_grows, mark_step, view_step}
use Rattle.interleaving_core.proofs.Holder.{lone, held_is, seated_is, seats_now, decided}

-- nothing but views changes
grows_none : (c : Core) → Grows c c
grows_none c = calm_grows c c.claim_number c.mark_held c.mark_number c.views (omega arith)

-- ---- a try on the mark

-- the view of who has tried: it neither claims nor owes, and knows this as holder
tried_fits : (d : Dictatorship) (c : Core) (count : ℕ) (v : View) (hold : Option Holding)
    → v.claim ≡ None → ((h : Holding) → hold ≡ Some h → IsSoundHolding d c count h)
    → IsSoundView d c count v → IsSoundView d c count record v { owes = false; hold = hold }
tried_fits d c count v hold none holds f =
    record {
      one =
          record {
            holder = λ h is. none;
            debtor = λ is. absurd (cc (is));
            leaver = λ is. (none, refl);
          };
      claim = f.claim;
      hold = holds;
      own = f.own;
      past = f.past;
    }

-- a try on the mark keeps a sound state, whether the mark was held or free
pub take_keeps : (d : Dictatorship) (c : Core) (i : ℕ) (v : View) (b : Bool) → c.mark_held ≡ b
    → IsSound d c → slice_get c.views i ≡ Some v → IsAllowed d v Takes
    → IsSound d record c { mark_held = true; views = set c.views i (after_take v b c.mark_number) }
take_keeps d c i v b was s at ok = by b was
  where
    takes : (w : View) → some_bit w.hold + bit c.mark_held ≡ 1
        → IsSoundMark d true c.mark_number (set c.views i w) s.count
    takes w one =
        record {
          within = s.mark.within;
          behind = s.mark.behind;
          free = λ no. absurd (cc (no));
          holders =
              let t = sum_set hold_bit c.views i v w at in
              let were = s.mark.holders in
              let not_mine : some_bit v.hold ≡ 0 = ap some_bit ok.1 in
              omega arith;
        }

    by : (b : Bool) → c.mark_held ≡ b → IsSound d record c {
      mark_held = true;
      views = set c.views i (after_take v b c.mark_number);
    }
    by true was =
        let w : View = after_take v true c.mark_number in
        let held : bit c.mark_held ≡ 1 = ap bit was in
        let not_mine : some_bit v.hold ≡ 0 = ap some_bit ok.1 in
        let f = s.views i v at in
        mark_step d c s i v w true c.mark_number at (takes w (omega arith)) (λ k. refl) refl
        (λ p. refl) (λ p. refl) (tried_fits d c s.count v v.hold ok.0 f.hold f)
    by false was =
        let w : View = after_take v false c.mark_number in
        let free : bit c.mark_held ≡ 0 = ap bit was in
        mark_step d c s i v w true c.mark_number at (takes w (omega arith)) (λ k. refl) refl
        (λ p. sym (ap (holder_seat_bit d p) ok.1)) (λ p. sym (ap (holder_late_bit d p) ok.1))
        (tried_fits d c s.count v w.hold ok.0
        (holding_at d c s.count c.mark_number Idle (s.mark.free was) tt) (s.views i v at))

-- ---- what the holder reads

-- an event that changes the holder's phase alone, from one in which it has seated nobody to another
phase_step : (d : Dictatorship) (c : Core) (i : ℕ) (v : View) (h : ℕ) (was now : Phase)
    → (s : IsSound d c)
    → slice_get c.views i ≡ Some v → v.hold ≡ hold_at h was
    → ((p : ℕ) → phase_seat_bit d p h now ≡ phase_seat_bit d p h was)
    → ((p : ℕ) → phase_late_bit d p h now ≡ phase_late_bit d p h was) → IsSoundPhase d c h now
    → IsSound d record c { views = set c.views i (with_hold v (hold_at h now)) }
phase_step d c i v h was now s at hold same same_late fits =
    let mine : Holding = record { committed = h; phase = was } in
    let f = s.views i v at in
    view_step d c s i v (with_hold v (hold_at h now)) at (sym (ap some_bit hold)) (λ k. refl) refl
    (λ p. same p ∙ sym (ap (holder_seat_bit d p) hold))
    (λ p. same_late p ∙ sym (ap (holder_late_bit d p) hold))
    (holder_fits d c c s.count s.count v mine (hold_at h now) (grows_none c) f hold
    (holding_at d c s.count h now (f.hold mine hold).committed fits))

-- a holder's look at the cell of its turn keeps a sound state
pub look_keeps : (d : Dictatorship) (c : Core) (i : ℕ) (v : View) (h : ℕ) → IsSound d c
    → slice_get c.views i ≡ Some v → IsAllowed d v (Looks h) → IsSound d (after d c i v (Looks h))
look_keeps d c i v h s at ok =
    phase_step d c i v h Idle (phase_after_look (cell_at c h)) s at ok.0 (λ p. none p (cell_at c h))
    (λ p. not_late p (cell_at c h))
    (found (cell_at c h) refl)
  where
    none : (p : ℕ) (x : Cell) → phase_seat_bit d p h (phase_after_look x) ≡ 0
    none p Empty = refl
    none p (Posted j) = refl
    none p (Committed j) = refl

    not_late : (p : ℕ) (x : Cell) → phase_late_bit d p h (phase_after_look x) ≡ 0
    not_late p Empty = refl
    not_late p (Posted j) = refl
    not_late p (Committed j) = refl

    found : (x : Cell) → cell_at c h ≡ x → IsSoundPhase d c h (phase_after_look x)
    found Empty e = tt
    found (Committed j) e = tt
    found (Posted j) e = let post = s.posts h j e in ((ok.1, (j, e, omega arith)), post.0, post.1)

-- weighing an entry of a valid dictatorship keeps a sound state
pub weigh_keeps : (d : Dictatorship) (c : Core) (i : ℕ) (v : View) (h j : ℕ) → IsValidDictatorship d
    → IsSound d c → slice_get c.views i ≡ Some v → IsAllowed d v (Weighs h j)
    → IsSound d (after d c i v (Weighs h j))
weigh_keeps d c i v h j valid s at ok = by (is_open d c (entry d h j)) refl
  where
    mine : Holding
    mine = record { committed = h; phase = Scan j }

    was : IsSoundPhase d c h (Scan j)
    was = ((s.views i v at).hold mine ok.0).phase

    by : (b : Bool) → is_open d c (entry d h j) ≡ b
        → IsSound d record c {
          views =
              set c.views i (with_hold v (hold_at h (phase_after_weigh b j)));
        }
    by true is =
        let free = ltb-true (seats_of c (entry d h j)) (quota_of d (entry d h j)) is in
        let now = seats_now d c s i v at mine ok.0 (λ p. refl) in
        let inside = ok.1 in
        let here = now (entry d h j) (valid.list_entries h j was.0.0 inside) in
        let place =
        choice_is d h j (omega arith)
        (λ n m.
        let full = was.2 n m in
        let there = now (entry d h n) (valid.list_entries h n was.0.0 (omega arith)) in
        omega arith)
        (λ _. omega arith) in
        phase_step d c i v h (Scan j) (Ready j) s at ok.0 (λ p. refl) (λ p. refl)
        (was.0, inside, place)
    by false is =
        let full = ltb-false (seats_of c (entry d h j)) (quota_of d (entry d h j)) is in
        let inside = ok.1 in
        let up = was.0.1.2 in
        phase_step d c i v h (Scan j) (Scan (j + 1)) s at ok.0 (λ p. refl) (λ p. refl) (
          (was.0.0, (was.0.1.0, was.0.1.1, omega arith)),
          omega arith,
          λ n m.
              dite (ℕ_discrete n j)
              (λ here. subst (λ (z : ℕ). quota_of d (entry d h z) ≤ seats_of c (entry d h z))
              (sym here) full)
              (λ other. was.2 n (omega arith)),
        )

-- ---- what the holder writes

-- a programme that is just seated is late where it is full now
late_here : (d : Dictatorship) (p h j : ℕ) (filled : Bool) → entry d h j ≡ p
    → phase_late_bit d p h (Seated j filled) ≡ bit filled
late_here d p h j true is = ap bit (eq-eqb (entry d h j) p is)
late_here d p h j false is = refl

-- no other programme is
late_elsewhere : (d : Dictatorship) (p h j : ℕ) (filled : Bool) → entry d h j ≢ p
    → phase_late_bit d p h (Seated j filled) ≡ 0
late_elsewhere d p h j true other = ap bit (ne_eqb (entry d h j) p other)
late_elsewhere d p h j false other = refl

-- taking a seat at the place found keeps a sound state
pub seat_keeps : (d : Dictatorship) (c : Core) (i : ℕ) (v : View) (h j : ℕ) → IsValidDictatorship d
    → IsSound d c → slice_get c.views i ≡ Some v → IsAllowed d v (Seats h j)
    → IsSound d (after d c i v (Seats h j))
seat_keeps d c i v h j valid s at ok =
    let q : ℕ = entry d h j in
    let filled : Bool = is_last_seat d c q in
    let w : View = with_hold v (hold_at h (Seated j filled)) in
    let e : Core = after d c i v (Seats h j) in
    let f = s.views i v at in
    let mine : Holding = record { committed = h; phase = Ready j } in
    let holding = f.hold mine ok in
    let was = holding.phase in
    let inside = valid.list_entries h j was.0.0 was.1 in
    let wide = s.seats.each_programme in
    let here : seats_of e q ≡ seats_of c q + 1 =
    get_or-set_same c.seats q (seats_of c q + 1) 0 (omega arith) in
    let before = seats_now d c s i v at mine ok (λ p. refl) q inside in
    let free = choice_open d h j was.2 was.1 in
    let else_ : (p : ℕ) → p ≢ q → seats_of e p ≡ seats_of c p =
    λ p n. get_or-set_other c.seats q p (seats_of c q + 1) 0 n in
    let g : Grows c e =
    record {
      more = omega arith;
      seats = λ p.
          dite (ℕ_discrete p q)
          (λ is. subst (λ (z : ℕ). seats_of c z ≤ seats_of e z) (sym is) (omega arith))
          (λ n. let same = else_ p n in omega arith);
      cells = λ k j p. p;
    } in
    record {
      count = s.count;
      mark = mark_stays d c.mark_held c.mark_number c.views s.count i v w at
          (sym (ap some_bit ok)) s.mark;
      cells = s.cells;
      seats =
          record {
            each_programme = length-set c.seats q (seats_of c q + 1) ∙ wide;
            counts = λ p l.
                let t = sum_set (seat_bit d p) c.views i v w at in
                let n = s.seats.counts p l in
                let zero : seat_bit d p v ≡ 0 = ap (holder_seat_bit d p) ok in
                dite (ℕ_discrete p q)
                (λ is.
                let one : bit (eqb q p) ≡ 1 = ap bit (eq-eqb q p (sym is)) in
                let more : seats_of e p ≡ seats_of c p + 1 =
                subst (λ (k : ℕ). seats_of e k ≡ seats_of c k + 1) (sym is) here in
                omega arith)
                (λ other.
                let none : bit (eqb q p) ≡ 0 = ap bit (ne_eqb q p (λ is. other (sym is))) in
                let same = else_ p other in
                omega arith);
          };
      flags =
          record {
            each_group = s.flags.each_group;
            raised = λ p l.
                let t = sum_set (late_bit d p) c.views i v w at in
                let n = s.flags.raised p l in
                let zero : late_bit d p v ≡ 0 = ap (holder_late_bit d p) ok in
                dite (ℕ_discrete p q)
                (λ is.
                let late = late_here d p h j filled (sym is) in
                let was_open : bit (nat_le (quota_of d p) (seats_of c p)) ≡ 0 =
                ap (λ (z : ℕ). bit (nat_le (quota_of d z) (seats_of c z))) is
                ∙ ap bit (lt-leb (quota_of d q) (seats_of c q) (omega arith)) in
                let full : bit (nat_le (quota_of d p) (seats_of e p)) ≡ bit filled =
                ap (λ (z : ℕ). bit (nat_le (quota_of d z) (seats_of e z))) is
                ∙ ap (λ (k : ℕ). bit (nat_le (quota_of d q) k)) here in
                omega arith)
                (λ other.
                let late = late_elsewhere d p h j filled (λ is. other (sym is)) in
                let same = ap (λ (k : ℕ). bit (nat_le (quota_of d p) k)) (else_ p other) in
                omega arith);
            unused = s.flags.unused;
            narrow = s.flags.narrow;
          };
      posts = λ x y p.
          let post = s.posts x y p in
          (post.0, λ n m. let full = post.1 n m in let rise = g.seats (entry d x n) in omega arith);
      claims = claims_stay d c.claim_number c.cells c.views i v w at (λ k. refl) refl s.claims;
      views =
          views_fit d c e s.count s.count i w g s.views
          (λ x u other there k is. absurd (lone d c s i v at mine ok x u other there k is))
          (holder_fits d c e s.count s.count v mine (hold_at h (Seated j filled)) g f ok
          (holding_at d e s.count h (Seated j filled) holding.committed
          (was.0, was.1, was.2, ap (λ (n : ℕ). nat_le (quota_of d q) n) (sym here))));
    }

-- the flag of the programme that was just filled is raised: it was the one that was late
pub raise_keeps : (d : Dictatorship) (c : Core) (i : ℕ) (v : View) (h j : ℕ)
    → IsValidDictatorship d → IsSound d c → slice_get c.views i ≡ Some v
    → IsAllowed d v (Raises h j) → IsSound d (after d c i v (Raises h j))
raise_keeps d c i v h j valid s at ok =
    let q : ℕ = entry d h j in
    let w : View = with_hold v (hold_at h (Raised j)) in
    let e : Core = after d c i v (Raises h j) in
    let f = s.views i v at in
    let mine : Holding = record { committed = h; phase = Seated j true } in
    let holding = f.hold mine ok in
    let was = holding.phase in
    let inside = valid.list_entries h j was.0.0 was.1 in
    let wide = s.flags.each_group in
    let group : flag_group q < length c.flags = omega arith in
    let g : Grows c e =
    record { more = omega arith; seats = λ p. omega arith; cells = λ k y p. p } in
    record {
      count = s.count;
      mark = mark_stays d c.mark_held c.mark_number c.views s.count i v w at
          (sym (ap some_bit ok)) s.mark;
      cells = s.cells;
      seats = seats_stay d c.seats c.views s.count i v w at
          (λ p. sym (ap (holder_seat_bit d p) ok)) s.seats;
      flags =
          record {
            each_group = length-set c.flags (flag_group q) _ ∙ wide;
            raised = λ p l.
                let t = sum_set (late_bit d p) c.views i v w at in
                let n = s.flags.raised p l in
                let late : late_bit d p v ≡ bit (eqb q p) = ap (holder_late_bit d p) ok in
                dite (ℕ_discrete p q)
                (λ is.
                let one : bit (eqb q p) ≡ 1 = ap bit (eq-eqb q p (sym is)) in
                let up : bit (is_raised e p) ≡ 1 =
                ap (λ (z : ℕ). bit (is_raised e z)) is
                ∙ ap bit (raised_now c.flags q group) in
                let most = term_le (late_bit d p) c.views i v at in
                let full = bit_le (nat_le (quota_of d p) (seats_of c p)) in
                omega arith)
                (λ other.
                let none : bit (eqb q p) ≡ 0 = ap bit (ne_eqb q p (λ is. other (sym is))) in
                let same = ap bit (raised_as_before c.flags q p group other) in
                omega arith);
            unused = λ z b l past.
                bit_as_before c.flags q z b group (λ is same. omega arith)
                ∙ s.flags.unused z b l past;
            narrow = λ z b past.
                bit_as_before c.flags q z b group (λ is same. omega arith)
                ∙ s.flags.narrow z b past;
          };
      posts = s.posts;
      claims = claims_stay d c.claim_number c.cells c.views i v w at (λ k. refl) refl s.claims;
      views =
          views_fit d c e s.count s.count i w g s.views
          (λ x u other there k is. absurd (lone d c s i v at mine ok x u other there k is))
          (holder_fits d c e s.count s.count v mine (hold_at h (Raised j)) g f ok
          (holding_at d e s.count h (Raised j) holding.committed
          (was.0, was.1, was.2, leb-true _ _ (sym was.3))));
    }
  where
    bit_le : (b : Bool) → bit b ≤ 1
    bit_le true = omega arith
    bit_le false = omega arith

-- a turn that may be committed has no programme that is late
sealed_late : (d : Dictatorship) (p places h j : ℕ) (x : Phase) → CanSeal places j x
    → phase_late_bit d p h x ≡ 0
sealed_late d p places h j Idle r = absurd r
sealed_late d p places h j Halted r = absurd r
sealed_late d p places h j (Scan k) r = refl
sealed_late d p places h j (Ready k) r = absurd r
sealed_late d p places h j (Seated k b) r = ap (λ b. phase_late_bit d p h (Seated k b)) r.1
sealed_late d p places h j (Raised k) r = refl

-- committing a turn keeps a sound state
pub seal_keeps : (d : Dictatorship) (c : Core) (i : ℕ) (v : View) (h j : ℕ) (phase : Phase)
    → IsValidDictatorship d → IsSound d c → slice_get c.views i ≡ Some v
    → IsAllowed d v (Seals h j phase) → IsSound d (after d c i v (Seals h j phase))
seal_keeps d c i v h j phase valid s at ok =
    let w : View = with_hold v (hold_at (h + 1) Idle) in
    let e : Core = after d c i v (Seals h j phase) in
    let f = s.views i v at in
    let mine : Holding = record { committed = h; phase = phase } in
    let holding = f.hold mine ok.0 in
    let now : h ≡ s.count = holding.committed in
    let turn = decided d c i v h j phase valid s at ok.0 ok.1 holding.phase in
    let inside = turn.posted.0 in
    let was : cell_at c h ≡ Posted turn.posted.1.0 = turn.posted.1.1 in
    let full : empty_bit (cell_at c h) ≡ 0 = ap empty_bit was in
    let wide = s.cells.each_turn in
    let here : cell_at e h ≡ Committed j =
    get_or-set_same c.cells h (Committed j) Empty (omega arith) in
    let else_ : (x : ℕ) → x ≢ h → cell_at e x ≡ cell_at c x =
    λ x n. get_or-set_other c.cells h x (Committed j) Empty n in
    let g : Grows c e =
    record {
      more = omega arith;
      seats = λ p. omega arith;
      cells = λ x y p.
          dite (ℕ_discrete x h)
          (λ is.
          let same : turn.posted.1.0 ≡ y =
          subst (λ (z : Cell). IsCellFrom z y) (ap (cell_at c) is ∙ was) p in
          let up = turn.posted.1.2 in
          subst (λ (z : Cell). IsCellFrom z y) (sym (ap (cell_at e) is ∙ here)) (omega arith))
          (λ n. subst (λ (z : Cell). IsCellFrom z y) (sym (else_ x n)) p);
    } in
    record {
      count = suc h;
      mark =
          record {
            within = omega arith;
            behind = let behind = s.mark.behind in omega arith;
            free = λ no. absurd (let held = held_is d c s i v at mine ok.0 in cc (no, held));
            holders =
                let t = sum_set hold_bit c.views i v w at in
                let one = s.mark.holders in
                let mine_too : some_bit v.hold ≡ 1 = ap some_bit ok.0 in
                omega arith;
          };
      cells =
          record {
            each_turn = length-set c.cells h (Committed j) ∙ wide;
            below = λ x l.
                dite (ℕ_discrete x h)
                (λ is. ap (cell_at e) is ∙ here
                ∙ ap Committed (sym turn.place ∙ ap (choice d) (sym is)))
                (λ n. else_ x n ∙ s.cells.below x (omega arith));
            above = λ x l. ap is_committed (else_ x (λ is. omega arith))
                ∙ s.cells.above x (omega arith);
          };
      seats =
          record {
            each_programme = s.seats.each_programme;
            counts = λ p l.
                let t = sum_set (seat_bit d p) c.views i v w at in
                let n = turn.seats p l in
                let all = seated_is d c s i v at mine ok.0 p in
                let taken : seat_bit d p v ≡ phase_seat_bit d p h phase =
                ap (holder_seat_bit d p) ok.0 in
                omega arith;
          };
      flags =
          flags_stay d c.flags c.seats c.views i v w at
          (λ p. sym
          (ap (holder_late_bit d p) ok.0 ∙ sealed_late d p (length (list_at d h)) h j phase ok.1))
          s.flags;
      posts = λ x y p.
          dite (ℕ_discrete x h)
          (λ is.
          let done : Committed j ≡ Posted y = sym here ∙ ap (cell_at e) (sym is) ∙ p in
          absurd (cc (done)))
          (λ n. s.posts x y (sym (else_ x n) ∙ p));
      claims =
          record {
            claimed = λ x l m.
                let t = sum_set (claim_bit x) c.views i v w at in
                let was_claimed = s.claims.claimed x l m in
                dite (ℕ_discrete x h)
                (λ is.
                let now_full : empty_bit (cell_at e x) ≡ 0 =
                ap empty_bit (ap (cell_at e) is ∙ here) in
                let was_full : empty_bit (cell_at c x) ≡ 0 =
                ap (λ y. empty_bit (cell_at c y)) is ∙ full in
                omega arith)
                (λ n.
                let same : empty_bit (cell_at e x) ≡ empty_bit (cell_at c x) =
                ap empty_bit (else_ x n) in
                omega arith);
            untouched = λ x l.
                else_ x
                (λ is.
                let posted_here : empty_bit (cell_at c x) ≡ 0 =
                ap (λ y. empty_bit (cell_at c y)) is ∙ full in
                let empty = ap empty_bit (s.claims.untouched x l) in
                omega arith)
                ∙ s.claims.untouched x l;
            few = let t = sum_set done_bit c.views i v w at in let few = s.claims.few in
                omega arith;
          };
      views =
          views_fit d c e s.count (suc h) i w g s.views
          (λ x u other there k is. absurd (lone d c s i v at mine ok.0 x u other there k is))
          (holder_fits d c e s.count (suc h) v mine (hold_at (h + 1) Idle) g f ok.0
          (holding_at d e (suc h) (h + 1) Idle (omega arith) tt));
    }

-- where the mark is given back nobody is seated
freed : (d : Dictatorship) (p n h : ℕ) (x : Phase) → CanRelease n h x → phase_seat_bit d p h x ≡ 0
freed d p n h Idle r = refl
freed d p n h Halted r = refl
freed d p n h (Scan j) r = refl
freed d p n h (Ready j) r = refl
freed d p n h (Seated j b) r = absurd r
freed d p n h (Raised j) r = absurd r

-- and nobody is late
freed_late : (d : Dictatorship) (p n h : ℕ) (x : Phase) → CanRelease n h x
    → phase_late_bit d p h x ≡ 0
freed_late d p n h Idle r = refl
freed_late d p n h Halted r = refl
freed_late d p n h (Scan j) r = refl
freed_late d p n h (Ready j) r = refl
freed_late d p n h (Seated j b) r = absurd r
freed_late d p n h (Raised j) r = refl

-- giving back the mark keeps a sound state
pub release_keeps : (d : Dictatorship) (c : Core) (i : ℕ) (v : View) (h : ℕ) (phase : Phase)
    → IsSound d c → slice_get c.views i ≡ Some v → IsAllowed d v (Releases h phase)
    → IsSound d (after d c i v (Releases h phase))
release_keeps d c i v h phase s at ok =
    let w : View = with_hold v None in
    let mine : Holding = record { committed = h; phase = phase } in
    let f = s.views i v at in
    let now = (f.hold mine ok.0).committed in
    mark_step d c s i v w false h at
    record {
      within = s.mark.within;
      behind = omega arith;
      free = λ _. now;
      holders =
          let t = sum_set hold_bit c.views i v w at in
          let one = s.mark.holders in
          let was_mine : some_bit v.hold ≡ 1 = ap some_bit ok.0 in
          let held : bit c.mark_held ≡ 1 = ap bit (held_is d c s i v at mine ok.0) in
          omega arith;
    }
    (λ k. refl) refl
    (λ p. sym (ap (holder_seat_bit d p) ok.0 ∙ freed d p (turn_count d) h phase ok.1))
    (λ p. sym (ap (holder_late_bit d p) ok.0 ∙ freed_late d p (turn_count d) h phase ok.1))
    (holder_fits d c c s.count s.count v mine None (grows_none c) f ok.0 (λ k is. absurd (cc (is))))
