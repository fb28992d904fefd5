-- A step that is an event of the core keeps the rule. Whatever the table is when the step comes,
-- its words and views are a sound core state. The event is allowed by what the seat's own view
-- says, so the state after it is sound; and the table after the step shows that state, since the
-- step changes one word and one view, as the event does.
use Rattle.std.proofs.Common.{◌≡◌, ℕ, zero, suc, ◌+◌, ◌/◌, ◌<◌, ◌≤◌, ◌≢◌, true, List, [], ◌∷◌, length, set, get_or, Some, sym, refl, ap, inr, ⊎_elim, subst, ◌∙◌, arith, length-set, get_or-set_other}
use Rattle.std.specs.Prelude.{slice_get}
use Rattle.std.proofs.lemmas.List.{set-get_or}
use Rattle.atomic_table.specs.Table.{State}
use Rattle.market.specs.Dictatorships.{Dictatorship}
use Rattle.interleaving_core.specs.Core.{View, Core, entry, seats_of}
use Rattle.interleaving_core.specs.Events.{Action, event_of, Claims, ReadsFlags, Reads, Posts, Takes, Looks, Weighs, Seats, Raises, Seals, Releases, IsAllowed, after, view_after}
use Rattle.interleaving_core.specs.Sound.{IsSoundView, IsSound}
use Rattle.interleaving_core.proofs.Places.{at_set, sum_set}
use Rattle.interleaving_core.proofs.Views.{here_set}
use Rattle.interleaving_core.proofs.Counts.{commits, count_after}
use Rattle.interleaving_core.proofs.Keeps as core
use Rattle.word_rule.specs.Layout.{core_of}
use Rattle.word_rule.specs.Views.{SeatKnows, SeatMe, with_core, core_views}
use Rattle.word_rule.specs.Copies.{IsInRange}
use Rattle.word_rule.specs.Conditions.{word_of, MayMake}
use Rattle.word_rule.specs.Rule.{IsLive, Belongs, IsSoundTable, HasReadFull, HasNotDrawn, share_of, sealed_of, table_core}
use Rattle.word_rule.specs.declared.rule.RoundKey.{RoundKey}
use Rattle.word_rule.proofs.CoreViews.{place, at_place, set_place}
use Rattle.word_rule.proofs.Undrawn.{new_view, nobody_before, undrawn_before}

-- the seat's number, share and round stay, and it stands for others only where it is done
pub record IsSameSeat (x y : SeatKnows) : Type 0 where
  pub number : y.number ≡ x.number
  pub share : y.share ≡ x.share
  pub dict : y.dict ≡ x.dict
  pub workers : y.workers ≡ x.workers
  pub alone : 1 < x.share → (x.core.done ≡ true) × (y.core.done ≡ true)

-- a seat stays the same where its view of the core alone changes, and it is done before and after
-- where it stands for others
pub same_seat : (x : SeatKnows) (v : View) → (1 < x.share → (x.core.done ≡ true) × (v.done ≡ true))
    → IsSameSeat x (with_core x v)
same_seat x v alone =
    record { number = refl; share = refl; dict = refl; workers = refl; alone = alone }

-- so it does with a view that is done as before
pub same_with : (x : SeatKnows) (v : View) → v.done ≡ x.core.done
    → (1 < x.share → x.core.done ≡ true) → IsSameSeat x (with_core x v)
same_with x v done alone = same_seat x v (λ more. (alone more, done ∙ alone more))

-- a seat of the round may make an event that its view of the core allows, on the event's word
may_make : (key : RoundKey) (number : ℕ) (m : SeatMe) (a : Action) (i : ℕ) → Belongs key number m.0
    → IsAllowed key.dict.value m.0.core a → i ≡ word_of key.dict.value a
    → MayMake m (event_of a) i
may_make key number m a i mine may on =
    record {
      action = a;
      is = refl;
      allowed = subst (λ (z : Dictatorship). IsAllowed z m.0.core a) (sym mine.dict) may;
      on = on ∙ ap (λ (z : Dictatorship). word_of z a) (sym mine.dict);
    }

-- the state that an event leads to, in whatever form, has as many committed turns more as it
-- commits
more_committed : (d : Dictatorship) (c e : Core) (i : ℕ) (v : View) (a : Action) (s : IsSound d c)
    (t : IsSound d e) → e ≡ after d c i v a → slice_get c.views i ≡ Some v → IsAllowed d v a
    → t.count ≡ s.count + commits a
more_committed d c e i v a s t is at may =
    subst (λ (z : Core). (t : IsSound d z) → t.count ≡ s.count + commits a) (sym is)
    (λ t. count_after d c i v a s t at may) t

-- a view that fits a state speaks of the round's turns and places
pub fits_in_range : (d : Dictatorship) (c : Core) (count : ℕ) (v : View) → count ≤ length d.lists
    → IsSoundView d c count v → IsInRange d v
fits_in_range d c count v within f =
    record {
      claimed = λ k j looked met e. (f.claim _ e).turn;
      passed = λ k j looked met e. (f.claim _ e).passed;
      met = λ k j looked e. (f.claim _ e).met refl;
      committed = λ h phase e. let a = (f.hold _ e).committed in omega arith;
      scanned = λ h j e. (f.hold _ e).phase.0.0;
      scanned_place = λ h j e. (f.hold _ e).phase.1;
      ready = λ h j e. (f.hold _ e).phase.0.0;
      ready_place = λ h j e. (f.hold _ e).phase.1;
      seated = λ h j full e. (f.hold _ e).phase.0.0;
      seated_place = λ h j full e. (f.hold _ e).phase.1;
      raised = λ h j e. (f.hold _ e).phase.0.0;
      raised_place = λ h j e. (f.hold _ e).phase.1;
    }

-- a count written over a smaller one makes no count smaller
set_rises : (l : List ℕ) (i n p : ℕ) → get_or l i 0 ≤ n → get_or l p 0 ≤ get_or (set l i n) p 0
set_rises [] i n p h = omega arith
set_rises (x ∷ xs) zero n zero h = h
set_rises (x ∷ xs) zero n (suc p) h = omega arith
set_rises (x ∷ xs) (suc i) n zero h = omega arith
set_rises (x ∷ xs) (suc i) n (suc p) h = set_rises xs i n p h

-- no event makes a seat count smaller
pub seats_rise : (d : Dictatorship) (c : Core) (i : ℕ) (v : View) (a : Action) (p : ℕ)
    → seats_of c p ≤ seats_of (after d c i v a) p
seats_rise d c i v Claims p = omega arith
seats_rise d c i v (ReadsFlags k j) p = omega arith
seats_rise d c i v (Reads k j) p = omega arith
seats_rise d c i v (Posts k j looked met) p = omega arith
seats_rise d c i v Takes p = omega arith
seats_rise d c i v (Looks h) p = omega arith
seats_rise d c i v (Weighs h j) p = omega arith
seats_rise d c i v (Seats h j) p =
    set_rises c.seats (entry d h j) (seats_of c (entry d h j) + 1) p (omega arith)
seats_rise d c i v (Raises h j) p = omega arith
seats_rise d c i v (Seals h j phase) p = omega arith
seats_rise d c i v (Releases h phase) p = omega arith

-- what was read of flags stays so where seat counts rise
read_full_rises : (d : Dictatorship) (old new : List ℕ) (x : SeatKnows)
    → ((p : ℕ) → get_or old p 0 ≤ get_or new p 0) → HasReadFull d old x → HasReadFull d new x
read_full_rises d old new x rise full n word at p group raised =
    let was = full n word at p group raised in
    let up = rise p in
    let most = was.1 in
    (was.0, omega arith)

-- so it does for a seat that has read the same words of flags
read_alike : (d : Dictatorship) (seats : List ℕ) (x y : SeatKnows) → y.flags ≡ x.flags
    → HasReadFull d seats x → HasReadFull d seats y
read_alike d seats x y same full n word at =
    full n word (ap (λ l. slice_get l n) (sym same) ∙ at)

-- a live seat after one has changed is a live seat from before, with the same number and share
pub record Was (l : List SeatKnows) (i : ℕ) (a : SeatKnows) : Type 0 where
  pub seat : SeatKnows
  pub live : IsLive l i seat
  pub number : seat.number ≡ a.number
  pub share : seat.share ≡ a.share
  pub done : 1 < a.share → seat.core.done ≡ a.core.done

was : (l : List SeatKnows) (id : ℕ) (x y : SeatKnows) → IsLive l id x → IsSameSeat x y
    → (i : ℕ) (a : SeatKnows) → IsLive (set l id y) i a → Was l i a
was l id x y at same i a is =
    ⊎_elim
    (λ (t : (i ≡ id) × (y ≡ a)).
    let share : x.share ≡ a.share = sym same.share ∙ ap (λ (u : SeatKnows). u.share) t.1 in
    record {
      seat = x;
      live = record { there = ap (slice_get l) t.0 ∙ at.there; live = at.live };
      number = sym same.number ∙ ap (λ (u : SeatKnows). u.number) t.1;
      share = share;
      done = λ more.
          let q = same.alone (omega arith) in
          q.0 ∙ (sym q.1 ∙ ap (λ (u : SeatKnows). u.core.done) t.1);
    })
    (λ (t : (i ≢ id) × (slice_get l i ≡ Some a)).
    record {
      seat = a;
      live = record { there = t.1; live = is.live };
      number = refl;
      share = refl;
      done = λ _. refl;
    })
    (at_set l id i y a is.there)

module _ (key : RoundKey) where
  -- the round's dictatorship
  abbrev pub d : Dictatorship
  d = key.dict.value

  -- the state of its table
  abbrev pub Table : Type 0
  Table = State ℕ SeatKnows

  -- the seat counts that words show
  abbrev pub seats_in : List ℕ → List ℕ
  seats_in words = (core_of d words []).seats

  -- a seat's view fits the core state of the table
  pub seat_fits : (s : Table) (h : IsSoundTable key s) (i : ℕ) (x : SeatKnows) → IsLive s.views i x
      → IsSoundView d (table_core key s) h.sound.count x.core
  seat_fits s h i x at = h.sound.views (place s.views i) x.core (at_place s.views i x at)

  -- so it speaks of the round's turns and places
  pub seat_in_range : (s : Table) (h : IsSoundTable key s) (i : ℕ) (x : SeatKnows)
      → IsLive s.views i x → IsInRange x.dict x.core
  seat_in_range s h i x at =
      subst (λ (z : Dictatorship). IsInRange z x.core) (sym (h.each i x at).dict)
      (fits_in_range d (table_core key s) h.sound.count x.core h.sound.mark.within
      (seat_fits s h i x at))

  -- the table with these words, and another view of one seat
  abbrev pub table_after : Table → ℕ → SeatKnows → List ℕ → Table
  table_after s id y words = record { words = words; homes = s.homes; views = set s.views id y }

  -- the changed seat is live
  live_after : (s : Table) (id : ℕ) (x y : SeatKnows) → IsLive s.views id x → IsSameSeat x y
      → IsLive (set s.views id y) id y
  live_after s id x y at same =
      let share = same.share in
      let live = at.live in
      record { there = here_set s.views id x y at.there; live = omega arith }

  -- the rule stays where the core state after the step is sound
  pub sound_keeps : (s : Table) (h : IsSoundTable key s) (id : ℕ) (x y : SeatKnows) (words : List ℕ)
      → IsLive s.views id x → IsSameSeat x y → length words ≡ length s.words
      → (t : IsSound d (core_of d words (core_views (set s.views id y))))
      → y.sealed + h.sound.count ≡ x.sealed + t.count
      → get_or s.words 1 0 / 2 ≤ get_or words 1 0 / 2 → y.released ≤ get_or words 1 0 / 2
      → ((p : ℕ) → get_or (seats_in s.words) p 0 ≤ get_or (seats_in words) p 0)
      → HasReadFull d (seats_in words) y
      → (HasNotDrawn y.core → HasNotDrawn x.core × (get_or words 0 0 ≡ get_or s.words 0 0))
      → IsSoundTable key (table_after s id y words)
  sound_keeps s h id x y words at same long sound sealed grows behind rise read drew =
      let b = h.each id x at in
      let share = same.share in
      record {
        valid = h.valid;
        team = h.team;
        wide = long ∙ h.wide;
        sound = sound;
        shares = omega (arith, sum_set share_of s.views id x y at.there, h.shares);
        each = λ i a is.
            ⊎_elim
            (λ (t : (i ≡ id) × (y ≡ a)).
            subst (Belongs key (get_or words 1 0 / 2)) t.1 record {
              dict = same.dict ∙ b.dict;
              workers = same.workers ∙ b.workers;
              wide = λ more. inr (same.alone (omega arith)).1;
              behind = behind;
            })
            (λ (t : (i ≢ id) × (slice_get s.views i ≡ Some a)).
            let f = h.each i a record { there = t.1; live = is.live } in
            let told = f.behind in
            record { dict = f.dict; workers = f.workers; wide = f.wide; behind = omega arith })
            (at_set s.views id i y a is.there);
        apart = λ i j a c ai cj other same_number.
            let p = was s.views id x y at same i a ai in
            let q = was s.views id x y at same j c cj in
            h.apart i j p.seat q.seat p.live q.live other (p.number ∙ (same_number ∙ sym q.number));
        last = λ i j a c ai cj other more not_done.
            let p = was s.views id x y at same i a ai in
            let q = was s.views id x y at same j c cj in
            let ps = p.share in
            let unfinished = p.done more ∙ not_done in
            let n = h.last i j p.seat q.seat p.live q.live other (omega arith) unfinished in
            let pn = p.number in
            let qn = q.number in
            omega arith;
        sealed = omega (arith, sum_set sealed_of s.views id x y at.there, h.sealed);
        spent = λ i a is none.
            ⊎_elim
            (λ (t : (i ≡ id) × (y ≡ a)).
            let live = at.live in let gone = ap share_of t.1 in absurd (omega arith))
            (λ (t : (i ≢ id) × (slice_get s.views i ≡ Some a)). h.spent i a t.1 none)
            (at_set s.views id i y a is);
        full = λ i a is.
            ⊎_elim
            (λ (t : (i ≡ id) × (y ≡ a)). subst (HasReadFull d (seats_in words)) t.1 read)
            (λ (t : (i ≢ id) × (slice_get s.views i ≡ Some a)).
            read_full_rises d (seats_in s.words) (seats_in words) a rise
            (h.full i a record { there = t.1; live = is.live }))
            (at_set s.views id i y a is.there);
        undrawn = λ nobody.
            let mine = drew (nobody id y (live_after s id x y at same)) in
            mine.1 ∙ h.undrawn (nobody_before s.views id x y at mine.0 nobody);
      }

  -- the views of the core after the step
  pub views_after : (s : Table) (id : ℕ) (x y : SeatKnows) → IsLive s.views id x → IsSameSeat x y
      → core_views (set s.views id y) ≡ set (core_views s.views) (place s.views id) y.core
  views_after s id x y at same =
      set_place s.views id x y at same.share (λ more. let q = same.alone more in q.1 ∙ sym q.0)

  -- the rule stays where the step is an event that the seat's view allows, and what the seat has
  -- read of flags is so
  event_keeps : (s : Table) (h : IsSoundTable key s) (id : ℕ) (x y : SeatKnows)
      (words : List ℕ) (a : Action) → IsLive s.views id x → IsSameSeat x y → IsAllowed d x.core a
      → length words ≡ length s.words
      → core_of d words (set (core_views s.views) (place s.views id) y.core)
      ≡ after d (table_core key s) (place s.views id) x.core a
      → y.sealed ≡ x.sealed + commits a
      → get_or s.words 1 0 / 2 ≤ get_or words 1 0 / 2 → y.released ≤ get_or words 1 0 / 2
      → (HasReadFull d (seats_in words) x → HasReadFull d (seats_in words) y)
      → IsSoundTable key (table_after s id y words)
  event_keeps s h id x y words a at same may long is sealed grows behind reads =
      let own = at_place s.views id x at in
      let rise : (p : ℕ) → get_or (seats_in s.words) p 0 ≤ get_or (seats_in words) p 0 =
      λ p.
      let up = seats_rise d (table_core key s) (place s.views id) x.core a p in
      let now = ap (λ (c : Core). get_or c.seats p 0) is in
      omega arith in
      let leads = ap (core_of d words) (views_after s id x y at same) ∙ is in
      let shown = new_view (core_views s.views) (place s.views id) x.core y.core
      (view_after d (table_core key s) x.core a) own (ap (λ (c : Core). c.views) is) in
      let sound = subst (IsSound d) (sym leads)
      (core.keeps d (table_core key s) (place s.views id) x.core a h.valid h.sound own may) in
      let more = more_committed d (table_core key s) _ (place s.views id) x.core a h.sound sound
      leads own may in
      let read = reads (read_full_rises d (seats_in s.words) (seats_in words) x rise (h.full id x at))
      in
      sound_keeps s h id x y words at same long sound (omega arith) grows behind rise read
      (λ nothing.
      let before = undrawn_before d (table_core key s) (place s.views id) x.core a
      (subst HasNotDrawn shown nothing) in
      (before.0, ap (λ (c : Core). c.claim_number) is ∙ before.1))

  -- a step of a seat on this word is this event: the rule stays, the event could be made, on its
  -- own word, and the seat's view speaks of the round's turns and places
  pub record IsStep (s : Table) (id : ℕ) (me : SeatMe) (y : SeatKnows) (i : ℕ) (words : List ℕ)
      (a : Action) : Type 0 where
    pub kept : IsSoundTable key (table_after s id y words)
    pub before : MayMake me (event_of a) i
    pub range : IsInRange y.dict y.core

  -- it is one where the seat's view allows it and the table then shows the state after it
  pub event_step : (s : Table) (h : IsSoundTable key s) (id : ℕ) (me : SeatMe) (y : SeatKnows)
      (i : ℕ) (words : List ℕ) (a : Action) → IsLive s.views id me.0 → IsSameSeat me.0 y
      → IsAllowed d me.0.core a → i ≡ word_of d a → length words ≡ length s.words
      → core_of d words (set (core_views s.views) (place s.views id) y.core)
      ≡ after d (table_core key s) (place s.views id) me.0.core a
      → y.sealed ≡ me.0.sealed + commits a
      → get_or s.words 1 0 / 2 ≤ get_or words 1 0 / 2 → y.released ≤ get_or words 1 0 / 2
      → (HasReadFull d (seats_in words) me.0 → HasReadFull d (seats_in words) y)
      → IsStep s id me y i words a
  event_step s h id me y i words a live same may on long is sealed grows behind reads =
      let kept = event_keeps s h id me.0 y words a live same may long is sealed grows behind reads
      in
      record {
        kept = kept;
        before = may_make key _ me a i (h.each id me.0 live) may on;
        range = seat_in_range _ kept id y (live_after s id me.0 y live same);
      }

  -- so is a write to another word than the mark's, after which the seat has read no more flags and
  -- released nothing
  pub write_step : (s : Table) (h : IsSoundTable key s) (id : ℕ) (me : SeatMe) (y : SeatKnows)
      (i n : ℕ) (a : Action) → i ≢ 1 → IsLive s.views id me.0 → IsSameSeat me.0 y
      → IsAllowed d me.0.core a → i ≡ word_of d a
      → core_of d (set s.words i n) (set (core_views s.views) (place s.views id) y.core)
      ≡ after d (table_core key s) (place s.views id) me.0.core a
      → y.sealed ≡ me.0.sealed + commits a → y.released ≡ me.0.released → y.flags ≡ me.0.flags
      → IsStep s id me y i (set s.words i n) a
  write_step s h id me y i n a other live same may on is sealed told flags =
      let mark : get_or (set s.words i n) 1 0 ≡ get_or s.words 1 0 =
      get_or-set_other s.words i 1 n 0 (λ e. omega arith) in
      let behind = (h.each id me.0 live).behind in
      event_step s h id me y i (set s.words i n) a live same may on (length-set s.words i n) is
      sealed (omega arith) (omega arith) (read_alike d (seats_in (set s.words i n)) me.0 y flags)

  -- so is a load, after which the seat's view is the one after the event
  pub load_step : (s : Table) (h : IsSoundTable key s) (id i : ℕ) (me : SeatMe) (y : SeatKnows)
      (a : Action) → IsLive s.views id me.0 → IsSameSeat me.0 y → IsAllowed d me.0.core a
      → y.core ≡ view_after d (table_core key s) me.0.core a
      → core_of d s.words
      (set (core_views s.views) (place s.views id) (view_after d (table_core key s) me.0.core a))
      ≡ after d (table_core key s) (place s.views id) me.0.core a
      → i ≡ word_of d a → y.sealed ≡ me.0.sealed + commits a → y.released ≡ me.0.released
      → (HasReadFull d (seats_in s.words) me.0 → HasReadFull d (seats_in s.words) y)
      → IsStep s id me y i (set s.words i (get_or s.words i 0)) a
  load_step s h id i me y a live same may shown is on sealed told reads =
      let behind = (h.each id me.0 live).behind in
      let leads = ap
      (λ (v : View). core_of d s.words (set (core_views s.views) (place s.views id) v)) shown ∙ is
      in
      subst (λ (l : List ℕ). IsStep s id me y i l a) (sym (set-get_or s.words i 0))
      (event_step s h id me y i s.words a live same may on refl leads sealed (omega arith)
      (omega arith) reads)
