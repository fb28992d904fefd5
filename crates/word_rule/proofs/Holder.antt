-- The holder's atomic steps keep the rule: a try on the mark, a look, a weighing, a seat taken, a
-- commit and a release are each their event. A seat with every share has no other beside it, so it
-- finds the mark free; and once it is done it finds each turn that is not committed posted.
use Rattle.std.proofs.Common.{◌≡◌, ℕ, ◌+◌, ◌*◌, ◌/◌, ◌%◌, ◌^◌, ◌<◌, ◌≤◌, ◌⊎◌, Bool, true, false, List, set, get_or, bit_or, nat_lt, nat_le, eqb, ne_eqb, Some, None, IsSome, sym, refl, ap, inl, inr, ⊎_elim, subst, ◌∙◌, arith, length-set, get_or-set_same}
use Rattle.std.specs.Prelude.{slice_get}
use Rattle.std.proofs.Math.Nat.{mod-eq_of_lt}
use mathlib.Core.Logic.{dite}
use native.Mathlib.Decide.{ℕ_discrete}
use Rattle.atomic_table.specs.Table.{State, keeps, Allows}
use Rattle.market.specs.Dictatorships.{Dictatorship}
use Rattle.interleaving_core.specs.declared.parts.Cell.{Cell}
use Rattle.interleaving_core.specs.declared.parts.Cell.TheVariants.{Empty, Posted, Committed}
use Rattle.interleaving_core.specs.declared.parts.Phase.{Phase}
use Rattle.interleaving_core.specs.declared.parts.Phase.TheVariants.{Seated, Raised}
use Rattle.interleaving_core.specs.Flags.{flag_group, flag_bit, with_flag}
use Rattle.interleaving_core.specs.Core.{View, turn_count, entry, quota_of, seats_of, cell_at, is_committed, hold_at}
use Rattle.interleaving_core.specs.Events.{Takes, Looks, Weighs, Seats, Raises, Seals, Releases, IsAllowed, with_hold, after_take, phase_after_look, phase_after_weigh, after}
use Rattle.interleaving_core.specs.Sound.{bit, some_bit, empty_bit, turn_bit, hold_bit, claim_bit}
use Rattle.market.proofs.Turns.{seats_taken-le-quota}
use Rattle.interleaving_core.proofs.Places.{sum_zero, terms_le}
use Rattle.interleaving_core.proofs.Holder.{seats_now}
use Rattle.word_rule.specs.Layout.{is_held, cell_of, core_of, programme_count}
use Rattle.word_rule.specs.Views.{SeatKnows, SeatMe, with_core, other_view, core_views}
use Rattle.word_rule.specs.Rule.{IsLive, IsSoundTable, HasReadFull, share_of, table_core}
use Rattle.word_rule.specs.Holder.{posted_place, tried, TellsTake, look_by, TellsLook, weigh_by, TellsWeigh, seat_by, TellsSeat, raise_by, TellsRaise, having_sealed, seal_by, TellsSeal, released_with, TellsRelease}
use Rattle.word_rule.specs.declared.rule.RoundKey.{RoundKey}
use Rattle.word_rule.proofs.CoreViews.{live_there, place, at_place, whose}
use Rattle.word_rule.proofs.Layouts.{shows_committed, or_one, reads_seats, reads_cell, writes_mark, writes_seats, writes_cell, reads_flags, writes_flags}
use Rattle.word_rule.proofs.Keeps.{IsSameSeat, same_with, seat_fits, seats_in, event_step, write_step, load_step}

tried_core : (x : SeatKnows) (b : Bool) (n : ℕ) → (tried x b n).core ≡ after_take x.core b n
tried_core x true n = refl
tried_core x false n = refl

tried_released : (x : SeatKnows) (b : Bool) (n : ℕ) → (tried x b n).released ≡ x.released
tried_released x true n = refl
tried_released x false n = refl

tried_sealed : (x : SeatKnows) (b : Bool) (n : ℕ) → (tried x b n).sealed ≡ x.sealed
tried_sealed x true n = refl
tried_sealed x false n = refl

-- a try reads no flags
tried_reads : (d : Dictatorship) (seats : List ℕ) (x : SeatKnows) (b : Bool) (n : ℕ)
    → HasReadFull d seats x → HasReadFull d seats (tried x b n)
tried_reads d seats x true n f = f
tried_reads d seats x false n f = f

-- who stands for others is done, before and after
done_too : (x : SeatKnows) → (1 < x.share → x.core.done ≡ true) → 1 < x.share
    → (x.core.done ≡ true) × (x.core.done ≡ true)
done_too x alone more = (alone more, alone more)

tried_same : (x : SeatKnows) (b : Bool) (n : ℕ) → (1 < x.share → x.core.done ≡ true)
    → IsSameSeat x (tried x b n)
tried_same x true n a =
    record { number = refl; share = refl; dict = refl; workers = refl; alone = done_too x a }
tried_same x false n a =
    record { number = refl; share = refl; dict = refl; workers = refl; alone = done_too x a }

released_same : (x : SeatKnows) (n : ℕ) → (1 < x.share → x.core.done ≡ true)
    → IsSameSeat x (released_with x n)
released_same x n a =
    record { number = refl; share = refl; dict = refl; workers = refl; alone = done_too x a }

sealed_same : (x : SeatKnows) (k n : ℕ) → (1 < x.share → x.core.done ≡ true)
    → IsSameSeat x (having_sealed x k n)
sealed_same x k n a =
    record { number = refl; share = refl; dict = refl; workers = refl; alone = done_too x a }

bit_zero : (b : Bool) → bit b ≡ 0 → b ≡ false
bit_zero true e = absurd (omega arith)
bit_zero false e = refl

others_free : (b : Bool) → (other_view b).hold ≡ None
others_free true = refl
others_free false = refl

others_unclaimed : (b : Bool) → (other_view b).claim ≡ None
others_unclaimed true = refl
others_unclaimed false = refl

is_posted : (c : Cell) → empty_bit c ≡ 0 → is_committed c ≡ false → IsSome (posted_place c)
is_posted Empty e f = absurd (omega arith)
is_posted (Posted j) e f = refl
is_posted (Committed j) e f = absurd (cc (f))

module _ (key : RoundKey) where
  abbrev d : Dictatorship
  d = key.dict.value

  abbrev Table : Type 0
  Table = State ℕ SeatKnows

  -- each view of the core is of a seat with every share: its own, or another that it stands for
  all_mine : (s : Table) (h : IsSoundTable key s) (id : ℕ) (x : SeatKnows) → IsLive s.views id x
      → x.share ≡ key.workers → (j : ℕ) (v : View) → slice_get (core_views s.views) j ≡ Some v
      → (v ≡ x.core) ⊎ (v ≡ other_view x.core.done)
  all_mine s h id x live every j v in_core =
      let w = whose s.views j v in_core in
      dite (ℕ_discrete w.at id)
      (λ here.
      let same : x ≡ w.seat = let p = live.there in let q = w.live.there in let r =
      ap (slice_get s.views) here in cc (p, q, r) in
      ⊎_elim
      (λ (own : v ≡ w.seat.core). inl (own ∙ ap (λ (z : SeatKnows). z.core) (sym same)))
      (λ (other : (1 < w.seat.share) × (v ≡ other_view w.seat.core.done)).
      inr (other.1 ∙ ap (λ (z : SeatKnows). other_view z.core.done) (sym same)))
      w.which)
      (λ apart.
      absurd
      (let t = terms_le share_of s.views id w.at x w.seat apart live.there w.live.there in
      let all = h.shares in
      let l = w.live.live in
      omega arith))

  -- so it finds the mark free where it does not hold it
  pub free_with_all : (s : Table) (h : IsSoundTable key s) (id : ℕ) (x : SeatKnows)
      → IsLive s.views id x
      → x.share ≡ key.workers → x.core.hold ≡ None → is_held (get_or s.words 1 0) ≡ false
  free_with_all s h id x live every hold =
      bit_zero (is_held (get_or s.words 1 0))
      (sym h.sound.mark.holders
      ∙ sum_zero hold_bit (core_views s.views) (λ j v e.
      ⊎_elim
      (λ (own : v ≡ x.core). ap hold_bit own ∙ ap some_bit hold)
      (λ (other : v ≡ other_view x.core.done). ap hold_bit other
      ∙ ap some_bit (others_free x.core.done))
      (all_mine s h id x live every j v e)))

  -- and once it is done, each turn is posted that is not committed
  posted_with_all : (s : Table) (h : IsSoundTable key s) (id : ℕ) (x : SeatKnows)
      → IsLive s.views id x
      → x.share ≡ key.workers → x.core.done ≡ true → (k : ℕ) → k < turn_count d → h.sound.count ≤ k
      → IsSome (posted_place (cell_at (table_core key s) k))
  posted_with_all s h id x live every done k inside left =
      let fit = seat_fits key s h id x live in
      let past = fit.past done in
      let none = sum_zero (claim_bit k) (core_views s.views) (λ j v e.
      ⊎_elim
      (λ (own : v ≡ x.core). ap (claim_bit k) own ∙ ap (turn_bit k) (fit.one.leaver done).0)
      (λ (other : v ≡ other_view x.core.done).
      ap (claim_bit k) other ∙ ap (turn_bit k) (others_unclaimed x.core.done))
      (all_mine s h id x live every j v e)) in
      is_posted (cell_at (table_core key s) k)
      (sym (h.sound.claims.claimed k inside (omega arith)) ∙ none) (h.sound.cells.above k left)

  -- a try on the mark
  pub take_allowed : (slots id : ℕ) (me : SeatMe) → 0 < me.0.share
      → (1 < me.0.share → me.0.core.done ≡ true) → IsAllowed d me.0.core Takes
      → Allows (IsSoundTable key) slots id me 1 (λ n. bit_or n 1) (TellsTake 1 me)
  take_allowed slots id me some alone may s h homes at fits =
      let x = me.0 in
      let live = live_there s.views id x at some in
      let found = get_or s.words 1 0 in
      let b = is_held found in
      let y = tried x b (found / 2) in
      let same = tried_same x b (found / 2) alone in
      let word = bit_or found 1 in
      let one = or_one found in
      let wide = h.wide in
      let views = set (core_views s.views) (place s.views id) y.core in
      let leads : core_of d (set s.words 1 word) views ≡ after d (table_core key s)
      (place s.views id) x.core Takes =
      writes_mark d s.words views word (omega arith)
      ∙ (λ k. record (table_core key s) {
        mark_held = one.1 k;
        mark_number = one.0 k;
        views = set (core_views s.views) (place s.views id) (tried_core x b (found / 2) k);
      }) in
      let number : get_or (set s.words 1 word) 1 0 / 2 ≡ found / 2 =
      ap (λ (z : ℕ). z / 2) (get_or-set_same s.words 1 word 0 (omega arith)) ∙ one.0 in
      let mine = h.each id x live in
      let told = mine.behind in
      let released = tried_released x b (found / 2) in
      let sealed = tried_sealed x b (found / 2) in
      let step = event_step key s h id me y 1 (set s.words 1 word) Takes live same may refl
      (length-set s.words 1 word) leads (omega arith) (omega arith) (omega arith)
      (tried_reads d (seats_in key (set s.words 1 word)) x b (found / 2)) in
      let dict = ap (λ (z : Dictatorship). turn_count z) mine.dict in
      let behind = h.sound.mark.behind in
      let within = h.sound.mark.within in (
        y,
        keeps,
        tt,
        step.kept,
        record {
          before = step.before;
          seat = refl;
          range = step.range;
          within = omega arith;
          free = λ every. free_with_all s h id x live (every ∙ mine.workers) may.1;
        },
      )

  -- a look at the first uncommitted turn's cell
  pub look_allowed : (slots id : ℕ) (me : SeatMe) (i k : ℕ) → 0 < me.0.share
      → (1 < me.0.share → me.0.core.done ≡ true) → IsAllowed d me.0.core (Looks k)
      → i ≡ 2 + programme_count d + k → Allows (IsSoundTable key) slots id me i (λ n. n)
      (TellsLook i me)
  look_allowed slots id me i k some alone may is s h homes at fits =
      let x = me.0 in
      let live = live_there s.views id x at some in
      let found = get_or s.words i 0 in
      let v = look_by x.core x.core.hold found in
      let seen_view : Cell → View = λ c. with_hold x.core (hold_at k (phase_after_look c)) in
      let by : v ≡ seen_view (cell_of found) = ap (λ o. look_by x.core o found) may.0 in
      let y = with_core x v in
      let same = same_with x v (ap (λ (u : View). u.done) by) alone in
      let seen = reads_cell d s.words (core_views s.views) i k is may.1 in
      let step = load_step key s h id i me y (Looks k) live same may (by ∙ ap seen_view (sym seen))
      refl is (omega arith) refl (λ f. f) in
      let mine = h.each id x live in
      let count = ((seat_fits key s h id x live).hold _ may.0).committed in (
        y,
        keeps,
        tt,
        step.kept,
        record {
          before = step.before;
          seat = refl;
          range = step.range;
          uncommitted = ap is_committed (sym seen) ∙ h.sound.cells.above k (omega arith);
          posted = λ every done.
              subst (λ (c : Cell). IsSome (posted_place c)) seen
              (posted_with_all s h id x live (every ∙ mine.workers) done k may.1 (omega arith));
        },
      )

  -- a weighing of the entry at the holder's place
  pub weigh_allowed : (slots id : ℕ) (me : SeatMe) (i k j : ℕ) → 0 < me.0.share
      → (1 < me.0.share → me.0.core.done ≡ true) → IsAllowed d me.0.core (Weighs k j)
      → i ≡ 2 + entry d k j
      → Allows (IsSoundTable key) slots id me i (λ n. n) (TellsWeigh i me)
  weigh_allowed slots id me i k j some alone may is s h homes at fits =
      let x = me.0 in
      let live = live_there s.views id x at some in
      let found = get_or s.words i 0 in
      let p = entry d k j in
      let v = weigh_by x.dict x.core x.core.hold found in
      let seen_view : ℕ → View = λ n. with_hold x.core
      (hold_at k (phase_after_weigh (nat_lt n (quota_of d p)) j)) in
      let mine = h.each id x live in
      let by : v ≡ seen_view found = (λ z. weigh_by (mine.dict z) x.core (may.0 z) found) in
      let y = with_core x v in
      let same = same_with x v (ap (λ (u : View). u.done) by) alone in
      let turn = ((seat_fits key s h id x live).hold _ may.0).phase.0.0 in
      let inside : p < programme_count d = h.valid.list_entries k j turn may.1 in
      let seen = sym (reads_seats d s.words (core_views s.views) i p is inside) in
      let step = load_step key s h id i me y (Weighs k j) live same may (by ∙ ap seen_view seen)
      refl is (omega arith) refl (λ f. f) in
      (y, keeps, tt, step.kept, record { before = step.before; seat = refl; range = step.range })

  -- a seat taken of the entry at the holder's place
  pub seat_allowed : (slots id : ℕ) (me : SeatMe) (i k j : ℕ) → 0 < me.0.share
      → (1 < me.0.share → me.0.core.done ≡ true) → IsAllowed d me.0.core (Seats k j)
      → i ≡ 2 + entry d k j
      → Allows (IsSoundTable key) slots id me i (λ n. (n + 1) % 2 ^ 64) (TellsSeat i me)
  seat_allowed slots id me i k j some alone may is s h homes at fits =
      let x = me.0 in
      let live = live_there s.views id x at some in
      let found = get_or s.words i 0 in
      let p = entry d k j in
      let v = seat_by x.dict x.core x.core.hold found in
      let seen_view : ℕ → View = λ n. with_hold x.core
      (hold_at k (Seated j (nat_le (quota_of d p) (n + 1)))) in
      let mine = h.each id x live in
      let by : v ≡ seen_view found = (λ z. seat_by (mine.dict z) x.core (may z) found) in
      let y = with_core x v in
      let same = same_with x v (ap (λ (u : View). u.done) by) alone in
      let fit = seat_fits key s h id x live in
      let phase = (fit.hold _ may).phase in
      let inside : p < programme_count d = h.valid.list_entries k j phase.0.0 phase.1 in
      let seen = sym (reads_seats d s.words (core_views s.views) i p is inside) in
      let now = seats_now d (table_core key s) h.sound (place s.views id) x.core
      (at_place s.views id x live) _ may (λ q. refl) p inside in
      let most = seats_taken-le-quota d p (h.valid.filled p inside) k in
      let quota = h.valid.quotas p inside in
      let next = (found + 1) % 2 ^ 64 in
      let up : next ≡ found + 1 = mod-eq_of_lt (let l : found + 1 < 2 ^ 64 = omega arith in l) in
      let count : next ≡ seats_of (table_core key s) p + 1 = up ∙ ap (λ (z : ℕ). z + 1) seen in
      let views = set (core_views s.views) (place s.views id) v in
      let leads : core_of d (set s.words i next) views ≡ after d (table_core key s)
      (place s.views id) x.core (Seats k j) =
      writes_seats d s.words views i p next is inside
      ∙ (λ z. record (table_core key s) {
        seats = set (table_core key s).seats p (count z);
        views = set (core_views s.views) (place s.views id) ((by ∙ ap seen_view seen) z);
      }) in
      let step = write_step key s h id me y i next (Seats k j) (λ e. omega arith) live same may is
      leads (omega arith) refl refl in (
        y,
        keeps,
        tt,
        step.kept,
        record { before = step.before; seat = refl; range = step.range; small = omega arith },
      )

  -- the flag raised of the programme that the holder has just filled
  pub raise_allowed : (slots id : ℕ) (me : SeatMe) (i k j mask : ℕ) → 0 < me.0.share
      → (1 < me.0.share → me.0.core.done ≡ true) → IsAllowed d me.0.core (Raises k j)
      → i ≡ 2 + programme_count d + turn_count d + flag_group (entry d k j)
      → mask ≡ 2 ^ flag_bit (entry d k j)
      → Allows (IsSoundTable key) slots id me i (λ n. bit_or n mask) (λ _. TellsRaise i me)
  raise_allowed slots id me i k j mask some alone may is bit_is s h homes at fits =
      let x = me.0 in
      let live = live_there s.views id x at some in
      let found = get_or s.words i 0 in
      let p = entry d k j in
      let group = flag_group p in
      let v = raise_by x.core x.core.hold in
      let by : v ≡ with_hold x.core (hold_at k (Raised j)) = ap (raise_by x.core) may in
      let y = with_core x v in
      let same = same_with x v (ap (λ (u : View). u.done) by) alone in
      let word = bit_or found mask in
      let seen : found ≡ get_or (table_core key s).flags group 0 =
      sym (reads_flags d s.words (core_views s.views) i group is) in
      let raised : word ≡ with_flag (get_or (table_core key s).flags group 0) p =
      (λ z. bit_or (seen z) (bit_is z)) in
      let views = set (core_views s.views) (place s.views id) v in
      let leads : core_of d (set s.words i word) views ≡ after d (table_core key s)
      (place s.views id) x.core (Raises k j) =
      writes_flags d s.words views i group word is
      ∙ (λ z. record (table_core key s) {
        flags = set (table_core key s).flags group (raised z);
        views = set (core_views s.views) (place s.views id) (by z);
      }) in
      let step = write_step key s h id me y i word (Raises k j) (λ e. omega arith) live same may is
      leads (omega arith) refl refl in
      (y, keeps, tt, step.kept, record { before = step.before; seat = refl; range = step.range })

  -- a commit of the holder's turn at its place
  pub seal_allowed : (slots id : ℕ) (me : SeatMe) (i k j word : ℕ) (phase : Phase) → 0 < me.0.share
      → (1 < me.0.share → me.0.core.done ≡ true) → IsAllowed d me.0.core (Seals k j phase)
      → k < turn_count d → i ≡ 2 + programme_count d + k → word ≡ 2 * j + 2
      → Allows (IsSoundTable key) slots id me i (λ _. word) (λ _. TellsSeal i me)
  seal_allowed slots id me i k j word phase some alone may inside is shows s h homes at fits =
      let x = me.0 in
      let live = live_there s.views id x at some in
      let y = seal_by x x.core.hold in
      let by : y ≡ having_sealed x k 1 = ap (seal_by x) may.0 in
      let same : IsSameSeat x y = subst (IsSameSeat x) (sym by) (sealed_same x k 1 alone) in
      let shown : cell_of word ≡ Committed j = ap cell_of shows ∙ shows_committed j in
      let views = set (core_views s.views) (place s.views id) y.core in
      let leads : core_of d (set s.words i word) views ≡ after d (table_core key s)
      (place s.views id) x.core (Seals k j phase) =
      writes_cell d s.words views i k word (Committed j) is inside shown
      ∙ ap (λ (u : View). record (table_core key s) {
        cells = set (table_core key s).cells k (Committed j);
        views = set (core_views s.views) (place s.views id) u;
      }) (ap (λ (u : SeatKnows). u.core) by) in
      let step = write_step key s h id me y i word (Seals k j phase) (λ e. omega arith) live same
      may is leads (ap (λ (u : SeatKnows). u.sealed) by) (ap (λ (u : SeatKnows). u.released) by)
      (ap (λ (u : SeatKnows). u.flags) by) in
      (y, keeps, tt, step.kept, record { before = step.before; seat = refl; range = step.range })

  -- a release with the number of committed turns
  pub release_allowed : (slots id : ℕ) (me : SeatMe) (k word : ℕ) (phase : Phase) → 0 < me.0.share
      → (1 < me.0.share → me.0.core.done ≡ true) → IsAllowed d me.0.core (Releases k phase)
      → word ≡ 2 * k
      → Allows (IsSoundTable key) slots id me 1 (λ _. word) (λ _. TellsRelease 1 me word)
  release_allowed slots id me k word phase some alone may shows s h homes at fits =
      let x = me.0 in
      let live = live_there s.views id x at some in
      let y = released_with x (word / 2) in
      let same = released_same x (word / 2) alone in
      let wide = h.wide in
      let half : word / 2 ≡ k = omega arith in
      let even : eqb (word % 2) 1 ≡ false = ne_eqb (word % 2) 1 (λ e. omega arith) in
      let views = set (core_views s.views) (place s.views id) y.core in
      let leads : core_of d (set s.words 1 word) views ≡ after d (table_core key s)
      (place s.views id) x.core (Releases k phase) =
      writes_mark d s.words views word (omega arith)
      ∙ (λ z. record (table_core key s) {
        mark_held = even z;
        mark_number = half z;
        views = views;
      }) in
      let mark : get_or (set s.words 1 word) 1 0 ≡ word = get_or-set_same s.words 1 word 0
      (omega arith) in
      let count = ((seat_fits key s h id x live).hold _ may.0).committed in
      let behind = h.sound.mark.behind in
      let step = event_step key s h id me y 1 (set s.words 1 word) (Releases k phase) live same may
      refl (length-set s.words 1 word) leads (omega arith) (omega arith) (omega arith) (λ f. f) in
      (y, keeps, tt, step.kept, record { before = step.before; seat = refl; range = step.range })
