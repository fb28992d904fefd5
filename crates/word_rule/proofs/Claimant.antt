-- A claimant's atomic steps keep the rule: a draw, a reading and a post are each their event.
use Rattle.std.proofs.Common.{◌≡◌, ℕ, zero, suc, ◌+◌, ◌*◌, ◌/◌, ◌%◌, ◌^◌, ◌<◌, ◌≤◌, Bool, true, false, List, [], ◌∷◌, ◌++◌, length, set, get_or, nat_lt, Option, Some, None, IsSome, sym, refl, ap, ⊎_elim, subst, ◌∙◌, arith}
use Rattle.std.specs.Prelude.{slice_get}
use Rattle.std.specs.List.{sum_by}
use Rattle.std.proofs.lemmas.List.Sums.{sum_by-cons}
use Rattle.std.proofs.Math.Nat.{mod-eq_of_lt}
use Rattle.atomic_table.specs.Table.{keeps, Allows}
use Rattle.market.specs.Dictatorships.{Dictatorship}
use Rattle.interleaving_core.specs.declared.parts.Cell.TheVariants.{Posted}
use Rattle.interleaving_core.specs.declared.parts.Claiming.{Claiming}
use Rattle.interleaving_core.specs.Flags.{flag_group, is_raised_in}
use Rattle.interleaving_core.specs.Core.{View, Core, turn_count, entry, quota_of}
use Rattle.interleaving_core.specs.Events.{Claims, ReadsFlags, Reads, Posts, IsAllowed, after_claim, after_flags, after_read, after_post, after}
use Rattle.interleaving_core.specs.Sound.{bit, done_bit, AreSoundOwnTurns}
use Rattle.interleaving_core.proofs.Places.{at_snoc}
use Rattle.interleaving_core.proofs.ClaimantKeeps.{raised_inside, raised_full}
use Rattle.word_rule.specs.Layout.{cell_of, core_of, programme_count}
use Rattle.word_rule.specs.Views.{SeatKnows, SeatMe, with_core, other_view, shared_views, core_views}
use Rattle.word_rule.specs.Rule.{IsSoundTable, HasReadFull, share_of, table_core}
use Rattle.word_rule.specs.Claimant.{flags_by, read_by, AreEarlier, TellsClaim, TellsFlags, TellsRead, TellsPost}
use Rattle.word_rule.specs.declared.rule.RoundKey.{RoundKey}
use Rattle.word_rule.proofs.CoreViews.{live_there, place, weight, sum_views, shared_sum}
use Rattle.word_rule.proofs.Layouts.{shows_posted, reads_seats, reads_flags, writes_claim, writes_cell}
use Rattle.word_rule.proofs.Keeps.{IsSameSeat, same_seat, same_with, seat_in_range, seat_fits, seats_in, write_step, load_step}

-- no seat gives more done views than its share
few_ends : (n : ℕ) (v : View) → sum_by done_bit (shared_views n v) ≤ n
few_ends zero v = omega arith
few_ends (suc n) v =
    let a = shared_sum done_bit n v in
    let b = at_most_one v.done in
    let c = times_le n (other_view v.done).done in
    omega arith
  where
    at_most_one : (b : Bool) → bit b ≤ 1
    at_most_one true = omega arith
    at_most_one false = omega arith

    times_le : (n : ℕ) (b : Bool) → n * bit b ≤ n
    times_le n true = omega arith
    times_le n false = omega arith

-- so there are no more done views than workers
pub ends_le : (l : List SeatKnows) → sum_by done_bit (core_views l) ≤ sum_by share_of l
ends_le l = let e = sum_views done_bit l in omega (arith, each l)
  where
    each : (l : List SeatKnows) → sum_by (weight done_bit) l ≤ sum_by share_of l
    each [] = omega arith
    each (x ∷ xs) =
        let sums = sum_by-cons (weight done_bit) x xs in
        let shares = sum_by-cons share_of x xs in
        omega (arith, few_ends x.share x.core, each xs)

-- a seat that is not done stands for itself alone
pub one_share : (n : ℕ) (b : Bool) → 0 < n → (1 < n → b ≡ true) → b ≡ false → n ≡ 1
one_share zero b l h e = absurd (omega arith)
one_share (suc zero) b l h e = refl
one_share (suc (suc n)) b l h e = absurd (let t = h (omega arith) in cc)

-- own turns without a claim were all posted, and drawn before
earlier : (d : Dictatorship) (c : Core) (v : View) → v.claim ≡ None
    → AreSoundOwnTurns d c v.own v.claim
    → AreEarlier v.own c.claim_number
earlier d c v none f =
    record {
      below = λ i x at. (f.each i x at).1;
      placed = λ i x at.
          ⊎_elim
          (λ p. absurd (let q = p.1.1 in cc (q, none)))
          (λ p. subst (λ (o : Option ℕ). IsSome o) (sym p.1) refl)
          (f.each i x at).2;
      rise = f.rise;
    }

-- a look at flags leaves the seat what it was but for its claim and what it has read
flags_same : (x : SeatKnows) (o : Option Claiming) (found : ℕ)
    → (1 < x.share → x.core.done ≡ true) → IsSameSeat x (flags_by x o found)
flags_same x None found alone = same_with x x.core refl alone
flags_same x (Some c) found alone =
    record {
      number = refl;
      share = refl;
      dict = refl;
      workers = refl;
      alone = λ more. (alone more, alone more);
    }

flags_released : (x : SeatKnows) (o : Option Claiming) (found : ℕ)
    → (flags_by x o found).released ≡ x.released
flags_released x None found = refl
flags_released x (Some c) found = refl

flags_sealed : (x : SeatKnows) (o : Option Claiming) (found : ℕ)
    → (flags_by x o found).sealed ≡ x.sealed
flags_sealed x None found = refl
flags_sealed x (Some c) found = refl

-- one word of flags more, whose raised flags are those of full programmes
read_one_more : (d : Dictatorship) (seats : List ℕ) (x : SeatKnows) (flags : List (ℕ × ℕ))
    (word : ℕ × ℕ)
    → ((p : ℕ) → flag_group p ≡ word.0 → is_raised_in word.1 p ≡ true
    → (p < length d.quota) × (quota_of d p ≤ get_or seats p 0))
    → HasReadFull d seats x → flags ≡ x.flags ++ word ∷ []
    → HasReadFull d seats record x { flags = flags }
read_one_more d seats x flags word new old is n other at p group raised =
    ⊎_elim
    (λ (t : slice_get x.flags n ≡ Some other). old n other t p group raised)
    (λ (t : (n ≡ length x.flags) × (word ≡ other)).
    new p (group ∙ ap (λ (w : ℕ × ℕ). w.0) (sym t.1))
    (subst (λ (w : ℕ × ℕ). is_raised_in w.1 p ≡ true) (sym t.1) raised))
    (at_snoc x.flags word other n (ap (λ (f : List (ℕ × ℕ)). slice_get f n) (sym is) ∙ at))

read_done : (b : Bool) (v : View) (k j : ℕ) → (after_read b v k j).done ≡ v.done
read_done true v k j = refl
read_done false v k j = refl

module _ (key : RoundKey) where
  abbrev d : Dictatorship
  d = key.dict.value

  -- a seat's claim of a turn of the round, by the round's own dictatorship
  pub claim_allowed : (slots id : ℕ) (me : SeatMe) → me.0.share ≡ 1
      → IsAllowed me.0.dict me.0.core Claims
      → Allows (IsSoundTable key) slots id me 0 (λ n. (n + 1) % 2 ^ 64) (TellsClaim 0 me)
  claim_allowed slots id me one may s h homes at fits =
      let x = me.0 in
      let live = live_there s.views id x at (omega arith) in
      let n = get_or s.words 0 0 in
      let b = h.each id x live in
      let y = with_core x (after_claim x.dict x.core n) in
      let same = same_seat x y.core (λ more. absurd (omega arith)) in
      let done = ends_le s.views in
      let few = h.sound.claims.few in
      let shares = h.shares in
      let team = h.team in
      let turns = h.valid.turns in
      let wide = h.wide in
      let next = (n + 1) % 2 ^ 64 in
      let up : next ≡ n + 1 = mod-eq_of_lt (let l : n + 1 < 2 ^ 64 = omega arith in l) in
      let at_place = place s.views id in
      let views = set (core_views s.views) at_place y.core in
      let is : core_of d (set s.words 0 next) views
      ≡ after d (table_core key s) at_place x.core Claims =
      writes_claim d s.words views next (omega arith)
      ∙ (λ k. record (table_core key s) {
        claim_number = up k;
        views = set (core_views s.views) at_place (after_claim (b.dict k) x.core n);
      }) in
      let fit = seat_fits key s h id x live in
      let step = write_step key s h id me y 0 next Claims (λ e. omega arith) live same may refl is
      (omega arith) refl refl in (
        y,
        keeps,
        tt,
        step.kept,
        record {
          before = step.before;
          seat = refl;
          range = step.range;
          earlier = earlier d (table_core key s) x.core may.0 fit.own;
        },
      )

  -- a reading of the next entry's seat word
  pub read_allowed : (slots id : ℕ) (me : SeatMe) (i k j : ℕ) → 0 < me.0.share
      → (1 < me.0.share → me.0.core.done ≡ true) → me.0.dict ≡ d → IsAllowed d me.0.core (Reads k j)
      → i ≡ 2 + entry d k j → Allows (IsSoundTable key) slots id me i (λ n. n) (TellsRead i me)
  read_allowed slots id me i k j some alone round may is s h homes at fits =
      let x = me.0 in
      let live = live_there s.views id x at some in
      let found = get_or s.words i 0 in
      let p = entry d k j in
      let seen_view : ℕ → View = λ n. after_read (nat_lt n (quota_of d p)) x.core k j in
      let y = with_core x (read_by x.dict x.core x.core.claim found) in
      let by : y.core ≡ seen_view found =
      (λ z. read_by (round z) x.core (may.0 z) found) in
      let done : y.core.done ≡ x.core.done =
      ap (λ (v : View). v.done) by ∙ read_done (nat_lt found (quota_of d p)) x.core k j in
      let same = same_with x y.core done alone in
      let drawn = (seat_in_range key s h id x live).claimed k j true false may.0 in
      let turns = ap (λ (z : Dictatorship). turn_count z) round in
      let inside : p < programme_count d =
      h.valid.list_entries k j (omega arith) may.1 in
      let seen = sym (reads_seats d s.words (core_views s.views) i p is inside) in
      let step = load_step key s h id i me y (Reads k j) live same may (by ∙ ap seen_view seen) refl
      is (omega arith) refl (λ f. f) in
      (y, keeps, tt, step.kept, record { before = step.before; seat = refl; range = step.range })

  -- a look at the word that has the flag of the next entry
  pub flags_allowed : (slots id : ℕ) (me : SeatMe) (i k j : ℕ) → 0 < me.0.share
      → (1 < me.0.share → me.0.core.done ≡ true) → me.0.dict ≡ d
      → IsAllowed d me.0.core (ReadsFlags k j)
      → i ≡ 2 + programme_count d + turn_count d + flag_group (entry d k j)
      → Allows (IsSoundTable key) slots id me i (λ n. n) (TellsFlags i me)
  flags_allowed slots id me i k j some alone round may is s h homes at fits =
      let x = me.0 in
      let live = live_there s.views id x at some in
      let found = get_or s.words i 0 in
      let group = flag_group (entry d k j) in
      let y = flags_by x x.core.claim found in
      let seen_view : ℕ → View = λ n. after_flags d x.core k j n in
      let by : y.core ≡ seen_view found =
      (λ z. (flags_by record x { dict = round z } (may.0 z) found).core) in
      let same = flags_same x x.core.claim found alone in
      let seen : found ≡ get_or (table_core key s).flags group 0 =
      sym (reads_flags d s.words (core_views s.views) i group is) in
      let flags : y.flags ≡ x.flags ++ (group, found) ∷ [] =
      (λ z. (flags_by record x { dict = round z } (may.0 z) found).flags) in
      let reads : HasReadFull d (seats_in key s.words) x → HasReadFull d (seats_in key s.words) y =
      λ old.
      read_one_more d (seats_in key s.words) x y.flags (group, found)
      (λ p its raised.
      let up = subst (λ (w : ℕ). is_raised_in w p ≡ true)
      (seen ∙ ap (λ (g : ℕ). get_or (table_core key s).flags g 0) (sym its)) raised in
      let inside = raised_inside d (table_core key s) h.sound p up in
      (inside, raised_full d (table_core key s) h.sound p inside up))
      old flags in
      let sealed = flags_sealed x x.core.claim found in
      let step = load_step key s h id i me y (ReadsFlags k j) live same may
      (by ∙ ap seen_view seen) refl is (omega arith) (flags_released x x.core.claim found) reads in
      (y, keeps, tt, step.kept, record { before = step.before; seat = refl; range = step.range })

  -- a post of the place found to the turn's cell
  pub post_allowed : (slots id : ℕ) (me : SeatMe) (i k j word : ℕ) (looked met : Bool)
      → 0 < me.0.share
      → (1 < me.0.share → me.0.core.done ≡ true) → IsAllowed d me.0.core (Posts k j looked met)
      → i ≡ 2 + programme_count d + k → word ≡ 2 * j + 1
      → Allows (IsSoundTable key) slots id me i (λ _. word) (λ _. TellsPost i me word)
  post_allowed slots id me i k j word looked met some alone may is shows s h homes at fits =
      let x = me.0 in
      let live = live_there s.views id x at some in
      let y = with_core x (after_post x.core (word / 2)) in
      let same = same_with x y.core refl alone in
      let half : word / 2 ≡ j = omega arith in
      let fit = seat_fits key s h id x live in
      let shown : cell_of word ≡ Posted j = ap cell_of shows ∙ shows_posted j in
      let at_place = place s.views id in
      let views = set (core_views s.views) at_place y.core in
      let leads : core_of d (set s.words i word) views
      ≡ after d (table_core key s) at_place x.core (Posts k j looked met) =
      writes_cell d s.words views i k word (Posted j) is (fit.claim _ may.0).turn shown
      ∙ ap (λ (z : ℕ). record (table_core key s) {
        cells = set (table_core key s).cells k (Posted j);
        views = set (core_views s.views) at_place (after_post x.core z);
      }) half in
      let step = write_step key s h id me y i word (Posts k j looked met) (λ e. omega arith) live
      same may is leads (omega arith) refl refl in
      (y, keeps, tt, step.kept, record { before = step.before; seat = refl; range = step.range })
