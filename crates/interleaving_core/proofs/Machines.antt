-- A machine that makes an event. The worker that makes it is the only one to change, so the state
-- after it is the event's, and the machine stays sound, with room for every turn.
use Rattle.std.proofs.Common.{◌≡◌, ℕ, suc, ◌+◌, ◌<◌, ◌≤◌, Bool, true, false, List, [], ◌∷◌, ◌++◌, Option, Some, None, Result, Ok, Err, length, length-append, eqb, map, set, get_or, replicate, ⊎_elim, refl, sym, ap, ◌∙◌, subst, arith, vec_capacity, length-set}
use Rattle.std.specs.Prelude.{slice_get, option_map}
use Rattle.std.specs.Result.{IsErr}
use Rattle.std.specs.Vec.{vec_len}
use Rattle.std.proofs.lemmas.List.{map-set, length-map, map-append, length-replicate, replicate_more}
use Rattle.std.proofs.lemmas.List.Sums.{sum_by-le}
use Rattle.std.proofs.lemmas.Option.{slice_get_read, slice_get-map, get_or_from_slice_get}
use Rattle.market.specs.Dictatorships.{Dictatorship, IsValidDictatorship, list_at}
use Rattle.market.proofs.Turns.{seats_taken-le-quota}
use Rattle.interleaving_core.specs.declared.limits.TheConstants.{MAX_WORKERS}
use Rattle.interleaving_core.specs.declared.parts.Claiming.{Claiming}
use Rattle.interleaving_core.specs.declared.parts.OwnTurn.{OwnTurn}
use Rattle.interleaving_core.specs.declared.parts.Phase.{Phase}
use Rattle.interleaving_core.specs.declared.parts.Phase.TheVariants.{Idle, Halted, Scan, Ready, Seated, Raised}
use Rattle.interleaving_core.specs.declared.parts.Holding.{Holding}
use Rattle.interleaving_core.specs.declared.events.CoreEvent.{CoreEvent}
use Rattle.interleaving_core.specs.declared.events.NotNow.{NotNow}
use Rattle.interleaving_core.specs.declared.events.Told.{Told}
use Rattle.interleaving_core.specs.declared.team.Worker.{Worker}
use Rattle.interleaving_core.specs.declared.state.CoreState.TheInside.{Inside}
use Rattle.interleaving_core.specs.Flags.{flag_group}
use Rattle.interleaving_core.specs.Core.{View, Core, Machine, fresh_view, opening, turn_count, entry, hold_at}
use Rattle.interleaving_core.specs.Events.{Action, event_of, Seals, CanSeal, IsAllowed, Refuses, view_after, words_after, after, told_by}
use Rattle.interleaving_core.specs.Runs.{IsStep, IsNotNow, Answers}
use Rattle.interleaving_core.specs.Sound.{bit, done_bit, phase_seat_bit, holder_seat_bit, seat_bit, IsSoundPhase, IsSoundView, IsSound}
use Rattle.interleaving_core.specs.Machines.{view_of, machine_of, IsKept, IsTeam, IsWithin}
use Rattle.interleaving_core.proofs.Places.{each_set, at_snoc}
use Rattle.interleaving_core.proofs.Keeps.{keeps, begins}

-- the worker read at a place
pub reads_worker : (ws : List Worker) (i : ℕ) (w : Worker) → i < length (map view_of ws)
    → w ≡ get_or ws i w
    → slice_get ws i ≡ Some w
reads_worker ws i w l at =
    slice_get_read ws (length ws) i w refl (omega (arith, length-map ws view_of)) at

-- the same place read twice
pub same_worker : (ws : List Worker) (i : ℕ) (w u : Worker) → slice_get ws i ≡ Some w
    → slice_get ws i ≡ Some u
    → w ≡ u
same_worker ws i w u a b = cc (a, b)

views_at : (ws : List Worker) (i : ℕ) (w : Worker) → slice_get ws i ≡ Some w
    → slice_get (map view_of ws) i ≡ Some (view_of w)
views_at ws i w at = slice_get-map view_of ws i ∙ ap (λ o. option_map view_of o) at

-- the worker i, which is w, may act so
pub record MayAct (s : Inside) (i : ℕ) (w : Worker) (a : Action) : Type 0 where
  pub kept : IsKept s
  pub there : slice_get s.workers.items i ≡ Some w
  pub ok : IsAllowed s.dict (view_of w) a

-- the same, where the worker was read once for the condition and once for the effect
pub allowed : (s : Inside) (now : Machine) (i : ℕ) (w u : Worker) (a : Action) → IsKept s
    → machine_of s ≡ now
    → i < length now.core.views → w ≡ get_or s.workers.items i w → u ≡ get_or s.workers.items i u
    → IsAllowed s.dict (view_of w) a → MayAct s i u a
allowed s now i w u a k is l e f ok =
    let here : i < length (map view_of s.workers.items) =
    subst (λ (m : Machine). i < length m.core.views) (sym is) l in
    let first = reads_worker s.workers.items i w here e in
    let again = reads_worker s.workers.items i u here f in
    record {
      kept = k;
      there = again;
      ok = subst (λ (x : Worker). IsAllowed s.dict (view_of x) a)
          (same_worker s.workers.items i w u first again) ok;
    }

-- what an action leads to: the machine t, which is kept, by a step that tells this
pub record Acted (s t : Inside) (i : ℕ) (event : CoreEvent) (told : Told) : Type 0 where
  pub kept : IsKept t
  pub step : (now : Machine) → machine_of s ≡ now
      → (t.dict ≡ now.dict) × IsStep now.dict now.core i event told (machine_of t).core

-- the worker i makes the action: its view and the words become those after it
pub acted : (s t : Inside) (i : ℕ) (w u : Worker) (a : Action) (told : Told) → MayAct s i w a
    → told ≡ told_by s.dict (machine_of s).core a
    → view_of u ≡ view_after s.dict (machine_of s).core (view_of w) a
    → vec_capacity u.own ≡ vec_capacity w.own → t.dict ≡ s.dict
    → t.workers.items ≡ set s.workers.items i u
    → (machine_of t).core ≡ record (words_after s.dict (machine_of s).core a) {
      views = map view_of t.workers.items;
    }
    → Acted s t i (event_of a) told
acted s t i w u a told x tells is room dict workers core =
    let c : Core = (machine_of s).core in
    let ws = s.workers.items in
    let e : Core = after s.dict c i (view_of w) a in
    let views : map view_of t.workers.items ≡ e.views =
    ap (map view_of) workers ∙ map-set view_of ws i u
    ∙ ap (λ (v : View). set (map view_of ws) i v) is in
    let next : (machine_of t).core ≡ e =
    core ∙ ap (λ (l : List View). record (words_after s.dict c a) { views = l }) views in
    let whose = views_at ws i w x.there in
    let sound = keeps s.dict c i (view_of w) a x.kept.valid x.kept.sound whose x.ok in
    record {
      kept =
          record {
            valid = subst IsValidDictatorship (sym dict) x.kept.valid;
            sound =
                subst (λ (d : Dictatorship). IsSound d (machine_of t).core) (sym dict)
                (subst (IsSound s.dict) (sym next) sound);
            few =
                let few = x.kept.few in
                let same = ap (λ (l : List Worker). length l) workers in
                omega (arith, length-set ws i u);
            room = λ j y there.
                let turns = ap (λ (d : Dictatorship). turn_count d) dict in
                each_set (λ (y : Worker). turn_count t.dict ≤ vec_capacity y.own) ws i u
                (let r = x.kept.room i w x.there in omega arith)
                (λ k z other at. let r = x.kept.room k z at in omega arith) j y
                (ap (λ (l : List Worker). slice_get l j) (sym workers) ∙ there);
          };
      step = λ now now_is.
          subst
          (λ (m : Machine). (t.dict ≡ m.dict)
          × IsStep m.dict m.core i (event_of a) told (machine_of t).core)
          now_is (
            dict,
            record {
              view = view_of w;
              whose = whose;
              action = a;
              of_event = refl;
              allowed = x.ok;
              tells = tells;
              leads = next;
            },
          );
    }

bit_le : (b : Bool) → bit b ≤ 1
bit_le true = omega arith
bit_le false = omega arith

-- the claim number stays small: past the turns, each worker has drawn once at most
pub claims_small : (s : Inside) → IsKept s → s.claim_number ≤ 3500064
claims_small s k =
    let c : Core = (machine_of s).core in
    let sound = k.sound in
    let few = sound.claims.few in
    let turns = k.valid.turns in
    let workers = k.few in
    let all = sum_by-le done_bit 1 c.views (λ i d l. bit_le (get_or c.views i d).done) in
    let count = length-map s.workers.items view_of in
    omega arith

-- a list that rises strictly between two bounds is no longer than they are apart
rise_length : (own : List OwnTurn) (low high : ℕ) → low ≤ high
    → ((i : ℕ) (x : OwnTurn) → slice_get own i ≡ Some x → (low ≤ x.turn) × (x.turn < high))
    → ((i j : ℕ) (x y : OwnTurn) → slice_get own i ≡ Some x → slice_get own j ≡ Some y → i < j
    → x.turn < y.turn)
    → length own + low ≤ high
rise_length [] low high l each rise = omega arith
rise_length (x ∷ xs) low high l each rise =
    let first = each 0 x refl in
    let rest = rise_length xs (low + 1) high (omega arith)
    (λ i y at. let b = each (suc i) y at in let up = rise 0 (suc i) x y refl at (omega arith) in
    (omega arith, b.1))
    (λ i j y z a b up. rise (suc i) (suc j) y z a b (omega arith)) in
    omega arith

-- a worker that draws a turn has room for it
pub has_room : (s : Inside) (i : ℕ) (w : Worker) → IsKept s → slice_get s.workers.items i ≡ Some w
    → s.claim_number < turn_count s.dict → length w.own.items < vec_capacity w.own
has_room s i w k at new =
    let sound = k.sound in
    let own = (sound.views i (view_of w) (views_at s.workers.items i w at)).own in
    let room = k.room i w at in
    let short =
    rise_length w.own.items 0 s.claim_number (omega arith)
    (λ j x there. (omega arith, (own.each j x there).1)) own.rise in
    omega arith

-- what a worker may look up
pub within : (s : Inside) (now : Machine) (i : ℕ) (w : Worker) → IsKept s → machine_of s ≡ now
    → i < length now.core.views → w ≡ get_or s.workers.items i w → IsWithin s.dict (view_of w)
within s now i w k is l e =
    let here : i < length (map view_of s.workers.items) =
    subst (λ (m : Machine). i < length m.core.views) (sym is) l in
    let at = reads_worker s.workers.items i w here e in
    let sound = k.sound in
    let fits = sound.views i (view_of w) (views_at s.workers.items i w at) in
    record {
      valid = k.valid;
      claimed = λ x claim. (fits.claim x claim).turn;
      weighed = λ h j hold phase.
          (subst (IsSoundPhase s.dict (machine_of s).core h.committed) phase
          (fits.hold h hold).phase).0.0;
    }

-- what the state says of a worker's view
pub view_fits : (s : Inside) (i : ℕ) (w : Worker) → (k : IsKept s)
    → slice_get s.workers.items i ≡ Some w
    → IsSoundView s.dict (machine_of s).core (k.sound).count (view_of w)
view_fits s i w k at =
    let sound = k.sound in
    sound.views i (view_of w) (views_at s.workers.items i w at)

-- an event that the worker's view refuses is not allowed
pub refused : (s : Inside) (now : Machine) (i : ℕ) (w : Worker) (event : CoreEvent)
    → machine_of s ≡ now
    → i < length now.core.views → w ≡ get_or s.workers.items i w → Refuses s.dict (view_of w) event
    → IsNotNow now.dict now.core i event
refused s now i w event is l e refuses =
    let ws = s.workers.items in
    let here : i < length (map view_of ws) =
    subst (λ (m : Machine). i < length m.core.views) (sym is) l in
    let at = views_at ws i w (reads_worker ws i w here e) in
    subst (λ (m : Machine). IsNotNow m.dict m.core i event) is
    (λ v there.
    let same : view_of w ≡ v = cc (at, there) in
    subst (λ (x : View). Refuses s.dict x event) same refuses)

-- the answer to such an event is an error, and the machine stays
pub answers_refused : (s : Inside) (now : Machine) (i : ℕ) (w : Worker) (event : CoreEvent)
    (answer : Result Told NotNow) → IsErr answer → machine_of s ≡ now
    → i < length now.core.views → w ≡ get_or s.workers.items i w
    → Refuses s.dict (view_of w) event → Answers now i event now answer
answers_refused s now i w event (Ok told) err is l e refuses = absurd (cc err)
answers_refused s now i w event (Err reason) err is l e refuses =
    (refl, refused s now i w event is l e refuses)

-- a worker that claims a turn has it among its own
pub has_own : (s : Inside) (i : ℕ) (w : Worker) (x : Claiming) → IsKept s
    → slice_get s.workers.items i ≡ Some w
    → w.claim ≡ Some x → 0 < length w.own.items
has_own s i w x k at claim =
    let last = (view_fits s i w k at).own.last x claim in
    let long = ap (λ (l : List OwnTurn). length l) last.1
    ∙ length-append last.0 (record { turn = x.turn; place = None } ∷ []) in
    omega arith

-- a list is short
pub list_short : (d : Dictatorship) (k : ℕ) → IsValidDictatorship d → k < turn_count d
    → length (list_at d k) ≤ 48
list_short d k valid l = valid.list_lengths k l

-- the turn and the place for which a seat is taken
pub ready_within : (s : Inside) (i : ℕ) (w : Worker) (c j : ℕ) → IsKept s
    → slice_get s.workers.items i ≡ Some w
    → w.hold ≡ hold_at c (Ready j) → (c < turn_count s.dict) × (j < length (list_at s.dict c))
ready_within s i w c j k at hold =
    let fits = ((view_fits s i w k at).hold record { committed = c; phase = Ready j } hold).phase in
    (fits.0.0, fits.1)

-- the turn and the place whose programme's flag is raised
pub seated_within : (s : Inside) (i : ℕ) (w : Worker) (c j : ℕ) → IsKept s
    → slice_get s.workers.items i ≡ Some w
    → w.hold ≡ hold_at c (Seated j true) → (c < turn_count s.dict) × (j < length (list_at s.dict c))
seated_within s i w c j k at hold =
    let fits =
    ((view_fits s i w k at).hold record { committed = c; phase = Seated j true } hold).phase in
    (fits.0.0, fits.1)

-- the word of flags that has a programme's
pub flag_word_within : (s : Inside) (p : ℕ) → IsKept s → p < length s.dict.quota
    → flag_group p < length s.flags.items
flag_word_within s p k l =
    let sound = k.sound in
    let count = sound.flags.each_group in
    omega arith

-- such a word as it was read, of the programme q
pub flag_word_is : (s : Inside) (p q g n : ℕ) → IsKept s → p < length s.dict.quota
    → g ≡ flag_group p → p ≡ q → n ≡ get_or s.flags.items g n
    → n ≡ get_or s.flags.items (flag_group q) 0
flag_word_is s p q g n k l its is at =
    let here = at ∙ ap (λ (z : ℕ). get_or s.flags.items z n) its in
    let got = slice_get_read s.flags.items (length s.flags.items) (flag_group p) n refl
    (flag_word_within s p k l) here in
    sym (get_or_from_slice_get s.flags.items (flag_group p) n 0 got)
    ∙ ap (λ (z : ℕ). get_or s.flags.items (flag_group z) 0) is

-- a programme has its word of flags
pub flag_there : (s : Inside) (p g : ℕ) → IsKept s → p < length s.dict.quota → g ≡ flag_group p
    → g < vec_len s.flags
flag_there s p g k l e = let inside = flag_word_within s p k l in omega arith

-- the turn that is committed
pub sealed_within : (s : Inside) (i : ℕ) (w : Worker) (c j : ℕ) (phase : Phase) → IsKept s
    → slice_get s.workers.items i ≡ Some w → IsAllowed s.dict (view_of w) (Seals c j phase)
    → c < turn_count s.dict
sealed_within s i w c j phase k at ok =
    by phase ok.1 ((view_fits s i w k at).hold record { committed = c; phase = phase } ok.0).phase
  where
    by : (p : Phase) → CanSeal (length (list_at s.dict c)) j p
        → IsSoundPhase s.dict (machine_of s).core c p → c < turn_count s.dict
    by Idle can fits = absurd can
    by Halted can fits = absurd can
    by (Scan n) can fits = fits.0.0
    by (Ready n) can fits = absurd can
    by (Seated n b) can fits = fits.0.0
    by (Raised n) can fits = fits.0.0

seated_le : (d : Dictatorship) (p : ℕ) (v : View) → seat_bit d p v ≤ 1
seated_le d p v = by v.hold
  where
    within_phase : (c : ℕ) (x : Phase) → phase_seat_bit d p c x ≤ 1
    within_phase c Idle = omega arith
    within_phase c Halted = omega arith
    within_phase c (Scan j) = omega arith
    within_phase c (Ready j) = omega arith
    within_phase c (Seated j b) = bit_le (eqb (entry d c j) p)
    within_phase c (Raised j) = bit_le (eqb (entry d c j) p)

    by : (o : Option Holding) → holder_seat_bit d p o ≤ 1
    by None = omega arith
    by (Some h) = within_phase h.committed h.phase

-- the seat count read of a programme
pub count_is : (s : Inside) (p n : ℕ) → IsKept s → p < length s.dict.quota
    → n ≡ get_or s.seats.items p n
    → n ≡ get_or s.seats.items p 0
count_is s p n k l at =
    let sound = k.sound in
    let count = sound.seats.each_programme in
    let got = slice_get_read s.seats.items (length s.seats.items) p n refl (omega arith) at in
    sym (get_or_from_slice_get s.seats.items p n 0 got)

-- a seat count stays small: it is at most the quota and one for each worker
pub seats_small : (s : Inside) (p : ℕ) → IsKept s → p < length s.dict.quota
    → get_or s.seats.items p 0 ≤ 100064
seats_small s p k l =
    let c : Core = (machine_of s).core in
    let sound = k.sound in
    let count = sound.seats.counts p l in
    let taken = seats_taken-le-quota s.dict p (k.valid.filled p l) sound.count in
    let quota = k.valid.quotas p l in
    let all = sum_by-le (seat_bit s.dict p) 1 c.views
    (λ i d m. seated_le s.dict p (get_or c.views i d)) in
    let workers = k.few in
    let views = length-map s.workers.items view_of in
    omega arith

-- a team with one fresh worker more is one, where that worker has room for all turns
pub team_more : (n turns : ℕ) (ws : List Worker) (w : Worker) → IsTeam n turns ws
    → view_of w ≡ fresh_view
    → turns ≤ vec_capacity w.own → IsTeam (n + 1) turns (ws ++ w ∷ [])
team_more n turns ws w t fresh room = record {
  views =
      map-append view_of ws (w ∷ []) ∙ ap (λ (l : List View). l ++ view_of w ∷ []) t.views
      ∙ ap (λ (v : View). replicate n fresh_view ++ v ∷ []) fresh ∙ replicate_more n fresh_view;
  room = λ i u at.
      ⊎_elim (λ (p : slice_get ws i ≡ Some u). t.room i u p)
      (λ (p : (i ≡ length ws) × (w ≡ u)). subst
      (λ (x : Worker). turns ≤ vec_capacity x.own) p.1 room)
      (at_snoc ws w u i at);
}

-- the machine of the opening state and such workers is kept
pub team_kept : (s : Inside) (workers : ℕ) → IsValidDictatorship s.dict → workers ≤ MAX_WORKERS
    → (machine_of s).core ≡ opening s.dict workers
    → IsTeam workers (turn_count s.dict) s.workers.items → IsKept s
team_kept s workers valid few is t =
    let count = ap (λ (l : List View). length l) t.views ∙ length-replicate workers fresh_view in
    let views = length-map s.workers.items view_of in
    record {
      valid = valid;
      sound = subst (IsSound s.dict) (sym is) (begins s.dict workers valid);
      few = omega arith;
      room = t.room;
    }
