-- Each event keeps a sound state, the opening is one, and so is whatever a run leads to.
use Rattle.std.proofs.Common.{◌≡◌, ℕ, List, [], ◌∷◌, length, Some, nat_lt, sym, refl, ap, subst, ◌∙◌, arith}
use Rattle.std.specs.Prelude.{slice_get}
use Rattle.std.proofs.Math.ListN.{length-replicate}
use Rattle.market.specs.Dictatorships.{Dictatorship, IsValidDictatorship}
use Rattle.market.proofs.Turns.{seats_taken-zero}
use Rattle.interleaving_core.specs.declared.parts.Cell.TheVariants.{Empty, Posted}
use Rattle.interleaving_core.specs.declared.events.CoreEvent.{CoreEvent}
use Rattle.interleaving_core.specs.declared.events.Told.{Told}
use Rattle.interleaving_core.specs.Core.{View, Core, fresh_view, opening, turn_count, is_committed}
use Rattle.interleaving_core.specs.Events.{Action, Claims, ReadsFlags, Reads, Posts, Takes, Looks, Weighs, Seats, Raises, Seals, Releases, IsAllowed, after}
use Rattle.interleaving_core.specs.Runs.{IsStep, IsRun}
use Rattle.interleaving_core.specs.Sound.{bit, hold_bit, seat_bit, late_bit, IsSoundView, IsSound}
use Rattle.interleaving_core.proofs.Places.{sum_replicate, at_replicate, get_replicate}
use Rattle.interleaving_core.proofs.OwnTurns.{own_nil}
use Rattle.interleaving_core.proofs.Flags.{first_flags_long, first_raised, first_unused, first_narrow}
use Rattle.interleaving_core.proofs.ClaimantKeeps.{read_flags_keeps, read_keeps, claim_keeps, post_keeps}
use Rattle.interleaving_core.proofs.HolderKeeps.{take_keeps, look_keeps, weigh_keeps, seat_keeps, raise_keeps, seal_keeps, release_keeps}

-- an allowed event keeps a sound state
pub keeps : (d : Dictatorship) (c : Core) (i : ℕ) (v : View) (e : Action) → IsValidDictatorship d
    → IsSound d c → slice_get c.views i ≡ Some v → IsAllowed d v e → IsSound d (after d c i v e)
keeps d c i v Claims valid = claim_keeps d c i v (nat_lt c.claim_number (turn_count d)) refl
keeps d c i v (ReadsFlags k j) valid = read_flags_keeps d c i v k j valid
keeps d c i v (Reads k j) valid = read_keeps d c i v k j
keeps d c i v (Posts k j looked met) valid = post_keeps d c i v k j looked met
keeps d c i v Takes valid = take_keeps d c i v c.mark_held refl
keeps d c i v (Looks h) valid = look_keeps d c i v h
keeps d c i v (Weighs h j) valid = weigh_keeps d c i v h j valid
keeps d c i v (Seats h j) valid = seat_keeps d c i v h j valid
keeps d c i v (Raises h j) valid = raise_keeps d c i v h j valid
keeps d c i v (Seals h j phase) valid = seal_keeps d c i v h j phase valid
keeps d c i v (Releases h phase) valid = release_keeps d c i v h phase

-- the opening is sound
pub begins : (d : Dictatorship) (workers : ℕ) → IsValidDictatorship d
    → IsSound d (opening d workers)
begins d workers valid =
    let n = length d.lists in
    record {
      count = 0;
      mark =
          record {
            within = omega arith;
            behind = omega arith;
            free = λ _. refl;
            holders = sum_replicate hold_bit workers fresh_view refl;
          };
      cells =
          record {
            each_turn = length-replicate n Empty;
            below = λ k l. absurd (omega arith);
            above = λ k l. ap is_committed (get_replicate n k Empty);
          };
      seats =
          record {
            each_programme = valid.fills;
            counts = λ p l.
                let nobody = sum_replicate (seat_bit d p) workers fresh_view refl in
                let none = seats_taken-zero d p in
                omega arith;
          };
      flags =
          record {
            each_group = first_flags_long d;
            raised = λ p l.
                let nobody = sum_replicate (late_bit d p) workers fresh_view refl in
                let raised = ap bit (first_raised d p l) in
                omega arith;
            unused = first_unused d;
            narrow = first_narrow d;
          };
      posts = λ k j p.
          let empty : Empty ≡ Posted j = sym (get_replicate n k Empty) ∙ p in absurd (cc (empty));
      claims =
          record {
            claimed = λ k l m. absurd (omega arith);
            untouched = λ k l. get_replicate n k Empty;
            few = omega arith;
          };
      views = λ i v at.
          subst (IsSoundView d (opening d workers) 0) (at_replicate workers i fresh_view v at)
          record {
            one =
                record {
                  holder = λ h is. refl;
                  debtor = λ is. absurd (cc (is));
                  leaver = λ is. (refl, refl);
                };
            claim = λ k is. absurd (cc (is));
            hold = λ g is. absurd (cc (is));
            own = own_nil d (opening d workers);
            past = λ is. absurd (cc (is));
          };
    }

-- one step keeps a sound state
pub step_keeps : (d : Dictatorship) (c e : Core) (i : ℕ) (event : CoreEvent) (told : Told)
    → IsValidDictatorship d → IsSound d c → IsStep d c i event told e → IsSound d e
step_keeps d c e i event told valid s x =
    subst (IsSound d) (sym x.leads) (keeps d c i x.view x.action valid s x.whose x.allowed)

-- each step of a run keeps a sound state
pub run_keeps : (d : Dictatorship) (c : Core) (events : List (ℕ × CoreEvent)) (last : Core)
    → IsValidDictatorship d → IsSound d c → IsRun d c events last → IsSound d last
run_keeps d c [] last valid s l = subst (IsSound d) (sym l) s
run_keeps d c (x ∷ xs) last valid s l =
    run_keeps d l.1 xs last valid (step_keeps d c l.1 x.0 x.1 l.0 valid s l.2) l.3
