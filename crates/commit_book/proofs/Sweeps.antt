-- What was taken, committed and given back, once the last look found nothing.
use Rattle.std.proofs.Common.{◌≡◌, ℕ, ◌+◌, ◌≤◌, Bool, true, false, not, None, refl, sym, ap, ◌∙◌, arith}
use Rattle.interleaving_core.specs.declared.parts.Phase.{Phase}
use Rattle.interleaving_core.specs.declared.parts.Phase.TheVariants.{Idle}
use Rattle.interleaving_core.specs.Core.{turn_count, hold_at}
use Rattle.interleaving_core.specs.Events.{phase_after_look}
use Rattle.word_rule.specs.Layout.{is_held, mark_number}
use Rattle.word_rule.specs.Views.{SeatKnows}
use Rattle.word_rule.specs.Holder.{as_holder, tried, having_sealed, released_with}
use Rattle.word_rule.specs.Rounds.{knows}
use Rattle.word_rule.specs.declared.seat.WorkSeat.{WorkSeat}
use Rattle.commit_book.specs.Holder.{IsTake, IsLook, IsRelease}
use Rattle.commit_book.specs.Prefix.{HasSwept, IsSweep}
use Rattle.word_rule.proofs.HolderCopies.{phase_in, count_in, held}

same_hold : (c g : ℕ) (x y : Phase) → hold_at c x ≡ hold_at g y → (c ≡ g) × (x ≡ y)
same_hold c g x y e = (ap count_in e, ap phase_in e)

-- a release with c turns committed
pub released_at : (old new : WorkSeat) (c : ℕ) (x : Phase) → (knows old).core.hold ≡ hold_at c x
    → IsRelease old new → knows new ≡ released_with (knows old) c
released_at old new c x is w =
    let same = same_hold c w.committed x w.phase (sym is ∙ w.hold) in
    w.view ∙ ap (λ (n : ℕ). released_with (knows old) n) (sym same.0)

module _ (old at mid new : WorkSeat) (count : ℕ) where
  abbrev c : ℕ
  c = old.committed + count

  -- a release after a look that left this phase
  swept_in : (p : Phase) → knows at ≡ having_sealed (knows old) old.committed count
      → knows mid ≡ as_holder (knows at) c p → IsRelease mid new
      → ((knows old).share ≡ (knows old).workers → (knows old).core.done ≡ true
      → turn_count (knows old).dict ≤ c) → HasSwept old new count
  swept_in p view last free all =
      let hold : (knows at).core.hold ≡ hold_at c Idle = ap (λ (x : SeatKnows). x.core.hold) view in
      let turns = ap (λ (x : SeatKnows). turn_count x.dict) view in
      let most = at.in_range.committed c Idle hold in
      record {
        view = released_at mid new c p (ap (λ (x : SeatKnows). x.core.hold) last) free
            ∙ ap (λ (x : SeatKnows). released_with x c)
            (last ∙ ap (λ (x : SeatKnows). as_holder x c p) view);
        within = omega arith;
        whole = λ every done. let l = all every done in omega arith;
      }

  -- turns were committed up to a look that found nothing, and the mark given back
  pub swept_so : knows at ≡ having_sealed (knows old) old.committed count → IsLook at mid None
      → IsRelease mid new → HasSwept old new count
  swept_so view look free =
      let hold : (knows at).core.hold ≡ hold_at c Idle = ap (λ (x : SeatKnows). x.core.hold) view in
      let same : look.committed ≡ c =
      (same_hold look.committed c Idle Idle (sym look.idle ∙ hold)).0 in
      let turns = ap (λ (x : SeatKnows). turn_count x.dict) view in
      elim (native.Mathlib.Decide.dec_le (turn_count (knows at).dict) look.committed) [
        | yes l ↦
            let idle : knows mid ≡ as_holder (knows at) c Idle =
            (look.all l).0 ∙ (view ∙ sym (ap (λ (x : SeatKnows). as_holder x c Idle) view)) in
            swept_in Idle view idle free (λ every done. omega arith)
        | no n ↦
            let saw = look.left (omega arith) in
            let halted : knows mid ≡ as_holder (knows at) c (phase_after_look saw.found) =
            saw.view ∙ ap (λ (k : ℕ). as_holder (knows at) k (phase_after_look saw.found)) same in
            swept_in (phase_after_look saw.found) view halted free (λ every done.
            absurd
            (let some = saw.posted (ap (λ (x : SeatKnows). x.share) view
            ∙ (every ∙ ap (λ (x : SeatKnows). x.workers) (sym view)))
            (ap (λ (x : SeatKnows). x.core.done) view ∙ done) in
            cc (some)))
      ]

was_free : (b : Bool) → true ≡ not b → b ≡ false
was_free true e = absurd (cc (e))
was_free false e = refl

module _ (old mid : WorkSeat) (take : IsTake old mid true) where
  abbrev number : ℕ
  number = mark_number take.found

  -- a try that took the mark: the seat holds it, with the number found
  pub took : (knows mid ≡ tried (knows old) false number) × (mid.committed ≡ number)
  took =
      let free : is_held take.found ≡ false = was_free (is_held take.found) take.answered in
      let view : knows mid ≡ tried (knows old) false number =
      take.view ∙ ap (λ b. tried (knows old) b number) free in
      (view, (held mid number Idle (ap (λ (x : SeatKnows). x.core.hold) view)).1)

  -- so it may look
  pub is_idle : (knows mid).core.hold ≡ hold_at mid.committed Idle
  is_idle =
      ap (λ (x : SeatKnows). x.core.hold) took.0 ∙ ap (λ (n : ℕ). hold_at n Idle) (sym took.1)

  -- and once it has swept, a prefix was committed from that number on
  pub swept_of : (new : WorkSeat) (count : ℕ) → HasSwept mid new count → IsSweep old new count
  swept_of new count done =
      let view = took.0 in
      let told = ap (λ (x : SeatKnows). x.released) done.view in
      let turns = ap (λ (x : SeatKnows). turn_count x.dict) view in
      let within = done.within in
      record {
        found = take.found;
        free = was_free (is_held take.found) take.answered;
        view = done.view
            ∙ (λ i. released_with (having_sealed (view i) (took.1 i) count) (took.1 i + count));
        within = omega arith;
        whole = λ every over.
            let all = done.whole
            (ap (λ (x : SeatKnows). x.share) view
            ∙ (every ∙ sym (ap (λ (x : SeatKnows). x.workers) view)))
            (ap (λ (x : SeatKnows). x.core.done) view ∙ over) in
            omega arith;
      }
