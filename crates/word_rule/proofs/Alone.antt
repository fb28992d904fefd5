-- A seat with every share leaves none to others, so each view of the core is of that seat.
use Rattle.std.proofs.Common.{◌≡◌, ◌<◌, true, None, sym, ap, ⊎_elim, ◌∙◌, arith}
use Rattle.std.specs.Prelude.{slice_get}
use mathlib.Core.Logic.{dite}
use native.Mathlib.Decide.{ℕ_discrete}
use Rattle.interleaving_core.specs.Core.{View}
use Rattle.interleaving_core.proofs.Places.{terms_le}
use Rattle.word_rule.specs.Views.{SeatKnows, other_view}
use Rattle.word_rule.specs.Rule.{share_of}
use Rattle.word_rule.specs.Rounds.{IsAlone}
use Rattle.word_rule.specs.declared.rule.RoundKey.{RoundKey}
use Rattle.word_rule.proofs.CoreViews.{whose}

-- so no view claims or holds, where this seat does neither
pub is_alone : (key : RoundKey) (x : SeatKnows) → x.share ≡ key.workers → x.core.done ≡ true
    → x.core.claim ≡ None → x.core.hold ≡ None → IsAlone key x
is_alone key x every done claim hold s i h at j v in_core =
    let w = whose s.views j v in_core in
    dite (ℕ_discrete w.at i)
    (λ here.
    let mine = at.there in
    let its = w.live.there in
    let one = ap (slice_get s.views) here in
    let same : x ≡ w.seat = cc (mine, its, one) in
    ⊎_elim
    (λ (own : v ≡ w.seat.core).
    let is : v ≡ x.core = own ∙ ap (λ (z : SeatKnows). z.core) (sym same) in
    (ap (λ (u : View). u.claim) is ∙ claim, ap (λ (u : View). u.hold) is ∙ hold))
    (λ (other : (1 < w.seat.share) × (v ≡ other_view w.seat.core.done)).
    let is = other.1 ∙ ap other_view (ap (λ (z : SeatKnows). z.core.done) (sym same) ∙ done) in
    (ap (λ (u : View). u.claim) is, ap (λ (u : View). u.hold) is))
    w.which)
    (λ apart.
    absurd
    (let t = terms_le share_of s.views i w.at x w.seat apart at.there w.live.there in
    let all = h.shares in
    let l = w.live.live in
    omega arith))
