use Rattle.std.proofs.Common.{◌≡◌, ℕ, length, subst, arith}
use Rattle.second_placement.proofs.Lowering.{AreEmptiedUpto, emptied-all}
use Rattle.second_placement.proofs.seats_left.lists_left.Goals as goal

pub returns : goal.returns
returns c =
    let before = c.args.lists.items in
    let held = c.args.held.now in
    let now = c.loop-candidate.lists.items in
    let all : c.loop-candidate.candidate ≡ length held = omega arith in
    emptied-all before held now c.requires
    (subst (λ (k : ℕ). AreEmptiedUpto before held k now) all c.loop-candidate.invariant)
