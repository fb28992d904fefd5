use Rattle.std.proofs.Common.{◌≡◌, ◌+◌, ◌-◌, ℕ, length, Vec, Global, sym, ap, ◌∙◌, subst, arith, set}
use Rattle.std.proofs.lemmas.List.{get_or_read}
use Rattle.market.specs.Problems.{no_programme}
use Rattle.market.specs.declared.programme.Prog.{Prog}
use Rattle.second_placement.proofs.Lowering.{AreLeftAfter, left-all, left-more, left-skip, seat-known, seat-left, with_seats}
use Rattle.second_placement.proofs.seats_left.programmes_left.Goals as goal
use Rattle.second_placement.proofs.seats_left.programmes_left.Goals.{in-Some, in_default}

pub index_mut-requires : goal.index_mut-requires
index_mut-requires c =
    let known = seat-known c.args.programmes.items c.args.held.now c.args.registered.now
    c.requires.quotas c.loop-candidate.candidate c.in-Some.programme
    (sym c.seat_kept.ensures ∙ c.in-Some.is) in
    let same = c.loop-candidate.invariant.count in
    omega arith

pub overflow_sub-index_mut : goal.overflow_sub-index_mut
overflow_sub-index_mut c =
    let before = c.args.programmes.items in
    let held = c.args.held.now in
    let registered = c.args.registered.now in
    let now = c.loop-candidate.programmes.items in
    let p = c.in-Some.programme in
    let kept = sym c.seat_kept.ensures ∙ c.in-Some.is in
    let known = seat-known before held registered c.requires.quotas c.loop-candidate.candidate p kept
    in
    let left = seat-left before held registered c.requires.quotas c.loop-candidate.candidate p kept in
    let size = c.loop-candidate.invariant.count in
    let read = get_or_read now p c.index_mut.result.now (omega arith) c.index_mut.ensures.value
    no_programme ∙ c.loop-candidate.invariant.each p known in
    let quota = ap (λ (x : Prog). x.quota) read in
    omega arith

pub loop-candidate-preserved : goal.loop-candidate-preserved
loop-candidate-preserved c =
    let before = c.args.programmes.items in
    let held = c.args.held.now in
    let registered = c.args.registered.now in
    let now = c.loop-candidate.programmes.items in
    let k = c.loop-candidate.candidate in
    let size = c.loop-candidate.invariant.count in
    elim c.match-seat_kept.branch [
      | in-Some w ↦
          let p = w.in-Some.programme in
          let kept = sym c.seat_kept.ensures ∙ w.in-Some.is in
          let known = seat-known before held registered c.requires.quotas k p kept in
          let read = get_or_read now p w.index_mut.result.now (omega arith)
          w.index_mut.ensures.value no_programme in
          left-more before held registered k p now c.match-seat_kept.programmes.items kept known
          c.loop-candidate.invariant
          (ap (λ (v : Vec Prog Global). v.items) w.programmes-is
          ∙ ap (λ (x : Prog). set now p (with_seats x (x.quota - 1))) read)
      | in_default w ↦ subst
          (λ (v : Vec Prog Global). AreLeftAfter before held registered (k + 1) v.items)
          (sym w.programmes-is)
          (left-skip before held registered k now (sym c.seat_kept.ensures ∙ w.in_default.is)
          c.loop-candidate.invariant)
    ]

pub returns : goal.returns
returns c =
    let before = c.args.programmes.items in
    let held = c.args.held.now in
    let registered = c.args.registered.now in
    let now = c.loop-candidate.programmes.items in
    let all : c.loop-candidate.candidate ≡ length held = omega arith in
    left-all before held registered now
    (subst (λ (k : ℕ). AreLeftAfter before held registered k now) all c.loop-candidate.invariant)
