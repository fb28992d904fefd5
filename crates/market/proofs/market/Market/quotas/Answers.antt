use Rattle.std.proofs.Common.{ℕ, ap, length, List, arith}
use Rattle.std.specs.Prelude.{slice_index}
use Rattle.market.specs.declared.programme.Prog.{Prog}
use Rattle.market.specs.Problems.{quota_of}
use Rattle.market.proofs.Dicts.{member_lt, map_next}
use Rattle.market.proofs.market.Market.quotas.Goals as goal

pub programme-seats-requires : goal.programme-seats-requires
programme-seats-requires c =
    let m = c.args.self.now in
    let e = c.type_programmes-members.ensures.members in
    let k = c.loop-programme.programme-index in
    let n = ap (λ (xs : List ℕ). length xs) e in
    let x = ap (λ (xs : List ℕ). slice_index xs k) e in
    let l = member_lt m c.args.kind k (omega arith) in
    omega arith

pub loop-programme-preserved : goal.loop-programme-preserved
unfolding quota_of
loop-programme-preserved c =
    let k = c.loop-programme.programme-index in
    map_next (quota_of c.args.self.now) c.type_programmes-members.result.now k 0
    c.programme-seats.result.quota c.loop-programme.quota.items c.push.new.self.items
    c.loop-programme-test.true c.loop-programme.invariant
    (ap (λ (p : Prog). p.quota) c.programme-seats.ensures) c.in_ok-push.ensures.items
