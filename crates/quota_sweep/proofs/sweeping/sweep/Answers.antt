use Rattle.std.proofs.Common.{◌∙◌, length, ap, arith}
use Rattle.market.specs.declared.programme.Prog.{Prog}
use Rattle.market.specs.Problems.{Problem, quota_of, with_quota}
use Rattle.market.proofs.Quotas.{with_quota-own}
use Rattle.quota_sweep.proofs.Rows.{changed-again}
use Rattle.quota_sweep.proofs.Widening.{are_worst_stable, hurts_nobody, length-same}
use Rattle.quota_sweep.proofs.sweeping.sweep.Goals as goal

pub set_quota-requires-clause-programme : goal.set_quota-requires-clause-programme
set_quota-requires-clause-programme g c =
    let m = c.args.market.now in
    let changed = c.sweep_on-table.ensures.market in
    let size = ap (λ (x : Problem). length x.programmes) changed.is
    ∙ length-same m c.args.programme changed.quota in
    let within = c.requires.programme in
    omega arith

pub set_quota-requires-clause-quota : goal.set_quota-requires-clause-quota
unfolding quota_of
set_quota-requires-clause-quota g c =
    let m = c.args.market.now in
    let own = ap (λ (q : Prog). q.quota) c.programme-own.ensures in
    let few = c.type_count.ensures.valid.quotas c.args.programme c.requires.programme in
    omega arith

pub returns-clause-worst : goal.returns-clause-worst
returns-clause-worst g c =
    are_worst_stable c.args.market.now c.type_count.ensures.valid c.args.programme c.args.low
    c.args.high c.requires.programme c.requires.quotas

pub returns-clause-hurts_nobody : goal.returns-clause-hurts_nobody
returns-clause-hurts_nobody g c =
    hurts_nobody c.args.market.now c.type_count.ensures.valid c.args.programme c.args.low
    c.args.high c.requires.programme c.requires.quotas

pub returns-clause-market : goal.returns-clause-market
unfolding quota_of
returns-clause-market g c =
    let m = c.args.market.now in
    let p = c.args.programme in
    changed-again m c.sweep_on-table.new.market c.set_quota.new.self p
    c.programme-own.result.quota c.requires.programme c.sweep_on-table.ensures.market
    c.set_quota.ensures
    ∙ ap (λ (q : Prog). with_quota m p q.quota) c.programme-own.ensures
    ∙ with_quota-own m p
