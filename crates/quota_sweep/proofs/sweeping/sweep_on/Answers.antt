use Rattle.std.proofs.Common.{◌≡◌, ◌∙◌, ℕ, List, Option, length, map, refl, sym, ap, subst, arith}
use Rattle.std.specs.Prelude.{IfSome}
use Rattle.std.specs.List.{range_with_len}
use Rattle.std.proofs.lemmas.List.FromFn.{length-map-range_with_len}
use Rattle.quota_sweep.specs.declared.row.SweepRow.{SweepRow}
use Rattle.quota_sweep.specs.Sweeps.{sweep_row, sweep_rows}
use Rattle.quota_sweep.proofs.Rows.{unchanged, changed-again, changed-still, changed-count, changed-candidates, length-before, IsSweptUpto-more}
use Rattle.quota_sweep.proofs.sweeping.sweep_on.Goals as goal

pub returns-in_err-rows-clause-market : goal.returns-in_err-rows-clause-market
returns-in_err-rows-clause-market g c = unchanged c.args.market.now c.args.programme

pub loop-index-init : goal.loop-index-init
loop-index-init g c =
    record {
      changed = unchanged c.args.market.now c.args.programme;
      rows_are = c.in_ok-rows.ensures.items;
      before_is = refl;
    }

pub set_quota-requires-clause-programme : goal.set_quota-requires-clause-programme
set_quota-requires-clause-programme g c =
    let size = changed-count c.args.market.now c.loop-index.market c.args.programme
    c.loop-index.invariant.changed in
    let within = c.requires.programme in
    omega arith

pub returns-in_err-now-clause-market : goal.returns-in_err-now-clause-market
returns-in_err-now-clause-market g c =
    changed-still _ _ _ _ _ c.requires.programme c.loop-index.invariant.changed
    c.set_quota.ensures

pub row-requires-clause-programme : goal.row-requires-clause-programme
row-requires-clause-programme g c =
    let size = changed-count c.args.market.now c.set_quota.new.self c.args.programme
    (changed-still _ _ _ _ _ c.requires.programme c.loop-index.invariant.changed
    c.set_quota.ensures) in
    let within = c.requires.programme in
    omega arith

pub row-requires-clause-before : goal.row-requires-clause-before
row-requires-clause-before g c =
    let m = c.args.market.now in
    let p = c.args.programme in
    let now = changed-still _ _ _ _ _ c.requires.programme c.loop-index.invariant.changed
    c.set_quota.ensures in
    let own = length-before m c.type_count.ensures.valid p c.args.low c.loop-index.index
    c.requires.programme (omega (arith, c.requires.quotas)) in
    subst (λ (n : ℕ). IfSome c.loop-index.before (λ held. length held ≡ n))
    (sym (changed-candidates m c.set_quota.new.self p now))
    (subst (λ (o : Option (List (Option ℕ))). IfSome o (λ held. length held ≡ length m.lists))
    (sym c.loop-index.invariant.before_is) own)

pub returns-in_err-row-clause-market : goal.returns-in_err-row-clause-market
returns-in_err-row-clause-market g c =
    changed-still _ _ _ _ _ c.requires.programme c.loop-index.invariant.changed
    c.set_quota.ensures

pub returns-in_err-push-clause-market : goal.returns-in_err-push-clause-market
returns-in_err-push-clause-market g c =
    changed-still _ _ _ _ _ c.requires.programme c.loop-index.invariant.changed
    c.set_quota.ensures

pub loop-index-preserved : goal.loop-index-preserved
loop-index-preserved g c =
    IsSweptUpto-more c.args.market.now c.args.programme c.args.low c.loop-index.index
    c.loop-index.market c.set_quota.new.self c.loop-index.rows.items c.push.new.self.items
    c.loop-index.before c.in_ok-now.field-0.placement c.in_ok-row.field-0
    (changed-again _ _ _ _ _ c.requires.programme c.loop-index.invariant.changed
    c.set_quota.ensures)
    c.loop-index.invariant c.in_ok-now.ensures.placement c.in_ok-row.ensures
    c.in_ok-push.ensures.items

pub from_rows-requires : goal.from_rows-requires
from_rows-requires g c =
    let size = ap (λ (rows : List SweepRow). length rows) c.loop-index.invariant.rows_are
    ∙ length-map-range_with_len (sweep_row c.args.market.now c.args.programme c.args.low) 0
    c.loop-index.index in
    let few = c.requires.rows in
    omega arith

pub returns-clause-rows : goal.returns-clause-rows
unfolding sweep_rows
returns-clause-rows g c =
    c.from_rows.ensures ∙ c.loop-index.invariant.rows_are
    ∙ ap (λ (n : ℕ). map (sweep_row c.args.market.now c.args.programme c.args.low)
    (range_with_len 0 n)) (omega arith)
