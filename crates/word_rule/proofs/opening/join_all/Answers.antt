use Rattle.std.proofs.Common.{arith, ◌∙◌, sym}
use Rattle.word_rule.proofs.Alone.{is_alone}
use Rattle.word_rule.proofs.Seats.{over_last, shares_last, shares_none, sealed_last, sealed_none}
use Rattle.word_rule.proofs.opening.join_all.Goals as goal

pub loop-other-init : goal.loop-other-init
loop-other-init c =
    let o = over_last _ _ _ _ c.in-Some.ensures.items c.requires.over in
    record {
      mine = o.0;
      others = o.1;
      all = sym (shares_last _ _ _ c.in-Some.ensures.items) ∙ c.requires.all;
      sealed = sym (sealed_last _ _ _ c.in-Some.ensures.items);
    }

pub join_two-requires : goal.join_two-requires
join_two-requires c =
    let o = over_last _ _ _ _ c.in-Some-pop.ensures.items c.loop-other.invariant.others in
    record { over = (c.loop-other.invariant.mine, o.0) }

pub loop-other-preserved : goal.loop-other-preserved
loop-other-preserved c =
    let o = over_last _ _ _ _ c.in-Some-pop.ensures.items c.loop-other.invariant.others in
    let e = shares_last _ _ _ c.in-Some-pop.ensures.items in
    let all = c.loop-other.invariant.all in
    let more = c.join_two.ensures.share in
    let sealed_rest = sealed_last _ _ _ c.in-Some-pop.ensures.items in
    let sealed = c.loop-other.invariant.sealed in
    let sealed_more = c.join_two.ensures.sealed in
    record { mine = c.join_two.ensures.over; others = o.1; all = omega arith; sealed = omega arith }

pub returns-clause-alone : goal.returns-clause-alone
returns-clause-alone c =
    let v = c.loop-other.invariant in
    let pop = c.in_default-pop.ensures {u = tt} in
    let none = shares_none _ _ _ pop.items pop.cases.0 pop.rest in
    let all = v.all in
    is_alone _ _ (omega arith) v.mine.done v.mine.claim v.mine.hold

pub returns-clause-sealed : goal.returns-clause-sealed
returns-clause-sealed c =
    let v = c.loop-other.invariant in
    let pop = c.in_default-pop.ensures {u = tt} in
    let none = sealed_none _ _ _ pop.items pop.cases.0 pop.rest in
    let sealed = v.sealed in
    omega arith
