use Rattle.std.proofs.Common.{arith, rules, ap, ◌∙◌}
use Rattle.registration_desk.proofs.Shares.{join_keeps}
use Rattle.registration_desk.proofs.Clerks.{clerks_last, sum_last}
use Rattle.registration_desk.specs.Desks.{knows}
use Rattle.registration_desk.proofs.closing.join_all.Goals as goal

pub loop-other-init : goal.loop-other-init
loop-other-init c =
    let popped = c.in-Some.ensures.items in
    let o = clerks_last c.args.desk.now _ _ _ popped c.requires.each in
    let seat = c.seat_of-seat.ensures in
    let all = c.requires.all in
    record {
      table = ap (λ s. s.table_id) seat.seat ∙ o.0;
      idle = seat.idle;
      others = o.1;
      all = let s = ap (λ s. s.me.0.share) seat.seat in
          let n = sum_last (λ m. (knows m).share) _ _ _ popped in omega arith;
      served = let s = ap (λ s. s.me.0.served) seat.seat in
          let n = sum_last (λ m. (knows m).served) _ _ _ popped in omega arith;
      left = let s = ap (λ s. s.me.0.left) seat.seat in
          let n = sum_last (λ m. (knows m).left) _ _ _ popped in omega arith;
    }

pub join_seat-requires : goal.join_seat-requires
join_seat-requires c =
    let v = c.loop-other.invariant in
    let o = clerks_last c.args.desk.now _ _ _ c.in-Some-pop.ensures.items v.others in
    let seat = c.seat_of.ensures in (
      v.table,
      ap (λ s. s.table_id) seat.seat ∙ o.0,
      seat.idle.bare,
      search rules,
      join_keeps _ _ _ _ _ v.idle.live v.idle.free seat.idle.free,
    )

pub loop-other-preserved : goal.loop-other-preserved
loop-other-preserved c =
    let v = c.loop-other.invariant in
    let popped = c.in-Some-pop.ensures.items in
    let o = clerks_last c.args.desk.now _ _ _ popped v.others in
    let seat = c.seat_of.ensures in
    let e = c.join_seat.ensures in
    let me = ap (λ m. m.0) e.2 in
    let all = v.all in
    let served = v.served in
    let left = v.left in
    let live = v.idle.live in
    record {
      table = e.0 ∙ v.table;
      idle = record {
        live = let s = ap (λ m. m.share) me in omega arith;
        free = ap (λ m. m.holds) me ∙ v.idle.free;
        bare = ap (λ m. m.1) e.2 ∙ v.idle.bare;
      };
      others = o.1;
      all = let s = ap (λ s. s.me.0.share) seat.seat in
          let n = sum_last (λ m. (knows m).share) _ _ _ popped in let t = ap (λ m. m.share) me in
          omega arith;
      served = let s = ap (λ s. s.me.0.served) seat.seat in
          let n = sum_last (λ m. (knows m).served) _ _ _ popped in let t = ap (λ m. m.served) me in
          omega arith;
      left = let s = ap (λ s. s.me.0.left) seat.seat in
          let n = sum_last (λ m. (knows m).left) _ _ _ popped in let t = ap (λ m. m.left) me in
          omega arith;
    }
