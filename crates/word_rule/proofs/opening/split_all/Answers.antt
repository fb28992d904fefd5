use Rattle.std.proofs.Common.{◌≡◌, ◌+◌, ◌-◌, length, arith, rules, refl, ap, ◌∙◌}
use Rattle.word_rule.specs.Views.{SeatKnows, kept_part, new_part}
use Rattle.word_rule.specs.Rounds.{knows, key_of}
use Rattle.word_rule.proofs.Openings.{opens_shares}
use Rattle.word_rule.proofs.Shares.{split_keeps}
use Rattle.word_rule.proofs.Seats.{part, new_part_of, new_snoc, count_snoc}
use Rattle.word_rule.proofs.opening.split_all.Goals as goal

pub split_seat-next-requires : goal.split_seat-next-requires
split_seat-next-requires c =
    let v = c.loop-number.invariant in
    let below = c.loop-number-test.true in
    let share = ap (λ (x : SeatKnows). x.share) v.rest in
    let fresh = ap (λ (x : SeatKnows). x.core) v.rest in
    (v.table, search rules, split_keeps _ _ _ fresh (omega arith))

pub loop-number-preserved : goal.loop-number-preserved
loop-number-preserved c =
    let v = c.loop-number.invariant in
    let below = c.loop-number-test.true in
    let e = c.split_seat-next.ensures in
    let made = c.new_seat.ensures in
    let count = v.count in
    let len = v.len in
    let key = key_of c.args.round.now in
    let kept : knows c.new_seat.result ≡ part key (c.loop-number.number - 1) 1 =
    ap (λ s. s.me.0) made ∙ (ap (λ m. m.0) e.2 ∙ ap kept_part v.rest) in
    let number : c.loop-number.number - 1 + 1 ≡ c.loop-number.number + 1 - 1 = omega arith in
    let share : c.args.workers + 1 - c.loop-number.number - 1
    ≡ c.args.workers + 1 - (c.loop-number.number + 1) = omega arith in
    let at : c.loop-number.number - 1 ≡ length c.loop-number.seats.items = omega arith in
    let new = new_part_of _ _ _ _ _ (ap (λ s. s.table_id) made ∙ (e.0 ∙ v.table)) kept at refl in
    record {
      table = e.3 ∙ v.table;
      bare = ap (λ m. m.1) e.4;
      rest = ap (λ m. m.0) e.4 ∙ (ap new_part v.rest ∙ (λ i. part key (number i) (share i)));
      new = new_snoc _ _ _ _ c.push_reserved.ensures.items v.new new;
      count = let n = count_snoc _ _ _ c.push_reserved.ensures.items in omega arith;
      len = let n = c.push_reserved.ensures.len in omega arith;
      room = search rules;
    }

pub returns-clause-new : goal.returns-clause-new
returns-clause-new c =
    let v = c.loop-number.invariant in
    let over = c.loop-number-test.false in
    let upto = c.loop-number.auto.number-end in
    let made = c.new_seat-2.ensures in
    let count = v.count in
    let at : c.loop-number.number - 1 ≡ length c.loop-number.seats.items = omega arith in
    let one : c.args.workers + 1 - c.loop-number.number ≡ 1 = omega arith in
    let new = new_part_of _ _ _ _ _ (ap (λ s. s.table_id) made ∙ v.table)
    (ap (λ s. s.me.0) made ∙ v.rest) at one in
    new_snoc _ _ _ _ c.push_reserved-2.ensures.items v.new new

pub returns-clause-count : goal.returns-clause-count
returns-clause-count c =
    let v = c.loop-number.invariant in
    let over = c.loop-number-test.false in
    let upto = c.loop-number.auto.number-end in
    let count = v.count in
    let n = count_snoc _ _ _ c.push_reserved-2.ensures.items in
    omega arith

pub returns-clause-shares : goal.returns-clause-shares
returns-clause-shares c =
    opens_shares c.args.round.now c.args.workers _ (returns-clause-new c) (returns-clause-count c)
