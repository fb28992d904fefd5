use Rattle.std.proofs.Common.{◌≡◌, ◌+◌, ◌-◌, ◌*◌, ◌/◌, slice_get, arith, rules, ap, sym, ◌∙◌, length}
use Rattle.std.proofs.Math.Nat.{zero-mul, zero-div}
use Rattle.registration_desk.specs.Desks.{IsNew, at_opening, key_of}
use Rattle.registration_desk.specs.Clerks.{part_of}
use Rattle.registration_desk.proofs.Shares.{split_keeps}
use Rattle.registration_desk.proofs.Parts.{part_is, part_within, part_last}
use Rattle.registration_desk.proofs.Clerks.{new_snoc, count_snoc}
use Rattle.registration_desk.proofs.opening.split_all.Goals as goal

pub split_seat-next-requires : goal.split_seat-next-requires
split_seat-next-requires c =
    let v = c.loop-number.invariant in
    let below = c.loop-number-test.true in
    let from = c.loop-number.auto.number in
    let share = v.rest.share in (
      v.table,
      search rules,
      split_keeps _ _ _ (omega arith) v.free (part_within _ _ _ _ v.rest (omega arith)).0,
    )

pub loop-number-init : goal.loop-number-init
loop-number-init c =
    let f = ap (λ m. m.0) c.requires.first in
    let share = ap (λ x. x.share) f in
    let left = ap (λ x. x.left) f in
    let count = c.requires.count.0 in
    let empty = ap (λ l. length l) c.requires.empty.0 in
    let len = c.requires.empty.1 in
    let nothing : 0 * c.args.count / c.args.clerks ≡ 0 =
    ap (λ k. k / c.args.clerks) (zero-mul c.args.count) ∙ zero-div c.args.clerks in
    record {
      table = c.requires.table;
      bare = ap (λ m. m.1) c.requires.first;
      free = ap (λ x. x.holds) f;
      served = ap (λ x. x.served) f;
      rest = record {
        same_requests = ap (λ x. length x.requests) f ∙ sym count;
        same_clerks = ap (λ x. x.clerks) f;
        share = omega arith;
        left = omega arith;
      };
      new = λ k clerk is. absurd (let e = ap (λ l. slice_get l k) c.requires.empty.0 in cc (e, is));
      count = omega arith;
      len = omega arith;
      room = c.requires.room;
    }

pub loop-number-preserved : goal.loop-number-preserved
loop-number-preserved c =
    let v = c.loop-number.invariant in
    let below = c.loop-number-test.true in
    let from = c.loop-number.auto.number in
    let e = c.split_seat-next.ensures in
    let made = c.new_clerk.ensures in
    let kept = ap (λ m. m.0) e.2 in
    let given = ap (λ m. m.0) e.4 in
    let count = v.count in
    let share = v.rest.share in
    let len = v.len in
    let number : c.loop-number.number - 1 ≡ length c.loop-number.crew.items = omega arith in
    let same : part_of c.args.count c.args.clerks (c.loop-number.number - 1)
    ≡ part_of (length (at_opening c.args.desk.now).requests) (key_of c.args.desk.now).clerks
    (length c.loop-number.crew.items) =
    λ k. part_of (c.requires.count.0 k) (sym c.requires.clerks.2 k) (number k) in
    let next : (c.loop-number.number - 1) + 1 ≡ c.loop-number.number + 1 - 1 = omega arith in
    let new : IsNew c.args.desk.now (length c.loop-number.crew.items) c.new_clerk.result = record {
      of_desk = ap (λ s. s.table_id) made ∙ (e.0 ∙ v.table);
      share = ap (λ s. s.me.0.share) made ∙ ap (λ m. m.share) kept;
      left = ap (λ s. s.me.0.left) made ∙ (ap (λ m. m.left) kept ∙ (part_is _ _ _ _ v.rest ∙ same));
      served = ap (λ s. s.me.0.served) made ∙ (ap (λ m. m.served) kept ∙ v.served);
    } in
    record {
      table = e.3 ∙ v.table;
      bare = ap (λ m. m.1) e.4;
      free = ap (λ m. m.holds) given ∙ v.free;
      served = ap (λ m. m.served) given;
      rest = record {
        same_requests = ap (λ x. length x.requests) given ∙ v.rest.same_requests;
        same_clerks = ap (λ x. x.clerks) given ∙ v.rest.same_clerks;
        share = let n = ap (λ x. x.share) given in omega arith;
        left = ap (λ x. x.left) given
            ∙ ((part_within _ _ _ _ v.rest (omega arith)).1
            ∙ ap (λ n. c.args.count - n * c.args.count / c.args.clerks) next);
      };
      new = new_snoc _ _ _ _ c.push_reserved.ensures.items v.new new;
      count = let n = count_snoc _ _ _ c.push_reserved.ensures.items in omega arith;
      len = let n = c.push_reserved.ensures.len in omega arith;
      room = search rules;
    }

pub new_clerk-requires-2-clause-left : goal.new_clerk-requires-2-clause-left
new_clerk-requires-2-clause-left c =
    let v = c.loop-number.invariant in
    let over = c.loop-number-test.false in
    let upto = c.loop-number.auto.number-end in
    let from = c.loop-number.auto.number in
    let staffed = c.requires.clerks.0 in
    let number : c.loop-number.number - 1 ≡ c.args.clerks - 1 = omega arith in
    let few = c.requires.count.1 in
    let within = c.part-2.ensures.within in (
      part_last _ _ _ _ v.rest (omega arith)
          ∙ (ap (λ n. part_of c.args.count c.args.clerks n) number ∙ sym c.part-2.ensures.part),
      omega arith,
    )

pub returns-clause-new : goal.returns-clause-new
returns-clause-new c =
    let v = c.loop-number.invariant in
    let made = c.new_clerk-2.ensures in
    let over = c.loop-number-test.false in
    let upto = c.loop-number.auto.number-end in
    let from = c.loop-number.auto.number in
    let staffed = c.requires.clerks.0 in
    let share = v.rest.share in
    let count = v.count in
    let number : c.loop-number.number - 1 ≡ length c.loop-number.crew.items = omega arith in
    let same : part_of c.args.count c.args.clerks (c.loop-number.number - 1)
    ≡ part_of (length (at_opening c.args.desk.now).requests) (key_of c.args.desk.now).clerks
    (length c.loop-number.crew.items) =
    λ k. part_of (c.requires.count.0 k) (sym c.requires.clerks.2 k) (number k) in
    let new : IsNew c.args.desk.now (length c.loop-number.crew.items) c.new_clerk-2.result =
    record {
      of_desk = ap (λ s. s.table_id) made ∙ v.table;
      share = let s = ap (λ s. s.me.0.share) made in omega arith;
      left = ap (λ s. s.me.0.left) made ∙ (part_last _ _ _ _ v.rest (omega arith) ∙ same);
      served = ap (λ s. s.me.0.served) made ∙ v.served;
    } in
    new_snoc _ _ _ _ c.push_reserved-2.ensures.items v.new new
