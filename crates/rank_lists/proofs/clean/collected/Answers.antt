use Rattle.std.proofs.Common.{◌≡◌, ◌∙◌, ◌∷◌, List, [], Ok, Option, Result, ap, arith, length, subst, sym}
use Rattle.std.specs.Vec.Iter.{into_iter_items}
use Rattle.std.specs.declared.alloc.AllocError.{AllocError}
use Rattle.std.proofs.lemmas.List.{nil_from_length}
use Rattle.rank_lists.specs.Clean.{AreEachRead}
use Rattle.rank_lists.specs.declared.turns.Turns.{Turns}
use Rattle.rank_lists.proofs.Collecting.{CollectsTo, CollectsTo-begin, CollectsTo-ends, CollectsTo-next}
use Rattle.rank_lists.proofs.clean.collected.Goals as goal

pub types-init : goal.types-init
types-init c = λ parts read.
    rw (c.in_ok-orders.ensures.items, c.in_ok-ranks.ensures.items)
    (CollectsTo-begin parts (into_iter_items c.into_iter-left.result))

pub types-preserved : goal.types-preserved
types-preserved c = λ parts read.
    let all = into_iter_items c.into_iter-left.result in
    let left = into_iter_items c.next.new.self in
    let here = subst (CollectsTo parts all c.types.orders.items c.types.ranks.items)
    (c.in-Some.ensures.items
    ∙ ap (λ (of_type : Result (Option Turns) AllocError). of_type ∷ left)
    (c.in_ok-of_type.was ∙ ap (λ (turns : Option Turns). Ok turns) c.in-Some-2.is))
    (c.types.invariant parts read) in
    rw (c.in_ok-push.ensures.items, c.in_ok-push-2.ensures.items)
    (CollectsTo-next parts all c.types.orders.items c.types.ranks.items c.in-Some-2.of_type left
    read here)

pub returns : goal.returns
returns c = λ types parts read.
    let all = into_iter_items c.into_iter-left.result in
    let items = c.into_iter-left.ensures.rest in
    let every = subst (λ (turns : List (Result (Option Turns) AllocError)).
    AreEachRead (length turns) parts turns) (sym items)
    (subst (λ n. AreEachRead n parts c.args.turns.items) (sym read.size) read) in
    let none : into_iter_items c.types.left ≡ [] =
    nil_from_length (into_iter_items c.types.left) (omega (arith, c.in_default.ensures.cases.0)) in
    CollectsTo-ends parts all types c.types.orders.items c.types.ranks.items
    (ap length items ∙ read.size)
    (subst (CollectsTo parts all c.types.orders.items c.types.ranks.items) none
    (c.types.invariant parts every))
