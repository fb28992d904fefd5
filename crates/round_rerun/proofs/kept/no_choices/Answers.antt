use Rattle.std.proofs.Common.{◌≡◌, ℕ, ◌∙◌, ap, List, [], length, arith, replicate}
use Rattle.std.proofs.lemmas.List.{length_push}
use Rattle.market.specs.Problems.{order_of}
use Rattle.market.proofs.Tables.{each_more}
use Rattle.round_rerun.specs.declared.kept.TheConstants.{NO_CHOICE}
use Rattle.round_rerun.proofs.kept.no_choices.Goals as goal

pub loop-kind-preserved : goal.loop-kind-preserved
loop-kind-preserved c =
    let m = c.args.market.now in
    let P = λ (t : ℕ) (xs : List ℕ). xs ≡ replicate (length (order_of m t)) NO_CHOICE in
    let chosen = c.loop-kind.chosen.items in
    let row = c.in_ok-of_kind.of_kind in
    let inv = c.loop-kind.invariant in
    let count = inv.count in
    let pushed = c.in_ok-push.ensures.items in
    let n = ap (λ (xs : List (List ℕ)). length xs) pushed ∙ length_push chosen row in
    record {
      count = omega arith;
      each = each_more [] P chosen c.push.new.self.items row c.loop-kind.kind inv.count pushed
          inv.each (c.in_ok-of_kind.ensures ∙ ap (λ (xs : List ℕ). replicate (length xs) NO_CHOICE)
          c.order-turns.ensures.order);
    }

pub returns-clause-types : goal.returns-clause-types
returns-clause-types c =
    let n = c.type_count-kind-end.ensures.count in
    let count = c.loop-kind.invariant.count in
    omega arith

pub returns-clause-each : goal.returns-clause-each
returns-clause-each c = λ t l.
    let n = c.type_count-kind-end.ensures.count in
    c.loop-kind.invariant.each t (omega arith)
