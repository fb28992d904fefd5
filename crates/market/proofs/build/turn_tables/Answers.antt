use Rattle.std.proofs.Common.{ℕ, ◌∙◌, ap, sym, subst, List, [], length, arith}
use Rattle.std.proofs.lemmas.List.{length_push}
use Rattle.market.specs.Problems.{order_of}
use Rattle.market.specs.Tables.{IsTurnTable}
use Rattle.market.proofs.Tables.{each_more}
use Rattle.market.proofs.build.turn_tables.Goals as goal

pub loop-kind-preserved : goal.loop-kind-preserved
loop-kind-preserved c =
    let m = c.args.parts.now in
    let P = λ (t : ℕ) (xs : List ℕ). IsTurnTable (length m.lists) (order_of m t) xs in
    let turns = c.loop-kind.turns.items in
    let table = c.from_vec.result in
    let k = c.loop-kind.kind in
    let inv = c.loop-kind.invariant in
    let count = inv.count in
    let pushed = c.in_ok-push.ensures.items in
    let n = ap (λ (xs : List (List ℕ)). length xs) pushed ∙ length_push turns table in
    record {
      count = omega arith;
      each = each_more [] P turns c.push.new.self.items table k inv.count pushed inv.each
          (subst (P k) (sym c.from_vec.ensures) c.in_ok-table.ensures);
    }

pub returns : goal.returns
returns c =
    let inv = c.loop-kind.invariant in
    let count = inv.count in
    record { count = omega arith; each = λ t l. inv.each t (omega arith) }
