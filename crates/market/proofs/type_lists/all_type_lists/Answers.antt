use Rattle.std.proofs.Common.{◌∙◌, ap, List, length, arith}
use Rattle.std.proofs.lemmas.List.{length_push}
use Rattle.market.specs.TypeLists.{FlatTypeLists, IsTypeLists}
use Rattle.market.proofs.TurnLists.{type_lists_more}
use Rattle.market.proofs.type_lists.all_type_lists.Goals as goal

pub loop-kind-init : goal.loop-kind-init
loop-kind-init c = record {
  count = ap (λ (xs : List FlatTypeLists). length xs) c.new-found.ensures.items;
  each = λ t l. absurd (omega arith);
}

pub loop-kind-preserved : goal.loop-kind-preserved
loop-kind-preserved c =
    let found = c.loop-kind.found.items in
    let more = c.push.new.self.items in
    let of_kind = c.in_ok-of_kind.of_kind in
    let inv = c.loop-kind.invariant in
    let count = inv.count in
    let pushed = c.in_ok-push.ensures.items in
    let n = ap (λ (xs : List FlatTypeLists). length xs) pushed ∙ length_push found of_kind in
    record {
      count = omega arith;
      each = type_lists_more (IsTypeLists c.args.parts.now) found more of_kind c.loop-kind.kind
          inv.count pushed inv.each c.in_ok-of_kind.ensures;
    }

pub returns : goal.returns
returns c =
    let inv = c.loop-kind.invariant in
    let count = inv.count in
    record { count = omega arith; each = λ t l. inv.each t (omega arith) }
