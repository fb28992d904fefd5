use Rattle.std.proofs.Common.{◌≡◌, ℕ, ◌∙◌, ap, sym, subst, List, Option, length, drop, arith}
use Rattle.std.specs.Option.{IfSome}
use Rattle.std.specs.Prelude.{slice_index_or}
use Rattle.std.proofs.lemmas.List.{get_or-set_other, length-set, length_push, take_at}
use Rattle.market.specs.TypeLists.{FlatTypeLists, IsTypeLists, type_lists_at}
use Rattle.market.proofs.TurnLists.{type_lists_more}
use Rattle.market.proofs.type_lists_by.type_lists_by.Goals as goal

pub loop-kind-init : goal.loop-kind-init
loop-kind-init g c =
    let made = c.make_lists.new.made in
    let kept = c.make_lists.auto.made in
    let len = c.as_mut_slice.ensures.len in
    let count = c.in_ok-made.ensures in
    let same : length made ≡ c.in_ok-made.made.len = omega arith in
    let all : length made ≡ c.type_count-types.result = omega arith in
    let whole =
    take_at made (drop (length made) c.in_ok-made.made.items) c.in_ok-made.made.len same in
    let found = c.new-found.result.items in
    let none = λ (t : ℕ). IsTypeLists c.args.parts.now t (type_lists_at found t) in
    record {
      made = ap (λ (os : List (Option FlatTypeLists)). length os) whole ∙ all;
      count = ap (λ (xs : List FlatTypeLists). length xs) c.new-found.ensures.items;
      each = λ t l. absurd {A = none t} (omega arith);
      left = λ t d h l.
          subst
          (λ (os : List (Option FlatTypeLists)).
          IfSome (slice_index_or os t d) (IsTypeLists c.args.parts.now t))
          (sym whole)
          (c.make_lists.ensures t d (omega arith));
    }

pub index_mut-requires : goal.index_mut-requires
index_mut-requires g c = let made = c.loop-kind.invariant.made in omega arith

pub loop-kind-preserved : goal.loop-kind-preserved
loop-kind-preserved g c =
    let k = c.loop-kind.kind in
    let inv = c.loop-kind.invariant in
    let made = c.loop-kind.made.items in
    let P = IsTypeLists c.args.parts.now in
    let here : P k c.in-Some.of_kind =
    subst (λ (o : Option FlatTypeLists). IfSome o (P k))
    (sym c.index_mut.ensures.value ∙ sym c.take.ensures.value ∙ c.in-Some.is)
    (inv.left k c.index_mut.result.now (omega arith) c.loop-kind-test.true) in
    let count = inv.count in
    let pushed = c.in_ok-push.ensures.items in
    let n = ap (λ (xs : List FlatTypeLists). length xs) pushed
    ∙ length_push c.loop-kind.found.items c.in-Some.of_kind in
    record {
      made = length-set made k c.take.new.self ∙ inv.made;
      count = omega arith;
      each = type_lists_more P c.loop-kind.found.items c.push.new.self.items c.in-Some.of_kind k
          inv.count pushed inv.each here;
      left = λ t d l h.
          subst (λ (o : Option FlatTypeLists). IfSome o (P t))
          (sym (get_or-set_other made k t c.take.new.self d (λ z. omega arith)))
          (inv.left t d (omega arith) h);
    }

pub returns : goal.returns
returns g c =
    let inv = c.loop-kind.invariant in
    let count = inv.count in
    let types = c.type_count-types.ensures.count in
    record { count = omega arith; each = λ t l. inv.each t (omega arith) }
