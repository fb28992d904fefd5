use Rattle.std.proofs.Common.{◌≡◌, ◌<◌, ◌≤◌, length, sym, subst, ap, ◌∙◌, arith}
use Rattle.std.proofs.lemmas.List.{length-map}
use Rattle.std.specs.Prelude.{All}
use Rattle.market.specs.declared.programme.Prog.{Prog}
use Rattle.place_base.specs.declared.limits.TheConstants.{MOST_PROGRAMMES, MOST_TYPES}
use Rattle.programme_table.specs.Table.{codes_of, prog_of}
use Rattle.candidate_table.specs.Table.{IsPreferenceList}
use Rattle.place_run.proofs.Markets.{valid-market, built-market}
use Rattle.place_run.proofs.problem.build_market.Goals as goal

pub build_by-requires-clause-valid : goal.build_by-requires-clause-valid
build_by-requires-clause-valid g c κs within =
    let rows = c.args.programmes.now.rows in
    let items = c.in_ok-programmes.programmes.items in
    let counted : length items ≡ length rows = ap length c.in_ok-programmes.ensures.programmes ∙
    length-map rows prog_of in
    let coded : length (codes_of rows) ≡ length items = length-map rows (λ row. row.code) ∙ sym
    counted in
    let few : length items ≤ MOST_PROGRAMMES = omega (
      arith,
      c.in_ok-programmes.ensures.few_programmes,
    ) in
    let few_types : c.type_count-kinds.result ≤ MOST_TYPES = omega
    (arith, c.in_ok-programmes.ensures.few_types, c.type_count-kinds.ensures.length) in
    valid-market c.type_count-kinds.result items c.args.lists.items
    c.into_parts-orders.result.orders.items
    c.into_parts-orders.result.ranks.items c.args.ranks few_types few c.requires.few
    (subst (λ n. All (λ (one : Prog). one.kind < n) items) (sym c.type_count-kinds.ensures.length)
    c.in_ok-programmes.ensures.kinds)
    c.in_ok-programmes.ensures.quotas c.in_ok-programmes.ensures.bars
    (subst (λ n. All (IsPreferenceList n) c.args.lists.items) coded c.requires.lists)
    (c.requires.types ∙ sym c.type_count-kinds.ensures.length) c.requires.candidates
    c.into_parts-orders.ensures.sound
    c.into_parts-orders.ensures.orders c.into_parts-orders.ensures.ranks

pub returns-clause-market : goal.returns-clause-market
returns-clause-market g c =
    built-market c.build_by.result c.args.programmes.now c.args.ranks _ _ c.args.lists.items _ _
    c.type_count-kinds.ensures.length
    c.in_ok-programmes.ensures.programmes c.into_parts-orders.ensures.orders
    c.into_parts-orders.ensures.ranks
    c.build_by.ensures
