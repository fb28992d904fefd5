use Rattle.std.proofs.Common.{[], ◌∷◌, refl, ap, ◌∙◌}
use Rattle.std.specs.Prelude.{codes, length}
use Rattle.market.specs.Mechanism.{entry_count}
use Rattle.market_summary.specs.Summaries.{placed_count, seat_count, summary, summary_lines}
use Rattle.market_summary.proofs.Lines.{from-first, line-more, no-line-more}
use Rattle.market_summary.proofs.text.summary_text.Goals as goal

pub returns : goal.returns
unfolding summary
returns c =
    let m = c.args.market.now in
    let outcome = c.args.outcome.now in
    let end = c.put_line-9.new.text.items in
    let nine = (codes "seats", seat_count m) ∷ [] in
    let eight = (codes "placed", placed_count outcome.placement) ∷ nine in
    let seven = (codes "turns", outcome.turns) ∷ eight in
    let six = (codes "cuts", outcome.cuts) ∷ seven in
    let five = (codes "rounds", outcome.rounds) ∷ six in
    let four = (codes "entries", entry_count m) ∷ five in
    let three = (codes "types", m.types) ∷ four in
    let two = (codes "programmes", length m.programmes) ∷ three in
    let behind-8 = line-more (codes "seats") (seat_count m) c.seat_count.result []
    c.put_line-8.new.text.items end end c.seat_count.ensures (c.in_ok-put_line-9.ensures {u = tt})
    (no-line-more end) in
    let behind-7 = line-more (codes "placed") (placed_count outcome.placement)
    c.placed_count.result nine c.put_line-7.new.text.items c.put_line-8.new.text.items end
    (c.placed_count.ensures ∙ ap placed_count c.held.ensures)
    (c.in_ok-put_line-8.ensures {u = tt}) behind-8 in
    let behind-6 = line-more (codes "turns") outcome.turns outcome.turns eight
    c.put_line-6.new.text.items c.put_line-7.new.text.items end refl
    (c.in_ok-put_line-7.ensures {u = tt}) behind-7 in
    let behind-5 = line-more (codes "cuts") outcome.cuts c.from-5.result seven
    c.put_line-5.new.text.items c.put_line-6.new.text.items end c.from-5.ensures
    (c.in_ok-put_line-6.ensures {u = tt}) behind-6 in
    let behind-4 = line-more (codes "rounds") outcome.rounds c.from-4.result six
    c.put_line-4.new.text.items c.put_line-5.new.text.items end c.from-4.ensures
    (c.in_ok-put_line-5.ensures {u = tt}) behind-5 in
    let behind-3 = line-more (codes "entries") (entry_count m) c.entry_count.result five
    c.put_line-3.new.text.items c.put_line-4.new.text.items end c.entry_count.ensures
    (c.in_ok-put_line-4.ensures {u = tt}) behind-4 in
    let behind-2 = line-more (codes "types") m.types c.from-3.result four
    c.put_line-2.new.text.items c.put_line-3.new.text.items end
    (c.from-3.ensures ∙ c.type_count.ensures.count) (c.in_ok-put_line-3.ensures {u = tt})
    behind-3 in
    let behind-1 = line-more (codes "programmes") (length m.programmes) c.from-2.result three
    c.put_line.new.text.items c.put_line-2.new.text.items end
    (c.from-2.ensures ∙ c.programme_count.ensures) (c.in_ok-put_line-2.ensures {u = tt})
    behind-2 in
    let behind-0 = line-more (codes "candidates") (length m.lists) c.from.result two
    c.new-text.result.items c.put_line.new.text.items end
    (c.from.ensures ∙ c.candidate_count.ensures.count) (c.in_ok-put_line.ensures {u = tt})
    behind-1 in
    from-first (summary_lines m outcome) c.new-text.result.items end c.new-text.ensures.items
    behind-0
