use Rattle.std.proofs.Common.{◌≡◌, ◌∷◌, ◌+◌, [], Ok, ap, arith, subst, sym, ◌∙◌}
use Rattle.std.specs.Vec.Iter.{into_iter_items}
use Rattle.std.proofs.lemmas.List.{nil_from_length}
use Rattle.piece_reader.specs.Ahead.{ArePartsRead}
use Rattle.piece_reader.proofs.ReadingAhead.{PartsLeft, PartsLeft-ends, PartsLeft-next}
use Rattle.piece_reader.proofs.ahead.whole.Goals as goal

pub parts-preserved : goal.parts-preserved
parts-preserved g c =
    let of_file = g.G.RowTable.rules c.args.beside.now in
    let has = g.G.RowTable.has_rows c.args.beside.now in
    let left = into_iter_items c.next.new.self in
    let part = c.in-Some-2.part in
    record {
      tables = λ header lists each.
          let here = subst (PartsLeft of_file header has lists c.parts.tables.items c.parts.rows)
          (c.in-Some.ensures.items
          ∙ ap (λ read. read ∷ left) (c.in_ok-part.was ∙ ap (λ read. Ok read) c.in-Some-2.is))
          (c.parts.invariant.tables header lists each) in
          subst (λ tables. PartsLeft of_file header has lists tables
          (c.parts.rows + part.count) left)
          (sym c.in_ok-push.ensures.items)
          (PartsLeft-next of_file header has lists c.parts.tables.items c.parts.rows part left
          here);
      few = omega (arith, c.parts.invariant.few);
    }

pub returns : goal.returns
returns g c = λ header lists each.
    let of_file = g.G.RowTable.rules c.args.beside.now in
    let has = g.G.RowTable.has_rows c.args.beside.now in
    let every =
    subst (ArePartsRead of_file header has lists) (sym c.into_iter-left.ensures.rest) each in
    let none : into_iter_items c.parts.left ≡ [] =
    nil_from_length (into_iter_items c.parts.left) (omega (arith, c.in_default.ensures.cases.0)) in
    PartsLeft-ends of_file header has lists c.parts.tables.items c.parts.rows
    (omega (arith, c.parts.invariant.few, c.most_rows-most_rows.ensures))
    (subst (PartsLeft of_file header has lists c.parts.tables.items c.parts.rows) none
    (c.parts.invariant.tables header lists every))
