use Rattle.std.proofs.Common.{◌≡◌, ℕ, ◌++◌, ◌∷◌, [], List, arith, subst, sym}
use Rattle.std.specs.List.{AllZip}
use Rattle.std.specs.Vec.Iter.{into_iter_items}
use Rattle.std.proofs.lemmas.List.{nil_from_length}
use Rattle.record_files.specs.Rows.{Row}
use Rattle.piece_reader.proofs.Joining.{AddsTo, AddsTo-below, AddsTo-ends, AddsTo-next, AddsTo-stops}
use Rattle.piece_reader.proofs.joined.take_part.Goals as goal
use Rattle.piece_reader.proofs.joined.take_part.Goals.{In-Some}

-- the rows that are left, the next of them in front
adds : (g : _) (c : In-Some g) (version : ℕ) (earlier more : List Row)
    → g.T.RowTable.has_rows c.args.beside.now version earlier c.args.table.now
    → AllZip (g.T.TakesAhead.keeps c.args.beside.now version) more
    (into_iter_items c.into_iter-left.result)
    → AddsTo (g.T.RowTable.rules c.args.beside.now) version
    (g.T.TakesAhead.keeps c.args.beside.now version)
    (g.T.RowTable.has_rows c.args.beside.now version) earlier more c.rows.table
    (c.in-Some.row ∷ into_iter_items c.next.new.self)
adds g c version earlier more here kept =
    subst (AddsTo _ _ _ _ earlier more c.rows.table) c.in-Some.ensures.items
    (c.rows.invariant version earlier more here kept)

pub take_ahead-requires : goal.take_ahead-requires
take_ahead-requires g c =
    let version = c.requires.0 in
    let kept = subst (AllZip (g.T.TakesAhead.keeps c.args.beside.now version) c.requires.2)
    (sym c.into_iter-left.ensures.rest) c.requires.4 in
    let adds = adds g (goal.at.take_ahead-requires g c).In-Some version c.requires.1 c.requires.2
    c.requires.3 kept in (
      version,
      c.requires.1 ++ adds.done,
      adds.has_rows,
      AddsTo-below _ _ _ _ _ _ _ c.rows.table _ _ _ c.requires.5 adds,
    )

pub returns-in-Some-2 : goal.returns-in-Some-2
returns-in-Some-2 g c = λ version earlier more here all.
    let kept = subst (AllZip (g.T.TakesAhead.keeps c.args.beside.now version) more)
    (sym c.into_iter-left.ensures.rest) all in (
      AddsTo-stops _ _ _ _ _ _ _ c.take_ahead.new.self _ _ c.in-Some-2.fault
          (adds g (goal.at.returns-in-Some-2 g c).In-Some version earlier more here kept)
          (rw c.in-Some-2.is at (c.in_ok-fault.ensures {u = tt} version)),
      tt,
    )

pub rows-preserved : goal.rows-preserved
rows-preserved g c = λ version earlier more here kept.
    AddsTo-next _ _ _ _ _ _ _ c.take_ahead.new.self _ _
    (adds g (goal.at.rows-preserved g c).In-Some version earlier more here kept)
    (rw c.in_default-2.is at (c.in_ok-fault.ensures {u = tt} version))

pub returns : goal.returns
returns g c = λ version earlier more here all.
    let kept = subst (AllZip (g.T.TakesAhead.keeps c.args.beside.now version) more)
    (sym c.into_iter-left.ensures.rest) all in
    let none : into_iter_items c.rows.left ≡ [] =
    nil_from_length (into_iter_items c.rows.left) (omega (arith, c.in_default.ensures.cases.0)) in
    AddsTo-ends _ _ _ _ _ _ _
    (subst (AddsTo _ _ _ _ earlier more c.rows.table) none
    (c.rows.invariant version earlier more here kept))
