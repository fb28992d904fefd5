use Rattle.std.proofs.Common.{refl, subst, sym, ◌++◌, ◌∷◌, []}
use Rattle.std.specs.List.{AllZip}
use Rattle.piece_reader.proofs.ReadingAhead.{AllZip-more}
use Rattle.piece_reader.proofs.ahead_rows.AheadRowsRowTable.take.Goals as goal

pub returns : goal.returns
returns g c = λ version earlier row kept says.
    let keeps = g.T.TakesAhead.keeps c.args.beside.now version in (
      refl,
      subst (AllZip keeps (earlier ++ row ∷ [])) (sym c.in_ok-push.ensures.items)
          (AllZip-more keeps earlier c.args.self.now.rows.items row c.in_ok-keep.field-0 kept
          (c.in_ok-keep.ensures {u = tt} version row says)),
    )
