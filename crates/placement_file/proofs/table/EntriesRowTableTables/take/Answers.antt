use Rattle.placement_file.proofs.Growing.{HasRows-next, meaning-new, meaning-repeated}
use Rattle.std.proofs.Common.{◌∙◌}
use Rattle.placement_file.proofs.table.EntriesRowTableTables.take.Goals as goal

pub returns-in-Some-index : goal.returns-in-Some-index
returns-in-Some-index g c = λ version earlier row has says. (
  meaning-repeated (g.P.Finder.numbers c.args.tables.now.programmes.now)
      (g.C.Finder.numbers c.args.tables.now.candidates.now) earlier row c.args.self.now.items.items
      c.args.fields has says c.get.result c.in-Some.index c.get.ensures.value c.in-Some.ensures
      c.index.result.now c.index.ensures c.in-Some-index.held c.duplicate_at.result
      c.in-Some-index.is c.duplicate_at.ensures,
  has,
)

pub returns-in-Err : goal.returns-in-Err
returns-in-Err g c = λ version earlier row has says. (
  meaning-new (g.P.Finder.numbers c.args.tables.now.programmes.now)
      (g.C.Finder.numbers c.args.tables.now.candidates.now) earlier row c.args.self.now.items.items
      c.args.fields has says c.get.result c.in-Some.index c.get.ensures.value c.in-Some.ensures
      c.index.result.now c.index.ensures c.in_default-index.is
      ∙ c.in-Err.ensures,
  has,
)

pub returns : goal.returns
returns g c = λ version earlier row has says.
    let programmes = g.P.Finder.numbers c.args.tables.now.programmes.now in
    let candidates = g.C.Finder.numbers c.args.tables.now.candidates.now in
    let entries = c.args.self.now.items.items in (
      meaning-new programmes candidates earlier row entries c.args.fields has says c.get.result
          c.in-Some.index c.get.ensures.value c.in-Some.ensures c.index.result.now c.index.ensures
          c.in_default-index.is
          ∙ c.in-Ok.ensures.0,
      HasRows-next programmes candidates earlier row entries c.args.fields has says c.get.result
          c.in-Some.index c.get.ensures.value c.in-Some.ensures c.index.result.now c.index.ensures
          c.in-Ok.programme c.in_default-index.is c.in-Ok.ensures.1,
    )
