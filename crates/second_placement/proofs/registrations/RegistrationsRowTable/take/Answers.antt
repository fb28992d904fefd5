use Rattle.second_placement.proofs.Registering.{HasLines-next, meaning-new, meaning-repeated}
use Rattle.second_placement.proofs.registrations.RegistrationsRowTable.take.Goals as goal

pub returns-in-Some-index : goal.returns-in-Some-index
returns-in-Some-index g c = λ version earlier row has says. (
  meaning-repeated (g.C.Finder.numbers c.args.candidates.now) earlier row
      c.args.self.now.lines.items c.args.fields has says c.get.result c.in-Some.index
      c.get.ensures.value c.in-Some.ensures c.index.result.now c.index.ensures
      c.in-Some-index.earlier c.duplicate_at.result c.in-Some-index.is c.duplicate_at.ensures,
  has,
)

pub returns : goal.returns
returns g c = λ version earlier row has says.
    let candidates = g.C.Finder.numbers c.args.candidates.now in
    let lines = c.args.self.now.lines.items in (
      meaning-new candidates earlier row lines c.args.fields has says c.get.result c.in-Some.index
          c.get.ensures.value c.in-Some.ensures c.index.result.now c.index.ensures
          c.in_default-index.is,
      HasLines-next candidates earlier row lines c.args.fields has says c.get.result
          c.in-Some.index c.get.ensures.value c.in-Some.ensures c.index.result.now c.index.ensures
          c.in_default-index.is,
    )
