use Rattle.std.proofs.Common.{◌≡◌, ◌∙◌, arith, length}
use Rattle.std.proofs.lemmas.List.{take_at}
use Rattle.market.proofs.Seats.{IsSeatsAt-start, choices-more, choices-all}
use Rattle.dictatorship.proofs.turns.run_plain.Goals as goal

pub loop-turn-init : goal.loop-turn-init
loop-turn-init c = record {
  seats = IsSeatsAt-start c.args.dict.now c.in_ok-seats.seats.items c.turns-turn-end.ensures.valid
      c.in_ok-seats.ensures;
  found = c.new-found.ensures.items;
}

pub loop-turn-preserved : goal.loop-turn-preserved
loop-turn-preserved c = record {
  seats =
      let count = c.choose.ensures.seats.count in
      let same : length c.choose.new.seats ≡ c.loop-turn.seats.len = omega arith in
      rw take_at c.choose.ensures.seats;
  found = choices-more c.args.dict.now c.loop-turn.turn c.choose.result c.loop-turn.found.items
      c.push.new.self.items c.loop-turn.invariant.found c.in_ok-push.ensures.items
      c.choose.ensures.choice;
}

pub returns : goal.returns
returns c =
    c.loop-turn.invariant.found
    ∙ choices-all c.args.dict.now c.loop-turn.turn
    (let e = c.turns-turn-end.ensures.count in omega arith)
