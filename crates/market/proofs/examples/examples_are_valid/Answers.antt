use Rattle.market.proofs.Checks.{exchange_valid, freed_seat_valid, three_rounds_valid, rank_bars_valid, two_turns_valid}
use Rattle.market.proofs.examples.examples_are_valid.Goals as goal

pub returns-clause-exchange : goal.returns-clause-exchange
returns-clause-exchange c = exchange_valid

pub returns-clause-freed_seat : goal.returns-clause-freed_seat
returns-clause-freed_seat c = freed_seat_valid

pub returns-clause-three_rounds : goal.returns-clause-three_rounds
returns-clause-three_rounds c = three_rounds_valid

pub returns-clause-rank_bars : goal.returns-clause-rank_bars
returns-clause-rank_bars c = rank_bars_valid

pub returns-clause-two_turns : goal.returns-clause-two_turns
returns-clause-two_turns c = two_turns_valid
