use Rattle.std.proofs.Common.{◌∙◌, sym, arith}
use Rattle.std.proofs.lemmas.Nat.{mul-le}
use Rattle.market.proofs.Plain.{IsRoundsUpto-none, IsRoundsUpto-more, rounds-fall, rounds_small, total_small, outcome_is}
use Rattle.market.proofs.Replays.{round-table, round-best_programmes}
use Rattle.dictatorship.proofs.mechanism.mechanism_plain.Goals as goal

pub rounds-init : goal.rounds-init
rounds-init c = IsRoundsUpto-none c.args.market.now c.in_ok-cuts.cuts c.in_ok-cuts.ensures.cuts

pub overflow_add-result : goal.overflow_add-result
overflow_add-result c = let h =
    rounds_small c.args.market.now c.all_turns-turns.ensures.valid c.rounds.rounds c.rounds.total
    c.rounds.cuts c.rounds.invariant in omega arith

pub overflow_add-rounds : goal.overflow_add-rounds
overflow_add-rounds c = let h =
    rounds_small c.args.market.now c.all_turns-turns.ensures.valid c.rounds.rounds c.rounds.total
    c.rounds.cuts c.rounds.invariant in omega arith

pub returns-then-settled : goal.returns-then-settled
returns-then-settled c =
    outcome_is c.args.market.now c.rounds.rounds c.rounds.total c.from.result
    c.all_turns-turns.result c.rounds.cuts c.from_vec.result c.rounds.invariant
    (sym c.cut_round-count.ensures.count ∙ c.if-settled.true)
    (c.from_vec.ensures ∙ c.in_ok-held.ensures
    ∙ round-best_programmes c.args.market.now c.all_turns-turns.ensures.valid c.rounds.cuts
    c.in_ok-table.table c.in_ok-table.ensures)
    c.from.ensures
    c.all_turns-turns.ensures.turns

pub overflow_add-rounds-in-rounds : goal.overflow_add-rounds-in-rounds
overflow_add-rounds-in-rounds c = let h =
    rounds_small c.args.market.now c.all_turns-turns.ensures.valid c.rounds.rounds c.rounds.total
    c.rounds.cuts c.rounds.invariant in omega arith

pub overflow_add-total : goal.overflow_add-total
overflow_add-total c = let h =
    total_small c.args.market.now c.all_turns-turns.ensures.valid c.rounds.rounds c.rounds.total
    c.cut_round-count.result c.rounds.cuts c.rounds.invariant c.cut_round-count.ensures.count in
    omega arith

pub rounds-smaller : goal.rounds-smaller
rounds-smaller c =
    rounds-fall c.args.market.now c.cut_round-count.result c.rounds.cuts c.cut_round-count.new.cuts
    c.cut_round-count.ensures.cuts c.cut_round-count.ensures.count c.if-settled.false

pub rounds-preserved : goal.rounds-preserved
rounds-preserved c =
    IsRoundsUpto-more c.args.market.now c.rounds.rounds c.rounds.total c.cut_round-count.result
    c.rounds.cuts c.cut_round-count.new.cuts c.rounds.invariant c.cut_round-count.ensures.cuts
    c.cut_round-count.ensures.count c.if-settled.false

pub best_programmes-requires : goal.best_programmes-requires
best_programmes-requires c =
    round-table c.args.market.now c.rounds.cuts c.in_ok-table.table c.in_ok-table.ensures

pub overflow_mul-result : goal.overflow_mul-result
overflow_mul-result c =
    let rounds = c.rounds.auto.rounds-fits in
    let same = c.from.ensures in
    let few = c.all_turns-turns.ensures.few in
    let turns = c.all_turns-turns.result in
    let most = mul-le c.from.result turns 4294967296 112000000 (omega arith) (omega arith) in
    omega arith
