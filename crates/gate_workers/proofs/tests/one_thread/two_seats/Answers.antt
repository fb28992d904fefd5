use Rattle.std.proofs.Common.{arith}
use Rattle.word_rule.proofs.Seats.{count_snoc}
use Rattle.gate_workers.proofs.Seats.{new_last, new_at}
use Rattle.gate_workers.proofs.tests.one_thread.two_seats.Goals as goal

pub returns-clause-second : goal.returns-clause-second
returns-clause-second c =
    let last = new_last _ _ _ _ c.in-Some.ensures.items c.requires.new in
    let count = count_snoc _ _ _ c.in-Some.ensures.items in
    let two = c.requires.two in
    new_at _ _ 1 _ last.0 (omega arith)

pub returns-clause-first : goal.returns-clause-first
returns-clause-first c =
    let last = new_last _ _ _ _ c.in-Some.ensures.items c.requires.new in
    let count = count_snoc _ _ _ c.in-Some.ensures.items in
    let next = new_last _ _ _ _ c.in-Some-pop.ensures.items last.1 in
    let next_count = count_snoc _ _ _ c.in-Some-pop.ensures.items in
    let two = c.requires.two in
    new_at _ _ 0 _ next.0 (omega arith)
