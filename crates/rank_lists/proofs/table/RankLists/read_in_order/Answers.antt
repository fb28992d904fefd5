use Rattle.std.proofs.Common.{◌≡◌, ◌∙◌, None, Some, sym, ap, arith}
use Rattle.rank_lists.proofs.Reading.{fault-of-duplicate, fault-of-stop, rows-of-duplicate, same-length, table-of-turns}
use Rattle.rank_lists.specs.Rows.{ranks_fault}
use Rattle.rank_lists.specs.Table.{IsSound, ranks_table, table_with}
use Rattle.rank_lists.proofs.table.RankLists.read_in_order.Goals as goal
use Rattle.rank_lists.proofs.table.RankLists.read_in_order.Goals.{After-count}

-- the sorted ranks are the table of the file, which has no fault
sorted : (g : _) (c : After-count g)
    → let found = table_with c.count.result c.in_ok-turns.turns.orders.items
    c.in_ok-turns.turns.ranks.items in
    (ranks_fault c.args.bytes.now ≡ None)
    × (found ≡ ranks_table (g.T.TypeFinder.names c.args.types.now)
    (g.C.Finder.numbers c.args.candidates.now) c.args.bytes.now) × IsSound found
sorted g c =
    table-of-turns _ _ _ _ _ (c.in_ok-read.ensures {u = tt}) (c.in_ok-duplicate.ensures {u = tt})
    c.count.result _ _ c.in_default.is c.in_default-fault.is c.count.ensures.length
    (omega (arith, c.count.type_inv)) (c.in_ok-turns.ensures {u = tt})

pub read_rows-requires-clause-empty : goal.read_rows-requires-clause-empty
read_rows-requires-clause-empty g c = λ version.
    c.in_ok-empty.ensures {u = tt} (g.T.TypeFinder.names c.args.types.now)
    (sym c.type_count.ensures.length)

pub first_duplicate-requires : goal.first_duplicate-requires
first_duplicate-requires g c =
    same-length _ (g.C.Finder.numbers c.args.candidates.now) c.args.bytes.now c.in_ok-read.read
    (c.in_ok-read.ensures {u = tt}).taken

pub fault-requires-clause-earlier : goal.fault-requires-clause-earlier
fault-requires-clause-earlier g c =
    (rows-of-duplicate _ (g.C.Finder.numbers c.args.candidates.now) _ _ _
    (c.in_ok-read.ensures {u = tt}) (c.in_ok-duplicate.ensures {u = tt}) _ c.in-Some.is).0

pub fault-requires-clause-later : goal.fault-requires-clause-later
fault-requires-clause-later g c =
    (rows-of-duplicate _ (g.C.Finder.numbers c.args.candidates.now) _ _ _
    (c.in_ok-read.ensures {u = tt}) (c.in_ok-duplicate.ensures {u = tt}) _ c.in-Some.is).1

pub returns-in-Some : goal.returns-in-Some
returns-in-Some g c =
    fault-of-duplicate _ (g.C.Finder.numbers c.args.candidates.now) _ _ _
    (c.in_ok-read.ensures {u = tt}) (c.in_ok-duplicate.ensures {u = tt}) _ c.in-Some.is
    ∙ ap (λ fault. Some fault) (sym c.fault.ensures)

pub returns-in-Some-fault : goal.returns-in-Some-fault
returns-in-Some-fault g c =
    fault-of-stop _ (g.C.Finder.numbers c.args.candidates.now) _ _ _
    (c.in_ok-read.ensures {u = tt}) (c.in_ok-duplicate.ensures {u = tt})
    c.in-Some-fault.fault c.in_default.is c.in-Some-fault.is

pub of_turns-requires : goal.of_turns-requires
of_turns-requires g c = (sorted g (goal.at.of_turns-requires g c).After-count).2

pub returns : goal.returns
returns g c =
    let read = sorted g (goal.at.returns g c).After-count in
    (read.0, c.of_turns.ensures ∙ read.1)
