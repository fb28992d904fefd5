use Rattle.std.proofs.Common.{◌≡◌, length}
use Rattle.std.proofs.lemmas.List.{length-map}
use Rattle.candidate_table.specs.Table.{numbers_of}
use Rattle.rank_lists.specs.Table.{RankTable, ranks_table}
use Rattle.run_frame.proofs.JudgedTables.{judged-lent, judged-stop, table-ok, table-read}
use Rattle.place_run.proofs.Markets.{types-in-ranks}
use Rattle.place_run.proofs.JudgedFiles.{ranks-judges}
use Rattle.place_run.proofs.inputs.read_ranks.Goals as goal

pub returns-in_err-bytes-clause-judged : goal.returns-in_err-bytes-clause-judged
returns-in_err-bytes-clause-judged g c =
    judged-stop (ranks-judges _ _) c.from_residual.ensures.1 c.in_err-bytes.ensures.reading

pub returns-clause-judged : goal.returns-clause-judged
returns-clause-judged g c =
    judged-lent (ranks-judges _ _) c.read.result c.deref.ensures.value
    c.in_ok-bytes.ensures.reading c.read.ensures c.table_or_stop.ensures

pub returns-clause-types : goal.returns-clause-types
returns-clause-types g c =
    let table = ranks_table c.args.programmes.now.names (numbers_of c.args.candidates.now.numbers)
    c.deref.result.now in
    table-ok (λ (lists : RankTable). length lists.orders ≡ length c.args.programmes.now.names)
    c.read.result c.table_or_stop.result c.table_or_stop.ensures
    (table-read (λ (lists : RankTable). length lists.orders ≡ length c.args.programmes.now.names)
    _ table c.read.result c.read.ensures (types-in-ranks c.args.programmes.now.names (numbers_of
    c.args.candidates.now.numbers)
    c.deref.result.now))

pub returns-clause-candidates : goal.returns-clause-candidates
returns-clause-candidates g c =
    let table = ranks_table c.args.programmes.now.names (numbers_of c.args.candidates.now.numbers)
    c.deref.result.now in
    table-ok (λ (lists : RankTable). lists.candidates ≡ length c.args.candidates.now.numbers)
    c.read.result c.table_or_stop.result c.table_or_stop.ensures
    (table-read (λ (lists : RankTable). lists.candidates ≡ length c.args.candidates.now.numbers)
    _ table c.read.result c.read.ensures (length-map c.args.candidates.now.numbers (λ line.
    line.0)))
