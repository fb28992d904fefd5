use Rattle.std.proofs.Common.{ap, arith, subst}
use Rattle.record_files.proofs.FirstFaultLemmas.{TakesTo, TakesTo-begin, TakesTo-ends, TakesTo-next, TakesTo-stops}
use Rattle.record_files.specs.Form.{Form}
use Rattle.record_files.proofs.reading.take_rows.Goals as goal

pub rows-init : goal.rows-init
rows-init g c = record {
  few = omega arith;
  taken = TakesTo-begin (g.T.RowTable.rules c.args.beside.now) c.args.header
      (g.T.RowTable.has_rows c.args.beside.now) c.args.records c.args.table (c.requires.empty c.args.header.version);
}

pub returns-in-Some-2 : goal.returns-in-Some-2
returns-in-Some-2 g c =
    let of_file = g.T.RowTable.rules c.args.beside.now in
    let has = g.T.RowTable.has_rows c.args.beside.now in
    let t = subst (TakesTo of_file c.args.header has c.args.records c.rows.count c.rows.table)
    c.in-Some.ensures c.rows.invariant.taken in
    TakesTo-stops of_file c.args.header has c.args.records c.rows.count c.rows.table
    c.take_row.new.table c.in-Some.row c.next.new.self _ t (c.in_ok-fault.ensures {u = tt})
    c.in-Some-2.fault c.in-Some-2.is

pub rows-preserved : goal.rows-preserved
rows-preserved g c =
    let of_file = g.T.RowTable.rules c.args.beside.now in
    let has = g.T.RowTable.has_rows c.args.beside.now in
    let t = subst (TakesTo of_file c.args.header has c.args.records c.rows.count c.rows.table)
    c.in-Some.ensures c.rows.invariant.taken in
    let next = TakesTo-next of_file c.args.header has c.args.records c.rows.count c.rows.table
    c.take_row.new.table c.in-Some.row c.next.new.self _ t (c.in_ok-fault.ensures {u = tt})
    c.in_default-2.is in
    record {
      few = omega (arith, next.0, ap (λ (form : Form). form.most_rows) c.form-form.ensures);
      taken = next.1;
    }

pub returns : goal.returns
returns g c =
    let of_file = g.T.RowTable.rules c.args.beside.now in
    let has = g.T.RowTable.has_rows c.args.beside.now in
    TakesTo-ends of_file c.args.header has c.args.records c.rows.count c.rows.table
    (subst (TakesTo of_file c.args.header has c.args.records c.rows.count c.rows.table)
    (c.in_default.ensures {u = tt}).0 c.rows.invariant.taken)
