use Rattle.std.proofs.Common.{ℕ, None, Option, List, length, map, replicate, sym, ap, ◌∙◌}
use Rattle.std.proofs.lemmas.List.{length-map}
use Rattle.market.specs.Stability.{held_by}
use Rattle.record_files.specs.Rows.{data_rows}
use Rattle.placement_file.proofs.Growing.{held-entries, held-listed, no_entries}
use Rattle.placement_file.specs.Growth.{programme_held}
use Rattle.placement_file.specs.Table.{held_in}
use Rattle.placement_file.specs.declared.row.Held.{Held}
use Rattle.placement_file.proofs.table.read_placement.Goals as goal

pub read_table-requires-clause-empty : goal.read_table-requires-clause-empty
read_table-requires-clause-empty g c =
    let programmes = g.P.Finder.numbers c.args.programmes.now in
    let candidates = g.C.Finder.numbers c.args.candidates.now in
    λ version. record {
      distinct = c.count.ensures.distinct;
      entries_are = c.in_ok-items.ensures
          ∙ ap (λ (n : ℕ). replicate {A = Option Held} n None) c.count.ensures.length
          ∙ no_entries programmes candidates;
    }

pub returns-clause-read : goal.returns-clause-read
returns-clause-read g c =
    let programmes = g.P.Finder.numbers c.args.programmes.now in
    let candidates = g.C.Finder.numbers c.args.candidates.now in
    let rows = data_rows c.args.bytes.now in (
      c.in_ok-read.ensures.0,
      c.in_ok-held.ensures ∙ ap (map programme_held) c.deref.ensures.value
          ∙ ap (map programme_held) c.in_ok-read.ensures.1.entries_are
          ∙ held-entries programmes rows candidates,
    )

pub returns-clause-candidates : goal.returns-clause-candidates
returns-clause-candidates g c =
    let programmes = g.P.Finder.numbers c.args.programmes.now in
    let candidates = g.C.Finder.numbers c.args.candidates.now in
    let rows = data_rows c.args.bytes.now in
    ap (λ (held : List (Option ℕ)). length held) (returns-clause-read g c).1
    ∙ length-map candidates (held_in programmes rows)

pub returns-clause-programmes : goal.returns-clause-programmes
returns-clause-programmes g c = λ i p holds.
    let programmes = g.P.Finder.numbers c.args.programmes.now in
    let candidates = g.C.Finder.numbers c.args.candidates.now in
    let rows = data_rows c.args.bytes.now in
    held-listed programmes rows candidates i p
    (ap (λ (held : List (Option ℕ)). held_by held i) (sym (returns-clause-read g c).1) ∙ holds)
