use Rattle.std.proofs.Common.{sym, ap, ◌∙◌, arith, List, ℕ}
use Rattle.std.specs.Str.{bytes_eq}
use Rattle.place_edges.proofs.Entries.{held-found}
use Rattle.place_edges.proofs.held.find_entry.Goals as goal

pub returns-then-eq : goal.returns-then-eq
returns-then-eq c =
    let name = ap (λ (e : List ℕ × List ℕ). e.0) (sym c.entry.view_is)
    ∙ sym c.as_str.ensures.value in
    let same = ap (λ v. bytes_eq v c.args.name.now) name ∙ sym c.eq.ensures ∙ c.if-eq.true in (
      c.loop-index.invariant ∙ held-found c.args.entries.now c.args.name.now c.loop-index.index
          c.index-entries-index.result (omega arith) c.index-entries-index.is same,
      omega arith,
    )
