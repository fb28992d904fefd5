use Rattle.std.proofs.Common.{◌≡◌, ◌∙◌, ◌-◌, List, [], ◌∷◌, length, drop, sym, ap, arith, Option, Some, None, MatchOption, length-drop}
use Rattle.std.proofs.lemmas.List.{drop-drop}
use Rattle.record_files.specs.Rows.{Row, data_rows}
use Rattle.rank_lists.proofs.duplicates.line_at.Goals as goal

-- a row that is given is the first of those left
next-drops : (r : Option Row) (old new : List Row)
    → MatchOption r ((old ≡ []) × (new ≡ [])) (λ row. old ≡ row ∷ new) → new ≡ drop 1 old
next-drops None old new h = h.1 ∙ sym (ap (drop 1) h.0)
next-drops (Some row) old new h = sym (ap (drop 1) h)

pub loop-preserved : goal.loop-preserved
loop-preserved c =
    next-drops c.next-row.result c.loop.records c.next-row.new.self c.next-row.ensures
    ∙ ap (drop 1) c.loop.invariant ∙ drop-drop 1 c.loop.counter (data_rows c.args.bytes.now)

pub unreachable-requires : goal.unreachable-requires
unreachable-requires c =
    let none : 0 ≡ length (data_rows c.args.bytes.now) - c.loop.counter =
    sym (ap length c.in-None.ensures.0) ∙ ap length c.loop.invariant
    ∙ length-drop c.loop.counter (data_rows c.args.bytes.now) in
    let within = c.requires.within in
    omega arith
