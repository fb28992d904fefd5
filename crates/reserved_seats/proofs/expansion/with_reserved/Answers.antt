use Rattle.std.proofs.Common.{[], ◌∷◌, ◌++◌, append_assoc, map, sym, ap, ◌∙◌, zero-add}
use Rattle.std.specs.List.{range_with_len}
use Rattle.std.proofs.lemmas.List.FromFn.{map-range_with_len_more}
use Rattle.reserved_seats.proofs.BothKinds.{reserved_at}
use Rattle.reserved_seats.proofs.expansion.with_reserved.Goals as goal

pub loop-row-preserved : goal.loop-row-preserved
loop-row-preserved c =
    let general = c.args.general.now in
    let at = reserved_at general c.args.seats.now in
    let row = c.loop-row.row in
    let more = append_assoc general (map at (range_with_len 0 row)) (at row ∷ [])
    ∙ ap (λ ps. general ++ ps) (sym (map-range_with_len_more at 0 row row (zero-add row))) in
    c.in_ok-push.ensures.items ∙ ap (λ ps. ps ++ at row ∷ []) c.loop-row.invariant ∙ more
