-- Looking a key up among the keys of earlier rows.
use Rattle.std.proofs.Common.{◌≡◌, ℕ, true, false, cond, List, [], ◌∷◌, map, find, refl, Some, nat_eq, ◌==◌}
use Rattle.std.specs.Option.{option_map}
use Rattle.place_base.specs.declared.fault.FileKind.{FileKind}
use Rattle.record_files.specs.FirstFaults.{duplicate_at, repeat_fault}
use Rattle.record_files.specs.Keys.{line_of, with_line}
use Rattle.record_files.specs.Rows.{Row}

-- the line of a key among those of earlier rows is that of the first of them that has the key
pub repeat_fault-line_of : (file : FileKind) (field line : ℕ) (key : Row → ℕ) (x : ℕ)
    (rows : List Row)
    → option_map (duplicate_at file line field) (line_of (map (with_line key) rows) x)
    ≡ repeat_fault file line field (λ other. x == key other) rows
repeat_fault-line_of file field line key x [] = refl
repeat_fault-line_of file field line key x (row ∷ rows) =
    let later = repeat_fault-line_of file field line key x rows in
    elim (nat_eq x (key row)) as
    (λ b. option_map (duplicate_at file line field)
    (cond b (Some row.0) (line_of (map (with_line key) rows) x))
    ≡ option_map (λ other. duplicate_at file line field other.0)
    (cond b (Some row) (find (λ other. x == key other) rows)))
    [ true ↦ refl | false ↦ later ]
