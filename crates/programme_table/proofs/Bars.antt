-- Files with bars and without: how many fields their rows have, and what a bar is.
use Rattle.std.proofs.Common.{◌≡◌, ℕ, zero, suc, ◌<◌, ◌≤◌, List, [], length, refl, arith, Option, Some, None}
use Rattle.std.specs.Option.{ForSome}
use Rattle.std.specs.Prelude.{slice_index_or}
use Rattle.market.specs.Problems.{IsBar}
use Rattle.place_base.specs.declared.fault.FileKind.TheVariants.{Programmes}
use Rattle.place_base.specs.declared.limits.TheConstants.{COMMA, LARGEST_RANK}
use Rattle.record_files.specs.FirstFaults.{reading_fault}
use Rattle.record_files.specs.Form.{IsHeaderOf}
use Rattle.record_files.specs.Numbers.{optional_number_of, optional_value}
use Rattle.record_files.specs.Rows.{Row, field_at, split}
use Rattle.record_files.specs.declared.form.Header.{Header}
use Rattle.programme_table.specs.Rows.{bar_fault, bar_of, programmes_form}

-- a bar that is in the limits of ranks
pub IsBar-from : (bar : Option ℕ) → ForSome bar (λ rank. (1 ≤ rank) × (rank ≤ LARGEST_RANK))
    → IsBar bar
IsBar-from None ranks = tt
IsBar-from (Some bar) ranks = ranks bar refl

-- a header has three fields, and a fourth where it has bars
pub header-fields : (header : Header) → IsHeaderOf programmes_form header
    → (3 ≤ header.fields) × ((header.version ≡ 0 → ⊥) → 4 ≤ header.fields)
header-fields header h = by header.version h.version h.fields
  where
    by : (version : ℕ) → version < 2
        → header.fields ≡ length (split COMMA (slice_index_or programmes_form.headers version []))
        → (3 ≤ header.fields) × ((version ≡ 0 → ⊥) → 4 ≤ header.fields)
    by zero lt size = (omega (arith, size), λ later. absurd (later refl))
    by (suc zero) lt size = (omega (arith, size), λ later. omega (arith, size))
    by (suc (suc version)) lt size = absurd (omega arith)

-- where the header is not the first, a row has a bar
pub bar_fault-later : (version : ℕ) (row : Row) → (version ≡ 0 → ⊥)
    → bar_fault version row
    ≡ reading_fault Programmes row.0 4 (optional_number_of (field_at row 3) 1 LARGEST_RANK)
bar_fault-later zero row later = absurd (later refl)
bar_fault-later (suc version) row later = refl

pub bar_of-later : (version : ℕ) (row : Row) → (version ≡ 0 → ⊥)
    → bar_of version row ≡ optional_value (field_at row 3)
bar_of-later zero row later = absurd (later refl)
bar_of-later (suc version) row later = refl
