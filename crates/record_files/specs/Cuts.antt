-- Where the first fields of a row end.
use Rattle.std.specs.Prelude.{◌≡◌, ◌≤◌, ◌<◌, ◌+◌, ℕ, zero, suc, List, length, slice_get, slice_index, slice_range, Some}
use Rattle.place_base.specs.declared.limits.TheConstants.{COMMA}
use Rattle.record_files.specs.Rows.{split}

-- a field of a text, from one byte up to another
pub record IsFieldAt (text : List ℕ) (index start end : ℕ) : Type 0 where
  pub forward : start ≤ end
  pub inside : end ≤ length text
  pub field : slice_get (split COMMA text) index ≡ Some (slice_range text start end)

-- where a field starts: at 0, or behind the comma at which the field before it ends
abbrev pub start_of : List ℕ → ℕ → ℕ
start_of ends zero = 0
start_of ends (suc index) = slice_index ends index + 1

-- the number of fields, and where the first four end
pub record IsCutAt (text ends : List ℕ) (count : ℕ) : Type 0 where
  pub total : count ≡ length (split COMMA text)
  pub fields : (index : ℕ) → index < count → index < 4
      → IsFieldAt text index (start_of ends index) (slice_index ends index)
