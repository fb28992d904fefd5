-- A row without a fault is clean, and a clean row may only have a fault beside the earlier rows.
use Rattle.std.proofs.Common.{◌≡◌, ℕ, ◌<◌, false, List, None, length, nat_le, refl, arith}
use Rattle.std.proofs.lemmas.Bool.Decides.{nat_tests}
use Rattle.record_files.specs.FirstFaults.{FileRules, fault_behind, long_fault, shape_fault}
use Rattle.record_files.specs.Form.{Form}
use Rattle.record_files.specs.Rows.{Row}
use Rattle.record_files.specs.declared.form.Header.{Header}
use Rattle.record_files.proofs.FirstFaultLemmas.{fault_behind-few, first_of-none}
use Rattle.piece_reader.specs.Ahead.{IsClean}

not-past : (most index : ℕ) → index < most → nat_le most index ≡ false
not-past most index lt = grind (arith, nat_tests)

-- the shape of a row that is right at one place of a file is right at each below the limit
pub shape-anywhere : (form : Form) (fields index other : ℕ) (row : Row) → other < form.most_rows
    → shape_fault form fields index row ≡ None → shape_fault form fields other row ≡ None
shape-anywhere form fields index other row lt none =
    let long = first_of-none (long_fault form row) _ none in
    let count = first_of-none _ _ long.1 in
    rw (long.0, not-past form.most_rows other lt) count.1

-- a row without a fault behind others is clean
pub IsClean-from : (rules : FileRules) (header : Header) (earlier : List Row) (row : Row)
    → fault_behind rules header earlier row ≡ None → IsClean rules header row
IsClean-from rules header earlier row none =
    let shape = first_of-none (shape_fault rules.form header.fields (length earlier) row) _ none in
    let few = fault_behind-few rules header earlier row none in
    record {
      shape = shape-anywhere rules.form header.fields (length earlier) 0 row (omega arith) shape.0;
      reading = (first_of-none (rules.reading header.version row) _ shape.1).0;
    }

-- of a clean row only what it means is left
pub clean-means : (rules : FileRules) (header : Header) (earlier : List Row) (row : Row)
    → length earlier < rules.form.most_rows → IsClean rules header row
    → fault_behind rules header earlier row ≡ rules.meaning header.version earlier row
clean-means rules header earlier row lt clean =
    let shape = shape-anywhere rules.form header.fields 0 (length earlier) row lt clean.shape in
    rw (shape, clean.reading) refl
