-- A first row that is one of a form's headers.
use Rattle.std.proofs.Common.{◌≡◌, ℕ, List, [], ◌∷◌, None, Some, bytes_eq, get_or, length, refl, sym, ap, ◌∙◌, unwrap_or}
use Rattle.std.proofs.lemmas.List.Quantifiers.{position-Some}
use Rattle.std.proofs.lemmas.Slice.Eq.{bytes_eq-Decides}
use Rattle.place_base.specs.declared.limits.TheConstants.{COMMA}
use Rattle.record_files.specs.FirstFaults.{first_row_fault, long_fault}
use Rattle.record_files.specs.Form.{Form, IsHeaderOf, header_in, version_of}
use Rattle.record_files.specs.Rows.{Row, fields_of, split}

-- a short row that is the header of a version is read as that header
pub header-read : (form : Form) (row : Row) (behind : List Row) (version fields : ℕ)
    → long_fault form row ≡ None → version_of form row ≡ Some version
    → fields ≡ length (fields_of row)
    → (first_row_fault form (row ∷ behind) ≡ None)
    × (record { version = version; fields = fields } ≡ header_in form (row ∷ behind))
    × IsHeaderOf form (record { version = version; fields = fields })
header-read form row behind version fields short found size =
    let at = position-Some (bytes_eq row.1) form.headers version [] found in
    let same : row.1 ≡ get_or form.headers version [] =
    (bytes_eq-Decides row.1 (get_or form.headers version [])).0 at.1 in (
      rw (short, found) refl,
      λ j. record { version = unwrap_or (sym found j) 0; fields = size j },
      record { version = at.0; fields = size ∙ ap (λ text. length (split COMMA text)) same },
    )
