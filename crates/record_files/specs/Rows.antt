-- Rows of a file.
use Rattle.std.specs.Prelude.{ℕ, ◌+◌, List, [], ◌∷◌, Bool, ◌==◌, if◌then◌else◌, drop, slice_range, slice_get, unwrap_or, true, false, nat_eq}
use Rattle.std.specs.List.{slice_split, starts_with}
use Rattle.std.specs.Str.Lines.{strip_carriage_return}
use Rattle.place_base.specs.declared.limits.TheConstants.{BYTE_ORDER_MARK, COMMA, LF}
use Rattle.record_files.specs.declared.rows.RowPart.{RowPart}

-- a row: the number of its line, and its text
abbrev pub Row : Type 0
Row = ℕ × List ℕ

-- the pieces between the bytes c, one more than there are such bytes
abbrev pub split : ℕ → List ℕ → List (List ℕ)
split c bytes = slice_split (λ byte. byte == c) bytes

-- a row in front of others, where its text is not empty
abbrev pub row_and : ℕ → List ℕ → List Row → List Row
row_and line [] rows = rows
row_and line (b ∷ bs) rows = (line, b ∷ bs) ∷ rows

-- the lines that are not empty, with their numbers, each without one CR at its end
abbrev pub numbered : ℕ → List (List ℕ) → List Row
numbered line [] = []
numbered line (text ∷ texts) = row_and line (strip_carriage_return text) (numbered (line + 1) texts)

-- without a byte order mark
abbrev pub without_mark : List ℕ → List ℕ
without_mark bytes = if starts_with nat_eq bytes BYTE_ORDER_MARK then drop 3 bytes else bytes

-- the rows of a file
abbrev pub rows : List ℕ → List Row
rows bytes = numbered 1 (split LF (without_mark bytes))

-- the rows that are left
abbrev pub rows_left : Bool → ℕ → List ℕ → List Row
rows_left true line rest = []
rows_left false line rest = numbered line (split LF rest)

-- the rows behind the header
abbrev pub data_rows : List ℕ → List Row
data_rows bytes = drop 1 (rows bytes)

-- the fields of a row, the stretches between its commas
abbrev pub fields_of : Row → List (List ℕ)
fields_of row = split COMMA row.1

-- the field of a row at an index
abbrev pub field_at : Row → ℕ → List ℕ
field_at row index = unwrap_or (slice_get (fields_of row) index) []

-- the bytes of a part of a file, which loses the byte order mark where it is the first
abbrev pub part_bytes : List ℕ → RowPart → List ℕ
part_bytes bytes part =
    let stretch = slice_range bytes part.start part.end in
    if part.start == 0 then without_mark stretch else stretch

-- the rows of a part of a file, counted from its line
abbrev pub part_rows : List ℕ → RowPart → List Row
part_rows bytes part = numbered part.line (split LF (part_bytes bytes part))
