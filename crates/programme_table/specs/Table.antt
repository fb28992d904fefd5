-- The table of a programmes file.
use Rattle.std.specs.Prelude.{ℕ, List, All, map, bytes_eq, length, ◌≡◌, ◌≤◌, ◌<◌}
use Rattle.std.specs.List.{position_or_len}
use Rattle.market.specs.Problems.{IsBar}
use Rattle.market.specs.declared.programme.Prog.{Prog}
use Rattle.place_base.specs.declared.limits.TheConstants.{LARGEST_QUOTA, MOST_PROGRAMMES, MOST_TYPES}
use Rattle.record_files.specs.Form.{version_in}
use Rattle.record_files.specs.Keys.{keys_of, with_line}
use Rattle.record_files.specs.Rows.{Row, data_rows}
use Rattle.programme_table.specs.Rows.{bar_of, code_of, programmes_form, type_of, quota_of, types_of}
use Rattle.programme_table.specs.declared.row.ProgrammeRow.{ProgrammeRow}

-- the programmes in file order, the code of each with its line, and the names of their score types
-- in order of first appearance
pub record Programmes : Type 0 where
  pub rows : List ProgrammeRow
  pub codes : List (ℕ × ℕ)
  pub names : List (List ℕ)

-- the index of a name among names
abbrev pub kind_named : List (List ℕ) → List ℕ → ℕ
kind_named names name = position_or_len (bytes_eq name) names

-- the programme that a row holds under a header, beside the names of the types
abbrev pub programme_row_in : ℕ → List (List ℕ) → Row → ProgrammeRow
programme_row_in version names row = record {
  code = code_of row;
  kind = kind_named names (type_of row);
  quota = quota_of row;
  bar = bar_of version row;
}

-- the table of data rows under a header
abbrev pub table_of : ℕ → List Row → Programmes
table_of version rows = record {
  rows = map (programme_row_in version (types_of rows)) rows;
  codes = map (with_line code_of) rows;
  names = types_of rows;
}

-- the table of a file
abbrev pub programmes_table : List ℕ → Programmes
programmes_table bytes = table_of (version_in programmes_form bytes) (data_rows bytes)

-- the codes of programmes
abbrev pub codes_of : List ProgrammeRow → List ℕ
codes_of rows = map (λ row. row.code) rows

-- a programme as a market has it
abbrev pub prog_of : ProgrammeRow → Prog
prog_of row = record { kind = row.kind; quota = row.quota; bar = row.bar }

-- the parts of a table fit each other and the limits of a file
pub record IsTable (table : Programmes) : Type 0 where
  -- each programme's code has its line
  pub codes : keys_of table.codes ≡ codes_of table.rows
  -- each type has its place, and each quota and each bar is in its limit
  pub kinds : All (λ row. row.kind < length table.names) table.rows
  pub quotas : All (λ row. row.quota ≤ LARGEST_QUOTA) table.rows
  pub bars : All (λ row. IsBar row.bar) table.rows
  pub few_rows : length table.rows ≤ MOST_PROGRAMMES
  pub few_names : length table.names ≤ MOST_TYPES
