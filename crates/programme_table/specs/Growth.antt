-- A table that grows by a row.
use Rattle.std.specs.Prelude.{◌≡◌, ℕ, List, [], ◌∷◌, ◌++◌, Bool, ◌&&◌, not, nat_le, bytes_eq, length, Option, option_map}
use Rattle.std.specs.List.{list_any}
use Rattle.indexmap.specs.IndexSet.{insert_key}
use Rattle.place_base.specs.declared.fault.FaultKind.TheVariants.{OutOfRange}
use Rattle.place_base.specs.declared.fault.FileFault.{FileFault}
use Rattle.place_base.specs.declared.fault.FileKind.TheVariants.{Programmes as programmes}
use Rattle.place_base.specs.declared.limits.TheConstants.{MOST_TYPES}
use Rattle.record_files.specs.FirstFaults.{duplicate_at, fault_at, fault_if, first_of}
use Rattle.record_files.specs.Keys.{line_of}
use Rattle.record_files.specs.Rows.{Row}
use Rattle.programme_table.specs.Rows.{bar_of, code_of, type_of, quota_of}
use Rattle.programme_table.specs.Table.{Programmes, kind_named}
use Rattle.programme_table.specs.declared.row.Fields.{Fields}

-- these are the fields of the row, under a header with bars or without
pub record IsFieldsOf (version : ℕ) (row : Row) (fields : Fields) : Type 0 where
  pub line : fields.line ≡ row.0
  pub code : fields.code ≡ code_of row
  pub name : fields.name ≡ type_of row
  pub quota : fields.quota ≡ quota_of row
  pub bar : fields.bar ≡ bar_of version row

-- the name is new to the table, which has as many as it may
abbrev pub is_full_for : Programmes → List ℕ → Bool
is_full_for table name =
    nat_le MOST_TYPES (length table.names) && not (list_any (bytes_eq name) table.names)

-- what is wrong with fields beside the table
abbrev pub clash : Programmes → Fields → Option FileFault
clash table fields =
    first_of
    (option_map (duplicate_at programmes fields.line 1) (line_of table.codes fields.code))
    (fault_if (is_full_for table fields.name) (fault_at programmes fields.line 2 OutOfRange))

-- the table with one more programme
abbrev pub with_programme : Programmes → Fields → Programmes
with_programme table fields =
    let names = insert_key bytes_eq table.names fields.name in
    record {
      rows =
          table.rows
          ++ record {
            code = fields.code;
            kind = kind_named names fields.name;
            quota = fields.quota;
            bar = fields.bar;
          }
          ∷ [];
      codes = table.codes ++ (fields.code, fields.line) ∷ [];
      names = names;
    }
