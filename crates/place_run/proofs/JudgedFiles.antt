-- What each file says is by its first fault and its table, and each fault stands on a line.
use Rattle.std.proofs.Common.{◌<◌, List, ℕ, zero, suc, None, Some, Option, refl}
use Rattle.place_base.specs.declared.fault.FileKind.TheVariants as file
use Rattle.run_frame.proofs.JudgedTables.{Judges}
use Rattle.run_frame.proofs.TableFaults.{HasLine, line-file, line-first, line-if, line-least, line-none, line-reading, line-repeat}
use Rattle.programme_table.specs.Rows.{bar_fault, programmes_fault, programmes_rules}
use Rattle.record_files.specs.Rows.{Row}
use Rattle.programme_table.specs.Table.{programmes_table}
use Rattle.candidate_table.specs.Rows.{candidates_fault, candidates_rules, codes_in, entry_fault}
use Rattle.candidate_table.specs.Table.{candidates_table}
use Rattle.rank_lists.specs.Rows.{ranks_fault, ranks_rules}
use Rattle.rank_lists.specs.Table.{ranks_table}
use Rattle.placement_file.specs.Rows.{placement_fault, placement_rules, unknown_fault}
use Rattle.placement_file.specs.Table.{placement_in}
use Rattle.second_placement.specs.Registrations.{registered_in, registrations_fault, registrations_rules}
use Rattle.place_run.specs.Tables.{candidates_said, placement_said, programmes_said, ranks_said, registrations_said}

line-bar : (version : ℕ) (row : Row) → 0 < row.0 → HasLine (bar_fault version row)
line-bar zero row some = line-none
line-bar (suc version) row some = search (some, line-reading)

-- that of a programmes file
pub programmes-judges : Judges file.Programmes programmes_said programmes_fault programmes_table
unfolding programmes_said
programmes-judges = record {
  says = λ bytes. refl;
  lined = λ bytes. line-file programmes_rules bytes (record {
    reading = λ version row some. search (some, line-first, line-reading, line-bar);
    meaning = λ version earlier row some. search (some, line-first, line-repeat, line-if);
  });
}

-- that of a candidates file
pub candidates-judges : (codes : List ℕ) → Judges file.Candidates (candidates_said codes)
    (candidates_fault codes) (candidates_table codes)
unfolding candidates_said
candidates-judges codes = record {
  says = λ bytes. refl;
  lined = λ bytes. line-file (candidates_rules codes) bytes (record {
    reading = λ version row some. search (some, line-first, line-reading);
    meaning = λ version earlier row some.
        let entry : (index : ℕ) → HasLine (entry_fault codes row.0 (codes_in row) index) =
        λ index. search (some, line-first, line-if) in
        search (some, entry, line-first, line-repeat, line-least);
  });
}

-- that of a ranks file
pub ranks-judges : (names : List (List ℕ)) (numbers : List ℕ)
    → Judges file.Ranks (ranks_said names numbers) ranks_fault (ranks_table names numbers)
unfolding ranks_said
ranks-judges names numbers = record {
  says = λ bytes. refl;
  lined = λ bytes. line-file ranks_rules bytes (record {
    reading = λ version row some. search (some, line-first, line-reading);
    meaning = λ version earlier row some. search (some, line-first, line-repeat);
  });
}

line-unknown : (programmes : List ℕ) (line : ℕ) (code : Option ℕ) → 0 < line
    → HasLine (unknown_fault programmes line code)
line-unknown programmes line None some = line-none
line-unknown programmes line (Some code) some = search (some, line-if)

-- that of a placement file
pub placement-judges : (codes numbers : List ℕ) → Judges file.Placement
    (placement_said codes numbers) (placement_fault codes numbers) (placement_in codes numbers)
unfolding placement_said
placement-judges codes numbers = record {
  says = λ bytes. refl;
  lined = λ bytes. line-file (placement_rules codes numbers) bytes (record {
    reading = λ version row some. search (some, line-first, line-reading);
    meaning = λ version earlier row some.
        search (some, line-first, line-if, line-repeat, line-unknown);
  });
}

-- that of a registrations file
pub registrations-judges : (numbers : List ℕ) → Judges file.Registrations
    (registrations_said numbers) (registrations_fault numbers) (registered_in numbers)
unfolding registrations_said
registrations-judges numbers = record {
  says = λ bytes. refl;
  lined = λ bytes. line-file (registrations_rules numbers) bytes (record {
    reading = λ version row some. search (some, line-reading);
    meaning = λ version earlier row some. search (some, line-first, line-if, line-repeat);
  });
}
