-- A registrations file beside the candidates: who has registered, and what is wrong with the file.
use Rattle.std.specs.Prelude.{ℕ, Bool, List, ◌==◌, find, is_none, is_some, map, nat_eq, position, Option}
use Rattle.place_base.specs.declared.fault.FaultKind.TheVariants.{UnknownCandidate}
use Rattle.place_base.specs.declared.fault.FileFault.{FileFault}
use Rattle.place_base.specs.declared.fault.FileKind.TheVariants.{Registrations}
use Rattle.record_files.specs.FirstFaults.{FileRules, fault_at, fault_if, first_fault, first_of, repeat_fault}
use Rattle.record_files.specs.Rows.{Row, data_rows}
use Rattle.placement_file.specs.Requests.{candidate_in, requests_form, requests_reading}

-- what is wrong with a row beside the candidates' numbers and the earlier rows: its candidate is
-- unknown, or an earlier row names it
abbrev pub meaning : List ℕ → List Row → Row → Option FileFault
meaning candidates earlier row =
    first_of
    (fault_if (is_none (position (nat_eq (candidate_in row)) candidates))
    (fault_at Registrations row.0 1 UnknownCandidate))
    (repeat_fault Registrations row.0 1 (λ other. candidate_in row == candidate_in other) earlier)

-- what may be wrong with a registrations file: all that may be wrong with a list of requests, and
-- each row names a candidate of the candidates file, whom no earlier row names
abbrev pub registrations_rules : List ℕ → FileRules
registrations_rules candidates = record {
  form = requests_form;
  reading = λ version. requests_reading;
  meaning = λ version. meaning candidates;
}

-- the first fault of a registrations file
abbrev pub registrations_fault : List ℕ → List ℕ → Option FileFault
registrations_fault candidates bytes = first_fault (registrations_rules candidates) bytes

-- whether a row names the candidate with this number
abbrev pub is_named : List Row → ℕ → Bool
is_named rows number = is_some (find (λ row. number == candidate_in row) rows)

-- for each candidate whether a row of the file names it
abbrev pub registered_in : List ℕ → List ℕ → List Bool
registered_in candidates bytes = map (is_named (data_rows bytes)) candidates
