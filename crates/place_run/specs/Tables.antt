-- The three tables of a market, and what each file says, a placement file beside them too.
use Rattle.std.specs.Prelude.{◌≡◌, ℕ, ◌≤◌, Bool, List, All, map, length, Option, None, Result}
use Rattle.place_base.specs.declared.fault.FileKind.TheVariants as file
use Rattle.market.specs.Problems.{Problem, problem}
use Rattle.place_edges.specs.Shelf.{file_limit}
use Rattle.placement_file.specs.Rows.{placement_fault}
use Rattle.placement_file.specs.Table.{placement_in}
use Rattle.programme_table.specs.Rows.{programmes_fault}
use Rattle.programme_table.specs.Table.{Programmes, codes_of, prog_of, programmes_table}
use Rattle.candidate_table.specs.Rows.{candidates_fault}
use Rattle.candidate_table.specs.Table.{Candidates, IsPreferenceList, candidates_table, numbers_of}
use Rattle.rank_lists.specs.Rows.{ranks_fault}
use Rattle.rank_lists.specs.Table.{RankTable, ranks_table}
use Rattle.second_placement.specs.Registrations.{registered_in, registrations_fault}
use Rattle.run_frame.specs.Says.{judged}
use Rattle.run_frame.specs.declared.stop.FileStop.{FileStop}

-- the tables of programmes, candidates and ranks
pub record Tables : Type 0 where
  pub programmes : Programmes
  pub candidates : Candidates
  pub ranks : RankTable

-- each table speaks of what the tables before it hold
pub record DoFit (tables : Tables) : Type 0 where
  pub lists : All (IsPreferenceList (length (codes_of tables.programmes.rows)))
      tables.candidates.lists
  pub types : length tables.ranks.orders ≡ length tables.programmes.names
  pub candidates : tables.ranks.candidates ≡ length tables.candidates.numbers

-- the market of programmes, candidates' lists, and turn orders with ranks
unfoldable pub problem_with : Programmes → List (List ℕ) → RankTable → Problem
problem_with programmes lists ranks =
    problem (length programmes.names) (map prog_of programmes.rows) lists ranks.orders ranks.ranks

-- the market of three tables
abbrev pub problem_of : Tables → Problem
problem_of tables = problem_with tables.programmes tables.candidates.lists tables.ranks

-- what a programmes file says
unfoldable pub programmes_said : List ℕ → Result Programmes FileStop
programmes_said bytes =
    judged file.Programmes (programmes_fault bytes) (programmes_table bytes) bytes

-- what a candidates file says beside the programmes' codes
unfoldable pub candidates_said : List ℕ → List ℕ → Result Candidates FileStop
candidates_said codes bytes =
    judged file.Candidates (candidates_fault codes bytes) (candidates_table codes bytes) bytes

-- what a ranks file says beside the names of the types and the numbers of the candidates
unfoldable pub ranks_said : List (List ℕ) → List ℕ → List ℕ → Result RankTable FileStop
ranks_said names numbers bytes =
    judged file.Ranks (ranks_fault bytes) (ranks_table names numbers bytes) bytes

-- what a placement file says beside the programmes' codes and the candidates' numbers
unfoldable pub placement_said : List ℕ → List ℕ → List ℕ → Result (List (Option ℕ)) FileStop
placement_said codes numbers bytes =
    judged file.Placement (placement_fault codes numbers bytes) (placement_in codes numbers bytes)
    bytes

-- what a registrations file says beside the candidates' numbers
unfoldable pub registrations_said : List ℕ → List ℕ → Result (List Bool) FileStop
registrations_said numbers bytes =
    judged file.Registrations (registrations_fault numbers bytes) (registered_in numbers bytes)
    bytes

-- the bytes of three files
pub record ThreeFiles : Type 0 where
  pub programmes : List ℕ
  pub candidates : List ℕ
  pub ranks : List ℕ

-- the codes of the programmes, by index
unfoldable pub codes_in : ThreeFiles → List ℕ
codes_in files = codes_of (programmes_table files.programmes).rows

-- the numbers of the candidates, by index
unfoldable pub numbers_in : ThreeFiles → List ℕ
numbers_in files = numbers_of (candidates_table (codes_in files) files.candidates).numbers

-- the tables of three files
unfoldable pub tables_in : ThreeFiles → Tables
tables_in files =
    record {
      programmes = programmes_table files.programmes;
      candidates = candidates_table (codes_in files) files.candidates;
      ranks = ranks_table (programmes_table files.programmes).names (numbers_in files) files.ranks;
    }

-- none of the files has more than 2^30 bytes, and none has a fault
pub record HasNoFault (files : ThreeFiles) : Type 0 where
  pub programmes_few : length files.programmes ≤ file_limit
  pub candidates_few : length files.candidates ≤ file_limit
  pub ranks_few : length files.ranks ≤ file_limit
  pub programmes : programmes_fault files.programmes ≡ None
  pub candidates : candidates_fault (codes_in files) files.candidates ≡ None
  pub ranks : ranks_fault files.ranks ≡ None
