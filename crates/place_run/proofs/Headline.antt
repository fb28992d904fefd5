-- What files say that were read: they have no fault, and their tables are those of the files. So
-- what is known of the market of the tables is known of the market of the files.
use Rattle.std.proofs.Common.{◌≡◌, ℕ, ◌≤◌, List, refl, sym, subst, ap, ◌∙◌, Option, Some, None, Ok}
use Rattle.std.specs.Prelude.{length, ◌↔◌}
use Rattle.place_base.specs.declared.fault.FileKind.TheVariants as file
use Rattle.fixed_seats.specs.Reports.{IsOfEveryStable, seats_in}
use Rattle.market.specs.Comparisons.{IsWorstStable}
use Rattle.market.specs.Mechanism.{mechanism_placement}
use Rattle.market.specs.Problems.{IsValid, Problem}
use Rattle.place_edges.specs.Shelf.{file_limit}
use Rattle.placement_file.specs.Rows.{placement_fault}
use Rattle.placement_file.specs.Table.{placement_in}
use Rattle.programme_table.specs.Rows.{programmes_fault}
use Rattle.programme_table.specs.Table.{Programmes, codes_of, programmes_table}
use Rattle.candidate_table.specs.Table.{Candidates, candidates_table, numbers_of}
use Rattle.candidate_table.specs.Rows.{candidates_fault}
use Rattle.rank_lists.specs.Rows.{ranks_fault}
use Rattle.rank_lists.specs.Table.{RankTable, ranks_table}
use Rattle.run_frame.specs.Files.{Reads}
use Rattle.run_frame.proofs.JudgedTables.{SaysTable, says-table}
use Rattle.run_frame.specs.Plans.{said}
use Rattle.run_frame.proofs.Plans.{answer-behind, said-from, said-then}
use Rattle.reports.specs.FullEntries.{FullMeansFilled}
use Rattle.stability_audit.specs.declared.verdict.Verdict.{Verdict}
use Rattle.stability_audit.specs.declared.verdict.Verdict.TheVariants.{Stable, OverQuota, NotAcceptable, Blocking}
use Rattle.place_run.specs.Answers.{Answer}
use Rattle.place_run.specs.Audits.{IsAuditOf}
use Rattle.place_run.specs.Says.{audited_plan, held_plan, tables_plan}
use Rattle.place_run.specs.Tables.{HasNoFault, Tables, ThreeFiles, candidates_said, codes_in, numbers_in, placement_said, problem_of, programmes_said, ranks_said, tables_in}
use Rattle.placement_file.specs.Texts.{placement_text}
use Rattle.place_run.specs.commands.Audit.{Audited, IsAudit, placement_beside, placement_fault_beside, verdict_ending}
use Rattle.place_run.specs.commands.Base.{IsBaseText, base_text, bases_of}
use Rattle.place_run.specs.commands.Fixed.{IsFixedText, fixed_of, fixed_text}
use Rattle.place_run.specs.commands.Place.{AreThree, IsOfWorstStable, IsWorstStableText, printed_placement}
use Rattle.place_run.specs.commands.Reasons.{IsReasonsText, reasons_of, reasons_text}
use Rattle.place_run.specs.declared.status.Ending.TheVariants.{Done}

says-programmes : (bytes : List ℕ) (said : Programmes) → programmes_said bytes ≡ Ok said
    → SaysTable (programmes_fault bytes) (programmes_table bytes) said bytes
unfolding programmes_said
says-programmes bytes said e = says-table file.Programmes _ _ said bytes e

says-candidates : (codes bytes : List ℕ) (said : Candidates) → candidates_said codes bytes ≡ Ok said
    → SaysTable (candidates_fault codes bytes) (candidates_table codes bytes) said bytes
unfolding candidates_said
says-candidates codes bytes said e = says-table file.Candidates _ _ said bytes e

says-ranks : (names : List (List ℕ)) (numbers bytes : List ℕ) (said : RankTable)
    → ranks_said names numbers bytes ≡ Ok said
    → SaysTable (ranks_fault bytes) (ranks_table names numbers bytes) said bytes
unfolding ranks_said
says-ranks names numbers bytes said e = says-table file.Ranks _ _ said bytes e

-- tables with the same parts are the same
abbrev tables_with : Programmes → Candidates → RankTable → Tables
tables_with programmes candidates ranks =
    record { programmes = programmes; candidates = candidates; ranks = ranks }

same-tables : (p q : Programmes) (c d : Candidates) (r t : RankTable) → p ≡ q → c ≡ d → r ≡ t
    → tables_with p c r ≡ tables_with q d t
same-tables p q c d r t e f g =
    ap (λ v. tables_with v c r) e ∙ ap (λ v. tables_with q v r) f ∙ ap (λ v. tables_with q d v) g

-- three files whose tables were read have no fault, and have these tables
pub record AreTablesRead (reads : Reads) (tables : Tables) : Type 0 where
  pub three : ThreeFiles
  pub read : AreThree reads three
  pub faultless : HasNoFault three
  pub tables_are : tables ≡ tables_in three

pub are-read : (reads : Reads) (tables : Tables) → said tables_plan reads ≡ Some (Ok tables)
    → AreTablesRead reads tables
unfolding tables_in codes_in numbers_in
are-read reads tables e =
    let p = said-from (reads file.Programmes) programmes_said _ tables e in
    let c = said-from (reads file.Candidates) (candidates_said (codes_of p.2.rows)) _ tables
    p.4 in
    let r = said-from (reads file.Ranks) (ranks_said p.2.names (numbers_of c.2.numbers)) _
    tables c.4 in
    let one = says-programmes p.0 p.2 p.3 in
    let two = says-candidates (codes_of p.2.rows) c.0 c.2 c.3 in
    let three = says-ranks p.2.names (numbers_of c.2.numbers) r.0 r.2 r.3 in
    let none : candidates_fault (codes_of (programmes_table p.0).rows) c.0 ≡ None =
    subst (λ (v : Programmes). candidates_fault (codes_of v.rows) c.0 ≡ None) one.same two.none in
    let same : c.2 ≡ candidates_table (codes_of (programmes_table p.0).rows) c.0 =
    subst (λ (v : Programmes). c.2 ≡ candidates_table (codes_of v.rows) c.0) one.same two.same in
    let same_names : r.2 ≡ ranks_table (programmes_table p.0).names (numbers_of c.2.numbers) r.0 =
    subst (λ (v : Programmes). r.2 ≡ ranks_table v.names (numbers_of c.2.numbers) r.0)
    one.same three.same in
    let same_ranks = subst (λ (v : Candidates). r.2 ≡ ranks_table (programmes_table p.0).names
    (numbers_of v.numbers) r.0) same same_names in
    let made : tables ≡ tables_with p.2 c.2 r.2 = cc r.4 in
    record {
      three = record { programmes = p.0; candidates = c.0; ranks = r.0 };
      read = record { programmes = p.1; candidates = c.1; ranks = r.1 };
      faultless = record {
        programmes_few = one.few;
        candidates_few = two.few;
        ranks_few = three.few;
        programmes = one.none;
        candidates = none;
        ranks = three.none;
      };
      tables_are = made ∙ same-tables _ _ _ _ _ _ one.same same same_ranks;
    }

-- what is printed of the tables of three files is printed of the files
pub printed-in : (three : ThreeFiles) → printed_placement (tables_in three)
    ≡ placement_text (codes_in three) (numbers_in three)
    (mechanism_placement (problem_of (tables_in three)))
unfolding printed_placement tables_in codes_in numbers_in
printed-in three = refl

bases-in : (three : ThreeFiles) → bases_of (tables_in three)
    ≡ base_text (codes_in three) (problem_of (tables_in three))
    (mechanism_placement (problem_of (tables_in three)))
unfolding bases_of tables_in codes_in
bases-in three = refl

reasons-in : (three : ThreeFiles) → reasons_of (tables_in three)
    ≡ reasons_text (codes_in three) (numbers_in three) (problem_of (tables_in three))
    (mechanism_placement (problem_of (tables_in three)))
unfolding reasons_of tables_in codes_in numbers_in
reasons-in three = refl

fixed-in : (three : ThreeFiles) → fixed_of (tables_in three)
    ≡ fixed_text (codes_in three) (numbers_in three) (seats_in (problem_of (tables_in three))
    (mechanism_placement (problem_of (tables_in three))))
unfolding fixed_of tables_in codes_in numbers_in
fixed-in three = refl

-- a text is made so of tables, in whose market the mechanism's placement is the worst of the stable
-- ones
pub record IsMade (make : Tables → List ℕ) (tables : Tables) (text : List ℕ) : Type 0 where
  pub market : IsValid (problem_of tables)
  pub worst : IsWorstStable (problem_of tables) (mechanism_placement (problem_of tables))
  pub made : text ≡ make tables

-- what is known of the tables of three files is known of their market
made-of : (make : Tables → List ℕ) (print : ThreeFiles → List ℕ)
    → ((three : ThreeFiles) → make (tables_in three) ≡ print three)
    → (reads : Reads) (tables : Tables) (text : List ℕ) → IsMade make tables text
    → (files : AreTablesRead reads tables) → IsOfWorstStable print reads text
made-of make print same reads tables text made files =
    let of_files = subst (λ (v : Tables). IsMade make v text) files.tables_are made in
    record {
      three = files.three;
      read = files.read;
      no_fault = files.faultless;
      market = of_files.market;
      worst = of_files.worst;
      printed = of_files.made ∙ same files.three;
    }

-- where files say these tables, the text of the placement is that of the worst stable one
pub worst-text : (reads : Reads) (tables : Tables) (text : List ℕ)
    → said tables_plan reads ≡ Some (Ok tables) → IsMade printed_placement tables text
    → IsWorstStableText reads text
worst-text reads tables text says made =
    made-of printed_placement _ printed-in reads tables text made (are-read reads tables says)

-- and the text of the base ranks is that of its base ranks
pub bases-text : (reads : Reads) (tables : Tables) (text : List ℕ)
    → said tables_plan reads ≡ Some (Ok tables) → IsMade bases_of tables text
    → IsBaseText reads text
bases-text reads tables text said made =
    made-of bases_of _ bases-in reads tables text made (are-read reads tables said)

-- so is what else is known of the market of the tables
known-of : (Known : Problem → Type 0) (reads : Reads) (tables : Tables)
    → (files : AreTablesRead reads tables) → Known (problem_of tables)
    → Known (problem_of (tables_in files.three))
known-of Known reads tables files known =
    subst (λ (v : Tables). Known (problem_of v)) files.tables_are known

-- the text of the reasons is that of its reasons, where the programme of each full entry is filled
pub reasons-text : (reads : Reads) (tables : Tables) (text : List ℕ)
    → said tables_plan reads ≡ Some (Ok tables) → IsMade reasons_of tables text
    → FullMeansFilled (problem_of tables) (mechanism_placement (problem_of tables))
    → IsReasonsText reads text
unfolding made-of
reasons-text reads tables text says made filled =
    let files = are-read reads tables says in
    record {
      explained = made-of reasons_of _ reasons-in reads tables text made files;
      filled = known-of (λ m. FullMeansFilled m (mechanism_placement m)) reads tables files filled;
    }

-- and that of what it leaves and fills is that of every stable placement
pub fixed-text : (reads : Reads) (tables : Tables) (text : List ℕ)
    → said tables_plan reads ≡ Some (Ok tables) → IsMade fixed_of tables text
    → IsOfEveryStable (problem_of tables)
    (seats_in (problem_of tables) (mechanism_placement (problem_of tables)))
    → IsFixedText reads text
unfolding made-of
fixed-text reads tables text says made every =
    let files = are-read reads tables says in
    record {
      told = made-of fixed_of _ fixed-in reads tables text made files;
      every = known-of (λ m. IsOfEveryStable m (seats_in m (mechanism_placement m))) reads tables
          files every;
    }

-- a placement file that says its placement has no fault
says-placement : (codes numbers bytes : List ℕ) (said : List (Option ℕ))
    → placement_said codes numbers bytes ≡ Ok said
    → SaysTable (placement_fault codes numbers bytes) (placement_in codes numbers bytes) said bytes
unfolding placement_said
says-placement codes numbers bytes said e = says-table file.Placement _ _ said bytes e

abbrev pub audited_with : Tables → List (Option ℕ) → Audited
audited_with tables held = record { tables = tables; held = held }

-- four files whose tables and placement were read have no fault, and have these
pub record IsAuditedRead (reads : Reads) (audited : Audited) : Type 0 where
  pub three : ThreeFiles
  pub read : AreThree reads three
  pub faultless : HasNoFault three
  pub bytes : List ℕ
  pub placement_read : reads file.Placement ≡ Some bytes
  pub few : length bytes ≤ file_limit
  pub none : placement_fault_beside three bytes ≡ None
  pub audited_is : audited ≡ audited_with (tables_in three) (placement_beside three bytes)

-- a run ends well with the verdict that the placement is stable alone
stable-ends : (verdict : Verdict) → verdict_ending verdict ≡ Done → verdict ≡ Stable
stable-ends Stable e = refl
stable-ends (OverQuota p) e = cc e
stable-ends (NotAcceptable i) e = cc e
stable-ends (Blocking i p) e = cc e

pub ends-well : (verdict : Verdict) (answer : Answer) → answer.ending ≡ verdict_ending verdict
    → (P : Type 0) → (verdict ≡ Stable) ↔ P → (answer.ending ≡ Done) ↔ P
ends-well verdict answer is P both = (
  λ well. both.0 (stable-ends verdict (sym is ∙ well)),
  λ p. is ∙ ap verdict_ending (both.1 p),
)

-- what is said of four files is said of the three, and of the placement file behind them
behind-tables : (reads : Reads) (audited : Audited)
    → said audited_plan reads ≡ Some (Ok audited)
    → (tables : Tables) × (said tables_plan reads ≡ Some (Ok tables))
    × (said (held_plan tables) reads ≡ Some (Ok audited))
behind-tables reads audited says =
    answer-behind (said tables_plan reads) _ audited
    (sym (said-then tables_plan held_plan reads) ∙ says)

-- what a placement file holds behind tables is what it holds beside their files
held-beside : (reads : Reads) (audited : Audited) (tables : Tables)
    → said (held_plan tables) reads ≡ Some (Ok audited) → AreTablesRead reads tables
    → IsAuditedRead reads audited
unfolding tables_in codes_in numbers_in
held-beside reads audited tables says files =
    let codes = codes_of tables.programmes.rows in
    let numbers = numbers_of tables.candidates.numbers in
    let last = said-from (reads file.Placement) (placement_said codes numbers) _ audited says in
    let one = says-placement codes numbers last.0 last.2 last.3 in
    let made : audited ≡ audited_with tables last.2 = cc last.4 in
    record {
      three = files.three;
      read = files.read;
      faultless = files.faultless;
      bytes = last.0;
      placement_read = last.1;
      few = one.few;
      none = subst (λ (v : Tables). placement_fault (codes_of v.programmes.rows)
          (numbers_of v.candidates.numbers) last.0 ≡ None) files.tables_are one.none;
      audited_is = made ∙ ap (audited_with tables) one.same
          ∙ ap (λ (v : Tables). audited_with v (placement_in (codes_of v.programmes.rows)
          (numbers_of v.candidates.numbers) last.0)) files.tables_are;
    }

pub audited-read : (reads : Reads) (audited : Audited)
    → said audited_plan reads ≡ Some (Ok audited) → IsAuditedRead reads audited
audited-read reads audited says =
    let behind = behind-tables reads audited says in
    held-beside reads audited behind.0 behind.2 (are-read reads behind.0 behind.1)

-- the audit of what four files hold is theirs
unfoldable pub audit-beside : {reads : Reads} {audited : Audited} {answer : Answer}
    → (files : IsAuditedRead reads audited)
    → IsAuditOf (audited_with (tables_in files.three) (placement_beside files.three files.bytes))
    answer → IsAudit reads answer
unfolding tables_in codes_in numbers_in
audit-beside {answer = answer} files is = record {
  three = files.three;
  read = files.read;
  no_fault = files.faultless;
  bytes = files.bytes;
  placement_read = files.placement_read;
  placement_few = files.few;
  placement_no_fault = files.none;
  verdict = is.verdict;
  first = is.first;
  stable = ends-well is.verdict answer (ap (λ (v : Answer). v.ending) is.printed) _ is.stable;
  printed = ap (λ (v : Answer). v.text) is.printed;
}

-- the audit of four files that were read
pub audit-answer : (reads : Reads) (audited : Audited) (answer : Answer)
    → said audited_plan reads ≡ Some (Ok audited) → IsAuditOf audited answer → IsAudit reads answer
audit-answer reads audited answer says is =
    let files = audited-read reads audited says in
    audit-beside files (subst (λ (v : Audited). IsAuditOf v answer) files.audited_is is)
