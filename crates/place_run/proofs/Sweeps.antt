-- One programme's quota varied: what is known of the programme that a code names in three tables is
-- known of it in the files that were read.
use Rattle.std.proofs.Common.{◌≡◌, ◌∙◌, ℕ, ◌<◌, List, [], ◌∷◌, Option, Some, None, Ok, Err, length, nat_eq, refl, sym, subst, ap, inl, inr}
use Rattle.std.specs.Prelude.{decimal}
use Rattle.std.proofs.lemmas.List.Quantifiers.{position-Some}
use Rattle.market.specs.Problems.{IsValid, Problem}
use Rattle.place_base.specs.declared.fault.FileKind.{FileKind}
use Rattle.place_edges.specs.Shelf.{Files}
use Rattle.programme_table.specs.Table.{codes_of}
use Rattle.quota_sweep.specs.Sweeps.{AreWorstStable, HurtsNobody}
use Rattle.quota_sweep.specs.declared.row.SweepRow.{SweepRow}
use Rattle.record_files.specs.Texts.{row_text}
use Rattle.run_frame.specs.Files.{Moment, Reads}
use Rattle.run_frame.specs.Plans.{AreRead, Plan, and_then, ends, said}
use Rattle.run_frame.specs.declared.stop.FileStop.TheVariants.{Memory}
use Rattle.run_frame.specs.declared.stop.Stop.TheVariants.{File, Refused}
use Rattle.run_frame.proofs.Readings.{plan-ends-so}
use Rattle.place_run.specs.Answers.{Answer, done}
use Rattle.place_run.specs.Placings.{IsSweepOf}
use Rattle.place_run.specs.Problems.{IsProblemOf}
use Rattle.place_run.specs.Says.{tables_plan}
use Rattle.place_run.specs.Tables.{Tables, codes_in, problem_of, tables_in}
use Rattle.place_run.specs.commands.Base.{rank_text}
use Rattle.place_run.specs.commands.Sweep.{IsSweepText, IsWithoutProgramme, programme_with, quota_row, rows_or_none, sweep_of, sweep_text, swept}
use Rattle.place_run.specs.declared.status.Refusal.{Refusal}
use Rattle.place_run.specs.declared.status.Refusal.TheVariants.{NoProgramme}
use Rattle.place_run.specs.declared.problem.Problem.{Problem as Named}
use Rattle.place_run.proofs.Headline.{are-read}
use Rattle.place_run.proofs.Verdicts.{programmes-counted}

-- a row of a quota, its holders, their base rank and the candidates who changed is the quota's
pub quota-row : (row : SweepRow) (quota held changed : ℕ) (base : List ℕ) → quota ≡ row.quota
    → held ≡ row.held → base ≡ rank_text row.base → changed ≡ row.changed
    → row_text (decimal quota ∷ decimal held ∷ base ∷ decimal changed ∷ []) ≡ quota_row row
quota-row row quota held changed base same_quota same_held same_base same_changed =
    λ i. row_text (decimal (same_quota i) ∷ decimal (same_held i) ∷ same_base i
    ∷ decimal (same_changed i) ∷ [])

-- a programme that a code names is one of the market's
pub sweep-programme : (tables : Tables) (named : Named) (code p : ℕ) → IsProblemOf tables named
    → programme_with code (codes_of tables.programmes.rows) ≡ Some p
    → p < length named.market.programmes
sweep-programme tables named code p is coded =
    subst (λ n. p < n) (sym (programmes-counted tables named is))
    (position-Some (nat_eq code) (codes_of tables.programmes.rows) p 0 coded).0

-- a text is that of the quotas of the programme that a code names in three tables
pub record IsSweepMade (tables : Tables) (code low high : ℕ) (text : List ℕ) : Type 0 where
  pub market : IsValid (problem_of tables)
  pub programme : ℕ
  pub coded : programme_with code (codes_of tables.programmes.rows) ≡ Some programme
  pub worst : AreWorstStable (problem_of tables) programme low high
  pub hurts_nobody : HurtsNobody (problem_of tables) programme low high
  pub made : text ≡ sweep_of tables programme low high

-- so is the text of the rows that a sweep of their market gave
pub sweep-made : (tables : Tables) (named : Named) (code p low high : ℕ) (rows : List SweepRow)
    (text : List ℕ) → IsProblemOf tables named
    → programme_with code (codes_of tables.programmes.rows) ≡ Some p
    → IsSweepOf named.market p low high rows → text ≡ sweep_text rows
    → IsSweepMade tables code low high text
unfolding sweep_of
sweep-made tables named code p low high rows text is coded swept printed =
    let of_tables = subst (λ (m : Problem). IsSweepOf m p low high rows) is.market swept in
    record {
      market = subst IsValid is.market is.valid;
      programme = p;
      coded = coded;
      worst = of_tables.worst;
      hurts_nobody = of_tables.hurts_nobody;
      made = printed ∙ ap sweep_text of_tables.all;
    }

-- what is said so of the tables of files is said of the files
pub sweep-text : (reads : Reads) (tables : Tables) (code low high : ℕ) (text : List ℕ)
    → said tables_plan reads ≡ Some (Ok tables) → IsSweepMade tables code low high text
    → IsSweepText code low high reads text
unfolding sweep_of codes_in tables_in
sweep-text reads tables code low high text says made =
    let files = are-read reads tables says in
    let of_files = subst (λ (v : Tables). IsSweepMade v code low high text) files.tables_are made
    in
    record {
      three = files.three;
      read = files.read;
      no_fault = files.faultless;
      market = of_files.market;
      programme = of_files.programme;
      coded = of_files.coded;
      worst = of_files.worst;
      hurts_nobody = of_files.hurts_nobody;
      printed = of_files.made;
    }

-- and so is that no programme has a code
pub without-programme : (reads : Reads) (tables : Tables) (code : ℕ)
    → said tables_plan reads ≡ Some (Ok tables)
    → programme_with code (codes_of tables.programmes.rows) ≡ None
    → IsWithoutProgramme code reads
unfolding codes_in tables_in
without-programme reads tables code says none =
    let files = are-read reads tables says in
    record {
      three = files.three;
      read = files.read;
      no_fault = files.faultless;
      uncoded = subst (λ (v : Tables).
          programme_with code (codes_of v.programmes.rows) ≡ None) files.tables_are none;
    }

-- the plan of a sweep
abbrev pub sweep_plan : ℕ → ℕ → ℕ → Plan Answer Refusal
sweep_plan code low high = and_then tables_plan (λ tables. ends (swept code low high tables))

module _ {told : Option Files} {names : FileKind → List ℕ} {tables : Tables}
    {before now : Moment} (code low high : ℕ) where
  -- the text of a sweep answers it
  pub sweep-answered : {answer : Answer} (text : List ℕ)
      → (reading : AreRead told names tables_plan (Ok tables) before now) → answer ≡ done text
      → IsSweepMade tables code low high text
      → (all : AreRead told names (sweep_plan code low high) (Ok answer) before now)
      × IsSweepText code low high all.reads answer.text
  sweep-answered {answer = answer} text reading is made =
      let says : swept code low high tables ≡ Ok answer =
      ap (rows_or_none code low high tables) made.coded
      ∙ ap (λ v. Ok (done v)) (sym made.made) ∙ ap (λ v. Ok v) (sym is) in
      plan-ends-so (swept code low high)
      (λ reads (ready : Answer). IsSweepText code low high reads ready.text) (Ok answer) reading
      (ap (λ v. Some v) says) tt
      (subst (λ (v : Answer). IsSweepText code low high reading.reads v.text) (sym is)
      (sweep-text reading.reads tables code low high text reading.meets made))

  -- so does that no programme has the code
  pub sweep-unknown : AreRead told names tables_plan (Ok tables) before now
      → programme_with code (codes_of tables.programmes.rows) ≡ None
      → AreRead told names (sweep_plan code low high) (Err (Refused (NoProgramme code))) before now
  sweep-unknown reading none =
      (plan-ends-so (swept code low high) (λ reads (ready : Answer). Unit {0})
      (Err (Refused (NoProgramme code))) reading
      (inr (ap (λ v. Some (rows_or_none code low high tables v)) none)) tt tt).0

  -- memory may be refused once the files are read
  pub sweep-refused : AreRead told names tables_plan (Ok tables) before now
      → AreRead told names (sweep_plan code low high) (Err (File Memory)) before now
  sweep-refused reading =
      (plan-ends-so (swept code low high) (λ reads (ready : Answer). Unit {0})
      (Err (File Memory)) reading (inl refl) tt tt).0
