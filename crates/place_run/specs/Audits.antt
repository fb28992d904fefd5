-- What an audit of a placement in the market of three tables came to.
use Rattle.std.specs.Prelude.{◌≡◌, ◌<◌, ◌↔◌, length, ⊤}
use Rattle.market.specs.Problems.{Problem}
use Rattle.market.specs.Stability.{IsStable}
use Rattle.stability_audit.specs.Verdicts.{IsVerdict}
use Rattle.stability_audit.specs.declared.verdict.Verdict.{Verdict}
use Rattle.stability_audit.specs.declared.verdict.Verdict.TheVariants.{Stable, OverQuota, NotAcceptable, Blocking}
use Rattle.programme_table.specs.Table.{codes_of}
use Rattle.candidate_table.specs.Table.{numbers_of}
use Rattle.place_run.specs.Answers.{Answer}
use Rattle.place_run.specs.Tables.{problem_of}
use Rattle.place_run.specs.commands.Audit.{Audited, audit_of, verdict_answer}

-- the programme and the candidate of a verdict are of the market
abbrev pub NamesVerdict : Problem → Verdict → Type 0
NamesVerdict m Stable = ⊤
NamesVerdict m (OverQuota p) = p < length m.programmes
NamesVerdict m (NotAcceptable i) = i < length m.lists
NamesVerdict m (Blocking i p) = (i < length m.lists) × (p < length m.programmes)

-- an answer has the first verdict, and it is that of a stable placement exactly where the placement
-- is stable
pub record IsAuditOf (audited : Audited) (answer : Answer) : Type 0 where
  pub verdict : Verdict
  pub first : IsVerdict (problem_of audited.tables) audited.held verdict
  pub stable : (verdict ≡ Stable) ↔ IsStable (problem_of audited.tables) audited.held
  pub said : answer ≡ audit_of audited
  pub printed : answer ≡ verdict_answer (codes_of audited.tables.programmes.rows)
      (numbers_of audited.tables.candidates.numbers) verdict
