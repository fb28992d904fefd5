-- What an audit says of a placement in the market of three tables.
use Rattle.std.proofs.Common.{◌≡◌, ℕ, ◌<◌, List, Option, length, subst, ap, ◌∙◌}
use Rattle.std.specs.Prelude.{◌↔◌}
use Rattle.market.specs.Problems.{IsValid, Problem, list_of, place_of}
use Rattle.market.specs.Stability.{IsStable}
use Rattle.market.proofs.Firsts.{place_get}
use Rattle.market.proofs.Valid.{candidate_lt}
use Rattle.programme_table.specs.Table.{Programmes, codes_of}
use Rattle.candidate_table.specs.Table.{numbers_of}
use Rattle.reports.specs.BaseTables.{HoldsProgrammes}
use Rattle.stability_audit.specs.FirstVerdicts.{verdict_of}
use Rattle.stability_audit.specs.Verdicts.{IsVerdict}
use Rattle.stability_audit.specs.declared.verdict.Verdict.{Verdict}
use Rattle.stability_audit.specs.declared.verdict.Verdict.TheVariants.{Stable, OverQuota, NotAcceptable, Blocking}
use Rattle.stability_audit.proofs.FirstSaid.{holder-within, over-within}
use Rattle.place_run.specs.Answers.{Answer}
use Rattle.place_run.specs.Audits.{IsAuditOf, NamesVerdict}
use Rattle.place_run.specs.Problems.{IsProblemOf}
use Rattle.place_run.specs.Tables.{Tables}
use Rattle.place_run.specs.commands.Audit.{audit_of, verdict_answer, verdict_ending, verdict_row}
use Rattle.place_run.specs.declared.problem.Problem.{Problem as Named}
use Rattle.place_run.specs.declared.status.Ending.{Ending}
use Rattle.place_run.proofs.Markets.{lists-of_market, programmes-of_market}

-- the market of three tables has a candidate for each number, and a programme for each code
pub candidates-counted : (tables : Tables) (named : Named) → IsProblemOf tables named
    → length named.market.lists ≡ length tables.candidates.numbers
candidates-counted tables named is =
    ap (λ (v : Problem). length v.lists) is.market
    ∙ ap length (lists-of_market tables.programmes tables.candidates.lists tables.ranks)
    ∙ is.paired

-- and it has a programme for each code
pub programmes-counted : (tables : Tables) (named : Named) → IsProblemOf tables named
    → length named.market.programmes ≡ length (codes_of tables.programmes.rows)
programmes-counted tables named is =
    ap (λ (v : Problem). length v.programmes) is.market
    ∙ programmes-of_market tables.programmes tables.candidates.lists tables.ranks

-- who stands in a verdict is of the market
pub names-verdict : (m : Problem) (held : List (Option ℕ)) → IsValid m → HoldsProgrammes m held
    → length held ≡ length m.lists → (v : Verdict) → IsVerdict m held v → NamesVerdict m v
names-verdict m held valid programmes sizes Stable h = tt
names-verdict m held valid programmes sizes (OverQuota p) h =
    over-within m held p programmes h.over
names-verdict m held valid programmes sizes (NotAcceptable i) h =
    holder-within m held i sizes h.unacceptable
names-verdict m held valid programmes sizes (Blocking i p) h =
    let listed = h.blocks.acceptable.listed in
    let place = place_of p (list_of m i) in
    let known = candidate_lt m i place listed in (
      known,
      subst (λ q. q < length m.programmes) (place_get p (list_of m i) 0 listed)
          (valid.list_entries i place known listed),
    )

abbrev pub answer_with : Ending → List ℕ → Answer
answer_with end text = record { ending = end; text = text }

-- the answer with the first verdict is that of the audit
pub audit-is : (tables : Tables) (named : Named) (held : List (Option ℕ)) (v : Verdict)
    (answer : Answer) (end : Ending) (text : List ℕ) → IsProblemOf tables named
    → IsVerdict named.market held v → (v ≡ Stable) ↔ IsStable named.market held
    → v ≡ verdict_of named.market held → end ≡ verdict_ending v
    → text ≡ verdict_row (codes_of named.programmes.rows) (numbers_of named.numbers) v
    → answer ≡ record { ending = end; text = text }
    → IsAuditOf (record { tables = tables; held = held }) answer
unfolding audit_of
audit-is tables named held v answer end text is first stable said ends printed answers =
    let codes = codes_of tables.programmes.rows in
    let numbers = numbers_of tables.candidates.numbers in
    let row : text ≡ verdict_row codes numbers v = printed
    ∙ ap (λ (p : Programmes). verdict_row (codes_of p.rows) (numbers_of named.numbers) v)
    is.programmes
    ∙ ap (λ n. verdict_row codes (numbers_of n) v) is.numbers in
    let all : answer ≡ verdict_answer codes numbers v = answers
    ∙ ap (λ w. answer_with w text) ends ∙ ap (λ w. answer_with (verdict_ending v) w) row in
    record {
      verdict = v;
      first = subst (λ (m : Problem). IsVerdict m held v) is.market first;
      stable = subst (λ (m : Problem). (v ≡ Stable) ↔ IsStable m held) is.market stable;
      said = all ∙ ap (λ w. verdict_answer codes numbers w)
          (said ∙ ap (λ (m : Problem). verdict_of m held) is.market);
      printed = all;
    }
