-- What a second placement in the market of three tables comes to: where the first one is stable,
-- the mechanism's placement in the market of the seats left, which is a market; else the audit.
use Rattle.std.proofs.Common.{◌≡◌, ◌<◌, ℕ, ◌≤◌, Bool, List, length, Option, Some, None, Ok, refl, sym, subst, ap, ◌∙◌}
use Rattle.std.specs.Prelude.{◌↔◌}
use Rattle.place_base.specs.declared.fault.FileKind.TheVariants as file
use Rattle.market.specs.Mechanism.{mechanism_placement}
use Rattle.market.specs.Problems.{IsValid, Problem}
use Rattle.market.specs.Stability.{IsStable, held_by}
use Rattle.place_edges.specs.Shelf.{file_limit}
use Rattle.programme_table.specs.Table.{Programmes, codes_of}
use Rattle.candidate_table.specs.Table.{numbers_of}
use Rattle.placement_file.specs.Texts.{placement_text}
use Rattle.run_frame.specs.Files.{Reads}
use Rattle.run_frame.specs.Plans.{said}
use Rattle.run_frame.proofs.JudgedTables.{SaysTable, says-table}
use Rattle.run_frame.proofs.Plans.{answer-behind, said-from, said-then}
use Rattle.second_placement.specs.Registrations.{registered_in, registrations_fault}
use Rattle.second_placement.specs.SeatsLeft.{second_problem}
use Rattle.second_placement.proofs.SecondMarket.{candidates-same, each_fits, programmes-same, second-valid}
use Rattle.stability_audit.specs.FirstVerdicts.{verdict_of}
use Rattle.stability_audit.specs.Verdicts.{IsVerdict}
use Rattle.stability_audit.specs.declared.verdict.Verdict.{Verdict}
use Rattle.stability_audit.specs.declared.verdict.Verdict.TheVariants.{Stable, OverQuota, NotAcceptable, Blocking}
use Rattle.stable_laws.proofs.Stable.{stable}
use Rattle.stable_laws.proofs.Worst.{worst_of_stable}
use Rattle.place_run.specs.Answers.{Answer, done}
use Rattle.place_run.specs.Audits.{IsAuditOf}
use Rattle.place_run.specs.Placings.{IsNamed}
use Rattle.place_run.specs.Problems.{IsProblemOf}
use Rattle.place_run.specs.Says.{audited_plan, registered_plan, second_plan}
use Rattle.place_run.specs.Seconds.{HasSeatsLeft, IsSecondOf}
use Rattle.place_run.specs.Tables.{Tables, codes_in, numbers_in, problem_of, registrations_said, tables_in}
use Rattle.place_run.specs.commands.Audit.{Audited, audit_of, placement_beside, verdict_ending, verdict_row}
use Rattle.place_run.specs.commands.Second.{IsSecond, Registered, printed_second, registered_beside, second_by, second_of}
use Rattle.place_run.specs.declared.problem.Problem.{Problem as Named}
use Rattle.place_run.specs.declared.status.Ending.TheVariants.{Done, AuditNo}
use Rattle.place_run.proofs.Headline.{IsAuditedRead, audit-beside, audited-read, audited_with}
use Rattle.place_run.proofs.Markets.{held-within}
use Rattle.place_run.proofs.Verdicts.{answer_with, audit-is}

abbrev pub registered_with : Audited → List Bool → Registered
registered_with audited registered = record { audited = audited; registered = registered }

-- ---- in the market of three tables

-- the audit of the first placement, by its verdict
first-audit : (tables : Tables) (named : Named) (held : List (Option ℕ)) (v : Verdict)
    → IsProblemOf tables named → IsVerdict named.market held v
    → (v ≡ Stable) ↔ IsStable named.market held → v ≡ verdict_of named.market held
    → IsAuditOf (audited_with tables held) (audit_of (audited_with tables held))
first-audit tables named held v is first both told =
    let row = verdict_row (codes_of named.programmes.rows) (numbers_of named.numbers) v in
    let all = audit-is tables named held v (answer_with (verdict_ending v) row) (verdict_ending v)
    row is first both told refl refl refl in
    subst (IsAuditOf (audited_with tables held)) all.said all

-- behind a stable placement the answer is the second one
pub second-placed : (tables : Tables) (named : Named) (held : List (Option ℕ))
    (registered : List Bool) (v : Verdict) (answer : Answer) (text : List ℕ)
    → IsProblemOf tables named → IsVerdict named.market held v
    → (v ≡ Stable) ↔ IsStable named.market held → v ≡ verdict_of named.market held → v ≡ Stable
    → text ≡ placement_text (codes_of named.programmes.rows) (numbers_of named.numbers)
    (mechanism_placement (second_problem named.market held registered))
    → answer ≡ done text
    → IsSecondOf (registered_with (audited_with tables held) registered) answer
unfolding second_of printed_second
second-placed tables named held registered v answer text is first both told well printed answers =
    let given = registered_with (audited_with tables held) registered in
    let verdict : verdict_of (problem_of tables) held ≡ Stable =
    ap (λ (m : Problem). verdict_of m held) (sym is.market) ∙ sym told ∙ well in
    let row : text ≡ printed_second given = printed
    ∙ ap (λ (m : Problem). placement_text (codes_of named.programmes.rows)
    (numbers_of named.numbers) (mechanism_placement (second_problem m held registered))) is.market
    ∙ ap (λ (p : Programmes). placement_text (codes_of p.rows) (numbers_of named.numbers)
    (mechanism_placement (second_problem (problem_of tables) held registered))) is.programmes
    ∙ ap (λ n. placement_text (codes_of tables.programmes.rows) (numbers_of n)
    (mechanism_placement (second_problem (problem_of tables) held registered))) is.numbers in
    record {
      market = subst IsValid is.market is.valid;
      audit = first-audit tables named held v is first both told;
      said = answers ∙ ap done row
          ∙ ap (λ w. second_by w (printed_second given) (audit_of given.audited)) (sym verdict);
    }

-- where it is not stable the answer is the audit's
not-placed : (w : Verdict) (text : List ℕ) (audit : Answer) → (w ≡ Stable → ⊥)
    → audit ≡ second_by w text audit
not-placed Stable text audit never = absurd (never refl)
not-placed (OverQuota p) text audit never = refl
not-placed (NotAcceptable i) text audit never = refl
not-placed (Blocking i p) text audit never = refl

pub second-refused : (tables : Tables) (named : Named) (held : List (Option ℕ))
    (registered : List Bool) (v : Verdict) (answer : Answer) → IsProblemOf tables named
    → IsVerdict named.market held v → (v ≡ Stable) ↔ IsStable named.market held
    → v ≡ verdict_of named.market held → (v ≡ Stable → ⊥)
    → IsAuditOf (audited_with tables held) answer
    → IsSecondOf (registered_with (audited_with tables held) registered) answer
unfolding second_of
second-refused tables named held registered v answer is first both told never audit =
    let given = registered_with (audited_with tables held) registered in
    let same : v ≡ verdict_of (problem_of tables) held =
    told ∙ ap (λ (m : Problem). verdict_of m held) is.market in
    record {
      market = subst IsValid is.market is.valid;
      audit = first-audit tables named held v is first both told;
      said = audit.said
          ∙ not-placed (verdict_of (problem_of tables) held) (printed_second given)
          (audit_of given.audited) (λ e. never (same ∙ e));
    }

-- the market of the seats left is one
left-valid : (first second : Named) (held : List (Option ℕ)) (registered : List Bool)
    → HasSeatsLeft first held registered second → IsValid first.market → IsValid second.market
left-valid first second held registered left valid =
    subst IsValid (sym left.market) (second-valid first.market held registered valid)

-- the candidates and the programmes of the second placement have names
pub second-candidates : (first second : Named) (held : List (Option ℕ)) (registered : List Bool)
    → IsNamed first → HasSeatsLeft first held registered second → IsValid first.market
    → length (mechanism_placement second.market) ≡ length (numbers_of second.numbers)
second-candidates first second held registered named left valid =
    (stable second.market (left-valid first second held registered left valid)).placement.candidates
    ∙ ap (λ (m : Problem). length m.lists) left.market
    ∙ candidates-same first.market held registered ∙ sym named.candidates
    ∙ ap (λ n. length (numbers_of n)) (sym left.numbers)

pub second-programmes : (first second : Named) (held : List (Option ℕ)) (registered : List Bool)
    → IsNamed first → HasSeatsLeft first held registered second → IsValid first.market
    → (i p : ℕ) → held_by (mechanism_placement second.market) i ≡ Some p
    → p < length (codes_of second.programmes.rows)
second-programmes first second held registered named left valid i p holds =
    let good = left-valid first second held registered left valid in
    let counted : length second.market.programmes ≡ length (codes_of second.programmes.rows) =
    ap (λ (m : Problem). length m.programmes) left.market
    ∙ programmes-same first.market held registered ∙ sym named.programmes
    ∙ ap (λ (v : Programmes). length (codes_of v.rows)) (sym left.programmes) in
    subst (λ n. p < n) counted
    (held-within second.market (mechanism_placement second.market) good
    (stable second.market good).placement i p holds)

-- ---- of five files that were read

-- a registrations file that says who has registered has no fault
says-registrations : (numbers bytes : List ℕ) (said : List Bool)
    → registrations_said numbers bytes ≡ Ok said
    → SaysTable (registrations_fault numbers bytes) (registered_in numbers bytes) said bytes
unfolding registrations_said
says-registrations numbers bytes said e = says-table file.Registrations _ _ said bytes e

-- how the answer ends, and its text
record EndsAs (audit answer : Answer) (text : List ℕ) : Type 0 where
  ending : answer.ending ≡ audit.ending
  unstable : audit.ending ≡ AuditNo → answer.text ≡ audit.text
  placed : audit.ending ≡ Done → answer.text ≡ text

ends-as : (w : Verdict) (text : List ℕ) (audit : Answer) → audit.ending ≡ verdict_ending w
    → EndsAs audit (second_by w text audit) text
ends-as Stable text audit e =
    record { ending = sym e; unstable = λ no. cc (sym e ∙ no); placed = λ well. refl }
ends-as (OverQuota p) text audit e =
    record { ending = refl; unstable = λ no. refl; placed = λ well. cc (sym e ∙ well) }
ends-as (NotAcceptable i) text audit e =
    record { ending = refl; unstable = λ no. refl; placed = λ well. cc (sym e ∙ well) }
ends-as (Blocking i p) text audit e =
    record { ending = refl; unstable = λ no. refl; placed = λ well. cc (sym e ∙ well) }

-- so does the answer to what was read
answer-ends : (given : Registered) (answer : Answer) → answer ≡ second_of given
    → EndsAs (audit_of given.audited) answer (printed_second given)
unfolding second_of audit_of
answer-ends given answer is =
    subst (λ (v : Answer). EndsAs (audit_of given.audited) v (printed_second given)) (sym is)
    (ends-as (verdict_of (problem_of given.audited.tables) given.audited.held)
    (printed_second given) (audit_of given.audited) refl)

-- the second placement of five files that were read
second-beside : {reads : Reads} {audited : Audited} {answer : Answer} (registrations : List ℕ)
    → (files : IsAuditedRead reads audited) → reads file.Registrations ≡ Some registrations
    → length registrations ≤ file_limit
    → registrations_fault (numbers_in files.three) registrations ≡ None
    → IsSecondOf (registered_with (audited_with (tables_in files.three)
    (placement_beside files.three files.bytes)) (registered_beside files.three registrations))
    answer → IsSecond reads answer
unfolding audit-beside printed_second tables_in codes_in numbers_in
second-beside {answer = answer} registrations files read few none is =
    let held = placement_beside files.three files.bytes in
    let registered = registered_beside files.three registrations in
    let m = problem_of (tables_in files.three) in
    let given = registered_with (audited_with (tables_in files.three) held) registered in
    let ends = answer-ends given answer is.said in
    let audit = audit-beside files is.audit in
    let valid = second-valid m held registered is.market in
    let second = second_problem m held registered in
    record {
      audit_answer = audit_of given.audited;
      audit = audit;
      registrations = registrations;
      registrations_read = read;
      registrations_few = few;
      registrations_no_fault = none;
      ending = ends.ending;
      unstable = ends.unstable;
      placed = λ well. record {
        market = valid;
        worst = worst_of_stable second valid;
        beside = each_fits m held registered (audit.stable.0 well).placement
            (mechanism_placement second) (stable second valid).placement;
        printed = ends.placed well;
      };
    }

pub second-answer : (reads : Reads) (given : Registered) (answer : Answer)
    → said second_plan reads ≡ Some (Ok given) → IsSecondOf given answer → IsSecond reads answer
unfolding tables_in codes_in numbers_in
second-answer reads given answer says is =
    let behind = answer-behind (said audited_plan reads) _ given
    (sym (said-then audited_plan registered_plan reads) ∙ says) in
    let audited = behind.0 in
    let numbers = numbers_of audited.tables.candidates.numbers in
    let files = audited-read reads audited behind.1 in
    let last = said-from (reads file.Registrations) (registrations_said numbers) _ given behind.2 in
    let one = says-registrations numbers last.0 last.2 last.3 in
    let made : given ≡ registered_with audited last.2 = cc last.4 in
    let all = made ∙ ap (registered_with audited) one.same
    ∙ ap (λ (v : Audited). registered_with v
    (registered_in (numbers_of v.tables.candidates.numbers) last.0)) files.audited_is in
    let none = subst (λ (v : Audited). registrations_fault (numbers_of v.tables.candidates.numbers)
    last.0 ≡ None) files.audited_is one.none in
    second-beside last.0 files last.1 one.few none
    (subst (λ (v : Registered). IsSecondOf v answer) all is)
