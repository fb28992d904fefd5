-- What a command's plan came to: an answer that is made of what was read, or a stop.
use Rattle.std.proofs.Common.{◌≡◌, ◌∙◌, ℕ, List, Option, Result, Ok, Err, refl, sym, subst, ap, inr}
use Rattle.std.specs.Prelude.{IsErrAnd}
use Rattle.command_words.specs.declared.words.WordsFault.{WordsFault}
use Rattle.command_words.specs.declared.words.Command.{Command}
use Rattle.place_base.specs.declared.fault.FileKind.{FileKind}
use Rattle.place_base.specs.declared.fault.FileKind.TheVariants as file
use Rattle.place_edges.specs.Shelf.{Files}
use Rattle.run_frame.specs.Files.{Moment, Reads}
use Rattle.run_frame.specs.Plans.{AreRead, Plan, and_then, answered}
use Rattle.run_frame.specs.declared.stop.Stop.{Stop}
use Rattle.run_frame.specs.declared.stop.Stop.TheVariants.{Refused}
use Rattle.run_frame.proofs.Parts.{at-error}
use Rattle.run_frame.proofs.Readings.{answer-made, before_kind, plan-ends, plan-goes-on}
use Rattle.place_run.specs.Answers.{Answer, done}
use Rattle.place_run.specs.Runs.{IsAnswering}
use Rattle.place_run.specs.Says.{audited_plan, held_plan, named, plan, registered_plan, second_plan, tables_plan}
use Rattle.place_run.specs.Tables.{Tables}
use Rattle.place_run.specs.commands.Audit.{Audited}
use Rattle.place_run.specs.commands.Second.{Registered}
use Rattle.place_run.specs.declared.status.Refusal.{Refusal}
use Rattle.place_run.specs.declared.status.Refusal.TheVariants.{Words}

-- an answer that is an error
pub answer-error : {told : Option Files} {words : List (List ℕ)}
    {command : Result Command WordsFault} {answer : Result Answer (Stop Refusal)}
    {stop : Stop Refusal} {before now : Moment} → IsErrAnd answer (λ found. found ≡ stop)
    → AreRead told (named words) (plan command) (Err stop) before now
    → IsAnswering told words command answer before now
answer-error {told = told} {words = words} {command = command} {answer = answer} {stop = stop}
    {before = before} {now = now} is reading =
    at-error (λ v. IsAnswering told words command v before now) answer stop is
    (record { reading = reading; promise = tt })

-- words that are no command are answered with their refusal, before a file is read
pub words-refused : (told : Option Files) (words : List (List ℕ))
    (command : Result Command WordsFault) (refused : WordsFault) (now : Moment)
    → command ≡ Err refused → IsAnswering told words command (Err (Refused (Words refused))) now now
words-refused told words command refused now none =
    subst (λ v. IsAnswering told words v (Err (Refused (Words refused))) now now) (sym none) (record {
      reading = plan-ends _ _ now (inr refl) tt;
      promise = tt;
    })

-- a text that is made of three tables, with what is promised of it
pub tables-answered : {told : Option Files} {names : FileKind → List ℕ} {tables : Tables}
    {answer : Answer} {before now : Moment} (make : Tables → List ℕ)
    (Keeps : Reads → List ℕ → Type 0) (text : List ℕ)
    → (reading : AreRead told names tables_plan (Ok tables) before now)
    → answer ≡ done text → text ≡ make tables → Keeps reading.reads text
    → (all : AreRead told names (answered (λ tables. done (make tables)) tables_plan)
    (Ok answer) before now) × Keeps all.reads answer.text
tables-answered {answer = answer} make Keeps text reading is made kept =
    answer-made (λ tables. done (make tables)) (λ reads ready. Keeps reads ready.text) answer
    reading (is ∙ ap done made)
    (subst (λ (v : Answer). Keeps reading.reads v.text) (sym is) kept)

-- what a placement file comes to behind three files is what all four come to
pub behind-tables : {told : Option Files} {names : FileKind → List ℕ} {tables : Tables}
    {result : Result Audited (Stop Refusal)} {first before now : Moment}
    → AreRead told names tables_plan (Ok tables) first before
    → AreRead told names (held_plan tables) result before now
    → AreRead told names audited_plan result first now
behind-tables front last =
    plan-goes-on (before_kind file.Placement) held_plan (refl, λ t. (refl, λ t. (refl, λ t. tt)))
    (refl, λ t. tt) front last

-- a placement file beside these tables, and a registrations file behind it
abbrev pub registered_behind : Tables → Plan Registered Refusal
registered_behind tables = and_then (held_plan tables) registered_plan

-- and what both come to behind three files is what all five come to
pub both-behind-tables : {told : Option Files} {names : FileKind → List ℕ} {tables : Tables}
    {result : Result Registered (Stop Refusal)} {first before now : Moment}
    → AreRead told names tables_plan (Ok tables) first before
    → AreRead told names (registered_behind tables) result before now
    → AreRead told names second_plan result first now
both-behind-tables front last =
    plan-goes-on (before_kind file.Placement) registered_behind
    (refl, λ t. (refl, λ t. (refl, λ t. tt))) (refl, λ t. (refl, λ t. tt)) front last
