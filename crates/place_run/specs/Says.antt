-- What the words come to: the plan of each command, and what is promised of its answer.
use Rattle.std.specs.Prelude.{ℕ, List, [], slice_index_or, Result, Ok, Err, ⊤}
use Rattle.place_base.specs.declared.fault.FileKind.{FileKind}
use Rattle.place_base.specs.declared.fault.FileKind.TheVariants.{Programmes, Candidates, Ranks, Placement, Registrations}
use Rattle.command_words.specs.declared.words.Command.{Command}
use Rattle.command_words.specs.declared.words.Command.TheVariants.{Place, Base, Reasons, Audit, Fixed, Sweep, Second, Make}
use Rattle.command_words.specs.declared.words.WordsFault.{WordsFault}
use Rattle.programme_table.specs.Table.{codes_of}
use Rattle.candidate_table.specs.Table.{numbers_of}
use Rattle.run_frame.specs.Files.{Reads}
use Rattle.run_frame.specs.Plans.{Plan, and_then, answered, ends, opens}
use Rattle.place_run.specs.Answers.{Answer, done}
use Rattle.place_run.specs.Tables.{Tables, candidates_said, placement_said, programmes_said, ranks_said, registrations_said}
use Rattle.place_run.specs.commands.Audit.{Audited, IsAudit, audit_of}
use Rattle.place_run.specs.commands.Base.{IsBaseText, bases_of}
use Rattle.place_run.specs.commands.Fixed.{IsFixedText, fixed_of}
use Rattle.place_run.specs.commands.Make.{IsSummaryOf, summary_of}
use Rattle.place_run.specs.commands.Place.{IsWorstStableText, printed_placement}
use Rattle.place_run.specs.commands.Reasons.{IsReasonsText, reasons_of}
use Rattle.place_run.specs.commands.Second.{IsSecond, Registered, second_of}
use Rattle.place_run.specs.commands.Sweep.{IsSweepText, swept}
use Rattle.place_run.specs.declared.status.Refusal.{Refusal}
use Rattle.place_run.specs.declared.status.Refusal.TheVariants.{Words}
use Rattle.run_frame.specs.declared.stop.Stop.TheVariants.{Refused}

-- the word at an index, from 0
abbrev pub word_at : List (List ℕ) → ℕ → List ℕ
word_at words index = slice_index_or words index []

-- the names that the words give to the files of each kind
abbrev pub named : List (List ℕ) → FileKind → List ℕ
named words Programmes = word_at words 1
named words Candidates = word_at words 2
named words Ranks = word_at words 3
named words Placement = word_at words 4
named words Registrations = word_at words 5

-- three files, each judged beside those before it: their tables
abbrev pub tables_plan : Plan Tables Refusal
tables_plan =
    opens Programmes programmes_said (λ programmes.
    opens Candidates (candidates_said (codes_of programmes.rows)) (λ candidates.
    opens Ranks (ranks_said programmes.names (numbers_of candidates.numbers)) (λ ranks.
    ends (Ok (record { programmes = programmes; candidates = candidates; ranks = ranks })))))

-- a placement file beside these tables
abbrev pub held_plan : Tables → Plan Audited Refusal
held_plan tables =
    opens Placement (placement_said (codes_of tables.programmes.rows)
    (numbers_of tables.candidates.numbers)) (λ held.
    ends (Ok (record { tables = tables; held = held })))

-- the three files, and the placement file behind them
abbrev pub audited_plan : Plan Audited Refusal
audited_plan = and_then tables_plan held_plan

-- a registrations file beside the candidates of an audited placement
abbrev pub registered_plan : Audited → Plan Registered Refusal
registered_plan audited =
    opens Registrations (registrations_said (numbers_of audited.tables.candidates.numbers))
    (λ registered. ends (Ok (record { audited = audited; registered = registered })))

-- the four files, and the registrations file behind them
abbrev pub second_plan : Plan Registered Refusal
second_plan = and_then audited_plan registered_plan

-- what the words come to: the files of each command, and its answer
abbrev pub plan : Result Command WordsFault → Plan Answer Refusal
plan (Err refused) = ends (Err (Refused (Words refused)))
plan (Ok (Place workers)) = answered (λ tables. done (printed_placement tables)) tables_plan
plan (Ok (Base workers)) = answered (λ tables. done (bases_of tables)) tables_plan
plan (Ok (Reasons workers)) = answered (λ tables. done (reasons_of tables)) tables_plan
plan (Ok (Audit workers)) = answered audit_of audited_plan
plan (Ok (Fixed workers)) = answered (λ tables. done (fixed_of tables)) tables_plan
plan (Ok (Sweep code low high workers)) =
    and_then tables_plan (λ tables. ends (swept code low high tables))
plan (Ok (Second workers)) = answered second_of second_plan
plan (Ok (Make seed candidates programmes types workers)) =
    ends (Ok (done (summary_of seed candidates programmes types)))

-- what each command promises of its answer, in the subject's own words
abbrev pub KeepsPromise : Result Command WordsFault → Reads → Answer → Type 0
KeepsPromise (Err refused) reads answer = ⊤
KeepsPromise (Ok (Place workers)) reads answer = IsWorstStableText reads answer.text
KeepsPromise (Ok (Base workers)) reads answer = IsBaseText reads answer.text
KeepsPromise (Ok (Reasons workers)) reads answer = IsReasonsText reads answer.text
KeepsPromise (Ok (Audit workers)) reads answer = IsAudit reads answer
KeepsPromise (Ok (Fixed workers)) reads answer = IsFixedText reads answer.text
KeepsPromise (Ok (Sweep code low high workers)) reads answer =
    IsSweepText code low high reads answer.text
KeepsPromise (Ok (Second workers)) reads answer = IsSecond reads answer
KeepsPromise (Ok (Make seed candidates programmes types workers)) reads answer =
    IsSummaryOf seed candidates programmes types answer.text
