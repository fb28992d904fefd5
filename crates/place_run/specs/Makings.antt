-- What making a market and summing it up came to.
use Rattle.std.specs.Prelude.{◌≡◌, ℕ, Result, Ok, Err}
use Rattle.run_frame.specs.declared.stop.FileStop.TheVariants.{Memory}
use Rattle.place_run.specs.Answers.{Answer, done}
use Rattle.place_run.specs.commands.Make.{IsSummaryOf, summary_of}
use Rattle.place_run.specs.declared.status.Refusal.{Refusal}
use Rattle.run_frame.specs.declared.stop.Stop.{Stop}
use Rattle.run_frame.specs.declared.stop.Stop.TheVariants.{File}

-- the answer is the summary, with what is promised of it, or memory was refused
abbrev pub IsSummarised : ℕ → ℕ → ℕ → ℕ → Result Answer (Stop Refusal) → Type 0
IsSummarised seed candidates programmes types (Ok answer) =
    (answer ≡ done (summary_of seed candidates programmes types))
    × IsSummaryOf seed candidates programmes types answer.text
IsSummarised seed candidates programmes types (Err stop) = stop ≡ File Memory
