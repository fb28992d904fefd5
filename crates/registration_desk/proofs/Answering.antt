-- What the words ask for is said over the bytes that were read: a report, or a refusal of words.
use Rattle.std.proofs.Common.{◌≡◌, ℕ, List, Option, Result, Ok, Err, refl, sym, subst, inr}
use Rattle.place_edges.specs.Shelf.{Files}
use Rattle.run_frame.specs.Files.{Moment}
use Rattle.run_frame.specs.Plans.{AreRead}
use Rattle.run_frame.proofs.Readings.{answer-made, plan-ends}
use Rattle.registration_desk.specs.Reports.{DeskReport}
use Rattle.registration_desk.specs.Runs.{IsAnswering}
use Rattle.registration_desk.specs.Says.{DeskFiles, both_plan, named, reported}
use Rattle.run_frame.specs.declared.stop.Stop.TheVariants.{Refused}
use Rattle.registration_desk.specs.declared.words.DeskWords.{DeskWords}

-- the report on what was read
pub desk-answers : (told : Option Files) (words : List (List ℕ)) (files : DeskFiles)
    (report : DeskReport) (clerks : ℕ) (before now : Moment)
    → AreRead told (named words) both_plan (Ok files) before now → report ≡ reported files
    → IsAnswering told words (Ok clerks) (Ok report) before now
desk-answers told words files report clerks before now reading is =
    (answer-made reported (λ reads (made : DeskReport). Unit {0}) report reading is tt).0

-- words that are refused open no file
pub words-refused : (told : Option Files) (words : List (List ℕ)) (clerks : Result ℕ DeskWords)
    (refused : DeskWords) (now : Moment) → clerks ≡ Err refused
    → IsAnswering told words clerks (Err (Refused refused)) now now
words-refused told words clerks refused now none =
    subst (λ v. IsAnswering told words v (Err (Refused refused)) now now) (sym none)
    (plan-ends _ _ now (inr refl) tt)
