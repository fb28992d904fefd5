-- The summary of a made market: what is said of it, and how it answers the words.
use Rattle.std.proofs.Common.{◌≡◌, ℕ, List, Option, Some, Result, Ok, Err, refl, sym, subst, ap, ◌∙◌, inl, IfOk}
use Rattle.std.specs.Prelude.{IsErrAnd, IsTrue}
use Rattle.case_maker.specs.MadeMarkets.{HasSizes, made_market}
use Rattle.command_words.specs.declared.words.Command.{Command}
use Rattle.command_words.specs.declared.words.Command.TheVariants.{Make}
use Rattle.command_words.specs.declared.words.WordsFault.{WordsFault}
use Rattle.market.specs.Comparisons.{IsWorstStable}
use Rattle.market.specs.Mechanism.{mechanism_cuts, mechanism_placement, mechanism_rounds}
use Rattle.market.specs.Problems.{IsValid, Problem}
use Rattle.market.specs.declared.placement.Outcome.{Outcome}
use Rattle.market_summary.specs.Summaries.{summary}
use Rattle.place_edges.specs.Shelf.{Files}
use Rattle.run_frame.specs.declared.stop.FileStop.TheVariants.{Memory}
use Rattle.run_frame.specs.Files.{Moment}
use Rattle.run_frame.specs.Meetings.{Meets}
use Rattle.run_frame.proofs.Parts.{at-error}
use Rattle.run_frame.proofs.Readings.{NeedsNoCause, plan-ends}
use Rattle.place_run.specs.Answers.{Answer, done}
use Rattle.place_run.specs.Makings.{IsSummarised}
use Rattle.place_run.specs.Placings.{IsOutcomeOf}
use Rattle.place_run.specs.Runs.{IsAnswering}
use Rattle.run_frame.specs.Stops.{is_free_stop}
use Rattle.place_run.specs.commands.Make.{IsSummaryOf, outcome_of, summary_of}
use Rattle.place_run.specs.declared.status.Refusal.{Refusal}
use Rattle.run_frame.specs.declared.stop.Stop.{Stop}
use Rattle.run_frame.specs.declared.stop.Stop.TheVariants.{File}

-- what the rounds gave is what the mechanism gives
outcome-is : (m : Problem) (outcome : Outcome) → IsOutcomeOf m outcome → outcome ≡ outcome_of m
outcome-is m outcome is =
    ap (λ v. record outcome { placement = v }) is.placement
    ∙ ap (λ v. record outcome { placement = mechanism_placement m; rounds = v }) is.rounds
    ∙ ap (λ v. record outcome {
      placement = mechanism_placement m;
      rounds = mechanism_rounds m;
      cuts = v;
    }) is.cuts
    ∙ ap (λ v. record {
      placement = mechanism_placement m;
      rounds = mechanism_rounds m;
      cuts = mechanism_cuts m;
      turns = v;
    }) is.turns

-- the summary of what they gave in a made market is that of the market
pub is-summary : (seed candidates programmes types : ℕ) (m : Problem) (outcome : Outcome)
    (text : List ℕ) (answer : Answer) → m ≡ made_market seed candidates programmes types
    → IsValid (made_market seed candidates programmes types)
    → HasSizes (made_market seed candidates programmes types) candidates programmes types
    → IsWorstStable m (mechanism_placement m) → IsOutcomeOf m outcome → text ≡ summary m outcome
    → answer ≡ done text → IsSummarised seed candidates programmes types (Ok answer)
unfolding summary_of
is-summary seed candidates programmes types m outcome text answer made valid sizes worst is
    printed same =
    let of_made : text ≡ summary_of seed candidates programmes types =
    printed ∙ ap (summary m) (outcome-is m outcome is)
    ∙ ap (λ v. summary v (outcome_of v)) made in (
      same ∙ ap done of_made,
      record {
        market = valid;
        sizes = sizes;
        worst = subst (λ v. IsWorstStable v (mechanism_placement v)) made worst;
        printed = ap (λ (v : Answer). v.text) same ∙ of_made;
      },
    )

-- where memory was refused there is none
pub no-summary : (seed candidates programmes types : ℕ) (answer : Result Answer (Stop Refusal))
    → IsErrAnd answer (λ stop. stop ≡ File Memory)
    → IsSummarised seed candidates programmes types answer
no-summary seed candidates programmes types answer is =
    at-error (IsSummarised seed candidates programmes types) answer (File Memory) is refl

-- no file is read for it
needs-no-cause : (seed candidates programmes types : ℕ) (answer : Result Answer (Stop Refusal))
    → IsSummarised seed candidates programmes types answer → NeedsNoCause answer
needs-no-cause seed candidates programmes types (Ok ready) is = tt
needs-no-cause seed candidates programmes types (Err stop) same =
    subst (λ v. NeedsNoCause {A = Answer} (Err v)) (sym same) tt

-- it is what is said, or memory was refused
meets-summary : (seed candidates programmes types : ℕ) (answer : Result Answer (Stop Refusal))
    → IsSummarised seed candidates programmes types answer
    → Meets is_free_stop (Some (Ok (done (summary_of seed candidates programmes types)))) answer
meets-summary seed candidates programmes types (Ok ready) (same, kept) =
    ap (λ v. Some (Ok v)) (sym same)
meets-summary seed candidates programmes types (Err stop) same =
    inl (subst (λ v. IsTrue (is_free_stop v)) (sym same) refl)

keeps-summary : (seed candidates programmes types : ℕ) (answer : Result Answer (Stop Refusal))
    → IsSummarised seed candidates programmes types answer
    → IfOk answer (λ ready. IsSummaryOf seed candidates programmes types ready.text)
keeps-summary seed candidates programmes types (Ok ready) (same, kept) = kept
keeps-summary seed candidates programmes types (Err stop) same = tt

-- so a summary answers `make`, and nothing is read for it
pub summarised : (told : Option Files) (words : List (List ℕ)) (command : Result Command WordsFault)
    (seed candidates programmes types workers : ℕ) (answer : Result Answer (Stop Refusal))
    (now : Moment) → command ≡ Ok (Make seed candidates programmes types workers)
    → IsSummarised seed candidates programmes types answer
    → IsAnswering told words command answer now now
summarised told words command seed candidates programmes types workers answer now accepted is =
    subst (λ v. IsAnswering told words v answer now now) (sym accepted) (record {
      reading = plan-ends _ answer now (meets-summary seed candidates programmes types answer is)
          (needs-no-cause seed candidates programmes types answer is);
      promise = keeps-summary seed candidates programmes types answer is;
    })
