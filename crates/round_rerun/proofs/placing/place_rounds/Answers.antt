use Rattle.std.proofs.Common.{ℕ, ◌+◌, ◌∙◌, Bool, List, Option, ap, sym, subst, length, arith}
use Rattle.market.specs.Counting.{HasRisenWithin}
use Rattle.market.proofs.Plain.{rounds_small, total_small}
use Rattle.market.proofs.Replays.{round-within, round-count, round-table}
use Rattle.market.specs.Reruns.{placement_turns}
use Rattle.truncation.specs.Touches.{is_marked}
use Rattle.round_rerun.proofs.Keeping.{kept-forget}
use Rattle.round_rerun.proofs.Several.{CutsSeveral, several-none, several-cut, several-same}
use Rattle.round_rerun.proofs.Replaying.{IsReplayUpto, replay-none, replay-within, replay-more, replay-fall, replay-risen, replay-last, err_too}
use Rattle.round_rerun.proofs.placing.place_rounds.Goals as goal

pub rounds-init : goal.rounds-init
rounds-init g c = record {
  replay = replay-none c.args.market.now c.in_ok-cuts.ensures.valid c.in_ok-cuts.cuts
      c.in_ok-kept.kept.table c.all-touched.result.first c.in_ok-cuts.ensures.cuts
      c.in_ok-kept.ensures.table c.all-touched.ensures.first;
  choices = c.in_ok-kept.ensures.kept;
  several = several-none c.args.market.now c.in_ok-kept.kept.table c.in_ok-cuts.cuts
      c.in_ok-kept.ensures.table;
  steps = omega arith;
}

pub run_round-requires-clause-within : goal.run_round-requires-clause-within
run_round-requires-clause-within g c κs within = replay-within c.args.market.now c.rounds.rounds
    c.rounds.cuts c.rounds.total c.rounds.kept.table c.rounds.touched.first c.rounds.done
    c.rounds.invariant.replay

pub cut_marked-touched-requires-clause-within : goal.cut_marked-touched-requires-clause-within
cut_marked-touched-requires-clause-within g c = round-within c.args.market.now c.rounds.cuts
    c.run_round.new.kept.table c.in_ok-done.ensures.round

pub cut_marked-touched-requires-clause-marks : goal.cut_marked-touched-requires-clause-marks
cut_marked-touched-requires-clause-marks g c =
    ap (λ (xs : List Bool). length xs) c.changed.ensures ∙ c.in_ok-done.ensures.choices.marks

pub cut_marked-touched-requires-clause-others : goal.cut_marked-touched-requires-clause-others
cut_marked-touched-requires-clause-others g c = λ i l free.
    let m = c.args.market.now in
    several-same m c.rounds.kept.table c.run_round.new.kept.table c.rounds.cuts i
    c.rounds.invariant.several (round-within m c.rounds.cuts c.run_round.new.kept.table
    c.in_ok-done.ensures.round) l
    (c.in_ok-done.ensures.unmarked i
    (ap (λ (xs : List Bool). is_marked xs i) (sym c.changed.ensures) ∙ free)).1

pub overflow_add-result : goal.overflow_add-result
overflow_add-result g c =
    let h = rounds_small _ c.in_ok-cuts.ensures.valid _ _ _ c.rounds.invariant.replay.rounds in
    omega arith

pub overflow_add-rounds : goal.overflow_add-rounds
overflow_add-rounds g c =
    let h = rounds_small _ c.in_ok-cuts.ensures.valid _ _ _ c.rounds.invariant.replay.rounds in
    omega arith

pub overflow_add-total : goal.overflow_add-total
overflow_add-total g c =
    let m = c.args.market.now in
    let h = total_small m c.in_ok-cuts.ensures.valid c.rounds.rounds c.rounds.total
    c.several-count.result c.rounds.cuts c.rounds.invariant.replay.rounds (c.several-count.ensures
    ∙ c.cut_marked-touched.ensures.several ∙ round-count m c.rounds.cuts c.run_round.new.kept.table
    c.in_ok-done.ensures.round) in
    omega arith

pub returns-then-count-eq0 : goal.returns-then-count-eq0
returns-then-count-eq0 g c =
    let last = replay-last c.args.market.now c.in_ok-cuts.ensures.valid c.rounds.rounds
    c.rounds.cuts c.rounds.total c.several-count.result c.rounds.kept.table
    c.run_round.new.kept.table c.rounds.touched.first c.rounds.done c.in_ok-done.field-0
    c.from_vec.result c.rounds.invariant.replay c.in_ok-done.ensures.round
    c.in_ok-done.ensures.count (c.several-count.ensures ∙ c.cut_marked-touched.ensures.several)
    c.if-count-eq0.true (c.from_vec.ensures ∙ c.in_ok-held.ensures) in
    record {
      placement = last.placement;
      rounds = last.rounds';
      cuts = last.cuts';
      reruns = last.turns';
      turns = omega (arith, c.rounds.invariant.steps, c.in_ok-done.ensures.turns);
      refused = tt;
    }

pub rounds-smaller : goal.rounds-smaller
rounds-smaller g c = replay-fall c.args.market.now c.in_ok-cuts.ensures.valid c.rounds.cuts
    c.cut_marked-touched.new.cuts c.several-count.result c.run_round.new.kept.table
    c.in_ok-done.ensures.round c.cut_marked-touched.ensures.cuts (c.several-count.ensures
    ∙ c.cut_marked-touched.ensures.several) c.if-count-eq0.false

pub rounds-preserved : goal.rounds-preserved
rounds-preserved g c = record {
  replay = subst (λ (xs : List (List (Option ℕ))). IsReplayUpto c.args.market.now
      (c.rounds.rounds + 1) c.cut_marked-touched.new.cuts (c.rounds.total + c.several-count.result)
      xs c.cut_marked-touched.result.first (c.rounds.done + c.in_ok-done.field-0))
      (sym c.forget_changes.ensures.table) (replay-more c.args.market.now c.in_ok-cuts.ensures.valid c.rounds.rounds c.rounds.cuts
      c.cut_marked-touched.new.cuts c.rounds.total c.several-count.result c.rounds.kept.table
      c.run_round.new.kept.table c.rounds.touched.first c.cut_marked-touched.result.first
      c.rounds.done c.in_ok-done.field-0 c.rounds.invariant.replay c.in_ok-done.ensures.round
      c.in_ok-done.ensures.count c.in_ok-done.ensures.few c.cut_marked-touched.ensures.cuts
      (c.several-count.ensures ∙ c.cut_marked-touched.ensures.several)
      c.cut_marked-touched.ensures.first c.if-count-eq0.false);
  choices = kept-forget c.args.market.now c.run_round.new.kept c.forget_changes.new.self
      c.in_ok-done.ensures.choices c.forget_changes.ensures.table c.forget_changes.ensures.chosen
      c.forget_changes.ensures.marks;
  several = subst (λ (xs : List (List (Option ℕ))). CutsSeveral c.args.market.now xs
      c.cut_marked-touched.new.cuts) (sym c.forget_changes.ensures.table)
      (several-cut c.args.market.now c.run_round.new.kept.table c.rounds.cuts
      c.cut_marked-touched.new.cuts c.rounds.invariant.replay.rounds.cuts_fit
      (round-within c.args.market.now c.rounds.cuts c.run_round.new.kept.table
      c.in_ok-done.ensures.round) c.cut_marked-touched.ensures.cuts);
  steps = omega (arith, c.rounds.invariant.steps, c.in_ok-done.ensures.turns);
}

pub returns-in_err-done-clause-refused : goal.returns-in_err-done-clause-refused
returns-in_err-done-clause-refused g c =
    err_too _ _ (replay-risen _ _ _ _ _ _ _ _ _ _ c.rounds.invariant.replay
    c.rounds.invariant.steps c.in_err-done.ensures.refused)

pub returns-in_err-held-clause-refused : goal.returns-in_err-held-clause-refused
returns-in_err-held-clause-refused g c =
    let turns = c.in_ok-done.ensures.turns in
    let count = c.in_ok-done.ensures.count in
    err_too _ _ (replay-risen _ _ _ _ _ _ _ _ _ _ c.rounds.invariant.replay
    c.rounds.invariant.steps (omega arith, omega arith))

pub overflow_add-done : goal.overflow_add-done
overflow_add-done g c =
    let fits = c.rounds.auto.rounds-fits in
    let before = c.rounds.invariant.replay.few in
    let ran = c.in_ok-done.ensures.few in
    omega arith

pub cut_marked-touched-requires-clause-table : goal.cut_marked-touched-requires-clause-table
cut_marked-touched-requires-clause-table g c =
    round-table c.args.market.now c.rounds.cuts c.run_round.new.kept.table c.in_ok-done.ensures.round

pub best_programmes-requires : goal.best_programmes-requires
best_programmes-requires g c =
    round-table c.args.market.now c.rounds.cuts c.run_round.new.kept.table c.in_ok-done.ensures.round

-- a counter that stands still has risen within any number of turns
stands_still : (turns most : ℕ) → HasRisenWithin turns turns most
stands_still turns most = (omega arith, omega arith)

pub returns-in_err-cuts-clause-refused : goal.returns-in_err-cuts-clause-refused
returns-in_err-cuts-clause-refused g c =
    err_too _ _ (stands_still c.args.turns.now (placement_turns c.args.market.now))

pub returns-in_err-kept-clause-refused : goal.returns-in_err-kept-clause-refused
returns-in_err-kept-clause-refused g c =
    err_too _ _ (stands_still c.args.turns.now (placement_turns c.args.market.now))
