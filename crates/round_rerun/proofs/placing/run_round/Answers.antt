use Rattle.std.proofs.Common.{ℕ, ◌-◌, ◌<◌, ◌∙◌, ap, sym, subst, length, [], Option, arith, ⊎_elim}
use Rattle.std.specs.Prelude.{slice_index_or, unwrap_or}
use Rattle.std.proofs.lemmas.Bool.{cases_eq}
use Rattle.market.specs.Problems.{order_of}
use Rattle.market.specs.Counting.{sum_below, HasRisenWithin}
use Rattle.market.specs.Reruns.{IsRunUpto}
use Rattle.market.proofs.Dicts.{order-le}
use Rattle.market.proofs.Plain.{sum_next}
use Rattle.market.proofs.Replays.{round-rows}
use Rattle.round_rerun.specs.Runs.{first_turn_of, run_turns}
use Rattle.round_rerun.proofs.Keeping.{unmarked-both}
use Rattle.round_rerun.proofs.Replaying.{err_too, sum_fewer}
use Rattle.round_rerun.proofs.placing.run_round.Goals as goal

pub loop-kind-preserved : goal.loop-kind-preserved
loop-kind-preserved g c =
    let m = c.args.market.now in
    let cuts = c.args.cuts.now in
    let k = c.loop-kind.kind in
    let inv = c.loop-kind.invariant in
    let n = c.type_count-kind-end.ensures.count in
    let v = c.type_count-kind-end.ensures.valid in
    let lk : k < m.types = omega arith in
    let r = c.in_ok-ran.ensures in
    let le = order-le m v k lk in
    let few = v.candidates in
    let e = c.first-first.ensures in
    let wide = c.from-done.ensures in
    let here = r.count in
    let new = c.run_touched.new.kept.table in
    let f = λ (t : ℕ). length (order_of m t) - first_turn_of m c.args.touched.now.first t in
    record {
      choices = r.choices;
      unmarked = unmarked-both c.args.kept.now c.loop-kind.kept c.run_touched.new.kept
          inv.unmarked r.unmarked;
      ran = λ t l.
          ⊎_elim
          (λ same. subst (λ (u : ℕ). IsRunUpto m cuts u (length (order_of m u)) (slice_index_or new
          u [])) (sym same) r.row)
          (λ ne. subst (IsRunUpto m cuts t (length (order_of m t))) (sym (r.others t ne)) (inv.ran
          t (omega arith)))
          (cases_eq t k);
      open' = λ t l. r.others t (λ z. omega arith) ∙ inv.open' t (omega arith);
      count = sum_next f k c.loop-kind.done c.from-done.result inv.count (c.from-done.ensures
          ∙ r.count ∙ ap (λ (o : Option ℕ). length (order_of m k) - unwrap_or o (length (order_of m
          k))) e);
      few = omega (arith, inv.few);
      steps = omega (arith, inv.steps, r.turns);
    }

pub returns-clause-round : goal.returns-clause-round
returns-clause-round g c =
    let m = c.args.market.now in
    let n = c.type_count-kind-end.ensures.count in
    round-rows m c.args.cuts.now c.loop-kind.kept.table c.loop-kind.invariant.choices.types (λ t l.
    c.loop-kind.invariant.ran t (omega arith))

pub returns-clause-count : goal.returns-clause-count
unfolding run_turns
returns-clause-count g c =
    let m = c.args.market.now in
    let n = c.type_count-kind-end.ensures.count in
    c.loop-kind.invariant.count ∙ ap (sum_below (λ t. length (order_of m t) - first_turn_of m
    c.args.touched.now.first t)) (omega arith)

pub returns-in_err-ran-clause-refused : goal.returns-in_err-ran-clause-refused
unfolding run_turns
returns-in_err-ran-clause-refused g c =
    let m = c.args.market.now in
    let f = λ (t : ℕ). length (order_of m t) - first_turn_of m c.args.touched.now.first t in
    let n = c.type_count-kind-end.ensures.count in
    let below = c.loop-kind-test.true in
    let few = sum_fewer f c.loop-kind.kind m.types (omega arith) in
    let count = c.loop-kind.invariant.count in
    let steps = c.loop-kind.invariant.steps in
    let same = c.in_err-ran.ensures.refused in
    let risen : HasRisenWithin c.args.turns.now c.run_touched.new.turns
    (run_turns m c.args.touched.now.first) = (omega arith, omega arith) in
    err_too _ _ risen
