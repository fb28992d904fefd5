use Rattle.std.proofs.Common.{◌≡◌, ℕ, ◌<◌, ap, ◌∙◌, subst, arith, ⊎_elim}
use Rattle.std.proofs.lemmas.Bool.{cases_lt}
use Rattle.market.specs.Problems.{quota_of}
use Rattle.market.specs.declared.programme.Prog.{Prog}
use Rattle.stability_audit.specs.Verdicts.{IsOverQuota}
use Rattle.stability_audit.proofs.FirstSaid.{over-within}
use Rattle.stability_audit.proofs.auditing.first_over_quota.Goals as goal

pub returns-then-quota-held : goal.returns-then-quota-held
unfolding quota_of
returns-then-quota-held c =
    let p = c.loop-programme.programme in
    let quota = ap (λ (q : Prog). q.quota) c.programme-quota.ensures in
    let within = subst (λ (n : ℕ). p < n) c.programme_count-programme-end.ensures
    c.loop-programme-test.true in
    let held = c.held.ensures ∙ c.requires.bases.holders p within in
    record { over = omega arith; first = c.loop-programme.invariant }

pub loop-programme-preserved : goal.loop-programme-preserved
unfolding quota_of
loop-programme-preserved c q l over =
    let p = c.loop-programme.programme in
    let quota = ap (λ (q : Prog). q.quota) c.programme-quota.ensures in
    let within = subst (λ (n : ℕ). p < n) c.programme_count-programme-end.ensures
    c.loop-programme-test.true in
    let held = c.held.ensures ∙ c.requires.bases.holders p within in
    ⊎_elim
    (λ less. c.loop-programme.invariant q less over)
    (λ past.
    let same : q ≡ p = omega arith in
    let here = subst (λ (x : ℕ). IsOverQuota c.args.market.now c.args.placement.now x) same over in
    absurd (omega arith))
    (cases_lt q p)

pub returns : goal.returns
returns c q over =
    let within = over-within c.args.market.now c.args.placement.now q c.requires.programmes over in
    c.loop-programme.invariant q (omega arith) over
