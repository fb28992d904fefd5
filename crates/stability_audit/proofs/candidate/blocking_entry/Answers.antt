use Rattle.std.proofs.Common.{◌≡◌, ℕ, ◌<◌, true, false, List, length, sym, ap, ◌∙◌, subst, arith, get_or}
use Rattle.std.proofs.lemmas.Bool.{false≢true}
use Rattle.market.specs.Counting.{is_programme}
use Rattle.market.specs.Problems.{list_of}
use Rattle.market.specs.Stability.{held_by}
use Rattle.stability_audit.specs.Entries.{IsFirstEntry, WouldTake}
use Rattle.stability_audit.proofs.Looking.{HasPassed-none, HasPassed-more, HasPassed-all, held-ends, first-entry}
use Rattle.stability_audit.proofs.candidate.blocking_entry.Goals as goal

pub loop-programme-init : goal.loop-programme-init
loop-programme-init c = HasPassed-none c.args.market.now c.args.placement.now c.args.candidate

pub returns-then-is_held : goal.returns-then-is_held
returns-then-is_held c =
    let m = c.args.market.now in
    let held = c.args.placement.now in
    let i = c.args.candidate in
    let k = c.loop-programme.programme-index in
    let size = ap (λ (xs : List ℕ). length xs) c.list-programme-items.ensures.list in
    let is : is_programme (get_or (list_of m i) k 0) (held_by held i) ≡ true = cc in
    held-ends m c.candidate_count.ensures.valid held i k (omega arith) c.loop-programme.invariant is

pub would_take-requires-clause-programme : goal.would_take-requires-clause-programme
would_take-requires-clause-programme c =
    let m = c.args.market.now in
    let k = c.loop-programme.programme-index in
    let size = ap (λ (xs : List ℕ). length xs) c.list-programme-items.ensures.list in
    let entry = ap (λ (xs : List ℕ). get_or xs k 0) c.list-programme-items.ensures.list in
    subst (λ (p : ℕ). p < length m.programmes) (sym entry)
    (c.candidate_count.ensures.valid.list_entries c.args.candidate k c.requires.candidate
    (omega arith))

pub returns-then-would_take : goal.returns-then-would_take
returns-then-would_take c =
    let m = c.args.market.now in
    let held = c.args.placement.now in
    let i = c.args.candidate in
    let k = c.loop-programme.programme-index in
    let size = ap (λ (xs : List ℕ). length xs) c.list-programme-items.ensures.list in
    let entry = ap (λ (xs : List ℕ). get_or xs k 0) c.list-programme-items.ensures.list in
    let other : is_programme (get_or (list_of m i) k 0) (held_by held i) ≡ false = cc in
    let takes = subst (λ (p : ℕ). WouldTake m held i p) entry
    (c.would_take.ensures.0 c.if-would_take.true) in
    subst (λ (p : ℕ). IsFirstEntry m held i p) (sym entry)
    (first-entry m c.candidate_count.ensures.valid held i k (omega arith)
    c.loop-programme.invariant c.requires.acceptable other takes)

pub loop-programme-preserved : goal.loop-programme-preserved
loop-programme-preserved c =
    let m = c.args.market.now in
    let held = c.args.placement.now in
    let i = c.args.candidate in
    let k = c.loop-programme.programme-index in
    let size = ap (λ (xs : List ℕ). length xs) c.list-programme-items.ensures.list in
    let entry = ap (λ (xs : List ℕ). get_or xs k 0) c.list-programme-items.ensures.list in
    let other : is_programme (get_or (list_of m i) k 0) (held_by held i) ≡ false = cc in
    HasPassed-more m held i k (omega arith) c.loop-programme.invariant other
    (λ takes. false≢true (sym c.if-would_take.false ∙ c.would_take.ensures.1
    (subst (λ (p : ℕ). WouldTake m held i p) (sym entry) takes)))

pub returns : goal.returns
returns c =
    let m = c.args.market.now in
    let size = ap (λ (xs : List ℕ). length xs) c.list-programme-items.ensures.list in
    HasPassed-all m c.args.placement.now c.args.candidate c.loop-programme.programme-index
    (omega arith) c.loop-programme.invariant
