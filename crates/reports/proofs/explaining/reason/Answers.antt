use Rattle.std.proofs.Common.{◌≡◌, ℕ, ◌<◌, List, length, Bool, true, false, sym, ap, ◌∙◌, subst, get_or}
use Rattle.std.specs.Prelude.{if◌then◌else◌}
use Rattle.market.specs.Problems.{admits, bar_of, kind_of, rank_of}
use Rattle.market.specs.BaseRanks.{base_rank}
use Rattle.reports.specs.BaseTables.{base_of}
use Rattle.reports.specs.Reasons.{entry_at, refusal}
use Rattle.reports.specs.declared.reasons.Reason.TheVariants.{Full}
use Rattle.reports.proofs.EntryTests.{reason-placed, reason-below, reason-above}
use Rattle.reports.proofs.explaining.reason.Goals as goal

pub returns-then-is_held : goal.returns-then-is_held
returns-then-is_held c =
    sym (reason-placed c.args.market.now c.args.placement.now c.args.candidate c.args.place (cc))

pub returns-then-is_before : goal.returns-then-is_before
returns-then-is_before c =
    sym (reason-below c.args.market.now c.args.placement.now c.args.candidate c.args.place
    (cc) (cc))

-- the entry is a programme of the market
pub admits-requires-clause-programme : goal.admits-requires-clause-programme
admits-requires-clause-programme c =
    let m = c.args.market.now in
    let i = c.args.candidate in
    let place = c.args.place in
    subst (λ (xs : List ℕ). get_or xs place 0 < length m.programmes) (sym c.list-list.ensures.list)
    (c.list-list.ensures.valid.list_entries i place c.requires.candidate c.requires.place)

pub returns-then-admits : goal.returns-then-admits
returns-then-admits c =
    let m = c.args.market.now in
    let held = c.args.placement.now in
    let i = c.args.candidate in
    let place = c.args.place in
    let p = entry_at m i place in
    let entry = ap (λ (xs : List ℕ). get_or xs place 0) c.list-list.ensures.list in
    let admitted : admits m p i ≡ true
    = ap (λ (q : ℕ). admits m q i) (sym entry) ∙ sym c.admits.ensures ∙ c.if-admits.true in
    let base = c.base.ensures ∙ ap (base_of c.args.bases.now) entry
    ∙ c.requires.bases.bases p
    (c.list-list.ensures.valid.list_entries i place c.requires.candidate c.requires.place) in
    sym (reason-above m held i place (cc) (cc)
    ∙ ap (λ (b : Bool). if b then Full (base_rank m held p)
    else refusal (rank_of m (kind_of m p) i) (bar_of m p)) admitted
    ∙ ap Full (sym base))

pub refusal-requires-clause-programme : goal.refusal-requires-clause-programme
refusal-requires-clause-programme c =
    let m = c.args.market.now in
    let i = c.args.candidate in
    let place = c.args.place in
    subst (λ (xs : List ℕ). get_or xs place 0 < length m.programmes) (sym c.list-list.ensures.list)
    (c.list-list.ensures.valid.list_entries i place c.requires.candidate c.requires.place)

pub returns : goal.returns
returns c =
    let m = c.args.market.now in
    let held = c.args.placement.now in
    let i = c.args.candidate in
    let place = c.args.place in
    let p = entry_at m i place in
    let entry = ap (λ (xs : List ℕ). get_or xs place 0) c.list-list.ensures.list in
    let refused : admits m p i ≡ false
    = ap (λ (q : ℕ). admits m q i) (sym entry) ∙ sym c.admits.ensures ∙ c.if-admits.false in
    c.refusal.ensures
    ∙ ap (λ (q : ℕ). refusal (rank_of m (kind_of m q) i) (bar_of m q)) entry
    ∙ sym (reason-above m held i place (cc) (cc)
    ∙ ap (λ (b : Bool). if b then Full (base_rank m held p)
    else refusal (rank_of m (kind_of m p) i) (bar_of m p)) refused)
