use Rattle.std.proofs.Common.{◌≡◌, ℕ, List, sym, ap, ◌∙◌, subst}
use Rattle.std.specs.Prelude.{◌==◌}
use Rattle.std.specs.List.{list_any}
use Rattle.std.proofs.lemmas.Bool.{false≢true}
use Rattle.market.specs.Problems.{IsAcceptable, list_of}
use Rattle.stability_audit.proofs.Listed.{found-listed, listed-found}
use Rattle.stability_audit.proofs.candidate.holds_acceptable.Goals as goal

pub returns-then-not-contains : goal.returns-then-not-contains
returns-then-not-contains c =
    let m = c.args.market.now in
    let i = c.args.candidate in
    let p = c.in-Some.programme in
    let holds = sym c.holds.ensures ∙ c.in-Some.is in
    let found = c.contains.ensures.value
    ∙ ap (λ (xs : List ℕ). list_any (λ q. q == p) xs) c.list.ensures.list in (
      λ none. absurd (false≢true none),
      λ all.
          absurd (false≢true (sym c.if-not-contains.true ∙ found
          ∙ listed-found p (list_of m i) (all p holds).listed)),
    )

pub admits-requires-clause-programme : goal.admits-requires-clause-programme
admits-requires-clause-programme c =
    c.requires.programmes c.args.candidate c.in-Some.programme
    (sym c.holds.ensures ∙ c.in-Some.is)

pub returns : goal.returns
returns c =
    let m = c.args.market.now in
    let i = c.args.candidate in
    let p = c.in-Some.programme in
    let holds = sym c.holds.ensures ∙ c.in-Some.is in
    let found = sym (c.contains.ensures.value
    ∙ ap (λ (xs : List ℕ). list_any (λ q. q == p) xs) c.list.ensures.list)
    ∙ c.if-not-contains.false in (
      λ admitted q held.
          let same : p ≡ q = cc in
          subst (λ (x : ℕ). IsAcceptable m i x) same
          (record {
            listed = found-listed p (list_of m i) found;
            admitted = sym c.admits.ensures ∙ admitted;
          }),
      λ all. c.admits.ensures ∙ (all p holds).admitted,
    )
