use Rattle.std.proofs.Common.{◌≡◌, ◌<◌, ◌∙◌, ℕ, List, ap, arith, get_or, length, sym}
use Rattle.std.specs.Prelude.{slice_index}
use Rattle.std.proofs.lemmas.List.{length-map}
use Rattle.rank_lists.specs.Groups.{name_number}
use Rattle.rank_lists.proofs.KnownNames.{name-found, name-nowhere}
use Rattle.rank_lists.proofs.known.Known.kind_of.Goals as goal

pub returns-then-other-number : goal.returns-then-other-number
returns-then-other-number g c =
    let names = g.T.TypeFinder.names c.args.self.now.types.now in
    let are = c.args.self.now.names_are in
    let kind = c.loop-kind.kind in
    let number : c.name_number-number.result ≡ name_number c.args.name =
    c.name_number-number.ensures ∙ ap name_number c.bytes.ensures.value in
    let items = c.deref-other-items.ensures.value in
    let here : get_or c.deref-other-items.result.now kind 0 ≡ c.name_number-number.result =
    c.if-other-number.true in
    let size = ap length items ∙ ap length are ∙ length-map names name_number in
    let inside : kind < length names = omega (arith, c.loop-kind-test.true) in
    sym (name-found names c.args.name c.args.self.now.are_names c.bytes.ensures.name kind inside
    (λ k below e. c.loop-kind.invariant k below
    (ap (λ (all : List ℕ). slice_index all k) are ∙ e ∙ sym number))
    (ap (λ (all : List ℕ). slice_index all kind) (sym (items ∙ are)) ∙ here ∙ number))

pub returns : goal.returns
returns g c =
    let names = g.T.TypeFinder.names c.args.self.now.types.now in
    let are = c.args.self.now.names_are in
    let number : c.name_number-number.result ≡ name_number c.args.name =
    c.name_number-number.ensures ∙ ap name_number c.bytes.ensures.value in
    let items = c.deref-other-items.ensures.value in
    let size = ap length items ∙ ap length are ∙ length-map names name_number in
    let past = c.loop-kind-test.false in
    sym (name-nowhere names c.args.name c.args.self.now.are_names c.bytes.ensures.name
    (λ k lt e. c.loop-kind.invariant k (omega arith)
    (ap (λ (all : List ℕ). slice_index all k) are ∙ e ∙ sym number)))
