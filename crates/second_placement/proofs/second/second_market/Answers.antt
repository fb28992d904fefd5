use Rattle.std.proofs.Common.{◌≡◌, ◌≤◌, ℕ, Bool, List, Option, sym, ap, ◌∙◌, subst}
use Rattle.std.proofs.lemmas.Result.{IfOk-weaker}
use Rattle.market.specs.Counting.{count_of}
use Rattle.market.specs.Problems.{IsValid, Problem, problem, quota_of}
use Rattle.market.specs.declared.programme.Prog.{Prog}
use Rattle.second_placement.specs.SeatsLeft.{lists_left, programmes_left, second_problem}
use Rattle.second_placement.proofs.SecondMarket.{each_fits, second-valid}
use Rattle.second_placement.proofs.second.second_market.Goals as goal

pub programmes_left-programmes-requires-clause-quotas :
    goal.programmes_left-programmes-requires-clause-quotas
unfolding quota_of
programmes_left-programmes-requires-clause-quotas c =
    subst (λ (m : Problem). (p : ℕ) → count_of p c.held.result.now ≤ quota_of m p)
    (sym c.into_parts-parts.ensures.parts)
    (subst (λ (held : List (Option ℕ)). (p : ℕ) → count_of p held ≤ quota_of c.args.market p)
    (sym c.held.ensures) c.requires.placement.quotas)

-- the parts are those of the market of the seats left
second-parts : (m : Problem) (held given again : List (Option ℕ)) (registered : List Bool)
    (types : ℕ) (before programmes : List Prog) (was lists orders ranks : List (List ℕ))
    → problem types before was orders ranks ≡ m → given ≡ held → again ≡ held
    → programmes ≡ programmes_left before given registered → lists ≡ lists_left was again
    → problem types programmes lists orders ranks ≡ second_problem m held registered
unfolding second_problem
second-parts m held given again registered types before programmes was lists orders ranks e g a p l =
    (λ i. problem types (p i) (l i) orders ranks)
    ∙ (λ i. problem types (programmes_left before (g i) registered) (lists_left was (a i)) orders
    ranks)
    ∙ ap (λ (x : Problem). second_problem x held registered) e

pub build-requires : goal.build-requires
build-requires c =
    subst IsValid (sym (second-parts c.args.market c.args.placement.now c.held.result.now
    c.held-2.result.now c.args.registered.now c.into_parts-parts.result.types
    c.into_parts-parts.result.programmes.items c.programmes_left-programmes.result.items
    c.into_parts-parts.result.lists.items c.lists_left-lists.result.items
    c.into_parts-parts.result.orders.items c.into_parts-parts.result.ranks.items
    c.into_parts-parts.ensures.parts c.held.ensures c.held-2.ensures
    c.programmes_left-programmes.ensures c.lists_left-lists.ensures))
    (second-valid c.args.market c.args.placement.now c.args.registered.now
    c.into_parts-parts.ensures.valid)

pub returns-clause-market : goal.returns-clause-market
returns-clause-market c =
    IfOk-weaker c.build.result _ _
    (λ second built. built ∙ second-parts c.args.market c.args.placement.now c.held.result.now
    c.held-2.result.now c.args.registered.now c.into_parts-parts.result.types
    c.into_parts-parts.result.programmes.items c.programmes_left-programmes.result.items
    c.into_parts-parts.result.lists.items c.lists_left-lists.result.items
    c.into_parts-parts.result.orders.items c.into_parts-parts.result.ranks.items
    c.into_parts-parts.ensures.parts c.held.ensures c.held-2.ensures
    c.programmes_left-programmes.ensures c.lists_left-lists.ensures) c.build.ensures

pub returns-clause-beside : goal.returns-clause-beside
returns-clause-beside c =
    each_fits c.args.market c.args.placement.now c.args.registered.now c.requires.placement
