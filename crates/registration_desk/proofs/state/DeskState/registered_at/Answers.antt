use Rattle.std.proofs.Common.{◌≡◌, ◌<◌, ℕ, None, Some, Option, length, arith, ◌∙◌, sym, subst}
use Rattle.registration_desk.specs.States.{DeskValue}
use Rattle.registration_desk.specs.Reports.{named_at}
use Rattle.registration_desk.proofs.Replying.{value_of}
use Rattle.registration_desk.proofs.Reports.{number_named, named_some, named_none, read_at, number_is}
use Rattle.registration_desk.proofs.state.DeskState.registered_at.Goals as goal

pub returns-then-index-eq0 : goal.returns-then-index-eq0
returns-then-index-eq0 c =
    let i = c.self.inside in
    let kept = c.self.invariant.1 in
    let wide = kept.wide in
    let inside =
    subst (λ (v : DeskValue). c.args.index < length v.seats)
    (sym c.self.view_is) c.requires.index in
    let all =
    subst (λ (v : DeskValue). length v.history ≡ length v.requests)
    (sym c.self.view_is) c.requires.all in
    let named =
    number_named
    (value_of i) i.numbers.items i.total kept all c.count-count.ensures.distinct c.args.index
    inside in
    let number =
    read_at i.numbers.items c.args.index c.index.result.now (omega arith) c.index.ensures in
    subst (λ (v : DeskValue). ◌≡◌ {A = Option ℕ} None (named_at v.seats v.requests c.args.index))
    c.self.view_is
    (named_none i.seats i.requests.items c.args.index _ (number ∙ c.if-index-eq0.true) named)

pub returns : goal.returns
returns c =
    let i = c.self.inside in
    let kept = c.self.invariant.1 in
    let wide = kept.wide in
    let inside =
    subst (λ (v : DeskValue). c.args.index < length v.seats)
    (sym c.self.view_is) c.requires.index in
    let all =
    subst (λ (v : DeskValue). length v.history ≡ length v.requests)
    (sym c.self.view_is) c.requires.all in
    let named =
    number_named
    (value_of i) i.numbers.items i.total kept all c.count-count.ensures.distinct c.args.index
    inside in
    let number =
    read_at i.numbers.items c.args.index c.index.result.now (omega arith) c.index.ensures in
    subst (λ (v : DeskValue). ◌≡◌ {A = Option ℕ} (Some c.number_at.result)
    (named_at v.seats v.requests c.args.index)) c.self.view_is
    (named_some i.seats i.requests.items c.args.index _ c.number_at.result
    (λ e. c.if-index-eq0.false (sym number ∙ e)) named
    (number_is i.seats c.args.index c.number_at.result inside c.number_at.ensures))
