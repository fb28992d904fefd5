use Rattle.std.proofs.Common.{◌≡◌, ◌<◌, ℕ, length, Some, sym, refl, ap, subst, ◌∙◌, arith}
use Rattle.std.specs.Prelude.{slice_get, slice_index}
use Rattle.std.proofs.lemmas.Option.{slice_get_read, get_or_from_slice_get}
use Rattle.registration_desk.specs.declared.reply.Reply.{Reply}
use Rattle.registration_desk.specs.declared.state.DeskState.TheInside.{Inside}
use Rattle.registration_desk.specs.Replies.{IsReply}
use Rattle.registration_desk.specs.States.{DeskValue, Numbered}
use Rattle.registration_desk.proofs.Replying.{IsServed, value_of, serves_unknown, serves_without, serves_placed, serves_after, number_at}
use Rattle.registration_desk.proofs.state.DeskState.serve.Goals as goal
use Rattle.registration_desk.proofs.state.DeskState.serve.Goals.{in-None, in-Some+in-None-code_at, in-Some+in-Some-code_at}

-- the next request
next : (c : goal.After-push_reserved)
    → slice_get c.self.inside.requests.items (length c.self.inside.history.items)
    ≡ Some c.get.result
next c =
    let i = c.self.inside in
    let more =
    subst (λ (d : DeskValue). length d.history < length d.requests)
    (sym c.self.view_is) c.requires in
    let count : c.len.result ≡ length i.history.items = c.len.ensures ∙ i.history.ok.0 in
    ap (slice_get i.requests.items) (sym count)
    ∙ (slice_get_read i.requests.items
    (length i.requests.items) c.len.result c.index.result.now refl (omega arith) c.index.ensures
    ∙ ap Some (sym c.get.ensures.value))

served : (c : goal.After-push_reserved)
    → IsServed c.self.inside c.get.result c.match-find.reply c.match-find.self-inside
served c =
    let i = c.self.inside in
    let kept = c.self.invariant.1 in
    let more =
    subst (λ (d : DeskValue). length d.history < length d.requests)
    (sym c.self.view_is) c.requires in
    let at = next c in
    elim c.match-find.branch [
      | in-None w ↦
          subst (λ (z : Reply × Inside). IsServed i c.get.result z.0 z.1)
          (λ k. (sym w.reply-is k, sym w.self-inside-is k))
          record {
            serves = serves_unknown (value_of i) i.numbers.items i.total c.get.result kept more at
                (sym c.find.ensures ∙ w.in-None.is);
            seats = refl;
            requests = refl;
            history = refl;
          }
      | in-Some+in-None-code_at w ↦
          subst (λ (z : Reply × Inside). IsServed i c.get.result z.0 z.1)
          (λ k. (sym w.reply-is k, sym w.self-inside-is k))
          record {
            serves = serves_without
                (value_of i) i.numbers.items i.total c.get.result w.in-Some.index kept more at
                (sym c.find.ensures ∙ w.in-Some.is) (sym w.code_at.ensures ∙ w.in-None-code_at.is);
            seats = refl;
            requests = refl;
            history = refl;
          }
      | in-Some+in-Some-code_at w ↦
          subst (λ (z : Reply × Inside). IsServed i c.get.result z.0 z.1)
          (λ k. (sym w.reply-is k, sym w.self-inside-is k))
          record {
            serves = serves_placed
                (value_of i) i.numbers.items i.total c.get.result w.in-Some.index
                w.in-Some-code_at.field-0 w.reply_number.result
                w.reply_number.new.number w.reply_number.new.total kept more at
                (sym c.find.ensures ∙ w.in-Some.is) (sym w.code_at.ensures ∙ w.in-Some-code_at.is)
                (subst (λ
                (n : ℕ). Numbered n i.total w.reply_number.result w.reply_number.new.number
                w.reply_number.new.total)
                (sym (number_at i.numbers.items i.seats c.get.result w.in-Some.index
                w.index_mut.result.now kept.wide
                (sym c.find.ensures ∙ w.in-Some.is) w.index_mut.ensures.value))
                w.reply_number.ensures);
            seats = refl;
            requests = refl;
            history = refl;
          }
    ]

pub invariant_of-self : goal.invariant_of-self
invariant_of-self c =
    let s = served c in
    let room = c.self.invariant.0 in
    let capacity = c.push_reserved.ensures.capacity in
    let same = ap (λ v. v.len) s.requests in
    let space = ap (λ v. v.cap) s.history in (
      omega arith,
      serves_after c.self.inside c.get.result c.match-find.reply
          c.match-find.self-inside _ s c.push_reserved.ensures.items,
    )

pub returns-clause-reply : goal.returns-clause-reply
returns-clause-reply c =
    let i = c.self.inside in
    let here =
    get_or_from_slice_get i.requests.items (length i.history.items) c.get.result 0 (next c) in
    subst (λ (d : DeskValue). IsReply d.seats d.requests d.history
    (slice_index d.requests (length d.history)) c.match-find.reply)
    c.self.view_is
    (subst (λ
    (z : ℕ). IsReply c.self.inside.seats c.self.inside.requests.items
    c.self.inside.history.items z c.match-find.reply)
    (sym here) (served c).serves.fits)

pub returns-clause-history : goal.returns-clause-history
returns-clause-history c =
    (serves_after c.self.inside c.get.result c.match-find.reply c.match-find.self-inside _
    (served c) c.push_reserved.ensures.items).history
