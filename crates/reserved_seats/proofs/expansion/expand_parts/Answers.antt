use Rattle.std.proofs.Common.{◌<◌, ℕ, Bool, List, [], length, refl, sym, ap, ◌∙◌, subst}
use Rattle.std.specs.Prelude.{slice_index_or}
use Rattle.std.proofs.lemmas.List.{take_at}
use Rattle.market.specs.declared.programme.Prog.{Prog}
use Rattle.reserved_seats.specs.Expansion.{IsListOf, both_kinds, offered_lists, problem_of}
use Rattle.reserved_seats.proofs.Making.{expanded-made, lists-short}
use Rattle.reserved_seats.proofs.Validity.{expanded-valid}
use Rattle.reserved_seats.proofs.expansion.expand_parts.Goals as goal

pub returns-in_err-programmes-clause-valid : goal.returns-in_err-programmes-clause-valid
returns-in_err-programmes-clause-valid c =
    expanded-valid (problem_of c.args.parts) c.args.reserved.now c.requires.valid c.requires.fit
    c.seats.ensures.limit

pub offer_reserved-requires-clause-lists : goal.offer_reserved-requires-clause-lists
offer_reserved-requires-clause-lists c = λ i lt.
    let parts = c.args.parts in
    let lists = c.deref_mut.ensures.value in
    let rows = c.len-rows.ensures ∙ parts.programmes.ok.0 in
    subst (λ (n : ℕ). IsListOf n (slice_index_or c.deref_mut.result.now i [])) (sym rows)
    (subst (λ (xs : List (List ℕ)). IsListOf (length parts.programmes.items)
    (slice_index_or xs i [])) (sym lists)
    (lists-short (problem_of parts) c.args.reserved.now c.requires.valid c.requires.fit i
    (subst (λ (xs : List (List ℕ)). i < length xs) lists lt)))

pub returns-in_err-offer_reserved-clause-valid : goal.returns-in_err-offer_reserved-clause-valid
returns-in_err-offer_reserved-clause-valid c =
    expanded-valid (problem_of c.args.parts) c.args.reserved.now c.requires.valid c.requires.fit
    c.seats.ensures.limit

pub returns-clause-expanded : goal.returns-clause-expanded
returns-clause-expanded c =
    let r = c.args.reserved.now in
    let parts = c.args.parts in
    let rows = c.len-rows.ensures ∙ parts.programmes.ok.0 in
    let both = c.in_ok-programmes.ensures
    ∙ ap (λ (ps : List Prog). both_kinds ps c.seats.result.now) c.deref.ensures.value
    ∙ ap (both_kinds parts.programmes.items) c.seats.ensures.seats in
    let whole = take_at c.offer_reserved.new.lists _ parts.lists.len
    (c.offer_reserved.auto.lists ∙ c.deref_mut.ensures.len) in
    let offered = whole ∙ c.in_ok-offer_reserved.ensures
    ∙ ap (λ (n : ℕ). offered_lists n c.marked.result.now c.deref_mut.result.now) rows
    ∙ ap (λ (bs : List Bool). offered_lists (length parts.programmes.items) bs
    c.deref_mut.result.now) c.marked.ensures
    ∙ ap (offered_lists (length parts.programmes.items) r.marked) c.deref_mut.ensures.value in
    expanded-made (problem_of parts) r parts.types parts.programmes.items _ parts.lists.items _
    parts.orders.items parts.ranks.items refl both offered

pub returns-clause-valid : goal.returns-clause-valid
returns-clause-valid c =
    expanded-valid (problem_of c.args.parts) c.args.reserved.now c.requires.valid c.requires.fit
    c.seats.ensures.limit
