use Rattle.std.proofs.Common.{◌≡◌, ◌∙◌, ℕ, ◌+◌, ◌*◌, ◌/◌, ◌%◌, ◌<◌, List, [], ◌∷◌, ◌++◌, length, take, sym, ap, Option, Some, None, nat_eq, position}
use Rattle.std.specs.Prelude.{slice_index, option_map}
use Rattle.std.specs.List.{cons_option}
use Rattle.std.proofs.lemmas.List.{take_more}
use Rattle.std.proofs.lemmas.List.Elements.{filter_map-append}
use Rattle.rank_lists.specs.declared.keys.TheConstants.{INDEXES, NUMBERS}
use Rattle.rank_lists.specs.Turns.{known_key, known_keys}
use Rattle.rank_lists.proofs.Gathering.{append-nothing}
use Rattle.rank_lists.proofs.turns.known.Goals as goal

-- one key more
known-next : (numbers keys : List ℕ) (i : ℕ) (o : Option ℕ) → i < length keys
    → position (nat_eq (slice_index keys i % NUMBERS)) numbers ≡ o
    → known_keys numbers (take (i + 1) keys)
    ≡ known_keys numbers (take i keys) ++ cons_option
    (option_map (λ index. slice_index keys i / NUMBERS * INDEXES + index) o) []
known-next numbers keys i o lt e =
    ap (known_keys numbers) (take_more keys i 0 lt)
    ∙ filter_map-append (known_key numbers) (take i keys) (slice_index keys i ∷ [])
    ∙ ap (λ found. known_keys numbers (take i keys) ++ cons_option
    (option_map (λ index. slice_index keys i / NUMBERS * INDEXES + index) found) []) e

pub loop-key-preserved : goal.loop-key-preserved
loop-key-preserved g c =
    let numbers = g.C.Finder.numbers c.args.candidates.now in
    let next = known-next numbers c.args.keys.now c.loop-key.key-index (Some c.in-Some.index)
    c.loop-key-test.true (sym c.find.ensures ∙ c.in-Some.is) in
    c.in_ok-push.ensures.items
    ∙ ap (λ index. c.loop-key.known.items ++
    (slice_index c.args.keys.now c.loop-key.key-index / NUMBERS * INDEXES + index) ∷ [])
    c.from.ensures
    ∙ ap (λ known. known ++ (slice_index c.args.keys.now
    c.loop-key.key-index / NUMBERS * INDEXES + c.in-Some.index) ∷ [])
    c.loop-key.invariant
    ∙ sym next

pub loop-key-preserved-in_default : goal.loop-key-preserved-in_default
loop-key-preserved-in_default g c =
    let numbers = g.C.Finder.numbers c.args.candidates.now in
    let next = known-next numbers c.args.keys.now c.loop-key.key-index None c.loop-key-test.true
    (sym c.find.ensures ∙ c.in_default.is) in
    c.loop-key.invariant ∙ sym
    (append-nothing (known_keys numbers (take c.loop-key.key-index c.args.keys.now))) ∙ sym next
