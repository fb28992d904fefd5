use Rattle.std.proofs.Common.{rules, ◌≡◌, ◌≤◌, All, IfSome, IsTrue, List, Option, Vec, Global, ℕ, false, arith, ap, length, subst}
use Rattle.std.proofs.lemmas.Result.{IfOk-weaker}
use Rattle.piece_reader.specs.Ahead.{AreReadAhead}
use Rattle.piece_reader.proofs.ReadingAhead.{IfSome-weaker}
use Rattle.rank_lists.specs.Clean.{AreEachRead, HasStandings}
use Rattle.rank_lists.specs.Rows.{own_rules}
use Rattle.rank_lists.specs.declared.keys.TheConstants.{INDEXES}
use Rattle.rank_lists.specs.declared.part_ranks.PartRanks.{PartRanks}
use Rattle.rank_lists.specs.declared.table.RankParts.{RankParts}
use Rattle.rank_lists.proofs.CleanFile.{clean-file}
use Rattle.rank_lists.proofs.clean.read_clean.Goals as goal

pub returns : goal.returns
returns g c =
    let names = g.T.TypeFinder.names c.args.types.now in
    let numbers = g.C.Finder.numbers c.args.candidates.now in
    let bytes = c.args.bytes.now in
    let parts = c.in-Some.parts.items in
    let few : length numbers ≤ INDEXES = omega (arith, c.count.ensures.length, c.count.type_inv) in
    let P : Option (Vec PartRanks Global) → Type 0 = λ read. IfSome read (λ tables.
    AreReadAhead own_rules
    (λ version. HasStandings (g.T.TypeFinder.names c.in_ok-known.known.types.now)
    (g.C.Finder.numbers c.in_ok-known.known.candidates.now)) bytes tables.items) in
    let known_names = g.T.TypeFinder.names c.in_ok-known.known.types.now in
    let read =
    subst
    (λ (all : List (List ℕ)).
    AreReadAhead own_rules (λ version. HasStandings all numbers) bytes parts)
    (ap g.T.TypeFinder.names c.in_ok-known.ensures.types)
    (subst
    (λ (all : List ℕ).
    AreReadAhead own_rules (λ version. HasStandings known_names all) bytes parts)
    (ap g.C.Finder.numbers c.in_ok-known.ensures.candidates)
    (subst P c.in-Some.is (c.in_ok-parts.ensures {u = tt}))) in
    let yes : IsTrue c.are_known.result = search rules in
    let clear = subst (All (λ (part : PartRanks). part.unknown ≡ false)) c.deref.ensures.value
    (c.are_known.ensures yes) in
    let items = c.in_ok-turns.turns.items in
    let turns = subst (λ (all : List PartRanks). AreEachRead (length names) all items)
    c.deref-2.ensures.value
    (subst (λ (types : ℕ). AreEachRead types c.deref-2.result.now items) c.type_count.ensures.length
    (c.in_ok-turns.ensures {u = tt})) in
    IfOk-weaker c.collected.result _ _
    (λ found h. IfSome-weaker found _ _
    (λ (tables : RankParts) told. clean-file names numbers bytes few parts read clear
    tables.orders.items tables.ranks.items (told (length names) parts turns)) h)
    c.collected.ensures
