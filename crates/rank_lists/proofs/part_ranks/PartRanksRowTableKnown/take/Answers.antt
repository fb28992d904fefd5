use Rattle.std.proofs.Common.{◌≡◌, ◌∙◌, ◌+◌, ◌*◌, List, None, Some, ap, arith, bytes_eq, nat_eq, position, refl, sym, ℕ}
use Rattle.rank_lists.specs.Growth.{with_rank}
use Rattle.rank_lists.specs.Rows.{candidate_in, type_in, rank_in}
use Rattle.rank_lists.specs.Table.{standing_in, standing_of}
use Rattle.rank_lists.specs.declared.keys.TheConstants.{INDEXES}
use Rattle.rank_lists.proofs.GivenStandings.{HasStandings-known, HasStandings-unknown}
use Rattle.rank_lists.proofs.part_ranks.PartRanksRowTableKnown.take.Goals as goal

pub returns-in_default : goal.returns-in_default
returns-in_default g c = λ version earlier row has says.
    let names = g.T.TypeFinder.names c.args.known.now.types.now in
    let numbers = g.C.Finder.numbers c.args.known.now.candidates.now in
    let type : position (bytes_eq (type_in row)) names ≡ None =
    ap (λ (text : List ℕ). position (bytes_eq text) names) (sym says.name)
    ∙ sym c.kind_of.ensures ∙ c.in_default.is in
    let none : standing_in names numbers row ≡ None =
    ap
    (λ kind. standing_of kind (position (nat_eq (candidate_in row)) numbers) (rank_in row))
    type in (
      refl,
      HasStandings-unknown names numbers earlier row c.args.self.now _ has none refl refl has.last,
    )

pub returns-in_default-index_of : goal.returns-in_default-index_of
returns-in_default-index_of g c = λ version earlier row has says.
    let names = g.T.TypeFinder.names c.args.known.now.types.now in
    let numbers = g.C.Finder.numbers c.args.known.now.candidates.now in
    let type : position (bytes_eq (type_in row)) names ≡ Some c.in-Some.kind =
    ap (λ (text : List ℕ). position (bytes_eq text) names) (sym says.name)
    ∙ sym c.kind_of.ensures ∙ c.in-Some.is in
    let candidate : position (nat_eq (candidate_in row)) numbers ≡ None =
    ap (λ (n : ℕ). position (nat_eq n) numbers) (sym says.candidate)
    ∙ sym c.index_of.ensures.result ∙ c.in_default-index_of.is in
    let none : standing_in names numbers row ≡ None =
    λ j. standing_of (type j) (candidate j) (rank_in row) in (
      refl,
      HasStandings-unknown names numbers earlier row c.args.self.now _ has none
          c.index_of.ensures.given refl c.index_of.ensures.last,
    )

pub returns : goal.returns
returns g c = λ version earlier row has says.
    let names = g.T.TypeFinder.names c.args.known.now.types.now in
    let numbers = g.C.Finder.numbers c.args.known.now.candidates.now in
    let type : position (bytes_eq (type_in row)) names ≡ Some c.in-Some.kind =
    ap (λ (text : List ℕ). position (bytes_eq text) names) (sym says.name)
    ∙ sym c.kind_of.ensures ∙ c.in-Some.is in
    let candidate : position (nat_eq (candidate_in row)) numbers ≡ Some c.in-Some-index_of.index =
    ap (λ (n : ℕ). position (nat_eq n) numbers) (sym says.candidate)
    ∙ sym c.index_of.ensures.result ∙ c.in-Some-index_of.is in
    let rank = says.rank in
    let key : c.from.result * INDEXES + c.from-2.result
    ≡ rank_in row * INDEXES + c.in-Some-index_of.index =
    omega (arith, c.from.ensures, c.from-2.ensures) in (
      refl,
      HasStandings-known names numbers earlier row c.args.self.now _ c.in-Some.kind
          c.in-Some-index_of.index has type candidate
          (c.in_ok-give.ensures
          ∙ (λ j. with_rank (c.index_of.ensures.given j).items (Some c.in-Some.kind) (key j)))
          c.index_of.ensures.unknown c.index_of.ensures.last,
    )
