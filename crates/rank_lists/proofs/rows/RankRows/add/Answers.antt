use Rattle.std.proofs.Common.{◌≡◌, ◌∙◌, ◌+◌, ◌*◌, ◌++◌, ◌∷◌, [], ap, arith, bytes_eq, position}
use Rattle.rank_lists.specs.declared.keys.TheConstants.{NUMBERS}
use Rattle.rank_lists.specs.Growth.{with_rank, row_key}
use Rattle.rank_lists.specs.Groups.{name_number, candidate_group, rank_group}
use Rattle.rank_lists.specs.Rows.{candidate_in, type_in, rank_in}
use Rattle.rank_lists.proofs.Gathering.{HasRows-next}
use Rattle.rank_lists.proofs.rows.RankRows.add.Goals as goal

pub returns : goal.returns
returns g c = λ earlier row h says.
    let names = g.T.TypeFinder.names c.args.types.now in
    let old = c.args.self.now in
    let says_candidate : c.args.fields.now.candidate ≡ candidate_in row = says.candidate in
    let says_rank : c.args.fields.now.rank ≡ rank_in row = says.rank in
    let name : c.name_number-name.result ≡ name_number (type_in row) = c.name_number-name.ensures
    ∙ ap name_number (c.bytes.ensures.value ∙ says.name) in
    let number = c.get-candidate.ensures.value in
    let in_candidates = c.candidate_in_type.ensures.value in
    let in_ranks = c.rank_in_type.ensures.value in
    let candidate : c.candidate_in_type.result ≡ candidate_group row = omega arith in
    let rank : c.rank_in_type.result ≡ rank_group row = omega arith in
    let key : c.from.result * NUMBERS + c.get-candidate.result ≡ row_key row =
    omega (arith, c.from.ensures) in
    let kind_found : c.find_type.result ≡ position (bytes_eq (type_in row)) names =
    c.find_type.ensures ∙ ap (λ text. position (bytes_eq text) names) says.name in
    HasRows-next names earlier row old _ h
    (c.in_ok-push.ensures ∙ ap (λ x. old.candidates ++ x ∷ []) candidate)
    (c.in_ok-push-2.ensures ∙ ap (λ x. old.ranks ++ x ∷ []) rank)
    (c.in_ok-give.ensures ∙ (λ j. with_rank old.given.items (kind_found j) (key j)))
