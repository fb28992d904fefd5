use Rattle.std.proofs.Common.{◌≡◌, ◌++◌, ◌∷◌, [], ℕ, List, None, nat_eq, ap, ◌∙◌}
use Rattle.std.specs.Map.{lookup}
use Rattle.indexmap.proofs.CallerLemmas.{insert_entry-new}
use Rattle.candidate_table.proofs.numbers.CandidateNumbers.add.Goals as goal

-- a new number goes last
pub returns-clause-ok : goal.returns-clause-ok
returns-clause-ok c =
    let known = c.self.inside.numbers.entries in
    let number : c.get.result ≡ c.args.number = c.get.ensures.value in
    let absent : lookup (nat_eq c.get.result) known ≡ None =
    ap (λ (n : ℕ). lookup (nat_eq n) known) number
    ∙ ap (λ (all : List (ℕ × ℕ)). lookup (nat_eq c.args.number) all) c.self.view_is
    ∙ c.requires.new in
    c.in_ok-insert.ensures.entries
    ∙ insert_entry-new nat_eq c.self.inside.numbers c.get.result c.args.line absent
    ∙ ap (λ (n : ℕ). known ++ (n, c.args.line) ∷ []) number
    ∙ ap (λ (all : List (ℕ × ℕ)). all ++ (c.args.number, c.args.line) ∷ []) c.self.view_is
