use Rattle.std.proofs.Common.{◌≡◌, List, [], ◌∷◌, ◌++◌, ℕ, subst}
use Rattle.std.specs.Prelude.{OnOk, decimal}
use Rattle.record_files.specs.Texts.{row_text}
use Rattle.placement_file.proofs.PlacementTexts.{code_is_held, none_held}
use Rattle.placement_file.proofs.texts.put_candidate.Goals as goal

pub number_at-code-requires : goal.number_at-code-requires
number_at-code-requires g c = c.requires c.in-Some.programme c.in-Some.is

pub returns-in-Some : goal.returns-in-Some
returns-in-Some g c =
    subst
    (λ (text : List ℕ). OnOk c.put_row_2.result (c.put_row_2.new.out.items
    ≡ c.args.out.now.items ++ row_text (decimal c.args.number ∷ text ∷ [])))
    (code_is_held (g.P.Finder.numbers c.args.programmes.now) c.args.held c.in-Some.programme
    c.number_at-code.result c.in-Some.is (c.requires c.in-Some.programme c.in-Some.is)
    c.number_at-code.ensures)
    c.put_row_2.ensures.row

pub returns-in-None : goal.returns-in-None
returns-in-None g c =
    subst
    (λ (text : List ℕ). OnOk c.put_row_2-in-None.result (c.put_row_2-in-None.new.out.items
    ≡ c.args.out.now.items ++ row_text (decimal c.args.number ∷ text ∷ [])))
    (none_held (g.P.Finder.numbers c.args.programmes.now) c.args.held c.in-None.is)
    c.put_row_2-in-None.ensures.row
