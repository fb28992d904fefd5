-- The chain finds the first line of the table with the word, and the table's lines stand for
-- the grammar's.
use Rattle.std.proofs.Common.{◌≡◌, Bool, true, false, cond, List, [], ◌∷◌, map, find, Some, refl, sym, ap, ◌∙◌, rules, tests}
use Rattle.std.specs.Option.{option_map}
use Rattle.std.specs.Str.{bytes_eq}
use Rattle.std.proofs.lemmas.Iterator.{YieldsList-from_slice}
use Rattle.std.proofs.lemmas.Iterator.Adapters.{option_map_id}
use Rattle.std.proofs.lemmas.Iterator.Consumers.{YieldsList-from_copied}
use Rattle.std.proofs.lemmas.Iterator.Search.{find_from_yields_List}
use Rattle.command_words.specs.Forms.{grammar_line}
use Rattle.command_words.specs.Words.{CommandForm}
use Rattle.command_words.specs.declared.words.Form.{Form}
use Rattle.command_words.proofs.words.find_form.Goals as goal

-- what is found among the images is the image of what is found
find-map : {X Y : Type 0} (f : X → Y) (test : Y → Bool) (xs : List X)
    → find test (map f xs) ≡ option_map f (find (λ x. test (f x)) xs)
find-map f test [] = refl
find-map {X} {Y} f test (x ∷ xs) =
    let later = find-map f test xs in
    elim (test (f x)) as (λ b. cond b (Some (f x)) (find test (map f xs))
    ≡ option_map f (cond b (Some x) (find (λ y. test (f y)) xs)))
    [ true ↦ refl | false ↦ later ]

pub returns : goal.returns
returns c =
    let word = c.args.word.now in
    let table = c.iter.result.rest.now in
    let HasWord = λ (form : CommandForm). bytes_eq form.word word in
    let found = find_from_yields_List (λ (form : Form). bytes_eq form.word.now word) _ _
    c.find.result c.find.ensures.ran
    (YieldsList-from_copied (YieldsList-from_slice table cc)) (λ x b q k. search (rules, tests)) in
    ap (option_map grammar_line) (sym (option_map_id c.find.result) ∙ found)
    ∙ sym (find-map grammar_line HasWord table)
    ∙ ap (λ (forms : List Form). find HasWord (map grammar_line forms)) c.iter.ensures.rest
