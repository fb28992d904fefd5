use Rattle.std.proofs.Common.{◌∙◌, ◌++◌, ℕ, List, [], ◌∷◌, ap}
use Rattle.record_files.specs.Texts.{row_text, text_of}
use Rattle.record_files.proofs.RowTexts.{put_as, row_four}
use Rattle.record_files.proofs.row_texts.put_row_4.Goals as goal

pub returns-clause-row : goal.returns-clause-row
returns-clause-row c =
    let row = row_text (text_of c.args.a ∷ text_of c.args.b ∷ text_of c.args.c ∷ text_of c.args.d
    ∷ []) in
    row_four _ _ _ _ _ _ _ _ _
    (put_as _ _ _ _ _ c.put_text.ensures.items c.field_text-a.ensures.text)
    (put_as _ _ _ _ _ c.put_text-2.ensures.items c.field_text-b.ensures.text)
    (put_as _ _ _ _ _ c.put_text-3.ensures.items c.field_text-c.ensures.text)
    (put_as _ _ _ _ _ c.put_text-4.ensures.items c.field_text-d.ensures.text)
    ∙ ap (λ (xs : List ℕ). xs ++ row) c.reserve.ensures.items
