-- Rows that are put together field by field.
use Rattle.std.proofs.Common.{◌≡◌, ℕ, ◌∙◌, List, [], ◌∷◌, ◌++◌, sym, ap, append_assoc}
use Rattle.std.specs.List.{join_with_byte}
use Rattle.place_base.specs.declared.limits.TheConstants.{COMMA, LF}
use Rattle.record_files.specs.Texts.{row_text}

-- what is put is the text itself
pub put_as : (old new text same : List ℕ) (end : ℕ) → new ≡ old ++ text ++ end ∷ [] → text ≡ same
    → new ≡ old ++ same ++ end ∷ []
put_as old new text same end e t = e ∙ ap (λ (xs : List ℕ). old ++ xs ++ end ∷ []) t

-- a field before the rest of a row
pub row_more : (old middle new text next : List ℕ) (rest : List (List ℕ))
    → middle ≡ old ++ text ++ COMMA ∷ [] → new ≡ middle ++ row_text (next ∷ rest)
    → new ≡ old ++ row_text (text ∷ next ∷ rest)
row_more old middle new text next rest m n =
    n
    ∙ ap (λ (xs : List ℕ). xs ++ row_text (next ∷ rest)) m
    ∙ append_assoc (old ++ text) (COMMA ∷ []) (row_text (next ∷ rest))
    ∙ append_assoc old text (COMMA ∷ row_text (next ∷ rest))
    ∙ ap (λ (xs : List ℕ). old ++ xs)
    (sym (append_assoc text (COMMA ∷ join_with_byte COMMA (next ∷ rest)) (LF ∷ [])))

-- four fields, put one after the other, are a row
pub row_four : (old one two three new a b c d : List ℕ)
    → one ≡ old ++ a ++ COMMA ∷ [] → two ≡ one ++ b ++ COMMA ∷ []
    → three ≡ two ++ c ++ COMMA ∷ [] → new ≡ three ++ d ++ LF ∷ []
    → new ≡ old ++ row_text (a ∷ b ∷ c ∷ d ∷ [])
row_four old one two three new a b c d e1 e2 e3 e4 =
    row_more old one new a b (c ∷ d ∷ []) e1
    (row_more one two new b c (d ∷ []) e2
    (row_more two three new c d [] e3 (e4 ∙ append_assoc three d (LF ∷ []))))
