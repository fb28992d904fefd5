-- Lines that were appended one behind the other.
use Rattle.std.proofs.Common.{◌≡◌, ℕ, List, [], ◌∷◌, ◌++◌, sym, ap, ◌∙◌, append_assoc, append-nil}
use Rattle.std.specs.List.{flat_map}
use Rattle.market_summary.specs.Summaries.{count_line}

-- the text of lines
abbrev pub lines_text : List (List ℕ × ℕ) → List ℕ
lines_text lines = flat_map (λ (line : List ℕ × ℕ). count_line line.0 line.1) lines

-- a line that was appended is the first of those behind the older text
pub line-more : (word : List ℕ) (number given : ℕ) (lines : List (List ℕ × ℕ))
    (old new end : List ℕ) → given ≡ number → new ≡ old ++ count_line word given
    → end ≡ new ++ lines_text lines → end ≡ old ++ lines_text ((word, number) ∷ lines)
line-more word number given lines old new end same grown behind =
    behind
    ∙ ap (λ v. v ++ lines_text lines) (grown ∙ ap (λ n. old ++ count_line word n) same)
    ∙ append_assoc old (count_line word number) (lines_text lines)

-- behind the last line stands nothing
pub no-line-more : (text : List ℕ) → text ≡ text ++ lines_text []
no-line-more text = sym (append-nil text)

-- the lines begin a text that was empty
pub from-first : (lines : List (List ℕ × ℕ)) (first end : List ℕ) → first ≡ []
    → end ≡ first ++ lines_text lines → end ≡ lines_text lines
from-first lines first end none e = e ∙ ap (λ v. v ++ lines_text lines) none
