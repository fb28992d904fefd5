-- Rows of a text.
use Rattle.std.specs.Prelude.{ℕ, ◌≤◌, List, [], ◌∷◌, ◌++◌, decimal, length, ⊤}
use Rattle.std.specs.List.{join_with_byte}
use Rattle.place_base.specs.declared.limits.TheConstants.{COMMA, LF}
use Rattle.record_files.specs.declared.row_texts.Field.{Field}
use Rattle.record_files.specs.declared.row_texts.Field.TheVariants.{Number, Text}

-- what a field prints
abbrev pub text_of : Field → List ℕ
text_of (Number n) = decimal n
text_of (Text bytes) = bytes.now

-- a number, or a text of at most 16 bytes
abbrev pub IsShort : Field → Type 0
IsShort (Number n) = ⊤
IsShort (Text bytes) = length bytes.now ≤ 16

-- fields with commas between them, and an LF
abbrev pub row_text : List (List ℕ) → List ℕ
row_text fields = join_with_byte COMMA fields ++ LF ∷ []
