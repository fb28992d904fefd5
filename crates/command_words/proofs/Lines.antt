-- A line of the table that is found is the line of the grammar for its word, and the words behind
-- it give the command of the whole list.
use Rattle.std.proofs.Common.{◌≡◌, ℕ, ◌+◌, ◌-◌, ◌<◌, ◌≤◌, List, take, drop, length, Option, Some, None, Result, Err, Fits, w32, sym, ap, ◌∙◌, subst, arith}
use Rattle.std.specs.Prelude.{codes, ⊤, String, string_bytes}
use Rattle.std.specs.Global.{Global}
use Rattle.std.specs.List.{IsFirstAndRest}
use Rattle.std.specs.Str.{bytes_eq}
use Rattle.std.proofs.lemmas.Bool.{cond-false, cond-true, cond_both, le-ltb, lt-ltb}
use Rattle.std.proofs.lemmas.List.{drop-map, length-drop, length-map, take_all}
use Rattle.command_words.specs.Forms.{grammar_line}
use Rattle.command_words.specs.Words.{CommandForm, command_by, command_of, command_with, form_of, option_of, texts}
use Rattle.command_words.specs.declared.words.Command.{Command}
use Rattle.command_words.specs.declared.words.Form.{Form}
use Rattle.command_words.specs.declared.words.WordsFault.{WordsFault}
use Rattle.command_words.specs.declared.words.WordsFault.TheVariants.{WordCount}

-- a line takes at most six words
abbrev TakesFew : Option CommandForm → Type 0
TakesFew None = ⊤
TakesFew (Some form) = form.further ≤ 6

takes_few : (word : List ℕ) → TakesFew (form_of word)
takes_few word =
    cond_both (bytes_eq (codes "place") word) _ _ TakesFew (λ _. omega arith)
    (λ _. cond_both (bytes_eq (codes "base") word) _ _ TakesFew (λ _. omega arith)
    (λ _. cond_both (bytes_eq (codes "reasons") word) _ _ TakesFew (λ _. omega arith)
    (λ _. cond_both (bytes_eq (codes "audit") word) _ _ TakesFew (λ _. omega arith)
    (λ _. cond_both (bytes_eq (codes "fixed") word) _ _ TakesFew (λ _. omega arith)
    (λ _. cond_both (bytes_eq (codes "sweep") word) _ _ TakesFew (λ _. omega arith)
    (λ _. cond_both (bytes_eq (codes "second") word) _ _ TakesFew (λ _. omega arith)
    (λ _. cond_both (bytes_eq (codes "make") word) _ _ TakesFew (λ _. omega arith)
    (λ _. tt))))))))

-- the places of the option and of its word, behind so many words, are small numbers
pub record AreSmallPlaces (further : ℕ) : Type 0 where
  pub option : Fits w32 (further + 2)
  pub option_few : further + 2 ≤ 1000
  pub workers : Fits w32 (further + 3)

-- so they are behind the words of the line that is found for a word
pub small_places : (word : List ℕ) (form : Form) → Some (grammar_line form) ≡ form_of word
    → AreSmallPlaces form.further
small_places word form found =
    let few = subst TakesFew (sym found) (takes_few word) in
    record { option = omega arith; option_few = omega arith; workers = omega arith }

-- the command of a list of words by the line of its first
by_line : (words : List (String Global)) (first : String Global)
    (further : List (String Global)) (form : Form) → IsFirstAndRest words first further
    → Some (grammar_line form) ≡ form_of (string_bytes first)
    → command_with (texts further) (Some (grammar_line form)) ≡ command_of (texts words)
by_line words first further form parts found =
    ap (command_with (texts further)) found
    ∙ sym (ap (λ (list : List (String Global)). command_of (texts list)) parts.0)

-- the refusal of a word that is missing at a place
abbrev pub refused_at : ℕ → Result Command WordsFault
refused_at place = Err (WordCount place)

-- where words are missing, the list is refused at the place behind its last
pub missing : (words : List (String Global)) (first : String Global)
    (further : List (String Global)) (form : Form) → IsFirstAndRest words first further
    → Some (grammar_line form) ≡ form_of (string_bytes first) → length further < form.further
    → refused_at (length words + 1) ≡ command_of (texts words)
missing words first further form parts found few =
    let count = length-map further string_bytes in
    let total = parts.1 in
    let place : length words + 1 ≡ length (texts further) + 2 = omega arith in
    let few_texts : length (texts further) < form.further = omega arith in
    ap refused_at place
    ∙ sym (cond-true _ _ _ (lt-ltb _ _ few_texts))
    ∙ by_line words first further form parts found

-- where enough words stand, the list means what the line and the option behind its words mean
pub meant : (words : List (String Global)) (first : String Global)
    (further : List (String Global)) (form : Form) (option : Result (Option (List ℕ)) WordsFault)
    → IsFirstAndRest words first further
    → Some (grammar_line form) ≡ form_of (string_bytes first) → form.further ≤ length further
    → option
    ≡ option_of (texts (take (length further - form.further) (drop form.further further)))
    (form.further + 2)
    → command_by (grammar_line form) (texts further) option ≡ command_of (texts words)
meant words first further form option parts found many read =
    let n = form.further in
    let count = length-map further string_bytes in
    let many_texts : n ≤ length (texts further) = omega arith in
    let rest = length-drop n further in
    let behind = ap texts (take_all (length further - n) (drop n further) (omega arith))
    ∙ sym (drop-map string_bytes n further) in
    ap (command_by (grammar_line form) (texts further))
    (read ∙ ap (λ (list : List (List ℕ)). option_of list (n + 2)) behind)
    ∙ sym (cond-false _ _ _ (le-ltb _ _ many_texts))
    ∙ by_line words first further form parts found
