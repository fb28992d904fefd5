-- The code's table of commands, as lines of the grammar, and words that it hands on, as bytes.
use Rattle.std.specs.Prelude.{ℕ, List, Option, Result, Ok, Err, option_copied}
use Rattle.std.specs.Borrow.{Bor}
use Rattle.command_words.specs.Words.{CommandForm, of_names, of_numbers, of_quotas}
use Rattle.command_words.specs.declared.words.Command.{Command}
use Rattle.command_words.specs.declared.words.Command.TheVariants.{Place, Base, Reasons, Audit, Fixed, Second}
use Rattle.command_words.specs.declared.words.Form.{Form}
use Rattle.command_words.specs.declared.words.Kind.{Kind}
use Rattle.command_words.specs.declared.words.Kind.TheVariants as kind
use Rattle.command_words.specs.declared.words.WordsFault.{WordsFault}

-- what a kind of command asks for, by its words and the number of workers
abbrev pub asked : Kind → List (List ℕ) → Result ℕ WordsFault → Result Command WordsFault
asked kind.Place = of_names (λ workers. Place workers)
asked kind.Base = of_names (λ workers. Base workers)
asked kind.Reasons = of_names (λ workers. Reasons workers)
asked kind.Audit = of_names (λ workers. Audit workers)
asked kind.Fixed = of_names (λ workers. Fixed workers)
asked kind.Sweep = of_quotas
asked kind.Second = of_names (λ workers. Second workers)
asked kind.Make = of_numbers

-- the line of the grammar that a line of the table stands for
abbrev pub grammar_line : Form → CommandForm
grammar_line form =
    record { word = form.word.now; further = form.further; command = asked form.kind }

-- the bytes of a word that is handed on
abbrev pub bytes_in : Result (Option (Bor (List ℕ))) WordsFault
    → Result (Option (List ℕ)) WordsFault
bytes_in (Ok word) = Ok (option_copied word)
bytes_in (Err refused) = Err refused
