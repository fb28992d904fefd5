-- Rows added to a table one after the other, where nothing is wrong with them by themselves.
use Rattle.std.specs.Prelude.{ℕ, List, [], ◌∷◌, ◌++◌, None, Option}
use Rattle.place_base.specs.declared.fault.FileFault.{FileFault}
use Rattle.record_files.specs.FirstFaults.{FileRules, first_of}
use Rattle.record_files.specs.Rows.{Row}

-- what may be wrong with the rows of a file by themselves
abbrev pub by_themselves : FileRules → FileRules
by_themselves rules =
    record { form = rules.form; reading = rules.reading; meaning = λ version earlier row. None }

-- what is wrong with the first of some rows that is wrong beside the rows before it, under a header
abbrev pub meanings : FileRules → ℕ → List Row → List Row → Option FileFault
meanings rules version earlier [] = None
meanings rules version earlier (row ∷ rows) =
    first_of (rules.meaning version earlier row)
    (meanings rules version (earlier ++ row ∷ []) rows)
