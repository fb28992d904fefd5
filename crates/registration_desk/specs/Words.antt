-- The words of the desk.
use Rattle.std.specs.Prelude.{ℕ, ◌+◌, ◌==◌, ◌&&◌, not, List, [], map, length, codes, nat_lt, slice_index_or, if◌then◌else◌, Result, Ok, Err, String, string_bytes}
use Rattle.std.specs.Global.{Global}
use Rattle.std.specs.Str.{bytes_eq}
use Rattle.place_base.specs.declared.fault.FaultKind.{FaultKind}
use Rattle.record_files.specs.Numbers.{number_of}
use Rattle.registration_desk.specs.declared.desk.TheConstants.{MOST_CLERKS}
use Rattle.registration_desk.specs.declared.words.DeskWords.{DeskWords}
use Rattle.registration_desk.specs.declared.words.DeskWords.TheVariants.{WordCount, BadNumber}

-- the bytes of each word
abbrev pub texts : List (String Global) → List (List ℕ)
texts words = map string_bytes words

-- the word at an index, from 0
abbrev pub word_at : List (List ℕ) → ℕ → List ℕ
word_at words index = slice_index_or words index []

-- the number of clerks that a number word gives
abbrev pub clerks_by : Result ℕ FaultKind → Result ℕ DeskWords
clerks_by (Ok number) = Ok number
clerks_by (Err kind) = Err (BadNumber 4)

-- the number of clerks that the words give, or the first refusal in the order of the rules
abbrev pub clerks_of : List (List ℕ) → Result ℕ DeskWords
clerks_of words =
    if nat_lt (length words) 2 then Err (WordCount (length words + 1))
    else (if nat_lt 2 (length words) && not (bytes_eq (word_at words 2) (codes "--clerks"))
    then Err (WordCount 3)
    else (if length words == 3 then Err (WordCount 4)
    else (if nat_lt 4 (length words) then Err (WordCount 5)
    else (if length words == 2 then Ok 4
    else clerks_by (number_of (word_at words 3) 1 MOST_CLERKS)))))
