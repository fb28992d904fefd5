-- The grammar of the command line.
use Rattle.std.specs.Prelude.{ℕ, ◌+◌, ◌-◌, ◌*◌, ◌^◌, min, List, [], ◌∷◌, map, drop, find, length, codes, nat_lt, slice_index_or, if◌then◌else◌, Option, Some, None, Result, Ok, Err, String, string_bytes}
use Rattle.std.specs.Global.{Global}
use Rattle.std.specs.Str.{bytes_eq}
use Rattle.place_base.specs.declared.fault.FaultKind.{FaultKind}
use Rattle.place_base.specs.declared.limits.TheConstants.{LARGEST_CODE, LARGEST_QUOTA, MOST_CANDIDATES, MOST_PROGRAMMES, MOST_RANKS, MOST_TYPES}
use Rattle.record_files.specs.Numbers.{number_of}
use Rattle.command_words.specs.declared.words.Command.{Command}
use Rattle.command_words.specs.declared.words.Command.TheVariants.{Place, Base, Reasons, Audit, Fixed, Sweep, Second, Make}
use Rattle.command_words.specs.declared.words.WordsFault.{WordsFault}
use Rattle.command_words.specs.declared.words.WordsFault.TheVariants.{NoCommand, UnknownCommand, WordCount, BadNumber}
use Rattle.command_words.specs.declared.words.TheConstants.{WORKERS, MAX_WORKERS, MAX_QUOTAS}

-- ---- numbers: each is read where the counts of words are right

-- the number that a word gives, or that the word at this place is no such number
abbrev pub number_at : Result ℕ FaultKind → ℕ → Result ℕ WordsFault
number_at (Ok number) place = Ok number
number_at (Err kind) place = Err (BadNumber place)

-- go on with a number, where it is not refused
abbrev pub with_number : {T : Type 0} → Result ℕ WordsFault → (ℕ → Result T WordsFault)
    → Result T WordsFault
with_number (Ok number) next = next number
with_number (Err refused) next = Err refused

-- the number of workers that the option's word gives, which stands at this place; without the
-- option it is the usual one
abbrev pub workers_of : Option (List ℕ) → ℕ → Result ℕ WordsFault
workers_of None place = Ok WORKERS
workers_of (Some word) place = number_at (number_of word 1 MAX_WORKERS) place

-- the words after the command mean names of files, any of them: then only the number of workers can
-- be bad
abbrev pub of_names : (ℕ → Command) → List (List ℕ) → Result ℕ WordsFault
    → Result Command WordsFault
of_names command further workers = with_number workers (λ number. Ok (command number))

-- Behind the names of three files they mean a code of a programme, and two quotas of it, of which the
-- second is at least the first and makes at most so many quotas from the one to the other. The first
-- number that is bad is refused, and the number of workers comes last.
abbrev pub of_quotas : List (List ℕ) → Result ℕ WordsFault → Result Command WordsFault
of_quotas further workers =
    with_number (number_at (number_of (slice_index_or further 3 []) 1 LARGEST_CODE) 5) (λ code.
    with_number (number_at (number_of (slice_index_or further 4 []) 0 LARGEST_QUOTA) 6) (λ low.
    with_number (number_at (number_of (slice_index_or further 5 []) low
    (min LARGEST_QUOTA (low + (MAX_QUOTAS - 1)))) 7) (λ high.
    with_number workers (λ number. Ok (Sweep code low high number)))))

-- how many types there are, beside so many candidates: with too many ranks this number is bad
abbrev pub types_beside : ℕ → ℕ → Result ℕ WordsFault
types_beside candidates types =
    if nat_lt MOST_RANKS (candidates * types) then Err (BadNumber 5) else Ok types

-- they mean numbers: a seed, and the sizes of a market. The first that is bad is refused, and the
-- number of workers comes last.
abbrev pub of_numbers : List (List ℕ) → Result ℕ WordsFault → Result Command WordsFault
of_numbers further workers =
    with_number (number_at (number_of (slice_index_or further 0 []) 0 (2 ^ 64 - 1)) 2) (λ seed.
    with_number (number_at (number_of (slice_index_or further 1 []) 0 MOST_CANDIDATES) 3)
    (λ candidates.
    with_number (number_at (number_of (slice_index_or further 2 []) 0 MOST_PROGRAMMES) 4)
    (λ programmes.
    with_number (number_at (number_of (slice_index_or further 3 []) 1 MOST_TYPES) 5) (λ types.
    with_number (types_beside candidates types) (λ types.
    with_number workers (λ number. Ok (Make seed candidates programmes types number)))))))

-- ---- the grammar

-- a line of the grammar
pub record CommandForm : Type 0 where
  -- the command's word
  pub word : List ℕ
  -- how many words follow it, without the option
  pub further : ℕ
  -- what they ask for, by these words and the number of workers
  pub command : List (List ℕ) → Result ℕ WordsFault → Result Command WordsFault

-- the grammar: most commands take the names of three files, the audit takes that of a placement
-- file behind them, the second placement that of a registrations file behind that and the sweep
-- three numbers, and the maker of markets takes four numbers
abbrev pub grammar : List CommandForm
grammar =
    record { word = codes "place"; further = 3; command = of_names (λ workers. Place workers) }
    ∷ record { word = codes "base"; further = 3; command = of_names (λ workers. Base workers) }
    ∷ record {
      word = codes "reasons";
      further = 3;
      command = of_names (λ workers. Reasons workers);
    }
    ∷ record { word = codes "audit"; further = 4; command = of_names (λ workers. Audit workers) }
    ∷ record { word = codes "fixed"; further = 3; command = of_names (λ workers. Fixed workers) }
    ∷ record { word = codes "sweep"; further = 6; command = of_quotas }
    ∷ record { word = codes "second"; further = 5; command = of_names (λ workers. Second workers) }
    ∷ record { word = codes "make"; further = 4; command = of_numbers } ∷ []

-- the line of the grammar with this word
abbrev pub form_of : List ℕ → Option CommandForm
form_of word = find (λ form. bytes_eq form.word word) grammar

-- the one word that stands behind the option's, from this place on
abbrev pub word_behind : List (List ℕ) → ℕ → Result (Option (List ℕ)) WordsFault
word_behind [] place = Err (WordCount place)
word_behind (word ∷ []) place = Ok (Some word)
word_behind (word ∷ other ∷ more) place = Err (WordCount (place + 1))

-- what stands behind a command's own words, from this place on: nothing, or the option and a word
abbrev pub option_of : List (List ℕ) → ℕ → Result (Option (List ℕ)) WordsFault
option_of [] place = Ok None
option_of (word ∷ more) place =
    if bytes_eq word (codes "--workers") then word_behind more (place + 1)
    else Err (WordCount place)

-- what a command asks for, where its words are as many as it takes
abbrev pub command_by : CommandForm → List (List ℕ) → Result (Option (List ℕ)) WordsFault
    → Result Command WordsFault
command_by form further (Ok option) =
    form.command further (workers_of option (form.further + 3))
command_by form further (Err refused) = Err refused

-- what the words behind a command's own mean, or the first refusal
abbrev pub command_with : List (List ℕ) → Option CommandForm → Result Command WordsFault
command_with further None = Err (UnknownCommand 1)
command_with further (Some form) =
    if nat_lt (length further) form.further then Err (WordCount (length further + 2))
    else command_by form further (option_of (drop form.further further) (form.further + 2))

-- the command of a list of words, or its first refusal
abbrev pub command_of : List (List ℕ) → Result Command WordsFault
command_of [] = Err NoCommand
command_of (word ∷ further) = command_with further (form_of word)

-- the bytes of each word
abbrev pub texts : List (String Global) → List (List ℕ)
texts words = map string_bytes words
