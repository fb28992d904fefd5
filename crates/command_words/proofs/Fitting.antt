-- Words that give a command are as many as it takes, its numbers are within their ranges, and it
-- has 1 to 64 workers.
use Rattle.std.proofs.Common.{◌≡◌, ℕ, suc, ◌+◌, ◌-◌, ◌*◌, ◌^◌, ◌<◌, ◌≤◌, List, [], ◌∷◌, drop, length, Option, Some, None, Result, Ok, Err, refl, sym, ◌∙◌, subst, arith, ⊎_elim}
use Rattle.std.specs.Prelude.{codes, min, nat_lt, slice_index_or, ⊤}
use Rattle.std.proofs.Math.Nat.{min-le_left, min-le_right}
use Rattle.std.specs.Str.{bytes_eq}
use Rattle.std.proofs.lemmas.Bool.{and_parts, cases_lt, cond-false, cond-true, cond_both, le-ltb, leb-true, lt-ltb}
use Rattle.place_base.specs.declared.fault.FaultKind.{FaultKind}
use Rattle.place_base.specs.declared.fault.FaultKind.TheVariants.{OutOfRange}
use Rattle.place_base.specs.declared.limits.TheConstants.{LARGEST_CODE, LARGEST_QUOTA, MOST_CANDIDATES, MOST_PROGRAMMES, MOST_RANKS, MOST_TYPES}
use Rattle.record_files.specs.Numbers.{is_number, number_of, value}
use Rattle.command_words.specs.Words.{CommandForm, command_by, command_of, command_with, form_of, number_at, of_names, of_numbers, of_quotas, option_of, types_beside, with_number, workers_of}
use Rattle.command_words.specs.declared.words.Command.{Command}
use Rattle.command_words.specs.declared.words.Command.TheVariants.{Place, Base, Reasons, Audit, Fixed, Sweep, Second, Make}
use Rattle.command_words.specs.declared.words.TheConstants.{MAX_QUOTAS, MAX_WORKERS, WORKERS}
use Rattle.command_words.specs.declared.words.WordsFault.{WordsFault}
use Rattle.command_words.specs.declared.words.WordsFault.TheVariants.{BadNumber, WordCount}

-- how many words a command takes without the option, its own among them
abbrev pub words_of : Command → ℕ
words_of (Place workers) = 4
words_of (Base workers) = 4
words_of (Reasons workers) = 4
words_of (Audit workers) = 5
words_of (Fixed workers) = 4
words_of (Sweep code low high workers) = 7
words_of (Second workers) = 6
words_of (Make seed candidates programmes types workers) = 5

-- how many workers a command has
abbrev pub workers_in : Command → ℕ
workers_in (Place workers) = workers
workers_in (Base workers) = workers
workers_in (Reasons workers) = workers
workers_in (Audit workers) = workers
workers_in (Fixed workers) = workers
workers_in (Sweep code low high workers) = workers
workers_in (Second workers) = workers
workers_in (Make seed candidates programmes types workers) = workers

-- a market is within the limits of the words, and has a type
pub record AreSizes (candidates programmes types : ℕ) : Type 0 where
  pub candidates_fit : candidates ≤ MOST_CANDIDATES
  pub programmes_fit : programmes ≤ MOST_PROGRAMMES
  pub types_fit : types ≤ MOST_TYPES
  pub some_type : 1 ≤ types

-- quotas rise from the one to the other, at most so many, and are within their limit
pub record AreQuotas (low high : ℕ) : Type 0 where
  pub rising : low ≤ high
  pub few : high < low + MAX_QUOTAS
  pub high_fits : high ≤ LARGEST_QUOTA

-- the sizes that a command has are such
abbrev pub HasSizes : Command → Type 0
HasSizes (Place workers) = ⊤
HasSizes (Base workers) = ⊤
HasSizes (Reasons workers) = ⊤
HasSizes (Audit workers) = ⊤
HasSizes (Fixed workers) = ⊤
HasSizes (Sweep code low high workers) = AreQuotas low high
HasSizes (Second workers) = ⊤
HasSizes (Make seed candidates programmes types workers) = AreSizes candidates programmes types

-- so many words are enough for the command, and it has 1 to 64 workers
pub record Fits (command : Command) (count : ℕ) : Type 0 where
  pub words : words_of command ≤ count
  pub workers : (1 ≤ workers_in command) × (workers_in command ≤ MAX_WORKERS)
  pub sizes : HasSizes command

-- a number that is read is within its range
ranged : (field : List ℕ) (low high n : ℕ) → number_of field low high ≡ Ok n
    → (low ≤ n) × (n ≤ high)
ranged field low high n =
    cond_both (is_number field) _ _ (λ read. read ≡ Ok n → (low ≤ n) × (n ≤ high))
    (λ _. cond_both (_) (Ok (value field)) (Err OutOfRange)
    (λ read. read ≡ Ok n → (low ≤ n) × (n ≤ high))
    (λ within e.
    let both = and_parts _ _ within in
    let same : value field ≡ n = cc e in
    subst (λ v. (low ≤ v) × (v ≤ high)) same (leb-true _ _ both.0, leb-true _ _ both.1))
    (λ _ e. cc e))
    (λ _ e. cc e)

-- so is one of a word at a place
read-ranged : (read : Result ℕ FaultKind) (low high place n : ℕ)
    → ((m : ℕ) → read ≡ Ok m → (low ≤ m) × (m ≤ high)) → number_at read place ≡ Ok n
    → (low ≤ n) × (n ≤ high)
read-ranged (Ok m) low high place n within e =
    let same : m ≡ n = cc e in
    subst (λ v. (low ≤ v) × (v ≤ high)) same (within m refl)
read-ranged (Err kind) low high place n within e = cc e

-- so a word at a place that gives a number gives one within these bounds
pub number-ranged : (field : List ℕ) (low high place n : ℕ)
    → number_at (number_of field low high) place ≡ Ok n → (low ≤ n) × (n ≤ high)
number-ranged field low high place n e =
    read-ranged (number_of field low high) low high place n (ranged field low high) e

-- and so is the number of workers
workers-ranged : (option : Option (List ℕ)) (place n : ℕ) → workers_of option place ≡ Ok n
    → (1 ≤ n) × (n ≤ MAX_WORKERS)
workers-ranged None place n e =
    let same : WORKERS ≡ n = cc e in
    subst (λ v. (1 ≤ v) × (v ≤ MAX_WORKERS)) same (omega arith, omega arith)
workers-ranged (Some word) place n e = number-ranged word 1 MAX_WORKERS place n e

-- a number that is gone on with was read
with-read : {T : Type 0} (read : Result ℕ WordsFault) (next : ℕ → Result T WordsFault) (end : T)
    → with_number read next ≡ Ok end → (n : ℕ) × (read ≡ Ok n) × (next n ≡ Ok end)
with-read (Ok n) next end e = (n, refl, e)
with-read (Err refused) next end e = cc e

-- the types are those that the word gives
same-types : (candidates types n : ℕ) → types_beside candidates types ≡ Ok n → types ≡ n
same-types candidates types n =
    cond_both (nat_lt MOST_RANKS (candidates * types)) (Err (BadNumber 5)) (Ok types)
    (λ read. read ≡ Ok n → types ≡ n) (λ _ e. cc e) (λ _ e. cc e)

-- a line of the grammar gives commands that fit their words
abbrev IsLine : CommandForm → Type 0
IsLine form = (further : List (List ℕ)) (workers : Result ℕ WordsFault) (command : Command)
    → form.further ≤ length further
    → ((n : ℕ) → workers ≡ Ok n → (1 ≤ n) × (n ≤ MAX_WORKERS))
    → form.command further workers ≡ Ok command → Fits command (length further + 1)

-- those of names do
names-fit : (make : ℕ → Command) (wanted : ℕ) → ((n : ℕ) → words_of (make n) ≡ wanted + 1)
    → ((n : ℕ) → workers_in (make n) ≡ n) → ((n : ℕ) → HasSizes (make n))
    → (further : List (List ℕ)) (workers : Result ℕ WordsFault) (command : Command)
    → wanted ≤ length further → ((n : ℕ) → workers ≡ Ok n → (1 ≤ n) × (n ≤ MAX_WORKERS))
    → of_names make further workers ≡ Ok command → Fits command (length further + 1)
names-fit make wanted counts hands sizes further workers command many within e =
    let read = with-read workers (λ n. Ok (make n)) command e in
    let same : make read.0 ≡ command = cc read.2 in
    let counted = counts read.0 in
    subst (λ c. Fits c (length further + 1)) same (record {
      words = omega (arith, counted, many);
      workers = subst (λ v. (1 ≤ v) × (v ≤ MAX_WORKERS)) (sym (hands read.0))
          (within read.0 read.1);
      sizes = sizes read.0;
    })

-- so does that of quotas
quotas-fit : (further : List (List ℕ)) (workers : Result ℕ WordsFault) (command : Command)
    → 6 ≤ length further → ((n : ℕ) → workers ≡ Ok n → (1 ≤ n) × (n ≤ MAX_WORKERS))
    → of_quotas further workers ≡ Ok command → Fits command (length further + 1)
quotas-fit further workers command many within e =
    let code = with-read (number_at (number_of (slice_index_or further 3 []) 1 LARGEST_CODE) 5) _
    command e in
    let low = with-read (number_at (number_of (slice_index_or further 4 []) 0 LARGEST_QUOTA) 6) _
    command code.2 in
    let most = min LARGEST_QUOTA (low.0 + (MAX_QUOTAS - 1)) in
    let high = with-read (number_at (number_of (slice_index_or further 5 []) low.0 most) 7) _
    command low.2 in
    let number = with-read workers (λ n. Ok (Sweep code.0 low.0 high.0 n)) command high.2 in
    let ranged = number-ranged (slice_index_or further 5 []) low.0 most 7 high.0 high.1 in
    let limit = min-le_left LARGEST_QUOTA (low.0 + (MAX_QUOTAS - 1)) in
    let count = min-le_right LARGEST_QUOTA (low.0 + (MAX_QUOTAS - 1)) in
    let same : Sweep code.0 low.0 high.0 number.0 ≡ command = cc number.2 in
    subst (λ c. Fits c (length further + 1)) same (record {
      words = omega (arith, many);
      workers = within number.0 number.1;
      sizes = record {
        rising = ranged.0;
        few = omega (arith, ranged.1, count);
        high_fits = omega (arith, ranged.1, limit);
      };
    })

-- and so does that of numbers
numbers-fit : (further : List (List ℕ)) (workers : Result ℕ WordsFault) (command : Command)
    → 4 ≤ length further → ((n : ℕ) → workers ≡ Ok n → (1 ≤ n) × (n ≤ MAX_WORKERS))
    → of_numbers further workers ≡ Ok command → Fits command (length further + 1)
numbers-fit further workers command many within e =
    let seed = with-read (number_at (number_of (slice_index_or further 0 []) 0 (2 ^ 64 - 1)) 2) _
    command e in
    let candidates = with-read
    (number_at (number_of (slice_index_or further 1 []) 0 MOST_CANDIDATES) 3) _ command seed.2 in
    let programmes = with-read
    (number_at (number_of (slice_index_or further 2 []) 0 MOST_PROGRAMMES) 4) _ command
    candidates.2 in
    let types = with-read (number_at (number_of (slice_index_or further 3 []) 1 MOST_TYPES) 5) _
    command programmes.2 in
    let beside = with-read (types_beside candidates.0 types.0) _ command types.2 in
    let number = with-read workers (λ n. Ok (Make seed.0 candidates.0 programmes.0 beside.0 n))
    command beside.2 in
    let one = number-ranged (slice_index_or further 1 []) 0 MOST_CANDIDATES 3 candidates.0
    candidates.1 in
    let two = number-ranged (slice_index_or further 2 []) 0 MOST_PROGRAMMES 4 programmes.0
    programmes.1 in
    let three = number-ranged (slice_index_or further 3 []) 1 MOST_TYPES 5 types.0 types.1 in
    let kept = same-types candidates.0 types.0 beside.0 beside.1 in
    let same : Make seed.0 candidates.0 programmes.0 beside.0 number.0 ≡ command = cc number.2 in
    subst (λ c. Fits c (length further + 1)) same (record {
      words = omega (arith, many);
      workers = within number.0 number.1;
      sizes = record {
        candidates_fit = one.1;
        programmes_fit = two.1;
        types_fit = subst (λ v. v ≤ MOST_TYPES) kept three.1;
        some_type = subst (λ v. 1 ≤ v) kept three.0;
      };
    })

abbrev AreLines : Option CommandForm → Type 0
AreLines None = Unit {0}
AreLines (Some form) = IsLine form

lines : (word : List ℕ) → AreLines (form_of word)
lines word =
    cond_both (bytes_eq (codes "place") word) _ _ AreLines
    (λ _. names-fit (λ n. Place n) 3 (λ n. refl) (λ n. refl) (λ n. tt))
    (λ _. cond_both (bytes_eq (codes "base") word) _ _ AreLines
    (λ _. names-fit (λ n. Base n) 3 (λ n. refl) (λ n. refl) (λ n. tt))
    (λ _. cond_both (bytes_eq (codes "reasons") word) _ _ AreLines
    (λ _. names-fit (λ n. Reasons n) 3 (λ n. refl) (λ n. refl) (λ n. tt))
    (λ _. cond_both (bytes_eq (codes "audit") word) _ _ AreLines
    (λ _. names-fit (λ n. Audit n) 4 (λ n. refl) (λ n. refl) (λ n. tt))
    (λ _. cond_both (bytes_eq (codes "fixed") word) _ _ AreLines
    (λ _. names-fit (λ n. Fixed n) 3 (λ n. refl) (λ n. refl) (λ n. tt))
    (λ _. cond_both (bytes_eq (codes "sweep") word) _ _ AreLines
    (λ _. quotas-fit)
    (λ _. cond_both (bytes_eq (codes "second") word) _ _ AreLines
    (λ _. names-fit (λ n. Second n) 5 (λ n. refl) (λ n. refl) (λ n. tt))
    (λ _. cond_both (bytes_eq (codes "make") word) _ _ AreLines
    (λ _. numbers-fit)
    (λ _. tt))))))))

by-option : (form : CommandForm) (further : List (List ℕ))
    (option : Result (Option (List ℕ)) WordsFault) (command : Command) → IsLine form
    → form.further ≤ length further → command_by form further option ≡ Ok command
    → Fits command (length further + 1)
by-option form further (Ok option) command line many e =
    line further (workers_of option (form.further + 3)) command many
    (workers-ranged option (form.further + 3)) e
by-option form further (Err refused) command line many e = cc e

by-form : (further : List (List ℕ)) (form : Option CommandForm) (command : Command)
    → AreLines form → command_with further form ≡ Ok command → Fits command (length further + 1)
by-form further None command line e = cc e
by-form further (Some form) command line e =
    ⊎_elim
    (λ (few : length further < form.further).
    let never : Err (WordCount (length further + 2)) ≡ Ok command =
    sym (cond-true _ _ _ (lt-ltb _ _ few)) ∙ e in
    cc never)
    (λ (many : form.further ≤ length further).
    by-option form further (option_of (drop form.further further) (form.further + 2)) command line
    many (sym (cond-false _ _ _ (le-ltb _ _ many)) ∙ e))
    (cases_lt (length further) form.further)

-- the command that words give fits them
pub fits : (words : List (List ℕ)) (command : Command) → command_of words ≡ Ok command
    → Fits command (length words)
fits [] command e = cc e
fits (word ∷ further) command e =
    let same : length further + 1 ≡ suc (length further) = omega arith in
    subst (Fits command) same (by-form further (form_of word) command (lines word) e)
