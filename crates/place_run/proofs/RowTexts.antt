-- Texts that grow by a row: what was written so far is a front and the rows of the first numbers.
use Rattle.std.proofs.Common.{◌≡◌, ℕ, ◌+◌, ◌^◌, ◌<◌, ◌≤◌, List, [], ◌∷◌, ◌++◌, length, take, get_or, sym, ap, ◌∙◌, arith, Option, Some}
use Rattle.std.specs.Prelude.{codes, decimal, slice_get, slice_index}
use Rattle.std.specs.List.{flat_map, range_with_len}
use Rattle.std.proofs.lemmas.List.{flat_map_more, take_all, take_more}
use Rattle.std.proofs.lemmas.List.FromFn.{get_or-range_with_len, length-range_with_len}
use Rattle.std.proofs.lemmas.Fmt.{length-decimal-le}
use Rattle.std.proofs.lemmas.Option.{slice_get-get_or}
use Rattle.market.specs.BaseRanks.{base_rank}
use Rattle.market.specs.Counting.{count_of}
use Rattle.market.specs.Problems.{Problem, quota_of}
use Rattle.record_files.specs.Texts.{row_text}
use Rattle.reports.specs.Reasons.{entry_at, reason_of}
use Rattle.reports.specs.declared.reasons.Reason.{Reason}
use Rattle.place_run.specs.commands.Base.{programme_row, rank_text}
use Rattle.place_run.specs.commands.Fixed.{filled_row, unplaced_row}
use Rattle.place_run.specs.commands.Reasons.{entry_row, reason_base, reason_row, reason_word}

-- the texts of the numbers before n, of so many
abbrev pub texts_before : (ℕ → List ℕ) → ℕ → ℕ → List ℕ
texts_before text count n = flat_map text (take n (range_with_len 0 count))

-- one number more
pub texts-next : (text : ℕ → List ℕ) (front : List ℕ) (count n : ℕ) → n < count
    → (front ++ texts_before text count n) ++ text n ≡ front ++ texts_before text count (n + 1)
texts-next text front count n within =
    let xs = range_with_len 0 count in
    let few : n < length xs = omega (arith, length-range_with_len 0 count) in
    let at : get_or xs n 0 ≡ n = get_or-range_with_len 0 count n 0 within ∙ omega arith in
    ap (λ v. (front ++ texts_before text count n) ++ text v) (sym at)
    ∙ flat_map_more text front (take n xs) (get_or xs n 0)
    ∙ ap (λ v. front ++ flat_map text v) (sym (take_more xs n 0 few))

-- one row more
pub rows-more : (row : ℕ → List ℕ) (front : List ℕ) (count n : ℕ) (old new : List ℕ) → n < count
    → old ≡ front ++ texts_before row count n → new ≡ old ++ row n
    → new ≡ front ++ texts_before row count (n + 1)
rows-more row front count n old new within before after =
    after ∙ ap (λ v. v ++ row n) before ∙ texts-next row front count n within

-- all of them
pub texts-all : (text : ℕ → List ℕ) (count n : ℕ) → count ≤ n
    → texts_before text count n ≡ flat_map text (range_with_len 0 count)
texts-all text count n all =
    ap (flat_map text)
    (take_all n (range_with_len 0 count) (omega (arith, length-range_with_len 0 count)))

-- one element of a list more
pub list-more : {X : Type 0} (row : X → List ℕ) (front : List ℕ) (xs : List X) (n : ℕ) (d : X)
    (old new : List ℕ) → n < length xs → old ≡ front ++ flat_map row (take n xs)
    → new ≡ old ++ row (get_or xs n d) → new ≡ front ++ flat_map row (take (n + 1) xs)
list-more row front xs n d old new within before after =
    after ∙ ap (λ v. v ++ row (get_or xs n d)) before
    ∙ flat_map_more row front (take n xs) (get_or xs n d)
    ∙ ap (λ v. front ++ flat_map row v) (sym (take_more xs n d within))

-- the number that a table gives at an index
pub number-at : (numbers : List ℕ) (index number : ℕ) → index < length numbers
    → slice_get numbers index ≡ Some number → number ≡ get_or numbers index 0
number-at numbers index number within given =
    let same : Some number ≡ Some (get_or numbers index 0) =
    sym given ∙ slice_get-get_or numbers index 0 within in cc same

-- ---- the row of a programme

-- a row of its code, quota, number of holders and base rank is the programme's row
pub base-row : (programmes : List ℕ) (m : Problem) (held : List (Option ℕ))
    (p code quota count : ℕ) (text : List ℕ) → p < length programmes
    → slice_get programmes p ≡ Some code → quota ≡ quota_of m p → count ≡ count_of p held
    → text ≡ rank_text (base_rank m held p)
    → row_text (decimal code ∷ decimal quota ∷ decimal count ∷ text ∷ [])
    ≡ programme_row programmes m held p
base-row programmes m held p code quota count text within given quotas counts texts =
    let codes = number-at programmes p code within given in
    ap (λ v. row_text (decimal v ∷ decimal quota ∷ decimal count ∷ text ∷ [])) codes
    ∙ ap (λ v. row_text (decimal (get_or programmes p 0) ∷ decimal v ∷ decimal count ∷ text ∷ []))
    quotas
    ∙ ap (λ v. row_text (decimal (get_or programmes p 0) ∷ decimal (quota_of m p) ∷ decimal v
    ∷ text ∷ [])) counts
    ∙ ap (λ v. row_text (decimal (get_or programmes p 0) ∷ decimal (quota_of m p)
    ∷ decimal (count_of p held) ∷ v ∷ [])) texts

-- ---- the rows of what all stable placements share

-- a row of a candidate's number and no seat is that of the candidate
pub unplaced-row : (candidates : List ℕ) (i number : ℕ) → i < length candidates
    → slice_get candidates i ≡ Some number
    → row_text (codes "CANDIDATE" ∷ decimal number ∷ decimal 0 ∷ []) ≡ unplaced_row candidates i
unplaced-row candidates i number within given =
    ap (λ v. row_text (codes "CANDIDATE" ∷ decimal v ∷ decimal 0 ∷ []))
    (number-at candidates i number within given)

-- a row of a code and a number of holders is that of the programme
pub filled-row : (programmes held : List ℕ) (p code count : ℕ) → p < length programmes
    → slice_get programmes p ≡ Some code → count ≡ slice_index held p
    → row_text (codes "PROGRAMME" ∷ decimal code ∷ decimal count ∷ [])
    ≡ filled_row programmes held p
filled-row programmes held p code count within given counts =
    ap (λ v. row_text (codes "PROGRAMME" ∷ decimal v ∷ decimal count ∷ []))
    (number-at programmes p code within given)
    ∙ ap (λ v. row_text (codes "PROGRAMME" ∷ decimal (slice_index programmes p) ∷ decimal v ∷ []))
    counts

-- ---- the row of a list entry

-- a row of the candidate's number, the code, the reason and its base rank is the entry's row
pub reason-row : (programmes candidates : List ℕ) (m : Problem) (held : List (Option ℕ))
    (i place number code : ℕ) (reason : Reason) (word base : List ℕ)
    → i < length candidates → entry_at m i place < length programmes
    → slice_get candidates i ≡ Some number → slice_get programmes (entry_at m i place) ≡ Some code
    → reason ≡ reason_of m held i place → word ≡ reason_word reason → base ≡ reason_base reason
    → row_text (decimal number ∷ decimal code ∷ word ∷ base ∷ [])
    ≡ entry_row programmes candidates m held i place
unfolding entry_row
reason-row programmes candidates m held i place number code reason word base known listed numbered
    coded reasoned worded based =
    let numbers = number-at candidates i number known numbered in
    let codes = number-at programmes (entry_at m i place) code listed coded in
    ap (λ v. row_text (decimal v ∷ decimal code ∷ word ∷ base ∷ [])) numbers
    ∙ ap (λ v. row_text (decimal (get_or candidates i 0) ∷ decimal v ∷ word ∷ base ∷ [])) codes
    ∙ ap (λ v. row_text (decimal (get_or candidates i 0)
    ∷ decimal (get_or programmes (entry_at m i place) 0) ∷ v ∷ base ∷ [])) worded
    ∙ ap (λ v. row_text (decimal (get_or candidates i 0)
    ∷ decimal (get_or programmes (entry_at m i place) 0) ∷ reason_word reason ∷ v ∷ [])) based
    ∙ ap (reason_row (get_or candidates i 0) (get_or programmes (entry_at m i place) 0)) reasoned

-- a number of 64 bits has at most 20 digits
pub number-short : (number : ℕ) → number < 2 ^ 64 → length (decimal number) ≤ 20
number-short number small = length-decimal-le 20 number (omega arith) (omega arith) small
