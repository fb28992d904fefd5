-- The rows of a ranks file that have no fault of their own: up to the first row that repeats an
-- earlier one none has a fault at all, and that row's fault is the file's first.
use Rattle.std.proofs.Common.{◌≡◌, ℕ, zero, suc, ◌+◌, ◌<◌, ◌≤◌, List, [], ◌∷◌, Bool, true, false, length, map, take, find, refl, sym, ap, ◌∙◌, arith, ⊎_elim, Option, Some, None, length-take-le}
use Rattle.std.specs.Prelude.{slice_index, option_and_then, option_map}
use Rattle.std.proofs.lemmas.Bool.{cases_Bool}
use Rattle.std.proofs.lemmas.List.{get_or-map, get_or-take, length-map}
use Rattle.std.proofs.lemmas.Option.{slice_get-get_or}
use Rattle.place_base.specs.declared.fault.FileFault.{FileFault}
use Rattle.place_base.specs.declared.fault.FileKind.{FileKind}
use Rattle.place_base.specs.declared.fault.FileKind.TheVariants.{Ranks}
use Rattle.record_files.specs.FirstFaults.{FileRules, first_of, first_row_fault, shape_fault, fault_behind, row_fault, least_fault, repeat_fault, duplicate_at}
use Rattle.record_files.specs.Form.{header_in}
use Rattle.record_files.specs.Rows.{Row, rows, data_rows}
use Rattle.record_files.proofs.FirstFaultLemmas.{first_of-none, least_fault-each, least_fault-found}
use Rattle.rank_lists.specs.Groups.{candidate_group, rank_group}
use Rattle.rank_lists.specs.Repeats.{HasNoRepeat, IsFirstRepeat}
use Rattle.rank_lists.specs.Rows.{ranks_form, ranks_rules, own_rules, reading, meaning, same_candidate, same_rank, ranks_fault, row_at}
use Rattle.rank_lists.proofs.RowGroups.{HasFields, HasFields-from, candidate_group-same, rank_group-same, same_candidate-group, same_rank-group}

-- where each fault is none, the least is none
pub least_fault-none : (fault : ℕ → Option FileFault) (n : ℕ) → ((k : ℕ) → k < n → fault k ≡ None)
    → least_fault fault n ≡ None
unfolding least_fault
least_fault-none fault zero h = refl
least_fault-none fault (suc n) h =
    rw (least_fault-none fault n (λ k lt. h k (omega arith))) (h n (omega arith))

-- the fault of a row that is there
pub row_fault-at : (rules : FileRules) (bytes : List ℕ) (k : ℕ) → k < length (data_rows bytes)
    → row_fault rules bytes k
    ≡ fault_behind rules (header_in rules.form (rows bytes)) (take k (data_rows bytes))
    (row_at (data_rows bytes) k)
row_fault-at rules bytes k lt =
    ap (option_and_then
    (fault_behind rules (header_in rules.form (rows bytes)) (take k (data_rows bytes))))
    (slice_get-get_or (data_rows bytes) k (0, []) lt)

not-true : (b : Bool) → (b ≡ true → ⊥) → b ≡ false
not-true b h = ⊎_elim (λ (yes : b ≡ true). absurd (h yes)) (λ (no : b ≡ false). no) (cases_Bool b)

-- no row passes the test
find-none : (p : Row → Bool) (rows : List Row)
    → ((i : ℕ) → i < length rows → p (row_at rows i) ≡ false) → find p rows ≡ None
find-none p [] h = refl
find-none p (row ∷ rows) h =
    rw (h 0 (omega arith)) (find-none p rows (λ i lt. h (suc i) (omega arith)))

-- the first row that passes the test
find-some : (p : Row → Bool) (rows : List Row) (i : ℕ) → i < length rows → p (row_at rows i) ≡ true
    → ((j : ℕ) → j < i → p (row_at rows j) ≡ false) → find p rows ≡ Some (row_at rows i)
find-some p [] i lt passes before = absurd (omega arith)
find-some p (row ∷ rows) zero lt passes before = rw passes refl
find-some p (row ∷ rows) (suc i) lt passes before =
    rw (before 0 (omega arith))
    (find-some p rows i (omega arith) passes (λ j below. before (suc j) (omega arith)))

-- rows in groups: those of one group repeat one another
module _ (body : List Row) (n : ℕ) (all : n ≤ length body) (group : Row → ℕ)
    (same : Row → Row → Bool)
    (to : (i k : ℕ) → i < n → k < n → same (row_at body k) (row_at body i) ≡ true
    → group (row_at body i) ≡ group (row_at body k))
    (from : (i k : ℕ) → i < n → k < n → group (row_at body i) ≡ group (row_at body k)
    → same (row_at body k) (row_at body i) ≡ true) where
  groups-length : length (map group (take n body)) ≡ n
  groups-length = length-map (take n body) group ∙ length-take-le n body all

  group-at : (k : ℕ) → k < n → slice_index (map group (take n body)) k ≡ group (row_at body k)
  group-at k lt =
      let size = length-take-le n body all in
      get_or-map group (take n body) k (0, []) 0 (omega arith)
      ∙ ap group (get_or-take n body k (0, []) lt)

  earlier-at : (k i : ℕ) → k < n → i < k → row_at (take k body) i ≡ row_at body i
  earlier-at k i lt below = get_or-take k body i (0, []) below

  -- a row that repeats no earlier one
  repeat-none : (m k : ℕ) (file : FileKind) (line field : ℕ)
      → HasNoRepeat (map group (take n body)) m
      → k < m → m ≤ n
      → repeat_fault file line field (same (row_at body k)) (take k body) ≡ None
  repeat-none m k file line field distinct lt le =
      let size = length-take-le k body (omega arith) in
      let none : find (same (row_at body k)) (take k body) ≡ None =
      find-none (same (row_at body k)) (take k body) (λ i below.
      let here : i < k = omega arith in
      rw (earlier-at k i (omega arith) here) (not-true _ (λ yes.
      distinct i k here lt (group-at i (omega arith) ∙ to i k (omega arith) (omega arith) yes
      ∙ sym (group-at k (omega arith)))))) in
      ap (option_map (λ row. duplicate_at file line field row.0)) none

  -- the first row that repeats an earlier one
  repeat-found : (i k : ℕ) (file : FileKind) (line field : ℕ)
      → IsFirstRepeat (map group (take n body)) i k
      → repeat_fault file line field (same (row_at body k)) (take k body)
      ≡ Some (duplicate_at file line field (row_at body i).0)
  repeat-found i k file line field first =
      let whole = groups-length in
      let order : i < k = first.order in
      let within : k < n = omega (arith, first.within) in
      let size = length-take-le k body (omega arith) in
      let groups : group (row_at body i) ≡ group (row_at body k) = sym (group-at i (omega arith))
      ∙ first.same ∙ group-at k within in
      let found : find (same (row_at body k)) (take k body) ≡ Some (row_at (take k body) i) =
      find-some (same (row_at body k)) (take k body) i (omega arith)
      (rw (earlier-at k i within order) (from i k (omega arith) within groups))
      (λ j below. rw (earlier-at k j within (omega arith)) (not-true _ (λ yes.
      first.first j i below order
      (group-at j (omega arith) ∙ to j k (omega arith) within yes ∙ sym groups
      ∙ sym (group-at i (omega arith)))))) in
      ap (option_map (λ row. duplicate_at file line field row.0))
      (found ∙ ap (λ row. Some row) (earlier-at k i within order))

module _ (bytes : List ℕ) (n : ℕ) (within : n ≤ length (data_rows bytes))
    (header : 0 < n → first_row_fault ranks_form (rows bytes) ≡ None)
    (none : least_fault (row_fault own_rules bytes) n ≡ None) where
  abbrev body : List Row
  body = data_rows bytes

  abbrev at : ℕ → Row
  at k = row_at body k

  -- how many fields a row has to have
  abbrev count : ℕ
  count = (header_in ranks_form (rows bytes)).fields

  -- a row that was read has no fault of its own
  own : (k : ℕ) → k < n
      → (shape_fault ranks_form count (length (take k body)) (at k) ≡ None)
      × (reading (at k) ≡ None)
  own k lt =
      let here = sym (row_fault-at own_rules bytes k (omega arith))
      ∙ least_fault-each _ n none k lt in
      let parts = first_of-none (shape_fault ranks_form count (length (take k body)) (at k)) _ here
      in
      (parts.0, (first_of-none (reading (at k)) None parts.1).0)

  -- so its parts are within their limits
  pub read-fields : (k : ℕ) → k < n → HasFields (at k)
  read-fields k lt = HasFields-from (at k) (own k lt).1

  abbrev candidates : List ℕ
  candidates = map candidate_group (take n body)

  abbrev ranks : List ℕ
  ranks = map rank_group (take n body)

  to-candidate : (i k : ℕ) → i < n → k < n → same_candidate (at k) (at i) ≡ true
      → candidate_group (at i) ≡ candidate_group (at k)
  to-candidate i k a b e = candidate_group-same (at k) (at i) e

  from-candidate : (i k : ℕ) → i < n → k < n → candidate_group (at i) ≡ candidate_group (at k)
      → same_candidate (at k) (at i) ≡ true
  from-candidate i k a b e =
      same_candidate-group (at k) (at i) (read-fields k b) (read-fields i a) e

  to-rank : (i k : ℕ) → i < n → k < n → same_rank (at k) (at i) ≡ true
      → rank_group (at i) ≡ rank_group (at k)
  to-rank i k a b e = rank_group-same (at k) (at i) e

  from-rank : (i k : ℕ) → i < n → k < n → rank_group (at i) ≡ rank_group (at k)
      → same_rank (at k) (at i) ≡ true
  from-rank i k a b e = same_rank-group (at k) (at i) (read-fields k b) (read-fields i a) e

  no-candidate : (m k : ℕ) → HasNoRepeat candidates m → k < m → m ≤ n
      → repeat_fault Ranks (at k).0 2 (same_candidate (at k)) (take k body) ≡ None
  no-candidate m k distinct lt le =
      repeat-none body n within candidate_group same_candidate to-candidate from-candidate m k
      Ranks (at k).0 2 distinct lt le

  no-rank : (m k : ℕ) → HasNoRepeat ranks m → k < m → m ≤ n
      → repeat_fault Ranks (at k).0 3 (same_rank (at k)) (take k body) ≡ None
  no-rank m k distinct lt le =
      repeat-none body n within rank_group same_rank to-rank from-rank m k Ranks
      (at k).0 3 distinct lt le

  first_of-both : (a b : Option FileFault) → a ≡ None → b ≡ None → first_of a b ≡ None
  first_of-both a b g h = rw g h

  -- the rows before the first repeat have no fault
  clear : (m : ℕ) → m ≤ n → HasNoRepeat candidates m → HasNoRepeat ranks m
      → least_fault (row_fault ranks_rules bytes) m ≡ None
  clear m le c d = least_fault-none _ m (λ k lt.
      let free = own k (omega arith) in
      row_fault-at ranks_rules bytes k (omega arith)
      ∙ first_of-both _ _ free.0 (first_of-both _ _ free.1
      (first_of-both _ _ (no-candidate m k c lt le) (no-rank m k d lt le))))

  -- a row behind clear ones that repeats one of them has the file's first fault
  stops : (k : ℕ) (f : FileFault) → k < n → HasNoRepeat candidates k → HasNoRepeat ranks k
      → meaning (take k body) (at k) ≡ Some f → ranks_fault bytes ≡ Some f
  stops k f lt c d found =
      let free = own k lt in
      let here : row_fault ranks_rules bytes k ≡ Some f =
      row_fault-at ranks_rules bytes k (omega arith) ∙ rw (free.0, free.1) found in
      rw (header (omega arith)) (least_fault-found (row_fault ranks_rules bytes) k (length body) f
      (omega arith) (clear k (omega arith) c d) here)

  size : length (take n body) ≡ n
  size = length-take-le n body within

  -- no repeat at all
  pub clear-all : HasNoRepeat candidates (length candidates) → HasNoRepeat ranks (length ranks)
      → least_fault (row_fault ranks_rules bytes) n ≡ None
  clear-all c d =
      let sizes = length-map (take n body) candidate_group in
      let sizes' = length-map (take n body) rank_group in
      let whole = size in
      clear n (omega arith) (λ i j below lt. c i j below (omega arith))
      (λ i j below lt. d i j below (omega arith))

  -- the first repeat is that of a candidate in a type
  pub candidate-first : (i k : ℕ) → IsFirstRepeat candidates i k → HasNoRepeat ranks k
      → ranks_fault bytes ≡ Some (duplicate_at Ranks (at k).0 2 (at i).0)
  candidate-first i k first d =
      let sizes = length-map (take n body) candidate_group in
      let whole = size in
      let inside : k < n = omega (arith, first.within) in
      let found = repeat-found body n within candidate_group same_candidate to-candidate
      from-candidate i k Ranks (at k).0 2 first in
      stops k (duplicate_at Ranks (at k).0 2 (at i).0) inside first.first d (rw found refl)

  -- the first repeat is that of a rank in a type
  pub rank-first : (i k : ℕ) → IsFirstRepeat ranks i k → HasNoRepeat candidates (k + 1)
      → ranks_fault bytes ≡ Some (duplicate_at Ranks (at k).0 3 (at i).0)
  rank-first i k first c =
      let sizes = length-map (take n body) rank_group in
      let whole = size in
      let inside : k < n = omega (arith, first.within) in
      let found = repeat-found body n within rank_group same_rank to-rank from-rank i k Ranks
      (at k).0 3 first in
      stops k (duplicate_at Ranks (at k).0 3 (at i).0) inside
      (λ a b below lt. c a b below (omega arith)) first.first
      (rw (no-candidate (k + 1) k c (omega arith) (omega arith)) found)
