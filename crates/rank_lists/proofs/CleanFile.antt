-- A file each of whose rows is clean and of a known type and candidate, where no candidate and no
-- rank stands twice in a type: it has no fault, and the turns are its table.
use Rattle.std.proofs.Common.{◌≡◌, ℕ, suc, ◌<◌, ◌≤◌, ◌==◌, ◌∷◌, ◌++◌, List, [], All, IsSome, length, map, take, sym, ap, ◌∙◌, arith, subst, false, None, refl, take_all, length-take}
use Rattle.std.specs.Prelude.{slice_index_or}
use Rattle.std.specs.List.{AllZip, flat_map}
use Rattle.std.proofs.lemmas.List.{length-map, map-append}
use Rattle.std.proofs.lemmas.List.Elements.{All-append, All-nil, filter-append, filter_map-append}
use Rattle.record_files.specs.FirstFaults.{row_fault, least_fault, shape_fault}
use Rattle.record_files.specs.Form.{header_in}
use Rattle.record_files.specs.Rows.{Row, rows, data_rows}
use Rattle.piece_reader.specs.Ahead.{AreReadAhead, IsClean}
use Rattle.piece_reader.proofs.CleanParts.{shape-anywhere}
use Rattle.rank_lists.specs.Clean.{AreAllCleanTurns, AreCleanTurns, HasStandings, IsCleanFile, standing_key, keys_in}
use Rattle.rank_lists.specs.Groups.{candidate_group, rank_group}
use Rattle.rank_lists.specs.Repeats.{HasNoRepeat}
use Rattle.rank_lists.specs.Rows.{ranks_form, own_rules, row_at}
use Rattle.rank_lists.specs.Table.{Standing, in_type, ranks_table, standing_in, standings}
use Rattle.rank_lists.specs.declared.keys.TheConstants.{INDEXES}
use Rattle.rank_lists.specs.declared.part_ranks.PartRanks.{PartRanks}
use Rattle.rank_lists.proofs.CleanRows.{one-candidate, one-rank}
use Rattle.rank_lists.proofs.FirstDuplicates.{clear-all, least_fault-none, row_fault-at}
use Rattle.rank_lists.proofs.RowGroups.{HasFields, HasFields-from}
use Rattle.rank_lists.proofs.TableLemmas.{all-turns, once-candidate, once-rank, table-is-sound}

-- the ranks that parts give in a type are those of the standings of all their rows
keys-of_parts : (names : List (List ℕ)) (numbers : List ℕ) (kind : ℕ) → kind < length names
    → (lists : List (List Row)) (parts : List PartRanks)
    → AllZip (HasStandings names numbers) lists parts
    → keys_in kind parts
    ≡ map standing_key (in_type kind (standings names numbers (flat_map (λ rows. rows) lists)))
keys-of_parts names numbers kind lt [] [] each = refl
keys-of_parts names numbers kind lt [] (part ∷ parts) each = absurd each
keys-of_parts names numbers kind lt (rows ∷ lists) [] each = absurd each
keys-of_parts names numbers kind lt (rows ∷ lists) (part ∷ parts) each =
    let later = flat_map (λ (rows : List Row). rows) lists in
    let first = standings names numbers rows in
    let more = standings names numbers later in
    let both : in_type kind (standings names numbers (rows ++ later))
    ≡ in_type kind first ++ in_type kind more =
    ap (in_type kind) (filter_map-append (standing_in names numbers) rows later)
    ∙ filter-append (λ s. s.kind == kind) first more in
    (λ j. each.0.given kind lt j ++ keys-of_parts names numbers kind lt lists parts each.1 j)
    ∙ sym (map-append standing_key (in_type kind first) (in_type kind more))
    ∙ ap (map standing_key) (sym both)

-- and where no part has a row of an unknown type or candidate, there is none
known-of_parts : (names : List (List ℕ)) (numbers : List ℕ) (lists : List (List Row))
    (parts : List PartRanks) → AllZip (HasStandings names numbers) lists parts
    → All (λ part. part.unknown ≡ false) parts
    → All (λ row. IsSome (standing_in names numbers row)) (flat_map (λ rows. rows) lists)
known-of_parts names numbers [] [] each clear = All-nil _
known-of_parts names numbers [] (part ∷ parts) each clear = absurd each
known-of_parts names numbers (rows ∷ lists) [] each clear = absurd each
known-of_parts names numbers (rows ∷ lists) (part ∷ parts) each clear =
    All-append (λ row. IsSome (standing_in names numbers row)) rows (flat_map (λ rows. rows) lists)
    (each.0.known (clear 0 part (omega arith)))
    (known-of_parts names numbers lists parts each.1 (λ k d lt. clear (suc k) d (omega arith)))

module _ (names : List (List ℕ)) (numbers bytes : List ℕ) (few : length numbers ≤ INDEXES)
    (parts : List PartRanks)
    (read : AreReadAhead own_rules (λ version. HasStandings names numbers) bytes parts)
    (clear : All (λ part. part.unknown ≡ false) parts) (orders ranks : List (List ℕ))
    (turns : AreAllCleanTurns (length names) parts orders ranks) where
  abbrev body : List Row
  body = data_rows bytes

  abbrev all : List Standing
  all = standings names numbers body

  clean-at : (k : ℕ) → k < length body
      → IsClean own_rules (header_in ranks_form (rows bytes)) (row_at body k)
  clean-at k lt = read.clean k (0, []) lt

  -- no row has a fault of its own
  none : least_fault (row_fault own_rules bytes) (length body) ≡ None
  none = least_fault-none (row_fault own_rules bytes) (length body) (λ k lt.
      let most = read.few in
      let size : length (take k body) ≤ k = omega (arith, length-take k body) in
      let shape : shape_fault ranks_form (header_in ranks_form (rows bytes)).fields
      (length (take k body)) (row_at body k) ≡ None =
      shape-anywhere ranks_form (header_in ranks_form (rows bytes)).fields 0 (length (take k body))
      (row_at body k) (omega arith) (clean-at k lt).shape in
      row_fault-at own_rules bytes k lt ∙ rw (shape, (clean-at k lt).reading) refl)

  fields : (k : ℕ) → k < length body → HasFields (row_at body k)
  fields k lt = HasFields-from (row_at body k) (clean-at k lt).reading

  -- the turns of the standings of a type
  turns-at : (kind : ℕ) → kind < length names → AreCleanTurns (map standing_key (in_type kind all))
      (slice_index_or orders kind []) (slice_index_or ranks kind [])
  turns-at kind lt =
      subst (λ keys. AreCleanTurns keys (slice_index_or orders kind [])
      (slice_index_or ranks kind []))
      (keys-of_parts names numbers kind lt read.lists parts read.each
      ∙ ap (λ (rows : List Row). map standing_key (in_type kind (standings names numbers rows)))
      read.whole)
      (turns.turns kind lt)

  known : All (λ row. IsSome (standing_in names numbers row)) body
  known = subst (All (λ row. IsSome (standing_in names numbers row))) read.whole
      (known-of_parts names numbers read.lists parts read.each clear)

  no-candidate : HasNoRepeat (map candidate_group body) (length body)
  no-candidate = one-candidate names numbers body fields known (λ kind lt x.
      once-candidate names numbers body few kind x (turns-at kind lt).candidates)

  no-rank : HasNoRepeat (map rank_group body) (length body)
  no-rank = one-rank names numbers body fields known (λ kind lt x.
      once-rank names numbers body few kind x (slice_index_or orders kind [])
      (slice_index_or ranks kind []) (turns-at kind lt).turns (turns-at kind lt).differ)

  whole : take (length body) body ≡ body
  whole = take_all (length body) body (omega arith)

  -- no row repeats an earlier one
  not-again : (group : Row → ℕ) → HasNoRepeat (map group body) (length body)
      → HasNoRepeat (map group (take (length body) body))
      (length (map group (take (length body) body)))
  not-again group h =
      subst (λ all. HasNoRepeat (map group all) (length (map group all))) (sym whole)
      (subst (HasNoRepeat (map group body)) (sym (length-map body group)) h)

  -- the table of the file is that of the turns
  table-is : (orders ≡ (ranks_table names numbers bytes).orders)
      × (ranks ≡ (ranks_table names numbers bytes).ranks)
  table-is =
      all-turns names numbers body few fields no-candidate no-rank orders ranks turns.orders_size
      turns.ranks_size (λ kind lt. (turns-at kind lt).turns)

  -- so the file has no fault, and the turns are those of its table
  pub clean-file : IsCleanFile names numbers bytes orders ranks
  clean-file = record {
    fault = rw read.header
        (clear-all bytes (length body) (omega arith) (λ some. read.header) none
        (not-again candidate_group no-candidate) (not-again rank_group no-rank));
    orders_are = table-is.0;
    ranks_are = table-is.1;
    sound = table-is-sound names numbers body few fields no-candidate no-rank;
  }
