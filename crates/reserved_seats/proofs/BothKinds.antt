-- The programmes of both kinds of seats, by their indexes.
use Rattle.std.proofs.Common.{◌≡◌, ℕ, ◌+◌, ◌-◌, ◌<◌, ◌≤◌, List, length, map, sym, ap, ◌∙◌, subst, arith, zero-add, ⊎_elim}
use Rattle.std.specs.Prelude.{slice_index, slice_index_or}
use Rattle.std.specs.List.{range_with_len}
use Rattle.std.proofs.lemmas.Bool.{cases_lt}
use Rattle.std.proofs.lemmas.List.{get_or_append_left, get_or-append-add, length-append}
use Rattle.std.proofs.lemmas.List.FromFn.{get_or-map-range_with_len, length-map-range_with_len}
use Rattle.market.specs.declared.programme.Prog.{Prog}
use Rattle.market.specs.Problems.{no_programme}
use Rattle.reserved_seats.specs.Expansion.{both_kinds, reserved_programme}

module _ (programmes : List Prog) (seats : List ℕ) where
  -- a programme, and the same with its reserved seats
  abbrev pub general_at : ℕ → Prog
  general_at p = slice_index_or programmes p no_programme

  abbrev pub reserved_at : ℕ → Prog
  reserved_at p = reserved_programme (general_at p) (slice_index seats p)

  -- there are two for each
  pub length-both : length (both_kinds programmes seats) ≡ length programmes + length programmes
  length-both =
      length-append programmes (map reserved_at (range_with_len 0 (length programmes)))
      ∙ ap (λ n. length programmes + n)
      (length-map-range_with_len reserved_at 0 (length programmes))

  -- the general seats of a programme stand at its own index
  pub both-general : (p : ℕ) → p < length programmes
      → slice_index_or (both_kinds programmes seats) p no_programme ≡ general_at p
  both-general p lt = get_or_append_left programmes
      (map reserved_at (range_with_len 0 (length programmes))) no_programme p lt

  -- its reserved seats stand behind all general ones
  pub both-reserved : (p : ℕ) → p < length programmes
      → slice_index_or (both_kinds programmes seats) (length programmes + p) no_programme
      ≡ reserved_at p
  both-reserved p lt =
      get_or-append-add programmes (map reserved_at (range_with_len 0 (length programmes))) p
      no_programme
      ∙ get_or-map-range_with_len reserved_at 0 (length programmes) p p no_programme lt
      (zero-add p)

  -- what holds of both kinds of each programme holds at each index
  pub both-each : (P : Prog → Type 0) → ((p : ℕ) → p < length programmes → P (general_at p))
      → ((p : ℕ) → p < length programmes → P (reserved_at p))
      → (q : ℕ) → q < length (both_kinds programmes seats)
      → P (slice_index_or (both_kinds programmes seats) q no_programme)
  both-each P generals reserves q lt =
      ⊎_elim
      (λ (below : q < length programmes).
      subst P (sym (both-general q below)) (generals q below))
      (λ (above : length programmes ≤ q).
      let p = q - length programmes in
      let size = length-both in
      let within : p < length programmes = omega arith in
      let at : length programmes + p ≡ q = omega arith in
      subst P (sym (both-reserved p within)
      ∙ ap (λ k. slice_index_or (both_kinds programmes seats) k no_programme) at)
      (reserves p within))
      (cases_lt q (length programmes))
