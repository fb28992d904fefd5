-- How the core state that words show changes with one word, and how a word is read.
use Rattle.std.proofs.Common.{◌≡◌, ℕ, zero, suc, ◌+◌, ◌-◌, ◌*◌, ◌/◌, ◌%◌, ◌<◌, ◌≤◌, Bool, true, false, List, length, map, take, drop, set, get_or, bit_or, eqb, eq-eqb, ne_eqb, sym, refl, ap, ◌∙◌, arith, get_or-set_same, get_or-set_other}
use Rattle.std.proofs.lemmas.Bool.{eqb-true, eqb-false}
use Rattle.std.proofs.lemmas.List.{map-set, drop-set-lt, drop-set-add, get_or-drop, get_or-take, take-set-le}
use Rattle.std.proofs.lemmas.Nat.{or_shr, or_mod}
use Rattle.std.proofs.Math.Seq.{take-set-lt}
use Rattle.std.proofs.Math.ListN.{get_or-map}
use Rattle.std.specs.Int.Bits.{or_zero_r}
use Rattle.market.specs.Dictatorships.{Dictatorship}
use Rattle.interleaving_core.specs.declared.parts.Cell.{Cell}
use Rattle.interleaving_core.specs.declared.parts.Cell.TheVariants.{Empty, Posted, Committed}
use Rattle.interleaving_core.specs.Core.{View, Core, turn_count, seats_of, cell_at}
use Rattle.word_rule.specs.Layout.{posted_at, committed_at, is_held, cell_of, cell_by, core_of, programme_count}

-- the word of a posted cell
pub shows_posted : (j : ℕ) → cell_of (posted_at j) ≡ Posted j
shows_posted j =
    let a : eqb (2 * j + 1) 0 ≡ false = ne_eqb (2 * j + 1) 0 (λ e. omega arith) in
    let b : eqb ((2 * j + 1) % 2) 1 ≡ true = eq-eqb ((2 * j + 1) % 2) 1 (omega arith) in
    let h : (2 * j + 1) / 2 ≡ j = omega arith in
    λ k. cell_by (a k) (b k) (h k)

-- the word of a committed cell
pub shows_committed : (j : ℕ) → cell_of (committed_at j) ≡ Committed j
shows_committed j =
    let a : eqb (2 * j + 2) 0 ≡ false = ne_eqb (2 * j + 2) 0 (λ e. omega arith) in
    let b : eqb ((2 * j + 2) % 2) 1 ≡ false = ne_eqb ((2 * j + 2) % 2) 1 (λ e. omega arith) in
    let h : (2 * j + 2) / 2 - 1 ≡ j = omega arith in
    (λ k. cell_by (a k) (b k) ((2 * j + 2) / 2)) ∙ ap Committed h

-- the place of a cell, 0 where it has none
abbrev pub place_in : Cell → ℕ
place_in Empty = 0
place_in (Posted j) = j
place_in (Committed j) = j

-- a word is small where the place of its cell is
pub shows_small : (word : ℕ) → word ≤ 2 * place_in (cell_of word) + 2
shows_small word = by (eqb word 0) (eqb (word % 2) 1) refl refl
  where
    by : (a b : Bool) → eqb word 0 ≡ a → eqb (word % 2) 1 ≡ b
        → word ≤ 2 * place_in (cell_by a b (word / 2)) + 2
    by true b z o = let e = eqb-true word 0 z in omega arith
    by false true z o = omega arith
    by false false z o = let p = eqb-false (word % 2) 1 o in let q = eqb-false word 0 z in
        omega arith

-- the mark's word once it was taken: its number stays, and it is held
pub or_one : (n : ℕ) → (bit_or n 1 / 2 ≡ n / 2) × (is_held (bit_or n 1) ≡ true)
or_one n = (
  or_shr n 1 1 ∙ or_zero_r (n / 2),
  eq-eqb (bit_or n 1 % 2) 1 (or_mod n 1 1 ∙ low (n % 2) (omega arith)),
)
  where
    low : (r : ℕ) → r < 2 → bit_or r 1 ≡ 1
    low zero l = refl
    low (suc zero) l = refl
    low (suc (suc r)) l = absurd (omega arith)

module _ (d : Dictatorship) (words : List ℕ) (views : List View) where
  abbrev m : ℕ
  m = programme_count d

  abbrev t : ℕ
  t = turn_count d

  abbrev old : Core
  old = core_of d words views

  -- a seat count is read from its word
  pub reads_seats : (i p : ℕ) → i ≡ 2 + p → p < m → seats_of old p ≡ get_or words i 0
  reads_seats i p is h =
      get_or-take m (drop 2 words) p 0 h
      ∙ (get_or-drop 2 words p 0 ∙ ap (λ (z : ℕ). get_or words z 0) (sym is))

  -- a word of flags is read where it stands
  pub reads_flags : (i group : ℕ) → i ≡ 2 + m + t + group
      → get_or old.flags group 0 ≡ get_or words i 0
  reads_flags i group is =
      get_or-drop (2 + m + t) words group 0 ∙ ap (λ (z : ℕ). get_or words z 0) (sym is)

  -- a cell is read from its word
  pub reads_cell : (i k : ℕ) → i ≡ 2 + m + k → k < t → cell_at old k ≡ cell_of (get_or words i 0)
  reads_cell i k is inside =
      get_or-map cell_of (take t (drop (2 + m) words)) k 0
      ∙ (ap cell_of (get_or-take t (drop (2 + m) words) k 0 inside ∙ get_or-drop (2 + m) words k 0)
      ∙ ap (λ (z : ℕ). cell_of (get_or words z 0)) (sym is))

  -- words that show these parts show the core state of them
  shows : (ws : List ℕ) (n mark : ℕ) (seats : List ℕ) (cells : List Cell)
      (flags : List ℕ) → get_or ws 0 0 ≡ n → get_or ws 1 0 ≡ mark → take m (drop 2 ws) ≡ seats
      → map cell_of (take t (drop (2 + m) ws)) ≡ cells → drop (2 + m + t) ws ≡ flags
      → core_of d ws views ≡ record old {
        claim_number = n;
        mark_held = is_held mark;
        mark_number = mark / 2;
        seats = seats;
        cells = cells;
        flags = flags;
      }
  shows ws n mark seats cells flags a b s c f =
      λ z. record old {
        claim_number = a z;
        mark_held = is_held (b z);
        mark_number = b z / 2;
        seats = s z;
        cells = c z;
        flags = f z;
      }

  -- what stands behind the word i stays
  cells_stay : (i n : ℕ) → i < 2 + m
      → map cell_of (take t (drop (2 + m) (set words i n))) ≡ old.cells
  cells_stay i n l =
      ap (λ (xs : List ℕ). map cell_of (take t xs)) (drop-set-lt (2 + m) words i n l)

  flags_stay : (i n : ℕ) → i < 2 + m + t → drop (2 + m + t) (set words i n) ≡ old.flags
  flags_stay i n l = drop-set-lt (2 + m + t) words i n l

  -- the claim word changes the claim number
  pub writes_claim : (n : ℕ) → 2 ≤ length words
      → core_of d (set words 0 n) views ≡ record old { claim_number = n }
  writes_claim n wide =
      shows (set words 0 n) n (get_or words 1 0) old.seats old.cells old.flags
      (get_or-set_same words 0 n 0 (omega arith))
      (get_or-set_other words 0 1 n 0 (λ e. omega arith))
      (ap (take m) (drop-set-lt 2 words 0 n (omega arith))) (cells_stay 0 n (omega arith))
      (flags_stay 0 n (omega arith))

  -- the mark's word changes the mark
  pub writes_mark : (n : ℕ) → 2 ≤ length words
      → core_of d (set words 1 n) views ≡ record old { mark_held = is_held n; mark_number = n / 2 }
  writes_mark n wide =
      shows (set words 1 n) (get_or words 0 0) n old.seats old.cells old.flags
      (get_or-set_other words 1 0 n 0 (λ e. omega arith))
      (get_or-set_same words 1 n 0 (omega arith))
      (ap (take m) (drop-set-lt 2 words 1 n (omega arith))) (cells_stay 1 n (omega arith))
      (flags_stay 1 n (omega arith))

  -- a word behind the mark changes a seat count
  pub writes_seats : (i p n : ℕ) → i ≡ 2 + p → p < m
      → core_of d (set words i n) views ≡ record old { seats = set old.seats p n }
  writes_seats i p n is inside =
      shows (set words i n) (get_or words 0 0) (get_or words 1 0) (set old.seats p n) old.cells
      old.flags
      (get_or-set_other words i 0 n 0 (λ e. omega arith))
      (get_or-set_other words i 1 n 0 (λ e. omega arith))
      (ap (λ (z : ℕ). take m (drop 2 (set words z n))) is
      ∙ (ap (take m) (drop-set-add 2 words p n) ∙ take-set-lt m (drop 2 words) p n inside))
      (cells_stay i n (omega arith)) (flags_stay i n (omega arith))

  -- a word behind the seat counts changes a cell
  pub writes_cell : (i k w : ℕ) (c : Cell) → i ≡ 2 + m + k → k < t → cell_of w ≡ c
      → core_of d (set words i w) views ≡ record old { cells = set old.cells k c }
  writes_cell i k w c is inside is_cell =
      shows (set words i w) (get_or words 0 0) (get_or words 1 0) old.seats (set old.cells k c)
      old.flags
      (get_or-set_other words i 0 w 0 (λ e. omega arith))
      (get_or-set_other words i 1 w 0 (λ e. omega arith))
      (ap (λ (z : ℕ). take m (drop 2 (set words z w)))
      (let behind : i ≡ 2 + (m + k) = omega arith in behind)
      ∙ (ap (take m) (drop-set-add 2 words (m + k) w)
      ∙ take-set-le m (drop 2 words) (m + k) w (omega arith)))
      (ap (λ (z : ℕ). map cell_of (take t (drop (2 + m) (set words z w)))) is
      ∙ (ap (λ (xs : List ℕ). map cell_of (take t xs)) (drop-set-add (2 + m) words k w)
      ∙ (ap (map cell_of) (take-set-lt t (drop (2 + m) words) k w inside)
      ∙ (map-set cell_of (take t (drop (2 + m) words)) k w
      ∙ ap (λ z. set old.cells k z) is_cell))))
      (flags_stay i w (omega arith))

  -- a word behind the cells changes a word of flags
  pub writes_flags : (i group w : ℕ) → i ≡ 2 + m + t + group
      → core_of d (set words i w) views ≡ record old { flags = set old.flags group w }
  writes_flags i group w is =
      shows (set words i w) (get_or words 0 0) (get_or words 1 0) old.seats old.cells
      (set old.flags group w)
      (get_or-set_other words i 0 w 0 (λ e. omega arith))
      (get_or-set_other words i 1 w 0 (λ e. omega arith))
      (ap (λ (z : ℕ). take m (drop 2 (set words z w)))
      (let behind : i ≡ 2 + (m + t + group) = omega arith in behind)
      ∙ (ap (take m) (drop-set-add 2 words (m + t + group) w)
      ∙ take-set-le m (drop 2 words) (m + t + group) w (omega arith)))
      (ap (λ (z : ℕ). map cell_of (take t (drop (2 + m) (set words z w))))
      (let behind : i ≡ 2 + m + (t + group) = omega arith in behind)
      ∙ (ap (λ (xs : List ℕ). map cell_of (take t xs)) (drop-set-add (2 + m) words (t + group) w)
      ∙ ap (map cell_of) (take-set-le t (drop (2 + m) words) (t + group) w (omega arith))))
      (ap (λ (z : ℕ). drop (2 + m + t) (set words z w)) is
      ∙ drop-set-add (2 + m + t) words group w)
