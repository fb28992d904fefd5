-- A file cut into parts behind line ends.
use Rattle.std.specs.Prelude.{Bool, ◌≡◌, ◌≤◌, ◌<◌, ◌+◌, ◌-◌, ◌*◌, ◌/◌, ◌⊎◌, ◌==◌, ℕ, suc, List, [], ◌∷◌, count_by, filter, map, length, nat_lt, slice_index, take, drop, if◌then◌else◌}
use Rattle.std.specs.List.{range_with_len}
use Rattle.place_base.specs.declared.limits.TheConstants.{LF}
use Rattle.record_files.specs.declared.rows.RowPart.{RowPart}

-- the place stands right behind an LF
pub record FollowsLf (bytes : List ℕ) (place : ℕ) : Type 0 where
  pub behind : 0 < place
  pub lf : slice_index bytes (place - 1) ≡ LF

-- the least place, from one on, that follows an LF, or the end where there is none
pub record IsLineStart (bytes : List ℕ) (from place : ℕ) : Type 0 where
  pub past : from ≤ place
  pub inside : place ≤ length bytes
  pub follows : FollowsLf bytes place ⊎ (place ≡ length bytes)
  pub least : (other : ℕ) → from ≤ other → FollowsLf bytes other → place ≤ other

-- the cuts of so many pieces: at the start, at the end, and between them each at the first line
-- start of its share of the bytes
pub record AreCuts (bytes : List ℕ) (pieces : ℕ) (cuts : ℕ → ℕ) : Type 0 where
  pub first : cuts 0 ≡ 0
  pub last : cuts pieces ≡ length bytes
  pub between : (k : ℕ) → 0 < k → k < pieces
      → IsLineStart bytes (k * length bytes / pieces) (cuts k)

-- how many LFs there are
abbrev pub line_ends : List ℕ → ℕ
line_ends bytes = count_by (λ byte. byte == LF) bytes

-- the part from one place up to another, with the number of its first line
abbrev pub part_between : List ℕ → ℕ → ℕ → RowPart
part_between bytes start end =
    record { start = start; end = end; line = 1 + line_ends (take start bytes) }

-- a part that has bytes
abbrev pub is_full : RowPart → Bool
is_full part = nat_lt part.start part.end

-- the parts between cuts that are not empty
abbrev pub parts_of : List ℕ → ℕ → (ℕ → ℕ) → List RowPart
parts_of bytes pieces cuts =
    filter is_full (map (λ k. part_between bytes (cuts k) (cuts (k + 1))) (range_with_len 0 pieces))

-- the parts of a file in so many pieces
pub record AreParts (bytes : List ℕ) (pieces : ℕ) (parts : List RowPart) : Type 0 where
  pub cuts : ℕ → ℕ
  pub are_cuts : AreCuts bytes pieces cuts
  pub parts_are : parts ≡ parts_of bytes pieces cuts

-- a part that can be read by itself
pub record IsPartOf (bytes : List ℕ) (part : RowPart) : Type 0 where
  pub some : part.start < part.end
  pub inside : part.end ≤ length bytes
  pub line : part.line ≤ length bytes + 1

-- how many bytes stand up to and with the first LF, or all where there is none
abbrev pub first_line : List ℕ → ℕ
first_line [] = 0
first_line (byte ∷ bytes) = if byte == LF then 1 else suc (first_line bytes)

-- the line start from a place on
abbrev pub line_start : List ℕ → ℕ → ℕ
line_start bytes from = from - 1 + first_line (drop (from - 1) bytes)

-- the cut of a number
abbrev pub cut_of : List ℕ → ℕ → ℕ → ℕ
cut_of bytes pieces k =
    if k == 0 then 0 else
    (if k == pieces then length bytes else line_start bytes (k * length bytes / pieces))
