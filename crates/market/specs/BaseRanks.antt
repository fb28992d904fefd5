-- The base rank of a programme: the worst rank among its holders.
use Rattle.std.specs.Prelude.{ℕ, if◌then◌else◌, nat_lt, List, [], ◌∷◌, length, map, filter, Option, Some, None}
use Rattle.std.specs.List.{range_with_len}
use Rattle.market.specs.Counting.{is_programme}
use Rattle.market.specs.Problems.{Problem, kind_of, rank_of}
use Rattle.market.specs.Stability.{held_by}

-- the candidates who hold p
abbrev pub holders_of : List (Option ℕ) → ℕ → List ℕ
holders_of held p = filter (λ i. is_programme p (held_by held i)) (range_with_len 0 (length held))

-- the worse of two ranks; a rank is worse than none
abbrev pub worse_of : Option ℕ → Option ℕ → Option ℕ
worse_of None b = b
worse_of (Some a) None = Some a
worse_of (Some a) (Some b) = if nat_lt a b then Some b else Some a

-- the worst of these ranks, or none where there is none
abbrev pub worst_of : List (Option ℕ) → Option ℕ
worst_of [] = None
worst_of (rank ∷ ranks) = worse_of rank (worst_of ranks)

-- the base rank of p: the worst rank among its holders, or none where no holder has one
unfoldable pub base_rank : Problem → List (Option ℕ) → ℕ → Option ℕ
base_rank m held p = worst_of (map (rank_of m (kind_of m p)) (holders_of held p))
