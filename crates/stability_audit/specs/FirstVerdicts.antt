-- The verdict on a placement: the first of all that is to be said of it, by tests.
use Rattle.std.specs.Prelude.{ℕ, Bool, true, false, ◌&&◌, ◌||◌, nat_lt, if◌then◌else◌, List, [], ◌∷◌, ◌++◌, length, map, filter, Option, Some, None}
use Rattle.std.specs.List.{flat_map, range_with_len}
use Rattle.market.specs.BaseRanks.{base_rank}
use Rattle.market.specs.Counting.{count_of}
use Rattle.market.specs.Problems.{Problem, admits, kind_of, list_of, place_of, quota_of, rank_of}
use Rattle.market.specs.Stability.{held_by}
use Rattle.stability_audit.specs.declared.verdict.Verdict.{Verdict}
use Rattle.stability_audit.specs.declared.verdict.Verdict.TheVariants.{Stable, OverQuota, NotAcceptable, Blocking}

-- whether a programme is acceptable to a candidate: listed, and admitting the candidate
abbrev pub is_acceptable : Problem → ℕ → ℕ → Bool
is_acceptable m i p = nat_lt (place_of p (list_of m i)) (length (list_of m i)) && admits m p i

-- whether what a candidate holds is acceptable, or nothing
abbrev pub is_kept : Problem → ℕ → Option ℕ → Bool
is_kept m i None = true
is_kept m i (Some p) = is_acceptable m i p

-- whether one rank is better than another: it is the lesser number
abbrev pub is_better : Option ℕ → Option ℕ → Bool
is_better (Some a) (Some b) = nat_lt a b
is_better (Some a) None = false
is_better None b = false

-- whether p is preferred to what is held
abbrev pub is_preferred : List ℕ → ℕ → Option ℕ → Bool
is_preferred list p None = nat_lt (place_of p list) (length list)
is_preferred list p (Some q) =
    nat_lt (place_of p list) (place_of q list) && nat_lt (place_of q list) (length list)

-- whether a programme has a free seat, or a base rank that is worse than the candidate's rank
abbrev pub has_room : Problem → List (Option ℕ) → ℕ → ℕ → Bool
has_room m held i p =
    nat_lt (count_of p held) (quota_of m p)
    || is_better (rank_of m (kind_of m p) i) (base_rank m held p)

-- whether a candidate and a programme block the placement
abbrev pub blocks : Problem → List (Option ℕ) → ℕ → ℕ → Bool
blocks m held i p =
    is_acceptable m i p
    && (is_preferred (list_of m i) p (held_by held i) && has_room m held i p)

-- what is said of a programme: that it is over its quota, or nothing
abbrev pub said_of_programme : Problem → List (Option ℕ) → ℕ → List Verdict
said_of_programme m held p =
    if nat_lt (quota_of m p) (count_of p held) then OverQuota p ∷ [] else []

-- what is said of a candidate's programme: that it is not acceptable, or nothing
abbrev pub said_of_candidate : Problem → List (Option ℕ) → ℕ → List Verdict
said_of_candidate m held i = if is_kept m i (held_by held i) then [] else NotAcceptable i ∷ []

-- what is said of a candidate's list: with which entries the candidate blocks
abbrev pub said_of_list : Problem → List (Option ℕ) → ℕ → List Verdict
said_of_list m held i = map (λ p. Blocking i p) (filter (blocks m held i) (list_of m i))

-- all that is said: of the programmes, of what the candidates hold, and of their lists
unfoldable pub all_said : Problem → List (Option ℕ) → List Verdict
all_said m held =
    flat_map (said_of_programme m held) (range_with_len 0 (length m.programmes))
    ++ (flat_map (said_of_candidate m held) (range_with_len 0 (length m.lists))
    ++ flat_map (said_of_list m held) (range_with_len 0 (length m.lists)))

-- the first of these, or that the placement is stable where nothing is said
abbrev pub first_said : List Verdict → Verdict
first_said [] = Stable
first_said (verdict ∷ more) = verdict

-- the verdict
abbrev pub verdict_of : Problem → List (Option ℕ) → Verdict
verdict_of m held = first_said (all_said m held)
