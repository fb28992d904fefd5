-- The parts of the expanded market.
use Rattle.std.proofs.Common.{◌≡◌, ℕ, ◌<◌, List, length, ap, ◌∙◌}
use Rattle.std.specs.Prelude.{[], slice_index_or}
use Rattle.market.specs.declared.programme.Prog.{Prog}
use Rattle.market.specs.Problems.{Problem, IsValid, problem, list_of}
use Rattle.reserved_seats.specs.Reservations.{Reservation}
use Rattle.reserved_seats.specs.Expansion.{FitsMarket, IsListOf, both_kinds, expanded, offered_lists}

-- a market's parts, with programmes of both kinds of seats and lists over offers
pub expanded-made : (m : Problem) (r : Reservation) (types : ℕ) (programmes both : List Prog)
    (lists offered orders ranks : List (List ℕ)) → problem types programmes lists orders ranks ≡ m
    → both ≡ both_kinds programmes r.seats
    → offered ≡ offered_lists (length programmes) r.marked lists
    → problem types both offered orders ranks ≡ expanded m r
unfolding expanded
expanded-made m r types programmes both lists offered orders ranks is_m both_are offered_are =
    let made : problem types both offered orders ranks
    ≡ expanded (problem types programmes lists orders ranks) r
    = λ i. problem types (both_are i) (offered_are i) orders ranks in
    made ∙ ap (λ (x : Problem). expanded x r) is_m

-- the lists of a market that files make are short, and their entries are rows
pub lists-short : (m : Problem) (r : Reservation) → IsValid m → FitsMarket m r → (i : ℕ)
    → i < length m.lists → IsListOf (length m.programmes) (slice_index_or m.lists i [])
unfolding list_of
lists-short m r v fit i lt = record {
  few = fit.entries i lt;
  within = λ k inside. v.list_entries i k lt inside;
}
