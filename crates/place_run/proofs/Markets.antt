-- The parts of three tables make a valid market, since each table keeps its own limits and refers
-- only to the others'
-- entries; and what its placement gives each candidate is one of its programmes.
use Rattle.std.proofs.Common.{◌≡◌, ℕ, ◌<◌, ◌≤◌, List, [], length, get_or, refl, sym, subst, ap, ◌∙◌, arith, Option, Some, Result, Ok, Err, IfOk, ⊎_elim}
use Rattle.std.specs.Prelude.{All, is_none, map}
use Rattle.std.specs.List.{range_with_len}
use Rattle.std.proofs.lemmas.Bool.{cases_lt}
use Rattle.std.proofs.lemmas.List.{get_or_past, length-map}
use Rattle.std.proofs.lemmas.List.Elements.{All-filter, All-get_or}
use Rattle.std.proofs.lemmas.List.FromFn.{get_or-range_with_len, length-map-range_with_len, length-range_with_len}
use Rattle.fixed_seats.specs.Reports.{IsOfEveryStable, Seats, seats_in, unplaced_in}
use Rattle.market.specs.Comparisons.{IsWorstStable}
use Rattle.market.specs.Mechanism.{mechanism_placement}
use Rattle.market.specs.Problems.{IsBar, Problem, IsValid, bar_of, no_programme, problem, kind_of, quota_of, list_of, order_of, ranks_of, place_of}
use Rattle.market.specs.Stability.{held_by, IsPlacement}
use Rattle.market.specs.declared.programme.Prog.{Prog}
use Rattle.market.proofs.Firsts.{place_get}
use Rattle.place_base.specs.declared.limits.TheConstants.{LARGEST_QUOTA, MOST_CANDIDATES, MOST_PROGRAMMES, MOST_TYPES}
use Rattle.programme_table.specs.Table.{Programmes, codes_of, prog_of}
use Rattle.candidate_table.specs.Table.{IsPreferenceList, numbers_of}
use Rattle.rank_lists.specs.Table.{RankTable, ranks_table}
use Rattle.rank_lists.specs.Table.{IsSound}
use Rattle.place_run.specs.Tables.{Tables, problem_of, problem_with}
use Rattle.placement_file.specs.Texts.{placement_text}
use Rattle.reports.specs.FullEntries.{FullMeansFilled}
use Rattle.place_run.specs.Placings.{IsNamed, IsNamedPlacement, IsPlacedOf}
use Rattle.place_run.specs.Problems.{IsProblemOf}
use Rattle.place_run.specs.commands.Base.{base_text, bases_of}
use Rattle.place_run.specs.commands.Fixed.{fixed_of, fixed_text}
use Rattle.place_run.specs.commands.Place.{printed_placement}
use Rattle.place_run.specs.commands.Reasons.{reasons_of, reasons_text}
use Rattle.place_run.specs.declared.placing.Placed.{Placed}
use Rattle.place_run.specs.declared.problem.Problem.{Problem as Named}
use Rattle.place_run.proofs.Headline.{IsMade}

-- a ranks file gives an order to each type
pub types-in-ranks : (names : List (List ℕ)) (numbers bytes : List ℕ)
    → length (ranks_table names numbers bytes).orders ≡ length names
types-in-ranks names numbers bytes = length-map-range_with_len _ 0 (length names)

-- the parts of three tables meet what a market asks
valid-parts : (types : ℕ) (programmes : List Prog) (lists : List (List ℕ)) (table : RankTable)
    → types ≤ MOST_TYPES → length programmes ≤ MOST_PROGRAMMES → length lists ≤ MOST_CANDIDATES
    → All (λ (one : Prog). one.kind < types) programmes
    → All (λ (one : Prog). one.quota ≤ LARGEST_QUOTA) programmes
    → All (λ (one : Prog). IsBar one.bar) programmes
    → All (IsPreferenceList (length programmes)) lists
    → length table.orders ≡ types → table.candidates ≡ length lists → IsSound table
    → IsValid (problem types programmes lists table.orders table.ranks)
unfolding kind_of quota_of bar_of list_of order_of ranks_of
valid-parts types programmes lists table few_types few_programmes few_lists kinds quotas bars wishes
    orders candidates sound =
    record {
      types = omega (arith, few_types);
      programmes = omega (arith, few_programmes);
      candidates = omega (arith, few_lists);
      orders = orders;
      ranks = sound.types ∙ orders;
      kinds = λ p h. All-get_or (λ (one : Prog). one.kind < types) programmes p no_programme h
          kinds;
      quotas = λ p h.
          let few = All-get_or (λ (one : Prog). one.quota ≤ LARGEST_QUOTA) programmes p no_programme
          h
          quotas in omega (arith, few);
      bars = λ p h. All-get_or (λ (one : Prog). IsBar one.bar) programmes p no_programme h bars;
      list_lengths = λ i h. let few = (wish i h).few in omega (arith, few);
      list_entries = λ i k h within. All-get_or (λ p. p < length programmes) (get_or lists i []) k
          0 within (wish i h).within;
      list_distinct = λ i h. (wish i h).distinct;
      order_entries = λ t k h within. subst (λ n. get_or (get_or table.orders t []) k 0 < n)
          candidates (sound.entries t k (known t h) within);
      order_distinct = λ t h. sound.distinct t (known t h);
      rank_lengths = λ t h. sound.beside t (known t h);
      ranks_rise = λ t j k h before within. sound.rise t j k (known t h) before within;
      rank_limits = λ t k h within. sound.limits t k (known t h) within;
    }
  where
    wish : (i : ℕ) → i < length lists → IsPreferenceList (length programmes) (get_or lists i [])
    wish i h = All-get_or (IsPreferenceList (length programmes)) lists i [] h wishes

    known : (t : ℕ) → t < types → t < length table.orders
    known t h = subst (λ n. t < n) (sym orders) h

-- the same of orders and ranks that were given away one by one
pub valid-market : (types : ℕ) (programmes : List Prog) (lists orders ranks : List (List ℕ))
    (table : RankTable)
    → types ≤ MOST_TYPES → length programmes ≤ MOST_PROGRAMMES → length lists ≤ MOST_CANDIDATES
    → All (λ (one : Prog). one.kind < types) programmes
    → All (λ (one : Prog). one.quota ≤ LARGEST_QUOTA) programmes
    → All (λ (one : Prog). IsBar one.bar) programmes
    → All (IsPreferenceList (length programmes)) lists
    → length table.orders ≡ types → table.candidates ≡ length lists → IsSound table
    → orders ≡ table.orders → ranks ≡ table.ranks
    → IsValid (problem types programmes lists orders ranks)
valid-market types programmes lists orders ranks table few_types few_programmes few_lists kinds
    quotas bars wishes counted candidates sound same_orders same_ranks =
    subst (λ v. IsValid (problem types programmes lists v ranks)) (sym same_orders)
    (subst (λ v. IsValid (problem types programmes lists table.orders v)) (sym same_ranks)
    (valid-parts types programmes lists table few_types few_programmes few_lists kinds quotas
    bars wishes counted candidates sound))

-- a market that was built of the parts is theirs
pub built-market : {E : Type 0} (result : Result Problem E) (programmes : Programmes)
    (table : RankTable) (types : ℕ)
    (rows : List Prog) (lists orders ranks : List (List ℕ)) → types ≡ length programmes.names
    → rows ≡ map prog_of programmes.rows
    → orders ≡ table.orders → ranks ≡ table.ranks
    → IfOk result (λ m. m ≡ problem types rows lists orders ranks)
    → IfOk result (λ m. m ≡ problem_with programmes lists table)
unfolding problem_with
built-market (Ok m) programmes table types rows lists orders ranks ts ps os rs same =
    same ∙ ap (λ v. problem v rows lists orders ranks) ts
    ∙ ap (λ v. problem (length programmes.names) v lists orders ranks) ps
    ∙ ap (λ v. problem (length programmes.names) (map prog_of programmes.rows) lists v ranks) os
    ∙ ap (λ v. problem (length programmes.names) (map prog_of programmes.rows) lists table.orders v)
    rs
built-market (Err x) programmes table types rows lists orders ranks ts ps os rs same = tt

-- the lists of a market of three tables
pub lists-of_market : (programmes : Programmes) (lists : List (List ℕ)) (table : RankTable)
    → (problem_with programmes lists table).lists ≡ lists
unfolding problem_with
lists-of_market programmes lists table = refl

-- how many programmes it has
pub programmes-of_market : (programmes : Programmes) (lists : List (List ℕ)) (table : RankTable)
    → length (problem_with programmes lists table).programmes ≡ length (codes_of programmes.rows)
unfolding problem_with
programmes-of_market programmes lists table = length-map programmes.rows prog_of ∙ sym
    (length-map programmes.rows (λ row. row.code))

-- a programme that is held is one of the market's
pub held-within : (m : Problem) (held : List (Option ℕ)) → IsValid m → IsPlacement m held
    → (i p : ℕ) → held_by held i ≡ Some p → p < length m.programmes
unfolding list_of
held-within m held valid placement i p holds =
    let listed : place_of p (get_or m.lists i []) < length (get_or m.lists i []) =
    (placement.acceptable i p holds).listed in
    ⊎_elim (λ (known : i < length m.lists).
    subst (λ q. q < length m.programmes) (place_get p (get_or m.lists i []) 0 listed)
    (valid.list_entries i (place_of p (get_or m.lists i [])) known listed))
    (λ (past : length m.lists ≤ i).
    let empty : get_or m.lists i [] ≡ [] = get_or_past m.lists i [] past in
    let none : 0 ≡ length (get_or m.lists i []) = sym (ap length empty) in
    absurd (omega arith))
    (cases_lt i (length m.lists))

-- the codes and numbers of a market of three tables are one for each programme and candidate
pub is-named : (tables : Tables) (named : Named) → IsProblemOf tables named → IsNamed named
is-named tables named is =
    let lists : named.market.lists ≡ tables.candidates.lists =
    ap (λ (v : Problem). v.lists) is.market
    ∙ lists-of_market tables.programmes tables.candidates.lists tables.ranks in
    record {
      programmes = ap (λ (v : Programmes). length (codes_of v.rows)) is.programmes
          ∙ sym (programmes-of_market tables.programmes tables.candidates.lists tables.ranks)
          ∙ ap (λ (v : Problem). length v.programmes) (sym is.market);
      candidates = length-map named.numbers (λ line. line.0) ∙ ap length is.numbers
          ∙ sym is.paired ∙ ap length (sym lists);
    }

-- so are those of the mechanism's placement
pub named-placement : (tables : Tables) (placed : Placed) → IsPlacedOf tables placed
    → IsNamedPlacement placed.problem placed.placement
named-placement tables placed is = record {
  valid = is.problem.valid;
  named = is-named tables placed.problem is.problem;
  candidates = is.worst.stable.placement.candidates;
  programmes = held-within placed.problem.market placed.placement is.problem.valid
      is.worst.stable.placement;
}

-- what is printed of the mechanism's placement, by its names and its market, is made of the tables
pub made : (print : List ℕ → List ℕ → Problem → List (Option ℕ) → List ℕ)
    (make : Tables → List ℕ) (tables : Tables) (placed : Placed) (text : List ℕ)
    → IsPlacedOf tables placed
    → make tables ≡ print (codes_of tables.programmes.rows) (numbers_of tables.candidates.numbers)
    (problem_of tables) (mechanism_placement (problem_of tables))
    → text ≡ print (codes_of placed.problem.programmes.rows) (numbers_of placed.problem.numbers)
    placed.problem.market placed.placement
    → IsMade make tables text
made print make tables placed text is same printed =
    let m = placed.problem.market in
    let rows = placed.problem.programmes in
    let numbers = placed.problem.numbers in
    let worst = subst (IsWorstStable m) is.placement is.worst in
    record {
      market = subst IsValid is.problem.market is.problem.valid;
      worst = subst (λ (v : Problem). IsWorstStable v (mechanism_placement v)) is.problem.market
          worst;
      made = printed
          ∙ ap (λ v. print (codes_of rows.rows) (numbers_of numbers) m v) is.placement
          ∙ ap (λ (v : Problem). print (codes_of rows.rows) (numbers_of numbers) v
          (mechanism_placement v)) is.problem.market
          ∙ ap (λ (v : Programmes). print (codes_of v.rows) (numbers_of numbers) (problem_of tables)
          (mechanism_placement (problem_of tables))) is.problem.programmes
          ∙ ap (λ v. print (codes_of tables.programmes.rows) (numbers_of v) (problem_of tables)
          (mechanism_placement (problem_of tables))) is.problem.numbers
          ∙ sym same;
    }

-- the three texts
pub placement-made : (tables : Tables) (placed : Placed) (text : List ℕ) → IsPlacedOf tables placed
    → text ≡ placement_text (codes_of placed.problem.programmes.rows)
    (numbers_of placed.problem.numbers) placed.placement
    → IsMade printed_placement tables text
unfolding printed_placement
placement-made tables placed text is printed =
    made (λ programmes numbers m held. placement_text programmes numbers held) printed_placement
    tables
    placed text is refl printed

-- that of the base ranks
pub bases-made : (tables : Tables) (placed : Placed) (text : List ℕ) → IsPlacedOf tables placed
    → text ≡ base_text (codes_of placed.problem.programmes.rows) placed.problem.market
    placed.placement
    → IsMade bases_of tables text
unfolding bases_of
bases-made tables placed text is printed =
    made (λ programmes numbers m held. base_text programmes m held) bases_of tables placed text is
    refl printed

-- and that of the reasons
pub reasons-made : (tables : Tables) (placed : Placed) (text : List ℕ) → IsPlacedOf tables placed
    → text ≡ reasons_text (codes_of placed.problem.programmes.rows)
    (numbers_of placed.problem.numbers) placed.problem.market placed.placement
    → IsMade reasons_of tables text
unfolding reasons_of
reasons-made tables placed text is printed =
    made reasons_text reasons_of tables placed text is refl printed

-- and that of what it leaves and fills, where every stable placement does the same
pub fixed-made : (tables : Tables) (placed : Placed) (seats : Seats) (text : List ℕ)
    → IsPlacedOf tables placed → IsOfEveryStable placed.problem.market seats
    → text ≡ fixed_text (codes_of placed.problem.programmes.rows)
    (numbers_of placed.problem.numbers) seats
    → IsMade fixed_of tables text
unfolding fixed_of
fixed-made tables placed seats text is every printed =
    made (λ programmes numbers m held. fixed_text programmes numbers (seats_in m held)) fixed_of
    tables placed text is refl
    (printed ∙ ap (fixed_text (codes_of placed.problem.programmes.rows)
    (numbers_of placed.problem.numbers)) (every.every placed.placement is.worst.stable))

pub fixed-every : (tables : Tables) (placed : Placed) (seats : Seats) → IsPlacedOf tables placed
    → IsOfEveryStable placed.problem.market seats
    → IsOfEveryStable (problem_of tables)
    (seats_in (problem_of tables) (mechanism_placement (problem_of tables)))
fixed-every tables placed seats is every =
    subst (λ (v : Problem). IsOfEveryStable v (seats_in v (mechanism_placement v)))
    is.problem.market
    (subst (IsOfEveryStable placed.problem.market)
    (every.every placed.placement is.worst.stable
    ∙ ap (seats_in placed.problem.market) is.placement) every)

-- those whom it leaves without a programme are candidates of the market
pub fixed-candidates : (tables : Tables) (placed : Placed) (seats : Seats)
    → IsPlacedOf tables placed → IsOfEveryStable placed.problem.market seats
    → All (λ i. i < length (numbers_of placed.problem.numbers)) seats.unplaced
unfolding unplaced_in
fixed-candidates tables placed seats is every =
    let held = placed.placement in
    let count = length (numbers_of placed.problem.numbers) in
    let named = named-placement tables placed is in
    let size : length held ≡ count = named.candidates ∙ sym named.named.candidates in
    subst (λ (v : Seats). All (λ i. i < count) v.unplaced)
    (sym (every.every held is.worst.stable))
    (All-filter (λ i. is_none (held_by held i)) (λ i. i < count) (range_with_len 0 (length held))
    (λ k d within.
    let few : k < length held = omega (arith, length-range_with_len 0 (length held), within) in
    let at = get_or-range_with_len 0 (length held) k d few in
    omega (arith, at, few, size)))

pub fixed-programmes : (tables : Tables) (placed : Placed) (seats : Seats)
    → IsPlacedOf tables placed → IsOfEveryStable placed.problem.market seats
    → length seats.held ≡ length (codes_of placed.problem.programmes.rows)
fixed-programmes tables placed seats is every =
    every.programmes ∙ sym (named-placement tables placed is).named.programmes

-- what holds of the mechanism's placement holds of that of the tables
pub filled-in : (tables : Tables) (placed : Placed) → IsPlacedOf tables placed
    → FullMeansFilled placed.problem.market placed.placement
    → FullMeansFilled (problem_of tables) (mechanism_placement (problem_of tables))
filled-in tables placed is filled =
    subst (λ (v : Problem). FullMeansFilled v (mechanism_placement v)) is.problem.market
    (subst (FullMeansFilled placed.problem.market) is.placement filled)
