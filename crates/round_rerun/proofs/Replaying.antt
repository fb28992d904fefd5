-- The rounds so far, where each round runs again only what the last cut changed.
use Rattle.std.proofs.Common.{◌≡◌, ℕ, zero, suc, ◌+◌, ◌-◌, ◌*◌, ◌<◌, ◌≤◌, List, [], length, Option, Some, None, refl, sym, ap, ◌∙◌, subst, ⊎_elim, arith, get_or, replicate}
use Rattle.std.specs.Prelude.{slice_index_or, unwrap_or, Result, Ok, Err}
use Rattle.std.specs.Result.{IfErr}
use Rattle.std.proofs.lemmas.Bool.{cases_lt}
use Rattle.std.proofs.lemmas.List.{get_or-replicate}
use Rattle.market.specs.declared.limits.TheConstants.{MAX_TYPES, MAX_CANDIDATES}
use Rattle.market.specs.Problems.{Problem, IsValid, order_of}
use Rattle.market.specs.Counting.{sum_below, HasRisenWithin}
use Rattle.market.specs.Mechanism.{tentative, whole_cuts, cuts_after, several_count, best_programmes, entries_left, mechanism_placement, mechanism_rounds, mechanism_cuts, cuts_in, several_in, cutting_rounds}
use Rattle.market.specs.Choices.{IsRound, held_in_table, empty_table, best_programmes_in}
use Rattle.market.specs.Reruns.{first_changed, changed_turn, first_run, round_turns, placement_turns, IsRunUpto}
use Rattle.market.proofs.Counts.{sum_same}
use Rattle.market.proofs.Plain.{IsRoundsUpto, IsRoundsUpto-none, IsRoundsUpto-more, rounds-le, rounds-last, rounds-fall, sum_next}
use Rattle.market.proofs.Reruns.{first-le}
use Rattle.market.proofs.Replays.{round-cuts, round-count, round-best_programmes, round-changed, run-none, run-kept, empty_table-count}
use Rattle.round_rerun.specs.Runs.{first_turn_of, run_turns}

-- the rounds so far: their cuts, the table, the turns that the next one runs, and those run
pub record IsReplayUpto (m : Problem) (r : ℕ) (cuts : List ℕ) (total : ℕ) (table : List (List
    (Option ℕ))) (firsts : List (Option ℕ)) (done : ℕ) : Type 0 where
  pub rounds : IsRoundsUpto m r cuts total
  pub types : length table ≡ m.types
  pub first : (t : ℕ) → t < m.types → first_turn_of m firsts t ≡ first_run m r t
  pub kept : (t : ℕ) → t < m.types → IsRunUpto m cuts t (first_run m r t) (slice_index_or table t
      [])
  pub counted : done ≡ sum_below (round_turns m) r
  pub few : done ≤ r * (MAX_TYPES * MAX_CANDIDATES)

-- the first round runs all turns
first_run-zero : (m : Problem) (t : ℕ) → first_run m 0 t ≡ 0
unfolding first_run
first_run-zero m t = refl

-- a later round runs those from the first that the last cuts changed
first_run-suc : (m : Problem) (r t : ℕ) → first_run m (r + 1) t ≡ first_changed m (tentative m
    (cuts_after m r)) (cuts_after m r) t
unfolding first_run
first_run-suc m r t = let e : r + 1 ≡ suc r = omega arith in ap (λ (n : ℕ). first_run m n t) e

-- the first turn to run is at most the number of turns
first_run-le : (m : Problem) (r t : ℕ) → first_run m r t ≤ length (order_of m t)
first_run-le m zero t = let e = first_run-zero m t in omega arith
first_run-le m (suc r) t =
    let n : r + 1 ≡ suc r = omega arith in
    let e = ap (λ (k : ℕ). first_run m k t) n in
    let s = first_run-suc m r t in
    let le = first-le m (tentative m (cuts_after m r)) (cuts_after m r) t in
    omega arith

-- before the first round
pub replay-none : (m : Problem) → IsValid m → (cuts : List ℕ) (table : List (List (Option ℕ)))
    (firsts : List (Option ℕ)) → cuts ≡ whole_cuts m → table ≡ empty_table m
    → firsts ≡ replicate MAX_TYPES (Some 0) → IsReplayUpto m 0 cuts 0 table firsts 0
replay-none m v cuts table firsts ec et ef =
    let few = v.types in
    record {
      rounds = IsRoundsUpto-none m cuts ec;
      types = empty_table-count m table et;
      first = λ t l. ap (λ (o : Option ℕ). unwrap_or o (length (order_of m t))) (ap (λ (xs : List
          (Option ℕ)). get_or xs t None) ef ∙ get_or-replicate {A = Option ℕ} MAX_TYPES t (Some 0)
          None (omega arith)) ∙ sym (first_run-zero m t);
      kept = λ t l. subst (λ (k : ℕ). IsRunUpto m cuts t k (slice_index_or table t [])) (sym
          (first_run-zero m t)) (run-none m cuts t table et l);
      counted = refl;
      few = omega arith;
    }

-- the first turns to run are turns, or past the last
pub replay-within : (m : Problem) (r : ℕ) (cuts : List ℕ) (total : ℕ) (table : List (List (Option
    ℕ))) (firsts : List (Option ℕ)) (done : ℕ) → IsReplayUpto m r cuts total table firsts done
    → (t : ℕ) → t < m.types → first_turn_of m firsts t ≤ length (order_of m t)
replay-within m r cuts total table firsts done u t l = let e = u.first t l in let le = first_run-le
    m r t in omega arith

-- the turns that a round runs are those of the definition
turns-are : (m : Problem) (r : ℕ) (cuts : List ℕ) (total : ℕ) (table : List (List (Option ℕ)))
    (firsts : List (Option ℕ)) (done : ℕ) → IsReplayUpto m r cuts total table firsts done
    → run_turns m firsts ≡ round_turns m r
unfolding run_turns round_turns
turns-are m r cuts total table firsts done u = sum_same
    (λ t. length (order_of m t) - first_turn_of m
    firsts t) (λ t. length (order_of m t) - first_run m r t) m.types (λ t l. ap (λ (k : ℕ). length
    (order_of m t) - k) (u.first t l))

-- the turns of one round more
pub replay-done : (m : Problem) (r : ℕ) (cuts : List ℕ) (total : ℕ) (table : List (List (Option
    ℕ))) (firsts : List (Option ℕ)) (done n : ℕ) → IsReplayUpto m r cuts total table firsts done
    → n ≡ run_turns m firsts → done + n ≡ sum_below (round_turns m) (r + 1)
replay-done m r cuts total table firsts done n u e = sum_next (round_turns m) r done n u.counted (e
    ∙ turns-are m r cuts total table firsts done u)

-- a round that cuts
pub replay-more : (m : Problem) → IsValid m → (r : ℕ) (cuts next : List ℕ) (total count : ℕ) (table
    more : List (List (Option ℕ))) (firsts then' : List (Option ℕ)) (done n : ℕ)
    → IsReplayUpto m r cuts total table firsts done → IsRound m cuts more
    → n ≡ run_turns m firsts → n ≤ MAX_TYPES * MAX_CANDIDATES
    → next ≡ cuts_in m (held_in_table more) cuts → count ≡ several_in m (held_in_table more)
    → ((t : ℕ) → t < MAX_TYPES → slice_index_or then' t None ≡ changed_turn m (held_in_table more)
    cuts t) → (count ≡ 0 → ⊥) → IsReplayUpto m (r + 1) next (total + count) more then' (done + n)
replay-more m v r cuts next total count table more firsts then' done n u round en fn ec es ef nz =
    let at = u.rounds.at in
    let cut = ec ∙ round-cuts m v cuts more round in
    let first = λ (t : ℕ). ap (λ (xs : List ℕ). first_changed m (tentative m xs) xs t) at
    ∙ sym (first_run-suc m r t) in
    let few = u.few in
    record {
      rounds = IsRoundsUpto-more m r total count cuts next u.rounds cut (es
          ∙ round-count m cuts more round) nz;
      types = round.types;
      first = λ t l. ap (λ (o : Option ℕ). unwrap_or o (length (order_of m t)))
          (ef t (omega (arith, v.types)))
          ∙ round-changed m v cuts more t round l ∙ first t;
      kept = λ t l.
          subst (λ (k : ℕ). IsRunUpto m next t k (slice_index_or more t [])) (first t)
          (subst (λ (xs : List ℕ). IsRunUpto m xs t (first_changed m (tentative m cuts) cuts t)
          (slice_index_or more t [])) (sym cut)
          (run-kept m v cuts more t round l));
      counted = replay-done m r cuts total table firsts done n u en;
      few = omega arith;
    }

-- what holds whatever the result is holds where it is an error
pub err_too : {T E : Type 0} (r : Result T E) (P : Type 0) → P → IfErr r (λ _. P)
err_too (Ok x) P p = tt
err_too (Err e) P p = p

-- fewer terms have a sum that is no larger
pub sum_fewer : (f : ℕ → ℕ) (k n : ℕ) → k ≤ n → sum_below f k ≤ sum_below f n
sum_fewer f k zero l =
    let none : k ≡ 0 = omega arith in
    let same = ap (sum_below f) none in
    omega arith
sum_fewer f k (suc n) l =
    ⊎_elim
    (λ (less : k < suc n). let few = sum_fewer f k n (omega arith) in omega arith)
    (λ (past : suc n ≤ k).
    let all : k ≡ suc n = omega arith in
    let same = ap (sum_below f) all in
    omega arith)
    (cases_lt k (suc n))

-- the turns run so far, and those of this round, are no more than the placement has
replay-short : (m : Problem) (r : ℕ) (cuts : List ℕ) (total : ℕ) (table : List (List (Option
    ℕ))) (firsts : List (Option ℕ)) (done : ℕ) → IsReplayUpto m r cuts total table firsts done
    → done + run_turns m firsts ≤ placement_turns m
unfolding placement_turns mechanism_rounds
replay-short m r cuts total table firsts done u =
    let this = replay-done m r cuts total table firsts done (run_turns m firsts) u refl in
    let past = rounds-le m r total cuts u.rounds in
    let fewer = sum_fewer (round_turns m) (r + 1) (cutting_rounds m + 1) (omega arith) in
    omega arith

-- so a counter that has risen by the turns run so far, and within this round by no more than it
-- has, has risen by no more than the placement has
pub replay-risen : (m : Problem) (r : ℕ) (cuts : List ℕ) (total : ℕ) (table : List (List (Option
    ℕ))) (firsts : List (Option ℕ)) (done start before after : ℕ)
    → IsReplayUpto m r cuts total table firsts done → before ≡ start + done
    → HasRisenWithin before after (run_turns m firsts)
    → HasRisenWithin start after (placement_turns m)
replay-risen m r cuts total table firsts done start before after u steps (least, most) =
    let short = replay-short m r cuts total table firsts done u in (omega arith, omega arith)

-- the next round starts with fewer entries
pub replay-fall : (m : Problem) → IsValid m → (cuts next : List ℕ) (count : ℕ) (more : List (List
    (Option ℕ))) → IsRound m cuts more → next ≡ cuts_in m (held_in_table more) cuts
    → count ≡ several_in m (held_in_table more) → (count ≡ 0 → ⊥)
    → entries_left m next < entries_left m cuts
replay-fall m v cuts next count more round ec es nz = rounds-fall m count cuts next (ec
    ∙ round-cuts m v cuts more round) (es ∙ round-count m cuts more round) nz

-- where nobody was cut the rounds are over
pub record IsOutcome (m : Problem) (held : List (Option ℕ)) (rounds cuts turns : ℕ) : Type 0 where
  pub placement : held ≡ mechanism_placement m
  pub rounds' : rounds ≡ mechanism_rounds m
  pub cuts' : cuts ≡ mechanism_cuts m
  pub turns' : turns ≡ placement_turns m

-- what the last round gives is what the mechanism gives
pub replay-last : (m : Problem) → IsValid m → (r : ℕ) (cuts : List ℕ) (total count : ℕ) (table more
    : List (List (Option ℕ))) (firsts : List (Option ℕ)) (done n : ℕ) (held : List (Option ℕ))
    → IsReplayUpto m r cuts total table firsts done → IsRound m cuts more
    → n ≡ run_turns m firsts → count ≡ several_in m (held_in_table more) → count ≡ 0
    → held ≡ best_programmes_in m (held_in_table more) → IsOutcome m held (r + 1) total (done + n)
unfolding mechanism_placement mechanism_rounds mechanism_cuts placement_turns
replay-last m v r cuts total count table more firsts done n held u round en es z eh =
    let last = rounds-last m r total cuts u.rounds (sym (es ∙ round-count m cuts more round) ∙ z) in
    record {
      placement = eh ∙ round-best_programmes m v cuts more round
          ∙ ap (best_programmes m) (u.rounds.at ∙ ap (cuts_after m) last);
      rounds' = ap (λ (k : ℕ). k + 1) last;
      cuts' = u.rounds.counted ∙ ap (sum_below (λ k. several_count m (cuts_after m k))) last;
      turns' = replay-done m r cuts total table firsts done n u en
          ∙ ap (λ (k : ℕ). sum_below (round_turns m) (k + 1)) last;
    }
