-- The market of the seats left is a market, and every placement there fits beside the seats that are
-- kept: a quota there is what these leave of it, and who held a programme has nothing to be given.
use Rattle.std.proofs.Common.{◌≡◌, ℕ, ◌-◌, ◌<◌, ◌≤◌, List, [], length, Bool, true, false, Option, Some, None, refl, sym, ap, ◌∙◌, subst, arith, ⊎_elim, get_or}
use Rattle.std.specs.Prelude.{IsSome, is_some, if◌then◌else◌}
use Rattle.std.proofs.lemmas.Bool.{cases_lt}
use Rattle.std.proofs.lemmas.List.{get_or_past}
use Rattle.std.proofs.lemmas.List.FromFn.{get_or-map-range_with_len, length-map-range_with_len}
use Rattle.market.specs.Problems.{HasNoRepeats, IsBar, IsValid, Problem, bar_of, kind_of, list_of, no_programme, order_of, programme_at, quota_of, ranks_of}
use Rattle.market.specs.Stability.{IsPlacement, held_by}
use Rattle.market.specs.declared.limits.TheConstants.{MAX_ENTRIES}
use Rattle.market.specs.declared.programme.Prog.{Prog}
use Rattle.second_placement.specs.SeatsLeft.{EachFitsBeside, list_left, lists_left, programme_left, programmes_left, registered_count, second_problem}
use Rattle.second_placement.proofs.Lowering.{kept-few}

module _ (m : Problem) (held : List (Option ℕ)) (registered : List Bool) where
  -- as many programmes and candidates
  pub programmes-same : length (second_problem m held registered).programmes ≡ length m.programmes
  unfolding second_problem programmes_left
  programmes-same =
      length-map-range_with_len (programme_left m.programmes held registered) 0
      (length m.programmes)

  pub candidates-same : length (second_problem m held registered).lists ≡ length m.lists
  unfolding second_problem lists_left
  candidates-same =
      length-map-range_with_len (list_left m.lists held) 0 (length m.lists)

  programme-at : (p : ℕ) → p < length m.programmes → programme_at (second_problem m held registered) p
      ≡ programme_left m.programmes held registered p
  unfolding second_problem programmes_left
  programme-at p l =
      get_or-map-range_with_len (programme_left m.programmes held registered) 0
      (length m.programmes) p p no_programme l (omega arith)

  -- behind the last programme there is none in both
  programme-past : (p : ℕ) → length m.programmes ≤ p
      → programme_at (second_problem m held registered) p ≡ programme_at m p
  programme-past p past =
      let same = programmes-same in
      get_or_past (second_problem m held registered).programmes p no_programme (omega arith)
      ∙ sym (get_or_past m.programmes p no_programme past)

  -- what the quota does not bear on stays
  same-at : {A : Type 0} (f : Prog → A)
      → ((x : Prog) (quota : ℕ) → f (record x { quota = quota }) ≡ f x) → (p : ℕ)
      → f (programme_at (second_problem m held registered) p) ≡ f (programme_at m p)
  same-at f stays p =
      ⊎_elim
      (λ l. ap f (programme-at p l)
      ∙ stays (programme_at m p) ((programme_at m p).quota - registered_count held registered p))
      (λ past. ap f (programme-past p past))
      (cases_lt p (length m.programmes))

  pub kind-same : (p : ℕ) → kind_of (second_problem m held registered) p ≡ kind_of m p
  unfolding kind_of
  kind-same p = same-at (λ (x : Prog). x.kind) (λ x quota. refl) p

  pub bar-same : (p : ℕ) → bar_of (second_problem m held registered) p ≡ bar_of m p
  unfolding bar_of
  bar-same p = same-at (λ (x : Prog). x.bar) (λ x quota. refl) p

  -- the seats that are left
  pub quota-left : (p : ℕ) → quota_of (second_problem m held registered) p
      ≡ quota_of m p - registered_count held registered p
  unfolding quota_of
  quota-left p =
      ⊎_elim
      (λ l. ap (λ (x : Prog). x.quota) (programme-at p l))
      (λ past.
      let same = ap (λ (x : Prog). x.quota) (programme-past p past) in
      let none = ap (λ (x : Prog). x.quota) (get_or_past m.programmes p no_programme past) in
      omega arith)
      (cases_lt p (length m.programmes))

  -- the list that is left
  list-at : (i : ℕ) → i < length m.lists
      → list_of (second_problem m held registered) i ≡ list_left m.lists held i
  unfolding second_problem lists_left list_of
  list-at i l =
      get_or-map-range_with_len (list_left m.lists held) 0 (length m.lists) i i [] l (omega arith)

  -- it is empty, or the candidate's own
  list-either : (P : List ℕ → Type 0) (i : ℕ) → i < length m.lists → P [] → P (list_of m i)
      → P (list_of (second_problem m held registered) i)
  unfolding list_of
  list-either P i l none own = subst P (sym (list-at i l)) (by (is_some (held_by held i)))
    where
      by : (b : Bool) → P (if b then [] else get_or m.lists i [])
      by true = none
      by false = own

  -- empty for who held a programme
  list-none : (i : ℕ) → IsSome (held_by held i)
      → list_of (second_problem m held registered) i ≡ []
  unfolding list_of
  list-none i some =
      ⊎_elim
      (λ l. list-at i l ∙ ap (λ (b : Bool). if b then [] else get_or m.lists i []) some)
      (λ past. let same = candidates-same in
      get_or_past (second_problem m held registered).lists i [] (omega arith))
      (cases_lt i (length m.lists))

  -- so it is a market
  pub second-valid : IsValid m → IsValid (second_problem m held registered)
  unfolding second_problem order_of ranks_of
  second-valid v =
      let programmes = programmes-same in
      let candidates = candidates-same in
      record {
        types = v.types;
        programmes = omega (arith, v.programmes);
        candidates = omega (arith, v.candidates);
        orders = v.orders;
        ranks = v.ranks;
        kinds =
            λ p l. subst (λ (t : ℕ). t < m.types) (sym (kind-same p)) (v.kinds p (omega arith));
        quotas =
            λ p l. let e = quota-left p in let old = v.quotas p (omega arith) in omega arith;
        bars = λ p l. subst IsBar (sym (bar-same p)) (v.bars p (omega arith));
        list_lengths =
            λ i l. list-either (λ (xs : List ℕ). length xs ≤ MAX_ENTRIES) i (omega arith)
            (omega arith) (v.list_lengths i (omega arith));
        list_entries = λ i k l lk. entries v i k (omega arith) lk;
        list_distinct =
            λ i l. list-either HasNoRepeats i (omega arith) (λ j k a b e. absurd (omega arith))
            (v.list_distinct i (omega arith));
        order_entries =
            λ t k l lk. let e = v.order_entries t k l lk in omega arith;
        order_distinct = v.order_distinct;
        rank_lengths = v.rank_lengths;
        ranks_rise = v.ranks_rise;
        rank_limits = v.rank_limits;
      }
    where
      entries : IsValid m → (i k : ℕ) → i < length m.lists
          → k < length (list_of (second_problem m held registered) i)
          → get_or (list_of (second_problem m held registered) i) k 0
          < length (second_problem m held registered).programmes
      entries v i k l =
          let same = programmes-same in
          list-either
          (λ (xs : List ℕ). k < length xs
          → get_or xs k 0 < length (second_problem m held registered).programmes)
          i l (λ none. absurd (omega arith))
          (λ lk. let e = v.list_entries i k l lk in omega arith)

  -- whoever is placed there
  pub each_fits : IsPlacement m held → EachFitsBeside m held registered
  unfolding registered_count
  each_fits placed later there =
      record {
        quotas =
            λ p. let left = there.quotas p in
            let quota = quota-left p in
            let kept = kept-few held registered (length held) p in
            let most = placed.quotas p in
            omega arith;
        once = λ i some. nothing i some (held_by later i) refl;
      }
    where
      nothing : (i : ℕ) → IsSome (held_by held i) → (o : Option ℕ) → held_by later i ≡ o
          → o ≡ None
      nothing i some None e = refl
      nothing i some (Some p) e =
          let listed = (there.acceptable i p e).listed in
          let none = ap (λ (xs : List ℕ). length xs) (list-none i some) in
          absurd (omega arith)
