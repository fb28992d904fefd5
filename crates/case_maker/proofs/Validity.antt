-- The market that words give is valid, and has its sizes.
use Rattle.std.proofs.Common.{◌≡◌, ℕ, ◌+◌, ◌%◌, ◌<◌, ◌≤◌, [], length, None, refl, sym, ap, ◌∙◌, subst, arith, mod-lt, zero-add, ⊎_elim}
use Rattle.std.specs.Prelude.{All, slice_index}
use Rattle.std.proofs.lemmas.Bool.{cases_lt}
use Rattle.std.proofs.lemmas.List.Elements.{All-from_get_or, All-get_or}
use Rattle.std.proofs.lemmas.List.FromFn.{get_or-map-range_with_len, get_or-range_with_len, length-map-range_with_len, length-range_with_len}
use Rattle.market.specs.Problems.{IsValid, IsBar, HasNoRepeats, kind_of, quota_of, bar_of, list_of, order_of, ranks_of, no_programme}
use Rattle.market.specs.declared.programme.Prog.{Prog}
use Rattle.market.specs.declared.limits.TheConstants.{MAX_PROGRAMMES, MAX_CANDIDATES}
use Rattle.case_maker.specs.declared.sizes.Sizes.{Sizes}
use Rattle.case_maker.specs.Words.{Words, words_behind, words_of, seeded}
use Rattle.case_maker.specs.Draws.{draw_count, drawn_entries, drawn_list, list_words}
use Rattle.case_maker.specs.MadeMarkets.{AreFit, HasSizes, drawn_programme, own_words, made_keys, made_market, made_order, made_ranks, made_problem}
use Rattle.market.proofs.Copies.{copies, copies-at, no_repeats}
use Rattle.case_maker.proofs.Repeats.{All-without_repeats, HasNoRepeats-without_repeats, length-without_repeats}
use Rattle.case_maker.proofs.Ordering.{copies-turn_order, length-turn_order}
use Rattle.case_maker.proofs.Drawing.{copies-above, copies-once, length-keys}

-- how many entries a list is drawn from
length-entries : (programmes : ℕ) (words : Words)
    → length (drawn_entries programmes words) ≡ draw_count programmes words
length-entries programmes words =
    length-map-range_with_len (λ n. words (1 + n) % programmes) 0 (draw_count programmes words)

length-list : (programmes : ℕ) (words : Words) → length (drawn_list programmes words) ≤ 24
length-list programmes words =
    let fewer = length-without_repeats (drawn_entries programmes words) in
    let drawn = length-entries programmes words in
    omega arith

entries-below : (programmes : ℕ) (words : Words)
    → All (λ p. p < programmes) (drawn_entries programmes words)
entries-below programmes words =
    All-from_get_or (λ p. p < programmes) (drawn_entries programmes words) 0 (λ i lt.
    let drawn = length-entries programmes words in
    let inside : i < draw_count programmes words = omega arith in
    let some : 0 < programmes = omega arith in
    subst (λ p. p < programmes)
    (sym (get_or-map-range_with_len (λ n. words (1 + n) % programmes) 0
    (draw_count programmes words) i i 0 inside (zero-add i)))
    (mod-lt (words (1 + i)) some))

list-below : (programmes : ℕ) (words : Words) (k : ℕ) → k < length (drawn_list programmes words)
    → slice_index (drawn_list programmes words) k < programmes
list-below programmes words k lt =
    All-get_or (λ p. p < programmes) (drawn_list programmes words) k 0 lt
    (All-without_repeats (λ p. p < programmes) (drawn_entries programmes words)
    (entries-below programmes words))

module _ (s : Sizes) (words : Words) where
  -- the word that gives a candidate a key in a type
  abbrev key_word : ℕ → ℕ → ℕ
  key_word kind i =
      own_words s words i (list_words s.programmes (own_words s words i) + kind)

  -- a turn order has no more turns than there are candidates
  pub length-order : (kind : ℕ) → length (made_order s words kind) ≤ s.candidates
  length-order kind =
      let turns = length-turn_order (made_keys s words s.candidates kind) in
      let few = length-keys (key_word kind) s.candidates 0 in
      omega arith

  order-below : (kind k : ℕ) → k < length (made_order s words kind)
      → slice_index (made_order s words kind) k < s.candidates
  order-below kind k lt =
      let order = made_order s words kind in
      let y = slice_index order k in
      ⊎_elim
      (λ (below : y < s.candidates). below)
      (λ (above : s.candidates ≤ y).
      let there : 1 ≤ copies y order = copies-at order k lt in
      let same = copies-turn_order y (made_keys s words s.candidates kind) in
      let none = copies-above (key_word kind) y s.candidates 0 (omega arith) in
      absurd (omega arith))
      (cases_lt y s.candidates)

  order-distinct : (kind : ℕ) → HasNoRepeats (made_order s words kind)
  order-distinct kind = no_repeats (made_order s words kind) (λ x.
      let same = copies-turn_order x (made_keys s words s.candidates kind) in
      let once = copies-once (key_word kind) x s.candidates 0 in
      omega arith)

-- what stands in the market
module _ (s : Sizes) (words : Words) where
  abbrev rest : Words
  rest = words_behind s.programmes words

  abbrev one : ℕ → Prog
  one index = drawn_programme s (words index) index

  kind-at : (p : ℕ) → p < s.programmes → kind_of (made_problem s words) p ≡ p % s.types
  unfolding kind_of
  kind-at p lt = ap (λ q. q.kind)
      (get_or-map-range_with_len one 0 s.programmes p p no_programme lt (zero-add p))

  quota-at : (p : ℕ) → p < s.programmes → quota_of (made_problem s words) p ≡ (one p).quota
  unfolding quota_of
  quota-at p lt = ap (λ q. q.quota)
      (get_or-map-range_with_len one 0 s.programmes p p no_programme lt (zero-add p))

  bar-at : (p : ℕ) → p < s.programmes → bar_of (made_problem s words) p ≡ None
  unfolding bar_of
  bar-at p lt = ap (λ q. q.bar)
      (get_or-map-range_with_len one 0 s.programmes p p no_programme lt (zero-add p))

  list-at : (i : ℕ) → i < s.candidates
      → list_of (made_problem s words) i ≡ drawn_list s.programmes (own_words s rest i)
  unfolding list_of
  list-at i lt = get_or-map-range_with_len
      (λ i. drawn_list s.programmes (own_words s rest i)) 0 s.candidates i i [] lt (zero-add i)

  order-at : (t : ℕ) → t < s.types → order_of (made_problem s words) t ≡ made_order s rest t
  unfolding order_of
  order-at t lt = get_or-map-range_with_len (made_order s rest) 0 s.types t t [] lt (zero-add t)

  ranks-at : (t : ℕ) → t < s.types → ranks_of (made_problem s words) t ≡ made_ranks s rest t
  unfolding ranks_of
  ranks-at t lt = get_or-map-range_with_len (made_ranks s rest) 0 s.types t t [] lt (zero-add t)

  rank-at : (t k : ℕ) → t < s.types → k < length (ranks_of (made_problem s words) t)
      → slice_index (ranks_of (made_problem s words) t) k ≡ 1 + k
  rank-at t k lt inside =
      let turns = length (made_order s rest t) in
      let size = ap (λ xs. length {A = ℕ} xs) (ranks-at t lt) in
      let count = length-range_with_len 1 turns in
      ap (λ xs. slice_index xs k) (ranks-at t lt)
      ∙ get_or-range_with_len 1 turns k 0 (omega arith)

  ranks-length : (t : ℕ) → t < s.types
      → length (ranks_of (made_problem s words) t) ≡ length (made_order s rest t)
  ranks-length t lt =
      ap (λ xs. length {A = ℕ} xs) (ranks-at t lt)
      ∙ length-range_with_len 1 (length (made_order s rest t))

  -- the market has the sizes asked for, and lists of at most 24 entries
  pub made_problem-sizes : HasSizes (made_problem s words) s.candidates s.programmes s.types
  made_problem-sizes = record {
    candidates_are = length-map-range_with_len
        (λ i. drawn_list s.programmes (own_words s rest i)) 0 s.candidates;
    programmes_are = length-map-range_with_len one 0 s.programmes;
    types_are = refl;
    few_entries = λ i lt.
        let count = length-map-range_with_len
        (λ i. drawn_list s.programmes (own_words s rest i)) 0 s.candidates in
        let size = ap (λ xs. length {A = ℕ} xs) (list-at i (omega arith)) in
        let short = length-list s.programmes (own_words s rest i) in
        omega arith;
  }

  -- where the sizes fit the market is valid
  pub made_problem-valid : AreFit s → IsValid (made_problem s words)
  made_problem-valid fit =
      let m = made_problem s words in
      let n : length m.lists ≡ s.candidates = made_problem-sizes.candidates_are in
      let p_n : length m.programmes ≡ s.programmes = made_problem-sizes.programmes_are in
      let few : s.candidates ≤ MAX_CANDIDATES = fit.candidates in
      let few_p : s.programmes ≤ MAX_PROGRAMMES = fit.programmes in
      record {
        types = fit.types;
        programmes = omega arith;
        candidates = omega arith;
        orders = length-map-range_with_len (made_order s rest) 0 s.types;
        ranks = length-map-range_with_len (made_ranks s rest) 0 s.types;
        kinds = λ p lt. subst (λ k. k < s.types) (sym (kind-at p (omega arith)))
            (mod-lt p fit.some_type);
        quotas = λ p lt. let at = quota-at p (omega arith) in omega arith;
        bars = λ p lt. subst IsBar (sym (bar-at p (omega arith))) tt;
        list_lengths = λ i lt.
            let size = ap (λ xs. length {A = ℕ} xs) (list-at i (omega arith)) in
            let short = length-list s.programmes (own_words s rest i) in
            omega arith;
        list_entries = λ i k lt inside.
            let at = list-at i (omega arith) in
            let size = ap (λ xs. length {A = ℕ} xs) at in
            let below = list-below s.programmes (own_words s rest i) k (omega arith) in
            let value = ap (λ xs. slice_index xs k) at in
            omega arith;
        list_distinct = λ i lt. subst HasNoRepeats (sym (list-at i (omega arith)))
            (HasNoRepeats-without_repeats (drawn_entries s.programmes (own_words s rest i)));
        order_entries = λ t k lt inside.
            let at = order-at t lt in
            let size = ap (λ xs. length {A = ℕ} xs) at in
            let below = order-below s rest t k (omega arith) in
            let value = ap (λ xs. slice_index xs k) at in
            omega arith;
        order_distinct = λ t lt. subst HasNoRepeats (sym (order-at t lt))
            (order-distinct s rest t);
        rank_lengths = λ t lt.
            ranks-length t lt ∙ sym (ap (λ xs. length {A = ℕ} xs) (order-at t lt));
        ranks_rise = λ t j k lt below inside.
            let first = rank-at t j lt (omega arith) in
            let second = rank-at t k lt inside in
            omega arith;
        rank_limits = λ t k lt inside.
            let value = rank-at t k lt inside in
            let size = ranks-length t lt in
            let turns = length-order s rest t in
            (omega arith, omega arith);
      }

-- the market of a seed
pub made_market-valid : (seed candidates programmes types : ℕ)
    → AreFit (record { candidates = candidates; programmes = programmes; types = types })
    → IsValid (made_market seed candidates programmes types)
unfolding made_market
made_market-valid seed candidates programmes types fit = made_problem-valid _
    (words_of (seeded seed)) fit

-- and it has these sizes, with lists of at most 24 entries
pub made_market-sizes : (seed candidates programmes types : ℕ)
    → HasSizes (made_market seed candidates programmes types) candidates programmes types
unfolding made_market
made_market-sizes seed candidates programmes types =
    made_problem-sizes (record { candidates = candidates; programmes = programmes; types = types })
    (words_of (seeded seed))
