-- The market of a seed: which words are drawn for what, in which order.
use Rattle.std.specs.Prelude.{◌≡◌, ℕ, zero, suc, ◌+◌, ◌*◌, ◌/◌, ◌%◌, ◌<◌, ◌≤◌, min, None, List, length, map}
use Rattle.std.specs.List.{filter_map, range_with_len}
use Rattle.market.specs.Problems.{Problem, list_of, problem}
use Rattle.market.specs.declared.limits.TheConstants.{MAX_TYPES, MAX_PROGRAMMES, MAX_CANDIDATES}
use Rattle.market.specs.declared.programme.Prog.{Prog}
use Rattle.case_maker.specs.Words.{Words, words_of, words_behind, seeded}
use Rattle.case_maker.specs.Draws.{Key, drawn_list, drawn_key, drawn_word_count}
use Rattle.case_maker.specs.Turns.{turn_order}
use Rattle.case_maker.specs.declared.sizes.Sizes.{Sizes}

-- sizes of a market, with a type at least
pub record AreFit (sizes : Sizes) : Type 0 where
  pub candidates : sizes.candidates ≤ MAX_CANDIDATES
  pub programmes : sizes.programmes ≤ MAX_PROGRAMMES
  pub types : sizes.types ≤ MAX_TYPES
  pub some_type : 0 < sizes.types

-- the programme that a word gives: its type by its index, its quota by the word, at most 100,000,
-- and no bar
abbrev pub drawn_programme : Sizes → ℕ → ℕ → Prog
drawn_programme sizes word index = record {
  kind = index % sizes.types;
  quota = min 100000 (word % (2 * (sizes.candidates / sizes.programmes) + 2));
  bar = None;
}

-- the programmes: a word for each, the first of all words
abbrev pub made_programmes : Sizes → Words → List Prog
made_programmes sizes words =
    map (λ index. drawn_programme sizes (words index) index) (range_with_len 0 sizes.programmes)

-- how many words the candidates before this one draw
unfoldable pub words_before : Sizes → Words → ℕ → ℕ
words_before sizes words zero = 0
words_before sizes words (suc candidate) =
    let before = words_before sizes words candidate in
    before + drawn_word_count sizes.programmes sizes.types (words_behind before words)

-- the words of a candidate, among those of all candidates
abbrev pub own_words : Sizes → Words → ℕ → Words
own_words sizes words candidate = words_behind (words_before sizes words candidate) words

-- the preference lists of the first so many candidates
abbrev pub made_lists : Sizes → Words → ℕ → List (List ℕ)
made_lists sizes words count =
    map (λ candidate. drawn_list sizes.programmes (own_words sizes words candidate))
    (range_with_len 0 count)

-- the keys of the first so many candidates in a type
abbrev pub made_keys : Sizes → Words → ℕ → ℕ → List Key
made_keys sizes words count kind =
    filter_map (λ candidate. drawn_key sizes.programmes (own_words sizes words candidate)
    kind candidate) (range_with_len 0 count)

-- the turn order of a type
abbrev pub made_order : Sizes → Words → ℕ → List ℕ
made_order sizes words kind = turn_order (made_keys sizes words sizes.candidates kind)

-- its ranks: 1, 2, 3 and so on
abbrev pub made_ranks : Sizes → Words → ℕ → List ℕ
made_ranks sizes words kind = range_with_len 1 (length (made_order sizes words kind))

-- the market that words give: first the programmes draw, then the candidates
abbrev pub made_problem : Sizes → Words → Problem
made_problem sizes words =
    let rest = words_behind sizes.programmes words in
    problem sizes.types
    (made_programmes sizes words)
    (made_lists sizes rest sizes.candidates)
    (map (made_order sizes rest) (range_with_len 0 sizes.types))
    (map (made_ranks sizes rest) (range_with_len 0 sizes.types))

-- the market of a seed, with so many candidates, programmes and types
unfoldable pub made_market : ℕ → ℕ → ℕ → ℕ → Problem
made_market seed candidates programmes types =
    made_problem (record { candidates = candidates; programmes = programmes; types = types })
    (words_of (seeded seed))

-- a market has so many candidates, programmes and types, and lists of at most 24 entries
pub record HasSizes (m : Problem) (candidates programmes types : ℕ) : Type 0 where
  pub candidates_are : length m.lists ≡ candidates
  pub programmes_are : length m.programmes ≡ programmes
  pub types_are : m.types ≡ types
  pub few_entries : (i : ℕ) → i < length m.lists → length (list_of m i) ≤ 24
