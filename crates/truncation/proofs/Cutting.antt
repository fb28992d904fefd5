-- The cuts of the first candidates: their lists, their number, and the first turn of each type that
-- they change.
use Rattle.std.proofs.Common.{◌≡◌, ℕ, ◌+◌, ◌<◌, ◌∙◌, true, false, ap, refl, sym, subst, length, List, [], Option, None, arith, get_or, set, replicate, ⊎_elim}
use Rattle.std.specs.Prelude.{slice_index, slice_index_or}
use Rattle.std.proofs.lemmas.Bool.{cases_lt}
use Rattle.std.proofs.lemmas.List.{get_or_past, get_or-replicate, length-replicate}
use Rattle.market.specs.declared.limits.TheConstants.{MAX_TYPES, MAX_CANDIDATES}
use Rattle.market.specs.Problems.{Problem, IsValid, list_of, turn_of}
use Rattle.market.specs.Choices.{held_in_table, empty_table, IsWithinCuts}
use Rattle.market.specs.Reruns.{is_beyond, is_cut_away, changed_turn, noted}
use Rattle.market.specs.Mechanism.{IsCuts, has_several_in, best_in, cut_in, cuts_in, several_in}
use Rattle.market.proofs.Members.{count_le}
use Rattle.market.proofs.Locals.{none_at}
use Rattle.market.proofs.Cutting.{IsCutUpto, IsCutUpto-none, IsCutUpto-cut, IsCutUpto-keep, IsCutUpto-all, IsFirstUpto, IsFirstUpto-none, IsFirstUpto-keep, IsFirstUpto-cut, IsFirstUpto-all, best-within, cut-several, uncut}
use Rattle.truncation.specs.Touches.{Touches}

-- the first k candidates are cut, and what this touches is noted
pub record IsCuttingUpto (m : Problem) (table : List (List (Option ℕ))) (old : List ℕ) (k : ℕ)
    (cuts : List ℕ) (touched : Touches) : Type 0 where
  pub cut : IsCutUpto m (held_in_table table) old k cuts touched.several
  pub types : length touched.first ≡ MAX_TYPES
  pub first : (t : ℕ) → t < MAX_TYPES
      → IsFirstUpto m (held_in_table table) old t k (slice_index_or touched.first t None)

-- before the first candidate
pub cutting-none : (m : Problem) (table : List (List (Option ℕ))) (old : List ℕ)
    (touched : Touches) → IsCuts m old → touched.several ≡ 0
    → touched.first ≡ replicate MAX_TYPES None → IsCuttingUpto m table old 0 old touched
cutting-none m table old touched fit none nowhere =
    let ch = held_in_table table in
    record {
      cut = subst (IsCutUpto m ch old 0 old) (sym none) (IsCutUpto-none m ch old fit.candidates);
      types = ap (λ (xs : List (Option ℕ)). length xs) nowhere
          ∙ length-replicate {A = Option ℕ} MAX_TYPES None;
      first = λ t l. IsFirstUpto-none m ch old t (slice_index_or touched.first t None)
          (ap (λ (xs : List (Option ℕ)). get_or xs t None) nowhere ∙ none_at MAX_TYPES t);
    }

-- a candidate who is cut just after the best choice
pub cutting-cut : (m : Problem) (table : List (List (Option ℕ))) (old : List ℕ) (k : ℕ)
    (cuts next : List ℕ) (touched more : Touches) → IsWithinCuts m table old → k < length m.lists
    → has_several_in m (held_in_table table) k ≡ true
    → next ≡ set cuts k (best_in m (held_in_table table) k + 1)
    → more.several ≡ touched.several + 1 → length more.first ≡ MAX_TYPES
    → ((t : ℕ) → t < MAX_TYPES → slice_index_or more.first t None
    ≡ noted (is_beyond (list_of m k) (best_in m (held_in_table table) k + 1)
    (held_in_table table t k)) (slice_index_or touched.first t None) (turn_of m t k))
    → IsCuttingUpto m table old k cuts touched → IsCuttingUpto m table old (k + 1) next more
unfolding is_cut_away
cutting-cut m table old k cuts next touched more within l several is one types firsts upto =
    let ch = held_in_table table in
    let place = best_in m ch k + 1 in
    let same : place ≡ best_in m ch k + 1 = refl in
    let cut = cut-several m ch old k several in
    record {
      cut = subst (IsCutUpto m ch old (k + 1) next) (sym one)
          (subst (λ (xs : List ℕ). IsCutUpto m ch old (k + 1) xs (touched.several + 1)) (sym is)
          (IsCutUpto-cut m ch old cuts k touched.several place l several same upto.cut));
      types = types;
      first = λ t lt. IsFirstUpto-cut m table old t k (slice_index_or touched.first t None)
          (slice_index_or more.first t None) within
          (firsts t lt ∙ ap (λ (x : ℕ). noted (is_beyond (list_of m k) x (ch t k))
          (slice_index_or touched.first t None) (turn_of m t k)) (sym cut)) (upto.first t lt);
    }

-- a candidate who is not
pub cutting-keep : (m : Problem) (table : List (List (Option ℕ))) (old : List ℕ) (k : ℕ)
    (cuts next : List ℕ) (touched more : Touches) → IsWithinCuts m table old
    → has_several_in m (held_in_table table) k ≡ false → next ≡ cuts → more ≡ touched
    → IsCuttingUpto m table old k cuts touched → IsCuttingUpto m table old (k + 1) next more
cutting-keep m table old k cuts next touched more within one is same upto =
    let ch = held_in_table table in
    let kept : IsCuttingUpto m table old (k + 1) cuts touched =
    record {
      cut = IsCutUpto-keep m ch old cuts k touched.several one upto.cut;
      types = upto.types;
      first = λ t lt. IsFirstUpto-keep m ch old t k (slice_index_or touched.first t None)
          (uncut m table old t k within one) (upto.first t lt);
    } in
    subst (λ (xs : List ℕ). IsCuttingUpto m table old (k + 1) xs more) (sym is)
    (subst (IsCuttingUpto m table old (k + 1) cuts) (sym same) kept)

-- the best of several choices stands within the cut that the candidate still has
pub cutting-shorter : (m : Problem) (table : List (List (Option ℕ))) (old : List ℕ) (k : ℕ)
    (cuts : List ℕ) (touched : Touches) → IsCuts m old → IsWithinCuts m table old
    → k < length m.lists → has_several_in m (held_in_table table) k ≡ true
    → IsCuttingUpto m table old k cuts touched
    → best_in m (held_in_table table) k < slice_index cuts k
cutting-shorter m table old k cuts touched fit within l several upto =
    let w = best-within m table old k fit within l several in
    let o = upto.cut.open' k (omega arith) in
    omega arith

-- fewer have been cut than there are candidates
pub cutting-few : (m : Problem) → IsValid m → (table : List (List (Option ℕ))) (old : List ℕ)
    (k : ℕ) (cuts : List ℕ) (touched : Touches) → k < length m.lists
    → IsCuttingUpto m table old k cuts touched → touched.several < MAX_CANDIDATES
cutting-few m v table old k cuts touched l upto =
    let few = v.candidates in
    let counted = upto.cut.counted in
    let most = count_le (has_several_in m (held_in_table table)) k in
    omega arith

-- the cuts of the round, the number of those cut, and the first changed turns
pub record IsCut (m : Problem) (table : List (List (Option ℕ))) (old cuts : List ℕ)
    (touched : Touches) : Type 0 where
  pub cuts' : cuts ≡ cuts_in m (held_in_table table) old
  pub several' : touched.several ≡ several_in m (held_in_table table)
  pub first' : (t : ℕ) → t < MAX_TYPES → slice_index_or touched.first t None
      ≡ changed_turn m (held_in_table table) old t

-- after all candidates
pub cutting-all : (m : Problem) → IsValid m → (table : List (List (Option ℕ))) (old : List ℕ)
    (k : ℕ) (cuts : List ℕ) (touched : Touches) → k ≡ length m.lists
    → IsCuttingUpto m table old k cuts touched → IsCut m table old cuts touched
cutting-all m v table old k cuts touched e upto =
    let ch = held_in_table table in
    let all = IsCutUpto-all m ch old cuts k touched.several e upto.cut in
    record {
      cuts' = all.0;
      several' = all.1;
      first' = λ t l. IsFirstUpto-all m v ch old t k (slice_index_or touched.first t None) e
          (upto.first t l);
    }

-- an empty table has nothing anywhere
pub empty_table-none : (m : Problem) (t i : ℕ) → held_in_table (empty_table m) t i ≡ None
unfolding empty_table
empty_table-none m t i =
    let row : List (Option ℕ) = replicate (length m.lists) None in
    ⊎_elim
    (λ l. ap (λ (xs : List (Option ℕ)). get_or xs i None) (get_or-replicate m.types t row [] l)
    ∙ none_at (length m.lists) i)
    (λ past. let n = length-replicate m.types row in
    ap (λ (xs : List (Option ℕ)). get_or xs i None)
    (get_or_past (replicate m.types row) t [] (omega arith)))
    (cases_lt t m.types)
