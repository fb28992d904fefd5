-- Who can have choices in several types after a round: only a candidate with another choice than
-- before it.
use Rattle.std.proofs.Common.{◌≡◌, ℕ, ◌+◌, ◌<◌, ◌≤◌, true, false, List, length, Option, Some, None, sym, ap, ◌∙◌, arith, ⊎_elim}
use Rattle.std.specs.Prelude.{is_some, nat_lt, slice_index}
use Rattle.std.specs.List.{position_or_len, range_with_len}
use Rattle.std.proofs.lemmas.Bool.{cases_lt, cases_Bool, false≢true, ltb-true}
use Rattle.std.proofs.lemmas.List.FromFn.{get_or-map-range_with_len}
use Rattle.std.proofs.lemmas.List.Sums.{fails_before_first}
use Rattle.std.proofs.lemmas.Option.{none-some}
use Rattle.market.specs.Counting.{is_programme}
use Rattle.market.specs.Problems.{Problem, place_of, kind_of, list_of}
use Rattle.market.specs.Mechanism.{IsCuts, has_several_in, best_in, cut_in, cuts_in}
use Rattle.market.specs.Choices.{held_in_table, empty_table, IsWithinCuts}
use Rattle.market.proofs.Counts.{count_some_two, PassesTwice}
use Rattle.market.proofs.Cutting.{cut-several}
use Rattle.market.proofs.Firsts.{place_get, place_same}
use Rattle.market.proofs.Plain.{count_agree}
use Rattle.market.proofs.Turns.{is_programme-from, some_from}
use Rattle.truncation.proofs.Cutting.{empty_table-none}

-- a choice of the candidate stands at or beyond the cut
pub record HasBeyond (m : Problem) (table : List (List (Option ℕ))) (cuts : List ℕ) (i : ℕ)
    : Type 0 where
  pub kind : ℕ
  pub programme : ℕ
  pub held : held_in_table table kind i ≡ Some programme
  pub beyond : slice_index cuts i ≤ place_of programme (list_of m i)

-- each candidate with choices in several types has one that stands beyond the cut
abbrev pub CutsSeveral : Problem → List (List (Option ℕ)) → List ℕ → Type 0
CutsSeveral m table cuts =
    (i : ℕ) → i < length m.lists → has_several_in m (held_in_table table) i ≡ true
    → HasBeyond m table cuts i

-- the two choices of a candidate who has several
record HasTwo (m : Problem) (table : List (List (Option ℕ))) (i : ℕ) : Type 0 where
  first : ℕ
  second : ℕ
  apart : first < second
  one : ℕ
  other : ℕ
  has_one : held_in_table table first i ≡ Some one
  has_other : held_in_table table second i ≡ Some other

two_choices : (m : Problem) (table : List (List (Option ℕ))) (i : ℕ)
    → has_several_in m (held_in_table table) i ≡ true → HasTwo m table i
unfolding has_several_in
two_choices m table i several =
    let two = count_some_two (λ t. is_some (held_in_table table t i)) m.types
    (ltb-true _ _ several) in
    let one = some_from (held_in_table table two.first i) two.first_passes in
    let other = some_from (held_in_table table two.second i) two.second_passes in
    record {
      first = two.first;
      second = two.second;
      apart = two.apart;
      one = one.0;
      other = other.0;
      has_one = one.1;
      has_other = other.1;
    }

-- where there is no choice nobody has several
pub several-none : (m : Problem) (table : List (List (Option ℕ))) (cuts : List ℕ)
    → table ≡ empty_table m → CutsSeveral m table cuts
several-none m table cuts empty i l several =
    let two = two_choices m table i several in
    absurd (none-some two.one (sym (empty_table-none m two.first i)
    ∙ sym (ap (λ (xs : List (List (Option ℕ))). held_in_table xs two.first i) empty)
    ∙ two.has_one))

-- no choice stands before the best
best_first : (m : Problem) (table : List (List (Option ℕ))) (t i p : ℕ) → kind_of m p ≡ t
    → held_in_table table t i ≡ Some p → place_of p (list_of m i) < length (list_of m i)
    → best_in m (held_in_table table) i ≤ place_of p (list_of m i)
unfolding best_in
best_first m table t i p kind held listed =
    let f = λ (q : ℕ). is_programme q (held_in_table table (kind_of m q) i) in
    let list = list_of m i in
    let passes = is_programme-from p (held_in_table table (kind_of m p) i)
    (ap (λ (u : ℕ). held_in_table table u i) kind ∙ held) in
    ⊎_elim
    (λ less.
    let fails = fails_before_first f list (place_of p list) 0 less in
    absurd (false≢true (sym fails ∙ ap f (place_get p list 0 listed) ∙ passes)))
    (λ ge. ge)
    (cases_lt (place_of p list) (position_or_len f list))

-- the new cut of a candidate who has several
new_cut : (m : Problem) (table : List (List (Option ℕ))) (cuts next : List ℕ) (i : ℕ)
    → i < length m.lists → has_several_in m (held_in_table table) i ≡ true
    → next ≡ cuts_in m (held_in_table table) cuts
    → slice_index next i ≡ best_in m (held_in_table table) i + 1
unfolding cuts_in
new_cut m table cuts next i l several e =
    let ch = held_in_table table in
    ap (λ (xs : List ℕ). slice_index xs i) e
    ∙ get_or-map-range_with_len (cut_in m ch cuts) 0 (length m.lists) i i 0 l (omega arith)
    ∙ cut-several m ch cuts i several

-- a cut just after the best choice leaves another beyond it
pub several-cut : (m : Problem) (table : List (List (Option ℕ))) (cuts next : List ℕ)
    → IsCuts m cuts → IsWithinCuts m table cuts → next ≡ cuts_in m (held_in_table table) cuts
    → CutsSeveral m table next
several-cut m table cuts next fit within e i l several =
    let two = two_choices m table i several in
    let list = list_of m i in
    let cut = new_cut m table cuts next i l several e in
    let most = fit.within i l in
    let one = within.within two.first i two.one two.has_one in
    let other = within.within two.second i two.other two.has_other in
    let kind = within.kind two.first i two.one two.has_one in
    let kind' = within.kind two.second i two.other two.has_other in
    let a = best_first m table two.first i two.one kind two.has_one (omega arith) in
    let b = best_first m table two.second i two.other kind' two.has_other (omega arith) in
    ⊎_elim
    (λ less. record {
      kind = two.first;
      programme = two.one;
      held = two.has_one;
      beyond = omega arith;
    })
    (λ best. record {
      kind = two.second;
      programme = two.other;
      held = two.has_other;
      beyond =
          ⊎_elim
          (λ less'. omega arith)
          (λ best'.
          let same = place_same two.one two.other list (omega arith) (omega arith) in
          let types = sym kind ∙ ap (kind_of m) same ∙ kind' in
          let apart = two.apart in
          omega arith)
          (cases_lt (best_in m (held_in_table table) i) (place_of two.other list));
    })
    (cases_lt (best_in m (held_in_table table) i) (place_of two.one list))

-- so who has the same choices as before, all within the cut, has not several
pub several-same : (m : Problem) (old new : List (List (Option ℕ))) (cuts : List ℕ) (i : ℕ)
    → CutsSeveral m old cuts → IsWithinCuts m new cuts → i < length m.lists
    → ((t : ℕ) → held_in_table new t i ≡ held_in_table old t i)
    → has_several_in m (held_in_table new) i ≡ false
unfolding has_several_in
several-same m old new cuts i beyond within l same =
    let agree = ap (nat_lt 1) (count_agree (λ t. is_some (held_in_table new t i))
    (λ t. is_some (held_in_table old t i)) m.types
    (λ t lt. ap (λ (o : Option ℕ). is_some o) (same t))) in
    ⊎_elim
    (λ several.
    let past = beyond i l (sym agree ∙ several) in
    let far = past.beyond in
    let near = within.within past.kind i past.programme (same past.kind ∙ past.held) in
    absurd (omega arith))
    (λ one. one)
    (cases_Bool (has_several_in m (held_in_table new) i))
