-- A round that ends with a seat that has every share and does not hold the mark: the mark is free,
-- so its number is the true one, and the cells before it show the choices.
use Rattle.std.proofs.Common.{◌≡◌, ℕ, ◌+◌, ◌/◌, ◌<◌, ◌≤◌, List, length, set, get_or, None, sym, refl, ap, subst, ◌∙◌, arith}
use Rattle.atomic_table.specs.Table.{State, Seen, Final}
use Rattle.std.specs.List.{sum_by}
use Rattle.std.proofs.lemmas.Option.{get_or_from_slice_get}
use mathlib.Core.Option.{some}
use lib.ListN.{get_elem?}
use Rattle.market.specs.Dictatorships.{Dictatorship, IsValidDictatorship, has_seat, first_open, picks, choice}
use Rattle.market.proofs.Seats.{place-small}
use Rattle.interleaving_core.specs.declared.parts.Cell.TheVariants.{Committed}
use Rattle.interleaving_core.specs.Core.{turn_count}
use Rattle.interleaving_core.proofs.Places.{each_set, sum_set, sum_zero, terms_le}
use Rattle.word_rule.specs.Layout.{cell_of, cell_word, programme_count, word_count}
use Rattle.word_rule.specs.Views.{SeatKnows, spent_seat, core_views}
use Rattle.word_rule.specs.Rule.{IsLive, IsSoundTable, share_of, sealed_of}
use Rattle.word_rule.specs.Closing.{RoundEnd, AreCommitted}
use Rattle.word_rule.specs.declared.rule.RoundKey.{RoundKey}
use Rattle.word_rule.proofs.CoreViews.{there}
use Rattle.word_rule.proofs.Layouts.{place_in, shows_small, reads_cell}
use Rattle.word_rule.proofs.Holder.{free_with_all}

-- what the words of a round's end show of its dictatorship, to a seat that knows this
pub record Ends (words : List ℕ) (d : Dictatorship) (x : SeatKnows) : Type 0 where
  pub valid : IsValidDictatorship d
  pub wide : length words ≡ word_count d
  pub within : get_or words 1 0 / 2 ≤ turn_count d
  pub least : x.released ≤ get_or words 1 0 / 2
  pub all : x.sealed ≡ get_or words 1 0 / 2
  pub cells : (k : ℕ) → k < get_or words 1 0 / 2
      → cell_of (get_or words (2 + programme_count d + k) 0) ≡ Committed (choice d k)

-- a word that was read
pub word_at : (words : List ℕ) (i word : ℕ) → get_elem? words i ≡ some word
    → get_or words i 0 ≡ word
word_at words i word at = get_or_from_slice_get words i word 0 (there words i word at)

module _ (key : RoundKey) where
  -- a seat with every share has committed each turn that is committed
  sealed_with_all : (s : State ℕ SeatKnows) (h : IsSoundTable key s) (id : ℕ) (x : SeatKnows)
      → IsLive s.views id x → x.share ≡ key.workers → x.sealed ≡ h.sound.count
  sealed_with_all s h id x live every =
      let others = set s.views id spent_seat in
      let none : sum_by sealed_of others ≡ 0 =
      sum_zero sealed_of others
      (each_set (λ y. sealed_of y ≡ 0) s.views id spent_seat refl
      (λ j y apart at.
      let shares = terms_le share_of s.views id j x y apart live.there at in
      let all = h.shares in
      h.spent j y at (omega arith))) in
      let sum = sum_set sealed_of s.views id x spent_seat live.there in
      let all = h.sealed in
      omega arith

  ends_so : (s : State ℕ SeatKnows) (h : IsSoundTable key s) (id : ℕ) (x : SeatKnows)
      → IsLive s.views id x → x.share ≡ key.workers → x.core.hold ≡ None
      → Ends s.words key.dict.value x
  ends_so s h id x live every hold =
      let free = free_with_all key s h id x live every hold in
      let same = h.sound.mark.free free in
      let within = h.sound.mark.within in
      record {
        valid = h.valid;
        wide = h.wide;
        within = omega arith;
        least = (h.each id x live).behind;
        all = let all = sealed_with_all s h id x live every in omega arith;
        cells = λ k l.
            sym (reads_cell key.dict.value s.words (core_views s.views) _ k refl (omega arith))
            ∙ h.sound.cells.below k (omega arith);
      }

  -- it is so at a round's end for a seat with every share that does not hold the mark
  pub round_ends : (id : ℕ) (x : SeatKnows) (words slots : List ℕ)
      → Final (Seen (IsSoundTable key) id x) words slots → 0 < x.share → x.share ≡ key.workers
      → x.core.hold ≡ None → Ends words key.dict.value x
  round_ends id x words slots f alive every hold =
      let s = f.0 in
      let live : IsLive s.views id x = record { there = there s.views id x f.1.1; live = alive } in
      subst (λ (w : List ℕ). Ends w key.dict.value x) f.2
      (ends_so s f.1.0 id x live every hold)

choice_small : (d : Dictatorship) (k : ℕ) → IsValidDictatorship d → k < length d.lists
    → choice d k ≤ 48
unfolding choice first_open
choice_small d k valid inside = place-small d k (has_seat d (picks d k)) valid inside

-- so the cells before the mark's number are committed, each at its choice
pub ends_committed : (words : List ℕ) (d : Dictatorship) (x : SeatKnows) (count : ℕ)
    → Ends words d x
    → get_or words 1 0 / 2 ≡ count → AreCommitted d words (programme_count d) count
ends_committed words d x count e is =
    let wide = e.wide in
    let within = e.within in
    record {
      valid = e.valid;
      within = omega arith;
      wide = omega arith;
      choices = λ k l. e.cells k (omega arith);
    }

-- a word of theirs is small, and shows its turn's choice
pub cell_shown : (d : Dictatorship) (words : List ℕ) (programmes count : ℕ) (end : RoundEnd)
    (k i word : ℕ) → AreCommitted d words programmes count
    → record { dict = d; committed = count } ≡ end → k < end.committed
    → i ≡ cell_word programmes k → get_elem? words i ≡ some word
    → (cell_of word ≡ Committed (choice end.dict k)) × (word ≤ 98)
cell_shown d words programmes count end k i word a view inside is at =
    let found : get_or words (cell_word programmes k) 0 ≡ word =
    ap (λ (z : ℕ). get_or words z 0) (sym is) ∙ word_at words i word at in
    let seen : count ≡ end.committed = ap (λ (x : RoundEnd). x.committed) view in
    let shown = ap cell_of (sym found) ∙ a.choices k (omega arith) in
    let within = a.within in
    let small = choice_small d k a.valid (omega arith) in
    let least = shows_small word in
    let place : place_in (cell_of word) ≡ choice d k = ap place_in shown in
    (shown ∙ ap (λ (x : RoundEnd). Committed (choice x.dict k)) view, omega arith)
