-- The opening words with one seat that stands for every worker are the opening state of the core,
-- which is sound; and the seats that it is split into stand for every worker.
use Rattle.std.proofs.Common.{◌≡◌, ℕ, zero, suc, ◌+◌, ◌<◌, ◌≤◌, false, List, [], ◌∷◌, ◌++◌, length, map, take, drop, replicate, Some, sym, refl, ap, inl, subst, ◌∙◌, arith, append-nil, append_assoc, length-append}
use Rattle.std.specs.Prelude.{slice_get}
use Rattle.std.proofs.Math.ListN.{length-replicate}
use Rattle.std.proofs.Math.Seq.{take-append_seam, drop-append_seam}
use Rattle.std.proofs.lemmas.List.Sums.{sum_by-cons}
use Rattle.atomic_table.specs.Table.{opening as table_opening}
use Rattle.market.specs.Dictatorships.{Dictatorship, IsValidDictatorship}
use Rattle.interleaving_core.specs.declared.limits.TheConstants.{MAX_WORKERS}
use Rattle.interleaving_core.specs.declared.parts.Cell.TheVariants.{Empty}
use Rattle.interleaving_core.specs.Flags.{first_flags}
use Rattle.interleaving_core.specs.Core.{View, fresh_view, opening, turn_count}
use Rattle.interleaving_core.specs.Sound.{IsSound}
use Rattle.interleaving_core.proofs.Keeps.{begins}
use Rattle.interleaving_core.proofs.Flags.{first_flags_long}
use Rattle.word_rule.specs.Layout.{cell_of, core_of, first_words, programme_count, word_count}
use Rattle.word_rule.specs.Views.{SeatKnows, shared_views, core_views}
use Rattle.word_rule.specs.Rule.{Belongs, IsSoundTable, HasReadFull, share_of, sealed_of, first_seat_of}
use Rattle.word_rule.specs.Rounds.{knows, AreNew, shares_of}
use Rattle.word_rule.specs.declared.rule.RoundKey.{RoundKey}
use Rattle.word_rule.specs.declared.seat.SharedRound.{SharedRound}
use Rattle.word_rule.specs.declared.seat.WorkSeat.{WorkSeat}

empty_cells : (n : ℕ) → map cell_of (replicate n 0) ≡ replicate n Empty
empty_cells zero = refl
empty_cells (suc n) = ap (λ l. Empty ∷ l) (empty_cells n)

one_seat : (n : ℕ) → 0 < n → shared_views n fresh_view ++ [] ≡ replicate n fresh_view
one_seat zero l = absurd (omega arith)
one_seat (suc n) l = append-nil (fresh_view ∷ replicate n fresh_view)

-- the opening words show the opening state, but for the views
pub words_open : (d : Dictatorship) (workers : ℕ) (views : List View) → IsValidDictatorship d
    → views ≡ replicate workers fresh_view → core_of d (first_words d) views ≡ opening d workers
words_open d workers views valid fresh =
    let zeros : List ℕ = replicate (turn_count d) 0 in
    let long : programme_count d ≡ length d.fill = sym valid.fills in
    let seats : take (programme_count d) (d.fill ++ (zeros ++ first_flags d)) ≡ d.fill =
    ap (λ (m : ℕ). take m (d.fill ++ (zeros ++ first_flags d))) long
    ∙ take-append_seam d.fill (zeros ++ first_flags d) in
    let rest : List ℕ = zeros ++ first_flags d in
    let past : drop (2 + programme_count d) (first_words d) ≡ rest =
    ap (λ (m : ℕ). drop m (first_words d))
    (let e : 2 + programme_count d ≡ suc (suc (length d.fill)) = omega arith in e)
    ∙ drop-append_seam d.fill rest in
    let many : length zeros ≡ turn_count d = length-replicate (turn_count d) 0 in
    let front : take (turn_count d) rest ≡ zeros =
    ap (λ (m : ℕ). take m rest) (sym many) ∙ take-append_seam zeros (first_flags d) in
    let both : length (d.fill ++ zeros) ≡ length d.fill + length zeros =
    length-append d.fill zeros in
    let flags : drop (2 + programme_count d + turn_count d) (first_words d) ≡ first_flags d =
    ap (λ (m : ℕ). drop m (first_words d))
    (let e : 2 + programme_count d + turn_count d ≡ suc (suc (length (d.fill ++ zeros))) =
    omega arith in e)
    ∙ (ap (λ (l : List ℕ). drop (length (d.fill ++ zeros)) l)
    (sym (append_assoc d.fill zeros (first_flags d)))
    ∙ drop-append_seam (d.fill ++ zeros) (first_flags d)) in
    let cells =
    ap (λ (l : List ℕ). map cell_of (take (turn_count d) l)) past
    ∙ (ap (map cell_of) front ∙ empty_cells (turn_count d)) in
    λ k. record {
      claim_number = 0;
      mark_held = false;
      mark_number = 0;
      seats = seats k;
      cells = cells k;
      flags = flags k;
      views = fresh k;
    }

-- there are as many words as there should be
pub first_words_long : (d : Dictatorship) → IsValidDictatorship d
    → length (first_words d) ≡ word_count d
first_words_long d valid =
    let zeros : List ℕ = replicate (turn_count d) 0 in
    let flags : List ℕ = first_flags d in
    let a : length (d.fill ++ (zeros ++ flags)) ≡ length d.fill + length (zeros ++ flags) =
    length-append d.fill (zeros ++ flags) in
    let f : length (zeros ++ flags) ≡ length zeros + length flags = length-append zeros flags in
    let g = first_flags_long d in
    let b : length zeros ≡ turn_count d = length-replicate (turn_count d) 0 in
    let c = valid.fills in
    let e : length (first_words d) ≡ suc (suc (length (d.fill ++ (zeros ++ flags)))) = refl in
    omega arith

-- a table is made with a sound core state
opens_with_first : (key : RoundKey) → IsValidDictatorship key.dict.value → 0 < key.workers
    → key.workers ≤ MAX_WORKERS → IsSoundTable key
    (table_opening (first_words key.dict.value) [] (first_seat_of key))
opens_with_first key valid some few =
    let d = key.dict.value in
    let x = first_seat_of key in
    let views = one_seat key.workers some in
    let shown = words_open d key.workers (core_views (x ∷ [])) valid views in
    let sound = subst (IsSound d) (sym shown) (begins d key.workers valid) in
    record {
      valid = valid;
      team = few;
      wide = first_words_long d valid;
      sound = sound;
      shares = sum_by-cons share_of x []
          ∙ (let e : key.workers + 0 ≡ key.workers = omega arith in e);
      each = λ i y is.
          subst (Belongs key 0) (only x i y is.there) record {
            dict = refl;
            workers = refl;
            wide = λ _. inl refl;
            behind = omega arith;
          };
      apart = λ i j a c ai cj other.
          absurd (other (first x i a ai.there ∙ sym (first x j c cj.there)));
      last = λ i j a c ai cj other.
          absurd (other (first x i a ai.there ∙ sym (first x j c cj.there)));
      sealed =
          let none = sum_by-cons sealed_of x [] in
          let free = sound.mark.free refl in
          omega arith;
      spent = λ i y is none. ap sealed_of (sym (only x i y is));
      full = λ i y is.
          subst (HasReadFull d _) (only x i y is.there) (λ n word none. absurd (cc (none)));
      undrawn = λ nobody. refl;
    }
  where
    only : (x : SeatKnows) (i : ℕ) (y : SeatKnows) → slice_get (x ∷ []) i ≡ Some y → x ≡ y
    only x zero y e = cc (e)
    only x (suc i) y e = absurd (cc (e))

    first : (x : SeatKnows) (i : ℕ) (y : SeatKnows) → slice_get (x ∷ []) i ≡ Some y → i ≡ 0
    first x zero y e = refl
    first x (suc i) y e = absurd (cc (e))

-- the same for words that are known to be the opening words
pub table_opens : (key : RoundKey) (words : List ℕ) → words ≡ first_words key.dict.value
    → IsValidDictatorship key.dict.value → 0 < key.workers → key.workers ≤ MAX_WORKERS
    → IsSoundTable key (table_opening words [] (first_seat_of key))
table_opens key words is valid some few =
    subst (λ (l : List ℕ). IsSoundTable key (table_opening l [] (first_seat_of key))) (sym is)
    (opens_with_first key valid some few)

-- seats at the opening stand for as many workers as they are
pub new_shares : (seats : List WorkSeat)
    → ((k : ℕ) (me : WorkSeat) → slice_get seats k ≡ Some me → (knows me).share ≡ 1)
    → shares_of seats ≡ length seats
new_shares [] new = refl
new_shares (x ∷ xs) new =
    let a = new 0 x refl in
    let sum = sum_by-cons (λ me. share_of (knows me)) x xs in
    omega (arith, new_shares xs (λ k me e. new (suc k) me e))

-- so they stand for all workers
pub opens_shares : (round : SharedRound) (workers : ℕ) (seats : List WorkSeat) → AreNew round seats
    → length seats ≡ workers → shares_of seats ≡ workers
opens_shares round workers seats new count = new_shares seats (λ k me e. (new k me e).share) ∙ count
