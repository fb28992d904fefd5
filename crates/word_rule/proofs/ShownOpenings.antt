-- While every view is still that of the opening, the table shows the opening state: the claim
-- number is 0, so no cell is touched, no turn is committed, nobody holds the mark, and each seat
-- count is its fill.
use Rattle.std.proofs.Common.{◌≡◌, ℕ, zero, suc, ◌+◌, ◌*◌, ◌<◌, Bool, true, false, List, [], ◌∷◌, ◌++◌, length, get_or, replicate, nat_le, eqb, sym, refl, ap, ◌∙◌, arith}
use Rattle.std.specs.List.{sum_by}
use Rattle.std.specs.Int.{bit_at}
use Rattle.std.proofs.lemmas.Nat.Bits.{bit_at-lt, same_from_bits}
use Rattle.std.proofs.lemmas.List.{ext_get_or, replicate-append-replicate}
use Rattle.std.proofs.lemmas.List.Sums.{sum_by-cons}
use Rattle.market.specs.Dictatorships.{Dictatorship, choice, seats_taken}
use Rattle.market.proofs.Turns.{seats_taken-zero}
use Rattle.interleaving_core.specs.declared.parts.Cell.{Cell}
use Rattle.interleaving_core.specs.declared.parts.Cell.TheVariants.{Empty, Committed}
use Rattle.interleaving_core.specs.declared.limits.TheConstants.{FLAGS_PER_WORD}
use Rattle.interleaving_core.specs.Flags.{flag_group, flag_bit, is_raised_in, first_flags}
use Rattle.interleaving_core.specs.Core.{View, Core, fresh_view, turn_count}
use Rattle.interleaving_core.specs.Sound.{bit, hold_bit, seat_bit, late_bit, IsSound}
use Rattle.interleaving_core.proofs.Places.{sum_replicate}
use Rattle.interleaving_core.proofs.Flags.{first_flags_long, first_raised, first_unused, first_narrow}
use Rattle.word_rule.specs.Views.{SeatKnows, shared_views, core_views}
use Rattle.word_rule.specs.Rule.{IsLive, share_of, table_core}
use Rattle.word_rule.specs.Rounds.{ShowsOpening}
use Rattle.word_rule.specs.declared.rule.RoundKey.{RoundKey}

abbrev AreFresh : List SeatKnows → Type 0
AreFresh l = (i : ℕ) (x : SeatKnows) → IsLive l i x → x.core ≡ fresh_view

shared_fresh : (n : ℕ) (v : View) → (0 < n → v ≡ fresh_view)
    → shared_views n v ≡ replicate n fresh_view
shared_fresh zero v fresh = refl
shared_fresh (suc n) v fresh = ap (shared_views (suc n)) (fresh (omega arith))

-- one view of the opening for each worker
fresh_views : (l : List SeatKnows) → AreFresh l
    → core_views l ≡ replicate (sum_by share_of l) fresh_view
fresh_views [] fresh = refl
fresh_views (x ∷ xs) fresh =
    let mine = shared_fresh x.share x.core (λ live. fresh 0 x record { there = refl; live = live })
    in
    let rest = fresh_views xs (λ i y is. fresh (suc i) y record
    { there = is.there; live = is.live }) in
    (λ i. mine i ++ rest i)
    ∙ (replicate-append-replicate x.share (sum_by share_of xs) fresh_view
    ∙ ap (λ (n : ℕ). replicate n fresh_view) (sym (sum_by-cons share_of x xs)))

all_empty : (l : List Cell) → ((k : ℕ) → get_or l k Empty ≡ Empty) → l ≡ replicate (length l) Empty
all_empty [] e = refl
all_empty (x ∷ xs) e = (λ i. e 0 i ∷ all_empty xs (λ k. e (suc k)) i)

not_held : (held : Bool) → 0 ≡ bit held → held ≡ false
not_held true e = absurd (cc (e))
not_held false e = refl

-- no turn is committed where no cell is touched
none_committed : (d : Dictatorship) (cells : List Cell) (count : ℕ)
    → ((k : ℕ) → k < count → get_or cells k Empty ≡ Committed (choice d k))
    → ((k : ℕ) → get_or cells k Empty ≡ Empty) → count ≡ 0
none_committed d cells zero below empty = refl
none_committed d cells (suc n) below empty =
    absurd (let e : Empty ≡ Committed (choice d 0) = sym (empty 0) ∙ below 0 (omega arith) in
    cc (e))

-- a bit is what its test says
bit_tested : (n : ℕ) → n < 2 → bit (eqb n 1) ≡ n
bit_tested zero l = refl
bit_tested (suc zero) l = refl
bit_tested (suc (suc n)) l = absurd (omega arith)

-- words of flags that raise the same programme's flag have the same bit there
same_bit : (flags others : List ℕ) (group b : ℕ) → b < FLAGS_PER_WORD
    → bit (is_raised_in (get_or flags (flag_group (FLAGS_PER_WORD * group + b)) 0)
    (FLAGS_PER_WORD * group + b))
    ≡ bit (is_raised_in (get_or others (flag_group (FLAGS_PER_WORD * group + b)) 0)
    (FLAGS_PER_WORD * group + b))
    → bit_at (get_or flags group 0) b ≡ bit_at (get_or others group 0) b
same_bit flags others group b l same =
    let p : ℕ = FLAGS_PER_WORD * group + b in
    let its_group : flag_group p ≡ group = omega arith in
    let its_bit : flag_bit p ≡ b = omega arith in
    let read : (fs : List ℕ) → bit (is_raised_in (get_or fs (flag_group p) 0) p)
    ≡ bit_at (get_or fs group 0) b =
    λ fs.
    bit_tested _ (bit_at-lt (get_or fs (flag_group p) 0) (flag_bit p))
    ∙ (λ k. bit_at (get_or fs (its_group k) 0) (its_bit k)) in
    sym (read flags) ∙ (same ∙ read others)

-- while all views are fresh the table of a round shows the core's opening state
pub shows_opening : (key : RoundKey) → ShowsOpening key
shows_opening key s h fresh =
    let d : Dictatorship = key.dict.value in
    let c : Core = table_core key s in
    let sound : IsSound d c = h.sound in
    let drawn : c.claim_number ≡ 0 =
    h.undrawn (λ i x is.
    let e = fresh i x is in (ap (λ (v : View). v.own) e, ap (λ (v : View). v.done) e)) in
    let views : c.views ≡ replicate key.workers fresh_view =
    fresh_views s.views fresh ∙ ap (λ (n : ℕ). replicate n fresh_view) h.shares in
    let empty : (k : ℕ) → get_or c.cells k Empty ≡ Empty =
    λ k. sound.claims.untouched k (omega arith) in
    let cells : c.cells ≡ replicate (turn_count d) Empty =
    all_empty c.cells empty ∙ ap (λ (n : ℕ). replicate n Empty) sound.cells.each_turn in
    let none : sound.count ≡ 0 = none_committed d c.cells sound.count sound.cells.below empty in
    let held : c.mark_held ≡ false =
    not_held c.mark_held
    (sym (ap (sum_by hold_bit) views ∙ sum_replicate hold_bit key.workers fresh_view refl)
    ∙ sound.mark.holders) in
    let number : c.mark_number ≡ 0 = sound.mark.free held ∙ none in
    let seats : c.seats ≡ d.fill =
    ext_get_or 0 c.seats d.fill (sound.seats.each_programme ∙ sym h.valid.fills)
    (λ p l.
    let long = sound.seats.each_programme in
    let nobody : sum_by (seat_bit d p) c.views ≡ 0 =
    ap (sum_by (seat_bit d p)) views ∙ sum_replicate (seat_bit d p) key.workers fresh_view refl in
    let takes : seats_taken d sound.count p ≡ 0 = ap (λ (k : ℕ). seats_taken d k p) none
    ∙ seats_taken-zero d p in
    let counted = sound.seats.counts p (omega arith) in
    omega arith) in
    let flags : c.flags ≡ first_flags d =
    ext_get_or 0 c.flags (first_flags d) (sound.flags.each_group ∙ sym (first_flags_long d))
    (λ group _. same_from_bits _ _ (λ b.
    elim (native.Mathlib.Decide.dec_le FLAGS_PER_WORD b) [
      | yes past ↦ sound.flags.narrow group b past ∙ sym (first_narrow d group b past)
      | no near ↦
          elim (native.Mathlib.Decide.dec_le (length d.quota) (FLAGS_PER_WORD * group + b)) [
            | yes past ↦ sound.flags.unused group b (omega arith) past
                ∙ sym (first_unused d group b (omega arith) past)
            | no own ↦ (
                let p : ℕ = FLAGS_PER_WORD * group + b in
                let nobody : sum_by (late_bit d p) c.views ≡ 0 =
                ap (sum_by (late_bit d p)) views
                ∙ sum_replicate (late_bit d p) key.workers fresh_view refl in
                let raised = sound.flags.raised p (omega arith) in
                let full : bit (nat_le (get_or d.quota p 0) (get_or c.seats p 0))
                ≡ bit (nat_le (get_or d.quota p 0) (get_or d.fill p 0)) =
                ap (λ (l : List ℕ). bit (nat_le (get_or d.quota p 0) (get_or l p 0))) seats in
                let first = ap bit (first_raised d p (omega arith)) in
                same_bit c.flags (first_flags d) group b (omega arith) (omega arith))
          ]
    ])) in
    λ k. record {
      claim_number = drawn k;
      mark_held = held k;
      mark_number = number k;
      seats = seats k;
      cells = cells k;
      flags = flags k;
      views = views k;
    }
