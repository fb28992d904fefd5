-- In a stable placement a full entry's programme has as many holders as its quota, and each has a
-- better rank than the candidate: the candidate finds it acceptable and prefers it to what is
-- held, so a free seat or a holder of worse rank would make the two block the placement.
use Rattle.std.proofs.Common.{◌≡◌, ℕ, ◌<◌, ◌≤◌, Bool, true, false, List, length, Option, Some, None, refl, sym, ap, ◌∙◌, arith, get_or, take, inl, inr, ⊎_elim}
use Rattle.std.specs.Prelude.{if◌then◌else◌, slice_index, ◌==◌}
use Rattle.std.specs.List.{list_any}
use Rattle.std.proofs.lemmas.Bool.{cases_Bool, cases_lt, cases_order, false≢true, eq-eqb, ne_eqb}
use Rattle.std.proofs.lemmas.List.{get_or-take, length-take-le}
use Rattle.std.proofs.lemmas.List.Folds.{list_any_at}
use Rattle.std.proofs.lemmas.List.Sums.{position_or_len_is}
use Rattle.market.specs.Counting.{is_programme, count_of}
use Rattle.market.specs.Problems.{Problem, IsValid, IsAcceptable, HasNoRepeats, admits, bar_of, kind_of, list_of, order_of, place_of, quota_of, rank_of, turn_of}
use Rattle.market.specs.BaseRanks.{base_rank}
use Rattle.market.specs.Stability.{IsBetter, IsBlocking, IsStable, Prefers, held_by}
use Rattle.market.proofs.Firsts.{place_get, place_same}
use Rattle.market.proofs.Turns.{is_programme-from}
use Rattle.market.proofs.Valid.{candidate_lt, listed_kind, admitted-turn, turn-better}
use Rattle.reports.specs.FullEntries.{FullMeansFilled}
use Rattle.reports.specs.Reasons.{entry_at, reason_of, refusal, stands_before}
use Rattle.reports.specs.declared.reasons.Reason.TheVariants.{Full}
use Rattle.reports.proofs.EntryTests.{IsFullEntry, reason-placed, reason-below, reason-above}

-- the place of an entry in a list without repeats
pub place-at : (xs : List ℕ) → HasNoRepeats xs → (place : ℕ) → place < length xs
    → place_of (slice_index xs place) xs ≡ place
place-at xs distinct place l =
    position_or_len_is (λ y. y == slice_index xs place) xs place 0 (omega arith)
    (λ k lk. ne_eqb (get_or xs k 0) (slice_index xs place) (distinct k place lk l))
    (λ _. eq-eqb (get_or xs place 0) (slice_index xs place) refl)

-- what stands before a place is found before it
found-before : (xs : List ℕ) (q place : ℕ) → place_of q xs < place → place ≤ length xs
    → list_any (λ y. y == q) (take place xs) ≡ true
found-before xs q place l within =
    let size = length-take-le place xs within in
    list_any_at (λ y. y == q) (take place xs) (place_of q xs) 0 (omega arith)
    (eq-eqb (get_or (take place xs) (place_of q xs) 0) q
    (get_or-take place xs (place_of q xs) 0 l ∙ place_get q xs 0 (omega arith)))

-- what is refused is not full
refusal-not_full : (rank bar base : Option ℕ) → refusal rank bar ≡ Full base → ⊥
refusal-not_full None bar base e = absurd (cc e)
refusal-not_full (Some rank) None base e = absurd (cc e)
refusal-not_full (Some rank) (Some bar) base e = absurd (cc e)

-- the three tests of an entry whose reason is that it is full
full-entry : (m : Problem) (held : List (Option ℕ)) (i place : ℕ) (base : Option ℕ)
    → reason_of m held i place ≡ Full base → IsFullEntry m held i place
full-entry m held i place base full =
    let p = entry_at m i place in
    ⊎_elim
    (λ placed. let e = reason-placed m held i place placed in absurd cc)
    (λ not_held. ⊎_elim
    (λ before. let e = reason-below m held i place not_held before in absurd cc)
    (λ not_below. ⊎_elim
    (λ admitted. record { not_held = not_held; not_below = not_below; admitted = admitted })
    (λ refused.
    let rank = rank_of m (kind_of m p) i in
    let e = reason-above m held i place not_held not_below
    ∙ ap (λ (b : Bool). if b then Full (base_rank m held p) else refusal rank (bar_of m p)) refused
    in
    absurd (refusal-not_full rank (bar_of m p) base (sym e ∙ full)))
    (cases_Bool (admits m p i)))
    (cases_Bool (stands_before (list_of m i) (held_by held i) place)))
    (cases_Bool (is_programme p (held_by held i)))

-- a listed programme that is not held, below no held one, is preferred to what is held
pub prefers : (list : List ℕ) (holds : Option ℕ) (place : ℕ) → HasNoRepeats list
    → place < length list
    → ((q : ℕ) → holds ≡ Some q → place_of q list < length list)
    → is_programme (slice_index list place) holds ≡ false
    → stands_before list holds place ≡ false → Prefers list (slice_index list place) holds
prefers list None place distinct l listed other none =
    let at = place-at list distinct place l in omega arith
prefers list (Some q) place distinct l listed other none =
    let at = place-at list distinct place l in
    let there = listed q refl in (
      ⊎_elim
          (λ same. absurd (false≢true (sym other
          ∙ is_programme-from (slice_index list place) (Some q)
          (ap Some (sym (place_same (slice_index list place) q list (omega arith)
          (at ∙ sym same)))))))
          (λ o. ⊎_elim
          (λ before. absurd (false≢true (sym none
          ∙ found-before list q place before (omega arith))))
          (λ after. omega arith)
          o)
          (cases_order (place_of q list) place),
      there,
    )

-- a holder has a better rank than a candidate without the programme, or a worse one
pub record IsFullFor (m : Problem) (held : List (Option ℕ)) (i p : ℕ) : Type 0 where
  pub acceptable : IsAcceptable m i p
  pub blocks_not : IsBlocking m held i p → ⊥
  pub preferred : Prefers (list_of m i) p (held_by held i)
  pub not_held : is_programme p (held_by held i) ≡ false

better-holder : (m : Problem) → IsValid m → (held : List (Option ℕ)) → IsStable m held
    → (i p j : ℕ) → IsFullFor m held i p → held_by held j ≡ Some p
    → IsBetter (rank_of m (kind_of m p) j) (rank_of m (kind_of m p) i)
unfolding turn_of
better-holder m v held stable i p j f holds =
    let a = stable.placement.acceptable j p holds in
    let t = kind_of m p in
    let types = listed_kind m v i p f.acceptable.listed in
    let turn_i = admitted-turn m v i p types f.acceptable.admitted in
    let turn_j = admitted-turn m v j p types a.admitted in
    ⊎_elim
    (λ same.
    let one = place_same i j (order_of m t) turn_i same in
    absurd (false≢true (sym f.not_held ∙ is_programme-from p (held_by held i)
    (ap (held_by held) one ∙ holds))))
    (λ o. ⊎_elim
    (λ earlier. absurd (f.blocks_not (record {
      acceptable = f.acceptable;
      preferred = f.preferred;
      room = inr (record {
        holder = j;
        holds = holds;
        worse =
            turn-better m v t i j types earlier turn_j;
      });
    })))
    (λ later. turn-better m v t j i types later turn_i)
    o)
    (cases_order (turn_of m t i) (turn_of m t j))

-- the law
pub full_means_filled : (m : Problem) → IsValid m → (held : List (Option ℕ)) → IsStable m held
    → FullMeansFilled m held
full_means_filled m v held stable i place base l full =
    let p = entry_at m i place in
    let list = list_of m i in
    let e = full-entry m held i place base full in
    let distinct = v.list_distinct i (candidate_lt m i place l) in
    let at = place-at list distinct place l in
    let f : IsFullFor m held i p = record {
      acceptable = record { listed = omega arith; admitted = e.admitted };
      blocks_not = stable.unblocked i p;
      preferred = prefers list (held_by held i) place distinct l
          (λ q h. (stable.placement.acceptable i q h).listed) e.not_held e.not_below;
      not_held = e.not_held;
    } in
    let most = stable.placement.quotas p in
    record {
      full = ⊎_elim
          (λ free. absurd (stable.unblocked i p (record {
            acceptable = f.acceptable;
            preferred = f.preferred;
            room = inl free;
          })))
          (λ none. omega arith)
          (cases_lt (count_of p held) (quota_of m p));
      better = λ j holds. better-holder m v held stable i p j f holds;
    }
