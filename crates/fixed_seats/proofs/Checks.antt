-- Tests that compute whether a placement that is written out is stable. To show that one is, cite
-- `stable_from` with `refl` for each test, under an `unfolding` line with the tests and `computes`.
use Rattle.std.proofs.Common.{◌≡◌, ℕ, Bool, true, false, not, ◌&&◌, ◌||◌, ltb, leb, eqb, List, length, Option, Some, None, refl, sym, ◌∙◌, subst, arith, ⊎_elim}
use Rattle.std.proofs.lemmas.Bool.{and_parts, or_parts, cases_lt, lt-ltb, leb-true, ltb-true, eqb-true, false≢true, not-true}
use Rattle.market.specs.Counting.{count_of, is_programme}
use Rattle.market.specs.Problems.{Problem, IsAcceptable, IsValid, admits, kind_of, list_of, place_of, quota_of, rank_of}
use Rattle.market.specs.Stability.{held_by, HasWorseHolder, IsBetter, IsBlocking, IsStable, Prefers}
use Rattle.market.proofs.Checks.{all_below, all_below_at}
use Rattle.market.proofs.Turns.{is_programme-from}
use Rattle.market.proofs.Tallies.{count_none}
use Rattle.market.proofs.Valid.{candidate_lt}
use Rattle.fixed_seats.proofs.Shared.{listed_lt}
use Rattle.fixed_seats.proofs.Totals.{holder_lt}

-- ---- the tests

-- whether what a candidate holds is acceptable, or nothing
abbrev pub holds_fitting : Problem → ℕ → Option ℕ → Bool
holds_fitting m i None = true
holds_fitting m i (Some p) =
    ltb (place_of p (list_of m i)) (length (list_of m i)) && admits m p i

-- whether there is an entry for each candidate, each fitting, and no quota is exceeded
unfoldable pub is_fitting : Problem → List (Option ℕ) → Bool
is_fitting m held =
    eqb (length held) (length m.lists)
    && (all_below (λ i. holds_fitting m i (held_by held i)) (length held)
    && all_below (λ p. leb (count_of p held) (quota_of m p)) (length m.programmes))

-- whether p is preferred to what is held
abbrev pub is_wanted : List ℕ → ℕ → Option ℕ → Bool
is_wanted list p None = ltb (place_of p list) (length list)
is_wanted list p (Some q) = ltb (place_of p list) (place_of q list)

-- whether one rank is better than another
abbrev pub is_better : Option ℕ → Option ℕ → Bool
is_better (Some a) (Some b) = ltb a b
is_better (Some a) None = false
is_better None b = false

-- whether this candidate holds p, with a worse rank than candidate i
abbrev pub is_worse_holder : Problem → List (Option ℕ) → ℕ → ℕ → ℕ → Bool
is_worse_holder m held i p h =
    is_programme p (held_by held h)
    && is_better (rank_of m (kind_of m p) i) (rank_of m (kind_of m p) h)

-- whether candidate i wants p, which has a free seat or a holder of worse rank
abbrev pub is_blocking : Problem → List (Option ℕ) → ℕ → ℕ → Bool
is_blocking m held i p =
    is_wanted (list_of m i) p (held_by held i)
    && (ltb (count_of p held) (quota_of m p)
    || not (all_below (λ h. not (is_worse_holder m held i p h)) (length held)))

-- whether no candidate and programme are such
unfoldable pub is_unblocked : Problem → List (Option ℕ) → Bool
is_unblocked m held =
    all_below (λ i. all_below (λ p. not (is_blocking m held i p)) (length m.programmes))
    (length m.lists)

-- ---- what they show

acceptable_from : (m : Problem) (i p : ℕ) (o : Option ℕ) → holds_fitting m i o ≡ true
    → o ≡ Some p → IsAcceptable m i p
acceptable_from m i p None fits e = absurd (cc e)
acceptable_from m i p (Some q) fits e =
    let parts = and_parts (ltb (place_of q (list_of m i)) (length (list_of m i))) (admits m q i)
    fits in
    let same : q ≡ p = cc in
    subst (IsAcceptable m i) same (record { listed = ltb-true _ _ parts.0; admitted = parts.1 })

wanted-true : (list : List ℕ) (p : ℕ) (o : Option ℕ) → Prefers list p o → is_wanted list p o ≡ true
wanted-true list p None preferred = lt-ltb _ _ preferred
wanted-true list p (Some q) preferred = lt-ltb _ _ preferred.0

better-true : (a b : Option ℕ) → IsBetter a b → is_better a b ≡ true
better-true (Some a) (Some b) better = lt-ltb a b better
better-true (Some a) None better = absurd better
better-true None b better = absurd better

second_fails : (a b : Bool) → a ≡ true → (a && b) ≡ false → b ≡ false
second_fails true b e f = f
second_fails false b e f = absurd (false≢true e)

passes_from : (b : Bool) → not b ≡ false → b ≡ true
passes_from true e = refl
passes_from false e = absurd (false≢true (sym e))

both_pass : (a b : Bool) → a ≡ true → b ≡ true → (a && b) ≡ true
both_pass true b e f = f
both_pass false b e f = absurd (false≢true e)

-- a placement that passes has no worse holder where the test finds none
no_worse : (m : Problem) (held : List (Option ℕ)) (i p : ℕ)
    → all_below (λ h. not (is_worse_holder m held i p h)) (length held) ≡ true
    → HasWorseHolder m held i p → ⊥
no_worse m held i p none w =
    let h = w.holder in
    let not_worse = not-true (is_worse_holder m held i p h)
    (all_below_at (λ j. not (is_worse_holder m held i p j)) (length held) h none
    (holder_lt held h p w.holds)) in
    let worse = both_pass (is_programme p (held_by held h))
    (is_better (rank_of m (kind_of m p) i) (rank_of m (kind_of m p) h))
    (is_programme-from p (held_by held h) w.holds)
    (better-true (rank_of m (kind_of m p) i) (rank_of m (kind_of m p) h) w.worse) in
    false≢true (sym not_worse ∙ worse)

-- and no pair blocks it
unblocked_from : (m : Problem) → IsValid m → (held : List (Option ℕ)) → is_unblocked m held ≡ true
    → (i p : ℕ) → IsBlocking m held i p → ⊥
unfolding is_unblocked
unblocked_from m v held tested i p b =
    let listed = b.acceptable.listed in
    let own = candidate_lt m i (place_of p (list_of m i)) listed in
    let of_list = all_below_at _ (length m.lists) i tested own in
    let of_pair = all_below_at _ (length m.programmes) p of_list (listed_lt m v i p listed) in
    let room = or_parts (ltb (count_of p held) (quota_of m p))
    (not (all_below (λ h. not (is_worse_holder m held i p h)) (length held)))
    (second_fails (is_wanted (list_of m i) p (held_by held i)) _
    (wanted-true (list_of m i) p (held_by held i) b.preferred)
    (not-true (is_blocking m held i p) of_pair)) in
    ⊎_elim
    (λ free. false≢true (sym room.0 ∙ lt-ltb _ _ free))
    (λ worse. no_worse m held i p (passes_from _ room.1) worse)
    b.room

-- a placement that passes both tests is stable
pub stable_from : (m : Problem) → IsValid m → (held : List (Option ℕ)) → is_fitting m held ≡ true
    → is_unblocked m held ≡ true → IsStable m held
unfolding is_fitting
stable_from m v held fits tested =
    let size = and_parts _ _ fits in
    let rest = and_parts _ _ size.1 in
    let acceptable = λ (i p : ℕ) (holds : held_by held i ≡ Some p).
    acceptable_from m i p (held_by held i)
    (all_below_at (λ j. holds_fitting m j (held_by held j)) (length held) i rest.0
    (holder_lt held i p holds)) holds in
    record {
      placement = record {
        candidates = eqb-true _ _ size.0;
        acceptable = acceptable;
        quotas = λ p.
            ⊎_elim
            (λ within. leb-true _ _
            (all_below_at (λ q. leb (count_of q held) (quota_of m q)) (length m.programmes) p rest.1
            within))
            (λ past.
            let none = count_none p held (λ i holds.
            let within = listed_lt m v i p (acceptable i p holds).listed in absurd (omega arith)) in
            omega arith)
            (cases_lt p (length m.programmes));
      };
      unblocked = unblocked_from m v held tested;
    }
