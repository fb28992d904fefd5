-- The first verdict by relations is the first of all that is said by tests.
use Rattle.std.proofs.Common.{◌≡◌, ◌⊎◌, ℕ, zero, suc, ◌+◌, ◌<◌, ◌≤◌, Bool, true, false, List, [], ◌∷◌, ◌++◌, length, map, Option, Some, None, refl, sym, ap, ◌∙◌, subst, inl, inr, arith, append-nil, ◌||◌, ⊎_elim}
use Rattle.std.specs.Prelude.{filter}
use Rattle.std.specs.List.{flat_map, range_with_len}
use Rattle.std.proofs.lemmas.Bool.{and_from, and_parts, cases_eq, cases_lt, cond-false, cond-true, false_from_ne_true, le-ltb, lt-ltb, ltb-true, or_left, or_right, false≢true}
use Rattle.std.proofs.lemmas.List.{get_or_past}
use Rattle.std.proofs.lemmas.Option.{none-some}
use Rattle.market.specs.BaseRanks.{base_rank}
use Rattle.market.specs.Counting.{count_of}
use Rattle.market.specs.Problems.{IsAcceptable, Problem, kind_of, list_of, place_of, quota_of, rank_of}
use Rattle.market.specs.Stability.{HasWorseHolder, IsBlocking, Prefers, held_by}
use Rattle.market.proofs.Firsts.{place-cons-le, place-here, place-next}
use Rattle.market.proofs.Tallies.{count_none}
use Rattle.market.proofs.Valid.{candidate_lt}
use Rattle.reports.specs.BaseTables.{HoldsProgrammes}
use Rattle.stability_audit.specs.FirstVerdicts.{all_said, blocks, first_said, has_room, is_acceptable, is_better, is_kept, is_preferred, said_of_candidate, said_of_list, said_of_programme, verdict_of}
use Rattle.stability_audit.specs.Verdicts.{HeldIsAcceptable, IsOverQuota, IsVerdict}
use Rattle.stability_audit.specs.declared.verdict.Verdict.{Verdict}
use Rattle.stability_audit.specs.declared.verdict.Verdict.TheVariants.{Stable, OverQuota, NotAcceptable, Blocking}
use Rattle.stability_audit.proofs.Rooms.{worse-true, worse-from}

-- ---- the first of what is said of numbers in a row

-- nothing is said where nothing is said of any
none-said : (say : ℕ → List Verdict) (a n : ℕ) → ((k : ℕ) → k < a + n → say k ≡ [])
    → flat_map say (range_with_len a n) ≡ []
none-said say a zero none = refl
none-said say a (suc n) none =
    ap (λ v. v ++ flat_map say (range_with_len (a + 1) n)) (none a (omega arith))
    ∙ none-said say (a + 1) n (λ k l. none k (omega arith))

-- what comes first is said of the first of which anything is said
first-among : (say : ℕ → List Verdict) (a n k : ℕ) (verdict : Verdict) (more rest : List Verdict)
    → a ≤ k → k < a + n → ((j : ℕ) → j < k → say j ≡ []) → say k ≡ verdict ∷ more
    → first_said (flat_map say (range_with_len a n) ++ rest) ≡ verdict
first-among say a zero k verdict more rest from to none some = absurd (omega arith)
first-among say a (suc n) k verdict more rest from to none some =
    let others = flat_map say (range_with_len (a + 1) n) in
    ⊎_elim
    (λ (later : a < k).
    ap (λ v. first_said ((v ++ others) ++ rest)) (none a later)
    ∙ first-among say (a + 1) n k verdict more rest (omega arith) (omega arith) none some)
    (λ (here : k ≤ a).
    let same : a ≡ k = omega arith in
    ap (λ v. first_said ((v ++ others) ++ rest)) (ap say same ∙ some))
    (cases_lt a k)

-- ---- the first entry of a list that passes a test

filter-first : (test : ℕ → Bool) (list : List ℕ) (p : ℕ) → place_of p list < length list
    → test p ≡ true → ((q : ℕ) → place_of q list < place_of p list → test q ≡ false)
    → (more : List ℕ) × (filter test list ≡ p ∷ more)
filter-first test [] p listed passes before = absurd (omega arith)
filter-first test (x ∷ xs) p listed passes before =
    ⊎_elim
    (λ (same : x ≡ p). (
      filter test xs,
      cond-true (test x) _ _ (ap test same ∙ passes)
          ∙ ap (λ v. v ∷ filter test xs) same,
    ))
    (λ other.
    let next = place-next x p xs other in
    let here = place-here x xs in
    let rest = filter-first test xs p (omega arith) passes
    (λ q less. let within = place-cons-le x q xs in before q (omega arith)) in
    (rest.0, cond-false (test x) _ _ (before x (omega arith)) ∙ rest.1))
    (cases_eq x p)

filter-none : (test : ℕ → Bool) (list : List ℕ)
    → ((q : ℕ) → place_of q list < length list → test q ≡ false) → filter test list ≡ []
filter-none test [] none = refl
filter-none test (x ∷ xs) none =
    let here = place-here x xs in
    cond-false (test x) _ _ (none x (omega arith))
    ∙ filter-none test xs (λ q l. let within = place-cons-le x q xs in none q (omega arith))

-- ---- what the tests say

acceptable-true : (m : Problem) (i p : ℕ) → IsAcceptable m i p → is_acceptable m i p ≡ true
acceptable-true m i p a = and_from _ _ (lt-ltb _ _ a.listed) a.admitted

acceptable-from : (m : Problem) (i p : ℕ) → is_acceptable m i p ≡ true → IsAcceptable m i p
acceptable-from m i p e =
    let both = and_parts _ _ e in
    record { listed = ltb-true _ _ both.0; admitted = both.1 }

kept-true : (m : Problem) (held : List (Option ℕ)) (i : ℕ) → HeldIsAcceptable m held i
    → is_kept m i (held_by held i) ≡ true
kept-true m held i acceptable = by_holding (held_by held i) refl
  where
    by_holding : (o : Option ℕ) → held_by held i ≡ o → is_kept m i o ≡ true
    by_holding None e = refl
    by_holding (Some p) e = acceptable-true m i p (acceptable p e)

kept-from : (m : Problem) (held : List (Option ℕ)) (i : ℕ) → is_kept m i (held_by held i) ≡ true
    → HeldIsAcceptable m held i
kept-from m held i e = λ p holds. acceptable-from m i p (sym (ap (is_kept m i) holds) ∙ e)

preferred-true : (list : List ℕ) (p : ℕ) (o : Option ℕ) → Prefers list p o
    → is_preferred list p o ≡ true
preferred-true list p None l = lt-ltb _ _ l
preferred-true list p (Some q) (before, listed) =
    and_from _ _ (lt-ltb _ _ before) (lt-ltb _ _ listed)

preferred-from : (list : List ℕ) (p : ℕ) (o : Option ℕ) → is_preferred list p o ≡ true
    → Prefers list p o
preferred-from list p None e = ltb-true _ _ e
preferred-from list p (Some q) e =
    let both = and_parts _ _ e in (ltb-true _ _ both.0, ltb-true _ _ both.1)

room-true : (m : Problem) (held : List (Option ℕ)) (i p : ℕ)
    → (count_of p held < quota_of m p) ⊎ HasWorseHolder m held i p → has_room m held i p ≡ true
room-true m held i p (inl free) = or_left _ _ (lt-ltb _ _ free)
room-true m held i p (inr w) = or_right _ _ (worse-true m held i p w)

room-from : (m : Problem) (held : List (Option ℕ)) (i p : ℕ) → has_room m held i p ≡ true
    → (count_of p held < quota_of m p) ⊎ HasWorseHolder m held i p
room-from m held i p e =
    ⊎_elim
    (λ free. inl free)
    (λ full. inr (worse-from m held i p
    (sym (ap (λ b. b || is_better (rank_of m (kind_of m p) i) (base_rank m held p))
    (le-ltb _ _ full)) ∙ e)))
    (cases_lt (count_of p held) (quota_of m p))

blocks-true : (m : Problem) (held : List (Option ℕ)) (i p : ℕ) → IsBlocking m held i p
    → blocks m held i p ≡ true
blocks-true m held i p b =
    and_from _ _ (acceptable-true m i p b.acceptable)
    (and_from _ _ (preferred-true (list_of m i) p (held_by held i) b.preferred)
    (room-true m held i p b.room))

blocks-false : (m : Problem) (held : List (Option ℕ)) (i p : ℕ) → (IsBlocking m held i p → ⊥)
    → blocks m held i p ≡ false
blocks-false m held i p never =
    false_from_ne_true (blocks m held i p) (λ e.
    let first = and_parts _ _ e in
    let second = and_parts _ _ first.1 in
    never (record {
      acceptable = acceptable-from m i p first.0;
      preferred = preferred-from (list_of m i) p (held_by held i) second.0;
      room = room-from m held i p second.1;
    }))

-- ---- what is said of a programme, of a candidate, and of a list

not-over : (m : Problem) (held : List (Option ℕ)) (p : ℕ) → (IsOverQuota m held p → ⊥)
    → said_of_programme m held p ≡ []
not-over m held p never =
    ⊎_elim
    (λ over. absurd (never over))
    (λ within. cond-false _ _ _ (le-ltb _ _ within))
    (cases_lt (quota_of m p) (count_of p held))

keeps : (m : Problem) (held : List (Option ℕ)) (i : ℕ) → HeldIsAcceptable m held i
    → said_of_candidate m held i ≡ []
keeps m held i acceptable = cond-true _ _ _ (kept-true m held i acceptable)

keeps-not : (m : Problem) (held : List (Option ℕ)) (i : ℕ) → (HeldIsAcceptable m held i → ⊥)
    → said_of_candidate m held i ≡ NotAcceptable i ∷ []
keeps-not m held i never =
    cond-false _ _ _ (false_from_ne_true _ (λ e. never (kept-from m held i e)))

blocks-nowhere : (m : Problem) (held : List (Option ℕ)) (i : ℕ)
    → ((p : ℕ) → IsBlocking m held i p → ⊥) → said_of_list m held i ≡ []
blocks-nowhere m held i never =
    ap (map (λ p. Blocking i p)) (filter-none (blocks m held i) (list_of m i)
    (λ p _. blocks-false m held i p (never p)))

-- a programme over its quota is one of the market
pub over-within : (m : Problem) (held : List (Option ℕ)) (p : ℕ) → HoldsProgrammes m held
    → IsOverQuota m held p → p < length m.programmes
over-within m held p programmes over =
    ⊎_elim
    (λ within. within)
    (λ past.
    let none = count_none p held
    (λ i holds. let is = programmes i p holds in absurd (omega arith)) in
    absurd (omega arith))
    (cases_lt p (length m.programmes))

-- who holds what is not acceptable is a candidate
pub holder-within : (m : Problem) (held : List (Option ℕ)) (i : ℕ) → length held ≡ length m.lists
    → (HeldIsAcceptable m held i → ⊥) → i < length m.lists
holder-within m held i sizes never =
    ⊎_elim
    (λ within. within)
    (λ past.
    absurd (never (λ p holds.
    absurd (none-some p (sym (get_or_past held i None (omega arith)) ∙ holds)))))
    (cases_lt i (length m.lists))

-- ---- the verdict

-- the first verdict is the first that is said
pub first-verdict : (m : Problem) (held : List (Option ℕ)) → HoldsProgrammes m held
    → length held ≡ length m.lists → (v : Verdict) → IsVerdict m held v → v ≡ verdict_of m held
unfolding all_said
first-verdict m held programmes sizes Stable h =
    let none_over = none-said (said_of_programme m held) 0 (length m.programmes)
    (λ p _. not-over m held p (λ over. let most = h.placement.quotas p in omega arith)) in
    let all_keep = none-said (said_of_candidate m held) 0 (length m.lists)
    (λ i _. keeps m held i (λ p holds. h.placement.acceptable i p holds)) in
    let none_block = none-said (said_of_list m held) 0 (length m.lists)
    (λ i _. blocks-nowhere m held i (h.unblocked i)) in
    let nothing : all_said m held ≡ [] = rw none_over (rw all_keep none_block) in
    sym (ap first_said nothing)
first-verdict m held programmes sizes (OverQuota p) h =
    let within = over-within m held p programmes h.over in
    sym (first-among (said_of_programme m held) 0 (length m.programmes) p (OverQuota p) [] _
    (omega arith) (omega (arith, within))
    (λ q less. not-over m held q (h.first q less)) (cond-true _ _ _ (lt-ltb _ _ h.over)))
first-verdict m held programmes sizes (NotAcceptable i) h =
    let none_over = none-said (said_of_programme m held) 0 (length m.programmes)
    (λ p _. not-over m held p (h.quotas p)) in
    let within = holder-within m held i sizes h.unacceptable in
    sym (ap (λ v. first_said (v ++
    (flat_map (said_of_candidate m held) (range_with_len 0 (length m.lists))
    ++ flat_map (said_of_list m held) (range_with_len 0 (length m.lists))))) none_over
    ∙ first-among (said_of_candidate m held) 0 (length m.lists) i (NotAcceptable i) [] _
    (omega arith) (omega (arith, within))
    (λ j less. keeps m held j (h.first j less)) (keeps-not m held i h.unacceptable))
first-verdict m held programmes sizes (Blocking i p) h =
    let none_over = none-said (said_of_programme m held) 0 (length m.programmes)
    (λ q _. not-over m held q (h.quotas q)) in
    let all_keep = none-said (said_of_candidate m held) 0 (length m.lists)
    (λ j _. keeps m held j (h.acceptable j)) in
    let lists = flat_map (said_of_list m held) (range_with_len 0 (length m.lists)) in
    let entry = filter-first (blocks m held i) (list_of m i) p h.blocks.acceptable.listed
    (blocks-true m held i p h.blocks)
    (λ q less. blocks-false m held i q (h.first_entry q less)) in
    let within = candidate_lt m i (place_of p (list_of m i)) h.blocks.acceptable.listed in
    sym (ap (λ v. first_said (v ++
    (flat_map (said_of_candidate m held) (range_with_len 0 (length m.lists))
    ++ lists))) none_over
    ∙ ap (λ v. first_said (v ++ lists)) all_keep
    ∙ ap first_said (sym (append-nil lists))
    ∙ first-among (said_of_list m held) 0 (length m.lists) i (Blocking i p)
    (map (λ q. Blocking i q) entry.0) [] (omega arith) (omega (arith, within))
    (λ j less. blocks-nowhere m held j (λ q b. h.first_candidate j q less b))
    (ap (map (λ q. Blocking i q)) entry.1))
