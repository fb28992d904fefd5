-- The programmes and the lists after the first candidates were looked at: how they change with one
-- more. A seat that is kept is one of its programme's, since a placement is within the quotas.
use Rattle.std.proofs.Common.{◌≡◌, ◌≢◌, ℕ, zero, suc, ◌+◌, ◌-◌, ◌<◌, ◌≤◌, Bool, true, false, cond, List, [], length, Option, Some, None, refl, sym, ap, ◌∙◌, subst, arith, get_or, set, ⊎_elim}
use Rattle.std.specs.Prelude.{is_some, if◌then◌else◌, slice_index_or}
use Rattle.std.proofs.lemmas.Bool.{cases_lt, cases_eq, ne_eqb}
use Rattle.std.proofs.lemmas.List.{length-set, get_or-set_same, get_or-set_other, get_or_past}
use Rattle.std.proofs.lemmas.List.FromFn.{fill_by_all}
use Rattle.market.specs.Counting.{count_below, count_of, is_programme}
use Rattle.market.specs.Problems.{no_programme}
use Rattle.market.specs.Stability.{held_by}
use Rattle.market.specs.declared.programme.Prog.{Prog}
use Rattle.market.proofs.Counts.{suc_count}
use Rattle.market.proofs.Tallies.{at_turn, tally, tally-le, tally-le-count}
use Rattle.market.proofs.Turns.{is_programme-from, no_more, one_more}
use Rattle.second_placement.specs.SeatsLeft.{has_registered, list_left, lists_left, programme_left, programmes_left, registered_count, seat_kept}

-- how many of the first k candidates keep a seat of p
abbrev pub kept_among : List (Option ℕ) → List Bool → ℕ → ℕ → ℕ
kept_among held registered k p = count_below (λ i. is_programme p (seat_kept held registered i)) k

-- ---- who keeps a seat holds it

kept-tally : (held : List (Option ℕ)) (registered : List Bool) (k p : ℕ)
    → kept_among held registered k p ≡ tally (seat_kept held registered) k p
kept-tally held registered zero p = refl
kept-tally held registered (suc k) p =
    ap (λ (n : ℕ). n + cond (is_programme p (seat_kept held registered k)) 1 0)
    (kept-tally held registered k p)

kept-held : (holds : Option ℕ) (registers : Bool) (p : ℕ)
    → (if registers then holds else None) ≡ Some p → holds ≡ Some p
kept-held holds true p e = e
kept-held holds false p e = cc

-- so a programme's kept seats are at most its holders
pub kept-few : (held : List (Option ℕ)) (registered : List Bool) (k p : ℕ)
    → kept_among held registered k p ≤ count_of p held
kept-few held registered k p =
    let same = kept-tally held registered k p in
    let holders = tally-le (seat_kept held registered) (at_turn held (λ i. i)) k p
    (λ i l e. kept-held (held_by held i) (has_registered registered i) p e) in
    let few = tally-le-count (λ i. i) p k (λ i j l h e. omega arith) held in
    omega arith

-- ---- the programmes

-- a programme with the seats that those of the first k candidates leave who keep one
abbrev pub programme_after : List Prog → List (Option ℕ) → List Bool → ℕ → ℕ → Prog
programme_after before held registered k p =
    let old = slice_index_or before p no_programme in
    record old { quota = old.quota - kept_among held registered k p }

-- all programmes so
pub record AreLeftAfter (before : List Prog) (held : List (Option ℕ)) (registered : List Bool)
    (k : ℕ) (now : List Prog) : Type 0 where
  pub count : length now ≡ length before
  pub each : (p : ℕ) → p < length before
      → slice_index_or now p no_programme ≡ programme_after before held registered k p

-- what a quota makes of a programme
abbrev pub with_seats : Prog → ℕ → Prog
with_seats old quota = record old { quota = quota }

module _ (before : List Prog) (held : List (Option ℕ)) (registered : List Bool) where
  -- at first nobody was looked at
  pub left-first : AreLeftAfter before held registered 0 before
  left-first =
      record {
        count = refl;
        each =
            λ p l. let old = get_or before p no_programme in
            ap (with_seats old) (omega arith);
      }

  -- who keeps no seat changes nothing
  pub left-skip : (k : ℕ) (now : List Prog) → seat_kept held registered k ≡ None
      → AreLeftAfter before held registered k now → AreLeftAfter before held registered (k + 1) now
  left-skip k now none left =
      record {
        count = left.count;
        each =
            λ p l. let old = get_or before p no_programme in
            let more = suc_count (λ i. is_programme p (seat_kept held registered i)) k in
            let no = no_more (is_programme p (seat_kept held registered k))
            (ap (is_programme p) none) in
            let same : kept_among held registered (k + 1) p ≡ kept_among held registered k p =
            omega arith in
            left.each p l ∙ ap (λ (n : ℕ). with_seats old (old.quota - n)) (sym same);
      }

  -- one who does takes it from its programme
  pub left-more : (k p : ℕ) (now more : List Prog) → seat_kept held registered k ≡ Some p
      → p < length before → AreLeftAfter before held registered k now
      → more ≡ set now p (with_seats (get_or now p no_programme)
      ((get_or now p no_programme).quota - 1))
      → AreLeftAfter before held registered (k + 1) more
  left-more k p now more kept l left written =
      let lowered = with_seats (get_or now p no_programme)
      ((get_or now p no_programme).quota - 1) in
      let within : p < length now = subst (λ (n : ℕ). p < n) (sym left.count) l in
      record {
        count = ap (λ (xs : List Prog). length xs) written ∙ length-set now p lowered ∙ left.count;
        each = λ q lq. ap (λ (xs : List Prog). get_or xs q no_programme) written ∙ ⊎_elim
            (λ (same : q ≡ p).
            subst (λ (x : ℕ). get_or (set now p lowered) x no_programme
            ≡ programme_after before held registered (k + 1) x) (sym same)
            (get_or-set_same now p lowered no_programme within ∙ own))
            (λ (ne : q ≢ p). get_or-set_other now p q lowered no_programme ne ∙ left.each q lq
            ∙ other q ne)
            (cases_eq q p);
      }
    where
      own : with_seats (get_or now p no_programme) ((get_or now p no_programme).quota - 1)
          ≡ programme_after before held registered (k + 1) p
      own =
          let old = get_or before p no_programme in
          let count = kept_among held registered k p in
          let one = one_more (is_programme p (seat_kept held registered k))
          (is_programme-from p (seat_kept held registered k) kept) in
          let next = suc_count (λ i. is_programme p (seat_kept held registered i)) k in
          let less : old.quota - count - 1 ≡ old.quota - kept_among held registered (k + 1) p =
          omega arith in
          ap (λ (x : Prog). with_seats x (x.quota - 1)) (left.each p l) ∙ ap (with_seats old) less

      other : (q : ℕ) → q ≢ p → programme_after before held registered k q
          ≡ programme_after before held registered (k + 1) q
      other q ne =
          let old = get_or before q no_programme in
          let next = suc_count (λ i. is_programme q (seat_kept held registered i)) k in
          let no = no_more (is_programme q (seat_kept held registered k))
          (ap (is_programme q) kept ∙ ne_eqb p q (λ same. ne (sym same))) in
          let same : kept_among held registered (k + 1) q ≡ kept_among held registered k q =
          omega arith in
          ap (λ (n : ℕ). with_seats old (old.quota - n)) (sym same)

  -- in the end all were looked at
  pub left-all : (now : List Prog) → AreLeftAfter before held registered (length held) now
      → now ≡ programmes_left before held registered
  unfolding programmes_left registered_count
  left-all now left =
      fill_by_all (programme_left before held registered) now (length before) no_programme
      left.count left.each

  module _ (room : (p : ℕ) → count_of p held ≤ (slice_index_or before p no_programme).quota) where
    -- a seat that is kept is one more than those that were kept before
    pub seat-left : (k p : ℕ) → seat_kept held registered k ≡ Some p
        → kept_among held registered k p + 1 ≤ (slice_index_or before p no_programme).quota
    seat-left k p kept =
        let one = one_more (is_programme p (seat_kept held registered k))
        (is_programme-from p (seat_kept held registered k) kept) in
        let next = suc_count (λ i. is_programme p (seat_kept held registered i)) k in
        let few = kept-few held registered (k + 1) p in
        let most = room p in
        omega arith

    -- and its programme is one of the list
    pub seat-known : (k p : ℕ) → seat_kept held registered k ≡ Some p → p < length before
    seat-known k p kept =
        ⊎_elim
        (λ l. l)
        (λ past.
        let none = ap (λ (x : Prog). x.quota) (get_or_past before p no_programme past) in
        let some = seat-left k p kept in
        absurd (omega arith))
        (cases_lt p (length before))

-- ---- the lists

-- the lists of the first k candidates as they are left, and the others as they were
pub record AreEmptiedUpto (before : List (List ℕ)) (held : List (Option ℕ)) (k : ℕ)
    (now : List (List ℕ)) : Type 0 where
  pub count : length now ≡ length before
  pub done : (i : ℕ) → i < k → i < length before → slice_index_or now i [] ≡ list_left before held i
  pub rest : (i : ℕ) → k ≤ i → slice_index_or now i [] ≡ slice_index_or before i []

module _ (before : List (List ℕ)) (held : List (Option ℕ)) where
  pub emptied-first : AreEmptiedUpto before held 0 before
  emptied-first =
      record { count = refl; done = λ i l within. absurd (omega arith); rest = λ i l. refl }

  -- who holds nothing keeps the list
  pub emptied-skip : (k : ℕ) (now : List (List ℕ)) → is_some (held_by held k) ≡ false
      → AreEmptiedUpto before held k now → AreEmptiedUpto before held (k + 1) now
  emptied-skip k now none emptied =
      record {
        count = emptied.count;
        done = λ i l within. ⊎_elim
            (λ (less : i < k). emptied.done i less within)
            (λ (more : k ≤ i).
            let same : k ≡ i = omega arith in
            emptied.rest i more
            ∙ sym (ap (λ (b : Bool). if b then [] else slice_index_or before i [])
            (subst (λ (j : ℕ). is_some (held_by held j) ≡ false) same none)))
            (cases_lt i k);
        rest = λ i l. emptied.rest i (omega arith);
      }

  -- and who holds a programme loses it
  pub emptied-more : (k : ℕ) (now more : List (List ℕ)) → is_some (held_by held k) ≡ true
      → k < length before → more ≡ set now k [] → AreEmptiedUpto before held k now
      → AreEmptiedUpto before held (k + 1) more
  emptied-more k now more some l written emptied =
      let at = λ (i : ℕ). ap (λ (xs : List (List ℕ)). get_or xs i []) written in
      let within : k < length now = subst (λ (n : ℕ). k < n) (sym emptied.count) l in
      record {
        count = ap (λ (xs : List (List ℕ)). length xs) written ∙ length-set now k []
            ∙ emptied.count;
        done = λ i li inside. at i ∙ ⊎_elim
            (λ (less : i < k). get_or-set_other now k i [] [] (λ same. omega (arith, same))
            ∙ emptied.done i less inside)
            (λ (past : k ≤ i).
            let same : k ≡ i = omega arith in
            ap (λ (j : ℕ). get_or (set now k []) j []) (sym same)
            ∙ get_or-set_same now k [] [] within
            ∙ sym (ap (λ (b : Bool). if b then [] else slice_index_or before i [])
            (subst (λ (j : ℕ). is_some (held_by held j) ≡ true) same some)))
            (cases_lt i k);
        rest =
            λ i li. at i ∙ get_or-set_other now k i [] [] (λ same. omega (arith, same))
            ∙ emptied.rest i (omega arith);
      }

  pub emptied-all : (now : List (List ℕ)) → length held ≡ length before
      → AreEmptiedUpto before held (length held) now → now ≡ lists_left before held
  unfolding lists_left
  emptied-all now sizes emptied =
      fill_by_all (list_left before held) now (length before) [] emptied.count
      (λ i l. emptied.done i (omega arith) l)
