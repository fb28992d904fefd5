-- The base ranks and numbers of holders of the first candidates: how they grow with one more.
use Rattle.std.proofs.Common.{◌≡◌, ◌≢◌, ℕ, ◌+◌, ◌<◌, Bool, true, false, List, [], ◌∷◌, ◌++◌, length, Option, Some, None, refl, sym, ap, ◌∙◌, subst, arith, get_or, set, map, take, max, ⊎_elim}
use Rattle.std.specs.Prelude.{filter, replicate, if◌then◌else◌}
use Rattle.std.specs.List.{range_with_len}
use Rattle.std.proofs.lemmas.Bool.{cases_lt, cases_eq, ne_eqb, lt-ltb, le-ltb}
use Rattle.std.proofs.lemmas.List.{map-append, length-set, get_or-set_same, get_or-set_other, get_or-replicate, length-replicate}
use Rattle.std.proofs.lemmas.List.Sums.{count_by_more_no, count_by_more_yes}
use Rattle.market.specs.Counting.{is_programme, count_of}
use Rattle.market.specs.Problems.{Problem, kind_of, rank_of}
use Rattle.market.specs.BaseRanks.{worse_of, worst_of}
use Rattle.market.specs.Stability.{held_by}
use Rattle.market.proofs.Members.{kept_more, dropped_more}
use Rattle.market.proofs.Turns.{is_programme-from}
use Rattle.reports.specs.BaseTables.{BaseTable, base_of, holder_count}

-- of two ranks the worse is the greater number
pub worse_of-max : (a b : ℕ) → worse_of (Some a) (Some b) ≡ Some (max a b)
worse_of-max a b =
    ⊎_elim
    (λ less.
    let e : b ≡ max a b = omega arith in
    ap (λ (t : Bool). if t then Some b else Some a) (lt-ltb a b less) ∙ ap Some e)
    (λ past.
    let e : a ≡ max a b = omega arith in
    ap (λ (t : Bool). if t then Some b else Some a) (le-ltb a b past) ∙ ap Some e)
    (cases_lt a b)

worse_of-none : (a : Option ℕ) → worse_of a None ≡ a
worse_of-none None = refl
worse_of-none (Some a) = refl

worse_of-assoc : (a b c : Option ℕ) → worse_of a (worse_of b c) ≡ worse_of (worse_of a b) c
worse_of-assoc None b c = refl
worse_of-assoc (Some a) None c = refl
worse_of-assoc (Some a) (Some b) None = sym (worse_of-none (worse_of (Some a) (Some b)))
worse_of-assoc (Some a) (Some b) (Some c) =
    let e : max a (max b c) ≡ max (max a b) c = omega arith in
    ap (worse_of (Some a)) (worse_of-max b c) ∙ worse_of-max a (max b c) ∙ ap Some e
    ∙ sym (worse_of-max (max a b) c)
    ∙ ap (λ (o : Option ℕ). worse_of o (Some c)) (sym (worse_of-max a b))

-- one rank more at the end
worst_of-push : (ranks : List (Option ℕ)) (rank : Option ℕ)
    → worst_of (ranks ++ rank ∷ []) ≡ worse_of (worst_of ranks) rank
worst_of-push [] rank = worse_of-none rank
worst_of-push (x ∷ ranks) rank =
    ap (worse_of x) (worst_of-push ranks rank) ∙ worse_of-assoc x (worst_of ranks) rank

-- the holders of p among the first n candidates
abbrev pub holders_upto : List (Option ℕ) → ℕ → ℕ → List ℕ
holders_upto held p n = filter (λ i. is_programme p (held_by held i)) (range_with_len 0 n)

-- the worst rank of p's holders among the first n candidates
abbrev pub base_upto : Problem → List (Option ℕ) → ℕ → ℕ → Option ℕ
base_upto m held p n = worst_of (map (rank_of m (kind_of m p)) (holders_upto held p n))

-- the table has counted the first n candidates
pub record HasCounted (m : Problem) (held : List (Option ℕ)) (table : BaseTable) (n : ℕ) : Type 0
  where
    pub base_count : length table.bases ≡ length m.programmes
    pub held_count : length table.held ≡ length m.programmes
    pub bases : (p : ℕ) → p < length m.programmes → base_of table p ≡ base_upto m held p n
    pub holders : (p : ℕ) → p < length m.programmes
        → holder_count table p ≡ count_of p (take n held)

-- a table of none and of 0 has counted nobody
pub HasCounted-none : (m : Problem) (held : List (Option ℕ)) (table : BaseTable)
    → table.bases ≡ replicate (length m.programmes) None
    → table.held ≡ replicate (length m.programmes) 0 → HasCounted m held table 0
HasCounted-none m held table b h =
    record {
      base_count = ap (λ (xs : List (Option ℕ)). length xs) b
          ∙ length-replicate (length m.programmes) None;
      held_count = ap (λ (xs : List ℕ). length xs) h ∙ length-replicate (length m.programmes) 0;
      bases = λ p l. ap (λ (xs : List (Option ℕ)). get_or xs p None) b
          ∙ get_or-replicate (length m.programmes) p None None l;
      holders = λ p l. ap (λ (xs : List ℕ). get_or xs p 0) h
          ∙ get_or-replicate (length m.programmes) p 0 0 l;
    }

-- a candidate who does not hold p leaves its base rank and its number of holders as they were
pub base-skip : (m : Problem) (held : List (Option ℕ)) (p n : ℕ)
    → is_programme p (held_by held n) ≡ false → base_upto m held p (n + 1) ≡ base_upto m held p n
base-skip m held p n e =
    ap (λ (xs : List ℕ). worst_of (map (rank_of m (kind_of m p)) xs))
    (sym (dropped_more (λ i. is_programme p (held_by held i)) n (holders_upto held p n) refl e))

-- a holder of p makes its base rank the worse of it and the holder's rank
pub base-more : (m : Problem) (held : List (Option ℕ)) (p n : ℕ)
    → is_programme p (held_by held n) ≡ true
    → base_upto m held p (n + 1) ≡ worse_of (base_upto m held p n) (rank_of m (kind_of m p) n)
base-more m held p n e =
    ap (λ (xs : List ℕ). worst_of (map (rank_of m (kind_of m p)) xs))
    (sym (kept_more (λ i. is_programme p (held_by held i)) n (holders_upto held p n)
    (holders_upto held p n ++ n ∷ []) refl e refl))
    ∙ ap worst_of (map-append (rank_of m (kind_of m p)) (holders_upto held p n) (n ∷ []))
    ∙ worst_of-push (map (rank_of m (kind_of m p)) (holders_upto held p n))
    (rank_of m (kind_of m p) n)

-- who holds nothing is counted nowhere
pub HasCounted-skip : (m : Problem) (held : List (Option ℕ)) (table : BaseTable) (n : ℕ)
    → n < length held → held_by held n ≡ None → HasCounted m held table n
    → HasCounted m held table (n + 1)
HasCounted-skip m held table n l e c =
    let no : (p : ℕ) → is_programme p (held_by held n) ≡ false = λ p. ap (is_programme p) e in
    record {
      base_count = c.base_count;
      held_count = c.held_count;
      bases = λ p lp. c.bases p lp ∙ sym (base-skip m held p n (no p));
      holders = λ p lp. c.holders p lp
          ∙ sym (count_by_more_no (is_programme p) held n None l (no p));
    }

-- what was written for programme p, and what is read for another
base-written : (m : Problem) (held : List (Option ℕ)) (table : BaseTable) (n p : ℕ)
    → p < length m.programmes → held_by held n ≡ Some p → HasCounted m held table n
    → get_or (set table.bases p (worse_of (base_of table p) (rank_of m (kind_of m p) n))) p None
    ≡ base_upto m held p (n + 1)
base-written m held table n p lp e c =
    let count = c.base_count in
    get_or-set_same table.bases p (worse_of (base_of table p) (rank_of m (kind_of m p) n)) None
    (omega arith)
    ∙ ap (λ (o : Option ℕ). worse_of o (rank_of m (kind_of m p) n)) (c.bases p lp)
    ∙ sym (base-more m held p n (is_programme-from p (held_by held n) e))

holders-written : (m : Problem) (held : List (Option ℕ)) (table : BaseTable) (n p : ℕ)
    → n < length held → p < length m.programmes → held_by held n ≡ Some p
    → HasCounted m held table n
    → get_or (set table.held p (holder_count table p + 1)) p 0 ≡ count_of p (take (n + 1) held)
holders-written m held table n p l lp e c =
    let count = c.held_count in
    get_or-set_same table.held p (holder_count table p + 1) 0 (omega arith)
    ∙ ap (λ (x : ℕ). x + 1) (c.holders p lp)
    ∙ sym (count_by_more_yes (is_programme p) held n None l
    (is_programme-from p (held_by held n) e))

-- who holds p does not hold another
not_another : (held : List (Option ℕ)) (n p q : ℕ) → held_by held n ≡ Some p → q ≢ p
    → is_programme q (held_by held n) ≡ false
not_another held n p q e other =
    ap (is_programme q) e ∙ ne_eqb p q (λ (same : p ≡ q). other (sym same))

-- a holder is counted at the programme held
pub HasCounted-more : (m : Problem) (held : List (Option ℕ)) (table more : BaseTable)
    (n p : ℕ) → n < length held → p < length m.programmes → held_by held n ≡ Some p
    → HasCounted m held table n
    → more.bases ≡ set table.bases p (worse_of (base_of table p) (rank_of m (kind_of m p) n))
    → more.held ≡ set table.held p (holder_count table p + 1) → HasCounted m held more (n + 1)
HasCounted-more m held table more n p l lp e c b h =
    let worse = worse_of (base_of table p) (rank_of m (kind_of m p) n) in
    let count = holder_count table p + 1 in
    record {
      base_count = ap (λ (xs : List (Option ℕ)). length xs) b ∙ length-set table.bases p worse
          ∙ c.base_count;
      held_count = ap (λ (xs : List ℕ). length xs) h ∙ length-set table.held p count ∙ c.held_count;
      bases = λ q lq. ap (λ (xs : List (Option ℕ)). get_or xs q None) b ∙ ⊎_elim
          (λ (same : q ≡ p).
          subst (λ (x : ℕ). get_or (set table.bases p worse) x None ≡ base_upto m held x (n + 1))
          (sym same) (base-written m held table n p lp e c))
          (λ other. get_or-set_other table.bases p q worse None other ∙ c.bases q lq
          ∙ sym (base-skip m held q n (not_another held n p q e other)))
          (cases_eq q p);
      holders = λ q lq. ap (λ (xs : List ℕ). get_or xs q 0) h ∙ ⊎_elim
          (λ (same : q ≡ p).
          subst (λ (x : ℕ). get_or (set table.held p count) x 0 ≡ count_of x (take (n + 1) held))
          (sym same) (holders-written m held table n p l lp e c))
          (λ other. get_or-set_other table.held p q count 0 other ∙ c.holders q lq
          ∙ sym (count_by_more_no (is_programme q) held n None l (not_another held n p q e other)))
          (cases_eq q p);
    }
