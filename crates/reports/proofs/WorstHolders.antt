-- The base rank is the rank of a holder, and no holder has a worse one: by induction on the
-- candidates.
use Rattle.std.proofs.Common.{◌≡◌, ℕ, zero, suc, ◌+◌, ◌<◌, ◌≤◌, List, length, Option, Some, None, inl, inr, refl, sym, ap, ◌∙◌, subst, arith, max, ◌⊎◌, ⊎_elim}
use Rattle.std.proofs.lemmas.Bool.{cases_Bool, cases_lt}
use Rattle.std.proofs.lemmas.List.{get_or_past}
use Rattle.std.proofs.lemmas.Option.{none-some}
use Rattle.market.specs.Counting.{is_programme}
use Rattle.market.specs.Problems.{Problem, kind_of, rank_of}
use Rattle.market.specs.BaseRanks.{base_rank, worse_of}
use Rattle.market.specs.Stability.{held_by}
use Rattle.market.proofs.Turns.{is_programme-from, is_programme-true}
use Rattle.reports.proofs.Holders.{base_upto, base-skip, base-more, worse_of-max}

-- a holder of p with this rank in its type
pub record HasHolder (m : Problem) (held : List (Option ℕ)) (p rank : ℕ) : Type 0 where
  pub holder : ℕ
  pub holds : held_by held holder ≡ Some p
  pub ranked : rank_of m (kind_of m p) holder ≡ Some rank

-- a rank, and this one is no better
pub record IsNoBetter (base : Option ℕ) (rank : ℕ) : Type 0 where
  pub worst : ℕ
  pub is : base ≡ Some worst
  pub most : rank ≤ worst

-- the worse of two ranks is one of them, and neither is worse
worse_of-either : (a b : Option ℕ) (c : ℕ) → worse_of a b ≡ Some c → (a ≡ Some c) ⊎ (b ≡ Some c)
worse_of-either None b c e = inr e
worse_of-either (Some a) None c e = inl e
worse_of-either (Some a) (Some b) c e =
    let m = sym (worse_of-max a b) ∙ e in
    ⊎_elim
    (λ less. let x : max a b ≡ b = omega arith in inr (ap Some (sym x) ∙ m))
    (λ past. let x : max a b ≡ a = omega arith in inl (ap Some (sym x) ∙ m))
    (cases_lt a b)

no_better-left : (a b : Option ℕ) (rank : ℕ) → IsNoBetter a rank → IsNoBetter (worse_of a b) rank
no_better-left None b rank n = absurd (none-some n.worst n.is)
no_better-left (Some a) None rank n = n
no_better-left (Some a) (Some b) rank n =
    let e : a ≡ n.worst = cc in
    let most = n.most in
    record { worst = max a b; is = worse_of-max a b; most = omega arith }

no_better-right : (a : Option ℕ) (rank : ℕ) → IsNoBetter (worse_of a (Some rank)) rank
no_better-right None rank = record { worst = rank; is = refl; most = omega arith }
no_better-right (Some a) rank =
    record { worst = max a rank; is = worse_of-max a rank; most = omega arith }

upto-holder : (m : Problem) (held : List (Option ℕ)) (p n rank : ℕ)
    → base_upto m held p n ≡ Some rank → HasHolder m held p rank
upto-holder m held p zero rank e = absurd (none-some rank e)
upto-holder m held p (suc n) rank e =
    let next : suc n ≡ n + 1 = omega arith in
    let e1 = ap (base_upto m held p) (sym next) ∙ e in
    ⊎_elim
    (λ holds. ⊎_elim
    (λ before. upto-holder m held p n rank before)
    (λ here. record {
      holder = n;
      holds = is_programme-true p (held_by held n) holds;
      ranked = here;
    })
    (worse_of-either (base_upto m held p n) (rank_of m (kind_of m p) n) rank
    (sym (base-more m held p n holds) ∙ e1)))
    (λ other. upto-holder m held p n rank (sym (base-skip m held p n other) ∙ e1))
    (cases_Bool (is_programme p (held_by held n)))

upto-most : (m : Problem) (held : List (Option ℕ)) (p n j rank : ℕ) → j < n
    → held_by held j ≡ Some p → rank_of m (kind_of m p) j ≡ Some rank
    → IsNoBetter (base_upto m held p n) rank
upto-most m held p zero j rank l h r = absurd (omega arith)
upto-most m held p (suc n) j rank l h r =
    let next : suc n ≡ n + 1 = omega arith in
    subst (λ (k : ℕ). IsNoBetter (base_upto m held p k) rank) (sym next)
    (⊎_elim
    (λ before.
    let ih = upto-most m held p n j rank before h r in
    ⊎_elim
    (λ holds. subst (λ (o : Option ℕ). IsNoBetter o rank) (sym (base-more m held p n holds))
    (no_better-left (base_upto m held p n) (rank_of m (kind_of m p) n) rank ih))
    (λ other. subst (λ (o : Option ℕ). IsNoBetter o rank) (sym (base-skip m held p n other)) ih)
    (cases_Bool (is_programme p (held_by held n))))
    (λ past.
    let here : j ≡ n = omega arith in
    let holds = is_programme-from p (held_by held n) (ap (held_by held) (sym here) ∙ h) in
    let ranked = ap (rank_of m (kind_of m p)) (sym here) ∙ r in
    subst (λ (o : Option ℕ). IsNoBetter o rank)
    (ap (worse_of (base_upto m held p n)) (sym ranked) ∙ sym (base-more m held p n holds))
    (no_better-right (base_upto m held p n) rank))
    (cases_lt j n))

-- the base rank is the rank of a holder
pub base_rank-holder : (m : Problem) (held : List (Option ℕ)) (p rank : ℕ)
    → base_rank m held p ≡ Some rank → HasHolder m held p rank
unfolding base_rank
base_rank-holder m held p rank e = upto-holder m held p (length held) rank e

-- no holder's rank is worse than the base rank
pub base_rank-most : (m : Problem) (held : List (Option ℕ)) (p j rank : ℕ)
    → held_by held j ≡ Some p → rank_of m (kind_of m p) j ≡ Some rank
    → IsNoBetter (base_rank m held p) rank
unfolding base_rank
base_rank-most m held p j rank h r =
    upto-most m held p (length held) j rank
    (⊎_elim (λ l. l) (λ past. absurd (none-some p (sym (get_or_past held j None past) ∙ h)))
    (cases_lt j (length held))) h r
