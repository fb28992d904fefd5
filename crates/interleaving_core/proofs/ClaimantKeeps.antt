-- A claimant's events keep a sound state. A draw gives each turn to one worker; a reading sees a
-- count that only rises; a post fills a cell that was empty, since the worker claimed it.
use Rattle.std.proofs.Common.{◌≡◌, ℕ, ◌+◌, ◌*◌, ◌<◌, ◌≤◌, ◌≢◌, Bool, true, false, length, get_or, set, Option, Some, None, nat_lt, nat_le, eqb, eq-eqb, ne_eqb, sym, refl, ap, subst, ◌∙◌, arith, length-set, get_or-set_same, get_or-set_other}
use Rattle.std.specs.Prelude.{slice_get}
use Rattle.std.specs.List.{sum_by}
use Rattle.std.proofs.lemmas.Bool.{ltb-true, ltb-false, leb-true, eqb-true}
use mathlib.Core.Logic.{dite}
use native.Mathlib.Decide.{ℕ_discrete}
use Rattle.market.specs.Dictatorships.{Dictatorship, IsValidDictatorship, list_at}
use Rattle.interleaving_core.specs.declared.limits.TheConstants.{FLAGS_PER_WORD}
use Rattle.interleaving_core.specs.declared.parts.Cell.{Cell}
use Rattle.interleaving_core.specs.declared.parts.Cell.TheVariants.{Empty, Posted, Committed}
use Rattle.interleaving_core.specs.declared.parts.Claiming.{Claiming}
use Rattle.interleaving_core.specs.declared.parts.Holding.{Holding}
use Rattle.interleaving_core.specs.Flags.{flag_group, flag_bit, is_raised_in}
use Rattle.interleaving_core.specs.Core.{View, Core, turn_count, entry, quota_of, seats_of, is_open, cell_at, is_committed, is_raised}
use Rattle.interleaving_core.specs.Events.{Claims, ReadsFlags, Reads, Posts, IsAllowed, after_claim_if, with_claim, claim_past_flags, after_read, after_post, after}
use Rattle.interleaving_core.specs.Sound.{bit, turn_bit, done_bit, claim_bit, empty_bit, IsFullBefore, IsCellFrom, AreSoundOwnTurns, IsSoundClaim, DoesOneThing, IsSound}
use Rattle.interleaving_core.proofs.Places.{sum_set, term_le, sum_zero}
use Rattle.interleaving_core.proofs.OwnTurns.{own_stays, own_moves, own_claimed, own_posted}
use Rattle.interleaving_core.proofs.Flags.{past_flags_within, raised_before}
use Rattle.interleaving_core.proofs.Views.{at_some, Grows, Stays, holding_stays, claimant_one, mark_stays, seats_stay, flags_stay, views_fit, calm_step, view_step}

-- no view claims a turn that was not drawn
unclaimed : (d : Dictatorship) (c : Core) (s : IsSound d c) (k : ℕ) → c.claim_number ≤ k
    → sum_by (claim_bit k) c.views ≡ 0
unclaimed d c s k far =
    sum_zero (claim_bit k) c.views
    (λ i v at. not_at v.claim (λ x is. ((s.views i v at).claim x is).drawn))
  where
    not_at : (o : Option Claiming) → ((x : Claiming) → o ≡ Some x → x.turn < c.claim_number)
        → turn_bit k o ≡ 0
    not_at None h = refl
    not_at (Some x) h = let drawn = h x refl in ap bit (ne_eqb k x.turn (λ e. omega arith))

-- who may draw does nothing else
free_one : (d : Dictatorship) (v : View) (k : ℕ) → IsAllowed d v Claims
    → DoesOneThing (after_claim_if true v k)
free_one d v k ok =
    record {
      holder = λ h is. absurd (cc (ok.1, is));
      debtor = λ is. absurd (cc (ok.3, is));
      leaver = λ is. absurd (cc (ok.2, is));
    }

done_one : (d : Dictatorship) (v : View) (k : ℕ) → IsAllowed d v Claims
    → DoesOneThing (after_claim_if false v k)
done_one d v k ok =
    record {
      holder = λ h is. absurd (cc (ok.1, is));
      debtor = λ is. absurd (cc (ok.3, is));
      leaver = λ is. (ok.0, ok.3);
    }

-- a draw keeps a sound state, whether the number drawn is a turn or not
pub claim_keeps : (d : Dictatorship) (c : Core) (i : ℕ) (v : View) (b : Bool)
    → nat_lt c.claim_number (turn_count d) ≡ b → IsSound d c → slice_get c.views i ≡ Some v
    → IsAllowed d v Claims
    → IsSound d record c {
      claim_number = c.claim_number + 1;
      views = set c.views i (after_claim_if b v c.claim_number);
    }
claim_keeps d c i v true drawn s at ok =
    let n : ℕ = c.claim_number in
    let inside : n < turn_count d = ltb-true n (turn_count d) drawn in
    let w : View = after_claim_if true v n in
    let e : Core = record c { claim_number = n + 1; views = set c.views i w } in
    let own = subst (AreSoundOwnTurns d c v.own) ok.0 (s.views i v at).own in
    calm_step d c s i v w (n + 1) c.mark_held c.mark_number at (omega arith)
    (mark_stays d c.mark_held c.mark_number c.views s.count i v w at refl s.mark)
    record {
      claimed = λ k l m.
          let t = sum_set (claim_bit k) c.views i v w at in
          let zero : turn_bit k v.claim ≡ 0 = ap (turn_bit k) ok.0 in
          dite (ℕ_discrete k n)
          (λ is.
          let one : turn_bit k w.claim ≡ 1 = ap bit (eq-eqb k n is) in
          let nobody = unclaimed d c s k (omega arith) in
          let empty = ap empty_bit (s.claims.untouched k (omega arith)) in
          omega arith)
          (λ other.
          let none : turn_bit k w.claim ≡ 0 = ap bit (ne_eqb k n other) in
          let was = s.claims.claimed k l (omega arith) in
          omega arith);
      untouched = λ k l. s.claims.untouched k (omega arith);
      few =
          let t = sum_set done_bit c.views i v w at in
          let few = s.claims.few in
          let same : sum_by done_bit c.views ≡ sum_by done_bit (set c.views i w) = omega arith in
          omega arith;
    }
    (λ p. refl) (λ p. refl)
    record {
      one = free_one d v n ok;
      claim =
          at_some (IsSoundClaim d e) (record { turn = n; passed = 0; looked = false; met = false })
          record {
            turn = inside;
            drawn = omega arith;
            passed = omega arith;
            full = λ k l. absurd (omega arith);
            met = λ is. absurd (cc (is));
          };
      hold = λ h is. absurd (cc (ok.1, is));
      own = own_claimed d c e v.own n (omega arith) (omega arith) inside (λ k j p. p) own;
      past = λ is. absurd (cc (ok.2, is));
    }
claim_keeps d c i v false drawn s at ok =
    let n : ℕ = c.claim_number in
    let beyond : turn_count d ≤ n = ltb-false n (turn_count d) drawn in
    let w : View = after_claim_if false v n in
    let e : Core = record c { claim_number = n + 1; views = set c.views i w } in
    let f = s.views i v at in
    calm_step d c s i v w (n + 1) c.mark_held c.mark_number at (omega arith)
    (mark_stays d c.mark_held c.mark_number c.views s.count i v w at refl s.mark)
    record {
      claimed = λ k l m.
          let t = sum_set (claim_bit k) c.views i v w at in
          let was = s.claims.claimed k l (omega arith) in
          omega arith;
      untouched = λ k l. s.claims.untouched k (omega arith);
      few =
          let t = sum_set done_bit c.views i v w at in
          let few = s.claims.few in
          let not_done : bit v.done ≡ 0 = ap bit ok.2 in
          omega arith;
    }
    (λ p. refl) (λ p. refl)
    record {
      one = done_one d v n ok;
      claim = λ x is. absurd (cc (ok.0, is));
      hold = λ h is. absurd (cc (ok.1, is));
      own = own_stays d c e v.own v.claim (omega arith) (λ k j p. p) f.own;
      past = λ is. omega arith;
    }

-- an event that gives a claimant another claim of its turn
claim_step : (d : Dictatorship) (c : Core) (s : IsSound d c) (i : ℕ) (v : View)
    (mine next : Claiming) → slice_get c.views i ≡ Some v → v.claim ≡ Some mine
    → next.turn ≡ mine.turn → IsSoundClaim d c next
    → IsSound d record c { views = set c.views i (with_claim v (Some next)) }
claim_step d c s i v mine next at is same fits =
    let f = s.views i v at in
    view_step d c s i v (with_claim v (Some next)) at refl
    (λ x. ap (λ (n : ℕ). bit (eqb x n)) same ∙ sym (ap (turn_bit x) is)) refl (λ p. refl)
    (λ p. refl)
    record {
      one = claimant_one v mine (Some next) is f.one;
      claim = at_some (IsSoundClaim d c) next fits;
      hold = f.hold;
      own = own_moves d c v.own mine next same (subst (AreSoundOwnTurns d c v.own) is f.own);
      past = f.past;
    }

-- a programme whose flag is raised is full
pub raised_full : (d : Dictatorship) (c : Core) (s : IsSound d c) (p : ℕ) → p < length d.quota
    → is_raised c p ≡ true → quota_of d p ≤ seats_of c p
raised_full d c s p l raised =
    let n = s.flags.raised p l in
    let one : bit (is_raised c p) ≡ 1 = ap bit raised in
    leb-true _ _ (up (nat_le (quota_of d p) (seats_of c p)) (omega arith))
  where
    up : (b : Bool) → 1 ≤ bit b → b ≡ true
    up true l = refl
    up false l = absurd (omega arith)

-- a flag that is raised is a programme's
pub raised_inside : (d : Dictatorship) (c : Core) (s : IsSound d c) (p : ℕ)
    → is_raised c p ≡ true → p < length d.quota
raised_inside d c s p raised =
    elim (native.Mathlib.Decide.dec_le (length d.quota) p) [
      | yes past ↦ absurd
          (let same : FLAGS_PER_WORD * flag_group p + flag_bit p ≡ p = omega arith in
          let none = s.flags.unused (flag_group p) (flag_bit p) (omega arith) (omega arith) in
          let one = eqb-true _ 1 raised in
          omega arith)
      | no inside ↦ omega arith
    ]

-- a look at flags: the entries passed have their flags raised, so they are full
pub read_flags_keeps : (d : Dictatorship) (c : Core) (i : ℕ) (v : View) (k j : ℕ)
    → IsValidDictatorship d → IsSound d c → slice_get c.views i ≡ Some v
    → IsAllowed d v (ReadsFlags k j) → IsSound d (after d c i v (ReadsFlags k j))
read_flags_keeps d c i v k j valid s at ok =
    let word = get_or c.flags (flag_group (entry d k j)) 0 in
    let mine : Claiming = record { turn = k; passed = j; looked = false; met = false } in
    let was = (s.views i v at).claim mine ok.0 in
    let inside = ok.1 in
    let within = past_flags_within d k j word was.passed in
    claim_step d c s i v mine (claim_past_flags d k j word) at ok.0 refl record {
      turn = was.turn;
      drawn = was.drawn;
      passed = within;
      full = λ n m.
          elim (native.Mathlib.Decide.dec_le j n) [
            | yes from ↦ (let raised = raised_before d k j word n from m in
                raised_full d c s (entry d k n)
                (valid.list_entries k n was.turn (omega arith))
                (subst
                (λ (g : ℕ). is_raised_in (get_or c.flags g 0) (entry d k n) ≡ true)
                (sym raised.0) raised.1))
            | no before ↦ was.full n (omega arith)
          ];
      met = λ is. absurd (cc (is));
    }

-- a reading: the entry is met, or it is full and passed
pub read_keeps : (d : Dictatorship) (c : Core) (i : ℕ) (v : View) (k j : ℕ) → IsSound d c
    → slice_get c.views i ≡ Some v → IsAllowed d v (Reads k j)
    → IsSound d (after d c i v (Reads k j))
read_keeps d c i v k j s at ok = by (is_open d c (entry d k j)) refl
  where
    mine : Claiming
    mine = record { turn = k; passed = j; looked = true; met = false }

    was : IsSoundClaim d c mine
    was = (s.views i v at).claim mine ok.0

    by : (b : Bool) → is_open d c (entry d k j) ≡ b
        → IsSound d record c { views = set c.views i (after_read b v k j) }
    by true is =
        claim_step d c s i v mine record { turn = k; passed = j; looked = true; met = true } at
        ok.0 refl record {
          turn = was.turn;
          drawn = was.drawn;
          passed = was.passed;
          full = was.full;
          met = λ _. ok.1;
        }
    by false is =
        let full = ltb-false (seats_of c (entry d k j)) (quota_of d (entry d k j)) is in
        let inside = ok.1 in
        claim_step d c s i v mine
        record { turn = k; passed = j + 1; looked = false; met = false } at ok.0 refl record {
          turn = was.turn;
          drawn = was.drawn;
          passed = omega arith;
          full = λ n m.
              dite (ℕ_discrete n j)
              (λ here. subst (λ (z : ℕ). quota_of d (entry d k z) ≤ seats_of c (entry d k z))
              (sym here)
              full)
              (λ other. was.full n (omega arith));
          met = λ is. absurd (cc (is));
        }

-- ---- a post

-- a claimed turn has an empty cell
pub claimed_open : (d : Dictatorship) (c : Core) (s : IsSound d c) (i : ℕ) (v : View) (x : Claiming)
    → slice_get c.views i ≡ Some v → v.claim ≡ Some x → cell_at c x.turn ≡ Empty
claimed_open d c s i v x at is =
    let f = (s.views i v at).claim x is in
    let one : turn_bit x.turn v.claim ≡ 1 =
    ap (turn_bit x.turn) is ∙ ap bit (eq-eqb x.turn x.turn refl) in
    let most = term_le (claim_bit x.turn) c.views i v at in
    let was = s.claims.claimed x.turn f.turn f.drawn in
    bounded (cell_at c x.turn) (omega arith)
  where
    bounded : (y : Cell) → 1 ≤ empty_bit y → y ≡ Empty
    bounded Empty l = refl
    bounded (Posted j) l = absurd (omega arith)
    bounded (Committed j) l = absurd (omega arith)

none_of : {A : Type 0} (o : Option A) → ((x : A) → o ≡ Some x → ⊥) → o ≡ None
none_of None n = refl
none_of (Some x) n = absurd (n x refl)

le_or : (a b : ℕ) → (b < a → ⊥) → a ≤ b
le_or a b h =
    elim (native.Mathlib.Decide.dec_le a b) [ yes l ↦ l | no n ↦ absurd (h (omega arith)) ]

-- a post of the claimed turn keeps a sound state
pub post_keeps : (d : Dictatorship) (c : Core) (i : ℕ) (v : View) (k j : ℕ)
    (looked met : Bool) → IsSound d c → slice_get c.views i ≡ Some v
    → IsAllowed d v (Posts k j looked met) → IsSound d (after d c i v (Posts k j looked met))
post_keeps d c i v k j looked met s at ok =
    let w : View = after_post v j in
    let e : Core = after d c i v (Posts k j looked met) in
    let f = s.views i v at in
    let mine : Claiming = record { turn = k; passed = j; looked = looked; met = met } in
    let claim = f.claim mine ok.0 in
    let inside = claim.turn in
    let drawn = claim.drawn in
    let empty : cell_at c k ≡ Empty = claimed_open d c s i v mine at ok.0 in
    let wide = s.cells.each_turn in
    let here : cell_at e k ≡ Posted j = get_or-set_same c.cells k (Posted j) Empty (omega arith) in
    let else_ : (x : ℕ) → x ≢ k → cell_at e x ≡ cell_at c x =
    λ x n. get_or-set_other c.cells k x (Posted j) Empty n in
    let late : s.count ≤ k =
    le_or s.count k (λ l. let done = s.cells.below k l in let no_turn = empty in
    cc (done, no_turn)) in
    let g : Grows c e =
    record {
      more = omega arith;
      seats = λ p. omega arith;
      cells = λ x y p.
          dite (ℕ_discrete x k)
          (λ is. absurd (subst (λ (z : Cell). IsCellFrom z y) (ap (cell_at c) is ∙ empty) p))
          (λ n. subst (λ (z : Cell). IsCellFrom z y) (sym (else_ x n)) p);
    } in
    let stays : (h : ℕ) → Stays c e h =
    λ h.
    record {
      seats = λ p. refl;
      cell = λ y p.
          dite (ℕ_discrete h k)
          (λ is. let found : Empty ≡ Posted y = sym empty ∙ ap (cell_at c) (sym is) ∙ p in
          absurd (cc (found)))
          (λ n. else_ h n ∙ p);
    } in
    let no_hold : (h : Holding) → v.hold ≡ Some h → ⊥ =
    λ h is. let none = f.one.holder h is in let some_claim = ok.0 in cc (none, some_claim) in
    record {
      count = s.count;
      mark = mark_stays d c.mark_held c.mark_number c.views s.count i v w at refl s.mark;
      cells =
          record {
            each_turn = length-set c.cells k (Posted j) ∙ wide;
            below = λ x l. else_ x (λ is. omega arith) ∙ s.cells.below x l;
            above = λ x l.
                dite (ℕ_discrete x k)
                (λ is. ap is_committed (ap (cell_at e) is ∙ here))
                (λ n. ap is_committed (else_ x n) ∙ s.cells.above x l);
          };
      seats = seats_stay d c.seats c.views s.count i v w at (λ p. refl) s.seats;
      flags = flags_stay d c.flags c.seats c.views i v w at (λ p. refl) s.flags;
      posts = λ x y p.
          dite (ℕ_discrete x k)
          (λ is.
          let found : Posted j ≡ Posted y = sym here ∙ ap (cell_at e) (sym is) ∙ p in
          let same : j ≡ y = cc (found) in
          subst (λ (z : ℕ × ℕ). (z.1 ≤ length (list_at d z.0)) × IsFullBefore d c z.0 z.1)
          (λ n. (sym is n, same n)) (claim.passed, claim.full))
          (λ n. s.posts x y (sym (else_ x n) ∙ p));
      claims =
          record {
            claimed = λ x l m.
                let t = sum_set (claim_bit x) c.views i v w at in
                let was = s.claims.claimed x l m in
                dite (ℕ_discrete x k)
                (λ is.
                let one : turn_bit x v.claim ≡ 1 =
                ap (turn_bit x) ok.0 ∙ ap bit (eq-eqb x k is) in
                let now : empty_bit (cell_at e x) ≡ 0 = ap empty_bit (ap (cell_at e) is ∙ here) in
                let before : empty_bit (cell_at c x) ≡ 1 =
                ap empty_bit (ap (cell_at c) is ∙ empty) in
                omega arith)
                (λ n.
                let none : turn_bit x v.claim ≡ 0 =
                ap (turn_bit x) ok.0 ∙ ap bit (ne_eqb x k n) in
                let same : empty_bit (cell_at e x) ≡ empty_bit (cell_at c x) =
                ap empty_bit (else_ x n) in
                omega arith);
            untouched = λ x l. else_ x (λ is. omega arith) ∙ s.claims.untouched x l;
            few = let t = sum_set done_bit c.views i v w at in let few = s.claims.few in
                omega arith;
          };
      views =
          views_fit d c e s.count s.count i w g s.views
          (λ y u other there h is. holding_stays d c e s.count h (stays h.committed))
          record {
            one =
                record {
                  holder = λ h is. refl;
                  debtor = λ is. (refl, none_of v.hold no_hold);
                  leaver = λ is. absurd (let none = (f.one.leaver is).0 in cc (none, ok.0));
                };
            claim = λ x is. absurd (cc (is));
            hold = λ h is. absurd (no_hold h is);
            own =
                own_posted d c e v.own k j looked met inside drawn (omega arith) here g.cells
                (subst (AreSoundOwnTurns d c v.own) ok.0 f.own);
            past = f.past;
          };
    }
