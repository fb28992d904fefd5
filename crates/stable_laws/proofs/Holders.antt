-- Who holds a programme in the placement of a round, and which turn took it.
--
-- What a candidate holds is the best of the tentative programmes, and the turn that took it is the
-- candidate's. Different holders have different turns, so a programme has at most as many holders
-- as seats were taken. Where nobody has several, each seat taken has its holder.
use Rattle.std.proofs.Common.{◌≡◌, ℕ, ◌+◌, ◌<◌, ◌≤◌, true, List, length, Some, None, sym, ap, ◌∙◌, arith, map, ⊎_elim}
use Rattle.std.specs.Prelude.{slice_index}
use Rattle.std.specs.List.{range_with_len}
use Rattle.std.proofs.lemmas.Bool.{cases_lt}
use Rattle.std.proofs.lemmas.List.{get_or_past}
use Rattle.std.proofs.lemmas.List.FromFn.{get_or-map-range_with_len, length-map-range_with_len}
use Rattle.std.proofs.lemmas.Option.{none-some, same_Some}
use Rattle.market.specs.Counting.{count_of}
use Rattle.market.specs.Problems.{Problem, IsValid, kind_of, quota_of, order_of, turn_of}
use Rattle.market.specs.Stability.{held_by, IsPlacement}
use Rattle.market.specs.Dictatorships.{pick, seats_taken}
use Rattle.market.specs.Mechanism.{type_dictatorship, tentative, is_settled, best_programme, best_programmes}
use Rattle.market.proofs.Turns.{seats_taken-le-quota}
use Rattle.market.proofs.Tallies.{seats_taken-tally, tally-le, at_turn, tally-le-count, HasTurn, count-le-tally}
use Rattle.market.proofs.Tentatives.{turn_at, candidate_at, tentative-pick, type-quota, type-fill, tentative-takes, offered-admits}
use Rattle.market.proofs.Rounds.{one_kind, best_programme-takes, best_by, settled-none}
use Rattle.market.proofs.Valid.{kind_lt}

-- what a candidate holds is the best tentative programme
pub best_programme-within : (m : Problem) (cuts : List ℕ) (i : ℕ) → i < length m.lists
    → held_by (best_programmes m cuts) i ≡ best_programme m cuts i
unfolding best_programmes
best_programme-within m cuts i l =
    get_or-map-range_with_len (best_programme m cuts) 0 (length m.lists) i i None l zero_plus
  where
    zero_plus : 0 + i ≡ i
    zero_plus = omega arith

-- nobody else holds anything
best_programme-past : (m : Problem) (cuts : List ℕ) (i : ℕ) → length m.lists ≤ i
    → held_by (best_programmes m cuts) i ≡ None
unfolding best_programmes
best_programme-past m cuts i l =
    let e = length-map-range_with_len (best_programme m cuts) 0 (length m.lists) in
    get_or_past (map (best_programme m cuts) (range_with_len 0 (length m.lists))) i None (omega
    arith)

-- an entry for each candidate
length-placed : (m : Problem) (cuts : List ℕ) → length (best_programmes m cuts) ≡ length m.lists
unfolding best_programmes
length-placed m cuts = length-map-range_with_len (best_programme m cuts) 0 (length m.lists)

-- who holds a programme takes it in its type
pub holder-takes : (m : Problem) (cuts : List ℕ) (i p : ℕ) → held_by (best_programmes m cuts) i ≡
    Some p
    → tentative m cuts (kind_of m p) i ≡ Some p
holder-takes m cuts i p e =
    ⊎_elim
    (λ l. best_programme-takes m cuts i p (sym (best_programme-within m cuts i l) ∙ e))
    (λ past. absurd (none-some p (sym (best_programme-past m cuts i past) ∙ e)))
    (cases_lt i (length m.lists))

-- where nobody takes several, what is taken is held
pub settled-holds : (m : Problem) → IsValid m → (cuts : List ℕ) (t i p : ℕ)
    → is_settled m cuts ≡ true → i < length m.lists → tentative m cuts t i ≡ Some p
    → held_by (best_programmes m cuts) i ≡ Some p
settled-holds m v cuts t i p s l e =
    let r = best_by m cuts t i p e in
    let b = r.best in
    let x = tentative-takes m cuts t i p e in
    let y = tentative-takes m cuts (kind_of m b) i b r.is_best.takes in
    let same =
    one_kind m cuts i (kind_of m b) t b p (settled-none m cuts i s l)
    (kind_lt m v (kind_of m b) (turn_of m (kind_of m b) i) y.turn)
    (kind_lt m v t (turn_of m t i) x.turn) r.is_best.takes e in
    let eq = same_Some b p (sym r.is_best.takes ∙ ap (λ (u : ℕ). tentative m cuts u i) same ∙ e) in
    best_programme-within m cuts i l ∙ r.is_best.is_placed ∙ ap Some eq

-- ---- holders and turns of a type

module _ (m : Problem) (v : IsValid m) (cuts : List ℕ) where
  -- the holders of a programme have a turn in its type
  holder_turn : (p i : ℕ) → held_by (best_programmes m cuts) i ≡ Some p
      → HasTurn (λ j. slice_index (order_of m (kind_of m p)) j) (length (order_of m (kind_of m p)))
      i
  holder_turn p i e =
      let x = tentative-takes m cuts (kind_of m p) i p (holder-takes m cuts i p e) in
      record {
        turn = turn_of m (kind_of m p) i;
        before = x.turn;
        is_theirs = candidate_at m (kind_of m p) i x.turn;
      }

  -- the turn of who holds a programme took it
  held-picked : (p j : ℕ) → j < length (order_of m (kind_of m p))
      → held_by (best_programmes m cuts) (slice_index (order_of m (kind_of m p)) j) ≡ Some p
      → pick (type_dictatorship m cuts (kind_of m p)) j ≡ Some p
  held-picked p j l e =
      let t = kind_of m p in
      let i = slice_index (order_of m t) j in
      let at = turn_at m v t j (kind_lt m v t j l) l in
      let tk = holder-takes m cuts i p e in
      let x = tentative-takes m cuts t i p tk in
      ap (pick (type_dictatorship m cuts t)) (sym at) ∙ sym (tentative-pick m cuts t i x.turn)
      ∙ tk

  -- so no quota is exceeded
  pub quota_kept : (p : ℕ) → count_of p (best_programmes m cuts) ≤ quota_of m p
  quota_kept p =
      let t = kind_of m p in
      let d = type_dictatorship m cuts t in
      let n = length (order_of m t) in
      let o = λ (j : ℕ). slice_index (order_of m t) j in
      let a = count-le-tally o p n (best_programmes m cuts) (holder_turn p) in
      let b = tally-le (at_turn (best_programmes m cuts) o) (pick d) n p (λ j l h. held-picked p j
      l h) in
      let c = seats_taken-tally d n p in
      let z = type-fill m cuts t p in
      let q = type-quota m cuts t p in
      let f = seats_taken-le-quota d p (omega arith) n in
      omega arith

  -- what is placed is a placement
  pub is_placement : IsPlacement m (best_programmes m cuts)
  is_placement =
      record {
        candidates = length-placed m cuts;
        acceptable = λ i p e.
            let x = tentative-takes m cuts (kind_of m p) i p (holder-takes m cuts i p e) in
            record { listed = x.listed; admitted = offered-admits m (kind_of m p) i p x.offered };
        quotas = quota_kept;
      }

  -- where nobody takes several, the seats taken before a turn have holders
  pub seats-held : is_settled m cuts ≡ true → (p k : ℕ) → k ≤ length (order_of m (kind_of m p))
      → seats_taken (type_dictatorship m cuts (kind_of m p)) k p ≤ count_of p (best_programmes m
      cuts)
  seats-held s p k l =
      let t = kind_of m p in
      let d = type_dictatorship m cuts t in
      let o = λ (j : ℕ). slice_index (order_of m t) j in
      let a = seats_taken-tally d k p in
      let b = tally-le (pick d) (at_turn (best_programmes m cuts) o) k p (λ j h e.
      let lt = kind_lt m v t j (omega arith) in
      let at = turn_at m v t j lt (omega arith) in
      let own : turn_of m t (o j) < length (order_of m t) = omega arith in
      let tk = tentative-pick m cuts t (o j) own ∙ ap (pick d) at ∙ e in
      settled-holds m v cuts t (o j) p s (v.order_entries t j lt (omega arith)) tk) in
      let c = tally-le-count o p k
      (λ i j x y. v.order_distinct t (kind_lt m v t j (omega arith)) i j x (omega arith))
      (best_programmes m cuts) in
      omega arith
