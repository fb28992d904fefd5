-- What a candidate takes in a type, against the candidate's own list: the first entry within the
-- cut that is of the type and has a seat left at the candidate's turn.
use Rattle.std.proofs.Common.{◌≡◌, ℕ, zero, suc, ◌<◌, ◌≤◌, Bool, true, ◌&&◌, List, [], ◌∷◌, length, Option, Some, None, refl, sym, ap, ◌∙◌, arith, get_or, ⊎_elim, map, take, replicate}
use Rattle.std.specs.Prelude.{find, ◌==◌, slice_index}
use Rattle.std.proofs.lemmas.Bool.{cases_lt, cases_Bool, eqb-true, eq-eqb, ne_eqb, and_parts, and_from}
use Rattle.std.proofs.lemmas.List.{get_or_past, get_or_append_left, get_or_push, get_or-replicate, length-replicate, length-map, get_or-map}
use Rattle.std.proofs.Math.ListN.{get_or-map as get_or-map_past}
use Rattle.std.proofs.lemmas.List.Sums.{position_or_len_is}
use Rattle.std.proofs.lemmas.Option.{none-some}
use Rattle.market.specs.declared.programme.Prog.{Prog}
use Rattle.market.specs.Problems.{Problem, IsValid, place_of, programme_at, no_programme, kind_of, quota_of, bar_of, list_of, order_of, turn_of, rank_of, admits, admits_rank}
use Rattle.market.specs.Dictatorships.{Dictatorship, picks, pick, list_at, seats_taken}
use Rattle.market.specs.Mechanism.{is_offered, turn_list, type_dictatorship, tentative}
use Rattle.market.proofs.Firsts.{find_take, find_first_take, find-filter, place_get}
use Rattle.market.proofs.Turns.{is_open, is_open-true, is_open-from, pick-find, picks-suc, length-picks}

-- ---- turns

-- the turn of the candidate at a place is the place
pub turn_at : (m : Problem) → IsValid m → (t k : ℕ) → t < m.types → k < length (order_of m t)
    → turn_of m t (slice_index (order_of m t) k) ≡ k
unfolding turn_of
turn_at m v t k lt lk =
    let x = slice_index (order_of m t) k in
    position_or_len_is (λ y. y == x) (order_of m t) k 0 (omega arith)
    (λ j l. ne_eqb (slice_index (order_of m t) j) x (v.order_distinct t lt j k l lk))
    (λ l. eq-eqb x x refl)

-- the candidate at the turn of a candidate is the candidate
pub candidate_at : (m : Problem) (t i : ℕ) → turn_of m t i < length (order_of m t)
    → slice_index (order_of m t) (turn_of m t i) ≡ i
unfolding turn_of
candidate_at m t i l = place_get i (order_of m t) 0 l

-- a pick among the first ones
pub get-picks : (d : Dictatorship) (n k : ℕ) → k < n → get_or (picks d n) k None ≡ pick d k
get-picks d zero k l = absurd (omega arith)
get-picks d (suc n) k l =
    let e = ap (λ (xs : List (Option ℕ)). get_or xs k None) (picks-suc d n) in
    let len = length-picks d n in
    ⊎_elim
    (λ less. e ∙ get_or_append_left (picks d n) (pick d n ∷ []) None k (omega arith)
    ∙ get-picks d n k less)
    (λ more. let same : n ≡ k =
    omega arith in e ∙ get_or_push (picks d n) (pick d n) None k (len ∙ same)
    ∙ ap (pick d) same)
    (cases_lt k n)

-- ---- the dictatorship of a type

-- the quotas of a type's dictatorship
pub type-quota : (m : Problem) (cuts : List ℕ) (t p : ℕ)
    → slice_index (type_dictatorship m cuts t).quota p ≡ quota_of m p
unfolding type_dictatorship quota_of
type-quota m cuts t p =
    get_or-map_past (λ (q : Prog). q.quota) m.programmes p no_programme

-- zero anywhere
pub zeros : (n p : ℕ) → slice_index (replicate n 0) p ≡ 0
zeros n p =
    ⊎_elim
    (λ l. get_or-replicate n p 0 0 l)
    (λ past. let e = length-replicate {A = ℕ} n 0 in get_or_past (replicate n 0) p 0 (omega arith))
    (cases_lt p n)

-- its fills
pub type-fill : (m : Problem) (cuts : List ℕ) (t p : ℕ)
    → slice_index (type_dictatorship m cuts t).fill p ≡ 0
unfolding type_dictatorship
type-fill m cuts t p = zeros (length m.programmes) p

-- a turn's list in it
pub type-list : (m : Problem) (cuts : List ℕ) (t k : ℕ) → k < length (order_of m t)
    → list_at (type_dictatorship m cuts t) k ≡ turn_list m cuts t (slice_index (order_of m t) k)
unfolding type_dictatorship list_at
type-list m cuts t k l = get_or-map (turn_list m cuts t) (order_of m t) k 0 [] l

-- past the last turn there is none
pub type-list_past : (m : Problem) (cuts : List ℕ) (t k : ℕ) → length (order_of m t) ≤ k
    → list_at (type_dictatorship m cuts t) k ≡ []
unfolding type_dictatorship list_at
type-list_past m cuts t k l =
    let e = length-map (order_of m t) (turn_list m cuts t) in
    get_or_past (map (turn_list m cuts t) (order_of m t)) k [] (omega arith)

-- ---- offers: the only lemmas that know which programmes a turn is offered

-- what is offered is of the type
pub offered-kind : (m : Problem) (t i p : ℕ) → is_offered m t i p ≡ true → kind_of m p ≡ t
unfolding is_offered
offered-kind m t i p e =
    eqb-true (kind_of m p) t (and_parts (kind_of m p == t) (admits m p i) e).0

-- and admits the candidate
pub offered-admits : (m : Problem) (t i p : ℕ) → is_offered m t i p ≡ true → admits m p i ≡ true
unfolding is_offered
offered-admits m t i p e = (and_parts (kind_of m p == t) (admits m p i) e).1

-- what is of the type and admits the candidate is offered
pub offered-from : (m : Problem) (t i p : ℕ) → kind_of m p ≡ t → admits m p i ≡ true
    → is_offered m t i p ≡ true
unfolding is_offered
offered-from m t i p e a =
    and_from (kind_of m p == t) (admits m p i) (eq-eqb (kind_of m p) t e) a

-- the rank in the programme's type is that in type t, where the two are the same type
offered-rank : (m : Problem) (t i p : ℕ)
    → is_offered m t i p ≡ ((kind_of m p == t) && admits_rank (bar_of m p) (rank_of m t i))
unfolding is_offered admits
offered-rank m t i p =
    let bar = bar_of m p in
    ⊎_elim
    (λ same. ap (λ (u : ℕ). (kind_of m p == t) && admits_rank bar (rank_of m u i))
    (eqb-true (kind_of m p) t same))
    (λ other.
    ap (λ b. b && admits_rank bar (rank_of m (kind_of m p) i)) other
    ∙ sym (ap (λ b. b && admits_rank bar (rank_of m t i)) other))
    (cases_Bool (kind_of m p == t))

-- as a call reads it: by the programme that it looks up, and the candidate's rank in the type
pub offered-is : (m : Problem) (t i p : ℕ) (q : Prog) (rank : Option ℕ) → q ≡ programme_at m p
    → rank ≡ rank_of m t i → is_offered m t i p ≡ ((q.kind == t) && admits_rank q.bar rank)
unfolding kind_of bar_of
offered-is m t i p q rank e r =
    offered-rank m t i p
    ∙ ap (λ (o : Option ℕ). (kind_of m p == t) && admits_rank (bar_of m p) o) (sym r)
    ∙ ap (λ (x : Prog). (x.kind == t) && admits_rank x.bar rank) (sym e)

-- ---- what a candidate takes

-- the seats taken before a candidate's turn
unfoldable pub seats_before : Problem → List ℕ → ℕ → ℕ → ℕ → ℕ
seats_before m cuts t i p = seats_taken (type_dictatorship m cuts t) (turn_of m t i) p

-- the test by which the turn of i picks
unfoldable pub would_pick : Problem → List ℕ → ℕ → ℕ → ℕ → Bool
would_pick m cuts t i p = is_offered m t i p && is_open (type_dictatorship m cuts t) (turn_of m t
    i) p

-- a candidate's tentative programme is the pick of the turn
pub tentative-pick : (m : Problem) (cuts : List ℕ) (t i : ℕ)
    → turn_of m t i < length (order_of m t)
    → tentative m cuts t i ≡ pick (type_dictatorship m cuts t) (turn_of m t i)
unfolding tentative
tentative-pick m cuts t i l =
    get-picks (type_dictatorship m cuts t) (length (order_of m t)) (turn_of m t i) l

-- who has one has a turn
pub tentative-turn : (m : Problem) (cuts : List ℕ) (t i p : ℕ) → tentative m cuts t i ≡ Some p
    → turn_of m t i < length (order_of m t)
unfolding tentative
tentative-turn m cuts t i p e =
    let d = type_dictatorship m cuts t in
    let len = length-picks d (length (order_of m t)) in
    ⊎_elim
    (λ l. l)
    (λ past. absurd (none-some p
    (sym (get_or_past (picks d (length (order_of m t))) (turn_of m t i) None (omega arith))
    ∙ e)))
    (cases_lt (turn_of m t i) (length (order_of m t)))

-- it is the first entry within the cut that the turn may take
pub tentative-find : (m : Problem) (cuts : List ℕ) (t i : ℕ) → turn_of m t i < length (order_of m t)
    → tentative m cuts t i ≡ find (would_pick m cuts t i) (take (slice_index cuts i) (list_of m i))
unfolding turn_list would_pick
tentative-find m cuts t i l =
    let d = type_dictatorship m cuts t in
    let k = turn_of m t i in
    tentative-pick m cuts t i l
    ∙ pick-find d k
    ∙ ap (find (is_open d k)) (type-list m cuts t k l ∙ ap (turn_list m cuts t) (candidate_at m t i
    l))
    ∙ find-filter (is_open d k) (is_offered m t i) (take (slice_index cuts i) (list_of m i))

-- p is of type t, is listed within the cut, and has a seat left at the candidate's turn
pub record Takes (m : Problem) (cuts : List ℕ) (t i p : ℕ) : Type 0 where
  pub turn : turn_of m t i < length (order_of m t)
  pub offered : is_offered m t i p ≡ true
  pub kind : kind_of m p ≡ t
  pub listed : place_of p (list_of m i) < length (list_of m i)
  pub within : place_of p (list_of m i) < slice_index cuts i
  pub room : seats_before m cuts t i p < quota_of m p

-- what is taken is listed within the cut, of the type, and had a seat left
pub tentative-takes : (m : Problem) (cuts : List ℕ) (t i p : ℕ) → tentative m cuts t i ≡ Some p
    → Takes m cuts t i p
unfolding would_pick seats_before
tentative-takes m cuts t i p e =
    let d = type_dictatorship m cuts t in
    let k = turn_of m t i in
    let l = tentative-turn m cuts t i p e in
    let f = find_take (would_pick m cuts t i) (list_of m i) (slice_index cuts i) p
    (sym (tentative-find m cuts t i l) ∙ e) in
    let both = and_parts (is_offered m t i p) (is_open d k p) f.passes in
    let room = is_open-true d k p both.1 in
    let q = type-quota m cuts t p in
    record {
      turn = l;
      offered = both.0;
      kind = offered-kind m t i p both.0;
      listed = f.listed;
      within = f.within;
      room = omega arith;
    }

-- it stands no later than any entry within the cut that has room
pub record TakesBy (m : Problem) (cuts : List ℕ) (t i p : ℕ) : Type 0 where
  pub entry : ℕ
  pub takes : tentative m cuts t i ≡ Some entry
  pub no_later : place_of entry (list_of m i) ≤ place_of p (list_of m i)

-- where p could be taken, an entry is taken that stands no later
pub takes_by : (m : Problem) (cuts : List ℕ) (t i p : ℕ) → Takes m cuts t i p → TakesBy m cuts t i p
unfolding would_pick seats_before
takes_by m cuts t i p r =
    let d = type_dictatorship m cuts t in
    let k = turn_of m t i in
    let q = type-quota m cuts t p in
    let z = type-fill m cuts t p in
    let room = r.room in
    let open' = is_open-from d k p (omega arith) in
    let f = find_first_take (would_pick m cuts t i) (list_of m i) (slice_index cuts i) p
    (and_from (is_offered m t i p) (is_open d k p) r.offered open') r.within r.listed in
    record {
      entry =
          f.entry;
      takes = tentative-find m cuts t i r.turn ∙ f.found;
      no_later = f.no_later;
    }
