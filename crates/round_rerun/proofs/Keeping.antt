-- The choices kept by turn, beside those of all candidates.
use Rattle.std.proofs.Common.{◌≡◌, ◌≢◌, ℕ, zero, suc, ◌+◌, ◌<◌, ◌≤◌, Bool, true, false, cond, List, [], ◌∷◌, ◌++◌, length, Option, Some, None, refl, sym, ap, ◌∙◌, subst, arith, get_or, map, set, take, drop, replicate, ⊎_elim}
use Rattle.std.specs.Prelude.{filter, slice_get, slice_index, slice_index_or}
use Rattle.std.proofs.lemmas.Bool.{cases_lt, cases_eq, lt-ltb, le-ltb, false≢true}
use Rattle.std.proofs.lemmas.List.{get_or-set_same, get_or-set_other, set-get_or, length-set, get_or-replicate, length-replicate, length-map, length-drop, get_or-map, get_or-drop, take-append-drop}
use Rattle.std.proofs.lemmas.List.Elements.{filter-append}
use Rattle.std.proofs.lemmas.Option.{slice_get_past}
use Rattle.market.specs.declared.limits.TheConstants.{MAX_ENTRIES}
use Rattle.market.specs.Problems.{Problem, IsValid, list_of, order_of, turn_of}
use Rattle.market.specs.Mechanism.{is_offered, turn_list, tentative, type_dictatorship}
use Rattle.market.specs.Dictatorships.{Dictatorship, choice, list_at, pick}
use Rattle.market.specs.LocalNumbers.{local_of, local_list, local_dictatorship, IsFillBefore}
use Rattle.market.specs.Choices.{held_in_table, empty_table}
use Rattle.market.specs.Reruns.{IsRunUpto}
use Rattle.market.proofs.Dicts.{length_filter_le}
use Rattle.market.proofs.Locals.{local-choice}
use Rattle.market.proofs.Replays.{run-more, kept_at}
use Rattle.market.proofs.Tentatives.{turn_at, candidate_at, type-list}
use Rattle.truncation.specs.Touches.{is_marked}
use Rattle.truncation.proofs.Cutting.{empty_table-none}
use Rattle.round_rerun.specs.declared.kept.Kept.{Kept}
use Rattle.round_rerun.specs.declared.kept.TheConstants.{NO_CHOICE}
use Rattle.round_rerun.specs.Kept.{whole_turn_list, choice_byte, byte_at, IsKept, KeepsUnmarked}

-- ---- the byte of a choice

-- an entry of a list is there with more behind it
front_get : (xs ys : List ℕ) (k : ℕ) → k < length xs → slice_get (xs ++ ys) k ≡ slice_get xs k
front_get [] ys k l = absurd (omega arith)
front_get (x ∷ xs) ys zero l = refl
front_get (x ∷ xs) ys (suc k) l = front_get xs ys k (omega arith)

-- a turn's list begins its whole list
turn_front : (m : Problem) (cuts : List ℕ) (t i k : ℕ) → k < length (turn_list m cuts t i)
    → slice_get (turn_list m cuts t i) k ≡ slice_get (whole_turn_list m t i) k
unfolding turn_list whole_turn_list
turn_front m cuts t i k l =
    let c = slice_index cuts i in
    let f = is_offered m t i in
    let list = list_of m i in
    sym (ap (λ (xs : List ℕ). slice_get xs k)
    (ap (filter f) (sym (take-append-drop c list)) ∙ filter-append f (take c list) (drop c list))
    ∙ front_get (filter f (take c list)) (filter f (drop c list)) k l)

-- no whole list has the entry of no choice
past_none : (m : Problem) → IsValid m → (t i : ℕ) → i < length m.lists
    → slice_get (whole_turn_list m t i) NO_CHOICE ≡ None
unfolding whole_turn_list
past_none m v t i l =
    let few = length_filter_le (is_offered m t i) (list_of m i) in
    let most = v.list_lengths i l in
    slice_get_past (filter (is_offered m t i) (list_of m i)) NO_CHOICE (omega arith)

-- the byte of a choice stands for the entry that the turn's list has at the choice
byte_entry : (m : Problem) → IsValid m → (cuts : List ℕ) (t i entries place : ℕ)
    → i < length m.lists → entries ≡ length (turn_list m cuts t i)
    → slice_get (turn_list m cuts t i) place
    ≡ slice_get (whole_turn_list m t i) (choice_byte entries place)
byte_entry m v cuts t i entries place li n =
    let list = turn_list m cuts t i in
    let whole = whole_turn_list m t i in
    ⊎_elim
    (λ inside. turn_front m cuts t i place (omega arith)
    ∙ ap (λ b. slice_get whole (cond b place NO_CHOICE)) (sym (lt-ltb place entries inside)))
    (λ past. slice_get_past list place (omega arith) ∙ sym (past_none m v t i li)
    ∙ ap (λ b. slice_get whole (cond b place NO_CHOICE)) (sym (le-ltb place entries past)))
    (cases_lt place entries)

-- what a turn picks is the entry of its list at its choice
pick_at : (d : Dictatorship) (k : ℕ) → pick d k ≡ slice_get (list_at d k) (choice d k)
unfolding pick
pick_at d k = refl

-- a turn's list over local numbers is as long as its own
local_entries : (m : Problem) (cuts fill : List ℕ) (t from k : ℕ)
    → from + k < length (order_of m t)
    → length (list_at (local_dictatorship m cuts t from fill) k)
    ≡ length (turn_list m cuts t (slice_index (order_of m t) (from + k)))
unfolding local_dictatorship list_at local_list
local_entries m cuts fill t from k l =
    let n = length-drop from (order_of m t) in
    ap (λ (xs : List ℕ). length xs)
    (get_or-map (local_list m cuts t) (drop from (order_of m t)) k 0 [] (omega arith)
    ∙ ap (local_list m cuts t) (get_or-drop from (order_of m t) k 0))
    ∙ length-map (turn_list m cuts t (slice_index (order_of m t) (from + k))) (local_of m)

-- so it is what the type's own dictatorship picks
pub byte_pick : (m : Problem) → IsValid m → (cuts fill : List ℕ) (t from k : ℕ) (d : Dictatorship)
    (list : List ℕ) (place : ℕ) → t < m.types → IsFillBefore m cuts t from fill
    → d ≡ local_dictatorship m cuts t from fill → from + k < length (order_of m t)
    → list ≡ list_at d k → place ≡ choice d k
    → pick (type_dictatorship m cuts t) (from + k)
    ≡ slice_get (whole_turn_list m t (slice_index (order_of m t) (from + k)))
    (choice_byte (length list) place)
byte_pick m v cuts fill t from k d list place lt fills e l el ep =
    let own = type_dictatorship m cuts t in
    let i = slice_index (order_of m t) (from + k) in
    let n = ap (λ (xs : List ℕ). length xs) el
    ∙ ap (λ (x : Dictatorship). length (list_at x k)) e
    ∙ local_entries m cuts fill t from k l in
    let chosen : choice own (from + k) ≡ place
    = sym (ep ∙ ap (λ (x : Dictatorship). choice x k) e
    ∙ local-choice m v cuts fill t from lt fills k l) in
    pick_at own (from + k)
    ∙ ap (λ (xs : List ℕ). slice_get xs (choice own (from + k))) (type-list m cuts t (from + k) l)
    ∙ ap (slice_get (turn_list m cuts t i)) chosen
    ∙ byte_entry m v cuts t i (length list) place (v.order_entries t (from + k) lt l) n

-- ---- a turn whose choice is what it was

-- the row has it already
pub run-same : (m : Problem) → IsValid m → (cuts : List ℕ) (t k : ℕ) (row : List (Option ℕ))
    → t < m.types → k < length (order_of m t) → IsRunUpto m cuts t k row
    → slice_index_or row (slice_index (order_of m t) k) None ≡ pick (type_dictatorship m cuts t) k
    → IsRunUpto m cuts t (k + 1) row
run-same m v cuts t k row lt l run same =
    let i = slice_index (order_of m t) k in
    subst (IsRunUpto m cuts t (k + 1)) (set-get_or row i None)
    (run-more m v cuts t k row (slice_index_or row i None) lt l run same)

-- ---- a turn whose choice is another

-- the byte and the candidate's choice are written, and all else stays
pub kept-write : (m : Problem) → IsValid m → (old new : Kept) (t k byte : ℕ) → IsKept m old
    → t < m.types → k < length (order_of m t) → length new.table ≡ m.types
    → ((u : ℕ) → (u ≡ t → ⊥) → slice_index_or new.table u [] ≡ slice_index_or old.table u [])
    → ((i : ℕ) → (turn_of m t i ≡ k → ⊥)
    → held_in_table new.table t i ≡ held_in_table old.table t i)
    → held_in_table new.table t (slice_index (order_of m t) k)
    ≡ slice_get (whole_turn_list m t (slice_index (order_of m t) k)) byte
    → new.chosen.items
    ≡ set old.chosen.items t (set (slice_index_or old.chosen.items t []) k byte)
    → length new.changed.items ≡ length old.changed.items → IsKept m new
kept-write m v old new t k byte kept lt lk types others rest here written marks =
    let rows = kept.rows in
    let bytes = slice_index_or old.chosen.items t [] in
    let n = kept.turns t lt in
    let own : slice_index_or new.chosen.items t [] ≡ set bytes k byte
    = ap (λ (xs : List (List ℕ)). get_or xs t []) written
    ∙ get_or-set_same old.chosen.items t (set bytes k byte) [] (omega arith) in
    let other : (u : ℕ) → u ≢ t
    → slice_index_or new.chosen.items u [] ≡ slice_index_or old.chosen.items u []
    = λ u ne. ap (λ (xs : List (List ℕ)). get_or xs u []) written
    ∙ get_or-set_other old.chosen.items t u (set bytes k byte) [] ne in
    record {
      types = types;
      rows = ap (λ (xs : List (List ℕ)). length xs) written
          ∙ length-set old.chosen.items t (set bytes k byte) ∙ kept.rows;
      turns = λ u lu.
          ⊎_elim
          (λ same. ap (λ (w : ℕ). length (slice_index_or new.chosen.items w [])) same
          ∙ ap (λ (xs : List ℕ). length xs) own ∙ length-set bytes k byte ∙ n
          ∙ ap (λ (w : ℕ). length (order_of m w)) (sym same))
          (λ ne. ap (λ (xs : List ℕ). length xs) (other u ne) ∙ kept.turns u lu)
          (cases_eq u t);
      each = λ u j lu lj.
          let i = slice_index (order_of m u) j in
          ⊎_elim
          (λ same.
          let j' : j < length (order_of m t)
          = subst (λ (w : ℕ). j < length (order_of m w)) same lj in
          let it = slice_index (order_of m t) j in
          subst (λ (w : ℕ). held_in_table new.table w (slice_index (order_of m w) j)
          ≡ slice_get (whole_turn_list m w (slice_index (order_of m w) j))
          (byte_at new.chosen.items w j)) (sym same)
          (⊎_elim
          (λ (turn : j ≡ k).
          subst (λ (w : ℕ). held_in_table new.table t (slice_index (order_of m t) w)
          ≡ slice_get (whole_turn_list m t (slice_index (order_of m t) w))
          (byte_at new.chosen.items t w)) (sym turn)
          (here ∙ ap (slice_get (whole_turn_list m t (slice_index (order_of m t) k)))
          (sym (ap (λ (xs : List ℕ). slice_index xs k) own
          ∙ get_or-set_same bytes k byte 0 (omega arith)))))
          (λ ne.
          let at = turn_at m v t j lt j' in
          rest it (λ z. ne (sym at ∙ z))
          ∙ kept.each t j lt j'
          ∙ ap (slice_get (whole_turn_list m t it))
          (sym (ap (λ (xs : List ℕ). slice_index xs j) own
          ∙ get_or-set_other bytes k j byte 0 ne)))
          (cases_eq j k)))
          (λ ne.
          ap (λ (xs : List (Option ℕ)). get_or xs i None) (others u ne)
          ∙ kept.each u j lu lj
          ∙ ap (slice_get (whole_turn_list m u i))
          (ap (λ (xs : List ℕ). slice_index xs j) (sym (other u ne))))
          (cases_eq u t);
      marks = marks ∙ kept.marks;
    }

-- only the turn's candidate has another choice, and is marked
pub unmarked-write : (m : Problem) (old new : List (List (Option ℕ))) (marks more : List Bool)
    (t k : ℕ) → length marks ≡ length m.lists → k < length (order_of m t)
    → slice_index (order_of m t) k < length m.lists
    → ((u : ℕ) → (u ≡ t → ⊥) → slice_index_or new u [] ≡ slice_index_or old u [])
    → ((i : ℕ) → (turn_of m t i ≡ k → ⊥) → held_in_table new t i ≡ held_in_table old t i)
    → more ≡ set marks (slice_index (order_of m t) k) true
    → (i : ℕ) → is_marked more i ≡ false
    → (is_marked marks i ≡ false) × ((u : ℕ) → held_in_table new u i ≡ held_in_table old u i)
unmarked-write m old new marks more t k n lk li others rest marked i free =
    let c = slice_index (order_of m t) k in
    let other : i ≢ c
    = λ same. false≢true (sym free
    ∙ ap (λ (xs : List Bool). is_marked xs i) marked
    ∙ ap (is_marked (set marks c true)) same
    ∙ get_or-set_same marks c true false (omega arith)) in (
      sym (get_or-set_other marks c i true false other)
          ∙ sym (ap (λ (xs : List Bool). is_marked xs i) marked) ∙ free,
      λ u. ⊎_elim
          (λ same. ap (λ (w : ℕ). held_in_table new w i) same
          ∙ rest i (λ z. other (sym (candidate_at m t i
          (subst (λ (j : ℕ). j < length (order_of m t)) (sym z) lk))
          ∙ ap (slice_index (order_of m t)) z))
          ∙ ap (λ (w : ℕ). held_in_table old w i) (sym same))
          (λ ne. ap (λ (xs : List (Option ℕ)). get_or xs i None) (others u ne))
          (cases_eq u t),
    )

-- ---- all turns

-- nothing written keeps everything
pub unmarked-none : (kept : Kept) → KeepsUnmarked kept kept
unmarked-none kept i free = (free, λ t. refl)

-- one after the other
pub unmarked-both : (first then' last : Kept) → KeepsUnmarked first then'
    → KeepsUnmarked then' last → KeepsUnmarked first last
unmarked-both first then' last early late i free =
    let b = late i free in
    let a = early i b.0 in
    (a.0, λ t. b.1 t ∙ a.1 t)

-- the marks alone are taken away
pub kept-forget : (m : Problem) (old new : Kept) → IsKept m old → new.table ≡ old.table
    → new.chosen ≡ old.chosen → length new.changed.items ≡ length old.changed.items
    → IsKept m new
kept-forget m old new kept table chosen marks =
    let rows = ap (λ xs. xs.items) chosen in
    record {
      types = ap (λ (xs : List (List (Option ℕ))). length xs) table ∙ kept.types;
      rows = ap (λ (xs : List (List ℕ)). length xs) rows ∙ kept.rows;
      turns = λ t l. ap (λ (xs : List (List ℕ)). length (slice_index_or xs t [])) rows
          ∙ kept.turns t l;
      each = λ t k l lk.
          let i = slice_index (order_of m t) k in
          ap (λ (xs : List (List (Option ℕ))). held_in_table xs t i) table
          ∙ kept.each t k l lk
          ∙ ap (λ (xs : List (List ℕ)). slice_get (whole_turn_list m t i) (byte_at xs t k))
          (sym rows);
      marks = marks ∙ kept.marks;
    }

-- before the first round nobody has chosen
pub kept-none : (m : Problem) → IsValid m → (kept : Kept) → kept.table ≡ empty_table m
    → length kept.table ≡ m.types → length kept.chosen.items ≡ m.types
    → ((t : ℕ) → t < m.types → slice_index_or kept.chosen.items t []
    ≡ replicate (length (order_of m t)) NO_CHOICE)
    → length kept.changed.items ≡ length m.lists → IsKept m kept
kept-none m v kept empty types rows bytes marks = record {
  types = types;
  rows = rows;
  turns = λ t l. ap (λ (xs : List ℕ). length xs) (bytes t l)
      ∙ length-replicate (length (order_of m t)) NO_CHOICE;
  each = λ t k l lk.
      let i = slice_index (order_of m t) k in
      let n = length (order_of m t) in
      ap (λ (xs : List (List (Option ℕ))). held_in_table xs t i) empty
      ∙ empty_table-none m t i
      ∙ sym (past_none m v t i (v.order_entries t k l lk))
      ∙ ap (slice_get (whole_turn_list m t i))
      (sym (ap (λ (xs : List ℕ). slice_index xs k) (bytes t l)
      ∙ get_or-replicate n k NO_CHOICE 0 lk));
  marks = marks;
}
