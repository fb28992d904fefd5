-- The turns of all types, put together type by type.
use Rattle.std.proofs.Common.{◌≡◌, ◌+◌, ◌∙◌, ◌<◌, ◌≤◌, ℕ, List, [], ◌∷◌, ◌++◌, Ok, Option, Result, Some, length, ap, append_assoc, arith, refl, subst, sym, ⊎_elim, length-append}
use Rattle.std.specs.Prelude.{slice_index_or}
use Rattle.std.proofs.lemmas.Bool.{cases_lt}
use Rattle.std.proofs.lemmas.List.{append-nil, get_or_append_left, get_or_push, length_push}
use Rattle.rank_lists.specs.Clean.{AreAllCleanTurns, AreCleanTurns, AreEachRead, AreTurnsRead, keys_in}
use Rattle.rank_lists.specs.declared.part_ranks.PartRanks.{PartRanks}
use Rattle.rank_lists.specs.declared.turns.Turns.{Turns}

-- the turns of one type more
pub AreEachRead-next : {E : Type 0} (parts : List PartRanks)
    (turns : List (Result (Option Turns) E))
    (one : Result (Option Turns) E) (types : ℕ) → AreEachRead types parts turns
    → AreTurnsRead (keys_in types parts) one → AreEachRead (types + 1) parts (turns ++ one ∷ [])
AreEachRead-next {E} parts turns one types read last =
    let before = read.size in
    let size = length_push turns one in
    record {
      size = omega arith;
      each = λ kind d lt. ⊎_elim
          (λ (below : kind < types). subst (AreTurnsRead {E = E} (keys_in kind parts))
          (sym (get_or_append_left turns (one ∷ []) d kind (omega arith))) (read.each kind d below))
          (λ (above : types ≤ kind).
          let same : types ≡ kind = omega arith in
          subst (AreTurnsRead {E = E} (keys_in kind parts))
          (sym (get_or_push turns one d kind (omega arith)))
          (subst (λ k. AreTurnsRead {E = E} (keys_in k parts) one) same last))
          (cases_lt kind types);
    }

module _ {E : Type 0} (parts : List PartRanks) (all : List (Result (Option Turns) E)) where
  -- these are the turns of the first types
  pub record CollectsTo (orders ranks : List (List ℕ)) (left : List (Result (Option Turns) E))
      : Type 0 where
    pub done : List (Result (Option Turns) E)
    pub behind : all ≡ done ++ left
    pub turns : AreAllCleanTurns (length done) parts orders ranks

  -- before the first type there is no turn, and all are left
  pub CollectsTo-begin : CollectsTo [] [] all
  CollectsTo-begin = record {
    done = [];
    behind = refl;
    turns = record {
      orders_size = refl;
      ranks_size = refl;
      turns = λ kind lt. absurd (omega arith);
    };
  }

  -- one type more
  pub CollectsTo-next : (orders ranks : List (List ℕ)) (turns : Turns)
      (left : List (Result (Option Turns) E)) → AreEachRead (length all) parts all
      → CollectsTo orders ranks (Ok (Some turns) ∷ left)
      → CollectsTo (orders ++ turns.order ∷ []) (ranks ++ turns.ranks ∷ []) left
  CollectsTo-next orders ranks turns left read c =
      let one : Result (Option Turns) E = Ok (Some turns) in
      let done = c.done in
      let size = length_push done one in
      let orders_more = length_push orders turns.order in
      let ranks_more = length_push ranks turns.ranks in
      let orders_size = c.turns.orders_size in
      let ranks_size = c.turns.ranks_size in
      let behind : all ≡ (done ++ one ∷ []) ++ left =
      c.behind ∙ sym (append_assoc done (one ∷ []) left) in
      let within : length done < length all =
      omega (arith, ap length behind, length-append (done ++ one ∷ []) left) in
      let here : slice_index_or all (length done) one ≡ one =
      ap (λ xs. slice_index_or xs (length done) one) behind
      ∙ get_or_append_left (done ++ one ∷ []) left one (length done) (omega arith)
      ∙ get_or_push done one one (length done) refl in
      let last : AreCleanTurns (keys_in (length done) parts) turns.order turns.ranks =
      subst (AreTurnsRead {E = E} (keys_in (length done) parts)) here
      (read.each (length done) one within)
      in
      record {
        done = done ++ one ∷ [];
        behind = behind;
        turns = record {
          orders_size = omega arith;
          ranks_size = omega arith;
          turns = λ kind lt. ⊎_elim
              (λ (below : kind < length done). rw (
                get_or_append_left orders (turns.order ∷ []) [] kind (omega arith),
                get_or_append_left ranks (turns.ranks ∷ []) [] kind (omega arith),
              )
              (c.turns.turns kind below))
              (λ (above : length done ≤ kind).
              let same : length done ≡ kind = omega arith in
              rw (
                get_or_push orders turns.order [] kind (omega arith),
                get_or_push ranks turns.ranks [] kind (omega arith),
              )
              (subst (λ k. AreCleanTurns (keys_in k parts) turns.order turns.ranks) same last))
              (cases_lt kind (length done));
        };
      }

  -- where none is left these are the turns of all types
  pub CollectsTo-ends : (types : ℕ) (orders ranks : List (List ℕ)) → length all ≡ types
      → CollectsTo orders ranks [] → AreAllCleanTurns types parts orders ranks
  CollectsTo-ends types orders ranks size c =
      let whole : c.done ≡ all = sym (append-nil c.done) ∙ sym c.behind in
      subst (λ n. AreAllCleanTurns n parts orders ranks) (ap length whole ∙ size) c.turns
