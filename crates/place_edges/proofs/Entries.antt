-- Looking a name up in entries, and reading on in one.
use Rattle.std.proofs.Common.{◌≡◌, ℕ, ◌+◌, ◌-◌, ◌^◌, suc, ◌<◌, min, List, [], ◌∷◌, ◌++◌, length, take, drop, refl, sym, ◌∙◌, ap, arith, Some, true, get_or, inl, inr}
use Rattle.std.specs.Prelude.{slice_get, Option}
use Rattle.std.specs.Str.{bytes_eq}
use Rattle.std.proofs.Math.Seq.{drop-cons}
use Rattle.std.proofs.lemmas.List.{length-drop, take-append-drop, drop-drop, drop_all}
use Rattle.std.proofs.lemmas.Bool.{cases_lt}
use Rattle.std.proofs.lemmas.Grind.{common_steps}
use Rattle.std.proofs.lemmas.Option.{slice_get-get_or, slice_get_past}
use Rattle.place_edges.specs.Shelf.{TakesCount, byte_count}
use Rattle.place_edges.specs.HeldFiles.{Entries, Held, files_of, bytes_of, left_at, place_behind_one_more}
use Rattle.place_edges.specs.declared.held.Place.{Place}
use Rattle.place_edges.specs.declared.held.Place.TheVariants.{Closed, Unknown, Inside}

-- the next bytes of what is left, and what is left then
pub loses-front : (bytes : List ℕ) (at from count room : ℕ) → from ≡ min at (length bytes)
    → count ≡ min (length bytes - from) room
    → (drop at bytes ≡ take count (drop from bytes) ++ drop (from + count) bytes)
    × (count ≡ 0 → 0 < room → drop (from + count) bytes ≡ [])
loses-front bytes at from count room f k =
    let same : drop at bytes ≡ drop from bytes = grind (arith, common_steps) in (
      same ∙ sym (take-append-drop count (drop from bytes))
          ∙ ap (λ v. take count (drop from bytes) ++ v) (drop-drop count from bytes),
      λ z r. drop_all (from + count) bytes (omega arith),
    )

held-same : (entry : List ℕ × List ℕ) (rest : Entries) (name : List ℕ)
    → bytes_eq (entry.0) name ≡ true → files_of (entry ∷ rest) name ≡ Some entry.1
held-same entry rest name h = rw h refl

slice_get_some : (entries : Entries) (i : ℕ) (d : List ℕ × List ℕ) → i < length entries
    → slice_get entries i ≡ Some (get_or entries i d)
slice_get_some entries i d lt = slice_get-get_or entries i d lt

-- an entry with this name is found
pub held-found : (entries : Entries) (name : List ℕ) (i : ℕ) (entry : List ℕ × List ℕ)
    → i < length entries → entry ≡ get_or entries i entry
    → bytes_eq (entry.0) name ≡ true
    → files_of (drop i entries) name ≡ Some (bytes_of (slice_get entries i))
held-found entries name i entry lt is same =
    let there : slice_get entries i ≡ Some entry = slice_get_some entries i entry lt
    ∙ ap (λ e. Some e) (sym is) in
    ap (λ v. files_of v name) (drop-cons entries i entry lt)
    ∙ ap (λ e. files_of (e ∷ drop (suc i) entries) name) (sym is)
    ∙ held-same entry (drop (suc i) entries) name same
    ∙ ap (λ o. Some (bytes_of o)) (sym there)

-- a take inside an entry
pub takes-entry : (entries : Entries) (place : Place) (file at from count : ℕ)
    (entry : List ℕ × List ℕ) (bytes into : List ℕ)
    → place ≡ Inside file at → slice_get entries file ≡ Some entry → bytes ≡ entry.1
    → from ≡ min at (length bytes) → count ≡ min (length bytes - from) (length into)
    → take count into ≡ take count (take (length bytes - from) (drop from bytes))
    → TakesCount (left_at entries place) (left_at entries (Inside file (from + count))) count into
takes-entry entries place file at from count entry bytes into p s b f k t =
    let whole : take (length bytes - from) (drop from bytes) ≡ drop from bytes =
    grind (arith, common_steps) in
    let piece : take count into ≡ take count (drop from bytes) = t ∙ ap (λ v. take count v) whole in
    let front = loses-front bytes at from count (length into) f k in
    rw (p, s, ← b) (front.0 ∙ ap (λ v. v ++ drop (from + count) bytes) (sym piece), front.1)

-- how many bytes a take inside an entry gives
pub counts-entry : (entries : Entries) (place : Place) (file at from count n : ℕ)
    (entry : List ℕ × List ℕ) (bytes : List ℕ)
    → place ≡ Inside file at → slice_get entries file ≡ Some entry → bytes ≡ entry.1
    → from ≡ min at (length bytes) → count ≡ min (length bytes - from) n
    → count ≡ min (byte_count (left_at entries place)) n
counts-entry entries place file at from count n entry bytes p s b f k =
    let left = length-drop at bytes in
    rw (p, s, ← b) (omega arith)

-- an entry in front leaves what is left of an older one
pub left_at-cons : (entry : List ℕ × List ℕ) (entries : Entries) (place : Place)
    → length entries < 2 ^ 64 - 1
    → left_at (entry ∷ entries) (place_behind_one_more place) ≡ left_at entries place
left_at-cons entry entries Closed few = refl
left_at-cons entry entries Unknown few = refl
left_at-cons entry entries (Inside file at) few =
    let same : slice_get (entry ∷ entries) (min (file + 1) (2 ^ 64 - 1)) ≡ slice_get entries file =
    elim (cases_lt file (2 ^ 64 - 1)) [
      | inl lt ↦ let e : min (file + 1) (2 ^ 64 - 1) ≡ suc file = omega arith in rw e refl
      | inr le ↦
          let e : min (file + 1) (2 ^ 64 - 1) ≡ 2 ^ 64 - 1 = omega arith in
          rw e (slice_get_past (entry ∷ entries) (2 ^ 64 - 1) (omega arith)
          ∙ sym (slice_get_past entries file (omega arith)))
    ] in
    ap (λ o. Some (drop at (bytes_of o))) same

-- entries with what is left of the current file
abbrev pub held_with : Entries → Option (List ℕ) → Held
held_with entries rest = record { entries = entries; rest = rest }

-- the same of all that is held
pub held-cons : (entry : List ℕ × List ℕ) (entries more : Entries) (place further : Place)
    (old : Held) → length entries < 2 ^ 64 - 1
    → more ≡ entry ∷ entries → further ≡ place_behind_one_more place
    → held_with entries (left_at entries place) ≡ old
    → held_with more (left_at more further) ≡ held_with (entry ∷ old.entries) old.rest
held-cons entry entries more place further old few m p o =
    rw (m, p, ← o, left_at-cons entry entries place few) refl
