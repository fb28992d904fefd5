-- Cutting a text at its commas, one field after the other: the fields found so far, and those of
-- the rest of the text, are the fields of the text.
use Rattle.std.proofs.Common.{◌≡◌, ℕ, zero, suc, ◌+◌, ◌-◌, ◌<◌, ◌≤◌, List, [], ◌∷◌, length, take, drop, refl, sym, ap, ◌∙◌, arith, add-one, Some, ⊎_elim, subst, length-drop, take_all, add-zero}
use Rattle.std.proofs.lemmas.List.{drop-drop}
use Rattle.std.specs.Prelude.{slice_get, slice_index}
use Rattle.std.proofs.lemmas.Bool.{cases_lt}
use Rattle.place_base.specs.declared.limits.TheConstants.{COMMA}
use Rattle.record_files.specs.Cuts.{IsFieldAt, IsCutAt, start_of}
use Rattle.record_files.specs.Rows.{split}

-- the first fields were found, and the rest starts at a byte
pub record CutTo (text ends : List ℕ) (count start : ℕ) : Type 0 where
  pub inside : start ≤ length text
  pub few : count ≤ start
  pub total : count + length (split COMMA (drop start text)) ≡ length (split COMMA text)
  pub rest : (j : ℕ) → slice_get (split COMMA text) (count + j)
      ≡ slice_get (split COMMA (drop start text)) j
  pub begins : count ≤ 4 → start_of ends count ≡ start
  pub fields : (k : ℕ) → k < count → k < 4 → IsFieldAt text k (start_of ends k) (slice_index ends k)

-- what one more end does
pub record AddsEnd (old new : List ℕ) (count end : ℕ) : Type 0 where
  pub here : count < 4 → slice_index new count ≡ end
  pub before : (k : ℕ) → k < count → slice_index new k ≡ slice_index old k

start_of-same : (old new : List ℕ) (count end k : ℕ) → AddsEnd old new count end → k ≤ count
    → start_of new k ≡ start_of old k
start_of-same old new count end zero a le = refl
start_of-same old new count end (suc k) a le = ap (λ n. n + 1) (a.before k (omega arith))

module _ (text old new : List ℕ) (count start p : ℕ) (c : CutTo text old count start)
    (a : AddsEnd old new count (start + p)) where
  -- the field that starts at the rest is the next one
  field-here : p ≤ length (drop start text)
      → slice_get (split COMMA (drop start text)) 0 ≡ Some (take p (drop start text))
      → IsFieldAt text count start (start + p)
  field-here le e =
      let size = length-drop start text in
      let same : start + p - start ≡ p = omega arith in
      record {
        forward = omega arith;
        inside = omega (arith, c.inside);
        field = ap (slice_get (split COMMA text)) (sym (add-zero count)) ∙ c.rest 0 ∙ e
            ∙ ap (λ n. Some (take n (drop start text))) (sym same);
      }

  fields-next : p ≤ length (drop start text)
      → slice_get (split COMMA (drop start text)) 0 ≡ Some (take p (drop start text))
      → (k : ℕ) → k < count + 1 → k < 4 → IsFieldAt text k (start_of new k) (slice_index new k)
  fields-next le e k lt four = ⊎_elim
      (λ (below : k < count).
      let s = start_of-same old new count (start + p) k a (omega arith) in
      rw (s, a.before k below) (c.fields k below four))
      (λ (above : count ≤ k).
      let same : count ≡ k = omega arith in
      let few : count < 4 = omega arith in
      let s : start_of new count ≡ start =
      start_of-same old new count (start + p) count a (omega arith) ∙ c.begins (omega arith) in
      subst (λ n. IsFieldAt text n (start_of new n) (slice_index new n)) same
      (rw (s, a.here few) (field-here le e)))
      (cases_lt k count)

  -- at a comma the rest starts behind it
  pub CutTo-next : p < length (drop start text)
      → split COMMA (drop start text) ≡ take p (drop start text) ∷ split COMMA
      (drop (p + 1) (drop start text))
      → CutTo text new (count + 1) (start + p + 1)
  CutTo-next lt e =
      let size = length-drop start text in
      let behind : drop (p + 1) (drop start text) ≡ drop (start + p + 1) text =
      drop-drop (p + 1) start text
      ∙ (let n : start + (p + 1) ≡ start + p + 1 = omega arith in ap (λ m. drop m text) n) in
      let whole : split COMMA (drop start text) ≡ take p (drop start text) ∷ split COMMA
      (drop (start + p + 1) text) =
      e ∙ ap (λ bs. take p (drop start text) ∷ split COMMA bs) behind in
      let longer : length (split COMMA (drop start text))
      ≡ suc (length (split COMMA (drop (start + p + 1) text))) = ap length whole in
      record {
        inside = omega arith;
        few = omega (arith, c.few);
        total = omega (arith, c.total);
        rest = λ j. let n : count + 1 + j ≡ count + suc j = omega arith in
            ap (slice_get (split COMMA text)) n ∙ c.rest (suc j)
            ∙ ap (λ pieces. slice_get pieces (suc j)) whole;
        begins = λ le. rw add-one (ap (λ n. n + 1) (a.here (omega arith)));
        fields = fields-next (omega arith) (ap (λ pieces. slice_get pieces 0) e);
      }

  -- at the end of the text all fields are found
  pub IsCutAt-end : p ≡ length (drop start text)
      → split COMMA (drop start text) ≡ drop start text ∷ []
      → IsCutAt text new (count + 1)
  IsCutAt-end all e =
      let one : length (split COMMA (drop start text)) ≡ 1 = ap length e in
      let here : slice_get (split COMMA (drop start text)) 0 ≡ Some (take p (drop start text)) =
      ap (λ pieces. slice_get pieces 0) e
      ∙ ap (λ x. Some x) (sym (take_all p (drop start text) (omega arith))) in
      record {
        total = omega (arith, c.total);
        fields = fields-next (omega arith) here;
      }
