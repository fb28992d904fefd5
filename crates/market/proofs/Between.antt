-- Lists that lie one after another in one list: what is added at the end leaves those before it as
-- they are.
use Rattle.std.proofs.Common.{◌≡◌, ℕ, ◌+◌, ◌-◌, ◌<◌, ◌≤◌, List, [], ◌∷◌, ◌++◌, length, sym, ap, ◌∙◌, subst, arith, get_or, map, take, drop, ⊎_elim}
use Rattle.std.specs.Prelude.{slice_index, slice_index_or}
use Rattle.std.specs.List.{range_with_len}
use Rattle.std.proofs.lemmas.Bool.{cases_lt}
use Rattle.std.proofs.lemmas.List.{length-map, get_or-map, length-drop, length_push, get_or_append_left, get_or_push, ext_get_or, take_all, take-append-le, drop-append-le, length-append, get_or_read}
use Rattle.std.proofs.Math.Seq.{drop-append_seam}
use Rattle.std.proofs.lemmas.List.FromFn.{length-range_with_len, get_or-range_with_len}
use Rattle.market.specs.FlatLists.{between, flat_lists, IsFlat}

-- read as they lie, they are the lists
pub flat-is : (items bounds : List ℕ) (lists : List (List ℕ)) → IsFlat items bounds lists
    → flat_lists items bounds ≡ lists
unfolding flat_lists
flat-is items bounds lists f =
    let n = length bounds - 1 in
    let c = f.count in
    let r = length-range_with_len 0 n in
    let len = length-map (range_with_len 0 n) (between items bounds) in
    ext_get_or [] (map (between items bounds) (range_with_len 0 n)) lists (omega arith)
    (λ k l.
    let at : get_or (range_with_len 0 n) k 0 ≡ k = get_or-range_with_len 0 n k 0 (omega arith)
    ∙ omega arith in
    get_or-map (between items bounds) (range_with_len 0 n) k 0 [] (omega arith)
    ∙ ap (between items bounds) at ∙ f.each k (omega arith))

-- what is read as it lies is what lies there
pub flat-self : (items bounds : List ℕ) (lists : List (List ℕ)) → IsFlat items bounds lists
    → IsFlat items bounds (flat_lists items bounds)
flat-self items bounds lists f = subst (IsFlat items bounds) (sym (flat-is items bounds lists f)) f

-- no lists yet
pub flat-none : (items bounds : List ℕ) → items ≡ [] → bounds ≡ 0 ∷ [] → IsFlat items bounds []
flat-none items bounds ei eb =
    let n = ap (λ (xs : List ℕ). length xs) ei in
    let m = ap (λ (xs : List ℕ). length xs) eb in
    let first = ap (λ (xs : List ℕ). slice_index xs 0) eb in
    record {
      count = omega arith;
      last = omega arith;
      rising = λ k l. absurd (omega arith);
      within = λ k l.
          let here : k ≡ 0 = omega arith in
          let at = ap (slice_index bounds) here in omega arith;
      each = λ k l. absurd (omega arith);
    }

-- one list more
pub flat-more : (items bounds items' bounds' xs : List ℕ) (lists : List (List ℕ)) (n : ℕ)
    → IsFlat items bounds lists → items' ≡ items ++ xs → bounds' ≡ bounds ++ n ∷ []
    → n ≡ length items' → IsFlat items' bounds' (lists ++ xs ∷ [])
unfolding between
flat-more items bounds items' bounds' xs lists n f ei eb en =
    let count = f.count in
    let last = f.last in
    let li = ap (λ (ys : List ℕ). length ys) ei ∙ length-append items xs in
    let lb = ap (λ (ys : List ℕ). length ys) eb ∙ length_push bounds n in
    let ll = length_push lists xs in
    let old : (k : ℕ) → k ≤ length lists → slice_index bounds' k ≡ slice_index bounds k = λ k l.
    ap (λ (ys : List ℕ). slice_index ys k) eb ∙ get_or_append_left bounds (n ∷ []) 0 k (omega
    arith) in
    let new' : slice_index bounds' (length lists + 1) ≡ n =
    ap (λ (ys : List ℕ). slice_index ys (length lists + 1)) eb
    ∙ get_or_push bounds n 0 (length lists + 1) (omega arith) in
    record {
      count = omega arith;
      last = ap (slice_index bounds') ll ∙ new' ∙ en;
      rising = λ k l.
          ⊎_elim
          (λ less. let a = old k (omega arith) in let b = old (k + 1)
          (omega arith) in let h = f.rising k less in omega arith)
          (λ more.
          let here : k ≡ length lists = omega arith in
          let a = old k (omega arith) in
          let b = ap (λ (j : ℕ). slice_index bounds' (j + 1)) here in
          let e = ap (slice_index bounds) here in
          omega arith)
          (cases_lt k (length lists));
      within = λ k l.
          ⊎_elim
          (λ less. let a = old k (omega arith) in let h = f.within k (omega arith) in omega arith)
          (λ more.
          let here : k ≡ length lists + 1 = omega arith in
          let b = ap (slice_index bounds') here in
          omega arith)
          (cases_lt k (length lists + 1));
      each = λ k l.
          ⊎_elim
          (λ less.
          let s = slice_index bounds k in
          let e = slice_index bounds (k + 1) in
          let a = old k (omega arith) in
          let b = old (k + 1) (omega arith) in
          let rise = f.rising k less in
          let we = f.within (k + 1) (omega arith) in
          let ld = length-drop s items in
          ap (λ (j : ℕ). take (slice_index bounds' (k + 1) - j) (drop j items')) a
          ∙ ap (λ (j : ℕ). take (j - s) (drop s items')) b
          ∙ ap (λ (ys : List ℕ). take (e - s) (drop s ys)) ei
          ∙ ap (take (e - s)) (drop-append-le s items xs (omega arith))
          ∙ take-append-le (e - s) (drop s items) xs (omega arith)
          ∙ f.each k less
          ∙ sym (get_or_append_left lists (xs ∷ []) [] k less))
          (λ more.
          let here : k ≡ length lists = omega arith in
          let a = old k (omega arith) ∙ ap (slice_index bounds) here ∙ last in
          let b = ap (λ (j : ℕ). slice_index bounds' (j + 1)) here ∙ new' in
          let m = length items in
          ap (λ (j : ℕ). take (slice_index bounds' (k + 1) - j) (drop j items')) a
          ∙ ap (λ (j : ℕ). take (j - m) (drop m items')) b
          ∙ ap (λ (ys : List ℕ). take (n - m) (drop m ys)) ei
          ∙ ap (take (n - m)) (drop-append_seam items xs)
          ∙ take_all (n - m) xs (omega arith)
          ∙ sym (get_or_push lists xs [] k (sym here)))
          (cases_lt k (length lists));
    }

-- what a look-up reads
pub flat_read : (items bounds part : List ℕ) (lists value : List (List ℕ)) (k a b : ℕ)
    → IsFlat items bounds lists → lists ≡ value → k < length value → a ≡ get_or bounds k a
    → b ≡ get_or bounds (k + 1) b → part ≡ items
    → take (b - a) (drop a part) ≡ slice_index_or value k []
unfolding between
flat_read items bounds part lists value k a b f e l ea eb ep =
    let n = ap (λ (xs : List (List ℕ)). length xs) e in
    let count = f.count in
    let ra = get_or_read bounds k a (omega arith) ea 0 in
    let rb = get_or_read bounds (k + 1) b (omega arith) eb 0 in
    ap (λ (xs : List ℕ). take (b - a) (drop a xs)) ep
    ∙ ap (λ (x : ℕ). take (b - x) (drop x items)) ra
    ∙ ap (λ (x : ℕ). take (x - slice_index bounds k) (drop (slice_index bounds k) items)) rb
    ∙ f.each k (omega arith)
    ∙ ap (λ (xs : List (List ℕ)). slice_index_or xs k []) e

-- what lies between two bounds, read from slices
pub between_is : (items bounds part marks : List ℕ) (k : ℕ) → part ≡ items → marks ≡ bounds
    → take (slice_index marks (k + 1) - slice_index marks k) (drop (slice_index marks k) part)
    ≡ between items bounds k
unfolding between
between_is items bounds part marks k ep eb =
    ap (λ (xs : List ℕ). take (slice_index marks (k + 1) - slice_index marks k)
    (drop (slice_index marks k) xs)) ep
    ∙ ap (λ (xs : List ℕ). take (slice_index xs (k + 1) - slice_index xs k)
    (drop (slice_index xs k) items)) eb
