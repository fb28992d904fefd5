use Rattle.std.proofs.Common.{◌≡◌, ◌<◌, ◌≤◌, ◌∙◌, ℕ, Bool, Bor, List, [], Some, None, true, false, ap, bytes_eq, get_or, length, map, position, refl, subst, sym, arith, ⊎_elim}
use Rattle.std.proofs.lemmas.Bool.{cases_lt, lt-ltb}
use Rattle.std.proofs.lemmas.Bool.Decides.{nat_tests}
use Rattle.std.proofs.lemmas.List.{get_or-map, length-map}
use Rattle.std.proofs.lemmas.List.Sums.{position_or_len_is}
use Rattle.record_files.proofs.form.version_of.Goals as goal

-- the place of a text that stands first there
found-at : (text : List ℕ) (headers : List (List ℕ)) (i : ℕ) → i < length headers
    → ((k : ℕ) → k < i → bytes_eq text (get_or headers k []) ≡ false)
    → bytes_eq text (get_or headers i []) ≡ true → position (bytes_eq text) headers ≡ Some i
found-at text headers i inside before here =
    rw (position_or_len_is (bytes_eq text) headers i [] (omega arith) before (λ _. here))
    (rw (lt-ltb i (length headers) inside) refl)

-- a text that stands nowhere
found-nowhere : (text : List ℕ) (headers : List (List ℕ))
    → ((k : ℕ) → k < length headers → bytes_eq text (get_or headers k []) ≡ false)
    → position (bytes_eq text) headers ≡ None
found-nowhere text headers before =
    rw (position_or_len_is (bytes_eq text) headers (length headers) [] (omega arith) before
    (λ past. absurd (omega arith))) (grind (arith, nat_tests))

-- a header that is lent
here-is : (text : List ℕ) (headers : List (Bor (List ℕ))) (i : ℕ) (test : Bool) → i < length headers
    → test ≡ bytes_eq text (get_or headers i (record { ref_ptr = (0, 0); now = [] })).now
    → bytes_eq text (get_or (map (λ header. header.now) headers) i []) ≡ test
here-is text headers i test inside e =
    ap (bytes_eq text) (get_or-map (λ header. header.now) headers i
    (record { ref_ptr = (0, 0); now = [] }) [] inside) ∙ sym e

pub returns-then-eq : goal.returns-then-eq
returns-then-eq c =
    let inside = c.loop-version-test.true in
    let size = length-map c.args.headers.now (λ header. header.now) in
    sym (found-at c.args.text.now _ c.loop-version.version (omega arith) c.loop-version.invariant
    (here-is c.args.text.now c.args.headers.now c.loop-version.version true inside
    (c.if-eq.ensures {u = tt})))

pub loop-version-preserved : goal.loop-version-preserved
loop-version-preserved c = λ k below. ⊎_elim
    (λ (before : k < c.loop-version.version). c.loop-version.invariant k before)
    (λ (after : c.loop-version.version ≤ k).
    let last : c.loop-version.version ≡ k = omega arith in
    subst (λ i. bytes_eq c.args.text.now
    (get_or (map (λ header. header.now) c.args.headers.now) i []) ≡ false) last
    (here-is c.args.text.now c.args.headers.now c.loop-version.version false
    c.loop-version-test.true (c.if-eq.ensures {u = tt})))
    (cases_lt k c.loop-version.version)

pub returns : goal.returns
returns c = sym (found-nowhere c.args.text.now _ (λ k below. c.loop-version.invariant k
    (let size = length-map c.args.headers.now (λ header. header.now) in
    let past = c.loop-version-test.false in omega arith)))
