-- Words of flags, bit by bit: what is raised at the opening and once a flag is raised, and what a
-- look at a word passes.
use Rattle.std.proofs.Common.{◌≡◌, ◌≢◌, ℕ, zero, suc, ◌+◌, ◌-◌, ◌*◌, ◌^◌, ◌<◌, ◌≤◌, Bool, true, false, not, ◌&&◌, List, length, drop, get_or, set, nat_lt, nat_le, eqb, eq-eqb, sym, refl, ap, subst, ◌∙◌, arith, get_or-set_same, get_or-set_other}
use Rattle.std.specs.List.{position_or_len, range_with_len}
use Rattle.std.specs.Int.{bit_at}
use Rattle.std.proofs.lemmas.Bool.{lt-ltb, le-ltb, eqb-true, not-false, and_parts}
use Rattle.std.proofs.lemmas.Nat.Bits.{bit_at_or, bit_at-lt, bit_at-zero, bit_at-pow_same, bit_at-pow_other}
use Rattle.std.proofs.lemmas.List.{length-map, get_or-drop, get_or_past, length-drop, length-take}
use Rattle.std.proofs.lemmas.List.FromFn.{length-range_with_len, get_or-map-range_with_len}
use Rattle.std.proofs.lemmas.List.Sums.{position_or_len_is, fails_before_first}
use Rattle.std.proofs.lemmas.List.Folds.{length-prefix_len}
use mathlib.Core.Logic.{dite}
use native.Mathlib.Decide.{ℕ_discrete}
use Rattle.market.specs.Dictatorships.{Dictatorship, list_at}
use Rattle.interleaving_core.specs.declared.parts.Claiming.{Claiming}
use Rattle.interleaving_core.specs.declared.limits.TheConstants.{FLAGS_PER_WORD}
use Rattle.interleaving_core.specs.Flags.{flag_word_count, flag_group, flag_bit, is_raised_in, with_flag, begins_full, begins_full_at, with_bit_if, word_of, first_flag_word, first_flags}
use Rattle.interleaving_core.specs.Core.{entry}
use Rattle.interleaving_core.specs.Events.{is_raised_among, place_past_flags, shares_flag_word, claim_past_flags}
use Rattle.interleaving_core.specs.Sound.{bit}

-- ---- one bit

-- the bit that is set where it was not
bit_set : (t : Bool) (word n : ℕ) → bit_at word n ≡ 0 → bit_at (with_bit_if t word n) n ≡ bit t
bit_set true word n clear =
    let or = bit_at_or word (2 ^ n) n in
    let one = bit_at-pow_same n in
    omega arith
bit_set false word n clear = clear

-- any other bit
bit_kept : (t : Bool) (word n b : ℕ) → b ≢ n → bit_at (with_bit_if t word n) b ≡ bit_at word b
bit_kept true word n b other =
    let or = bit_at_or word (2 ^ n) b in
    let none = bit_at-pow_other n b other in
    omega arith
bit_kept false word n b other = refl

-- no bit is set from n on
pub word_above : (f : ℕ → Bool) (n b : ℕ) → n ≤ b → bit_at (word_of f n) b ≡ 0
unfolding word_of
word_above f zero b l = bit_at-zero b
word_above f (suc n) b l =
    bit_kept (f n) (word_of f n) n b (λ e. omega arith) ∙ word_above f n b (omega arith)

-- below n each bit is what it says
pub word_below : (f : ℕ → Bool) (n b : ℕ) → b < n → bit_at (word_of f n) b ≡ bit (f b)
unfolding word_of
word_below f zero b l = absurd (omega arith)
word_below f (suc n) b l =
    dite (ℕ_discrete b n)
    (λ here. subst (λ (z : ℕ). bit_at (with_bit_if (f n) (word_of f n) n) z ≡ bit (f z)) (sym here)
    (bit_set (f n) (word_of f n) n (word_above f n n (omega arith))))
    (λ other. bit_kept (f n) (word_of f n) n b other ∙ word_below f n b (omega arith))

-- a word of flags at the opening, made bit by bit
pub word_begins : (d : Dictatorship) (group : ℕ) → 0 ≡ word_of (begins_full_at d group) 0
unfolding word_of
word_begins d group = refl

-- the next bit, by whether its programme is full
pub word_more : (d : Dictatorship) (group n word : ℕ) (full : Bool)
    → word ≡ word_of (begins_full_at d group) n
    → full ≡ begins_full d (FLAGS_PER_WORD * group + n)
    → with_bit_if full word n ≡ word_of (begins_full_at d group) (n + 1)
unfolding word_of
word_more d group n word full is test =
    let next : suc n ≡ n + 1 = omega arith in
    (λ k. with_bit_if (test k) (is k) n) ∙ ap (word_of (begins_full_at d group)) next

-- a bit is 1 where it is not 0, by its test
pub test_of_bit : (t : Bool) (b : ℕ) → b ≡ bit t → eqb b 1 ≡ t
test_of_bit true b e = eq-eqb b 1 e
test_of_bit false b e = ap (λ (n : ℕ). eqb n 1) e

-- ---- the opening

-- a word of flags at the opening
pub first_word_at : (d : Dictatorship) (group : ℕ) → group < flag_word_count (length d.quota)
    → get_or (first_flags d) group 0 ≡ first_flag_word d group
first_word_at d group l =
    get_or-map-range_with_len (first_flag_word d) 0 (flag_word_count (length d.quota)) group group 0
    l (omega arith)

-- as many words as it takes
pub first_flags_long : (d : Dictatorship)
    → length (first_flags d) ≡ flag_word_count (length d.quota)
first_flags_long d =
    length-map (range_with_len 0 (flag_word_count (length d.quota))) (first_flag_word d)
    ∙ length-range_with_len 0 (flag_word_count (length d.quota))

-- at the opening the flag of a programme is raised where it is full
pub first_raised : (d : Dictatorship) (p : ℕ) → p < length d.quota
    → is_raised_in (get_or (first_flags d) (flag_group p) 0) p
    ≡ nat_le (get_or d.quota p 0) (get_or d.fill p 0)
first_raised d p l =
    let f = begins_full_at d (flag_group p) in
    let same : FLAGS_PER_WORD * flag_group p + flag_bit p ≡ p = omega arith in
    test_of_bit _ _
    (ap (λ (w : ℕ). bit_at w (flag_bit p)) (first_word_at d (flag_group p) (omega arith))
    ∙ (word_below f FLAGS_PER_WORD (flag_bit p) (omega arith)
    ∙ ap (λ (q : ℕ). bit (begins_full d q)) same))
    ∙ ap (λ b. b && nat_le (get_or d.quota p 0) (get_or d.fill p 0))
    (lt-ltb p (length d.quota) l)

-- a bit of such a word is 0 where the word of its group has it 0
first_bit : (d : Dictatorship) (group b : ℕ)
    → bit_at (first_flag_word d group) b ≡ 0 → bit_at (get_or (first_flags d) group 0) b ≡ 0
first_bit d group b none =
    elim (native.Mathlib.Decide.dec_le (flag_word_count (length d.quota)) group) [
      | yes far ↦ (let long = first_flags_long d in
          ap (λ (w : ℕ). bit_at w b) (get_or_past (first_flags d) group 0 (omega arith))
          ∙ bit_at-zero b)
      | no near ↦ ap (λ (w : ℕ). bit_at w b) (first_word_at d group (omega arith)) ∙ none
    ]

-- and a bit that is no programme's flag is 0
pub first_unused : (d : Dictatorship) (group b : ℕ) → b < FLAGS_PER_WORD
    → length d.quota ≤ FLAGS_PER_WORD * group + b → bit_at (get_or (first_flags d) group 0) b ≡ 0
first_unused d group b l past =
    let p : ℕ = FLAGS_PER_WORD * group + b in
    first_bit d group b
    (word_below (begins_full_at d group) FLAGS_PER_WORD b l
    ∙ ap (λ t. bit (t && nat_le (get_or d.quota p 0) (get_or d.fill p 0)))
    (le-ltb p (length d.quota) past))

-- and there are no further bits
pub first_narrow : (d : Dictatorship) (group b : ℕ) → FLAGS_PER_WORD ≤ b
    → bit_at (get_or (first_flags d) group 0) b ≡ 0
first_narrow d group b past =
    first_bit d group b
    (word_above (begins_full_at d group) FLAGS_PER_WORD b past)

-- ---- a flag is raised

-- the words of flags once that of q is raised too
abbrev pub flags_with : List ℕ → ℕ → List ℕ
flags_with flags q =
    set flags (flag_group q) (with_flag (get_or flags (flag_group q) 0) q)

-- it is raised
pub raised_now : (flags : List ℕ) (q : ℕ) → flag_group q < length flags
    → is_raised_in (get_or (flags_with flags q) (flag_group q) 0) q ≡ true
raised_now flags q l =
    let word = get_or flags (flag_group q) 0 in
    let or = bit_at_or word (2 ^ flag_bit q) (flag_bit q) in
    let one = bit_at-pow_same (flag_bit q) in
    let most = bit_at-lt word (flag_bit q) in
    ap (λ (w : ℕ). is_raised_in w q)
    (get_or-set_same flags (flag_group q) (with_flag word q) 0 l)
    ∙ eq-eqb _ 1 (omega arith)

-- a bit that is not the flag of q is as before
pub bit_as_before : (flags : List ℕ) (q group b : ℕ) → flag_group q < length flags
    → (group ≡ flag_group q → b ≢ flag_bit q)
    → bit_at (get_or (flags_with flags q) group 0) b ≡ bit_at (get_or flags group 0) b
bit_as_before flags q group b l other =
    let word = get_or flags (flag_group q) 0 in
    dite (ℕ_discrete group (flag_group q))
    (λ here.
    let or = bit_at_or word (2 ^ flag_bit q) b in
    let none = bit_at-pow_other (flag_bit q) b (other here) in
    let kept : bit_at (with_flag word q) b ≡ bit_at word b = omega arith in
    subst (λ (g : ℕ). bit_at (get_or (flags_with flags q) g 0) b ≡ bit_at (get_or flags g 0) b)
    (sym here)
    (ap (λ (w : ℕ). bit_at w b) (get_or-set_same flags (flag_group q) (with_flag word q) 0 l)
    ∙ kept))
    (λ apart. ap (λ (w : ℕ). bit_at w b)
    (get_or-set_other flags (flag_group q) group (with_flag word q) 0 apart))

-- so is the flag of any other programme
pub raised_as_before : (flags : List ℕ) (q p : ℕ) → flag_group q < length flags → p ≢ q
    → is_raised_in (get_or (flags_with flags q) (flag_group p) 0) p
    ≡ is_raised_in (get_or flags (flag_group p) 0) p
raised_as_before flags q p l other =
    ap (λ (n : ℕ). eqb n 1)
    (bit_as_before flags q (flag_group p) (flag_bit p) l (λ g b. other (omega arith)))

-- ---- a look at flags

-- it passes no more than the list
pub past_flags_within : (d : Dictatorship) (k j word : ℕ) → j ≤ length (list_at d k)
    → place_past_flags d k j word ≤ length (list_at d k)
past_flags_within d k j word l =
    let rest = drop j (list_at d k) in
    let stops = λ (p : ℕ). is_raised_among (flag_group (entry d k j)) word p in
    let short = length-drop j (list_at d k) in
    let most = prefix_within stops rest in
    omega arith
  where
    prefix_within : (f : ℕ → Bool) (l : List ℕ) → position_or_len (λ p. not (f p)) l ≤ length l
    prefix_within f l = subst (λ (n : ℕ). n ≤ length l) (length-prefix_len _ l)
        (let t = length-take (position_or_len (λ p. not (f p)) l) l in omega arith)

-- the flag of an entry passed stands in the word and is raised there
pub raised_before : (d : Dictatorship) (k j word i : ℕ) → j ≤ i → i < place_past_flags d k j word
    → (flag_group (entry d k i) ≡ flag_group (entry d k j))
    × (is_raised_in word (entry d k i) ≡ true)
raised_before d k j word i from l =
    let rest = drop j (list_at d k) in
    let group = flag_group (entry d k j) in
    let at : get_or rest (i - j) 0 ≡ entry d k i =
    get_or-drop j (list_at d k) (i - j) 0 ∙ ap (λ (n : ℕ). get_or (list_at d k) n 0) (omega arith)
    in
    let fails = fails_before_first (λ p. not (is_raised_among group word p)) rest (i - j) 0
    (omega arith) in
    let raised : is_raised_among group word (entry d k i) ≡ true =
    not-false _ (subst (λ (p : ℕ). not (is_raised_among group word p) ≡ false) at fails) in
    let parts = and_parts _ _ raised in
    (eqb-true _ _ parts.0, parts.1)

-- where the entries from j on up to i, and that one not, are raised, the look passes up to i
past_flags_is : (d : Dictatorship) (k j word i : ℕ) → j ≤ i → i ≤ length (list_at d k)
    → ((n : ℕ) → j ≤ n → n < i
    → is_raised_among (flag_group (entry d k j)) word (entry d k n) ≡ true)
    → (i < length (list_at d k)
    → is_raised_among (flag_group (entry d k j)) word (entry d k i) ≡ false)
    → place_past_flags d k j word ≡ i
past_flags_is d k j word i from within raised lowered =
    let list = list_at d k in
    let rest = drop j list in
    let stops = λ (p : ℕ). not (is_raised_among (flag_group (entry d k j)) word p) in
    let long = length-drop j list in
    let at : (n : ℕ) → get_or rest n 0 ≡ entry d k (j + n) = λ n. get_or-drop j list n 0 in
    let found = position_or_len_is stops rest (i - j) 0 (omega arith)
    (λ n l. ap stops (at n) ∙ ap not (raised (j + n) (omega arith) (omega arith)))
    (λ l.
    let here : j + (i - j) ≡ i = omega arith in
    ap stops (at (i - j)) ∙ (ap (λ (n : ℕ). stops (entry d k n)) here
    ∙ ap not (lowered (omega arith)))) in
    omega arith

-- the claim of a look that passes up to i
claim_after : (d : Dictatorship) (k j word i : ℕ) (inside : Bool) → place_past_flags d k j word ≡ i
    → nat_lt i (length (list_at d k)) ≡ inside
    → record {
      turn = k;
      passed = i;
      looked = inside && eqb (flag_group (entry d k i)) (flag_group (entry d k j));
      met = false;
    } ≡ claim_past_flags d k j word
claim_after d k j word i inside is test =
    let looked = λ (b : Bool). b && eqb (flag_group (entry d k i)) (flag_group (entry d k j)) in
    let claim : ℕ → Bool → Claiming =
    λ n b. record { turn = k; passed = n; looked = b; met = false } in
    ap (λ (b : Bool). claim i (looked b)) (sym test)
    ∙ ap (λ (n : ℕ). claim n (shares_flag_word d k j n)) (sym is)

-- the claim of a look that comes to a flag which is elsewhere, or lowered
pub stopped_at : (d : Dictatorship) (k j word i : ℕ) → j ≤ i → i < length (list_at d k)
    → ((n : ℕ) → j ≤ n → n < i
    → is_raised_among (flag_group (entry d k j)) word (entry d k n) ≡ true)
    → is_raised_among (flag_group (entry d k j)) word (entry d k i) ≡ false
    → record {
      turn = k;
      passed = i;
      looked = eqb (flag_group (entry d k i)) (flag_group (entry d k j));
      met = false;
    } ≡ claim_past_flags d k j word
stopped_at d k j word i from inside raised lowered =
    claim_after d k j word i true
    (past_flags_is d k j word i from (omega arith) raised (λ _. lowered))
    (lt-ltb i (length (list_at d k)) inside)

-- the claim of a look that passes the whole list
pub passed_all : (d : Dictatorship) (k j word i : ℕ) → j ≤ i → i ≡ length (list_at d k)
    → ((n : ℕ) → j ≤ n → n < i
    → is_raised_among (flag_group (entry d k j)) word (entry d k n) ≡ true)
    → record { turn = k; passed = i; looked = false; met = false } ≡ claim_past_flags d k j word
passed_all d k j word i from end raised =
    claim_after d k j word i false
    (past_flags_is d k j word i from (omega arith) raised (λ l. absurd (omega arith)))
    (le-ltb i (length (list_at d k)) (omega arith))
