-- Reading rows one after the other comes to the first fault: as long as no row has one, the least
-- of those read has none; the first that has one is the least of all.
use Rattle.std.proofs.Common.{◌≡◌, ℕ, zero, suc, ◌+◌, ◌-◌, ◌<◌, ◌≤◌, List, [], ◌∷◌, ◌++◌, length, take, drop, get_or, refl, sym, ap, ◌∙◌, arith, add-one, Bool, true, false, nat_le, Option, Some, None, ⊎_elim, subst, length-drop, length-take-le, take_all}
use Rattle.std.proofs.lemmas.Bool.{cases_lt, leb-false}
use Rattle.std.specs.Prelude.{slice_get, option_and_then}
use Rattle.std.proofs.Math.Seq.{drop-cons}
use Rattle.std.proofs.lemmas.List.{take_more}
use Rattle.std.proofs.lemmas.Option.{slice_get-get_or, slice_get_past}
use Rattle.place_base.specs.declared.fault.FaultKind.TheVariants.{TooManyRows}
use Rattle.place_base.specs.declared.fault.FileFault.{FileFault}
use Rattle.record_files.specs.FirstFaults.{FileRules, fault_at, fault_if, first_of, first_row_fault, long_fault, shape_fault, fault_behind, fault_in, row_fault, least_fault}
use Rattle.record_files.specs.Form.{header_in, version_in}
use Rattle.record_files.specs.ReadTo.{AreRowsRead, AreRowsTaken, IsRowTaken}
use Rattle.record_files.specs.Rows.{Row, rows, data_rows}
use Rattle.record_files.specs.declared.form.Header.{Header}
use Rattle.record_files.specs.declared.reading.RowsRead.{RowsRead}

-- what stands behind a head
record HasHead {X : Type 0} (xs : List X) (k : ℕ) (x : X) (left : List X) : Type 0 where
  within : k < length xs
  head : slice_get xs k ≡ Some x
  behind : left ≡ drop (k + 1) xs
  taken : take (k + 1) xs ≡ take k xs ++ x ∷ []

drop-head : {X : Type 0} (xs : List X) (k : ℕ) (x : X) (left : List X) → x ∷ left ≡ drop k xs
    → HasHead xs k x left
drop-head xs k x left e =
    let sizes : suc (length left) ≡ length xs - k = ap length e ∙ length-drop k xs in
    let lt : k < length xs = omega arith in
    let both : x ∷ left ≡ get_or xs k x ∷ drop (suc k) xs = e ∙ drop-cons xs k x lt in
    let head : x ≡ get_or xs k x = cc in
    let behind : left ≡ drop (suc k) xs = cc in
    record {
      within = lt;
      head = slice_get-get_or xs k x lt ∙ ap (λ y. Some y) (sym head);
      behind = rw add-one behind;
      taken = take_more xs k x lt ∙ ap (λ y. take k xs ++ y ∷ []) (sym head);
    }

-- of two faults none is there where the first of them is not
pub first_of-none : (a b : Option FileFault) → first_of a b ≡ None → (a ≡ None) × (b ≡ None)
first_of-none None b none = (refl, none)
first_of-none (Some fault) b none = cc

-- the test of a fault that is not there fails
pub fault_if-none : (test : Bool) (fault : FileFault) → fault_if test fault ≡ None → test ≡ false
fault_if-none true fault none = cc
fault_if-none false fault none = refl

-- a row without a fault stands within the limit of its file
pub fault_behind-few : (rules : FileRules) (header : Header) (earlier : List Row) (row : Row)
    → fault_behind rules header earlier row ≡ None → length earlier < rules.form.most_rows
fault_behind-few rules header earlier row none =
    let shape = first_of-none (shape_fault rules.form header.fields (length earlier) row) _ none in
    let long = first_of-none (long_fault rules.form row) _ shape.0 in
    let few = first_of-none
    (fault_if (nat_le rules.form.most_rows (length earlier))
    (fault_at rules.form.file row.0 0 TooManyRows)) _ long.1 in
    leb-false rules.form.most_rows (length earlier) (fault_if-none _ _ few.0)

-- where the least of some faults is not there, none of them is
pub least_fault-each : (fault : ℕ → Option FileFault) (n : ℕ) → least_fault fault n ≡ None → (k : ℕ)
    → k < n → fault k ≡ None
unfolding least_fault
least_fault-each fault zero none k below = absurd (omega arith)
least_fault-each fault (suc n) none k below =
    let both = first_of-none (least_fault fault n) (fault n) none in
    ⊎_elim
    (λ (before : k < n). least_fault-each fault n both.0 k before)
    (λ (last : n ≤ k). let same : n ≡ k = omega arith in subst (λ m. fault m ≡ None) same both.1)
    (cases_lt k n)

-- of no elements none has a fault
pub least_fault-begin : (fault : ℕ → Option FileFault) → least_fault fault 0 ≡ None
unfolding least_fault
least_fault-begin fault = refl

-- with no fault so far, one more row without a fault makes none
pub least_fault-next : (fault : ℕ → Option FileFault) (n : ℕ) → least_fault fault n ≡ None
    → fault n ≡ None → least_fault fault (n + 1) ≡ None
unfolding least_fault
least_fault-next fault n before here = rw add-one (rw before here)

first_of-some : (a b : Option FileFault) (f : FileFault) → a ≡ Some f → first_of a b ≡ Some f
first_of-some a b f e = rw e refl

-- with no fault so far, the next row's fault is the least
pub least_fault-found : (fault : ℕ → Option FileFault) (n m : ℕ) (f : FileFault) → n < m
    → least_fault fault n ≡ None → fault n ≡ Some f → least_fault fault m ≡ Some f
unfolding least_fault
least_fault-found fault n zero f lt before here = absurd (omega arith)
least_fault-found fault n (suc m) f lt before here =
    ⊎_elim
    (λ (below : n < m). first_of-some _ _ f (least_fault-found fault n m f below before here))
    (λ (above : m ≤ n). let same : n ≡ m = omega arith in
    let none : least_fault fault m ≡ None = subst (λ k. least_fault fault k ≡ None) same before in
    rw none (subst (λ k. fault k ≡ Some f) same here))
    (cases_lt n m)

module _ {T : Type 0} (rules : FileRules) (header : Header)
    (HasRows : ℕ → List Row → T → Type 0) (all : List Row) where
  -- the first rows have no fault and are in the table, and these are left
  pub record TakesTo (count : ℕ) (table : T) (left : List Row) : Type 0 where
    pub within : count ≤ length all
    pub left_is : left ≡ drop count all
    pub none : least_fault (fault_in rules header all) count ≡ None
    pub has : HasRows header.version (take count all) table

  -- before the first row none was taken, and all are left
  pub TakesTo-begin : (table : T) → HasRows header.version [] table → TakesTo 0 table all
  TakesTo-begin table empty = record {
    within = omega arith;
    left_is = refl;
    none = least_fault-begin (fault_in rules header all);
    has = empty;
  }

  -- what taking the next row comes to
  module _ (count : ℕ) (table new : T) (row : Row) (left : List Row) (found : Option FileFault)
      (t : TakesTo count table (row ∷ left))
      (taken : (earlier : List Row) → HasRows header.version earlier table → length earlier ≡ count
      → IsRowTaken (fault_behind rules header earlier row) (HasRows header.version earlier new)
      (HasRows header.version (earlier ++ row ∷ []) new) found) where
    size : length (take count all) ≡ count
    size = length-take-le count all t.within

    told : (f : Option FileFault) → found ≡ f
        → IsRowTaken (fault_behind rules header (take count all) row)
        (HasRows header.version (take count all) new)
        (HasRows header.version (take count all ++ row ∷ []) new) f
    told f e = subst (IsRowTaken (fault_behind rules header (take count all) row)
        (HasRows header.version (take count all) new)
        (HasRows header.version (take count all ++ row ∷ []) new)) e
        (taken (take count all) t.has size)

    head : HasHead all count row left
    head = drop-head all count row left t.left_is

    fault-here : fault_in rules header all count ≡ fault_behind rules header (take count all) row
    fault-here = ap (option_and_then (fault_behind rules header (take count all))) head.head

    -- with no fault it is passed
    pub TakesTo-next : found ≡ None
        → (count < rules.form.most_rows) × TakesTo (count + 1) new left
    TakesTo-next e =
        let passed = told None e in
        let few = fault_behind-few rules header (take count all) row passed.0 in
        let same = size in
        let inside = head.within in (
          omega arith,
          record {
            within = omega arith;
            left_is = head.behind;
            none = least_fault-next _ count t.none (fault-here ∙ passed.0);
            has = subst (λ rows. HasRows header.version rows new) (sym head.taken) passed.1;
          },
        )

    -- with one reading stops
    pub TakesTo-stops : (f : FileFault) → found ≡ Some f
        → AreRowsTaken rules None header HasRows all
        (record { table = new; count = count; fault = Some f })
    TakesTo-stops f e = record {
      within = t.within;
      has = (told (Some f) e).1;
      passed = λ some. refl;
      none = t.none;
      here = fault-here ∙ (told (Some f) e).0;
      whole = λ no. absurd (cc);
    }

  -- where no row is left all were taken
  pub TakesTo-ends : (count : ℕ) (table : T) → TakesTo count table []
      → AreRowsTaken rules None header HasRows all
      (record { table = table; count = count; fault = None })
  TakesTo-ends count table t =
      let sizes : 0 ≡ length all - count = ap length t.left_is ∙ length-drop count all in
      let within = t.within in
      record {
        within = t.within;
        has = t.has;
        passed = λ some. refl;
        none = t.none;
        here = rw (slice_get_past all count (omega arith)) refl;
        whole = λ none. omega arith;
      }

  -- the fault that was told is the least
  pub AreRowsTaken-least : (read : RowsRead T) → AreRowsTaken rules None header HasRows all read
      → least_fault (fault_in rules header all) (length all) ≡ read.fault
  AreRowsTaken-least read t = by read.fault t.here t.whole
    where
      by : (f : Option FileFault) → fault_in rules header all read.count ≡ f
          → (f ≡ None → read.count ≡ length all)
          → least_fault (fault_in rules header all) (length all) ≡ f
      by None here whole =
          subst (λ n. least_fault (fault_in rules header all) n ≡ None) (whole refl) t.none
      by (Some f) here whole = ⊎_elim
          (λ (inside : read.count < length all).
          least_fault-found _ read.count (length all) f inside t.none here)
          (λ (past : length all ≤ read.count).
          let gone : fault_in rules header all read.count ≡ None =
          rw (slice_get_past all read.count past) refl in
          absurd (cc))
          (cases_lt read.count (length all))

  -- where none was told the table is that of all rows
  pub AreRowsTaken-whole : (of_header : Option FileFault) (read : RowsRead T)
      → AreRowsTaken rules of_header header HasRows all read → read.fault ≡ None
      → HasRows header.version all read.table
  AreRowsTaken-whole of_header read t none =
      let size = t.whole none in
      subst (λ rows. HasRows header.version rows read.table)
      (take_all read.count all (omega arith)) t.has

module _ {T : Type 0} (rules : FileRules) (bytes : List ℕ)
    (HasRows : ℕ → List Row → T → Type 0) where
  -- the rows behind a header without a fault
  pub AreRowsRead-taken : (header : Header) (read : RowsRead T)
      → first_row_fault rules.form (rows bytes) ≡ None → header ≡ header_in rules.form (rows bytes)
      → AreRowsTaken rules None header HasRows (data_rows bytes) read
      → AreRowsRead rules bytes HasRows read
  AreRowsRead-taken header read passed same taken =
      let t = subst (λ h. AreRowsTaken rules None h HasRows (data_rows bytes) read) same taken in
      record {
        first = rw passed (AreRowsTaken-least rules (header_in rules.form (rows bytes)) HasRows
            (data_rows bytes) read t);
        taken = subst (λ front. AreRowsTaken rules front (header_in rules.form (rows bytes)) HasRows
            (data_rows bytes) read) (sym passed) t;
      }

  -- a fault of the first row
  pub AreRowsRead-refused : (table : T) (f : FileFault)
      → first_row_fault rules.form (rows bytes) ≡ Some f
      → HasRows (version_in rules.form bytes) [] table
      → AreRowsRead rules bytes HasRows (record { table = table; count = 0; fault = Some f })
  AreRowsRead-refused table f told empty = record {
    first = first_of-some _ _ f told;
    taken = record {
      within = omega arith;
      has = empty;
      passed = λ some. absurd (omega arith);
      none = least_fault-begin (row_fault rules bytes);
      here = first_of-some _ _ f told;
      whole = λ none. absurd (cc);
    };
  }
