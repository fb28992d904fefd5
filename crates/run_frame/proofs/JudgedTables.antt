-- A file that was read whole says what its table was read as, and one that is too long says so.
use Rattle.std.proofs.Common.{◌≡◌, ℕ, ◌<◌, ◌≤◌, List, Option, Some, Result, Ok, Err, Vec, IfOk, sym, ap, subst, ◌∙◌, inl, inr, refl, None, arith, ⊎_elim}
use Rattle.std.specs.Prelude.{length, IsErrAnd}
use Rattle.std.proofs.lemmas.Bool.{cases_lt, cond-true, cond-false, le-ltb, lt-ltb}
use Rattle.place_base.specs.declared.fault.FileFault.{FileFault}
use Rattle.place_base.specs.declared.fault.FileKind.{FileKind}
use Rattle.place_edges.specs.Shelf.{Files, file_limit}
use Rattle.record_files.specs.ReadTo.{IsTableRead}
use Rattle.record_files.specs.declared.table_stop.TableStop.{TableStop}
use Rattle.record_files.specs.declared.table_stop.TableStop.TheVariants as stopped
use Rattle.run_frame.specs.Files.{HasCauses, IsJudged, IsReadWhole, Moment}
use Rattle.run_frame.specs.Meetings.{Meets}
use Rattle.run_frame.specs.Stops.{is_free, table_said, too_long}
use Rattle.run_frame.specs.declared.stop.FileStop.{FileStop}
use Rattle.run_frame.specs.declared.stop.FileStop.TheVariants.{Fault}
use Rattle.run_frame.proofs.Judging.{judged-bytes, judged-unread, short-bytes}
use Rattle.run_frame.proofs.Parts.{at-error}
use Rattle.run_frame.specs.Says.{judged, fault_or}
use Rattle.run_frame.proofs.TableFaults.{HasLine}

-- a file within the limit says its fault, or else its table
pub judged-short : {T : Type 0} (kind : FileKind) (fault : Option FileFault) (table : T)
    (bytes : List ℕ)
    → length bytes ≤ file_limit → judged kind fault table bytes ≡ fault_or fault table
judged-short kind fault table bytes few = cond-false _ _ _ (le-ltb file_limit (length bytes) few)

-- and a longer one says that it is too long
pub judged-long : {T : Type 0} (kind : FileKind) (fault : Option FileFault) (table : T)
    (bytes : List ℕ)
    → file_limit < length bytes → judged kind fault table bytes ≡ Err (Fault (too_long kind))
judged-long kind fault table bytes many = cond-true _ _ _ (lt-ltb file_limit (length bytes) many)

-- a short file without a fault says its table
pub judged-ok : {T : Type 0} (kind : FileKind) (fault : Option FileFault) (table : T)
    (bytes : List ℕ)
    → length bytes ≤ file_limit → fault ≡ None → judged kind fault table bytes ≡ Ok table
judged-ok kind fault table bytes few none =
    judged-short kind fault table bytes few ∙ ap (λ v. fault_or v table) none

-- what was read of a table is what the file says
table-meets : {T : Type 0} (kind : FileKind) (fault : Option FileFault) (table : T)
    (bytes : List ℕ) (said : List ℕ → Result T FileStop) (read : Result T TableStop)
    → said bytes ≡ judged kind fault table bytes → length bytes ≤ file_limit
    → IsTableRead fault table read → Meets is_free (Some (said bytes)) (table_said read)
table-meets kind fault table bytes said (Ok read) is few (none, same) =
    ap (λ v. Some v) (is ∙ judged-short kind fault table bytes few
    ∙ ap (λ v. fault_or v table) none ∙ ap (λ v. Ok v) (sym same))
table-meets kind fault table bytes said (Err (stopped.Fault f)) is few found =
    inr (ap (λ v. Some v) (is ∙ judged-short kind fault table bytes few
    ∙ ap (λ v. fault_or v table) found))
table-meets kind fault table bytes said (Err stopped.Memory) is few found = inl refl

-- a fault on a line is not that the file is too long
not-too_long : (found : FileFault) → HasLine (Some found) → (kind : FileKind)
    → found ≡ too_long kind → ⊥
unfolding HasLine
not-too_long found lined kind e = omega (arith, lined, ap (λ v. v.line) e)

-- a table has no cause of its own in the counts
table-causes : {T : Type 0} (before now : Moment)
    (fault : Option FileFault) (table : T) (read : Result T TableStop)
    → now.faults ≡ before.faults → before.tally ≤ now.tally → HasLine fault
    → IsTableRead fault table read
    → HasCauses (λ stop. stop) (table_said read) before now
table-causes before now fault table (Ok read) same tally lined found =
    record {
      faults = omega (arith, same);
      tally = tally;
      quiet = same;
      read = λ e. cc e;
      long = λ kind e. cc e;
    }
table-causes before now fault table (Err (stopped.Fault f)) same tally lined
    found =
    record {
      faults = omega (arith, same);
      tally = tally;
      quiet = tt;
      read = λ e. cc e;
      long = λ kind e. absurd (not-too_long f (subst HasLine found lined) kind (cc e));
    }
table-causes before now fault table (Err stopped.Memory) same tally lined
    found =
    record {
      faults = omega (arith, same);
      tally = tally;
      quiet = tt;
      read = λ e. cc e;
      long = λ kind e. cc e;
    }

-- what a file says is by its first fault and its table, and a fault stands on a line
pub record Judges {T : Type 0} (kind : FileKind) (said : List ℕ → Result T FileStop)
    (fault : List ℕ → Option FileFault) (table : List ℕ → T) : Type 0 where
  pub says : (bytes : List ℕ) → said bytes ≡ judged kind (fault bytes) (table bytes) bytes
  pub lined : (bytes : List ℕ) → HasLine (fault bytes)

module _ {T Z : Type 0} {told : Option Files} {name : List ℕ} {kind : FileKind}
    {said : List ℕ → Result T FileStop} {fault : List ℕ → Option FileFault} {table : List ℕ → T}
    {before now : Moment} {result : Result T FileStop} where
  -- a file that was not read whole is judged by its stop
  pub judged-stop : {stop : FileStop} → Judges kind said fault table
      → IsErrAnd result (λ found. found ≡ stop)
      → IsReadWhole {Z = Z} told name kind (Err stop) before now
      → IsJudged told name said result before now
  judged-stop {stop = stop} judges is reading =
      at-error (λ r. IsJudged told name said r before now) result stop is
      (judged-unread told name kind said stop before now
      (λ bytes many. judges.says bytes ∙ judged-long kind (fault bytes) (table bytes) bytes many)
      reading)

  -- a file whose table was read, or its first fault, is judged so: the table is that of bytes that
  -- are lent from what the file was read into
  pub judged-lent : {lent : List ℕ} {bytes : Vec ℕ Z} → Judges kind said fault table
      → (read : Result T TableStop) → lent ≡ bytes.items
      → IsReadWhole told name kind (Ok bytes) before now
      → IsTableRead (fault lent) (table lent) read → result ≡ table_said read
      → IsJudged told name said result before now
  judged-lent {lent = lent} {bytes = bytes} judges read same reading found e =
      subst (λ v. IsJudged told name said v before now) (sym e)
      (judged-bytes said (table_said read) reading
      (table-meets kind (fault bytes.items) (table bytes.items) bytes.items said read
      (judges.says bytes.items) (short-bytes reading)
      (subst (λ v. IsTableRead (fault v) (table v) read) same found))
      (table-causes before now (fault lent) (table lent) read
      reading.causes.quiet reading.causes.tally (judges.lined lent) found))

-- what holds of a table that was read holds of what it is among the causes of a file
pub table-ok : {T : Type 0} (P : T → Type 0) (read : Result T TableStop)
    (result : Result T FileStop) → result ≡ table_said read → IfOk read P → IfOk result P
table-ok P (Ok read) result same p = subst (λ v. IfOk v P) (sym same) p
table-ok P (Err stop) result same p = subst (λ v. IfOk v P) (sym same) tt

-- what holds of the table of a file holds of the table that was read
pub table-read : {T : Type 0} (P : T → Type 0) (fault : Option FileFault) (table : T)
    (read : Result T TableStop) → IsTableRead fault table read → P table → IfOk read P
table-read P fault table (Ok read) (none, same) p = subst P (sym same) p
table-read P fault table (Err stop) found p = tt

-- a file that says its table is short and has no fault
pub record SaysTable {T : Type 0} (fault : Option FileFault) (table said : T) (bytes : List ℕ)
    : Type 0 where
  pub few : length bytes ≤ file_limit
  pub none : fault ≡ None
  pub same : said ≡ table

no-fault : {T : Type 0} (fault : Option FileFault) (table said : T) → fault_or fault table ≡ Ok said
    → (fault ≡ None) × (said ≡ table)
no-fault None table said e = (refl, sym (cc e))
no-fault (Some f) table said e = cc e

-- it is so of a file that says this table
pub says-table : {T : Type 0} (kind : FileKind) (fault : Option FileFault) (table said : T)
    (bytes : List ℕ)
    → judged kind fault table bytes ≡ Ok said → SaysTable fault table said bytes
says-table kind fault table said bytes e =
    ⊎_elim (λ (many : file_limit < length bytes).
    let never : Err (Fault (too_long kind)) ≡ Ok said =
    sym (judged-long kind fault table bytes many) ∙ e
    in cc never)
    (λ (few : length bytes ≤ file_limit).
    let both = no-fault fault table said (sym (judged-short kind fault table bytes few) ∙ e) in
    record { few = few; none = both.0; same = both.1 })
    (cases_lt file_limit (length bytes))
