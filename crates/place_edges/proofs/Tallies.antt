-- What the tally says where a read fails.
use Rattle.std.proofs.Common.{◌≡◌, ℕ, ◌+◌, ◌-◌, ◌^◌, ◌<◌, ◌≤◌, ⊎_elim, inl, inr, arith, Result, Err}
use Rattle.std.proofs.lemmas.Bool.{cases_lt}
use Rattle.place_edges.specs.Shelf.{file_limit, piece_size, tally_with}
use Rattle.place_edges.specs.Whole.{HasTally}
use Rattle.place_edges.specs.declared.whole.ReadStop.{ReadStop}
use Rattle.place_edges.specs.declared.whole.ReadStop.TheVariants.{Failed, TooLong, Memory}

-- the tally where the shelf failed
pub tally_failed : {T : Type 0} (result : Result T ReadStop) (before now size : ℕ)
    → result ≡ Err Failed → now ≡ tally_with before size → size ≤ file_limit
    → HasTally result before now
tally_failed result before now size e n few = record {
  later = omega arith;
  long = λ h. cc;
  failed = λ h. omega arith;
  memory = λ h. cc;
  bounded = omega arith;
  begun = λ h. cc;
}

-- the tally where the file is too long
pub tally_long : {T : Type 0} (before middle now size count : ℕ)
    → middle ≡ tally_with before size → now ≡ tally_with middle count → size ≤ file_limit
    → file_limit - size < count → count ≤ piece_size
    → HasTally {T = T} (Err TooLong) before now
tally_long before middle now size count m n few more piece = record {
  later = omega arith;
  long = λ h. ⊎_elim (λ less. inl (omega arith)) (λ last. inr last) (cases_lt now (2 ^ 64 - 1));
  failed = λ h. cc;
  memory = λ h. cc;
  bounded = omega arith;
  begun = λ h. cc;
}

-- the tally where memory is refused
pub tally_refused : {T : Type 0} (result : Result T ReadStop) (before middle now size count : ℕ)
    → result ≡ Err Memory → middle ≡ tally_with before size → now ≡ tally_with middle count
    → 0 < count → size + count ≤ file_limit → HasTally result before now
tally_refused result before middle now size count e m n some few = record {
  later = omega arith;
  long = λ h. cc;
  failed = λ h. cc;
  memory = λ h. omega arith;
  bounded = omega arith;
  begun = λ h. omega arith;
}
