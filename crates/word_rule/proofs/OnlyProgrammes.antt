-- Programmes of one seat each without a turn are a valid dictatorship.
use Rattle.std.proofs.Common.{◌≡◌, ℕ, zero, suc, ◌≤◌, List, [], length, get_or, replicate, ap, ◌∙◌, arith}
use Rattle.std.proofs.Math.ListN.{length-replicate}
use Rattle.market.specs.Dictatorships.{IsValidDictatorship, dictatorship}

-- so many equal numbers are at most that number
replicate_most : (n x p : ℕ) → get_or (replicate n x) p 0 ≤ x
replicate_most zero x p = omega arith
replicate_most (suc n) x zero = omega arith
replicate_most (suc n) x (suc p) = replicate_most n x p

-- up to 200 programmes of one seat, of which none is taken, are a valid one
pub only_valid : (n : ℕ) (quota fill : List ℕ) (lists : List (List ℕ)) → n ≤ 200
    → quota ≡ replicate n 1 → fill ≡ replicate n 0 → lists ≡ []
    → IsValidDictatorship (dictatorship quota fill lists)
only_valid n quota fill lists few quotas fills none =
    let long : length quota ≡ n = ap (λ (l : List ℕ). length l) quotas ∙ length-replicate n 1 in
    let same : length fill ≡ n = ap (λ (l : List ℕ). length l) fills ∙ length-replicate n 0 in
    let turns : length lists ≡ 0 = ap (λ (l : List (List ℕ)). length l) none in
    record {
      fills = omega arith;
      programmes = omega arith;
      turns = omega arith;
      quotas = λ p l.
          let most = replicate_most n 1 p in
          let is = ap (λ (l : List ℕ). get_or l p 0) quotas in
          omega arith;
      filled = λ p l.
          let most = replicate_most n 0 p in
          let is = ap (λ (l : List ℕ). get_or l p 0) fills in
          omega arith;
      list_lengths = λ k l. absurd (omega arith);
      list_entries = λ k j l m. absurd (omega arith);
    }
