-- The parts of the clerks: each is the next stretch of the requests, and the last one ends them.
use Rattle.std.proofs.Common.{◌≡◌, ℕ, ◌+◌, ◌-◌, ◌*◌, ◌/◌, ◌<◌, ◌≤◌, length, ap, ◌∙◌, arith}
use Rattle.std.proofs.Math.Nat.{div-mul-le_self, mul-div_cancel_left}
use Rattle.std.proofs.lemmas.Nat.{le-div}
use Rattle.std.proofs.Common.{mul-le-mul_right}
use Rattle.registration_desk.specs.Clerks.{ClerkKnows, part_of, next_part}

div_grows : (a b k : ℕ) → 0 < k → a ≤ b → a / k ≤ b / k
div_grows a b k some_k l = let m = div-mul-le_self a k in le-div (a / k) b k some_k (omega arith)

-- a seat that stands for the clerks from the one numbered n on, where there are so many
pub record IsRest (requests clerks n : ℕ) (x : ClerkKnows) : Type 0 where
  pub same_requests : length x.requests ≡ requests
  pub same_clerks : x.clerks ≡ clerks
  pub share : x.share + n ≡ clerks
  pub left : x.left ≡ requests - n * requests / clerks

module _ (requests clerks n : ℕ) (x : ClerkKnows) (r : IsRest requests clerks n x) where
  -- its next part is that of the clerk numbered n
  pub part_is : next_part x ≡ part_of requests clerks n
  part_is =
      let number : x.clerks - x.share ≡ n = let a = r.same_clerks in let b = r.share in
      omega arith in
      λ k. part_of (r.same_requests k) (r.same_clerks k) (number k)

  -- what was given to the clerks before it, and with this one, is at most all
  within : n < clerks → (n * requests / clerks ≤ (n + 1) * requests / clerks)
      × ((n + 1) * requests / clerks ≤ requests)
  within inside =
      let up : n * requests ≤ (n + 1) * requests = mul-le-mul_right requests (omega arith) in
      let top : (n + 1) * requests ≤ clerks * requests = mul-le-mul_right requests (omega arith) in
      let whole : clerks * requests / clerks
      ≡ requests = mul-div_cancel_left requests (omega arith) in
      let last = div_grows ((n + 1) * requests) (clerks * requests) clerks (omega arith) top in
      (div_grows (n * requests) ((n + 1) * requests) clerks (omega arith) up, omega arith)

  -- so the next part is at most what is left, and this is what is left for the clerks behind it
  pub part_within : n < clerks → (next_part x ≤ x.left)
      × (x.left - next_part x ≡ requests - (n + 1) * requests / clerks)
  part_within inside =
      let w = within inside in
      let a = w.0 in
      let b = w.1 in
      let p = part_is in
      let l = r.left in
      (omega arith, omega arith)

  -- the last clerk has what is left
  pub part_last : n + 1 ≡ clerks → x.left ≡ part_of requests clerks n
  part_last last =
      let whole : clerks * requests / clerks
      ≡ requests = mul-div_cancel_left requests (omega arith) in
      let top : (n + 1) * requests / clerks ≡ requests =
      ap (λ (k : ℕ). k * requests / clerks) last ∙ whole in
      let l = r.left in
      omega arith
