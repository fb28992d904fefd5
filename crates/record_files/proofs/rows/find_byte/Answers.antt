use Rattle.std.proofs.Common.{◌≡◌, ◌==◌, ℕ, true, arith}
use Rattle.std.proofs.lemmas.Bool.Decides.{nat_tests}
use Rattle.record_files.proofs.Cuts.{split-cut, split-whole}
use Rattle.record_files.proofs.rows.find_byte.Goals as goal

is-same : (a b : ℕ) → (a == b) ≡ true → a ≡ b
is-same a b h = grind (arith, nat_tests)

same-is : (a b : ℕ) → a ≡ b → (a == b) ≡ true
same-is a b h = grind (arith, nat_tests)

pub returns-in-Some-clause-cut : goal.returns-in-Some-clause-cut
returns-in-Some-clause-cut c = λ lt.
    split-cut c.args.sought c.args.bytes.now c.in-Some.at lt
    (is-same _ c.args.sought c.in-Some.ensures.1)
    (λ k below here. c.in-Some.ensures.0.before k (omega arith) below
    (same-is _ c.args.sought here))

pub returns-in-None-clause-whole : goal.returns-in-None-clause-whole
returns-in-None-clause-whole c = λ _.
    split-whole c.args.sought c.args.bytes.now
    (λ k below here. c.in-None.ensures k (omega arith) below (same-is _ c.args.sought here))
