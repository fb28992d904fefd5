use Rattle.std.proofs.Common.{◌≡◌, ◌+◌, ◌==◌, ℕ, true, ap, ◌∙◌, arith, length, drop, length-drop}
use Rattle.std.proofs.lemmas.Bool.Decides.{nat_tests}
use Rattle.std.proofs.lemmas.List.{take_rest}
use Rattle.place_base.specs.declared.limits.TheConstants.{LF}
use Rattle.piece_reader.specs.Parts.{first_line}
use Rattle.piece_reader.proofs.LineStarts.{first_line-found, first_line-whole}
use Rattle.piece_reader.proofs.pieces.line_start.Goals as goal

is-same : (a b : ℕ) → (a == b) ≡ true → a ≡ b
is-same a b h = grind (arith, nat_tests)

same-is : (a b : ℕ) → a ≡ b → (a == b) ≡ true
same-is a b h = grind (arith, nat_tests)

pub returns-in-Some-clause-value : goal.returns-in-Some-clause-value
returns-in-Some-clause-value c =
    let bytes = c.args.bytes.now in
    let before = c.saturating_sub-before.result in
    let found = rw (take_rest bytes before) at c.in-Some.ensures in
    let line : first_line (drop before bytes) ≡ c.in-Some.at + 1 =
    first_line-found (drop before bytes) c.in-Some.at found.0.high (is-same _ LF found.1)
    (λ k below here. found.0.before k (omega arith) below (same-is _ LF here)) in
    let sum : before + c.in-Some.at + 1 ≡ before + first_line (drop before bytes) = omega arith in
    sum ∙ ap (λ n. n + first_line (drop n bytes)) c.saturating_sub-before.ensures

pub returns-in-None-clause-value : goal.returns-in-None-clause-value
returns-in-None-clause-value c =
    let bytes = c.args.bytes.now in
    let before = c.saturating_sub-before.result in
    let none = rw (take_rest bytes before) at c.in-None.ensures in
    let line : first_line (drop before bytes) ≡ length (drop before bytes) =
    first_line-whole (drop before bytes)
    (λ k below here. none k (omega arith) below (same-is _ LF here)) in
    let sum : length bytes ≡ before + first_line (drop before bytes) =
    omega (arith, c.requires, length-drop before bytes, c.saturating_sub-before.ensures) in
    sum ∙ ap (λ n. n + first_line (drop n bytes)) c.saturating_sub-before.ensures
