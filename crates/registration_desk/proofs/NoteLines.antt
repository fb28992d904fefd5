-- The parts of a line as they are written, with their spaces, are the line.
use Rattle.std.proofs.Common.{◌≡◌, ℕ, List, [], ◌∷◌, ◌++◌, append_assoc}
use Rattle.std.specs.Prelude.{codes, decimal}
use Rattle.run_frame.specs.Lines.{line_text}
use Rattle.registration_desk.specs.Statuses.{numbers_line}
use Rattle.registration_desk.specs.declared.report.DeskNumbers.{DeskNumbers}

numbers-parts : (registered again without unknown : List ℕ)
    → codes "registered " ++ (registered ++ (codes " again " ++ (again ++ (codes " notplaced "
    ++ (without ++ (codes " unknown " ++ (unknown ++ (codes "\n" ++ []))))))))
    ≡ line_text (codes "registered" ∷ registered ∷ codes "again" ∷ again ∷ codes "notplaced"
    ∷ without ∷ codes "unknown" ∷ unknown ∷ [])
numbers-parts registered again without unknown = simp append_assoc

-- the line of how many requests were answered in each way
pub numbers-line : (numbers : DeskNumbers) (registered again without unknown : ℕ)
    → registered ≡ numbers.registered → again ≡ numbers.again → without ≡ numbers.not_placed
    → unknown ≡ numbers.unknown
    → codes "registered " ++ (decimal registered ++ (codes " again " ++ (decimal again
    ++ (codes " notplaced " ++ (decimal without ++ (codes " unknown " ++ (decimal unknown
    ++ (codes "\n" ++ []))))))))
    ≡ numbers_line numbers
unfolding numbers_line
numbers-line numbers registered again without unknown firsts seconds thirds fourths =
    rw firsts (rw seconds (rw thirds (rw fourths
    (numbers-parts (decimal numbers.registered) (decimal numbers.again)
    (decimal numbers.not_placed) (decimal numbers.unknown)))))
