-- The parts of a line as they are written, with their spaces, are the line.
use Rattle.std.proofs.Common.{◌≡◌, ℕ, ◌/◌, ◌%◌, List, [], ◌∷◌, ◌++◌, append_assoc}
use Rattle.std.specs.Prelude.{codes, decimal}
use Rattle.place_base.specs.FaultKind.{fault_number, fault_name}
use Rattle.place_base.specs.FileKind.{file_name}
use Rattle.place_base.specs.declared.fault.FileFault.{FileFault}
use Rattle.run_frame.specs.Lines.{line_text, fault_line, words_line}

words-parts : (name place : List ℕ)
    → codes "words " ++ (name ++ (codes " " ++ (place ++ (codes "\n" ++ []))))
    ≡ line_text (codes "words" ∷ name ∷ place ∷ [])
words-parts name place = simp append_assoc

-- a refusal of words
pub words-line : (name shown : List ℕ) (place number : ℕ) → shown ≡ name → number ≡ place
    → codes "words " ++ (shown ++ (codes " " ++ (decimal number ++ (codes "\n" ++ []))))
    ≡ words_line name place
unfolding words_line
words-line name shown place number names places =
    rw names (rw places (words-parts name (decimal place)))

fault-parts : (file line field tens ones name earlier : List ℕ)
    → codes "fault " ++ (file ++ (codes " line " ++
    (line ++ (codes " field " ++ (field ++ (codes " F" ++ (tens ++ (ones
    ++ (codes " " ++ (name ++ (codes " earlier " ++ (earlier ++ (codes "\n" ++ [])))))))))))))
    ≡ line_text (codes "fault" ∷ file ∷ codes "line" ∷ line ∷ codes "field" ∷ field ∷
    (codes "F" ++ tens ++ ones) ∷ name
    ∷ codes "earlier" ∷ earlier ∷ [])
fault-parts file line field tens ones name earlier = simp append_assoc

-- a fault of a file
pub fault-line : (found : FileFault) (file name : List ℕ) (line field tens ones earlier : ℕ)
    → file ≡ file_name found.file → name ≡ fault_name found.kind → line ≡ found.line
    → field ≡ found.field
    → tens ≡ fault_number found.kind / 10 → ones ≡ fault_number found.kind % 10
    → earlier ≡ found.earlier
    → codes "fault " ++ (file ++ (codes " line " ++
    (decimal line ++ (codes " field " ++ (decimal field ++ (codes " F"
    ++ (decimal tens ++ (decimal ones ++ (codes " " ++ (name ++ (codes " earlier " ++ (decimal
    earlier
    ++ (codes "\n" ++ []))))))))))))) ≡ fault_line found
unfolding fault_line
fault-line found file name line field tens ones earlier files names lines fields tenths units
    earliers =
    rw files (rw names (rw lines (rw fields (rw tenths (rw units (rw earliers
    (fault-parts (file_name found.file) (decimal found.line) (decimal found.field)
    (decimal (fault_number found.kind / 10))
    (decimal (fault_number found.kind % 10)) (fault_name found.kind) (decimal found.earlier))))))))
