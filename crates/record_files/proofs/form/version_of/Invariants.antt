use Rattle.std.proofs.Common.{◌≡◌, ℕ, ◌<◌, [], false, bytes_eq, get_or, map}
use Rattle.record_files.proofs.form.version_of.Given as goal

-- none of the headers so far is the text
abbrev pub invariant-loop-version : goal.invariant-loop-version
invariant-loop-version l = (k : ℕ) → k < l.version
    → bytes_eq l.text (get_or (map (λ header. header.now) l.headers) k []) ≡ false
