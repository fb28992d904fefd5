-- The kinds of text, and texts that pass through a buffer.
use Rattle.std.specs.Prelude.{◌≡◌, ◌≤◌, ℕ, List, ◌++◌, Option, Result, OnOk, OnErr}
use Rattle.place_edges.specs.Causes.{Rose}
use Rattle.place_edges.specs.Sink.{Appended, AppendedPrefix}
use Rattle.place_run.specs.declared.answer.Text.{Text}
use Rattle.place_run.specs.declared.answer.Text.TheVariants.{Whole, Reasons}

-- the bytes that a text has
abbrev pub text_bytes : Text → List ℕ
text_bytes (Whole bytes) = bytes.items
text_bytes (Reasons rows) = rows

-- a text was queued: what was written, and behind it what the buffer has now, is what it had, and
-- the text behind it
pub record AreQueued (text held holds : List ℕ) (old new : Option (List ℕ)) : Type 0 where
  pub bytes : List ℕ
  pub written : Appended old new bytes
  pub rest : bytes ++ holds ≡ held ++ text

-- A text was queued, and no put failed; or a put failed, and a prefix of what the buffer had and of the text behind it
-- was written.
pub record IsQueued {T E : Type 0} (text : List ℕ) (result : Result T E) (held holds : List ℕ)
    (old new : Option (List ℕ)) (before now : ℕ) : Type 0 where
  pub whole : OnOk result (AreQueued text held holds old new)
  pub quiet : OnOk result (now ≡ before)
  pub prefix : OnErr result (AppendedPrefix old new (held ++ text))
  pub failed : OnErr result (Rose before now)
  pub later : before ≤ now
