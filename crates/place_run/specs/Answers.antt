-- What a command has ready before its first byte is written.
use Rattle.std.specs.Prelude.{ℕ, List}
use Rattle.place_run.specs.declared.status.Ending.{Ending}
use Rattle.place_run.specs.declared.status.Ending.TheVariants.{Done}

-- how the run ends where the text is written whole, and the text
pub record Answer : Type 0 where
  pub ending : Ending
  pub text : List ℕ

-- a text that ends a run well
abbrev pub done : List ℕ → Answer
done text = record { ending = Done; text = text }
