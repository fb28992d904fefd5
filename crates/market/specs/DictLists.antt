-- The lists of a dictatorship, in either of the two forms in which it keeps them.
use Rattle.std.specs.Prelude.{ℕ, List}
use Rattle.market.specs.declared.dict.Lists.{Lists}
use Rattle.market.specs.declared.dict.Lists.TheVariants.{Flat, Each}

-- the list of each turn
abbrev pub lists_of : Lists → List (List ℕ)
lists_of (Flat lists) = lists
lists_of (Each lists) = lists.items
