use Rattle.std.proofs.Common.{◌≡◌, ◌+◌, ◌*◌, ◌/◌, ◌%◌, ℕ, map, rules}
use Rattle.std.proofs.iter.runs.Made.{chains}
use Rattle.rank_lists.specs.declared.keys.TheConstants.{PLACES}
use Rattle.rank_lists.specs.declared.repeats.TheConstants.{SPREAD, WORDS}
use Rattle.rank_lists.proofs.repeats.short_forms.Goals as goal

-- what a short form is
abbrev short_of : ℕ → ℕ
short_of number = (number % WORDS + (number / WORDS) * SPREAD % WORDS) % WORDS

pub returns : goal.returns
returns c =
    let short : c.in_ok-short.short.items ≡ map (λ p. short_of (p / PLACES)) c.args.placed.now =
    search (rules, chains) in
    (short_of, short)
