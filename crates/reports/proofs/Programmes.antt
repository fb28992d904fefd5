-- The type of a programme that was read.
use Rattle.std.proofs.Common.{◌≡◌, ℕ, ap}
use Rattle.market.specs.Problems.{Problem, kind_of, programme_at}
use Rattle.market.specs.declared.programme.Prog.{Prog}

-- the type of a programme that was read
pub read-kind : (m : Problem) (p : ℕ) (q : Prog) → q ≡ programme_at m p → q.kind ≡ kind_of m p
unfolding kind_of
read-kind m p q e = ap (λ (x : Prog). x.kind) e
