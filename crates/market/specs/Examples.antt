-- Small markets to follow by hand.
use Rattle.std.specs.Prelude.{ℕ, Some, None, [], ◌∷◌}
use Rattle.market.specs.declared.programme.Prog.{Prog}
use Rattle.market.specs.Dictatorships.{Dictatorship}
use Rattle.market.specs.Problems.{Problem}

-- a programme of a type, with a quota and no bar
abbrev pub prog : ℕ → ℕ → Prog
prog t q = record { kind = t; quota = q; bar = None }

-- the same with a bar
abbrev pub barred : ℕ → ℕ → ℕ → Prog
barred t q b = record { kind = t; quota = q; bar = Some b }

-- two programmes of two types with a seat each, and two candidates who each want first the
-- programme in which the other has the better rank; the mechanism gives each the second wish, and
-- the exchange of the two is stable as well
abbrev pub exchange : Problem
exchange =
    record {
      types = 2;
      programmes = prog 0 1 ∷ prog 1 1 ∷ [];
      lists = (0 ∷ 1 ∷ []) ∷ (1 ∷ 0 ∷ []) ∷ [];
      orders = (1 ∷ 0 ∷ []) ∷ (0 ∷ 1 ∷ []) ∷ [];
      ranks = (1 ∷ 2 ∷ []) ∷ (1 ∷ 2 ∷ []) ∷ [];
    }

-- the first candidate is best in both types, takes both seats and is cut: the seat that this frees
-- goes to the second
abbrev pub freed_seat : Problem
freed_seat =
    record {
      types = 2;
      programmes = prog 0 1 ∷ prog 1 1 ∷ [];
      lists = (0 ∷ 1 ∷ []) ∷ (1 ∷ []) ∷ [];
      orders = (0 ∷ 1 ∷ []) ∷ (0 ∷ 1 ∷ []) ∷ [];
      ranks = (1 ∷ 2 ∷ []) ∷ (1 ∷ 2 ∷ []) ∷ [];
    }

-- one cut leads to the next: three rounds with two cuts
abbrev pub three_rounds : Problem
three_rounds =
    record {
      types = 2;
      programmes = prog 0 1 ∷ prog 0 1 ∷ prog 1 1 ∷ [];
      lists = (0 ∷ 2 ∷ []) ∷ (2 ∷ 0 ∷ 1 ∷ []) ∷ (1 ∷ []) ∷ [];
      orders = (0 ∷ 1 ∷ 2 ∷ []) ∷ (0 ∷ 1 ∷ 2 ∷ []) ∷ [];
      ranks = (1 ∷ 2 ∷ 3 ∷ []) ∷ (1 ∷ 2 ∷ 3 ∷ []) ∷ [];
    }

-- two programmes of two types with two seats and a rank bar each, and two candidates: each has a
-- rank one behind the bar of the first wish and exactly at that of the second, and gets the second;
-- a seat of each programme stays free although a candidate wants it
abbrev pub rank_bars : Problem
rank_bars =
    record {
      types = 2;
      programmes = barred 0 2 50 ∷ barred 1 2 7 ∷ [];
      lists = (1 ∷ 0 ∷ []) ∷ (0 ∷ 1 ∷ []) ∷ [];
      orders = (0 ∷ 1 ∷ []) ∷ (1 ∷ 0 ∷ []) ∷ [];
      ranks = (50 ∷ 51 ∷ []) ∷ (7 ∷ 8 ∷ []) ∷ [];
    }

-- two programmes with a seat each, and two turns: the second finds its first entry full
abbrev pub two_turns : Dictatorship
two_turns =
    record {
      quota = 1 ∷ 1 ∷ [];
      fill = 0 ∷ 0 ∷ [];
      lists = (0 ∷ []) ∷ (0 ∷ 1 ∷ []) ∷ [];
    }
