-- Known bytes of readers and writers over calls that change none.
use Rattle.std.proofs.Common.{ℕ, List, ◌++◌, take, ◌∙◌, sym, ap, refl, Some, None, Result, Ok, Err}
use Rattle.std.specs.Prelude.{Option}
use Rattle.std.specs.Io.KnownBytes.{Appends, Consumes, Keeps, ReadConsumes, WriteAppends}

-- bytes stay that are the same
pub keeps_same : (a : Option (List ℕ)) → Keeps a a
keeps_same None = tt
keeps_same (Some xs) = refl

-- bytes stay over two calls that change none
pub keeps_keeps : (a b c : Option (List ℕ)) → Keeps a b → Keeps b c → Keeps a c
keeps_keeps None b c p q = tt
keeps_keeps (Some xs) None c p q = absurd p
keeps_keeps (Some xs) (Some ys) None p q = absurd q
keeps_keeps (Some xs) (Some ys) (Some zs) p q = q ∙ p

keeps_consumes : (a b c : Option (List ℕ)) (bs : List ℕ) → Keeps a b → Consumes b c bs → Consumes a c bs
keeps_consumes None b c bs p q = tt
keeps_consumes (Some xs) None c bs p q = absurd p
keeps_consumes (Some xs) (Some ys) None bs p q = absurd q
keeps_consumes (Some xs) (Some ys) (Some zs) bs p q = sym p ∙ q

keeps_appends : (a b c : Option (List ℕ)) (bs : List ℕ) → Keeps a b → Appends b c bs → Appends a c bs
keeps_appends None b c bs p q = tt
keeps_appends (Some xs) None c bs p q = absurd p
keeps_appends (Some xs) (Some ys) None bs p q = absurd q
keeps_appends (Some xs) (Some ys) (Some zs) bs p q = q ∙ ap (λ v. v ++ bs) p

-- a read behind them
pub keeps_read : {E : Type 0} (a b c : Option (List ℕ)) (r : Result ℕ E) (into : List ℕ) → Keeps a b
    → ReadConsumes b c r into → ReadConsumes a c r into
keeps_read a b c (Ok n) into p q = (keeps_consumes a b c (take n into) p q.0, q.1)
keeps_read a b c (Err e) into p q = keeps_keeps a b c p q

-- a write behind them
pub keeps_write : {E : Type 0} (a b c : Option (List ℕ)) (r : Result ℕ E) (bytes : List ℕ) → Keeps a b
    → WriteAppends b c r bytes → WriteAppends a c r bytes
keeps_write a b c (Ok n) bytes p q = keeps_appends a b c (take n bytes) p q
keeps_write a b c (Err e) bytes p q = keeps_keeps a b c p q
