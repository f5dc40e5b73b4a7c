-- A call that was interrupted kept the bytes, so the one behind it does to the first bytes what it does to these.
use Rattle.std.proofs.Common.{◌∙◌, refl, sym, ap, ℕ, List, ◌++◌, take, Option, Some, None, Result, Ok, Err}
use Rattle.std.specs.Io.KnownBytes.{Appends, Consumes, Keeps, ReadConsumes, WriteAppends}

pub keeps_twice : (a b c : Option (List ℕ)) → Keeps a b → Keeps b c → Keeps a c
keeps_twice None b c p q = tt
keeps_twice (Some xs) None c p q = absurd p
keeps_twice (Some xs) (Some ys) None p q = absurd q
keeps_twice (Some xs) (Some ys) (Some zs) p q = q ∙ p

kept_consumes : (a b c : Option (List ℕ)) (bs : List ℕ) → Keeps a b → Consumes b c bs → Consumes a c bs
kept_consumes None b c bs p q = tt
kept_consumes (Some xs) None c bs p q = absurd p
kept_consumes (Some xs) (Some ys) None bs p q = absurd q
kept_consumes (Some xs) (Some ys) (Some zs) bs p q = sym p ∙ q

kept_appends : (a b c : Option (List ℕ)) (bs : List ℕ) → Keeps a b → Appends b c bs → Appends a c bs
kept_appends None b c bs p q = tt
kept_appends (Some xs) None c bs p q = absurd p
kept_appends (Some xs) (Some ys) None bs p q = absurd q
kept_appends (Some xs) (Some ys) (Some zs) bs p q = q ∙ ap (λ n. n ++ bs) p

pub kept_read : {E : Type 0} (a b c : Option (List ℕ)) (r : Result ℕ E) (bytes : List ℕ) → Keeps a b → ReadConsumes b c r bytes → ReadConsumes a c r bytes
kept_read a b c (Ok n) bytes p q = (kept_consumes a b c (take n bytes) p q.0, q.1)
kept_read a b c (Err e) bytes p q = keeps_twice a b c p q

pub kept_write : {E : Type 0} (a b c : Option (List ℕ)) (r : Result ℕ E) (bytes : List ℕ) → Keeps a b → WriteAppends b c r bytes → WriteAppends a c r bytes
kept_write a b c (Ok n) bytes p q = kept_appends a b c (take n bytes) p q
kept_write a b c (Err e) bytes p q = keeps_twice a b c p q

-- Nothing was done yet.
pub keeps_same : (a : Option (List ℕ)) → Keeps a a
keeps_same None = tt
keeps_same (Some xs) = refl

pub ruleset kept_reads = (kept_read, keeps_twice, keeps_same)

pub ruleset kept_writes = (kept_write, keeps_twice, keeps_same)
