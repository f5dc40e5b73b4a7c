-- Steps of a storage in memory that change nothing that it tells, before and after one that does.
use Rattle.std.proofs.Common.{◌≡◌, sym, ap, subst, ℕ, List, [], Some}
use Rattle.ev_outside.specs.PieceLaws.{writes_nothing}
use Rattle.ev_outside.specs.Storage.{Told, WritesTo}

pub nothing_where_same : (a b : Told) → b ≡ a → WritesTo (Some a) [] (Some b)
nothing_where_same a b same = subst (λ (t : Told). WritesTo (Some a) [] (Some t)) (sym same) (writes_nothing a)

pub writes_from : (a b c : Told) (piece : List ℕ) → b ≡ a → WritesTo (Some b) piece (Some c) → WritesTo (Some a) piece (Some c)
writes_from a b c piece same writes = subst (λ (t : Told). WritesTo (Some t) piece (Some c)) same writes

pub same_files : (a b : Told) (name : List ℕ) → b ≡ a → b.files name ≡ a.files name
same_files a b name same = ap (λ (t : Told). t.files name) same
