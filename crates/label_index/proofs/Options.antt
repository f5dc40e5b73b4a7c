-- What follows for the value of an option or a result, or for its lack.
use Rattle.std.proofs.Common.{Option, None, Some, Result, Ok, Err}
use Rattle.std.specs.Prelude.{IfErr, IfNone, IfOk, IfSome}

module _ {A : Type 0} where
  pub some_map : (P Q : A → Type 0) (o : Option A) → ((x : A) → P x → Q x) → IfSome o P → IfSome o Q
  some_map P Q None f is = tt
  some_map P Q (Some x) f is = f x is

  pub none_map : (P Q : Type 0) (o : Option A) → (P → Q) → IfNone o P → IfNone o Q
  none_map P Q None f is = f is
  none_map P Q (Some x) f is = tt

module _ {A E : Type 0} where
  pub ok_map : (P Q : A → Type 0) (r : Result A E) → ((x : A) → P x → Q x) → IfOk r P → IfOk r Q
  ok_map P Q (Ok x) f is = f x is
  ok_map P Q (Err e) f is = tt

  pub ok_both : (P Q R : A → Type 0) (r : Result A E) → ((x : A) → P x → Q x → R x) → IfOk r P → IfOk r Q → IfOk r R
  ok_both P Q R (Ok x) f one two = f x one two
  ok_both P Q R (Err e) f one two = tt

  pub err_map : (P Q : E → Type 0) (r : Result A E) → ((e : E) → P e → Q e) → IfErr r P → IfErr r Q
  err_map P Q (Ok x) f is = tt
  err_map P Q (Err e) f is = f e is
