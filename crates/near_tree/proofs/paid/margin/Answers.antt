use Rattle.std.proofs.Common.{◌≡◌, ◌∙◌, ◌<◌, ◌≤◌, ◌^◌, ◌*◌, pos, ◌+ℤ◌, ◌-ℤ◌, ◌<ℤ◌, ◌≤ℤ◌, ℕ, Result, Ok, Err, ap, sym, subst, arith, FitsSigned, unsigned_abs}
use Rattle.std.specs.Prelude.{IfNone, IfSome}
use Rattle.std.specs.Int.{div_ceil, w128}
use Rattle.std.specs.Result.{OkIff, result_ok}
use Rattle.std.proofs.lemmas.Int.{ints}
use Rattle.fleet_model.specs.Margins.{IsMargin}
use Rattle.closed_lists.proofs.Margins.{ceil_margin, none_below}
use Rattle.near_tree.proofs.paid.margin.Goals as goal

some_below : {E : Type 0} (P : ℕ → Type 0) (r : Result ℕ E) (x most : ℕ) → OkIff r (x < most) x → P x → IfSome (result_ok r) P
some_below P (Ok y) x most is holds = subst P (sym is.1) holds
some_below P (Err e) x most is holds = tt

none_past : {E : Type 0} (Q : Type 0) (r : Result ℕ E) (x most : ℕ) → OkIff r (x < most) x → (most ≤ x → Q) → IfNone (result_ok r) Q
none_past Q (Ok y) x most is holds = tt
none_past Q (Err e) x most is holds = holds (omega (arith, is))

the_gap : (c : goal.After-ok) → c.unsigned_abs-gap.result ≡ unsigned_abs (c.args.theirs -ℤ c.args.own)
the_gap c =
    let own : FitsSigned w128 c.args.own = c.ranges.own in
    let theirs : FitsSigned w128 c.args.theirs = c.ranges.theirs in
    omega (arith, ints, c.unsigned_abs-gap.ensures.value)

the_margin : (c : goal.After-ok) → c.div_ceil-margin.result ≡ div_ceil c.unsigned_abs-gap.result c.args.weight
the_margin c = c.div_ceil-margin.ensures ∙ ap (λ w. div_ceil c.unsigned_abs-gap.result w) c.from.ensures

is_less : (c : goal.After-ok) → c.args.own <ℤ c.args.theirs
is_less c =
    let own : FitsSigned w128 c.args.own = c.ranges.own in
    let theirs : FitsSigned w128 c.args.theirs = c.ranges.theirs in
    let test = c.if-theirs-own.false in
    grind (arith, ints, own, theirs, test)

some_weight : (c : goal.After-ok) → 0 < c.args.weight
some_weight c = let some = c.if-weight-eq0.false in grind (arith, some)

pub returns-clause-some : goal.returns-clause-some
returns-clause-some c =
    let is = ceil_margin c.args.own c.args.theirs c.args.weight c.unsigned_abs-gap.result (some_weight c) (is_less c) (the_gap c) in
    let here = subst (λ m. IsMargin c.args.weight c.args.own c.args.theirs m) (sym (the_margin c)) is in
    rw (c.ok.ensures.value) (some_below (IsMargin c.args.weight c.args.own c.args.theirs) c.try_from.result c.div_ceil-margin.result (2 ^ 64) c.try_from.ensures here)

pub returns-clause-none : goal.returns-clause-none
returns-clause-none c =
    rw (c.ok.ensures.value) (none_past ((other : ℕ) → c.args.theirs ≤ℤ (c.args.own +ℤ pos (other * c.args.weight)) → 2 ^ 64 ≤ other) c.try_from.result c.div_ceil-margin.result (2 ^ 64) c.try_from.ensures
    (λ past. none_below c.args.own c.args.theirs c.args.weight c.unsigned_abs-gap.result (2 ^ 64) (some_weight c) (is_less c) (the_gap c) (subst (λ m. 2 ^ 64 ≤ m) (the_margin c) past)))
