use Rattle.std.proofs.Common.{◌^◌, ◌≤◌, ◌++◌, Option, Some, None, IfSome, IfNone, ◌∙◌, ◌≡◌, ◌<◌, ℕ, arith}
use Rattle.decimal_import.specs.Literal.{Literal}
use Rattle.decimal_import.specs.Rounding.{rounded_at, capped_point, least_whole}
use Rattle.decimal_import.specs.View.{literal_of}
use Rattle.decimal_import.proofs.Points.{Rounds, rounds_at-capped_point}
use Rattle.decimal_import.proofs.literal.Literal.rounded_up.Goals as goal

some_least : (digits : ℕ) (l : Literal) (n : ℕ) (r : Option ℕ) → Rounds digits l n → IfSome r (λ m. (m ≡ n) × (m ≤ 10 ^ 18)) → IfSome r (λ m. (m ≡ least_whole digits l) × (m ≤ 10 ^ 18))
some_least digits l n (Some m) rounds is = let small = is.1 in let same = is.0 in (same ∙ rounds.within (omega arith), small)
some_least digits l n None rounds is = is

none_past : (digits : ℕ) (l : Literal) (n : ℕ) (r : Option ℕ) → Rounds digits l n → IfNone r (10 ^ 18 < n) → IfNone r (10 ^ 18 < least_whole digits l)
none_past digits l n (Some m) rounds is = is
none_past digits l n None rounds is = rounds.past is

pub returns-clause-some : goal.returns-clause-some
returns-clause-some c =
    some_least c.args.digits (literal_of c.args.self.now) (rounded_at (capped_point (2 ^ 70) c.args.digits (literal_of c.args.self.now)) (c.args.self.now.whole.now ++ c.args.self.now.fraction.now)) c.round_at.result
    (rounds_at-capped_point (2 ^ 70) c.args.digits (literal_of c.args.self.now) c.requires.whole c.requires.fraction (let short = c.round_at.ensures.short in omega arith) (let short = c.round_at.ensures.short in let fits = c.ranges.digits in omega arith) c.requires.some)
    (rw (← c.point.ensures) c.round_at.ensures.some)

pub returns-clause-none : goal.returns-clause-none
returns-clause-none c =
    none_past c.args.digits (literal_of c.args.self.now) (rounded_at (capped_point (2 ^ 70) c.args.digits (literal_of c.args.self.now)) (c.args.self.now.whole.now ++ c.args.self.now.fraction.now)) c.round_at.result
    (rounds_at-capped_point (2 ^ 70) c.args.digits (literal_of c.args.self.now) c.requires.whole c.requires.fraction (let short = c.round_at.ensures.short in omega arith) (let short = c.round_at.ensures.short in let fits = c.ranges.digits in omega arith) c.requires.some)
    (rw (← c.point.ensures) c.round_at.ensures.none)
