use Rattle.std.proofs.Common.{◌≡◌, ◌∙◌, ◌+◌, ◌/◌, ◌%◌, [], ◌∷◌, ◌++◌, decimal, sym, ap, arith, append_assoc}
use Rattle.std.proofs.lemmas.Fmt.{decimal_digit}
use Rattle.certificate_parts.proofs.NumberTexts.{decimal_step}
use Rattle.certificate_parts.proofs.writing.number.+push_number.Goals.{then-n-ge10+in_ok-push_number, else-n-ge10}
use Rattle.certificate_parts.proofs.writing.number.+push_number.Goals as goal

pub returns : goal.returns
returns t c = elim c.if-n-ge10.branch [
  | then-n-ge10+in_ok-push_number w ↦
      let front = ap (λ v. v.items) w.text-is ∙ w.in_ok-push_number.ensures in
      c.in_ok-push.ensures.items ∙ ap (λ l. l ++ ((48 + c.args.n % 10) ∷ [])) front
      ∙ append_assoc c.args.text.now.items (decimal (c.args.n / 10)) ((48 + c.args.n % 10) ∷ []) ∙ ap (λ l. c.args.text.now.items ++ l) (sym (decimal_step c.args.n w.if-n-ge10.true c.ranges.n.fits))
  | else-n-ge10 w ↦
      let digit : c.args.n % 10 ≡ c.args.n = omega (arith, w.if-n-ge10.false) in
      let one : decimal c.args.n ≡ (48 + c.args.n % 10) ∷ [] = rw (digit) (decimal_digit c.args.n (omega (arith, w.if-n-ge10.false))) in
      c.in_ok-push.ensures.items ∙ ap (λ l. l ++ ((48 + c.args.n % 10) ∷ [])) (ap (λ v. v.items) w.text-is)
      ∙ ap (λ l. c.args.text.now.items ++ l) (sym one)
]
