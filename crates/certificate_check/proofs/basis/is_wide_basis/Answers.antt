use Rattle.std.proofs.Common.{◌∙◌, ◌<◌, ◌+◌, length, subst, sym}
use Rattle.std.specs.List.{All}
use Rattle.certificate_check.proofs.Columns.{numbers_small, told_result}
use Rattle.certificate_check.proofs.basis.is_wide_basis.Goals as goal

pub is_too_wide-requires-clause-entries : goal.is_too_wide-requires-clause-entries
is_too_wide-requires-clause-entries c =
    subst (All (λ j. j < c.args.customers + length c.args.routes.now)) (sym (c.as_slice.ensures.value ∙ c.in_ok-entries.ensures))
    (numbers_small c.args.customers (length c.args.routes.now) c.args.basis.now c.requires.basis.entries)

pub returns : goal.returns
returns c =
    told_result c.args.customers c.args.routes.now c.as_slice.result.now c.args.basis.now (c.as_slice.ensures.value ∙ c.in_ok-entries.ensures) c.requires.basis.entries
    c.is_too_wide.result c.is_too_wide.ensures.wide c.is_too_wide.ensures.narrow
