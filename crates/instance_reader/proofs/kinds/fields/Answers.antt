use Rattle.std.proofs.Common.{arith}
use Rattle.instance_reader.proofs.SearchLemmas.{several}
use Rattle.instance_reader.specs.Contents.{contents_of}
use Rattle.instance_reader.specs.Kinds.{first_wrong_kind}
use Rattle.instance_reader.proofs.kinds.fields.Goals as goal

pub returns-in_err-whole-clause-err : goal.returns-in_err-whole-clause-err
unfolding contents_of first_wrong_kind
returns-in_err-whole-clause-err = grind (arith, several)

pub returns-in_err-stations-clause-err : goal.returns-in_err-stations-clause-err
unfolding contents_of first_wrong_kind
returns-in_err-stations-clause-err = grind (arith, several)

pub returns-in_err-curves-clause-err : goal.returns-in_err-curves-clause-err
unfolding contents_of first_wrong_kind
returns-in_err-curves-clause-err = grind (arith, several)

pub returns-in_err-wholes-clause-err : goal.returns-in_err-wholes-clause-err
unfolding contents_of first_wrong_kind
returns-in_err-wholes-clause-err = grind (arith, several)

pub returns-in_err-rows-clause-err : goal.returns-in_err-rows-clause-err
unfolding contents_of first_wrong_kind
returns-in_err-rows-clause-err = grind (arith, several)

pub returns-in_err-rows-2-clause-err : goal.returns-in_err-rows-2-clause-err
unfolding contents_of first_wrong_kind
returns-in_err-rows-2-clause-err = grind (arith, several)

pub returns-in_err-limit-clause-err : goal.returns-in_err-limit-clause-err
unfolding contents_of first_wrong_kind
returns-in_err-limit-clause-err = grind (arith, several)

pub returns-in_err-limit-2-clause-err : goal.returns-in_err-limit-2-clause-err
unfolding contents_of first_wrong_kind
returns-in_err-limit-2-clause-err = grind (arith, several)

pub returns-in_err-whole_or_zero-clause-err : goal.returns-in_err-whole_or_zero-clause-err
unfolding contents_of first_wrong_kind
returns-in_err-whole_or_zero-clause-err = grind (arith, several)

pub returns-in_err-whole_or_zero-2-clause-err : goal.returns-in_err-whole_or_zero-2-clause-err
unfolding contents_of first_wrong_kind
returns-in_err-whole_or_zero-2-clause-err = grind (arith, several)

pub returns-clause-kind : goal.returns-clause-kind
unfolding contents_of first_wrong_kind
returns-clause-kind = grind (arith, several)

pub returns-clause-value : goal.returns-clause-value
unfolding contents_of first_wrong_kind
returns-clause-value = grind (arith, several)
