use Rattle.std.proofs.Common.{arith}
use Rattle.label_steps.proofs.Pays.{first_low}
use Rattle.label_steps.proofs.paying.pays.Goals as goal

pub is_sooner-requires-in-len2-up-clause-fits : goal.is_sooner-requires-in-len2-up-clause-fits
is_sooner-requires-in-len2-up-clause-fits c =
    let low = first_low c.args.points.now c.requires.points (let more = c.in-len2-up.len_at_least in omega (arith, more)) in
    let fits = c.requires.fits in
    let full = c.requires.full in
    omega (arith, low, fits, full)

pub unit_time-requires-clause-fits : goal.unit_time-requires-clause-fits
unit_time-requires-clause-fits c =
    let low = first_low c.args.points.now c.requires.points (let more = c.in-len2-up.len_at_least in omega (arith, more)) in
    let fits = c.requires.fits in
    omega (arith, low, fits)
