use Rattle.fleet_model.proofs.Unique.{pays_least}
use Rattle.fleet_model.proofs.basis_laws.a_list_without_a_divisor_pays_least.Goals as goal

pub returns : goal.returns
returns c worth n basis w numbers free list reduced = pays_least worth n basis w numbers free list reduced
