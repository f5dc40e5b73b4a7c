use Rattle.fleet_model.proofs.Unique.{one_body}
use Rattle.fleet_model.proofs.basis_laws.a_basis_has_one_body_equation.Goals as goal

pub returns : goal.returns
returns c n basis i xs ys lt free x y = one_body n basis i xs ys lt free x y
