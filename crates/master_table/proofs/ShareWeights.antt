-- What the share weight tells of a table within its caps.
use Rattle.std.proofs.Common.{ℕ, ◌≤◌, ◌↔◌, Option, Some, None, IfSome, IsNone, IsTrue, is_none, false, refl}
use Rattle.std.proofs.lemmas.Bool.{both_ways}
use Rattle.fleet_model.specs.Wide.{IsShareWeightPast}
use Rattle.master_table.specs.Tableau.{IsBasisPast, IsTableau, IsWithinCaps, Tableau, basis_columns, size}
use Rattle.master_table.specs.ShareWeight.{IsRowsWeight}
use Rattle.master_table.proofs.Within.{not_past, past_by_weight}

pub tells_past : (t : Tableau) → IsTableau t → IsWithinCaps t → (o : Option ℕ) → IfSome o (λ over. IsRowsWeight t (size t) over) → IfSome o (λ over. over ≤ t.caps.body)
    → (IsNone o → IsShareWeightPast t.caps.body (size t) (basis_columns t)) → IsTrue (is_none o) ↔ IsBasisPast t
tells_past t h w (Some over) rows small past = (λ e. absurd (both_ways false refl e), λ p. absurd (not_past t h w over rows small p))
tells_past t h w None rows small past = (λ e. past_by_weight t h (past refl), λ p. refl)
