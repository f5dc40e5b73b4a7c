-- Which form the plan that is shown has, by the words for it.
use Rattle.std.specs.Prelude.{ℕ, Bool, true, false, Option, None, Some}
use Rattle.view_words.specs.declared.form.PlanForm.{PlanForm}
use Rattle.view_words.specs.declared.form.PlanForm.TheVariants as form

-- whether it is a part of a plan, whether it is a route as `fixed` puts it, and the level at which its vehicle starts; none
-- where the words don't go together
abbrev pub form_of : Bool → Bool → Option ℕ → Option PlanForm
form_of false false None = Some form.Fleet
form_of true false None = Some form.Part
form_of false true charge = Some (form.Fixed charge)
form_of partial fixed charge = None
