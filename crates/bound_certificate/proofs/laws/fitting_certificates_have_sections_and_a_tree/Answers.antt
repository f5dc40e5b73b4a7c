use Rattle.bound_certificate.proofs.Meanings.{has_tree, one_tree_of, sections_fit}
use Rattle.bound_certificate.proofs.laws.fitting_certificates_have_sections_and_a_tree.Goals as goal

pub returns : goal.returns
returns c = record { sections = sections_fit; tree = has_tree; one = one_tree_of }
