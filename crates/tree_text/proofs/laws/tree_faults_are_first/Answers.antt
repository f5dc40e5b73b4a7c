use Rattle.tree_text.proofs.TreeLaws.{length_told, range_is_first, text_is_first, version_told}
use Rattle.tree_text.proofs.laws.tree_faults_are_first.Goals as goal

pub returns : goal.returns
returns c = record {
  range = range_is_first;
  text = text_is_first;
  version = version_told;
  too_long = length_told;
}
