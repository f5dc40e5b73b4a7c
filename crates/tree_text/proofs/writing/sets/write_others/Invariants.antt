use Rattle.std.proofs.Common.{◌≡◌, ◌++◌, codes, decimal, drop}
use Rattle.ev_text.specs.Texts.{marked_texts}
use Rattle.tree_text.proofs.writing.sets.write_others.Given as goal

abbrev pub invariant-loop-node : goal.invariant-loop-node
invariant-loop-node l = l.text.items ++ marked_texts (codes ",") (λ n. decimal n) (drop l.node-index l.nodes) ≡ l.fn.text.items ++ marked_texts (codes ",") (λ n. decimal n) l.nodes
