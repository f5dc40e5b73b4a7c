use Rattle.std.proofs.Common.{◌≡◌, ◌++◌, drop, map}
use Rattle.ev_text.specs.Texts.{joined_texts}
use Rattle.tree_text.specs.TreeTexts.{node_text}
use Rattle.tree_text.specs.Written.{written_node}
use Rattle.tree_text.proofs.writing.write_nodes.Given as goal

abbrev pub invariant-loop-node : goal.invariant-loop-node
invariant-loop-node l = l.text.items ++ joined_texts node_text (map (written_node l.inst) (drop l.node-index l.nodes)) ≡ l.fn.text.items ++ joined_texts node_text (map (written_node l.inst) l.nodes)
