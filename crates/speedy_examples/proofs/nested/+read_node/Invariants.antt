use Rattle.speedy_examples.proofs.nested.+read_node.Given as goal

abbrev pub decreases-read_node : goal.decreases-read_node
decreases-read_node l = l.levels
