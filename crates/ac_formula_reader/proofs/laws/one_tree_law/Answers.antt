use Rattle.ac_formula_reader.proofs.Reading.{one_tree}
use Rattle.ac_formula_reader.proofs.laws.one_tree_law.Goals as goal

pub returns : goal.returns
returns c = one_tree
