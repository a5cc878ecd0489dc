use Rattle.ac_formula_reader.proofs.OneRefusal.{one_place}
use Rattle.ac_formula_reader.proofs.laws.one_refusal_law.Goals as goal

pub returns : goal.returns
returns c = one_place
