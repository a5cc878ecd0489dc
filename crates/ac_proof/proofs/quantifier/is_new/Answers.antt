use Rattle.std.proofs.Common.{rules}
use Rattle.ac_proof.specs.New.{IsNew}
use Rattle.ac_proof.proofs.quantifier.is_new.Goals as goal

pub returns : goal.returns
unfolding IsNew
returns c = search rules
