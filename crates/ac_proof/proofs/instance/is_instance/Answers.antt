use Rattle.std.proofs.Common.{sym}
use Rattle.ac_proof.proofs.instance.is_instance.Goals as goal

pub returns-in-AllIntro : goal.returns-in-AllIntro
returns-in-AllIntro c = rw c.in-AllIntro.is c.is_all_intro.ensures

pub returns-in-AllElim : goal.returns-in-AllElim
returns-in-AllElim c = rw c.in-AllElim.is c.is_all_elim.ensures

pub returns-in-Linear : goal.returns-in-Linear
returns-in-Linear c = rw (c.in-Linear.is, sym c.as_slice.ensures) c.is_linear.ensures
