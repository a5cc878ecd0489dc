use Rattle.ac_proof.proofs.Truth.{sound}
use Rattle.ac_proof.proofs.law.soundness.Goals as goal

pub returns : goal.returns
returns c = sound
