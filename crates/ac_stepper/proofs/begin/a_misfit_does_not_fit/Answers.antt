use Rattle.ac_stepper.proofs.Misfits.{misfit-fits}
use Rattle.ac_stepper.proofs.begin.a_misfit_does_not_fit.Goals as goal

pub returns : goal.returns
returns c = misfit-fits
