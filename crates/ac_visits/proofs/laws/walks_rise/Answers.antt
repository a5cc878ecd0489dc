use Rattle.ac_flow.specs.Cuts.{has_barrier}
use Rattle.ac_visits.proofs.Rising.{walk_once, path_rises}
use Rattle.ac_visits.proofs.laws.walks_rise.Goals as goal

pub returns-clause-once : goal.returns-clause-once
returns-clause-once c = λ program cuts pair n. walk_once program cuts pair n

pub returns-clause-rising : goal.returns-clause-rising
returns-clause-rising c = λ program cuts pair n. path_rises program (has_barrier cuts) pair.target pair.cut n
