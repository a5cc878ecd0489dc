use Rattle.ac_flow.specs.Cuts.{has_barrier}
use Rattle.ac_flow.specs.Pairs.{is_subject}
use Rattle.ac_flow.proofs.PairsCover.{reached-listed}
use Rattle.ac_flow.proofs.PairsReached.{listed-reached}
use Rattle.ac_flow.proofs.laws.pairs_follow_paths.Goals as goal

pub returns : goal.returns
returns c = λ program cuts subject d t. (listed-reached program (has_barrier cuts) (is_subject subject) d t, λ found. reached-listed (has_barrier cuts) (is_subject subject) program d t found.0 found.1)
