use Rattle.ac_visits.proofs.Named.{named_visited}
use Rattle.ac_visits.proofs.Walked.{visited_named}
use Rattle.ac_visits.proofs.laws.walks_follow_paths.Goals as goal

pub returns : goal.returns
returns c = λ program cuts d t n numbered reached. (named_visited program cuts d t n numbered reached, visited_named program cuts d t numbered reached n)
