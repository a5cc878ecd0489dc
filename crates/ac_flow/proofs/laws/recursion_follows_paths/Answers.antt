use Rattle.ac_flow.proofs.LeadsHold.{path_leads, leads_path}
use Rattle.ac_flow.proofs.laws.recursion_follows_paths.Goals as goal

pub returns : goal.returns
returns c = λ barrier t from. (leads_path barrier t from, λ found. path_leads barrier t found.1 found.2)
