-- The clauses are the lemmas.
use Rattle.ac_policy.proofs.SiteOrder.{sites_have_nodes, sites_rise}
use Rattle.ac_policy.proofs.laws.sites_stand_in_order.Goals as goal

pub returns-clause-nodes : goal.returns-clause-nodes
returns-clause-nodes c = sites_have_nodes

pub returns-clause-rising : goal.returns-clause-rising
returns-clause-rising c = sites_rise
