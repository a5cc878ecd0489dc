-- The clauses are the lemmas.
use Rattle.ac_policy.proofs.SiteFacts.{plain_sites, indexed_sites, variable_plain, variable_indexed}
use Rattle.ac_policy.proofs.laws.sites_meet_the_laws.Goals as goal

pub returns-clause-plain : goal.returns-clause-plain
returns-clause-plain c = plain_sites

pub returns-clause-indexed : goal.returns-clause-indexed
returns-clause-indexed c = indexed_sites

pub returns-clause-variable_plain : goal.returns-clause-variable_plain
returns-clause-variable_plain c = variable_plain

pub returns-clause-variable_indexed : goal.returns-clause-variable_indexed
returns-clause-variable_indexed c = variable_indexed
