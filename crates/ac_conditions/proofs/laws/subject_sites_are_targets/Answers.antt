-- The clause is the lemma.
use Rattle.ac_conditions.proofs.SitesAimedAt.{site_aimed_at}
use Rattle.ac_conditions.proofs.laws.subject_sites_are_targets.Goals as goal

pub returns : goal.returns
returns g = site_aimed_at
