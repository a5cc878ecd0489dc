-- The clauses are the lemmas.
use Rattle.ac_tree.proofs.StaticLaws.{declare_once, good_items}
use Rattle.ac_tree.proofs.laws.accepted_declarations_are_good.Goals as goal

pub returns-clause-once : goal.returns-clause-once
returns-clause-once c = declare_once

pub returns-clause-good : goal.returns-clause-good
returns-clause-good c = good_items
