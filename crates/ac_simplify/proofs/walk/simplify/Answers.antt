use Rattle.ac_simplify.proofs.Laws.{simple_law, holds_law, labels_law, aims_law, replay_law}
use Rattle.ac_simplify.proofs.walk.simplify.Goals as goal

pub returns-clause-replays : goal.returns-clause-replays
returns-clause-replays c = replay_law _ c.in_ok-simple.simple c.in_ok-simple.ensures.formula c.in_ok-simple.ensures.rewrites

pub returns-clause-simple : goal.returns-clause-simple
returns-clause-simple c = simple_law _ c.in_ok-simple.simple c.in_ok-simple.ensures.formula

pub returns-clause-holds : goal.returns-clause-holds
returns-clause-holds c = holds_law _ c.in_ok-simple.simple c.in_ok-simple.ensures.formula

pub returns-clause-labels : goal.returns-clause-labels
returns-clause-labels c = labels_law _ c.in_ok-simple.simple c.in_ok-simple.ensures.formula

pub returns-clause-aims : goal.returns-clause-aims
returns-clause-aims c = aims_law _ c.in_ok-simple.simple c.in_ok-simple.ensures.formula
