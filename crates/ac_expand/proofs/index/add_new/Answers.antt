use Rattle.ac_expand.proofs.Terms.{table_kept, term_added}
use Rattle.ac_expand.proofs.index.add_new.Goals as goal

pub returns-clause-table : goal.returns-clause-table
returns-clause-table c = λ h. table_kept _ _ _ _ _ _ _ c.in_ok-copy.ensures c.in_ok-push_if.ensures c.in_ok-new.ensures.added c.in_ok-new.ensures.keys h

pub returns-clause-added : goal.returns-clause-added
returns-clause-added c = λ h. term_added _ _ _ _ _ _ c.in_ok-copy.ensures c.in_ok-push_if.ensures c.in_ok-new.ensures.added h
