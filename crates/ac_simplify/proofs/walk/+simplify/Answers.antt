use Rattle.std.proofs.Common.{rules}
use Rattle.ac_simplify.proofs.Places.{noted_twice}
use Rattle.ac_simplify.proofs.walk.+simplify.Goals as goal

pub simplify_at-returns-in_ok-settled-in-Some-clause-noted :
    goal.simplify_at-returns-in_ok-settled-in-Some-clause-noted
simplify_at-returns-in_ok-settled-in-Some-clause-noted t c =
    noted_twice _ _ _ _ _ _ _ _ c.in_ok-inside.ensures.noted c.in_ok-inside.ensures.back c.in_ok-settled-in-Some.ensures.noted (search rules) c.get.ensures

pub simplify_at-returns-in_ok-settled-in-None-clause-noted : goal.simplify_at-returns-in_ok-settled-in-None-clause-noted
simplify_at-returns-in_ok-settled-in-None-clause-noted t c =
    noted_twice _ _ _ _ _ _ _ _ c.in_ok-inside.ensures.noted c.in_ok-inside.ensures.back c.in_ok-settled-in-None.ensures.noted (search rules) c.get.ensures
