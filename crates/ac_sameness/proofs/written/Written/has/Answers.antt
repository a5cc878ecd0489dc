-- The map has the names that the run writes.
use Rattle.std.proofs.Common.{rules, arith}
use Rattle.ac_sameness.proofs.Writing.{has_written}
use Rattle.ac_sameness.proofs.written.Written.has.Goals as goal

pub returns : goal.returns
returns c =
    has_written c.self.inside.names.entries c.self.inside.run.now c.args.self.now c.args.name.now c.text.result.now c.contains_key.result c.self.invariant
    (first_of (search rules, grind arith)) (first_of (search rules, grind arith)) c.contains_key.ensures
