-- The first name with which something is wrong.
use Rattle.std.proofs.Common.{rules, arith}
use Rattle.ac_instance.proofs.Instanced.{bad_instance, wrong_found}
use Rattle.ac_instance.proofs.put_in.instance.Goals as goal

pub returns-clause-bad : goal.returns-clause-bad
returns-clause-bad c =
    bad_instance c.args.program.now _ c.in_ok-filled.filled c.in_ok-name-in-Err.name c.in-Err.wrong.reason
    (first_of (search rules, grind arith))
    (wrong_found c.args.program.now c.in_ok-filled.filled c.get.result.now c.judge_formula.result c.in-Err.wrong c.in_ok-name-in-Err.name
    (first_of (search rules, grind arith)) c.judge_formula.ensures (first_of (search rules, grind arith)) (first_of (search rules, grind arith)))
