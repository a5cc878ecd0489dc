-- The names of a statement that has a block, part by part.
use Rattle.std.proofs.Common.{rules, arith}
use Rattle.std.proofs.lemmas.Result.{on_ok_weaker}
use Rattle.ac_sameness.proofs.Writing.{names_if, names_for, names_while}
use Rattle.ac_sameness.proofs.written.+written.Goals as goal

pub add_stmt-returns-in_ok-add_run-in-If : goal.add_stmt-returns-in_ok-add_run-in-If
add_stmt-returns-in_ok-add_run-in-If t c =
    on_ok_weaker c.add_run-in-If.result
    (names_if c.args.names.now.entries c.add_run.new.names.entries c.add_run-in-If.new.names.entries c.args.stmt.now.kind c.in-If.test c.in-If.yes c.in-If.no
    c.as_slice.result.now c.as_slice-in-If.result.now c.in-If.is (first_of (search rules, grind arith)) (first_of (search rules, grind arith)) c.in_ok-add_run-in-If.ensures)
    c.add_run-in-If.ensures

pub add_stmt-returns-in_ok-add_name-in-For : goal.add_stmt-returns-in_ok-add_name-in-For
add_stmt-returns-in_ok-add_name-in-For t c =
    on_ok_weaker c.add_run-in-For.result
    (names_for c.args.names.now.entries c.add_name-in-For.new.names.entries c.add_run-in-For.new.names.entries c.args.stmt.now.kind c.in-For.name c.in-For.name c.in-For.lo
    c.in-For.hi c.in-For.body c.as_slice-in-For.result.now c.in-For.is (first_of (search rules, grind arith)) (first_of (search rules, grind arith)) c.in_ok-add_name-in-For.ensures)
    c.add_run-in-For.ensures

pub add_stmt-returns-in-While : goal.add_stmt-returns-in-While
add_stmt-returns-in-While t c =
    on_ok_weaker c.add_run-in-While.result
    (names_while c.args.names.now.entries c.add_run-in-While.new.names.entries c.args.stmt.now.kind c.in-While.test c.in-While.body c.as_slice-in-While.result.now c.in-While.is
    (first_of (search rules, grind arith)))
    c.add_run-in-While.ensures
