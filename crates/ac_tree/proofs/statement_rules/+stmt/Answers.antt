-- The productions of statements whose parts are blocks, and the loop over a block.
use Rattle.std.proofs.Common.{arith, ap, sym, ◌∙◌, ◌+◌, drop, Some}
use Rattle.std.proofs.lemmas.Result.{err_from_is_err_and}
use Rattle.ac_tree.specs.FirstFault.{fault_of, loops_of}
use Rattle.ac_tree.specs.StaticRules.{first_fault, list_faults}
use Rattle.ac_tree.proofs.FirstFaults.{or_else, list_faults-drop, stmt_faults-If, stmt_faults-While}
use Rattle.ac_tree.proofs.statement_rules.+stmt.Goals as goal

pub check_stmt-returns-in_err-check_block-in-If : goal.check_stmt-returns-in_err-check_block-in-If
check_stmt-returns-in_err-check_block-in-If g t c = rw (c.in-If.is, stmt_faults-If) (grind arith)

pub check_stmt-returns-in_ok-check_block-in-If : goal.check_stmt-returns-in_ok-check_block-in-If
check_stmt-returns-in_ok-check_block-in-If g t c = rw (c.in-If.is, stmt_faults-If) (grind arith)

pub check_stmt-returns-in_ok-check_cond-in-While : goal.check_stmt-returns-in_ok-check_cond-in-While
check_stmt-returns-in_ok-check_cond-in-While g t c = rw (c.in-While.is, stmt_faults-While) (grind arith)

pub check_block-loop-stmt-preserved : goal.check_block-loop-stmt-preserved
check_block-loop-stmt-preserved g t c =
    let behind = first_fault (list_faults (g.D.DeclaredNames.listed c.args.names.now) (loops_of c.args.loops.now) (drop (c.loop-stmt.stmt-index + 1) c.args.block.now)) in
    let step = list_faults-drop (g.D.DeclaredNames.listed c.args.names.now) (loops_of c.args.loops.now) c.args.block.now c.loop-stmt.stmt-index c.stmt-item.result c.loop-stmt-test.true c.stmt-item.is in
    sym (step ∙ ap (λ o. or_else o behind) (sym c.in_ok-check_stmt.ensures)) ∙ c.loop-stmt.invariant

pub check_block-returns-in_err-check_stmt : goal.check_block-returns-in_err-check_stmt
check_block-returns-in_err-check_stmt g t c =
    let behind = first_fault (list_faults (g.D.DeclaredNames.listed c.args.names.now) (loops_of c.args.loops.now) (drop (c.loop-stmt.stmt-index + 1) c.args.block.now)) in
    let step = list_faults-drop (g.D.DeclaredNames.listed c.args.names.now) (loops_of c.args.loops.now) c.args.block.now c.loop-stmt.stmt-index c.stmt-item.result c.loop-stmt-test.true c.stmt-item.is in
    let whole = sym (step ∙ ap (λ o. or_else o behind) (sym c.in_err-check_stmt.ensures)) ∙ c.loop-stmt.invariant in
    let p = err_from_is_err_and c.from_residual.result c.from_residual.ensures.1 in
    ap (λ r. fault_of r) p.1 ∙ (ap Some p.2 ∙ whole)
