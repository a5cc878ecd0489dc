use Rattle.std.proofs.Common.{rules, codes}
use Rattle.ac_tree.specs.declared.program.StmtKind.{the_lemmas as stmt_lemmas}
use Rattle.ac_program_printer.proofs.PrintRules.{longer, test_longer, header_longer, deeper_fits, if_written, for_written, while_written, list_step, list_end}
use Rattle.ac_program_printer.proofs.print_statement.+print_stmt.Goals as goal

pub write_block-loop-stmt-preserved : goal.write_block-loop-stmt-preserved
write_block-loop-stmt-preserved t c = record {
  whole = list_step _ c.args.block.now c.loop-stmt.stmt-index c.stmt-item.result _ _ _ c.loop-stmt-test.true c.stmt-item.is c.in_ok-write_stmt.ensures c.loop-stmt.invariant.whole;
  long = longer _ _ _ _ c.in_ok-write_stmt.ensures c.loop-stmt.invariant.long;
}

pub write_block-returns : goal.write_block-returns
write_block-returns t c = list_end _ c.args.block.now c.loop-stmt.stmt-index _ _ c.loop-stmt-test.false c.loop-stmt.invariant.whole

pub write_stmt-returns-in_ok-write_line-in-If : goal.write_stmt-returns-in_ok-write_line-in-If
write_stmt-returns-in_ok-write_line-in-If t c =
    if_written _ _ _ c.in-If.test _ _ _ _ _ _ _ _ _ _ _ c.in-If.is c.one_deeper-deeper.ensures c.as_slice.ensures c.as_slice-in-If.ensures c.as_slice-in-If-2.ensures
    c.in_ok-write_test-in-If.ensures c.in_ok-write_block-in-If.ensures c.in_ok-write_else-in-If.ensures c.in_ok-write_block-in-If-2.ensures c.in_ok-write_line-in-If.ensures

pub write_stmt-returns-in_ok-write_line-in-For : goal.write_stmt-returns-in_ok-write_line-in-For
write_stmt-returns-in_ok-write_line-in-For t c =
    for_written _ _ _ _ c.in-For.lo c.in-For.hi _ _ _ _ _ _ c.in-For.is c.one_deeper-deeper-in-For.ensures c.as_slice-in-For.ensures
    c.in_ok-write_header-in-For.ensures c.in_ok-write_block-in-For.ensures c.in_ok-write_line-in-For.ensures

pub write_stmt-returns-in_ok-write_line-in-While : goal.write_stmt-returns-in_ok-write_line-in-While
write_stmt-returns-in_ok-write_line-in-While t c =
    while_written _ _ _ c.in-While.test _ _ _ _ _ _ c.in-While.is c.one_deeper-deeper-in-While.ensures c.as_slice-in-While.ensures
    c.in_ok-write_test-in-While.ensures c.in_ok-write_block-in-While.ensures c.in_ok-write_line-in-While.ensures

pub write_block-write_stmt-requires : goal.write_block-write_stmt-requires
write_block-write_stmt-requires t c = (search (rules, stmt_lemmas), c.loop-stmt.invariant.long)

pub write_stmt-one_deeper-deeper-requires : goal.write_stmt-one_deeper-deeper-requires
write_stmt-one_deeper-deeper-requires t c = test_longer c.args.depth c.in-If.test (codes "if ") (codes " then") _ _ c.in_ok-write_test-in-If.ensures c.requires

pub write_stmt-write_block-requires : goal.write_stmt-write_block-requires
write_stmt-write_block-requires t c = (search (rules, stmt_lemmas), deeper_fits _ _ _ c.one_deeper-deeper.ensures (test_longer c.args.depth c.in-If.test (codes "if ") (codes " then") _ _ c.in_ok-write_test-in-If.ensures c.requires))

pub write_stmt-write_block-requires-in-If : goal.write_stmt-write_block-requires-in-If
write_stmt-write_block-requires-in-If t c =
    (search (rules, stmt_lemmas), longer _ _ _ _ c.in_ok-write_else-in-If.ensures (longer _ _ _ _ c.in_ok-write_block-in-If.ensures (deeper_fits _ _ _ c.one_deeper-deeper.ensures (test_longer c.args.depth c.in-If.test (codes "if ") (codes " then") _ _ c.in_ok-write_test-in-If.ensures c.requires))))

pub write_stmt-one_deeper-deeper-requires-in-For : goal.write_stmt-one_deeper-deeper-requires-in-For
write_stmt-one_deeper-deeper-requires-in-For t c = header_longer c.args.depth c.in-For.name c.in-For.lo c.in-For.hi _ _ c.in_ok-write_header-in-For.ensures c.requires

pub write_stmt-write_block-requires-in-For : goal.write_stmt-write_block-requires-in-For
write_stmt-write_block-requires-in-For t c = (search (rules, stmt_lemmas), deeper_fits _ _ _ c.one_deeper-deeper-in-For.ensures (header_longer c.args.depth c.in-For.name c.in-For.lo c.in-For.hi _ _ c.in_ok-write_header-in-For.ensures c.requires))

pub write_stmt-one_deeper-deeper-requires-in-While : goal.write_stmt-one_deeper-deeper-requires-in-While
write_stmt-one_deeper-deeper-requires-in-While t c = test_longer c.args.depth c.in-While.test (codes "while ") (codes " do") _ _ c.in_ok-write_test-in-While.ensures c.requires

pub write_stmt-write_block-requires-in-While : goal.write_stmt-write_block-requires-in-While
write_stmt-write_block-requires-in-While t c = (search (rules, stmt_lemmas), deeper_fits _ _ _ c.one_deeper-deeper-in-While.ensures (test_longer c.args.depth c.in-While.test (codes "while ") (codes " do") _ _ c.in_ok-write_test-in-While.ensures c.requires))
