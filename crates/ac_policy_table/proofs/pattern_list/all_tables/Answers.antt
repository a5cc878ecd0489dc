use Rattle.ac_policy_table.proofs.Tables.{each_table}
use Rattle.ac_policy_table.proofs.pattern_list.all_tables.Goals as goal

pub returns-then-are_tables-clause-tables : goal.returns-then-are_tables-clause-tables
returns-then-are_tables-clause-tables c = rw (each_table c.args.values.now, ← c.are_tables.ensures, c.if-are_tables.true)

pub returns-else-are_tables-clause-tables : goal.returns-else-are_tables-clause-tables
returns-else-are_tables-clause-tables c = rw (each_table c.args.values.now, ← c.are_tables.ensures, c.if-are_tables.false)
