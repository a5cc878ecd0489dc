use Rattle.std.proofs.Common.{◌≡◌, Ok, subst, sym, arith, rules}
use Rattle.std.specs.Prelude.{IfOk, IfErr}
use Rattle.toml.specs.View.{table_view}
use Rattle.ac_policy_table.specs.PolicyFile.{Said, IsSaid}
use Rattle.ac_policy_table.proofs.Files.{says-none, says-table}
use Rattle.ac_policy_table.proofs.policy_table.read_policy_table.Goals as goal

pub returns-in-Ok-clause-table : goal.returns-in-Ok-clause-table
returns-in-Ok-clause-table c =
    let said = says-table c.args.bytes.now (table_view c.in-Ok.table) (omega arith) c.in-Ok.ensures.ok.0 c.in-Ok.ensures.ok.1 in
    subst (λ (s : Said). IfOk c.read_table.result (λ t. s ≡ Ok t)) (sym said) c.read_table.ensures.table

pub returns-in-Ok-clause-fault : goal.returns-in-Ok-clause-fault
returns-in-Ok-clause-fault c =
    let said = says-table c.args.bytes.now (table_view c.in-Ok.table) (omega arith) c.in-Ok.ensures.ok.0 c.in-Ok.ensures.ok.1 in
    subst (λ (s : Said). IfErr c.read_table.result (λ e. IsSaid e s)) (sym said) c.read_table.ensures.fault

pub returns-else-is_memory-clause-fault : goal.returns-else-is_memory-clause-fault
returns-else-is_memory-clause-fault c = says-none c.args.bytes.now (omega arith) (c.in-Err.ensures.refused (search rules))
