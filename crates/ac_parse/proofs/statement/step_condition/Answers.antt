use Rattle.std.proofs.Common.{◌≡◌, ◌∙◌, subst, sym}
use Rattle.std.specs.Prelude.{IfOk}
use Rattle.ac_expression_reader.specs.ReadCondition as condition
use Rattle.ac_parse.specs.ReadStatement.{testing, tested}
use Rattle.ac_expression_reader.specs.Steps.{inside}
use Rattle.ac_parse.proofs.statement.step_condition.Goals as goal

pub returns-then-is_own : goal.returns-then-is_own
returns-then-is_own c =
    subst (λ b. IfOk c.step_test.result (λ r. r ≡ inside (testing c.args.stack c.args.done c.args.purpose) (tested c.args.stack c.args.done c.args.purpose c.args.token.now.mark) b (condition.step c.args.reading c.args.token.now) (condition.value c.args.reading))) (sym (sym c.is_own.ensures ∙ c.if-is_own.true))
    c.step_test.ensures

pub returns-else-is_own : goal.returns-else-is_own
returns-else-is_own c =
    subst (λ b. IfOk c.end_test.result (λ r. r ≡ inside (testing c.args.stack c.args.done c.args.purpose) (tested c.args.stack c.args.done c.args.purpose c.args.token.now.mark) b (condition.step c.args.reading c.args.token.now) (condition.value c.args.reading))) (sym (sym c.is_own.ensures ∙ c.if-is_own.false))
    c.end_test.ensures
