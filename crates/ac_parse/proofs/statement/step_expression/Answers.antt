use Rattle.std.proofs.Common.{◌≡◌, ◌∙◌, subst, sym}
use Rattle.std.specs.Prelude.{IfOk}
use Rattle.ac_expression_reader.specs.ReadExpression as expression
use Rattle.ac_parse.specs.ReadStatement.{evaluating, behind}
use Rattle.ac_expression_reader.specs.Steps.{inside}
use Rattle.ac_parse.proofs.statement.step_expression.Goals as goal

pub returns-then-is_own : goal.returns-then-is_own
returns-then-is_own c =
    subst (λ b. IfOk c.step_within.result (λ r. r ≡ inside (evaluating c.args.stack c.args.done c.args.purpose) (behind c.args.stack c.args.done c.args.purpose c.args.token.now.span c.args.token.now.mark) b (expression.step c.args.reading c.args.token.now) (expression.value c.args.reading))) (sym (sym c.is_own.ensures ∙ c.if-is_own.true))
    c.step_within.ensures

pub returns-else-is_own : goal.returns-else-is_own
returns-else-is_own c =
    subst (λ b. IfOk c.step_past.result (λ r. r ≡ inside (evaluating c.args.stack c.args.done c.args.purpose) (behind c.args.stack c.args.done c.args.purpose c.args.token.now.span c.args.token.now.mark) b (expression.step c.args.reading c.args.token.now) (expression.value c.args.reading))) (sym (sym c.is_own.ensures ∙ c.if-is_own.false))
    c.step_past.ensures
