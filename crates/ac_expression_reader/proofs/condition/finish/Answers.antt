use Rattle.std.proofs.Common.{◌≡◌, subst, sym, refl}
use Rattle.std.specs.Prelude.{IfOk}
use Rattle.ac_expression_reader.specs.ReadCondition.{value_at}
use Rattle.ac_expression_reader.proofs.Stacks.{is_empty, is_open}
use Rattle.ac_expression_reader.proofs.condition.finish.Goals as goal

pub returns-then-not-is_empty : goal.returns-then-not-is_empty
returns-then-not-is_empty c = is_open _ c.args.reading.stack (λ k. value_at k c.args.reading.state) c.if-not-is_empty.true c.is_empty.ensures (λ o k. refl)

pub returns : goal.returns
returns c =
    subst (λ k. IfOk c.end.result (λ r. r ≡ value_at k c.args.reading.state)) (sym (is_empty _ _ c.if-not-is_empty.false c.is_empty.ensures)) c.end.ensures
