use Rattle.std.proofs.Common.{◌≡◌, subst, sym, refl}
use Rattle.ac_parse.specs.ReadStatement.{value_at}
use Rattle.ac_expression_reader.proofs.Stacks.{is_empty, is_open}
use Rattle.ac_parse.proofs.statement.finish.Goals as goal

pub returns-then-not-is_empty : goal.returns-then-not-is_empty
returns-then-not-is_empty c = is_open _ c.args.reading.stack (λ k. value_at k c.args.reading.done c.args.reading.state) c.if-not-is_empty.true c.is_empty.ensures (λ o k. refl)

pub returns : goal.returns
returns c =
    subst (λ k. c.settled-whole.result ≡ value_at k c.args.reading.done c.args.reading.state) (sym (is_empty _ _ c.if-not-is_empty.false c.is_empty.ensures)) c.settled-whole.ensures
