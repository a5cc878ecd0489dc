use Rattle.std.proofs.Common.{refl}
use Rattle.ac_parse.specs.ReadStatement.{is_open}
use Rattle.ac_expression_reader.proofs.Stacks.{open_tells}
use Rattle.ac_parse.proofs.statement.is_open.Goals as goal

pub returns : goal.returns
returns c = open_tells _ c.args.stack.now is_open c.is_empty.ensures refl (λ x more. refl)
