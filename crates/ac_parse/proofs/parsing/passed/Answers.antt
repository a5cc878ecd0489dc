use Rattle.std.proofs.Common.{subst, sym}
use Rattle.ac_parse.specs.Parsing.{PassesLimit}
use Rattle.ac_parse.proofs.parsing.passed.Goals as goal

pub returns : goal.returns
returns c = λ bytes h. subst (λ value. PassesLimit bytes c.args.which value) (sym c.number.ensures) h
