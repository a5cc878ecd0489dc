use Rattle.std.proofs.Common.{rules}
use Rattle.ac_names.proofs.Places.{IfSome-within}
use Rattle.ac_names.proofs.name_table.NameTable.place_of.Goals as goal

pub returns-clause-within : goal.returns-clause-within
returns-clause-within c = IfSome-within c.args.self.now c.args.name.now c.copied.result (search rules)
