use Rattle.std.proofs.Common.{sym}
use Rattle.ac_names.proofs.Places.{kind_in-later}
use Rattle.ac_names.proofs.name_table.NameTable.kind_before.Goals as goal

pub returns-else-place-count : goal.returns-else-place-count
returns-else-place-count c = kind_in-later c.args.self.now c.args.name.now c.in-Some.place c.args.count (sym c.in-Some.ensures.first) c.if-place-count.false
