-- One name more.
use Rattle.std.proofs.Common.{rules, arith}
use Rattle.std.proofs.lemmas.Map.Text.{hash_map_updates_str}
use Rattle.ac_sameness.proofs.Writing.{one_more}
use Rattle.ac_sameness.proofs.written.add_name.Goals as goal

pub returns : goal.returns
returns c = λ x.
    one_more _ _ c.text.result.now c.args.name.now x (first_of (search rules, grind arith))
    (hash_map_updates_str c.text.result.now c.args.names.now c.insert.new.self _ c.in_ok-insert.ensures.updates x)
