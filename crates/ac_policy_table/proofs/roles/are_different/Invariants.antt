use Rattle.std.proofs.Common.{◌≡◌, true, take}
use Rattle.std.specs.Prelude.{bytes_eq}
use Rattle.ac_policy_table.specs.Values.{are_different}
use Rattle.ac_policy_table.proofs.roles.are_different.Given as goal

-- the names so far are in the set, and they differ
abbrev pub invariant-loop-name : goal.invariant-loop-name
invariant-loop-name l = record {
  seen : l.seen.keys ≡ take l.name-index l.names;
  different : are_different bytes_eq (take l.name-index l.names) ≡ true;
}
