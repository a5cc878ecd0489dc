use Rattle.std.proofs.Common.{◌≡◌, ◌++◌, drop}
use Rattle.ac_policy.specs.Sites.{list_sites}
use Rattle.ac_policy.proofs.site_list.+stmt_sites.Given as goal

-- the sites so far, and those of the rest, are all
abbrev pub invariant-add_block-loop-stmt : goal.invariant-add_block-loop-stmt
invariant-add_block-loop-stmt l =
    l.found.items ++ list_sites l.program (drop l.stmt-index l.block) ≡ l.initial.found.items ++ list_sites l.program l.block
