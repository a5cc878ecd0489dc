use Rattle.std.proofs.Common.{◌≡◌, take}
use Rattle.ac_verdict.specs.Sites.{counts, unproved}
use Rattle.ac_verdict.proofs.findings.found_under.Given as goal

-- what is found under the policies so far
abbrev pub invariant-loop-policy : goal.invariant-loop-policy
invariant-loop-policy l = record {
  counted : l.counts ≡ counts (take l.policy-index l.policies) l.program;
  found : l.unproved ≡ unproved (take l.policy-index l.policies) l.program;
}
