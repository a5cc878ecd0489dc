use Rattle.std.proofs.Common.{◌≡◌, take}
use Rattle.ac_verify.specs.Certificates.{part_policies}
use Rattle.ac_verify.proofs.verified.have_policies.Given as goal

-- the parts before are those of the policies before
abbrev pub invariant-loop-i : goal.invariant-loop-i
invariant-loop-i l = take l.i (part_policies l.parts) ≡ take l.i l.policies
