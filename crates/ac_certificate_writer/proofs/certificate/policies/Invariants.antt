use Rattle.std.proofs.Common.{◌≡◌, map, take}
use Rattle.ac_certificate_writer.proofs.certificate.policies.Given as goal

abbrev pub invariant-loop-part : goal.invariant-loop-part
invariant-loop-part l = l.names.items ≡ map (λ p. p.policy) (take l.part-index l.parts)
