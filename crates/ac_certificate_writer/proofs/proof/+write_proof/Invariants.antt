use Rattle.std.proofs.Common.{◌≡◌, drop}
use Rattle.std.specs.List.{flat_map}
use Rattle.ac_lines.specs.CertificateText.{steps_of}
use Rattle.ac_certificate_writer.specs.Written.{written_of, with_entries}
use Rattle.ac_certificate_writer.proofs.proof.+write_proof.Given as goal

abbrev pub invariant-loop-premise : goal.invariant-loop-premise
invariant-loop-premise l = with_entries (written_of l.draft) (flat_map steps_of (drop l.premise-index l.premise-items)) ≡ with_entries (written_of l.initial.draft) (flat_map steps_of l.premise-items)
