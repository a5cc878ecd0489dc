use Rattle.std.proofs.Common.{◌≡◌, drop}
use Rattle.std.specs.List.{flat_map}
use Rattle.ac_lines.specs.CertificateText.{condition_entries}
use Rattle.ac_certificate_writer.specs.Written.{written_of, with_entries}
use Rattle.ac_certificate_writer.proofs.certificate.write_conditions.Given as goal

abbrev pub invariant-loop-proved : goal.invariant-loop-proved
invariant-loop-proved l = with_entries (written_of l.draft) (flat_map condition_entries (drop l.proved-index l.conditions)) ≡ with_entries (written_of l.initial.draft) (flat_map condition_entries l.conditions)
