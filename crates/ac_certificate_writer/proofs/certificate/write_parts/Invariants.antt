use Rattle.std.proofs.Common.{◌≡◌, drop}
use Rattle.std.specs.List.{flat_map}
use Rattle.ac_lines.specs.CertificateText.{part_entries}
use Rattle.ac_certificate_writer.specs.Written.{written_of, with_entries}
use Rattle.ac_certificate_writer.proofs.certificate.write_parts.Given as goal

abbrev pub invariant-loop-part : goal.invariant-loop-part
invariant-loop-part l = with_entries (written_of l.draft) (flat_map part_entries (drop l.part-index l.parts)) ≡ with_entries (written_of l.initial.draft) (flat_map part_entries l.parts)
