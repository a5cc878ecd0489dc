use Rattle.std.proofs.Common.{◌≡◌, drop, map}
use Rattle.ac_lines.specs.CertificateText.{annotation_entry}
use Rattle.ac_certificate_writer.specs.Written.{written_of, with_entries}
use Rattle.ac_certificate_writer.proofs.certificate.write_annotations.Given as goal

abbrev pub invariant-loop-annotation : goal.invariant-loop-annotation
invariant-loop-annotation l = with_entries (written_of l.draft) (map (annotation_entry l.policy) (drop l.annotation-index l.annotations)) ≡ with_entries (written_of l.initial.draft) (map (annotation_entry l.policy) l.annotations)
