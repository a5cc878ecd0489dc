use Rattle.std.proofs.Common.{◌∙◌}
use Rattle.ac_lines.specs.CertificateText.{part_entries}
use Rattle.ac_certificate_writer.specs.Written.{written_of}
use Rattle.ac_certificate_writer.proofs.Entries.{one_more}
use Rattle.ac_certificate_writer.proofs.certificate.write_parts.Goals as goal

pub loop-part-preserved : goal.loop-part-preserved
loop-part-preserved c =
    one_more part_entries (written_of c.loop-part.draft) (written_of c.write_part.new.draft) c.args.parts.now c.loop-part.part-index c.part-item.result c.loop-part-test.true c.part-item.is c.in_ok-write_part.ensures
    ∙ c.loop-part.invariant
