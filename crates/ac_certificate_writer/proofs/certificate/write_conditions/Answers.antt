use Rattle.std.proofs.Common.{◌∙◌}
use Rattle.ac_lines.specs.CertificateText.{condition_entries}
use Rattle.ac_certificate_writer.specs.Written.{written_of}
use Rattle.ac_certificate_writer.proofs.Entries.{one_more}
use Rattle.ac_certificate_writer.proofs.certificate.write_conditions.Goals as goal

pub loop-proved-preserved : goal.loop-proved-preserved
loop-proved-preserved c =
    one_more condition_entries (written_of c.loop-proved.draft) (written_of c.write_condition.new.draft) c.args.conditions.now c.loop-proved.proved-index c.proved-item.result c.loop-proved-test.true c.proved-item.is c.in_ok-write_condition.ensures
    ∙ c.loop-proved.invariant
