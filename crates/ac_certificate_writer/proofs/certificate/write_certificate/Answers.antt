use Rattle.std.proofs.Common.{◌∙◌, ap}
use Rattle.ac_certificate_writer.specs.Written.{written_of}
use Rattle.ac_certificate_writer.proofs.Entries.{written_whole}
use Rattle.ac_certificate_writer.proofs.certificate.write_certificate.Goals as goal

pub returns : goal.returns
returns c =
    ap (λ v. v.items) c.into_bytes.ensures.value
    ∙ (c.in_ok-text.ensures
    ∙ written_whole c.args.certificate.now (written_of c.in_ok-draft.draft) (written_of c.write_parts.new.draft) c.as_slice.result.now c.in_ok-draft.ensures c.as_slice.ensures c.in_ok-write_parts.ensures)
