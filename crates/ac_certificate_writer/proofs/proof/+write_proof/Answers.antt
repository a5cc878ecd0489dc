use Rattle.std.proofs.Common.{◌∙◌}
use Rattle.ac_proof.specs.declared.tree.ProofTree.{out-ProofTree}
use Rattle.ac_lines.specs.CertificateText.{steps_of}
use Rattle.ac_certificate_writer.specs.Written.{written_of}
use Rattle.ac_certificate_writer.proofs.Entries.{one_more, all_done}
use Rattle.ac_certificate_writer.proofs.Premises.{proof_written}
use Rattle.ac_certificate_writer.proofs.proof.+write_proof.Goals as goal

pub loop-premise-preserved : goal.loop-premise-preserved
loop-premise-preserved t c =
    one_more steps_of (written_of c.loop-premise.draft) (written_of c.write_proof.new.draft) c.as_slice-premise-items.result.now c.loop-premise.premise-index c.premise-item.result c.loop-premise-test.true c.premise-item.is c.in_ok-write_proof.ensures
    ∙ c.loop-premise.invariant

pub returns : goal.returns
returns t c =
    proof_written c.args.proof.now (written_of c.args.draft.now) (written_of c.write_step.new.draft) (written_of c.loop-premise.draft) c.in_ok-write_step.ensures
    (all_done steps_of (written_of c.write_step.new.draft) (written_of c.loop-premise.draft) c.as_slice-premise-items.result.now (out-ProofTree c.args.proof.now).premises c.loop-premise.premise-index c.loop-premise-test.false c.as_slice-premise-items.ensures c.loop-premise.invariant)
