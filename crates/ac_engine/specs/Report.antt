-- The report and the status of each answer.
use Rattle.std.specs.Prelude.{ℕ, List, codes}
use Rattle.ac_verdict.specs.Report.{report, line}
use Rattle.ac_verdict.specs.declared.outcome.Outcome.TheVariants.{Accepted, Rejected, Program, Limit, Policy, OutOfMemory}
use Rattle.ac_engine.specs.declared.answer.Answer.{Answer}
use Rattle.ac_engine.specs.declared.answer.Answer.TheVariants.{Usage, ReadFault, Judged}
use Rattle.ac_engine.specs.declared.status.Status.{Status}
use Rattle.ac_engine.specs.declared.status.Status.TheVariants as status

abbrev pub status_of : Answer → Status
status_of Usage = status.Usage
status_of ReadFault = status.ReadFault
status_of (Judged (Accepted ks)) = status.Accepted
status_of (Judged (Rejected ks unproved)) = status.Rejected
status_of (Judged (Program fault)) = status.Program
status_of (Judged (Limit which value)) = status.Limit
status_of (Judged (Policy fault)) = status.Policy
status_of (Judged OutOfMemory) = status.Memory

abbrev pub text_of : Answer → List ℕ
text_of Usage =
    line (codes "usage: certify PROGRAM POLICY CERT [--argument FILE] [--explain] | check PROGRAM POLICY CERT | show PROGRAM POLICY | make N")
text_of ReadFault = line (codes "read fault")
text_of (Judged outcome) = report outcome
