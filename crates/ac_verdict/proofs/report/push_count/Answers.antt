use Rattle.std.proofs.Common.{◌≡◌, ◌++◌, List, ℕ, subst, string_bytes}
use Rattle.std.specs.Prelude.{OnOk}
use Rattle.ac_verdict.specs.Report.{line}
use Rattle.ac_verdict.proofs.Reports.{proved_line, unproved_count_line}
use Rattle.ac_verdict.proofs.report.push_count.Goals as goal

pub returns-then-unproved-eq0 : goal.returns-then-unproved-eq0
returns-then-unproved-eq0 c =
    subst (λ (t : List ℕ). OnOk c.push_proved.result (string_bytes c.push_proved.new.text ≡ string_bytes c.args.text.now ++ line t))
    (proved_line c.args.count c.policy_word-word.result.now c.policy_word-word.ensures c.if-unproved-eq0.true) c.push_proved.ensures

pub returns-else-unproved-eq0 : goal.returns-else-unproved-eq0
returns-else-unproved-eq0 c =
    subst (λ (t : List ℕ). OnOk c.push_some_unproved.result (string_bytes c.push_some_unproved.new.text ≡ string_bytes c.args.text.now ++ line t))
    (unproved_count_line c.args.count c.policy_word-word.result.now c.policy_word-word.ensures c.if-unproved-eq0.false) c.push_some_unproved.ensures
