use Rattle.std.proofs.Common.{◌≡◌, ◌++◌, ◌∙◌, List, ℕ, ap, codes, map, rules, string_bytes}
use Rattle.std.specs.List.{flat_map}
use Rattle.ac_verdict.specs.Report.{report, lines_of, line, count_line, assumptions}
use Rattle.ac_verdict.proofs.Reports.{three_parts}
use Rattle.ac_verdict.proofs.report.accepted.Goals as goal

pub returns : goal.returns
unfolding report lines_of
returns c =
    let first : string_bytes c.in_ok-text.text ≡ line (codes "accepted") = search rules in
    three_parts (codes "accepted") (map count_line c.args.counts.now) (assumptions c.args.counts.now) _
    (c.in_ok-push_assumptions.ensures ∙ ap (λ (ts : List ℕ). ts ++ flat_map line (assumptions c.args.counts.now))
    (c.in_ok-push_counts.ensures ∙ ap (λ (ts : List ℕ). ts ++ flat_map line (map count_line c.args.counts.now)) first))
