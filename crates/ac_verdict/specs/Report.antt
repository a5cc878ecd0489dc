-- What is reported of each outcome.
use Rattle.std.specs.Prelude.{ℕ, zero, suc, List, [], ◌∷◌, ◌++◌, map, codes, Bool, true, false}
use Rattle.std.specs.List.{flat_map, list_any}
use Rattle.std.specs.Fmt.{decimal}
use Rattle.ac_tree.specs.Limits.{limit_word}
use Rattle.ac_tree.specs.declared.node.Node.{Node}
use Rattle.ac_tree.specs.declared.node.Span.{Span}
use Rattle.ac_tree.specs.declared.policy.PolicyName.{PolicyName}
use Rattle.ac_tree.specs.declared.policy.PolicyName.TheVariants.{Init, Bounds, Symm}
use Rattle.ac_policy_table.specs.Keys.{policy_key_text, pattern_key_text}
use Rattle.ac_verdict.specs.declared.count.Count.{Count}
use Rattle.ac_verdict.specs.declared.outcome.Outcome.{Outcome}
use Rattle.ac_verdict.specs.declared.outcome.Outcome.TheVariants.{Accepted, Rejected, Program, Limit, Policy, OutOfMemory}
use Rattle.ac_verdict.specs.declared.policy_fault.PatternFault.{PatternFault}
use Rattle.ac_verdict.specs.declared.policy_fault.PatternFault.TheVariants as pattern
use Rattle.ac_verdict.specs.declared.policy_fault.PolicyFault.{PolicyFault}
use Rattle.ac_verdict.specs.declared.policy_fault.PolicyFault.TheVariants as policy
use Rattle.ac_verdict.specs.declared.program_fault.ProgramFault.{ProgramFault}
use Rattle.ac_verdict.specs.declared.program_fault.ProgramFault.TheVariants.{NotUtf8, Token, Unexpected, Rule, NotSupported}

abbrev pub span_text : Span → List ℕ
span_text s = decimal s.start ++ (codes ".." ++ decimal s.end)

-- the line of an unproved condition, that of the write at this node
abbrev pub unproved_line : Node → List ℕ
unproved_line n = codes "unproved bounds start -> site " ++ (decimal n.id.0 ++ (codes " at " ++ span_text n.span))

abbrev pub fault_text : ProgramFault → List ℕ
fault_text (NotUtf8 at) = codes "not UTF-8 at " ++ decimal at
fault_text (Token at) = codes "token at " ++ decimal at
fault_text (Unexpected span) = codes "unexpected at " ++ span_text span
fault_text (Rule fault) = codes "rule S" ++ (decimal fault.rule ++ (codes " at node " ++ decimal fault.node.0))
fault_text (NotSupported node) = codes "not built at node " ++ decimal node.0

abbrev pub pattern_fault_text : PatternFault → List ℕ
pattern_fault_text (pattern.UnknownKey key) = codes "unknown key " ++ key
pattern_fault_text (pattern.MissingKey key) = codes "missing key " ++ pattern_key_text key
pattern_fault_text (pattern.BadValue key) = codes "bad value " ++ pattern_key_text key
pattern_fault_text pattern.NotSupported = codes "not built"

abbrev pub policy_fault_text : PolicyFault → List ℕ
policy_fault_text policy.NotToml = codes "not TOML"
policy_fault_text (policy.UnknownKey key) = codes "unknown key " ++ key
policy_fault_text (policy.MissingKey key) = codes "missing key " ++ policy_key_text key
policy_fault_text (policy.BadValue key) = codes "bad value " ++ policy_key_text key
policy_fault_text (policy.FirstPattern fault) = codes "pattern 1: " ++ pattern_fault_text fault

abbrev pub policy_word : PolicyName → List ℕ
policy_word Init = codes "init"
policy_word Bounds = codes "bounds"
policy_word Symm = codes "symm"

-- how many of so many conditions are unproved
abbrev pub count_text : (unproved conditions : ℕ) → List ℕ
count_text zero k = decimal k ++ codes " conditions proved"
count_text (suc u) k = decimal (suc u) ++ (codes " of " ++ (decimal k ++ codes " conditions unproved"))

abbrev pub count_line : Count → List ℕ
count_line c = policy_word c.policy ++ (codes ": " ++ count_text c.unproved c.conditions)

abbrev pub is_bounds : PolicyName → Bool
is_bounds Bounds = true
is_bounds _ = false

abbrev pub inputs_in_ranges : List ℕ
inputs_in_ranges = codes "assumption: inputs lie in their declared ranges"

abbrev pub no_bound : List ℕ
no_bound = codes "assumption: whole numbers have no bound"

-- where bounds is selected no run comes to such an access
abbrev pub end_of_run : (has_bounds : Bool) → List (List ℕ)
end_of_run true = []
end_of_run false = codes "assumption: a run ends at its first access outside an array" ∷ []

abbrev pub assumptions : List Count → List (List ℕ)
assumptions ks = inputs_in_ranges ∷ no_bound ∷ end_of_run (list_any (λ k. is_bounds k.policy) ks)

unfoldable pub lines_of : Outcome → List (List ℕ)
lines_of (Accepted ks) = codes "accepted" ∷ (map count_line ks ++ assumptions ks)
lines_of (Rejected ks nodes) = codes "rejected" ∷ (map count_line ks ++ map unproved_line nodes)
lines_of (Program fault) = (codes "program: " ++ fault_text fault) ∷ []
lines_of (Limit which value) = (codes "limit: " ++ (limit_word which ++ (codes " " ++ decimal value))) ∷ []
lines_of (Policy fault) = (codes "policy: " ++ policy_fault_text fault) ∷ []
lines_of OutOfMemory = []

-- each line ends with a line feed
abbrev pub line : List ℕ → List ℕ
line text = text ++ 10 ∷ []

unfoldable pub report : Outcome → List ℕ
report o = flat_map line (lines_of o)
