-- The cause of each outcome: when it may come of the bytes of a program and of a policy file.
use Rattle.std.specs.Prelude.{◌≡◌, ◌≢◌, ◌⊎◌, ℕ, List, [], Some, Err}
use Rattle.ac_tree.specs.declared.node.Node.{Node}
use Rattle.ac_tree.specs.declared.program.Program.{Program}
use Rattle.ac_tree.specs.StaticRules.{first_fault, faults, KeepsStaticRules}
use Rattle.ac_parse.specs.declared.parsing.ParseFault.TheVariants as parse_fault
use Rattle.ac_parse.specs.Parsing.{SpellsWithin, IsParseFault, PassesLimit}
use Rattle.ac_policy_table.specs.declared.fault.TableFault.TheVariants as table
use Rattle.ac_policy_table.specs.declared.policy_table.PolicyTable.{PolicyTable}
use Rattle.ac_policy_table.specs.PolicyFile.{file_says}
use Rattle.ac_verdict.specs.declared.count.Count.{Count}
use Rattle.ac_verdict.specs.declared.outcome.Outcome.{Outcome}
use Rattle.ac_verdict.specs.declared.outcome.Outcome.TheVariants.{Accepted, Rejected, Program as Refused, Limit, Policy, OutOfMemory}
use Rattle.ac_verdict.specs.declared.program_fault.ProgramFault.{ProgramFault}
use Rattle.ac_verdict.specs.declared.program_fault.ProgramFault.TheVariants.{NotUtf8, Token, Unexpected, Rule, NotSupported}
use Rattle.ac_verdict.specs.Policy.{HasTable, IsPolicyFault}
use Rattle.ac_verdict.specs.Sites.{counts, unproved}
use Rattle.ac_verdict.specs.Supported.{IsSupported, IsFirstUnsupported}

-- the bytes spell the program within the limits, it keeps the static rules, and it is supported
pub record HasVerdict (bytes : List ℕ) (p : Program) : Type 0 where
  pub within : SpellsWithin bytes p
  pub rules : KeepsStaticRules p
  pub supported : IsSupported p

-- why the program is refused
abbrev pub IsProgramFault : List ℕ → ProgramFault → Type 0
IsProgramFault bytes (NotUtf8 at) = IsParseFault bytes (parse_fault.NotUtf8 at)
IsProgramFault bytes (Token at) = IsParseFault bytes (parse_fault.Token at)
IsProgramFault bytes (Unexpected span) = IsParseFault bytes (parse_fault.Unexpected span)
IsProgramFault bytes (Rule fault) = (p : Program) × SpellsWithin bytes p × (first_fault (faults p) ≡ Some fault)
IsProgramFault bytes (NotSupported node) = (p : Program) × SpellsWithin bytes p × KeepsStaticRules p × IsFirstUnsupported p node

-- All conditions of the program under the selected policies are proved, and so many are there under each.
pub record IsAccepted (program policy : List ℕ) (ks : List Count) : Type 0 where
  pub tree : Program
  pub verdict : HasVerdict program tree
  pub table : PolicyTable
  pub selected : HasTable policy table
  pub counted : ks ≡ counts table.policies tree
  pub proved : unproved table.policies tree ≡ []

-- So many conditions are there under each policy, and those at these nodes, at least one, are unproved.
pub record IsRejected (program policy : List ℕ) (ks : List Count) (nodes : List Node) : Type 0 where
  pub tree : Program
  pub verdict : HasVerdict program tree
  pub table : PolicyTable
  pub selected : HasTable policy table
  pub counted : ks ≡ counts table.policies tree
  pub sites : nodes ≡ unproved table.policies tree
  pub some : nodes ≢ []

-- the bytes are of a program that has a verdict
abbrev pub IsSomeProgram : List ℕ → Type 0
IsSomeProgram bytes = (p : Program) × HasVerdict bytes p

-- the outcomes of a program that is refused, whatever the policy is
abbrev pub IsRefusal : List ℕ → Outcome → Type 0
IsRefusal program (Refused fault) = IsProgramFault program fault
IsRefusal program (Limit which value) = PassesLimit program which value
IsRefusal program OutOfMemory = Unit {0}
IsRefusal program _ = ⊥

-- the outcomes of all bytes; want of memory may come at any time
abbrev pub IsCause : (program policy : List ℕ) → Outcome → Type 0
IsCause program policy (Accepted ks) = IsAccepted program policy ks
IsCause program policy (Rejected ks nodes) = IsRejected program policy ks nodes
IsCause program policy (Refused fault) = IsProgramFault program fault
IsCause program policy (Limit which value) = PassesLimit program which value ⊎ (IsSomeProgram program × (file_says policy ≡ Err (table.Limit which value)))
IsCause program policy (Policy fault) = IsSomeProgram program × IsPolicyFault policy fault
IsCause program policy OutOfMemory = Unit {0}
