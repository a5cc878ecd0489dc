-- The table of limits: what is counted, the greatest count that is allowed, and its word in a report.
use Rattle.std.specs.Prelude.{ℕ, List, codes}
use Rattle.ac_tree.specs.declared.limit.LimitKind.{LimitKind}
use Rattle.ac_tree.specs.declared.limit.LimitKind.TheVariants as kind

abbrev pub limit_of : LimitKind → ℕ
limit_of kind.ProgramBytes = 1048576
limit_of kind.PolicyBytes = 262144
limit_of kind.CertificateBytes = 134217728
limit_of kind.Literal = 1000000000000
limit_of kind.NameLength = 32
limit_of kind.Nesting = 64
limit_of kind.Operators = 256
limit_of kind.Nodes = 50000
limit_of kind.Patterns = 64
limit_of kind.Conditions = 20000
limit_of kind.Size = 200000
limit_of kind.Total = 20000000
limit_of kind.Depth = 1024
limit_of kind.Instances = 4096
limit_of kind.Coefficient = 4611686018427387904
limit_of kind.Make = 200

abbrev pub limit_word : LimitKind → List ℕ
limit_word kind.ProgramBytes = codes "program"
limit_word kind.PolicyBytes = codes "policy"
limit_word kind.CertificateBytes = codes "certificate"
limit_word kind.Literal = codes "literal"
limit_word kind.NameLength = codes "name"
limit_word kind.Nesting = codes "nesting"
limit_word kind.Operators = codes "operators"
limit_word kind.Nodes = codes "nodes"
limit_word kind.Patterns = codes "patterns"
limit_word kind.Conditions = codes "conditions"
limit_word kind.Size = codes "size"
limit_word kind.Total = codes "total"
limit_word kind.Depth = codes "depth"
limit_word kind.Instances = codes "instances"
limit_word kind.Coefficient = codes "coefficient"
limit_word kind.Make = codes "make"
