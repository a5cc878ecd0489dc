-- The names of the rules in texts of proofs.
use Rattle.std.specs.Prelude.{ℕ, List, [], ◌∷◌, Option, Some, None, codes, find, bytes_eq}
use Rattle.ac_proof.specs.declared.rule.Rule.{Rule}
use Rattle.ac_proof.specs.declared.rule.Rule.TheVariants as rule
use Rattle.ac_proof.specs.declared.rule_name.RuleName.{RuleName}
use Rattle.ac_proof.specs.declared.rule_name.RuleName.TheVariants as name

abbrev pub rule_text : RuleName → List ℕ
rule_text name.Hyp = codes "hyp"
rule_text name.TrueIntro = codes "true-intro"
rule_text name.FalseElim = codes "false-elim"
rule_text name.AndIntro = codes "and-intro"
rule_text name.AndLeft = codes "and-left"
rule_text name.AndRight = codes "and-right"
rule_text name.OrLeft = codes "or-left"
rule_text name.OrRight = codes "or-right"
rule_text name.OrElim = codes "or-elim"
rule_text name.ImpliesIntro = codes "implies-intro"
rule_text name.ImpliesElim = codes "implies-elim"
rule_text name.NotIntro = codes "not-intro"
rule_text name.NotElim = codes "not-elim"
rule_text name.Classical = codes "classical"
rule_text name.AllIntro = codes "all-intro"
rule_text name.AllElim = codes "all-elim"
rule_text name.LabIntro = codes "lab-intro"
rule_text name.LabElim = codes "lab-elim"
rule_text name.Linear = codes "linear"
rule_text name.EqLe = codes "eq-le"
rule_text name.LeTotal = codes "le-total"
rule_text name.EqSplit = codes "eq-split"
rule_text name.ReadPut = codes "read-put"
rule_text name.ReadSame = codes "read-same"

abbrev pub rule_names : List RuleName
rule_names =
    name.Hyp ∷ name.TrueIntro ∷ name.FalseElim ∷ name.AndIntro ∷ name.AndLeft ∷ name.AndRight ∷ name.OrLeft ∷ name.OrRight ∷
    name.OrElim ∷ name.ImpliesIntro ∷ name.ImpliesElim ∷ name.NotIntro ∷ name.NotElim ∷ name.Classical ∷ name.AllIntro ∷ name.AllElim ∷
    name.LabIntro ∷ name.LabElim ∷ name.Linear ∷ name.EqLe ∷ name.LeTotal ∷ name.EqSplit ∷ name.ReadPut ∷ name.ReadSame ∷ []

-- the rule with this name, if there is one
unfoldable pub rule_name_of : List ℕ → Option RuleName
rule_name_of word = find (λ n. bytes_eq (rule_text n) word) rule_names

-- the rules that have no fields
abbrev pub plain_rule : RuleName → Option Rule
plain_rule name.Hyp = None
plain_rule name.TrueIntro = Some rule.TrueIntro
plain_rule name.FalseElim = Some rule.FalseElim
plain_rule name.AndIntro = Some rule.AndIntro
plain_rule name.AndLeft = Some rule.AndLeft
plain_rule name.AndRight = Some rule.AndRight
plain_rule name.OrLeft = Some rule.OrLeft
plain_rule name.OrRight = Some rule.OrRight
plain_rule name.OrElim = Some rule.OrElim
plain_rule name.ImpliesIntro = Some rule.ImpliesIntro
plain_rule name.ImpliesElim = Some rule.ImpliesElim
plain_rule name.NotIntro = Some rule.NotIntro
plain_rule name.NotElim = Some rule.NotElim
plain_rule name.Classical = Some rule.Classical
plain_rule name.AllIntro = None
plain_rule name.AllElim = None
plain_rule name.LabIntro = Some rule.LabIntro
plain_rule name.LabElim = Some rule.LabElim
plain_rule name.Linear = None
plain_rule name.EqLe = Some rule.EqLe
plain_rule name.LeTotal = Some rule.LeTotal
plain_rule name.EqSplit = Some rule.EqSplit
plain_rule name.ReadPut = Some rule.ReadPut
plain_rule name.ReadSame = Some rule.ReadSame
