-- The text of a certificate.
use Rattle.std.specs.Prelude.{ℕ, List, [], ◌∷◌, ◌++◌, map, length}
use Rattle.std.specs.List.{flat_map}
use Rattle.ac_tree.specs.declared.policy.PolicyName.{PolicyName}
use Rattle.ac_logic.specs.declared.formula.Formula.{Formula}
use Rattle.ac_logic.specs.declared.condition.Annotation.{Annotation}
use Rattle.ac_logic.specs.declared.condition.Condition.{Condition}
use Rattle.ac_formula_printer.specs.Printing.{text_of_formula, text_of_term}
use Rattle.ac_proof.specs.declared.rule.Rule.{Rule}
use Rattle.ac_proof.specs.declared.rule.Rule.TheVariants as rule
use Rattle.ac_proof.specs.declared.rule_name.RuleName.TheVariants as name
use Rattle.ac_proof.specs.declared.tree.ProofTree.{ProofTree, ProofTree', Row_of-ProofTree, end_of-ProofTree, more_of-ProofTree}
use Rattle.ac_proof.specs.declared.certificate.Certificate.{Certificate}
use Rattle.ac_proof.specs.declared.certificate.CertPart.{CertPart}
use Rattle.ac_proof.specs.declared.certificate.ProvedCondition.{ProvedCondition}
use Rattle.ac_proof.specs.Checked.{goals}
use Rattle.ac_lines.specs.declared.line.SpelledRule.{SpelledRule}
use Rattle.ac_lines.specs.declared.line.SpelledRule.TheVariants.{Hyp, AllIntro, AllElim, Linear, Plain}
use Rattle.ac_lines.specs.declared.line.Claim.TheVariants as claim
use Rattle.ac_lines.specs.declared.line.Line.{Line}
use Rattle.ac_lines.specs.declared.line.Line.TheVariants.{Header, End}
use Rattle.ac_lines.specs.Lines.{lines_text}
use Rattle.ac_lines.specs.Numbering.{Entry, numbered, conditions_among, steps_among}

abbrev pub spelled : Rule → SpelledRule
spelled (rule.Hyp n) = Hyp n
spelled rule.TrueIntro = Plain name.TrueIntro
spelled rule.FalseElim = Plain name.FalseElim
spelled rule.AndIntro = Plain name.AndIntro
spelled rule.AndLeft = Plain name.AndLeft
spelled rule.AndRight = Plain name.AndRight
spelled rule.OrLeft = Plain name.OrLeft
spelled rule.OrRight = Plain name.OrRight
spelled rule.OrElim = Plain name.OrElim
spelled rule.ImpliesIntro = Plain name.ImpliesIntro
spelled rule.ImpliesElim = Plain name.ImpliesElim
spelled rule.NotIntro = Plain name.NotIntro
spelled rule.NotElim = Plain name.NotElim
spelled rule.Classical = Plain name.Classical
spelled (rule.AllIntro k) = AllIntro k
spelled (rule.AllElim t) = AllElim (text_of_term 0 t)
spelled rule.LabIntro = Plain name.LabIntro
spelled rule.LabElim = Plain name.LabElim
spelled (rule.Linear fs) = Linear fs
spelled rule.EqLe = Plain name.EqLe
spelled rule.LeTotal = Plain name.LeTotal
spelled rule.EqSplit = Plain name.EqSplit
spelled rule.ReadPut = Plain name.ReadPut
spelled rule.ReadSame = Plain name.ReadSame

abbrev pub step_entry : Rule → Formula → ℕ → Entry
step_entry r g n = (claim.Step (spelled r) n, text_of_formula 0 g)

-- the steps of a proof in preorder, each with the number of its premises
abbrev mutual
  pub steps_of : ProofTree → List Entry
  steps_of (ProofTree' r g s row) = step_entry r g (length (goals row)) ∷ steps_of_premises row

  pub steps_of_premises : {m : _} → Row_of-ProofTree m → List Entry
  steps_of_premises end_of-ProofTree = []
  steps_of_premises (more_of-ProofTree t row) = steps_of t ++ steps_of_premises row

abbrev pub annotation_entry : PolicyName → Annotation → Entry
annotation_entry p a = (claim.Annotation p a.place, text_of_formula 0 a.formula)

abbrev pub condition_entry : Condition → Entry
condition_entry c = (claim.Condition c.policy c.pair, text_of_formula 0 c.formula)

-- a condition, and the steps of its proof behind it
abbrev pub condition_entries : ProvedCondition → List Entry
condition_entries c = condition_entry c.condition ∷ steps_of c.proof

-- for a policy its annotations, then its conditions
abbrev pub part_entries : CertPart → List Entry
part_entries p = map (annotation_entry p.policy) p.annotations ++ flat_map condition_entries p.conditions

abbrev pub entries_of : Certificate → List Entry
entries_of c = flat_map part_entries c.parts

abbrev pub policies_of : Certificate → List PolicyName
policies_of c = map (λ p. p.policy) c.parts

-- a header, the numbered entries, and an end
abbrev pub lines_of : Certificate → List Line
lines_of c = Header (policies_of c) ∷ numbered [] (entries_of c) ++ End (conditions_among (entries_of c)) (steps_among (entries_of c)) ∷ []

abbrev pub text_of_certificate : Certificate → List ℕ
text_of_certificate c = lines_text (lines_of c)
