-- What the law on labels and walks asks for, and what it says of a condition.
use Rattle.std.specs.Prelude.{◌≡◌, List, [], Option}
use Rattle.ac_tree.specs.declared.program.Program.{Program}
use Rattle.ac_tree.specs.Preorder.{IsNumbered}
use Rattle.ac_run.specs.Declarations.{NameBytes}
use Rattle.ac_flow.specs.Cuts.{cuts_of, has_place}
use Rattle.ac_flow.specs.Listed.{IsListed}
use Rattle.ac_walk.specs.Walks.{walk_of}
use Rattle.ac_logic.specs.declared.condition.Annotation.{Annotation}
use Rattle.ac_logic.specs.declared.condition.Condition.{Condition}
use Rattle.ac_logic.specs.declared.formula.Change.{Change}
use Rattle.ac_logic.specs.declared.formula.Formula.{Formula}
use Rattle.ac_logic.specs.declared.label.Label.{Label}
use Rattle.ac_logic.specs.Labels.{labels_of}
use Rattle.ac_policy.specs.declared.site.Site.{Site}
use Rattle.ac_policy.specs.Laws.{LawForm}
use Rattle.ac_conditions.specs.Part.{places_of}
use Rattle.ac_conditions.specs.Statements.{AreBehindStatements}

-- The nodes of the program are numbered in preorder, the formulas of the policy have the form that its laws ask, and the
-- annotations have no label, and those behind a node stand behind a statement.
pub record IsLabelledPlainly (p : Program) (need : Site → Option Formula) (effect : Site → List Change) (known : NameBytes → Option Formula) (annotations : List Annotation) : Type 0 where
  pub numbered : IsNumbered p
  pub form : LawForm need effect known
  pub behind : AreBehindStatements p (places_of annotations)
  pub unlabelled : (a : Annotation) → IsListed annotations a → labels_of a.formula ≡ []

-- each label stands at a node of the walk of the condition's pair
abbrev pub IsLabelledOnItsWalk : Program → List Annotation → Condition → Type 0
IsLabelledOnItsWalk p annotations c = (l : Label) → IsListed (labels_of c.formula) l → IsListed (walk_of p (cuts_of (has_place (places_of annotations)) p) c.pair) l.node
