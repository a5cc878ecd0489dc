-- The print of each unit of a form is the one that its unit has.
use Rattle.std.proofs.Common.{◌≡◌, List, [], ◌∷◌, map, Some, refl, sym, ◌∙◌, ap}
use Rattle.ac_logic.specs.declared.formula.Term.{Term}
use Rattle.ac_formula_printer.specs.Printing.{text_of_term}
use Rattle.ac_linear.specs.declared.entry.Entry.{Entry}
use Rattle.ac_linear.specs.declared.entry.Form.{Form}
use Rattle.ac_linear.specs.declared.linear.Linear.{Linear}
use Rattle.ac_linear.specs.declared.linear.Part.{Part}
use Rattle.ac_linear.specs.NormalForm.{part_of, form_of, linear_of}
use Rattle.ac_linear.specs.Combination.{entry_of_part, form_of_linear}
use Rattle.ac_linear.proofs.Values.{said}
use Rattle.ac_linear.proofs.Ordered.{AllMade, FormKept, kept_made, form_kept}

made_again : (ps : List Entry) → AllMade ps → ps ≡ map entry_of_part (map part_of ps)
made_again [] m = refl
made_again (p ∷ ps) m = λ i. record p { print = m.0 i } ∷ made_again ps m.1 i

pub normal_printed : (t : Term) (x : Form) → Some x ≡ form_of t → x ≡ form_of_linear (linear_of x)
normal_printed t x e =
    let m : AllMade x.entries = kept_made x.entries (said (form_of t) x FormKept (sym e) (form_kept t)) in
    λ i. record x { entries = made_again x.entries m i }

parts_again : (ps : List Part) → map part_of (map entry_of_part ps) ≡ ps
parts_again [] = refl
parts_again (p ∷ ps) = λ i. p ∷ parts_again ps i

pub linear_again : (l : Linear) → linear_of (form_of_linear l) ≡ l
linear_again l = λ i. record l { parts = parts_again l.parts i }

pub linear_printed : (l : Linear) → form_of_linear l ≡ form_of_linear (linear_of (form_of_linear l))
linear_printed l = ap form_of_linear (sym (linear_again l))
