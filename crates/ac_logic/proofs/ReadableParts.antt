-- A part of a readable formula is readable under the `all` around it.
use Rattle.std.proofs.Common.{ℕ, ◌+◌}
use Rattle.ac_logic.specs.declared.formula.Formula.{Formula}
use Rattle.ac_logic.specs.Opened.{hidden, formula_shape, formula_child}
use Rattle.ac_logic.specs.Readable.{IsReadableIn}
use Rattle.ac_logic.specs.Parts.{IsPart, itself, negated, left_of_and, right_of_and, left_of_or, right_of_or, premise, conclusion, body, labelled}

pub part_readable : {d e : ℕ} {f g : Formula} → IsPart d f e g → IsReadableIn d f → IsReadableIn e g
unfolding hidden formula_shape formula_child
part_readable itself h = h
part_readable (negated p) h = part_readable p h
part_readable (left_of_and k p) h = part_readable p (h.0.0, h.1.0)
part_readable (right_of_and k p) h = part_readable p (h.0.1, h.1.1)
part_readable (left_of_or k p) h = part_readable p (h.0.0, h.1.0)
part_readable (right_of_or k p) h = part_readable p (h.0.1, h.1.1)
part_readable (premise k p) h = part_readable p (h.0.0, h.1.0)
part_readable (conclusion k p) h = part_readable p (h.0.1, h.1.1)
part_readable (body p) h = part_readable p h
part_readable (labelled l p) h = part_readable p h
