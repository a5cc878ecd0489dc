-- No line has a float.
use Rattle.std.proofs.Common.{◌≡◌, ℕ, false, List, [], ◌∷◌, refl}
use Rattle.serde_json.specs.Written.{has_float, items_have_float}
use Rattle.ac_tree.specs.declared.policy.PolicyName.{PolicyName}
use Rattle.ac_lines.specs.declared.line.SpelledRule.{SpelledRule}
use Rattle.ac_lines.specs.declared.line.SpelledRule.TheVariants.{Hyp, AllIntro, AllElim, Linear, Plain}
use Rattle.ac_lines.specs.declared.line.Claim.TheVariants.{Annotation, Condition, Step}
use Rattle.ac_lines.specs.declared.line.Line.{Line}
use Rattle.ac_lines.specs.declared.line.Line.TheVariants.{Header, Formula, Cites, End}
use Rattle.ac_lines.specs.Lines.{numbers, words, fields, line_data}

in_numbers : (ns : List ℕ) → items_have_float (numbers ns) ≡ false
in_numbers [] = refl
in_numbers (n ∷ ns) = in_numbers ns

in_words : (ps : List PolicyName) → items_have_float (words ps) ≡ false
in_words [] = refl
in_words (p ∷ ps) = in_words ps

in_fields : (r : SpelledRule) → items_have_float (fields r) ≡ false
in_fields (Hyp n) = refl
in_fields (AllIntro k) = refl
in_fields (AllElim t) = refl
in_fields (Linear fs) = in_numbers fs
in_fields (Plain n) = refl

pub no_float : (l : Line) → has_float (line_data l) ≡ false
no_float (Header ps) = rw (in_words ps) refl
no_float (Formula t) = refl
no_float (Cites (Annotation p at) f) = refl
no_float (Cites (Condition p pair) f) = refl
no_float (Cites (Step r n) f) = rw (in_fields r) refl
no_float (End conditions steps) = refl
