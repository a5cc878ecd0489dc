-- A single step at a `Put`, whose four children are too many for a search.
use Rattle.std.proofs.Common.{◌≡◌, Bool, IsTrue, ◌↔◌, List}
use Rattle.ac_logic.specs.declared.formula.Term.{Term}
use Rattle.ac_logic.specs.declared.formula.ArrayTerm.{ArrayTerm}
use Rattle.ac_logic.specs.Patterns.{PutOf}
use Rattle.ac_tree.specs.Names.{NameBytes}
use Rattle.ac_pattern_keys.specs.Opened.{hidden, term_shape, term_child, array_shape, array_child}
use Rattle.ac_pattern_keys.specs.Annotations.{HasAllowedSymbolsInTerm, HasAllowedSymbolsInArray}

pub put_allowed : (m : List NameBytes) (sh : Bool) (t a a2 : ArrayTerm) (i i2 j j2 v v2 : Term) (b : Bool) → t ≡ PutOf a i j v → a2 ≡ a → i2 ≡ i → j2 ≡ j → v2 ≡ v → HasAllowedSymbolsInArray m sh a2 → HasAllowedSymbolsInTerm m sh i2 → HasAllowedSymbolsInTerm m sh j2 → IsTrue b ↔ HasAllowedSymbolsInTerm m sh v2 → IsTrue b ↔ HasAllowedSymbolsInArray m sh t
unfolding hidden term_shape term_child array_shape array_child
put_allowed m sh t a a2 i i2 j j2 v v2 b e p q r s ca ci cj cv = rw e (λ y. (rw p at ca, rw q at ci, rw r at cj, (rw s at cv).0 y), λ h. (rw s at cv).1 h.3)
