-- Single steps at a `Put`, whose four children are too many for a search.
use Rattle.std.proofs.Common.{◌≡◌, ◌∙◌, ℕ, Bool, IsTrue, ◌↔◌, List, Option}
use Rattle.ac_logic.specs.declared.formula.Change.{Change}
use Rattle.ac_logic.specs.declared.formula.Term.{Term}
use Rattle.ac_logic.specs.declared.formula.ArrayTerm.{ArrayTerm}
use Rattle.ac_logic.specs.declared.formula.Sym.{Sym}
use Rattle.ac_logic.specs.Patterns.{PutOf, ReadOf}
use Rattle.ac_logic.specs.Opened.{hidden, term_shape, term_child, array_shape, array_child}
use Rattle.ac_logic.specs.Answer.{renewed}
use Rattle.ac_logic.specs.Substitution.{term_after, array_after}
use Rattle.ac_logic.specs.Opening.{term_at, array_at}
use Rattle.ac_logic.specs.Absence.{IsAbsentInTerm, IsAbsentInArray}
use Rattle.ac_logic.specs.Readable.{HasGoodNamesInTerm, HasGoodNamesInArray}

pub put_after : (cs : List Change) (t a a2 : ArrayTerm) (i i2 j j2 v v2 : Term) (b : Option ArrayTerm) (k l u : Option Term) (new : Option ArrayTerm) → t ≡ PutOf a i j v → a2 ≡ a → i2 ≡ i → j2 ≡ j → v2 ≡ v → renewed a2 b ≡ array_after cs a2 → renewed i2 k ≡ term_after cs i2 → renewed j2 l ≡ term_after cs j2 → renewed v2 u ≡ term_after cs v2 → renewed (PutOf a i j v) new ≡ PutOf (renewed a b) (renewed i k) (renewed j l) (renewed v u) → renewed t new ≡ array_after cs t
unfolding hidden term_shape term_child array_shape array_child
put_after cs t a a2 i i2 j j2 v v2 b k l u new e p q r s pa qi rj sv h =
    let x : renewed a b ≡ array_after cs a = rw p at pa in
    let y : renewed i k ≡ term_after cs i = rw q at qi in
    let z : renewed j l ≡ term_after cs j = rw r at rj in
    let w : renewed v u ≡ term_after cs v = rw s at sv in
    rw e (h ∙ λ m. PutOf (x m) (y m) (z m) (w m))

pub put_at : (d : ℕ) (y : Term) (t a a2 : ArrayTerm) (i i2 j j2 v v2 : Term) (b : Option ArrayTerm) (k l u : Option Term) (new : Option ArrayTerm) → t ≡ PutOf a i j v → a2 ≡ a → i2 ≡ i → j2 ≡ j → v2 ≡ v → renewed a2 b ≡ array_at d y a2 → renewed i2 k ≡ term_at d y i2 → renewed j2 l ≡ term_at d y j2 → renewed v2 u ≡ term_at d y v2 → renewed (PutOf a i j v) new ≡ PutOf (renewed a b) (renewed i k) (renewed j l) (renewed v u) → renewed t new ≡ array_at d y t
unfolding hidden term_shape term_child array_shape array_child
put_at d y t a a2 i i2 j j2 v v2 b k l u new e p q r s pa qi rj sv h =
    let x1 : renewed a b ≡ array_at d y a = rw p at pa in
    let x2 : renewed i k ≡ term_at d y i = rw q at qi in
    let x3 : renewed j l ≡ term_at d y j = rw r at rj in
    let x4 : renewed v u ≡ term_at d y v = rw s at sv in
    rw e (h ∙ λ m. PutOf (x1 m) (x2 m) (x3 m) (x4 m))

pub read_at : (d : ℕ) (y t : Term) (a a2 : ArrayTerm) (i i2 j j2 : Term) (b : Option ArrayTerm) (k l : Option Term) (new : Option Term) → t ≡ ReadOf a i j → a2 ≡ a → i2 ≡ i → j2 ≡ j → renewed a2 b ≡ array_at d y a2 → renewed i2 k ≡ term_at d y i2 → renewed j2 l ≡ term_at d y j2 → renewed (ReadOf a i j) new ≡ ReadOf (renewed a b) (renewed i k) (renewed j l) → renewed t new ≡ term_at d y t
unfolding hidden term_shape term_child array_shape array_child
read_at d y t a a2 i i2 j j2 b k l new e p q r pa qi rj h =
    let x1 : renewed a b ≡ array_at d y a = rw p at pa in
    let x2 : renewed i k ≡ term_at d y i = rw q at qi in
    let x3 : renewed j l ≡ term_at d y j = rw r at rj in
    rw e (h ∙ λ m. ReadOf (x1 m) (x2 m) (x3 m))

pub put_absent : (x : Sym) (t a a2 : ArrayTerm) (i i2 j j2 v v2 : Term) (b : Bool) → t ≡ PutOf a i j v → a2 ≡ a → i2 ≡ i → j2 ≡ j → v2 ≡ v → IsAbsentInArray x a2 → IsAbsentInTerm x i2 → IsAbsentInTerm x j2 → IsTrue b ↔ IsAbsentInTerm x v2 → IsTrue b ↔ IsAbsentInArray x t
unfolding hidden term_shape term_child array_shape array_child
put_absent x t a a2 i i2 j j2 v v2 b e p q r s ca ci cj cv = rw e (λ y. (rw p at ca, rw q at ci, rw r at cj, (rw s at cv).0 y), λ h. (rw s at cv).1 h.3)

pub put_names : (t a a2 : ArrayTerm) (i i2 j j2 v v2 : Term) (b : Bool) → t ≡ PutOf a i j v → a2 ≡ a → i2 ≡ i → j2 ≡ j → v2 ≡ v → HasGoodNamesInArray a2 → HasGoodNamesInTerm i2 → HasGoodNamesInTerm j2 → IsTrue b ↔ HasGoodNamesInTerm v2 → IsTrue b ↔ HasGoodNamesInArray t
unfolding hidden term_shape term_child array_shape array_child
put_names t a a2 i i2 j j2 v v2 b e p q r s ca ci cj cv = rw e (λ y. (rw p at ca, rw q at ci, rw r at cj, (rw s at cv).0 y), λ h. (rw s at cv).1 h.3)
