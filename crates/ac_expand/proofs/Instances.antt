-- One more instance is made.
use Rattle.std.proofs.Common.{◌≡◌, ℕ, ◌+◌, ◌<◌, List, ◌∷◌, drop, length, get_or, Option, Some, None, true, false, sym, ◌∙◌, ap}
use Rattle.std.specs.Prelude.{MatchOption}
use Rattle.std.proofs.lemmas.List.{drop_more}
use Rattle.ac_logic.specs.declared.formula.Term.{Term}
use Rattle.ac_logic.specs.declared.formula.Formula.{Formula}
use Rattle.ac_logic.specs.Patterns.{Conjunction}
use Rattle.ac_expand.specs.declared.names.Names.{Names}
use Rattle.ac_expand.specs.Ground.{Made, each, joined_to, made}
use Rattle.ac_expand.specs.Walked.{instance_at, joined_behind}
use Rattle.ac_expand.specs.Opened.{hidden, formula_shape, formula_child}

-- the rest at an index is the term there and the rest behind it
next : (ts : List Term) (i : ℕ) (x : Term) → i < length ts → x ≡ get_or ts i x → drop i ts ≡ x ∷ drop (i + 1) ts
next ts i x h e = drop_more ts i x h ∙ ap (λ t. t ∷ drop (i + 1) ts) (sym e)

joined_next : (before : Option Formula) (f g : Formula) (gs : List Formula) → MatchOption before (g ≡ f) (λ b. g ≡ Conjunction b f) → joined_behind before (f ∷ gs) ≡ joined_behind (Some g) gs
unfolding hidden formula_shape formula_child
joined_next None f g gs h = ap (λ a. joined_to a gs) (sym h)
joined_next (Some b) f g gs h = ap (λ a. joined_to a gs) (sym h)

pub formula_next : (make : Term → Names → Made) (ts : List Term) (i : ℕ) (x : Term) (before : Option Formula) (f g : Formula) (n m : Names) → i < length ts → x ≡ get_or ts i x → f ≡ (make x n).0 → m ≡ (make x n).1 → MatchOption before (g ≡ f) (λ b. g ≡ Conjunction b f) → joined_behind (Some g) (each make (drop (i + 1) ts) m).0 ≡ joined_behind before (each make (drop i ts) n).0
formula_next make ts i x before f g n m h e p q j =
    sym (ap (λ us. joined_behind before (each make us n).0) (next ts i x h e) ∙ (λ z. joined_behind before (sym p z ∷ (each make (drop (i + 1) ts) (sym q z)).0)) ∙ joined_next before f g _ j)

pub names_next : (make : Term → Names → Made) (ts : List Term) (i : ℕ) (x : Term) (n m : Names) → i < length ts → x ≡ get_or ts i x → m ≡ (make x n).1 → (each make (drop (i + 1) ts) m).1 ≡ (each make (drop i ts) n).1
names_next make ts i x n m h e q = sym (ap (λ us. (each make us n).1) (next ts i x h e) ∙ ap (λ k. (each make (drop (i + 1) ts) k).1) (sym q))

-- what is made at a copy of a term, under bound names that are the same
pub instance_formula : (ts d e : List Term) (b : Formula) (t x : Term) (f : Formula) (n : Names) → d ≡ e → t ≡ x → f ≡ (made ts false true (t ∷ d) b n).0 → f ≡ (instance_at ts e b x n).0
instance_formula ts d e b t x f n p q h = h ∙ λ z. (made ts false true (q z ∷ p z) b n).0

pub instance_names : (ts d e : List Term) (b : Formula) (t x : Term) (m n : Names) → d ≡ e → t ≡ x → m ≡ (made ts false true (t ∷ d) b n).1 → m ≡ (instance_at ts e b x n).1
instance_names ts d e b t x m n p q h = h ∙ λ z. (made ts false true (q z ∷ p z) b n).1
