-- The steps of plans that no rule has.
use Rattle.std.proofs.Common.{◌≡◌, ℕ, List, [], ◌∷◌, ◌++◌, length, refl, sym, ap, subst, ◌∙◌, append-nil}
use Rattle.std.proofs.lemmas.List.{append_assoc}
use Rattle.ac_logic.specs.declared.formula.Term.{Term}
use Rattle.ac_logic.specs.declared.formula.Formula.{Formula, False, Le, Eq}
use Rattle.ac_logic.specs.declared.formula.Formula.TheVariants.{Not, Implies}
use Rattle.ac_logic.specs.Readable.{IsReadableTerm}
use Rattle.ac_proof.specs.declared.tree.ProofTree.{ProofTree, out-ProofTree}
use Rattle.ac_proof.specs.Rules.{in_order, equal_or_apart}
use Rattle.ac_proof.proofs.Trees.{goal-out}
use Rattle.ac_steps.specs.declared.plan.Way.TheVariants.{FromDenial, Between, ByOrder, ByEquality, Lemma}
use Rattle.ac_steps.specs.Ways.{apart, below, shown_first}
use Rattle.ac_steps.specs.Proofs.{IsProof, AreProofs, IsBuilt}
use Rattle.ac_steps.specs.Steps.{IsHypothesisAt, IsSplit, IsAbsurdity, IsClash, IsByCases, IsSupposing, IsApplied}
use Rattle.ac_steps.proofs.Readable.{at_most_readable, below_readable, apart_readable, denied_terms, equal_terms}
use Rattle.ac_steps.proofs.Made.{proof_readable}
use Rattle.ac_steps.proofs.RuleSteps.{get_next}

-- the proofs of premises that are known one by one
known : (hs : List Formula) (cs : List (List Formula)) (ps qs : List Formula) (ts us : List ProofTree) → ps ≡ qs → ts ≡ us → AreProofs hs cs ps ts → AreProofs hs cs qs us
known hs cs ps qs ts us e m a = subst (λ x. AreProofs hs cs x us) e (subst (λ x. AreProofs hs cs ps x) m a)

bare : (hs : List Formula) (f : Formula) (t : ProofTree) → IsProof (hs ++ []) f t → IsProof hs f t
bare hs f t p = subst (λ x. IsProof x f t) (append-nil hs) p

pub by_order : (u v : Term) (g : Formula) (trees : List ProofTree) (p q e tree : ProofTree) → trees ≡ p ∷ q ∷ [] → IsSplit u v (in_order u v) e → IsByCases g e p q tree → (place : ℕ) → IsBuilt place (ByOrder u v) g trees tree
by_order u v g trees p q e tree m split cases place hs ps l planned a =
    let b = known hs ((Le u v ∷ []) ∷ (below v u ∷ []) ∷ []) ps (g ∷ g ∷ []) trees (p ∷ q ∷ []) planned.3 m a in
    cases hs (Le u v) (below v u) (split hs planned.1.0 planned.1.1) b.0 b.1.0

pub from_denial : (u v : Term) (place : ℕ) (trees : List ProofTree) (p c f h e tree : ProofTree) → trees ≡ p ∷ []
    → ((hs : List Formula) → length hs ≡ place → IsProof (hs ++ Le u v ∷ []) (Not (Le u v)) p → IsProof (hs ++ Le u v ∷ []) False c)
    → IsAbsurdity (below v u) c f → IsHypothesisAt place (below v u) h → IsSplit u v (in_order u v) e → IsByCases (below v u) e f h tree → IsBuilt place (FromDenial u v) (below v u) trees tree
from_denial u v place trees p c f h e tree m contradicted absurdity hypothesis split cases hs ps l planned a =
    let b = known hs ((Le u v ∷ []) ∷ []) ps (Not (Le u v) ∷ []) trees (p ∷ []) planned.3.1 m a in
    let r : IsReadableTerm u × IsReadableTerm v = denied_terms u v (proof_readable (hs ++ Le u v ∷ []) (Not (Le u v)) p b.0) in
    cases hs (Le u v) (below v u) (split hs r.0 r.1)
    (absurdity (hs ++ Le u v ∷ []) (below_readable v u r.1 r.0) (contradicted hs l b.0))
    (hypothesis (hs ++ below v u ∷ []) (get_next hs (below v u) place l) (below_readable v u r.1 r.0))

pub contradicted : (u v : Term) (place : ℕ) (p h c : ProofTree) → IsHypothesisAt place (Le u v) h → IsClash p h c → (hs : List Formula) → length hs ≡ place → IsProof (hs ++ Le u v ∷ []) (Not (Le u v)) p → IsProof (hs ++ Le u v ∷ []) False c
contradicted u v place p h c hypothesis clash hs l x =
    let r : IsReadableTerm u × IsReadableTerm v = denied_terms u v (proof_readable (hs ++ Le u v ∷ []) (Not (Le u v)) p x) in
    clash (hs ++ Le u v ∷ []) (Le u v) x (hypothesis (hs ++ Le u v ∷ []) (get_next hs (Le u v) place l) (at_most_readable u v r.0 r.1))

-- the two cases of unequal terms, where their disjunction is the next hypothesis
unequal : (u v : Term) (g : Formula) (place : ℕ) (hs : List Formula) (h p q tree : ProofTree) → length hs ≡ place → IsReadableTerm u → IsReadableTerm v → IsHypothesisAt place (apart u v) h → IsByCases g h p q tree → IsProof (hs ++ (apart u v ∷ below u v ∷ [])) g p → IsProof (hs ++ (apart u v ∷ below v u ∷ [])) g q → IsProof (hs ++ apart u v ∷ []) g tree
unequal u v g place hs h p q tree l a b hypothesis cases x y =
    cases (hs ++ apart u v ∷ []) (below u v) (below v u)
    (hypothesis (hs ++ apart u v ∷ []) (get_next hs (apart u v) place l) (apart_readable u v a b))
    (subst (λ gs. IsProof gs g p) (sym (append_assoc hs (apart u v ∷ []) (below u v ∷ []))) x)
    (subst (λ gs. IsProof gs g q) (sym (append_assoc hs (apart u v ∷ []) (below v u ∷ []))) y)

pub by_equality : (u v : Term) (g : Formula) (place : ℕ) (trees : List ProofTree) (p q r h s e tree : ProofTree) → trees ≡ p ∷ q ∷ r ∷ [] → IsHypothesisAt place (apart u v) h → IsByCases g h q r s → IsSplit u v (equal_or_apart u v) e → IsByCases g e p s tree → IsBuilt place (ByEquality u v) g trees tree
by_equality u v g place trees p q r h s e tree m hypothesis inner split cases hs ps l planned a =
    let b = known hs ((Eq u v ∷ []) ∷ (apart u v ∷ below u v ∷ []) ∷ (apart u v ∷ below v u ∷ []) ∷ []) ps (g ∷ g ∷ g ∷ []) trees (p ∷ q ∷ r ∷ []) planned.3 m a in
    cases hs (Eq u v) (apart u v) (split hs planned.1.0 planned.1.1) b.0
    (unequal u v g place hs h q r s l planned.1.0 planned.1.1 hypothesis inner b.1.0 b.1.1.0)

pub between : (u v : Term) (place : ℕ) (trees : List ProofTree) (p q h c r k e tree : ProofTree) → trees ≡ p ∷ q ∷ [] → IsHypothesisAt place (apart u v) h → IsByCases False h p q c → IsAbsurdity (Eq u v) c r → IsHypothesisAt place (Eq u v) k → IsSplit u v (equal_or_apart u v) e → IsByCases (Eq u v) e k r tree → IsBuilt place (Between u v) (Eq u v) trees tree
between u v place trees p q h c r k e tree m hypothesis inner absurdity same split cases hs ps l planned a =
    let b = known hs ((apart u v ∷ below u v ∷ []) ∷ (apart u v ∷ below v u ∷ []) ∷ []) ps (False ∷ False ∷ []) trees (p ∷ q ∷ []) planned.3.1 m a in
    let t : IsReadableTerm u × IsReadableTerm v = equal_terms u v planned.0 in
    cases hs (Eq u v) (apart u v) (split hs t.0 t.1)
    (same (hs ++ Eq u v ∷ []) (get_next hs (Eq u v) place l) planned.0)
    (absurdity (hs ++ apart u v ∷ []) planned.0 (unequal u v False place hs h p q c l t.0 t.1 hypothesis inner b.0 b.1.0))

pub by_lemma : (g f x : Formula) (trees : List ProofTree) (p q s tree : ProofTree) → trees ≡ p ∷ q ∷ [] → x ≡ (out-ProofTree p).goal → f ≡ Implies x g → IsSupposing f q s → IsApplied g s p tree → (place : ℕ) → IsBuilt place Lemma g trees tree
by_lemma g f x trees p q s tree m shown implication supposing applied place hs ps l planned a =
    let y : Formula = planned.3.0 in
    let b = known hs ([] ∷ (y ∷ []) ∷ []) (y ∷ g ∷ []) (y ∷ g ∷ []) trees (p ∷ q ∷ []) refl m (subst (λ z. AreProofs hs (shown_first z) z trees) planned.3.1 a) in
    let first : IsProof hs y p = bare hs y p b.0 in
    let e : x ≡ y = shown ∙ (goal-out p ∙ first.goal) in
    let i : f ≡ Implies y g = implication ∙ ap (λ z. Implies z g) e in
    applied hs y (subst (λ z. IsProof hs z s) i (supposing hs y g i (proof_readable hs y p first) b.1.0)) first
