-- The last step of a plan becomes a proof: by its rule, or by the steps that it stands for.
use Rattle.std.proofs.Common.{◌≡◌, ℕ, suc, ◌+◌, List, [], ◌∷◌, ◌++◌, length, Option, Some, None, slice_get, true, false, nat_lt, refl, sym, ap, subst, ◌∙◌, arith, length-append}
use Rattle.std.proofs.lemmas.Bool.Decides.{nat_tests}
use Rattle.ac_logic.specs.declared.formula.Term.{Term}
use Rattle.ac_logic.specs.declared.formula.Formula.{Formula}
use Rattle.ac_proof.specs.declared.rule.Rule.{Rule}
use Rattle.ac_proof.specs.declared.rule.Rule.TheVariants.{AllIntro, AllElim, Linear}
use Rattle.ac_proof.specs.declared.rule_name.RuleName.{RuleName}
use Rattle.ac_proof.specs.declared.rule_name.RuleName.TheVariants as name
use Rattle.ac_proof.specs.declared.tree.ProofTree.{ProofTree}
use Rattle.ac_proof.specs.Checked.{HasReadableTerm, later}
use Rattle.ac_proof.specs.RuleNames.{plain_rule}
use Rattle.ac_proof.specs.Rules.{IsInstance, contexts}
use Rattle.ac_steps.specs.declared.plan.Way.{Way}
use Rattle.ac_steps.specs.declared.plan.Way.TheVariants.{Hypothesis, Plain, Instance, NewName, Combination, FromDenial, Between, ByOrder, ByEquality, Lemma}
use Rattle.ac_steps.specs.declared.plan.Plan.{Plan, out-Plan}
use Rattle.ac_steps.specs.Ways.{rule_by, IsInstanceBy, Gives, contexts_by_rule, contexts_of, HasReadableTerms}
use Rattle.ac_steps.specs.Plans.{IsPlanStep, formulas_of, contexts_in, IsLastStep}
use Rattle.ac_steps.specs.Proofs.{IsProof, IsMadeOf, AreProofs, IsBuilt, IsPremiseProof}
use Rattle.ac_steps.proofs.Made.{by_rule}
use Rattle.ac_steps.proofs.Rows.{at_end}

abbrev HasReadableTermIn : Option Rule → Type 0
HasReadableTermIn None = Unit {0}
HasReadableTermIn (Some r) = HasReadableTerm r

plain_term : (n : RuleName) → HasReadableTermIn (plain_rule n)
plain_term name.Hyp = tt
plain_term _ = tt

pub record IsRuled (hs : List Formula) (way : Way) (r : Rule) (g : Formula) (ps : List Formula) : Type 0 where
  pub term : HasReadableTerm r
  pub instance : IsInstance hs r g ps
  pub contexts : contexts_of way g ps ≡ contexts r g ps

ruled_by : (hs : List Formula) (r q : Rule) (g : Formula) (ps : List Formula) → Some q ≡ Some r → HasReadableTerm q → IsInstance hs q g ps → HasReadableTerm r × IsInstance hs r g ps × (contexts q g ps ≡ contexts r g ps)
ruled_by hs r q g ps e t h = let m : q ≡ r = cc in (subst HasReadableTerm m t, subst (λ x. IsInstance hs x g ps) m h, ap (λ x. contexts x g ps) m)

ruled : (hs : List Formula) (way : Way) (r : Rule) (g : Formula) (ps : List Formula) → rule_by way ≡ Some r → HasReadableTerms way → Gives hs way g ps → IsRuled hs way r g ps
ruled hs Hypothesis r g ps e t h = cc
ruled hs (Plain n) r g ps e t h = record { term = subst HasReadableTermIn e (plain_term n); instance = subst (λ o. IsInstanceBy o hs g ps) e h; contexts = ap (λ o. contexts_by_rule o g ps) e }
ruled hs (Instance u) r g ps e t h = let x = ruled_by hs r (AllElim u) g ps e t h in record { term = x.0; instance = x.1; contexts = x.2 }
ruled hs (NewName k) r g ps e t h = let x = ruled_by hs r (AllIntro k) g ps e tt h in record { term = x.0; instance = x.1; contexts = x.2 }
ruled hs (Combination factors) r g ps e t h = let x = ruled_by hs r (Linear factors) g ps e tt h in record { term = x.0; instance = x.1; contexts = x.2 }
ruled hs (FromDenial u v) r g ps e t h = cc
ruled hs (Between u v) r g ps e t h = cc
ruled hs (ByOrder u v) r g ps e t h = cc
ruled hs (ByEquality u v) r g ps e t h = cc
ruled hs Lemma r g ps e t h = cc

-- a step by the rule of its way
pub stepped : (hs : List Formula) (p : Plan) (r : Rule) (goal : Formula) (ts : List ProofTree) (t : ProofTree) → rule_by (out-Plan p).way ≡ Some r → goal ≡ (out-Plan p).goal → IsMadeOf t r goal ts → IsLastStep hs p → AreProofs hs (contexts_in p) (formulas_of p) ts → IsProof hs (out-Plan p).goal t
stepped hs p r goal ts t e g m planned a =
    let x = ruled hs (out-Plan p).way r (out-Plan p).goal (formulas_of p) e planned.1 planned.3 in
    by_rule hs t r (out-Plan p).goal (formulas_of p) ts (subst (λ f. IsMadeOf t r f ts) g m) planned.0 x.term x.instance planned.2 (subst (λ cs. AreProofs hs cs (formulas_of p) ts) x.contexts a)

-- a step of its own
pub own_step : (hs : List Formula) (p : Plan) (w : Way) (f : Formula) (place : ℕ) (ts : List ProofTree) (t : ProofTree) → (out-Plan p).way ≡ w → (out-Plan p).goal ≡ f → length hs ≡ place → IsLastStep hs p → AreProofs hs (contexts_in p) (formulas_of p) ts → IsBuilt place w f ts t → IsProof hs (out-Plan p).goal t
own_step hs p w f place ts t e g l planned a built =
    let q : IsPlanStep hs w f (formulas_of p) = subst (λ x. IsPlanStep hs x f (formulas_of p)) e (subst (λ x. IsPlanStep hs (out-Plan p).way x (formulas_of p)) g planned) in
    let b : AreProofs hs (contexts_of w f (formulas_of p)) (formulas_of p) ts = subst (λ x. AreProofs hs (contexts_of x f (formulas_of p)) (formulas_of p) ts) e (subst (λ x. AreProofs hs (contexts_of (out-Plan p).way x (formulas_of p)) (formulas_of p) ts) g a) in
    subst (λ x. IsProof hs x t) (sym g) (built hs (formulas_of p) l q b)

-- what the step of a way is
pub given : (hs : List Formula) (p : Plan) (w : Way) → (out-Plan p).way ≡ w → IsLastStep hs p → Gives hs w (out-Plan p).goal (formulas_of p)
given hs p w e planned = subst (λ x. Gives hs x (out-Plan p).goal (formulas_of p)) e planned.3

count : (hs : List Formula) (cs : List (List Formula)) (fs : List Formula) (ts : List ProofTree) → AreProofs hs cs fs ts → length ts ≡ length fs
count hs cs [] [] a = refl
count hs cs (f ∷ fs) (t ∷ ts) a = ap suc (count hs (later cs) fs ts a.1)
count hs cs [] (t ∷ ts) a = absurd a
count hs cs (f ∷ fs) [] a = absurd a

pub count_of : (hs : List Formula) (cs : List (List Formula)) (fs gs : List Formula) (ts : List ProofTree) → fs ≡ gs → AreProofs hs cs fs ts → length ts ≡ length gs
count_of hs cs fs gs ts e a = count hs cs fs ts a ∙ ap length e

-- one more premise has its proof
pub one_more : (hs : List Formula) (p : Plan) (ts us : List ProofTree) (u : ProofTree) (i : ℕ) → us ≡ ts ++ u ∷ [] → length ts ≡ i → ((k : ℕ) (t : ProofTree) → slice_get ts k ≡ Some t → IsPremiseProof hs p k t) → IsPremiseProof hs p i u → (k : ℕ) (t : ProofTree) → slice_get us k ≡ Some t → IsPremiseProof hs p k t
one_more hs p ts us u i e l before here k t s =
    let at = at_end ts u k t (subst (λ x. slice_get x k ≡ Some t) e s) in
    elim (nat_lt k (length ts)) as (λ b. nat_lt k (length ts) ≡ b → IsPremiseProof hs p k t) [
      | true ↦ λ r. before k t (at.0 (grind (arith, nat_tests)))
      | false ↦ λ r. let q = at.1 (grind (arith, nat_tests)) in subst (IsPremiseProof hs p k) q.1 (subst (λ n. IsPremiseProof hs p n u) (sym (q.0 ∙ l)) here)
    ] refl

pub one_longer : (ts us : List ProofTree) (u : ProofTree) (i : ℕ) → us ≡ ts ++ u ∷ [] → length ts ≡ i → length us ≡ i + 1
one_longer ts us u i e l = let a : length us ≡ length (ts ++ u ∷ []) = ap length e in omega (arith, a, length-append ts (u ∷ []))

-- the ways of a step of its own are these
pub no_other : (hs : List Formula) (way : Way) (g : Formula) (ps : List Formula) → rule_by way ≡ None → Gives hs way g ps → (way ≡ Hypothesis → ⊥) → ((u v : Term) → way ≡ FromDenial u v → ⊥) → ((u v : Term) → way ≡ Between u v → ⊥) → ((u v : Term) → way ≡ ByOrder u v → ⊥) → ((u v : Term) → way ≡ ByEquality u v → ⊥) → (way ≡ Lemma → ⊥) → ⊥
no_other hs Hypothesis g ps e h a b c d m n = a refl
no_other hs (Plain name) g ps e h a b c d m n = subst (λ o. IsInstanceBy o hs g ps) e h
no_other hs (Instance t) g ps e h a b c d m n = cc
no_other hs (NewName k) g ps e h a b c d m n = cc
no_other hs (Combination factors) g ps e h a b c d m n = cc
no_other hs (FromDenial u v) g ps e h a b c d m n = b u v refl
no_other hs (Between u v) g ps e h a b c d m n = c u v refl
no_other hs (ByOrder u v) g ps e h a b c d m n = d u v refl
no_other hs (ByEquality u v) g ps e h a b c d m n = m u v refl
no_other hs Lemma g ps e h a b c d m n = n refl
