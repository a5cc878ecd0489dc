-- Gathering facts one by one gives the facts of the list.
use Rattle.std.proofs.Common.{◌≡◌, ℕ, zero, suc, ◌+◌, ◌<◌, List, [], ◌∷◌, ◌++◌, length, map, drop, get_or, Option, Some, None, option_map, refl, sym, ap, ◌∙◌, arith, append-nil}
use Rattle.std.proofs.lemmas.List.{append_assoc}
use Rattle.ac_logic.specs.declared.formula.Formula.{Formula}
use Rattle.ac_linear.specs.declared.linear.Linear.{Linear}
use Rattle.ac_linear.specs.NormalForm.{and_then}
use Rattle.ac_proof.specs.declared.tree.ProofTree.{ProofTree, out-ProofTree}
use Rattle.ac_proof.specs.Checked.{goal_of}
use Rattle.ac_proof.specs.Linear.{fact, facts, denial, facts_of_step}
use Rattle.ac_proof.proofs.Trees.{goal-out}
use Rattle.ac_proof.specs.Gathering.{facts_behind}

abbrev behind : List Linear → Option (List Linear) → Option (List Linear)
behind ls o = option_map (λ more. ls ++ more) o

behind_cons : (ls : List Linear) (l : Linear) (o : Option (List Linear)) → behind (ls ++ l ∷ []) o ≡ behind ls (option_map (λ more. l ∷ more) o)
behind_cons ls l None = refl
behind_cons ls l (Some more) = ap Some (append_assoc ls (l ∷ []) more)

behind_nil : (o : Option (List Linear)) → behind [] o ≡ o
behind_nil None = refl
behind_nil (Some more) = refl

facts_behind-is : (ls : List Linear) (fs : List Formula) → facts_behind ls fs ≡ behind ls (facts fs)
facts_behind-is ls [] = ap Some (sym (append-nil ls))
facts_behind-is ls (f ∷ fs) =
    elim (fact f) as (λ o. and_then o (λ l. facts_behind (ls ++ l ∷ []) fs) ≡ behind ls (and_then o (λ l. option_map (λ more. l ∷ more) (facts fs)))) [
      | None ↦ refl
      | Some l ↦ facts_behind-is (ls ++ l ∷ []) fs ∙ behind_cons ls l (facts fs)
    ]

-- the first formula, and then the others
pub facts_behind-cons : (ls : List Linear) (f : Formula) (fs : List Formula) → facts_behind ls (f ∷ fs) ≡ and_then (facts_behind ls (f ∷ [])) (λ ms. facts_behind ms fs)
facts_behind-cons ls f fs =
    elim (fact f) as (λ o. and_then o (λ l. facts_behind (ls ++ l ∷ []) fs) ≡ and_then (and_then o (λ l. Some (ls ++ l ∷ []))) (λ ms. facts_behind ms fs)) [
      | None ↦ refl
      | Some l ↦ refl
    ]

facts_behind-append : (ls : List Linear) (fs gs : List Formula) → facts_behind ls (fs ++ gs) ≡ and_then (facts_behind ls fs) (λ ms. facts_behind ms gs)
facts_behind-append ls [] gs = refl
facts_behind-append ls (f ∷ fs) gs =
    elim (fact f) as (λ o. and_then o (λ l. facts_behind (ls ++ l ∷ []) (fs ++ gs)) ≡ and_then (and_then o (λ l. facts_behind (ls ++ l ∷ []) fs)) (λ ms. facts_behind ms gs)) [
      | None ↦ refl
      | Some l ↦ facts_behind-append (ls ++ l ∷ []) fs gs
    ]

-- the facts of a step, from the denial of its goal on
pub facts_of_step-is : (g : Formula) (ps : List Formula) → and_then (and_then (denial g) (facts_behind [])) (λ ls. facts_behind ls ps) ≡ facts_of_step g ps
facts_of_step-is g ps =
    elim (denial g) as (λ o. and_then (and_then o (facts_behind [])) (λ ls. facts_behind ls ps) ≡ and_then o (λ first. facts (first ++ ps))) [
      | None ↦ refl
      | Some first ↦ sym (facts_behind-append [] first ps) ∙ (facts_behind-is [] (first ++ ps) ∙ behind_nil (facts (first ++ ps)))
    ]

-- the premises from number i on
pub goals_from : (ts : List ProofTree) (i : ℕ) (t : ProofTree) → i < length ts → t ≡ get_or ts i t → map goal_of (drop i ts) ≡ goal_of t ∷ map goal_of (drop (i + 1) ts)
goals_from [] i t lt e = absurd (omega arith)
goals_from (u ∷ ts) zero t lt e = ap (λ x. goal_of x ∷ map goal_of ts) (sym e)
goals_from (u ∷ ts) (suc i) t lt e = let q : suc i + 1 ≡ suc (i + 1) = omega arith in goals_from ts i t (omega arith) e ∙ ap (λ n. goal_of t ∷ map goal_of (drop n (u ∷ ts))) (sym q)

-- one premise more
pub gathered : (ls : List Linear) (ts : List ProofTree) (i : ℕ) (t : ProofTree) (f : Formula) (o : Option (List Linear)) → i < length ts → t ≡ get_or ts i t → f ≡ (out-ProofTree t).goal → o ≡ facts_behind ls (f ∷ []) → and_then o (λ ms. facts_behind ms (map goal_of (drop (i + 1) ts))) ≡ facts_behind ls (map goal_of (drop i ts))
gathered ls ts i t f o lt e g n =
    let h : f ≡ goal_of t = g ∙ goal-out t in
    ap (λ p. and_then p (λ ms. facts_behind ms (map goal_of (drop (i + 1) ts)))) (n ∙ ap (λ x. facts_behind ls (x ∷ [])) h)
    ∙ (sym (facts_behind-cons ls (goal_of t) (map goal_of (drop (i + 1) ts))) ∙ ap (facts_behind ls) (sym (goals_from ts i t lt e)))
