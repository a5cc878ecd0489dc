-- A tree is a proof where its last step is one and its premises are proofs.
use Rattle.std.proofs.Common.{◌≡◌, ◌<◌, ◌^◌, List, [], ◌∷◌, length, map, refl, sym, subst, ◌∙◌}
use Rattle.ac_logic.specs.declared.formula.Formula.{Formula}
use Rattle.ac_logic.specs.Readable.{IsReadable}
use Rattle.ac_proof.specs.declared.rule.Rule.{Rule}
use Rattle.ac_proof.specs.declared.tree.ProofTree.{ProofTree, ProofTree', out-ProofTree}
use Rattle.ac_proof.specs.Rules.{IsInstance, contexts}
use Rattle.ac_proof.specs.Checked.{HasReadableTerm, Checked, goal_of, later}
use Rattle.ac_proof.proofs.Trees.{CheckedAll, CheckedParts, AllHaveFew, FewParts, goal-out, checked-out, few-out}
use Rattle.ac_steps.specs.Proofs.{IsProof, IsMadeOf, AreProofs}

readable_goal : (hs : List Formula) (t : ProofTree) → Checked hs t → IsReadable (goal_of t)
readable_goal hs (ProofTree' r g s row) c = c.0.0

pub proof_readable : (hs : List Formula) (f : Formula) (t : ProofTree) → IsProof hs f t → IsReadable f
proof_readable hs f t p = subst IsReadable p.goal (readable_goal hs t p.checked)

pub made : (hs : List Formula) (t : ProofTree) (r : Rule) (g : Formula) (ts : List ProofTree) → IsMadeOf t r g ts → CheckedParts hs r g ts → FewParts ts → IsProof hs g t
made hs t r g ts m c f = record {
  goal = sym (goal-out t) ∙ m.goal;
  checked = subst (λ (X : Type 0). X) (sym (checked-out hs t)) (subst (λ x. CheckedParts hs x (out-ProofTree t).goal (out-ProofTree t).premises) (sym m.rule) (subst (λ x. CheckedParts hs r x (out-ProofTree t).premises) (sym m.goal) (subst (CheckedParts hs r g) (sym m.premises) c)));
  few = subst (λ (X : Type 0). X) (sym (few-out t)) (subst FewParts (sym m.premises) f);
}

module _ (hs : List Formula) where
  pub goals_are : (cs : List (List Formula)) (fs : List Formula) (ts : List ProofTree) → AreProofs hs cs fs ts → map goal_of ts ≡ fs
  goals_are cs [] [] h = refl
  goals_are cs (f ∷ fs) (t ∷ ts) h = λ k. h.0.goal k ∷ goals_are (later cs) fs ts h.1 k
  goals_are cs [] (t ∷ ts) h = absurd h
  goals_are cs (f ∷ fs) [] h = absurd h

  checked_all : (cs : List (List Formula)) (fs : List Formula) (ts : List ProofTree) → AreProofs hs cs fs ts → CheckedAll hs cs ts
  checked_all cs [] [] h = tt
  checked_all cs (f ∷ fs) (t ∷ ts) h = (h.0.checked, checked_all (later cs) fs ts h.1)
  checked_all cs [] (t ∷ ts) h = absurd h
  checked_all cs (f ∷ fs) [] h = absurd h

  all_few : (cs : List (List Formula)) (fs : List Formula) (ts : List ProofTree) → AreProofs hs cs fs ts → AllHaveFew ts
  all_few cs [] [] h = tt
  all_few cs (f ∷ fs) (t ∷ ts) h = (h.0.few, all_few (later cs) fs ts h.1)
  all_few cs [] (t ∷ ts) h = absurd h
  all_few cs (f ∷ fs) [] h = absurd h

  -- a step by a rule
  pub by_rule : (t : ProofTree) (r : Rule) (g : Formula) (ps : List Formula) (ts : List ProofTree) → IsMadeOf t r g ts → IsReadable g → HasReadableTerm r → IsInstance hs r g ps → length ps < 2 ^ 32 → AreProofs hs (contexts r g ps) ps ts → IsProof hs g t
  by_rule t r g ps ts m readable term instance few a =
      let e : ps ≡ map goal_of ts = sym (goals_are (contexts r g ps) ps ts a) in
      let b : AreProofs hs (contexts r g (map goal_of ts)) ps ts = subst (λ x. AreProofs hs (contexts r g x) ps ts) e a in
      made hs t r g ts m
      ((readable, term, subst (IsInstance hs r g) e instance), checked_all (contexts r g (map goal_of ts)) ps ts b)
      (subst (λ x. length x < 2 ^ 32) e few, all_few (contexts r g ps) ps ts a)
