-- What is found of conditions, one condition more at a time.
use Rattle.std.proofs.Common.{◌≡◌, Bool, true, false, List, [], ◌∷◌, ◌++◌, Option, Some, None, refl, ap, sym, subst, ◌∙◌}
use Rattle.ac_tree.specs.declared.node.NodeId.{NodeId}
use Rattle.ac_tree.specs.declared.path.Cut.{Cut}
use Rattle.ac_tree.specs.declared.path.Cut.TheVariants.{After}
use Rattle.ac_tree.specs.declared.path.Target.{Target}
use Rattle.ac_tree.specs.declared.policy.PolicyName.{PolicyName}
use Rattle.ac_tree.specs.declared.program.Program.{Program}
use Rattle.ac_logic.specs.declared.condition.Condition.{Condition}
use Rattle.ac_logic.specs.declared.formula.Formula.{Formula}
use Rattle.ac_conditions.specs.Conditions.{implied_by, condition, barrier_condition}
use Rattle.ac_conditions.specs.Hypotheses.{assumed}
use Rattle.ac_conditions.specs.Part.{Part, is_any}
use Rattle.ac_vcg.specs.declared.found.Found.{Found}
use Rattle.ac_preconditions.specs.Stands.{StandsIf}
use Rattle.ac_vcg.specs.Stands.{IsFor, AreFound, IsFoundIf, condition_from}

module _ {G : Type 0} (stands : G → Formula → Type 0) (name : PolicyName) where
  -- the same conditions, put together in another way
  pub found_as : (xs : List (Found G)) (cs ds : List Condition) → cs ≡ ds → AreFound stands name xs cs → AreFound stands name xs ds
  found_as xs cs ds e h = subst (λ l. AreFound stands name xs l) e h

  -- no condition more, and one
  pub added_none : (xs : List (Found G)) (barrier : Option (Found G)) (bs cs : List Condition) → barrier ≡ None → IsFoundIf stands name barrier bs → AreFound stands name xs cs → AreFound stands name xs (bs ++ cs)
  added_none xs None [] cs e h k = k
  added_none xs None (b ∷ bs) cs e h k = absurd h
  added_none xs (Some x) bs cs e h k = cc

  pub added_one : (xs ys : List (Found G)) (x : Found G) (barrier : Option (Found G)) (bs cs : List Condition) → barrier ≡ Some x → ys ≡ xs ++ x ∷ [] → IsFoundIf stands name barrier bs → AreFound stands name xs cs → AreFound stands name ys (bs ++ cs)
  added_one xs ys x barrier bs cs e l h k = one bs (subst (λ b. IsFoundIf stands name b bs) e h)
    where
      one : (bs : List Condition) → IsFoundIf stands name (Some x) bs → AreFound stands name ys (bs ++ cs)
      one [] h = absurd h
      one (b ∷ []) h = (xs, x, l, h, k)
      one (b ∷ d ∷ ds) h = absurd h

  module _ (p : Program) (part : Part) (t : Target) where
    -- no path, no condition
    pub found_none : (c : Cut) (hs : List Formula) (xs : List (Found G)) (path : Option G) (Q : Option Formula) (cs : List Condition) → path ≡ None → StandsIf stands path Q → AreFound stands name xs cs → AreFound stands name xs (condition p name part t c hs Q ++ cs)
    found_none c hs xs None None cs e h k = k
    found_none c hs xs None (Some f) cs e h k = absurd h
    found_none c hs xs (Some g) Q cs e h k = cc

    pub found_some : (c : Cut) (hs : List Formula) (xs ys : List (Found G)) (x : Found G) (g : G) (path : Option G) (Q : Option Formula) (cs : List Condition) → path ≡ Some g → StandsIf stands path Q →
        ((f : Formula) → stands g f → IsFor stands name x (condition_from name c t (implied_by hs f))) → ys ≡ xs ++ x ∷ [] → AreFound stands name xs cs → AreFound stands name ys (condition p name part t c hs Q ++ cs)
    found_some c hs xs ys x g path Q cs e h k l m = one Q (subst (λ o. StandsIf stands o Q) e h)
      where
        one : (Q : Option Formula) → StandsIf stands (Some g) Q → AreFound stands name ys (condition p name part t c hs Q ++ cs)
        one None h = absurd h
        one (Some f) h = (xs, x, l, k f h, m)

    -- the barrier behind a statement
    pub barrier_none : (n : NodeId) (hs fs : List Formula) (Q : Option Formula) → is_any fs ≡ false → IsFoundIf stands name None (barrier_condition p name part t n hs fs Q)
    barrier_none n hs [] Q e = tt
    barrier_none n hs (f ∷ fs) Q e = cc

    pub barrier_unreached : (n : NodeId) (hs fs : List Formula) (behind : Option G) (Q : Option Formula) → behind ≡ None → StandsIf stands behind Q → IsFoundIf stands name None (barrier_condition p name part t n hs fs Q)
    barrier_unreached n hs [] behind Q e h = tt
    barrier_unreached n hs (f ∷ fs) None None e h = tt
    barrier_unreached n hs (f ∷ fs) None (Some g) e h = absurd h
    barrier_unreached n hs (f ∷ fs) (Some g) Q e h = cc

    pub barrier_found : (n : NodeId) (hs fs : List Formula) (x : Found G) (g : G) (behind : Option G) (Q : Option Formula) → is_any fs ≡ true → behind ≡ Some g → StandsIf stands behind Q →
        ((f : Formula) → stands g f → IsFor stands name x (condition_from name (After n) t (implied_by (hs ++ assumed n fs) f))) → IsFoundIf stands name (Some x) (barrier_condition p name part t n hs fs Q)
    barrier_found n hs [] x g behind Q b e h k = cc
    barrier_found n hs (f ∷ fs) x g behind Q b e h k = one Q (subst (λ o. StandsIf stands o Q) e h)
      where
        one : (Q : Option Formula) → StandsIf stands (Some g) Q → IsFoundIf stands name (Some x) (condition p name part t (After n) (hs ++ assumed n (f ∷ fs)) Q)
        one None h = absurd h
        one (Some q) h = k q h

-- the hypotheses of a cut of a loop
pub own_facts : (own start facts : List Formula) → own ≡ start ++ facts → start ≡ [] → own ≡ facts
own_facts own start facts h k = h ∙ ap (λ (l : List Formula). l ++ facts) k

pub own_and_facts : (own start added facts : List Formula) (made f : Formula) → own ≡ added ++ facts → added ≡ start ++ made ∷ [] → start ≡ [] → made ≡ f → own ≡ f ∷ facts
own_and_facts own start added facts made f h k e m =
    h ∙ ap (λ (l : List Formula). l ++ facts) k ∙ ap (λ (l : List Formula). (l ++ made ∷ []) ++ facts) e ∙ ap (λ (x : Formula). x ∷ facts) m
