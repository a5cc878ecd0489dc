-- What is found of the cuts of a loop and of an `if`, put together as the conditions of the statement.
use Rattle.std.proofs.Common.{◌≡◌, ℕ, ◌+◌, ◌<◌, List, [], ◌∷◌, ◌++◌, Option, ap, sym, subst, ◌∙◌, append_assoc, drop, length, get_or}
use Rattle.std.proofs.lemmas.List.{drop_more}
use Rattle.ac_tree.specs.declared.node.NodeId.{NodeId}
use Rattle.ac_tree.specs.declared.path.Cut.TheVariants.{Head, Exit}
use Rattle.ac_tree.specs.declared.path.Target.{Target}
use Rattle.ac_tree.specs.declared.policy.PolicyName.{PolicyName}
use Rattle.ac_tree.specs.declared.program.Cond.{Cond}
use Rattle.ac_tree.specs.declared.program.Expr.{Expr}
use Rattle.ac_tree.specs.declared.program.Program.{Program}
use Rattle.ac_tree.specs.declared.program.Stmt.{Stmt}
use Rattle.ac_tree.specs.declared.program.StmtKind.{StmtKind}
use Rattle.ac_tree.specs.declared.program.StmtKind.TheVariants as stmt
use Rattle.ac_run.specs.Declarations.{NameBytes}
use Rattle.ac_logic.specs.declared.condition.Condition.{Condition}
use Rattle.ac_logic.specs.declared.formula.Formula.{Formula, Le}
use Rattle.ac_logic.specs.declared.label.LabelKind.TheVariants as label
use Rattle.ac_policy.specs.Terms.{term_of}
use Rattle.ac_conditions.specs.Conditions.{condition, barrier_condition, conditions, list_conditions}
use Rattle.ac_conditions.specs.Goals.{conjoined, under, cond_goal}
use Rattle.ac_conditions.specs.Hypotheses.{in_body, at_for_test, at_for_exit, at_while_exit, invariants}
use Rattle.ac_conditions.specs.Part.{Part}
use Rattle.ac_conditions.specs.Preconditions.{past_barrier, before, before_list, for_keep, while_keep, variable}
use Rattle.ac_conditions.specs.Tests.{formula_of}
use Rattle.ac_vcg.specs.declared.found.Found.{Found}
use Rattle.ac_preconditions.specs.Stands.{StandsIf}
use Rattle.ac_vcg.specs.Stands.{AreFound}
use Rattle.ac_vcg.proofs.Walks.{conditions_if, conditions_for, conditions_while}

-- what is so of a statement by its parts is so of the statement
pub as_if : (R : StmtKind → Type 0) (kind : StmtKind) (test : Cond) (ys zs us vs : List Stmt) → kind ≡ stmt.If test ys zs → us ≡ ys → vs ≡ zs → R (stmt.If test us vs) → R kind
as_if R kind test ys zs us vs e i j h = subst R (sym e) (subst (λ l. R (stmt.If test ys l)) j (subst (λ l. R (stmt.If test l vs)) i h))

pub as_for : (R : StmtKind → Type 0) (kind : StmtKind) (x : NameBytes) (lo hi : Expr) (body us : List Stmt) → kind ≡ stmt.For x lo hi body → us ≡ body → R (stmt.For x lo hi us) → R kind
as_for R kind x lo hi body us e i h = subst R (sym e) (subst (λ l. R (stmt.For x lo hi l)) i h)

pub as_while : (R : StmtKind → Type 0) (kind : StmtKind) (test : Cond) (body us : List Stmt) → kind ≡ stmt.While test body → us ≡ body → R (stmt.While test us) → R kind
as_while R kind test body us e i h = subst R (sym e) (subst (λ l. R (stmt.While test l)) i h)

-- a list added behind four
behind_four : {A : Type 0} (a b c d e : List A) → a ++ (b ++ (c ++ (d ++ e))) ≡ (a ++ (b ++ (c ++ d))) ++ e
behind_four a b c d e = sym (append_assoc a (b ++ (c ++ d)) e ∙ ap (λ l. a ++ l) (append_assoc b (c ++ d) e ∙ ap (λ l. b ++ l) (append_assoc c d e)))

module _ {G : Type 0} (stands : G → Formula → Type 0) (p : Program) (name : PolicyName) (part : Part) (t : Target) (hs : List Formula) (n : NodeId) (xs : List (Found G)) where
  pub found_if : (test : Cond) (ys zs : List Stmt) (Q : Option Formula) (bs cs : List Condition) →
      AreFound stands name xs (bs ++ ((list_conditions p name part t hs ys Q ++ list_conditions p name part t hs zs Q) ++ cs)) → AreFound stands name xs (conditions p name part t hs n (stmt.If test ys zs) Q bs ++ cs)
  found_if test ys zs Q bs cs h =
      subst (λ ds. AreFound stands name xs ds)
      (sym (append_assoc bs (list_conditions p name part t hs ys Q ++ list_conditions p name part t hs zs Q) cs) ∙ ap (λ ds. ds ++ cs) (sym (conditions_if p name part t hs n test ys zs Q bs))) h

  pub found_for : (x : NameBytes) (lo hi : Expr) (body : List Stmt) (inner : List Formula) (Q : Option Formula) (bs cs : List Condition) → inner ≡ hs ++ in_body p part n x lo hi ∷ [] →
      AreFound stands name xs (condition p name part t (Head n) (hs ++ (at_for_test p part n x lo ∷ invariants p part n)) (under label.Test n (Le (variable x) (term_of p hi.kind)) (before_list p part t body (for_keep p part t n x)))
      ++ (condition p name part t (Exit n) (hs ++ (at_for_exit p part n x lo hi ∷ invariants p part n)) Q ++ (bs ++ (list_conditions p name part t inner body (for_keep p part t n x) ++ cs)))) →
      AreFound stands name xs (conditions p name part t hs n (stmt.For x lo hi body) Q bs ++ cs)
  found_for x lo hi body inner Q bs cs e h =
      subst (λ ds. AreFound stands name xs ds)
      (behind_four (condition p name part t (Head n) (hs ++ (at_for_test p part n x lo ∷ invariants p part n)) (under label.Test n (Le (variable x) (term_of p hi.kind)) (before_list p part t body (for_keep p part t n x))))
      (condition p name part t (Exit n) (hs ++ (at_for_exit p part n x lo hi ∷ invariants p part n)) Q) bs (list_conditions p name part t (hs ++ in_body p part n x lo hi ∷ []) body (for_keep p part t n x)) cs
      ∙ ap (λ ds. ds ++ cs) (sym (conditions_for p name part t hs n x lo hi body Q bs)))
      (subst (λ l. AreFound stands name xs (condition p name part t (Head n) (hs ++ (at_for_test p part n x lo ∷ invariants p part n)) (under label.Test n (Le (variable x) (term_of p hi.kind)) (before_list p part t body (for_keep p part t n x)))
      ++ (condition p name part t (Exit n) (hs ++ (at_for_exit p part n x lo hi ∷ invariants p part n)) Q ++ (bs ++ (list_conditions p name part t l body (for_keep p part t n x) ++ cs))))) e h)

  pub found_while : (test : Cond) (body : List Stmt) (Q : Option Formula) (bs cs : List Condition) →
      AreFound stands name xs (condition p name part t (Head n) (hs ++ invariants p part n) (conjoined (cond_goal part.need t p test.kind) (under label.Test n (formula_of p test.kind) (before_list p part t body (while_keep p part t n))))
      ++ (condition p name part t (Exit n) (hs ++ (at_while_exit p part n test ∷ invariants p part n)) Q ++ (bs ++ (list_conditions p name part t hs body (while_keep p part t n) ++ cs)))) →
      AreFound stands name xs (conditions p name part t hs n (stmt.While test body) Q bs ++ cs)
  found_while test body Q bs cs h =
      subst (λ ds. AreFound stands name xs ds)
      (behind_four (condition p name part t (Head n) (hs ++ invariants p part n) (conjoined (cond_goal part.need t p test.kind) (under label.Test n (formula_of p test.kind) (before_list p part t body (while_keep p part t n)))))
      (condition p name part t (Exit n) (hs ++ (at_while_exit p part n test ∷ invariants p part n)) Q) bs (list_conditions p name part t hs body (while_keep p part t n)) cs
      ∙ ap (λ ds. ds ++ cs) (sym (conditions_while p name part t hs n test body Q bs)))
      h

module _ {G : Type 0} (stands : G → Formula → Type 0) (p : Program) (name : PolicyName) (part : Part) (t : Target) (hs : List Formula) where
  -- nothing of a block is walked yet
  pub walked_none : (block : List Stmt) (Q : Option Formula) (cs : List Condition) (made : Option G) (xs : List (Found G)) → StandsIf stands made Q → AreFound stands name xs cs →
      StandsIf stands made (before_list p part t (drop (length block) block) Q) × AreFound stands name xs (list_conditions p name part t hs (drop (length block) block) Q ++ cs)
  walked_none [] Q cs made xs h k = (h, k)
  walked_none (s ∷ rest) Q cs made xs h k = walked_none rest Q cs made xs h k

  -- and one statement more
  pub walked_more : (block : List Stmt) (i j : ℕ) (s d : Stmt) (Q : Option Formula) (cs : List Condition) (made : Option G) (xs : List (Found G)) → i < length block → j ≡ i + 1 → s ≡ get_or block i d →
      StandsIf stands made (before p part t s.node.id s.kind (past_barrier t s.node.id (part.behind s.node.id) (before_list p part t (drop j block) Q))) →
      AreFound stands name xs (conditions p name part t hs s.node.id s.kind (past_barrier t s.node.id (part.behind s.node.id) (before_list p part t (drop j block) Q))
      (barrier_condition p name part t s.node.id hs (part.behind s.node.id) (before_list p part t (drop j block) Q)) ++ (list_conditions p name part t hs (drop j block) Q ++ cs)) →
      StandsIf stands made (before_list p part t (drop i block) Q) × AreFound stands name xs (list_conditions p name part t hs (drop i block) Q ++ cs)
  walked_more block i j s d Q cs made xs lt q e h k =
      let step : drop i block ≡ s ∷ drop j block = drop_more block i d lt ∙ ap (λ (x : Stmt). x ∷ drop (i + 1) block) (sym e) ∙ ap (λ m. s ∷ drop m block) (sym q) in
      let own : List Condition = conditions p name part t hs s.node.id s.kind (past_barrier t s.node.id (part.behind s.node.id) (before_list p part t (drop j block) Q))
      (barrier_condition p name part t s.node.id hs (part.behind s.node.id) (before_list p part t (drop j block) Q)) in (
        subst (λ l. StandsIf stands made (before_list p part t l Q)) (sym step) h,
        subst (λ l. AreFound stands name xs (list_conditions p name part t hs l Q ++ cs)) (sym step) (subst (λ ds. AreFound stands name xs ds) (sym (append_assoc own (list_conditions p name part t hs (drop j block) Q) cs)) k),
      )

  -- and all
  pub walked_all : (block : List Stmt) (i : ℕ) (Q : Option Formula) (cs : List Condition) (made : Option G) (xs : List (Found G)) → i ≡ 0 →
      StandsIf stands made (before_list p part t (drop i block) Q) × AreFound stands name xs (list_conditions p name part t hs (drop i block) Q ++ cs) →
      StandsIf stands made (before_list p part t block Q) × AreFound stands name xs (list_conditions p name part t hs block Q ++ cs)
  walked_all block i Q cs made xs e h = subst (λ m. StandsIf stands made (before_list p part t (drop m block) Q) × AreFound stands name xs (list_conditions p name part t hs (drop m block) Q ++ cs)) e h
