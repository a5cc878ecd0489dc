-- Where each condition of a target is valid, so is every cut of the program for it, by recursion over the tree.
use Rattle.std.proofs.Common.{List, [], ◌∷◌, ◌++◌, Option, Some, None}
use Rattle.std.specs.List.{AllByRecursion}
use Rattle.ac_tree.specs.declared.node.NodeId.{NodeId}
use Rattle.ac_tree.specs.declared.path.Cut.{Cut}
use Rattle.ac_tree.specs.declared.path.Cut.TheVariants.{Start, Head, Exit, After}
use Rattle.ac_tree.specs.declared.path.Target.{Target}
use Rattle.ac_tree.specs.declared.policy.PolicyName.{PolicyName}
use Rattle.ac_tree.specs.declared.program.Program.{Program}
use Rattle.ac_tree.specs.declared.program.Stmt.{Stmt}
use Rattle.ac_tree.specs.declared.program.StmtKind.{StmtKind, Row_of-Stmt, end_of-Stmt, more_of-Stmt, Set, Put, If', For', While', Hand, Skip}
use Rattle.ac_logic.specs.declared.condition.Condition.{Condition}
use Rattle.ac_logic.specs.declared.formula.Formula.{Formula}
use Rattle.ac_logic.specs.Meaning.{Valuation, Holds}
use Rattle.ac_conditions.specs.Conditions.{IsValid, implied_by, condition, barrier_condition, conditions, block_conditions, list_conditions, conditions_at}
use Rattle.ac_conditions.specs.Part.{Part}
use Rattle.ac_conditions.specs.Preconditions.{before_block, before_list}
use Rattle.ac_conditions.specs.Ranges.{ranges}
use Rattle.ac_soundness.specs.Opened.{hidden, formula_shape, formula_child}
use Rattle.ac_soundness.specs.Validity.{AllHold, Follows, FollowsBehind, Valid, ValidBlock, ValidList, AllValid}

abbrev AreValid : List Condition → Type 0
AreValid = AllByRecursion IsValid

valid-append : (cs ds : List Condition) → AreValid (cs ++ ds) → AreValid cs × AreValid ds
valid-append [] ds h = (tt, h)
valid-append (c ∷ cs) ds h = let k = valid-append cs ds h.1 in ((h.0, k.0), k.1)

from_implied : (w : Valuation) (hs : List Formula) (f : Formula) → Holds w (implied_by hs f) → AllHold w hs → Holds w f
unfolding hidden formula_shape formula_child
from_implied w [] f h k = h
from_implied w (g ∷ gs) f h k = from_implied w gs f (h k.0) k.1

module _ (p : Program) (q : PolicyName) (part : Part) (t : Target) where
  follows : (c : Cut) (hs : List Formula) (behind : Option Formula) → AreValid (condition p q part t c hs behind) → Follows hs behind
  follows c hs None h w k = tt
  follows c hs (Some f) h w k = from_implied w hs f (h.0 w) k

  follows_behind : (n : NodeId) (hs fs : List Formula) (behind : Option Formula) → AreValid (barrier_condition p q part t n hs fs behind) → FollowsBehind hs n fs behind
  follows_behind n hs [] behind h = tt
  follows_behind n hs (f ∷ fs) behind h = follows (After n) _ behind h

  mutual
    valid : (hs : List Formula) (n : NodeId) (k : StmtKind) (behind : Option Formula) (barrier : List Condition) → AreValid (conditions p q part t hs n k behind barrier) → Valid p part t hs n k behind × AreValid barrier
    valid hs n (If' test _ y _ z) behind barrier h =
        let j = valid-append barrier (block_conditions p q part t hs y behind ++ block_conditions p q part t hs z behind) h in
        let k = valid-append (block_conditions p q part t hs y behind) (block_conditions p q part t hs z behind) j.1 in
        ((valid_block hs y behind k.0, valid_block hs z behind k.1), j.0)
    valid hs n (While' test _ body) behind barrier h =
        let j = valid-append (condition p q part t (Head n) _ _) _ h in
        let k = valid-append (condition p q part t (Exit n) _ behind) _ j.1 in
        let l = valid-append barrier _ k.1 in
        ((follows (Head n) _ _ j.0, follows (Exit n) _ behind k.0, valid_block hs body _ l.1), l.0)
    valid hs n (For' x lo hi _ body) behind barrier h =
        let j = valid-append (condition p q part t (Head n) _ _) _ h in
        let k = valid-append (condition p q part t (Exit n) _ behind) _ j.1 in
        let l = valid-append barrier _ k.1 in
        ((follows (Head n) _ _ j.0, follows (Exit n) _ behind k.0, valid_block _ body _ l.1), l.0)
    valid hs n (Set x e) behind barrier h = (tt, h)
    valid hs n (Put x at e) behind barrier h = (tt, h)
    valid hs n (Hand x role) behind barrier h = (tt, h)
    valid hs n Skip behind barrier h = (tt, h)

    valid_block : (hs : List Formula) {k : _} (row : Row_of-Stmt k) (behind : Option Formula) → AreValid (block_conditions p q part t hs row behind) → ValidBlock p part t hs row behind
    valid_block hs end_of-Stmt behind h = tt
    valid_block hs (more_of-Stmt n st rest) behind h =
        let S = before_block p part t rest behind in
        let k = valid-append (conditions p q part t hs n.id st _ (barrier_condition p q part t n.id hs (part.behind n.id) S)) (block_conditions p q part t hs rest behind) h in
        let j = valid hs n.id st _ _ k.0 in
        (j.0, follows_behind n.id hs (part.behind n.id) S j.1, valid_block hs rest behind k.1)

  valid_list : (hs : List Formula) (sts : List Stmt) (behind : Option Formula) → AreValid (list_conditions p q part t hs sts behind) → ValidList p part t hs sts behind
  valid_list hs [] behind h = tt
  valid_list hs (st ∷ sts) behind h =
      let S = before_list p part t sts behind in
      let k = valid-append (conditions p q part t hs st.node.id st.kind _ (barrier_condition p q part t st.node.id hs (part.behind st.node.id) S)) (list_conditions p q part t hs sts behind) h in
      let j = valid hs st.node.id st.kind _ _ k.0 in
      (j.0, follows_behind st.node.id hs (part.behind st.node.id) S j.1, valid_list hs sts behind k.1)

pub all_valid : (p : Program) (q : PolicyName) (part : Part) → ((t : Target) → AllByRecursion IsValid (conditions_at p q part t)) → AllValid p part
all_valid p q part h t =
    let k = valid-append (condition p q part t Start (ranges p p.items) (before_list p part t p.body None)) (list_conditions p q part t (ranges p p.items) p.body None) (h t) in
    (follows p q part t Start _ _ k.0, valid_list p q part t (ranges p p.items) p.body None k.1)
