-- The pairs of all conditions are those of control flow.
use Rattle.std.proofs.Common.{◌≡◌, ℕ, List, [], ◌∷◌, ◌++◌, Bool, true, false, Option, Some, None, refl, sym, ◌∙◌, ap, subst, inl, inr}
use Rattle.std.specs.List.{AllByRecursion}
use Rattle.ac_tree.specs.declared.node.NodeId.{NodeId}
use Rattle.ac_tree.specs.declared.path.Cut.{Cut}
use Rattle.ac_tree.specs.declared.path.Cut.TheVariants.{Start, Head, Exit, After}
use Rattle.ac_tree.specs.declared.path.Pair.{Pair}
use Rattle.ac_tree.specs.declared.path.Target.{Target}
use Rattle.ac_tree.specs.declared.policy.PolicyName.{PolicyName}
use Rattle.ac_tree.specs.declared.program.Program.{Program}
use Rattle.ac_tree.specs.declared.program.Stmt.{Stmt}
use Rattle.ac_tree.specs.declared.program.StmtKind.{StmtKind, Row_of-Stmt, end_of-Stmt, more_of-Stmt, Set, Put, If', For', While', Hand, Skip}
use Rattle.ac_flow.specs.Listed.{IsListed}
use Rattle.ac_flow.specs.Pairs.{list_pairs}
use Rattle.ac_logic.specs.declared.condition.Condition.{Condition}
use Rattle.ac_logic.specs.declared.formula.Formula.{Formula}
use Rattle.ac_conditions.proofs.PairsMatch.{pairs_forward, pairs_back}
use Rattle.ac_conditions.proofs.Parts.{pairs_in, pairs_split, pairs_left, pairs_right}
use Rattle.ac_conditions.proofs.TargetsCover.{is_same, same_target, Apart, none_aims}
use Rattle.ac_conditions.specs.AllConditions.{at_each, part_conditions}
use Rattle.ac_conditions.specs.Conditions.{condition, barrier_condition, conditions, block_conditions, list_conditions, conditions_at}
use Rattle.ac_conditions.specs.Hypotheses.{in_body}
use Rattle.ac_conditions.specs.Marked.{AreMarked}
use Rattle.ac_conditions.specs.Part.{Part, is_any}
use Rattle.ac_conditions.specs.Preconditions.{before_list, for_head, while_head, for_keep, while_keep}
use Rattle.ac_conditions.specs.Ranges.{ranges}
use Rattle.ac_conditions.specs.Targets.{list_targets}

module _ (p : Program) (q : PolicyName) (part : Part) (t : Target) where
  abbrev AllAim : List Condition → Type 0
  AllAim = AllByRecursion (λ x. x.pair.target ≡ t)

  all_join : (cs ds : List Condition) → AllAim cs → AllAim ds → AllAim (cs ++ ds)
  all_join [] ds h k = k
  all_join (c ∷ cs) ds h k = (h.0, all_join cs ds h.1 k)

  one_aims : (c : Cut) (hs : List Formula) (path : Option Formula) → AllAim (condition p q part t c hs path)
  one_aims c hs None = tt
  one_aims c hs (Some f) = (refl, tt)

  barrier_aims : (n : NodeId) (hs facts : List Formula) (behind : Option Formula) → AllAim (barrier_condition p q part t n hs facts behind)
  barrier_aims n hs [] behind = tt
  barrier_aims n hs (f ∷ fs) behind = one_aims (After n) _ behind

  mutual
    stmt_aims : (hs : List Formula) (n : NodeId) (k : StmtKind) (behind : Option Formula) (bs : List Condition) → AllAim bs → AllAim (conditions p q part t hs n k behind bs)
    stmt_aims hs n (Set x e) behind bs h = h
    stmt_aims hs n (Put x at e) behind bs h = h
    stmt_aims hs n (If' test _ y _ z) behind bs h = all_join bs _ h (all_join (block_conditions p q part t hs y behind) (block_conditions p q part t hs z behind) (block_aims hs y behind) (block_aims hs z behind))
    stmt_aims hs n (For' x lo hi _ body) behind bs h =
        all_join (condition p q part t (Head n) _ (for_head p part t n x hi body)) _ (one_aims (Head n) _ (for_head p part t n x hi body))
        (all_join (condition p q part t (Exit n) _ behind) _ (one_aims (Exit n) _ behind) (all_join bs _ h (block_aims (hs ++ in_body p part n x lo hi ∷ []) body (for_keep p part t n x))))
    stmt_aims hs n (While' test _ body) behind bs h =
        all_join (condition p q part t (Head n) _ (while_head p part t n test body)) _ (one_aims (Head n) _ (while_head p part t n test body))
        (all_join (condition p q part t (Exit n) _ behind) _ (one_aims (Exit n) _ behind) (all_join bs _ h (block_aims hs body (while_keep p part t n))))
    stmt_aims hs n (Hand x role) behind bs h = h
    stmt_aims hs n Skip behind bs h = h

    block_aims : {a : _} (hs : List Formula) (row : Row_of-Stmt a) (behind : Option Formula) → AllAim (block_conditions p q part t hs row behind)
    block_aims hs end_of-Stmt behind = tt
    block_aims hs (more_of-Stmt n st rest) behind = all_join _ _ (stmt_aims hs n.id st _ _ (barrier_aims n.id hs (part.behind n.id) _)) (block_aims hs rest behind)

  list_aims : (hs : List Formula) (sts : List Stmt) (behind : Option Formula) → AllAim (list_conditions p q part t hs sts behind)
  list_aims hs [] behind = tt
  list_aims hs (st ∷ sts) behind = all_join _ _ (stmt_aims hs st.node.id st.kind _ _ (barrier_aims st.node.id hs (part.behind st.node.id) _)) (list_aims hs sts behind)

  -- each condition of a target aims at it
  pub all_aim : AllByRecursion (λ (x : Condition). x.pair.target ≡ t) (conditions_at p q part t)
  all_aim = all_join (condition p q part t Start (ranges p p.items) (before_list p part t p.body None)) _ (one_aims Start _ _) (list_aims (ranges p p.items) p.body None)

aims_there : (t : Target) (cs : List Condition) (x : Pair) → AllByRecursion (λ (c : Condition). c.pair.target ≡ t) cs → IsListed (pairs_in cs) x → x.target ≡ t
aims_there t [] x h k = absurd k
aims_there t (c ∷ cs) x h (inl e) = ap (λ (y : Pair). y.target) e ∙ h.0
aims_there t (c ∷ cs) x h (inr k) = aims_there t cs x h.1 k

module _ (p : Program) (q : PolicyName) (part : Part) where
  abbrev At : Target → List Condition
  At = conditions_at p q part

  from_each_target : (us : List Target) (c : Cut) (t : Target) → IsListed (pairs_in (at_each At us)) (record { cut = c; target = t }) → IsListed (pairs_in (At t)) (record { cut = c; target = t })
  from_each_target [] c t h = absurd h
  from_each_target (u ∷ us) c t h = elim (pairs_split (At u) (at_each At us) (record { cut = c; target = t }) h) [
    | inl k ↦ subst (λ (v : Target). IsListed (pairs_in (At v)) (record { cut = c; target = t })) (sym (aims_there u (At u) (record { cut = c; target = t }) (all_aim p q part u) k)) k
    | inr k ↦ from_each_target us c t k
  ]

  pub to_each_target : (us : List Target) (c : Cut) (t : Target) → (Apart t us → ⊥) → IsListed (pairs_in (At t)) (record { cut = c; target = t }) → IsListed (pairs_in (at_each At us)) (record { cut = c; target = t })
  to_each_target [] c t within h = absurd (within tt)
  to_each_target (u ∷ us) c t within h = by (is_same t u) refl (λ f. to_each_target us c t f h)
    where
      by : (b : Bool) → is_same t u ≡ b → ((Apart t us → ⊥) → IsListed (pairs_in (at_each (conditions_at p q part) us)) (record { cut = c; target = t })) → IsListed (pairs_in (at_each (conditions_at p q part) (u ∷ us))) (record { cut = c; target = t })
      by true e later = pairs_left (conditions_at p q part u) (at_each (conditions_at p q part) us) (record { cut = c; target = t })
          (subst (λ (v : Target). IsListed (pairs_in (conditions_at p q part v)) (record { cut = c; target = t })) (same_target t u e) h)
      by false e later = pairs_right (conditions_at p q part u) (at_each (conditions_at p q part) us) (record { cut = c; target = t }) (later (λ apart. within (e, apart)))

  pub not_apart : (c : Cut) (t : Target) → IsListed (pairs_in (At t)) (record { cut = c; target = t }) → Apart t (list_targets p p.body) → ⊥
  not_apart c t h apart = subst (λ (cs : List Condition). IsListed (pairs_in cs) (record { cut = c; target = t })) (none_aims p q part t apart) h

  pub conditions_paired : (barrier subject : ℕ → Bool) → ((n : NodeId) → barrier n.0 ≡ is_any (part.behind n)) → AreMarked p part.need subject → (c : Cut) (t : Target) →
      IsListed (pairs_in (part_conditions p q part)) (record { cut = c; target = t }) → IsListed (list_pairs barrier subject (Start ∷ []) p.body) (record { cut = c; target = t })
  conditions_paired barrier subject barriers marked c t h = pairs_forward p q part barrier subject barriers c t marked (from_each_target (list_targets p p.body) c t h)

  pub pairs_conditioned : (barrier subject : ℕ → Bool) → ((n : NodeId) → barrier n.0 ≡ is_any (part.behind n)) → AreMarked p part.need subject → (c : Cut) (t : Target) →
      IsListed (list_pairs barrier subject (Start ∷ []) p.body) (record { cut = c; target = t }) → IsListed (pairs_in (part_conditions p q part)) (record { cut = c; target = t })
  pairs_conditioned barrier subject barriers marked c t h =
      let k = pairs_back p q part barrier subject barriers c t marked h in
      to_each_target (list_targets p p.body) c t (not_apart c t k) k
