-- A block, or the body of a program, in front of the frames of the rest.
use Rattle.std.proofs.Common.{◌≡◌, List, [], ◌∷◌, ◌++◌, map, Option, None, refl, sym, ap, subst}
use Rattle.ac_tree.specs.declared.path.Target.{Target}
use Rattle.ac_tree.specs.declared.program.Program.{Program}
use Rattle.ac_tree.specs.declared.program.Stmt.{Stmt}
use Rattle.ac_tree.specs.declared.program.StmtKind.{Row_of-Stmt, end_of-Stmt, more_of-Stmt}
use Rattle.ac_run.specs.declared.start.Start.{Start}
use Rattle.ac_run.specs.Declarations.{NameBytes}
use Rattle.ac_run.specs.Run.{Do, block}
use Rattle.ac_logic.specs.declared.formula.Formula.{Formula}
use Rattle.ac_logic.specs.Meaning.{Valuation}
use Rattle.ac_conditions.specs.Part.{Part}
use Rattle.ac_conditions.specs.Preconditions.{past_barrier, before, before_block, before_list}
use Rattle.ac_soundness.specs.Frames.{Frame, Statement, WhileAgain, EndOf, ForTest, ForTurn, enter, enter_list, tasks_of, NoTest, NoTestBehind, RankedFrames}
use Rattle.ac_soundness.specs.Ranked.{RankedBlock, RankedList}
use Rattle.ac_soundness.specs.RunInvariant.{path_formula, RestValid, LoopFacts}
use Rattle.ac_soundness.specs.Validity.{FollowsBehind, Valid, ValidBlock, ValidList}

pub behind_plain : (fs : List Frame) → NoTest fs → NoTestBehind fs
behind_plain [] h = tt
behind_plain (Statement st ∷ fs) h = h
behind_plain (WhileAgain st ∷ fs) h = h
behind_plain (EndOf n ∷ fs) h = h
behind_plain (ForTest l v ∷ fs) h = absurd h
behind_plain (ForTurn l v gs ms ∷ fs) h = h

pub tasks_enter : {k : _} (row : Row_of-Stmt k) (fs : List Frame) → tasks_of (enter row fs) ≡ map Do (block row) ++ tasks_of fs
tasks_enter end_of-Stmt fs = refl
tasks_enter (more_of-Stmt n st rest) fs = ap (λ ts. Do (record { node = n; kind = st }) ∷ ts) (tasks_enter rest fs)

pub plain_enter : {k : _} (row : Row_of-Stmt k) (fs : List Frame) → NoTest fs → NoTest (enter row fs)
plain_enter end_of-Stmt fs h = h
plain_enter (more_of-Stmt n st rest) fs h = plain_enter rest fs h

pub tasks_list : (sts : List Stmt) → tasks_of (enter_list sts) ≡ map Do sts
tasks_list [] = refl
tasks_list (st ∷ sts) = ap (λ ts. Do st ∷ ts) (tasks_list sts)

pub plain_list : (sts : List Stmt) → NoTest (enter_list sts)
plain_list [] = tt
plain_list (st ∷ sts) = plain_list sts

module _ (p : Program) (start : Start) where
  pub ranked_enter : {k : _} (ns : List NameBytes) (row : Row_of-Stmt k) (fs : List Frame) → RankedBlock p start ns row → RankedFrames p start ns fs → RankedFrames p start ns (enter row fs)
  ranked_enter ns end_of-Stmt fs v h = h
  ranked_enter ns (more_of-Stmt n st rest) fs v h = (v.0, ranked_enter ns rest fs v.1 h)

  pub ranked_list : (sts : List Stmt) → RankedList p start [] sts → RankedFrames p start [] (enter_list sts)
  ranked_list [] h = tt
  ranked_list (st ∷ sts) h = (h.0, ranked_list sts h.1)

module _ (p : Program) (part : Part) where
  pub path_enter : {k : _} (t : Target) (row : Row_of-Stmt k) (fs : List Frame) → path_formula p part t (enter row fs) ≡ before_block p part t row (path_formula p part t fs)
  path_enter t end_of-Stmt fs = refl
  path_enter t (more_of-Stmt n st rest) fs = ap (λ behind. before p part t n.id st (past_barrier t n.id (part.behind n.id) behind)) (path_enter t rest fs)

  pub valid_enter : {k : _} (hs : List Formula) (t : Target) (row : Row_of-Stmt k) (fs : List Frame) → ValidBlock p part t hs row (path_formula p part t fs) → RestValid p part hs t fs → RestValid p part hs t (enter row fs)
  valid_enter hs t end_of-Stmt fs v h = h
  valid_enter hs t (more_of-Stmt n st rest) fs v h =
      let e = sym (path_enter t rest fs) in (
        subst (λ (behind : Option Formula). Valid p part t hs n.id st (past_barrier t n.id (part.behind n.id) behind)) e v.0,
        (subst (λ (behind : Option Formula). FollowsBehind hs n.id (part.behind n.id) behind) e v.1, valid_enter hs t rest fs v.2 h),
      )

  pub facts_enter : {k : _} (base hs : List Formula) (w : Valuation) (row : Row_of-Stmt k) (fs : List Frame) → LoopFacts p part base hs w fs → LoopFacts p part base hs w (enter row fs)
  facts_enter base hs w end_of-Stmt fs h = h
  facts_enter base hs w (more_of-Stmt n st rest) fs h = facts_enter base hs w rest fs h

  pub path_list : (t : Target) (sts : List Stmt) → path_formula p part t (enter_list sts) ≡ before_list p part t sts None
  path_list t [] = refl
  path_list t (st ∷ sts) = ap (λ behind. before p part t st.node.id st.kind (past_barrier t st.node.id (part.behind st.node.id) behind)) (path_list t sts)

  pub valid_list : (base : List Formula) (t : Target) (sts : List Stmt) → ValidList p part t base sts None → RestValid p part base t (enter_list sts)
  valid_list base t [] v = tt
  valid_list base t (st ∷ sts) v =
      let e = sym (path_list t sts) in (
        subst (λ (behind : Option Formula). Valid p part t base st.node.id st.kind (past_barrier t st.node.id (part.behind st.node.id) behind)) e v.0,
        (subst (λ (behind : Option Formula). FollowsBehind base st.node.id (part.behind st.node.id) behind) e v.1, valid_list base t sts v.2),
      )

  pub facts_list : (base : List Formula) (w : Valuation) (sts : List Stmt) → LoopFacts p part base base w (enter_list sts)
  facts_list base w [] = refl
  facts_list base w (st ∷ sts) = facts_list base w sts
