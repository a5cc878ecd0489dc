-- Well-formed annotations have no label, and those behind a node are behind a statement.
use Rattle.std.proofs.Common.{◌≡◌, ℕ, nat_eq, Bool, true, false, ◌||◌, IsTrue, List, [], ◌∷◌, All, refl, sym, ◌∙◌, ap, subst, eqb-true, inl, inr}
use Rattle.std.specs.List.{AllByRecursion}
use Rattle.std.proofs.lemmas.List.Elements.{recursion_from_All}
use Rattle.ac_tree.specs.declared.node.NodeId.{NodeId}
use Rattle.ac_tree.specs.declared.path.Place.{Place}
use Rattle.ac_tree.specs.declared.path.Place.TheVariants.{Loop, After}
use Rattle.ac_tree.specs.declared.program.Item.{Item}
use Rattle.ac_tree.specs.declared.program.Program.{Program}
use Rattle.ac_tree.specs.declared.program.Stmt.{Stmt}
use Rattle.ac_tree.specs.declared.program.StmtKind.{StmtKind, Row_of-Stmt, end_of-Stmt, more_of-Stmt, Set, Put, If', For', While', Hand, Skip}
use Rattle.ac_flow.specs.Cuts.{is_after, has_place}
use Rattle.ac_flow.specs.Listed.{IsListed}
use Rattle.ac_logic.specs.declared.condition.Annotation.{Annotation}
use Rattle.ac_logic.specs.declared.formula.Formula.{Formula, True, False, Le, Eq}
use Rattle.ac_logic.specs.Labels.{labels_of}
use Rattle.ac_logic.specs.Patterns.{Negation, Conjunction, Disjunction, Implication, Every, Labelled}
use Rattle.ac_conditions.proofs.BarriersOfCuts.{any_append}
use Rattle.ac_conditions.proofs.LabelsFit.{none_joined}
use Rattle.ac_conditions.specs.Part.{places_of as stated_places}
use Rattle.ac_conditions.specs.Statements.{is_in_stmt, is_in_block, is_in_list, is_statement, AreBehindStatements}
use Rattle.ac_kernel.specs.Opened.{hidden, formula_shape, formula_child}
use Rattle.ac_kernel.specs.Places.{stmt_places, block_places, list_places, places_of, is_place}
use Rattle.ac_kernel.specs.WellFormed.{KeepsRanks, IsWellFormed}

or_false : (b : Bool) → (b || false) ≡ b
or_false true = refl
or_false false = refl

-- a place stands behind a node exactly where the node is a statement
module _ (k : ℕ) where
  mutual
    stmt_placed : (n : NodeId) (st : StmtKind) → has_place (stmt_places n st) k ≡ is_in_stmt k n st
    stmt_placed n (If' c i y j z) = ap (λ b. nat_eq n.0 k || b) (any_append (is_after k) (block_places y) (block_places z) ∙ (ap (λ b. b || has_place (block_places z) k) (block_placed y) ∙ ap (λ b. is_in_block k y || b) (block_placed z)))
    stmt_placed n (For' x lo hi i body) = ap (λ b. nat_eq n.0 k || b) (block_placed body)
    stmt_placed n (While' c i body) = ap (λ b. nat_eq n.0 k || b) (block_placed body)
    stmt_placed n (Set x e) = or_false (nat_eq n.0 k)
    stmt_placed n (Put x i e) = or_false (nat_eq n.0 k)
    stmt_placed n (Hand x role) = or_false (nat_eq n.0 k)
    stmt_placed n Skip = or_false (nat_eq n.0 k)

    block_placed : {a : _} (row : Row_of-Stmt a) → has_place (block_places row) k ≡ is_in_block k row
    block_placed end_of-Stmt = refl
    block_placed (more_of-Stmt n st rest) =
        any_append (is_after k) (stmt_places n.id st) (block_places rest) ∙ (ap (λ b. b || has_place (block_places rest) k) (stmt_placed n.id st) ∙ ap (λ b. is_in_stmt k n.id st || b) (block_placed rest))

  list_placed : (sts : List Stmt) → has_place (list_places sts) k ≡ is_in_list k sts
  list_placed [] = refl
  list_placed (st ∷ rest) =
      any_append (is_after k) (stmt_places st.node.id st.kind) (list_places rest)
      ∙ (ap (λ b. b || has_place (list_places rest) k) (stmt_placed st.node.id st.kind) ∙ ap (λ b. is_in_stmt k st.node.id st.kind || b) (list_placed rest))

module _ (p : Program) where
  behind_one : (k : ℕ) (place : Place) → IsTrue (is_place (places_of p) place) → is_after k place ≡ true → is_statement p k ≡ true
  behind_one k (Loop n) h e = cc
  behind_one k (After n) h e = subst (λ m. is_statement p m ≡ true) (eqb-true n.0 k e) (sym (list_placed n.0 p.body) ∙ h)

  behind_all : (annotations : List Annotation) → AllByRecursion (IsWellFormed p) annotations → AreBehindStatements p (stated_places annotations)
  behind_all [] h k e = cc
  behind_all (a ∷ annotations) h k e = by (is_after k a.place) refl e (λ f. behind_all annotations h.1 k f)
    where
      by : (b : Bool) → is_after k a.place ≡ b → (b || has_place (stated_places annotations) k) ≡ true → (has_place (stated_places annotations) k ≡ true → is_statement p k ≡ true) → is_statement p k ≡ true
      by true here f later = behind_one k a.place h.0.place here
      by false here f later = later f

  unlabelled : (ds : List Item) (f : Formula) → KeepsRanks ds f → labels_of f ≡ []
  unfolding hidden formula_shape formula_child
  unlabelled ds True h = refl
  unlabelled ds False h = refl
  unlabelled ds (Le s t) h = refl
  unlabelled ds (Eq s t) h = refl
  unlabelled ds (Negation f) h = unlabelled ds f h
  unlabelled ds (Conjunction f g) h = none_joined (labels_of f) (labels_of g) (unlabelled ds f h.0) (unlabelled ds g h.1)
  unlabelled ds (Disjunction f g) h = none_joined (labels_of f) (labels_of g) (unlabelled ds f h.0) (unlabelled ds g h.1)
  unlabelled ds (Implication f g) h = none_joined (labels_of f) (labels_of g) (unlabelled ds f h.0) (unlabelled ds g h.1)
  unlabelled ds (Every f) h = unlabelled ds f h
  unlabelled ds (Labelled l f) h = absurd h

  all_unlabelled : (annotations : List Annotation) → AllByRecursion (IsWellFormed p) annotations → (a : Annotation) → IsListed annotations a → labels_of a.formula ≡ []
  all_unlabelled [] h a i = absurd i
  all_unlabelled (b ∷ annotations) h a (inl e) = subst (λ x. labels_of x.formula ≡ []) (sym e) (unlabelled p.items b.formula h.0.ranks)
  all_unlabelled (b ∷ annotations) h a (inr i) = all_unlabelled annotations h.1 a i

  pub behind_statements : (annotations : List Annotation) → All (IsWellFormed p) annotations → AreBehindStatements p (stated_places annotations)
  behind_statements annotations h = behind_all annotations (recursion_from_All (IsWellFormed p) annotations h)

  pub without_labels : (annotations : List Annotation) → All (IsWellFormed p) annotations → (a : Annotation) → IsListed annotations a → labels_of a.formula ≡ []
  without_labels annotations h = all_unlabelled annotations (recursion_from_All (IsWellFormed p) annotations h)
