-- Each label of a hypothesis fits; what it is for a label to fit is left open.
use Rattle.std.proofs.Common.{◌≡◌, ℤ, List, [], ◌∷◌, ◌++◌, map, true, Option, Some, None, refl, inl, inr}
use Rattle.ac_tree.specs.declared.node.NodeId.{NodeId}
use Rattle.ac_tree.specs.declared.program.Cond.{Cond}
use Rattle.ac_tree.specs.declared.program.Expr.{Expr}
use Rattle.ac_tree.specs.declared.program.Item.{Item}
use Rattle.ac_tree.specs.declared.program.ItemKind.{ItemKind}
use Rattle.ac_tree.specs.declared.program.ItemKind.TheVariants.{Const, InputScalar, InputArray, VarScalar, VarArray}
use Rattle.ac_tree.specs.declared.program.Program.{Program}
use Rattle.ac_run.specs.Declarations.{NameBytes}
use Rattle.ac_flow.specs.Listed.{IsListed}
use Rattle.ac_logic.specs.declared.formula.Formula.{Formula}
use Rattle.ac_logic.specs.declared.formula.Sym.TheVariants.{Value}
use Rattle.ac_logic.specs.declared.label.Label.{Label}
use Rattle.ac_logic.specs.declared.label.LabelKind.{LabelKind}
use Rattle.ac_logic.specs.declared.label.LabelKind.TheVariants as label
use Rattle.ac_logic.specs.Patterns.{Negation as Not}
use Rattle.ac_policy.specs.declared.extents.ExtentTerms.{ExtentTerms}
use Rattle.ac_policy.specs.declared.extents.ExtentTerms.TheVariants.{NoExtent, OneExtent, TwoExtents}
use Rattle.ac_policy.specs.declared.site.Site.{Site}
use Rattle.ac_policy.specs.Extents.{cell_term, row_index, column_index, for_all_cells, terms_of_extents}
use Rattle.ac_policy.specs.Sites.{sites_of}
use Rattle.ac_conditions.proofs.LabelsFit.{IsUnlabelled, AreUnlabelled, IsUnlabelledIf, none_joined, test_bare, not_bare, Fit, bare_fits, labelled_fits, implied_fits}
use Rattle.ac_conditions.specs.Conditions.{implied_by}
use Rattle.ac_conditions.specs.Hypotheses.{and_known, in_body, at_for_test, at_for_exit, at_while_exit}
use Rattle.ac_conditions.specs.KindsFit.{is_input_kind}
use Rattle.ac_conditions.specs.Opened.{hidden, formula_shape, formula_child, term_shape, term_child}
use Rattle.ac_conditions.specs.Part.{Part}
use Rattle.ac_conditions.specs.Ranges.{between, cells_between, item_ranges, labelled_ranges, ranges}
use Rattle.ac_conditions.specs.Tests.{labelled, formula_of}

cells_bare : (extents : ExtentTerms) (f : Formula) → IsUnlabelled f → IsUnlabelled (for_all_cells extents f)
unfolding hidden formula_shape formula_child term_shape term_child
cells_bare NoExtent f h = h
cells_bare (OneExtent e) f h = h
cells_bare (TwoExtents d e) f h = h

between_bare : (extents : ExtentTerms) (x : NameBytes) (lo hi : ℤ) → IsUnlabelled (cells_between extents x lo hi)
unfolding hidden formula_shape formula_child
between_bare extents x lo hi = cells_bare extents (between lo (cell_term extents (Value x) (row_index extents) (column_index extents)) hi) refl

known_bare : (f : Formula) (known : Option Formula) → IsUnlabelled f → IsUnlabelledIf known → IsUnlabelled (and_known f known)
unfolding hidden formula_shape formula_child
known_bare f None h k = h
known_bare f (Some g) h k = none_joined _ _ h k

-- what of a part has no label
pub record IsBare (p : Program) (part : Part) : Type 0 where
  pub needs : (s : Site) → IsListed (sites_of p) s → IsUnlabelledIf (part.need s)
  pub knows : (x : NameBytes) → IsUnlabelledIf (part.known x)
  pub kept : (n : NodeId) → AreUnlabelled (part.invariant n)
  pub behinds : (n : NodeId) → AreUnlabelled (part.behind n)

module _ (fits : Label → Type 0) where
  abbrev Fits : LabelKind → NodeId → Type 0
  Fits kind n = fits (record { kind = kind; node = n })

  abbrev pub AllFit : List Formula → Type 0
  AllFit [] = Unit {0}
  AllFit (f ∷ fs) = Fit fits f × AllFit fs

  pub fit_append : (fs gs : List Formula) → AllFit fs → AllFit gs → AllFit (fs ++ gs)
  fit_append [] gs h k = k
  fit_append (f ∷ fs) gs h k = (h.0, fit_append fs gs h.1 k)

  pub all_labelled : (kind : LabelKind) (n : NodeId) (fs : List Formula) → Fits kind n → AreUnlabelled fs → AllFit (map (labelled kind n) fs)
  all_labelled kind n [] h k = tt
  all_labelled kind n (f ∷ fs) h k = (labelled_fits fits kind n f h (bare_fits fits f k.0), all_labelled kind n fs h k.1)

  pub implied_fit : (hs : List Formula) (f : Formula) → AllFit hs → Fit fits f → Fit fits (implied_by hs f)
  unfolding hidden formula_shape formula_child
  implied_fit [] f h k = k
  implied_fit (g ∷ hs) f h k = implied_fits fits g (implied_by hs f) h.0 (implied_fit hs f h.1 k)

  module _ (p : Program) where
    range_fits : (d : Item) (k : ItemKind) → (is_input_kind k ≡ true → Fits label.Range d.node.id) → AllFit (labelled_ranges p d (item_ranges p d.name k))
    unfolding hidden formula_shape formula_child
    range_fits d (InputScalar lo hi) h = (labelled_fits fits label.Range d.node.id (cells_between NoExtent d.name lo hi) (h refl) (bare_fits fits (cells_between NoExtent d.name lo hi) (between_bare NoExtent d.name lo hi)), tt)
    range_fits d (InputArray extents lo hi) h =
        (labelled_fits fits label.Range d.node.id (cells_between (terms_of_extents p extents) d.name lo hi) (h refl) (bare_fits fits (cells_between (terms_of_extents p extents) d.name lo hi) (between_bare (terms_of_extents p extents) d.name lo hi)), tt)
    range_fits d (Const value) h = tt
    range_fits d VarScalar h = tt
    range_fits d (VarArray extents) h = tt

    pub ranges_fit : (ds : List Item) → ((d : Item) → IsListed ds d → is_input_kind d.kind ≡ true → Fits label.Range d.node.id) → AllFit (ranges p ds)
    ranges_fit [] f = tt
    ranges_fit (d ∷ ds) f = fit_append (labelled_ranges p d (item_ranges p d.name d.kind)) (ranges p ds) (range_fits d d.kind (f d (inl refl))) (ranges_fit ds (λ x h. f x (inr h)))

    module _ (part : Part) (bare : IsBare p part) where
      known_fits : (kind : LabelKind) (n : NodeId) (x : NameBytes) (f : Formula) → Fits kind n → IsUnlabelled f → Fit fits (labelled kind n (and_known f (part.known x)))
      known_fits kind n x f h k = labelled_fits fits kind n _ h (bare_fits fits _ (known_bare f (part.known x) k (bare.knows x)))

      pub body_fits : (n : NodeId) (x : NameBytes) (a b : Expr) → Fits label.Header n → Fit fits (in_body p part n x a b)
      unfolding hidden formula_shape formula_child
      body_fits n x a b h = known_fits label.Header n x _ h refl

      pub test_fits : (n : NodeId) (x : NameBytes) (a : Expr) → Fits label.Header n → Fit fits (at_for_test p part n x a)
      unfolding hidden formula_shape formula_child
      test_fits n x a h = known_fits label.Header n x _ h refl

      pub exit_fits : (n : NodeId) (x : NameBytes) (a b : Expr) → Fits label.Exit n → Fit fits (at_for_exit p part n x a b)
      unfolding hidden formula_shape formula_child
      exit_fits n x a b h = known_fits label.Exit n x _ h refl

      pub left_fits : (n : NodeId) (c : Cond) → Fits label.Exit n → Fit fits (at_while_exit p part n c)
      unfolding hidden formula_shape formula_child
      left_fits n c h = labelled_fits fits label.Exit n (Not (formula_of p c.kind)) h (bare_fits fits (Not (formula_of p c.kind)) (not_bare (formula_of p c.kind) (test_bare p c.kind)))
