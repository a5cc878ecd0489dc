-- What the policies give is plain: the terms of extents, needs, effects and known facts.
-- It serves the proofs of the laws: no promise rests on it.
use Rattle.std.proofs.Common.{ℕ, ◌^◌, ◌/◌, ◌%◌, ◌<◌, nat_lt, ℤ, pos, Bool, true, false, Option, Some, None, refl, arith, if◌then◌else◌}
use Rattle.ac_tree.specs.declared.program.Extent.{Extent}
use Rattle.ac_tree.specs.declared.program.Extent.TheVariants.{Lit, Named}
use Rattle.ac_tree.specs.declared.program.Extents.TheVariants.{One, Two}
use Rattle.ac_tree.specs.declared.program.ItemKind.{ItemKind}
use Rattle.ac_tree.specs.declared.program.ItemKind.TheVariants.{Const, InputScalar, InputArray, VarScalar, VarArray}
use Rattle.ac_tree.specs.declared.program.Program.{Program}
use Rattle.ac_run.specs.Declarations.{NameBytes, constant_of}
use Rattle.ac_logic.specs.declared.formula.Sym.TheVariants.{Value}
use Rattle.ac_logic.specs.declared.formula.Term.{Term, Num}
use Rattle.ac_logic.specs.Bounds.{IsTermClosedIn}
use Rattle.ac_logic.specs.Patterns.{Scalar, Sum}
use Rattle.ac_policy.specs.declared.extents.ExtentTerms.{ExtentTerms}
use Rattle.ac_policy.specs.declared.extents.ExtentTerms.TheVariants.{NoExtent, OneExtent, TwoExtents}
use Rattle.ac_policy.specs.Extents.{extent_term, extent_terms_in, indexes_within}
use Rattle.ac_policy.specs.Init.{marked_formula, all_marked_formula, marking}
use Rattle.ac_policy.specs.Laws.{IsPlainIf, IsShadowChange}
use Rattle.ac_policy.specs.Plain.{HasNoFreshInTerm, IsPlain, IsPlainTerm}
use Rattle.ac_policy.specs.Symm.{symmetric_formula}
use Rattle.ac_policy.specs.Terms.{literal_term, constant_term_or, scalar_term}
use Rattle.ac_policy.specs.Opened.{hidden, formula_shape, formula_child, term_shape, term_child, array_shape, array_child}

-- no `Bound` stands in the term, so it is closed inside any number of `all`, and no new name
abbrev pub IsGroundTerm : Term → Type 0
IsGroundTerm t = ((d : ℕ) → IsTermClosedIn d t) × HasNoFreshInTerm t

pub literal_ground : (n : ℕ) → IsGroundTerm (literal_term n)
unfolding hidden term_shape term_child
literal_ground n = by (nat_lt n (2 ^ 63))
  where
    by : (fits : Bool) → IsGroundTerm (if fits then Num (pos n) else Sum (Sum (Num (pos (n / 2))) (Num (pos (n / 2)))) (Num (pos (n % 2))))
    by true = ((λ d. tt), tt)
    by false = ((λ d. ((tt, tt), tt)), ((tt, tt), tt))

pub scalar_ground : (p : Program) (x : NameBytes) → IsGroundTerm (scalar_term p x)
unfolding hidden term_shape term_child
scalar_ground p x = by (constant_of p x)
  where
    by : (o : Option ℤ) → IsGroundTerm (constant_term_or o (Scalar (Value x)))
    by (Some n) = ((λ d. tt), tt)
    by None = ((λ d. tt), tt)

extent_ground : (p : Program) (e : Extent) → IsGroundTerm (extent_term p e)
extent_ground p (Lit n) = literal_ground n
extent_ground p (Named x) = scalar_ground p x

abbrev pub AreGroundExtents : ExtentTerms → Type 0
AreGroundExtents NoExtent = Unit {0}
AreGroundExtents (OneExtent e) = IsGroundTerm e
AreGroundExtents (TwoExtents e f) = IsGroundTerm e × IsGroundTerm f

pub extents_ground : (p : Program) (k : Option ItemKind) → AreGroundExtents (extent_terms_in p k)
extents_ground p None = tt
extents_ground p (Some (Const v)) = tt
extents_ground p (Some (InputScalar lo hi)) = tt
extents_ground p (Some VarScalar) = tt
extents_ground p (Some (InputArray (One e) lo hi)) = extent_ground p e
extents_ground p (Some (InputArray (Two e f) lo hi)) = (extent_ground p e, extent_ground p f)
extents_ground p (Some (VarArray (One e))) = extent_ground p e
extents_ground p (Some (VarArray (Two e f))) = (extent_ground p e, extent_ground p f)

in_one : 0 < 1
in_one = omega arith

inner_of_two : 0 < 2
inner_of_two = omega arith

outer_of_two : 1 < 2
outer_of_two = omega arith

pub marked_plain : (z : ExtentTerms) (x : NameBytes) (i j : Term) → IsPlainTerm i → IsPlainTerm j → IsPlain (marked_formula z x i j)
unfolding hidden formula_shape formula_child term_shape term_child array_shape array_child
marked_plain NoExtent x i j h k = record { closed = (tt, tt); unlabelled = refl; no_fresh = (tt, tt) }
marked_plain (OneExtent e) x i j h k = record { closed = ((tt, h.closed, k.closed), tt); unlabelled = refl; no_fresh = ((tt, h.no_fresh, k.no_fresh), tt) }
marked_plain (TwoExtents e f) x i j h k = record { closed = ((tt, h.closed, k.closed), tt); unlabelled = refl; no_fresh = ((tt, h.no_fresh, k.no_fresh), tt) }

pub all_marked_plain : (z : ExtentTerms) (x : NameBytes) → AreGroundExtents z → IsPlain (all_marked_formula z x)
unfolding hidden formula_shape formula_child term_shape term_child array_shape array_child
all_marked_plain NoExtent x g = record { closed = (tt, tt); unlabelled = refl; no_fresh = (tt, tt) }
all_marked_plain (OneExtent e) x g = record {
  closed = (((tt, in_one), ((in_one, tt), g.0 1)), ((tt, in_one, tt), tt));
  unlabelled = refl;
  no_fresh = (((tt, tt), ((tt, tt), g.1)), ((tt, tt, tt), tt));
}
all_marked_plain (TwoExtents e f) x g = record {
  closed = ((((tt, outer_of_two), ((outer_of_two, tt), g.0.0 2)), ((tt, inner_of_two), ((inner_of_two, tt), g.1.0 2))), ((tt, outer_of_two, inner_of_two), tt));
  unlabelled = refl;
  no_fresh = ((((tt, tt), ((tt, tt), g.0.1)), ((tt, tt), ((tt, tt), g.1.1))), ((tt, tt, tt), tt));
}

pub within_plain : (z : ExtentTerms) (i j : Term) → AreGroundExtents z → IsPlainTerm i → IsPlainTerm j → IsPlainIf (indexes_within z i j)
unfolding hidden formula_shape formula_child term_shape term_child array_shape array_child
within_plain NoExtent i j g h k = tt
within_plain (OneExtent e) i j g h k = record {
  closed = ((tt, h.closed), ((h.closed, tt), g.0 0));
  unlabelled = refl;
  no_fresh = ((tt, h.no_fresh), ((h.no_fresh, tt), g.1));
}
within_plain (TwoExtents e f) i j g h k = record {
  closed = (((tt, h.closed), ((h.closed, tt), g.0.0 0)), ((tt, k.closed), ((k.closed, tt), g.1.0 0)));
  unlabelled = refl;
  no_fresh = (((tt, h.no_fresh), ((h.no_fresh, tt), g.0.1)), ((tt, k.no_fresh), ((k.no_fresh, tt), g.1.1)));
}

pub symmetric_plain : (z : ExtentTerms) (x : NameBytes) → AreGroundExtents z → IsPlain (symmetric_formula z x)
unfolding hidden formula_shape formula_child term_shape term_child array_shape array_child
symmetric_plain NoExtent x g = record { closed = tt; unlabelled = refl; no_fresh = tt }
symmetric_plain (OneExtent e) x g = record { closed = tt; unlabelled = refl; no_fresh = tt }
symmetric_plain (TwoExtents e f) x g = record {
  closed = ((g.0.0 0, g.1.0 0), ((((tt, outer_of_two), ((outer_of_two, tt), g.0.0 2)), ((tt, inner_of_two), ((inner_of_two, tt), g.1.0 2))), ((tt, outer_of_two, inner_of_two), (tt, inner_of_two, outer_of_two))));
  unlabelled = refl;
  no_fresh = ((g.0.1, g.1.1), ((((tt, tt), ((tt, tt), g.0.1)), ((tt, tt), ((tt, tt), g.1.1))), ((tt, tt, tt), (tt, tt, tt))));
}

pub marking_plain : (z : ExtentTerms) (x : NameBytes) (i j : Term) → IsPlainTerm i → IsPlainTerm j → IsShadowChange (marking z x i j)
unfolding hidden term_shape term_child array_shape array_child
marking_plain NoExtent x i j h k = record { closed = tt; no_fresh = tt }
marking_plain (OneExtent e) x i j h k = record { closed = (tt, h.closed, k.closed, tt); no_fresh = (tt, h.no_fresh, k.no_fresh, tt) }
marking_plain (TwoExtents e f) x i j h k = record { closed = (tt, h.closed, k.closed, tt); no_fresh = (tt, h.no_fresh, k.no_fresh, tt) }
