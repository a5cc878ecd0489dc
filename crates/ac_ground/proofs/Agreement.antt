-- The tests of two reads, of a read of a `put` and of two sums say what the clauses say.
use Rattle.std.proofs.Common.{◌≡◌, Bool, true, false, not, List, refl, sym, ◌∙◌, ap, if◌then◌else◌, ◌&&◌, ◌||◌}
use Rattle.std.proofs.lemmas.Bool.{false≢true}
use Rattle.std.proofs.lemmas.Bool.Decides.{Decides-int_eq}
use Rattle.std.specs.List.Sorted.{IsPermutation}
use Rattle.std.specs.Ordering.{int_eq}
use Rattle.ac_logic.specs.declared.formula.ArrayTerm.{ArrayTerm}
use Rattle.ac_logic.specs.declared.formula.Term.{Term}
use Rattle.ac_logic.specs.Patterns.{Array, PutOf}
use Rattle.ac_linear.specs.TermEquality.{array_eq}
use Rattle.ac_linear.specs.declared.linear.Part.{Part}
use Rattle.ac_linear.proofs.Equal.{array_same}
use Rattle.ac_ground.specs.declared.cell.Cell.{Cell}
use Rattle.ac_ground.specs.declared.sum.NumberedSum.{NumberedSum}
use Rattle.ac_ground.specs.declared.valuation.Valuation.{Valuation}
use Rattle.ac_ground.specs.Falsifies.{AgreeInParts, AgreeOn, IsReadOfPut, numbered}
use Rattle.ac_ground.specs.Numbers.{equal, number_of_side}
use Rattle.ac_ground.specs.Reads.{cell, read}
use Rattle.ac_ground.specs.Sums.{pairs_off, sums_pass}
use Rattle.ac_ground.specs.Table.{agrees, is_read_of_put}
use Rattle.ac_ground.specs.Opened.{hidden, term_shape, term_child, array_shape, array_child}
use Rattle.ac_ground.proofs.Once.{array_true, both, left, right}
use Rattle.ac_ground.proofs.Pairing.{paired_permute, permuted_pair}

then_true : (b e : Bool) → (if b then e else true) ≡ true → b ≡ true → e ≡ true
then_true true e h k = h
then_true false e h k = absurd (false≢true k)

else_true : (b e : Bool) → (b ≡ true → e ≡ true) → (if b then e else true) ≡ true
else_true true e f = f refl
else_true false e f = refl

pub agree : (v : Valuation) (c d : Cell) → agrees v c d ≡ true → AgreeOn v c d
agree v c d h a i j =
    let e : array_eq c.array d.array ≡ true = array_true c.array d.array a in
    then_true _ _ h (both _ _ (both _ _ e i) (both _ _ e j))

pub agree_back : (v : Valuation) (c d : Cell) → AgreeOn v c d → agrees v c d ≡ true
agree_back v c d f =
    else_true _ _ (λ m. f (array_same c.array d.array (left _ _ (left _ _ m))) (right _ _ (left _ _ m)) (right _ _ (right _ _ m)))

branches : (b x y : Bool) → (if b then x else y) ≡ true → (b ≡ true → x ≡ true) × (b ≡ false → y ≡ true)
branches true x y h = (λ e. h, λ e. absurd (false≢true (sym e)))
branches false x y h = (λ e. absurd (false≢true e), λ e. h)

branch : (b x y : Bool) → (b ≡ true → x ≡ true) → (b ≡ false → y ≡ true) → (if b then x else y) ≡ true
branch true x y f g = f refl
branch false x y f g = g refl

pub put : (v : Valuation) (a : ArrayTerm) (k l : Term) → is_read_of_put v a k l ≡ true → IsReadOfPut v a k l
unfolding hidden term_shape term_child array_shape array_child
put v (Array s) k l h = tt
put v (PutOf a i j w) k l h = branches (equal v i k && equal v j l) _ _ h

pub put_back : (v : Valuation) (a : ArrayTerm) (k l : Term) → IsReadOfPut v a k l → is_read_of_put v a k l ≡ true
unfolding hidden term_shape term_child array_shape array_child
put_back v (Array s) k l h = refl
put_back v (PutOf a i j w) k l h = branch (equal v i k && equal v j l) _ _ h.0 h.1

abbrev pub numbered_sum : Valuation → List Part → NumberedSum
numbered_sum v ps = record { parts = numbered v ps; number = number_of_side v ps }

no_way : (b c : Bool) → (b || not c) ≡ true → c ≡ true → b ≡ true
no_way true c h k = refl
no_way false true h k = absurd (false≢true h)
no_way false false h k = absurd (false≢true k)

either : (b c : Bool) → (c ≡ true → b ≡ true) → (b || not c) ≡ true
either true c f = refl
either false true f = f refl
either false false f = refl

pub sums : (v : Valuation) (ps qs : List Part) → sums_pass (numbered_sum v ps) (numbered_sum v qs) ≡ true → AgreeInParts v ps qs
sums v ps qs h p = (Decides-int_eq (number_of_side v ps) (number_of_side v qs)).0 (no_way (int_eq (number_of_side v ps) (number_of_side v qs)) (pairs_off (numbered v ps) (numbered v qs)) h (permuted_pair _ _ p))

pub sums_back : (v : Valuation) (ps qs : List Part) → AgreeInParts v ps qs → sums_pass (numbered_sum v ps) (numbered_sum v qs) ≡ true
sums_back v ps qs f = either (int_eq (number_of_side v ps) (number_of_side v qs)) (pairs_off (numbered v ps) (numbered v qs)) (λ e. (Decides-int_eq (number_of_side v ps) (number_of_side v qs)).1 (f (paired_permute _ _ e)))
