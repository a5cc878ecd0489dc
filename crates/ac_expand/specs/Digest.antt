-- Digests of terms, by which a table finds equal terms.
-- No promise rests on this file: it says what the code keeps on the way.
use Rattle.std.specs.Prelude.{ℕ, ◌+◌, ◌*◌, ◌%◌, ◌^◌, List, fold}
use Rattle.ac_logic.specs.declared.formula.Sym.{Sym}
use Rattle.ac_logic.specs.declared.formula.Sym.TheVariants.{Value, Init, Fresh}
use Rattle.ac_logic.specs.declared.formula.Term.{Term, Num, Bound}
use Rattle.ac_logic.specs.declared.formula.ArrayTerm.{ArrayTerm}
use Rattle.ac_logic.specs.Patterns.{Scalar, Array, ReadOf, Sum, Difference, Product, Negative, PutOf}
use Rattle.std.specs.Int.{cast_unsigned, w64}
use Rattle.ac_expand.specs.Opened.{hidden, term_shape, term_child, array_shape, array_child}

unfoldable pub mixed : ℕ → ℕ → ℕ
mixed d x = ((d * 31) % 2 ^ 64 + x) % 2 ^ 64

abbrev pub digest_of_name : ℕ → List ℕ → ℕ
digest_of_name d bytes = fold mixed d bytes

abbrev pub digest_of_symbol : Sym → ℕ
digest_of_symbol (Value n) = digest_of_name 1 n
digest_of_symbol (Init n) = digest_of_name 2 n
digest_of_symbol (Fresh k) = mixed 3 k

abbrev mutual
  unfolding hidden term_shape term_child array_shape array_child

  pub digest_of : Term → ℕ
  digest_of (Num n) = mixed 4 (cast_unsigned w64 n)
  digest_of (Scalar s) = digest_of_symbol s
  digest_of (Bound k) = mixed 5 k
  digest_of (ReadOf a i j) = mixed (mixed (mixed 6 (digest_of_array a)) (digest_of i)) (digest_of j)
  digest_of (Sum s t) = mixed (mixed 7 (digest_of s)) (digest_of t)
  digest_of (Difference s t) = mixed (mixed 8 (digest_of s)) (digest_of t)
  digest_of (Product s t) = mixed (mixed 9 (digest_of s)) (digest_of t)
  digest_of (Negative t) = mixed 10 (digest_of t)

  pub digest_of_array : ArrayTerm → ℕ
  digest_of_array (Array s) = digest_of_symbol s
  digest_of_array (PutOf a i j v) = mixed (mixed (mixed 11 (digest_of_array a)) (digest_of i)) (digest_of v)
