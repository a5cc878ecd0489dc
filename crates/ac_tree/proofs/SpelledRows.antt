-- Worked rows of the grammar: `var a[4]; begin a[3] := 1; end` and where its nodes stand.
use Rattle.std.specs.Prelude.{◌≡◌, refl, ℕ, [], ◌∷◌, codes}
use Rattle.ac_tree.specs.declared.node.Node.{Node}
use Rattle.ac_tree.specs.declared.node.Span.{Span}
use Rattle.ac_tree.specs.declared.program.ExprKind.TheVariants as expr
use Rattle.ac_tree.specs.declared.program.Extent.TheVariants as extent
use Rattle.ac_tree.specs.declared.program.Extents.TheVariants as extents
use Rattle.ac_tree.specs.declared.program.Index.TheVariants as index
use Rattle.ac_tree.specs.declared.program.ItemKind.TheVariants as item
use Rattle.ac_tree.specs.declared.program.Program.{Program}
use Rattle.ac_tree.specs.declared.program.StmtKind.TheVariants as stmt
use Rattle.ac_tree.specs.declared.token.Keyword.TheVariants as keyword
use Rattle.ac_tree.specs.declared.token.Sign.TheVariants as sign
use Rattle.ac_tree.specs.Grammar as g
use Rattle.ac_tree.specs.Grammar.{Tokens, name, literal, keyword_at, sign_at, SpellsProgram}
use Rattle.ac_tree.specs.Numbering.{numbered_program}
use Rattle.ac_tree.specs.Opened.{hidden, expr_shape, expr_child}

abbrev from_to : ℕ → ℕ → Span
from_to i j = record { start = i; end = j }

abbrev node : ℕ → ℕ → ℕ → Node
node n i j = record { id = record { 0 = n }; span = from_to i j }

-- var a[4]; begin a[3] := 1; end
abbrev straight_tokens : Tokens
straight_tokens =
    keyword_at keyword.Var (from_to 0 3) ∷ name (codes "a") (from_to 4 5) ∷ sign_at sign.OpenBracket (from_to 5 6) ∷ literal 4 (from_to 6 7) ∷
    sign_at sign.CloseBracket (from_to 7 8) ∷ sign_at sign.Semicolon (from_to 8 9) ∷ keyword_at keyword.Begin (from_to 10 15) ∷
    name (codes "a") (from_to 16 17) ∷ sign_at sign.OpenBracket (from_to 17 18) ∷ literal 3 (from_to 18 19) ∷ sign_at sign.CloseBracket (from_to 19 20) ∷
    sign_at sign.Assign (from_to 21 23) ∷ literal 1 (from_to 24 25) ∷ sign_at sign.Semicolon (from_to 25 26) ∷ keyword_at keyword.End (from_to 27 30) ∷ []

-- the program, where these are the numbers of its nodes
abbrev straight : (program declared assigned place value : ℕ) → Program
straight p d a i v = record {
  node = node p 0 30;
  items = record { node = node d 0 9; name = codes "a"; kind = item.VarArray (extents.One (extent.Lit 4)) } ∷ [];
  body = record { node = node a 16 26; kind = stmt.Put (codes "a") (index.One (record { node = node i 18 19; kind = expr.Num 3 })) (record { node = node v 24 25; kind = expr.Num 1 }) } ∷ [];
}

atom : (n : ℕ) (s : Span) → g.SpellsExpr g.Sum s (g.expression s (expr.Num n)) (literal n s ∷ [])
atom n s = g.sum (g.term (g.factor (g.number n s)))

straight-spelled : SpellsProgram (straight 0 0 0 0 0) straight_tokens
straight-spelled =
    g.program (from_to 10 15) (from_to 27 30)
    (g.more (g.var_array (codes "a") (from_to 0 3) (from_to 4 5) (from_to 8 9) (g.one (from_to 5 6) (from_to 7 8) (g.fixed 4 (from_to 6 7)))) g.none)
    (g.more (g.put (codes "a") (from_to 16 17) (from_to 21 23) (from_to 25 26) (g.one (from_to 17 18) (from_to 19 20) (atom 3 (from_to 18 19))) (atom 1 (from_to 24 25))) g.none)

straight-numbers : numbered_program (straight 0 0 0 0 0) ≡ straight 0 1 2 3 4
unfolding hidden expr_shape expr_child
straight-numbers = refl
