-- How the tokens of a code are read as those of a program: a metavariable for a condition is read as the comparison `?c = ?c`,
-- one for a run of statements as the statement `use @b as @b;`, and each other token as it stands.
use Rattle.std.specs.Prelude.{ℕ, List, [], ◌∷◌, ◌++◌, Bool, false, if◌then◌else◌}
use Rattle.ac_tree.specs.declared.program.Stmt.{Stmt}
use Rattle.ac_tree.specs.declared.token.Keyword.TheVariants as keyword
use Rattle.ac_tree.specs.declared.token.Mark.{Mark}
use Rattle.ac_tree.specs.declared.token.Mark.TheVariants as mark
use Rattle.ac_tree.specs.declared.token.Sign.TheVariants as sign
use Rattle.ac_tree.specs.declared.token.Token.{Token}
use Rattle.ac_tree.specs.Grammar.{Tokens, SpellsBlock, keyword_at, sign_at}
use Rattle.ac_parse.specs.Limits.{StaysWithin}
use Rattle.ac_pattern_tokens.specs.Signs.{question, at_sign, has_sign}

abbrev pub mark_has_sign : ℕ → Mark → Bool
mark_has_sign s (mark.Name x) = has_sign s x
mark_has_sign s _ = false

abbrev pub spread_token : Token → Tokens
spread_token t =
    if mark_has_sign question t.mark then t ∷ sign_at sign.Equal t.span ∷ t ∷ [] else
    if mark_has_sign at_sign t.mark then keyword_at keyword.Use t.span ∷ t ∷ keyword_at keyword.As t.span ∷ t ∷ sign_at sign.Semicolon t.span ∷ [] else
    t ∷ []

abbrev pub spread : Tokens → Tokens
spread [] = []
spread (t ∷ ts) = spread_token t ++ spread ts

-- the tokens of a code spell this block, and stay within the limits on nesting and operators, where a metavariable counts as a name
pub record SpellsCodeBlock (xs : List Stmt) (ts : Tokens) : Type 0 where
  pub spelled : SpellsBlock xs (spread ts)
  pub stays : StaysWithin ts

abbrev pub SpellsNone : Tokens → Type 0
SpellsNone ts = (xs : List Stmt) → SpellsCodeBlock xs ts → ⊥
