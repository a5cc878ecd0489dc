-- What is counted while a text is read: open constructs, and operators that stand in one place.
use Rattle.std.specs.Prelude.{◌≡◌, ℕ, ◌+◌, ◌-◌, ◌≤◌, ◌++◌, fold}
use Rattle.ac_tree.specs.declared.limit.LimitKind.TheVariants as limit
use Rattle.ac_tree.specs.Limits.{limit_of}
use Rattle.ac_tree.specs.declared.token.Keyword.TheVariants as keyword
use Rattle.ac_tree.specs.declared.token.Mark.{Mark}
use Rattle.ac_tree.specs.declared.token.Mark.TheVariants as mark
use Rattle.ac_tree.specs.declared.token.Sign.TheVariants as sign
use Rattle.ac_tree.specs.Grammar.{Tokens}

-- ( [ { if for while open a construct, and ) ] } end close one
abbrev pub nested : ℕ → Mark → ℕ
nested n (mark.Sign sign.OpenParen) = n + 1
nested n (mark.Sign sign.OpenBracket) = n + 1
nested n (mark.Sign sign.OpenBrace) = n + 1
nested n (mark.Keyword keyword.If) = n + 1
nested n (mark.Keyword keyword.For) = n + 1
nested n (mark.Keyword keyword.While) = n + 1
nested n (mark.Sign sign.CloseParen) = n - 1
nested n (mark.Sign sign.CloseBracket) = n - 1
nested n (mark.Sign sign.CloseBrace) = n - 1
nested n (mark.Keyword keyword.End) = n - 1
nested n _ = n

-- + - * and or are counted since the last ; then else do to begin end
abbrev pub operated : ℕ → Mark → ℕ
operated n (mark.Sign sign.Plus) = n + 1
operated n (mark.Sign sign.Minus) = n + 1
operated n (mark.Sign sign.Star) = n + 1
operated n (mark.Keyword keyword.And) = n + 1
operated n (mark.Keyword keyword.Or) = n + 1
operated n (mark.Sign sign.Semicolon) = 0
operated n (mark.Keyword keyword.Then) = 0
operated n (mark.Keyword keyword.Else) = 0
operated n (mark.Keyword keyword.Do) = 0
operated n (mark.Keyword keyword.To) = 0
operated n (mark.Keyword keyword.Begin) = 0
operated n (mark.Keyword keyword.End) = 0
operated n _ = n

-- the numbers at the last of these tokens, itself counted
abbrev pub nesting_of : Tokens → ℕ
nesting_of ts = fold (λ n t. nested n t.mark) 0 ts

abbrev pub operators_of : Tokens → ℕ
operators_of ts = fold (λ n t. operated n t.mark) 0 ts

-- at each token the constructs that are open and the operators that stand in one place are within their limits
abbrev pub StaysWithin : Tokens → Type 0
StaysWithin ts = (before after : Tokens) → ts ≡ before ++ after → (nesting_of before ≤ limit_of limit.Nesting) × (operators_of before ≤ limit_of limit.Operators)
