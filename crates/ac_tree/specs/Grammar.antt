-- Which tokens spell which tree: a line for each production.
-- A span goes from the first token of a production to the last. A phrase is known by its outer span, which counts the
-- parentheses or braces round it, and by its tree, whose own span leaves them out. Here every node has the number 0.
use Rattle.std.specs.Prelude.{ℕ, List, [], ◌∷◌, ◌++◌, ℤ, pos, neg_ℤ}
use Rattle.ac_tree.specs.declared.node.Node.{Node}
use Rattle.ac_tree.specs.declared.node.Span.{Span}
use Rattle.ac_tree.specs.declared.program.Cond.{Cond}
use Rattle.ac_tree.specs.declared.program.CondKind.{CondKind}
use Rattle.ac_tree.specs.declared.program.CondKind.TheVariants as cond
use Rattle.ac_tree.specs.declared.program.Expr.{Expr}
use Rattle.ac_tree.specs.declared.program.ExprKind.{ExprKind}
use Rattle.ac_tree.specs.declared.program.ExprKind.TheVariants as expr
use Rattle.ac_tree.specs.declared.program.Extent.{Extent}
use Rattle.ac_tree.specs.declared.program.Extent.TheVariants as extent
use Rattle.ac_tree.specs.declared.program.Extents.{Extents}
use Rattle.ac_tree.specs.declared.program.Extents.TheVariants as extents
use Rattle.ac_tree.specs.declared.program.Index.{Index}
use Rattle.ac_tree.specs.declared.program.Index.TheVariants as index
use Rattle.ac_tree.specs.declared.program.Item.{Item}
use Rattle.ac_tree.specs.declared.program.ItemKind.{ItemKind}
use Rattle.ac_tree.specs.declared.program.ItemKind.TheVariants as item
use Rattle.ac_tree.specs.declared.program.Program.{Program}
use Rattle.ac_tree.specs.declared.program.RelOp.{RelOp}
use Rattle.ac_tree.specs.declared.program.RelOp.TheVariants as relation
use Rattle.ac_tree.specs.declared.program.Stmt.{Stmt}
use Rattle.ac_tree.specs.declared.program.StmtKind.{StmtKind}
use Rattle.ac_tree.specs.declared.program.StmtKind.TheVariants as stmt
use Rattle.ac_tree.specs.declared.token.Keyword.{Keyword}
use Rattle.ac_tree.specs.declared.token.Keyword.TheVariants as keyword
use Rattle.ac_tree.specs.declared.token.Mark.{Mark}
use Rattle.ac_tree.specs.declared.token.Mark.TheVariants as mark
use Rattle.ac_tree.specs.declared.token.Sign.{Sign}
use Rattle.ac_tree.specs.declared.token.Sign.TheVariants as sign
use Rattle.ac_tree.specs.declared.token.Token.{Token}
pub use Rattle.ac_tree.specs.Names.{NameBytes}

abbrev pub Tokens : Type 0
Tokens = List Token

abbrev pub token : Mark → Span → Token
token m s = record { mark = m; span = s }

abbrev pub name : NameBytes → Span → Token
name x s = token (mark.Name x) s

abbrev pub literal : ℕ → Span → Token
literal n s = token (mark.Literal n) s

abbrev pub keyword_at : Keyword → Span → Token
keyword_at k s = token (mark.Keyword k) s

abbrev pub sign_at : Sign → Span → Token
sign_at g s = token (mark.Sign g) s

-- from the first to the last
abbrev pub join : Span → Span → Span
join s t = record { start = s.start; end = t.end }

abbrev pub node : Span → Node
node s = record { id = record { 0 = 0 }; span = s }

abbrev pub expression : Span → ExprKind → Expr
expression s k = record { node = node s; kind = k }

abbrev pub condition : Span → CondKind → Cond
condition s k = record { node = node s; kind = k }

abbrev pub statement : Span → StmtKind → Stmt
statement s k = record { node = node s; kind = k }

abbrev pub declaration : Span → NameBytes → ItemKind → Item
declaration s x k = record { node = node s; name = x; kind = k }

pub data ExprLevel : Type 0 where
  Sum Term Factor Atom : ExprLevel

mutual
  pub data SpellsExpr : ExprLevel → Span → Expr → Tokens → Type 0 where
    -- expr = term { ("+" | "-") term }
    sum : {s : Span} {a : Expr} {ts : Tokens} → SpellsExpr Term s a ts → SpellsExpr Sum s a ts
    plus : {s t : Span} {a b : Expr} {ts us : Tokens} (o : Span) → SpellsExpr Sum s a ts → SpellsExpr Term t b us →
        SpellsExpr Sum (join s t) (expression (join s t) (expr.Add a b)) (ts ++ sign_at sign.Plus o ∷ us)
    minus : {s t : Span} {a b : Expr} {ts us : Tokens} (o : Span) → SpellsExpr Sum s a ts → SpellsExpr Term t b us →
        SpellsExpr Sum (join s t) (expression (join s t) (expr.Sub a b)) (ts ++ sign_at sign.Minus o ∷ us)
    -- term = factor { "*" factor }
    term : {s : Span} {a : Expr} {ts : Tokens} → SpellsExpr Factor s a ts → SpellsExpr Term s a ts
    times : {s t : Span} {a b : Expr} {ts us : Tokens} (o : Span) → SpellsExpr Term s a ts → SpellsExpr Factor t b us →
        SpellsExpr Term (join s t) (expression (join s t) (expr.Mul a b)) (ts ++ sign_at sign.Star o ∷ us)
    -- factor = "-" atom | atom
    factor : {s : Span} {a : Expr} {ts : Tokens} → SpellsExpr Atom s a ts → SpellsExpr Factor s a ts
    negative : {s : Span} {a : Expr} {ts : Tokens} (o : Span) → SpellsExpr Atom s a ts →
        SpellsExpr Factor (join o s) (expression (join o s) (expr.Neg a)) (sign_at sign.Minus o ∷ ts)
    -- atom = literal | name [ index ] | "(" expr ")"
    number : (n : ℕ) (s : Span) → SpellsExpr Atom s (expression s (expr.Num n)) (literal n s ∷ [])
    scalar : (x : NameBytes) (s : Span) → SpellsExpr Atom s (expression s (expr.Get x)) (name x s ∷ [])
    read : {t : Span} {i : Index} {ts : Tokens} (x : NameBytes) (s : Span) → SpellsIndex t i ts →
        SpellsExpr Atom (join s t) (expression (join s t) (expr.Read x i)) (name x s ∷ ts)
    parentheses : {s : Span} {a : Expr} {ts : Tokens} (o c : Span) → SpellsExpr Sum s a ts →
        SpellsExpr Atom (join o c) a (sign_at sign.OpenParen o ∷ (ts ++ sign_at sign.CloseParen c ∷ []))

  -- index = "[" expr [ "," expr ] "]"
  pub data SpellsIndex : Span → Index → Tokens → Type 0 where
    one : {s : Span} {a : Expr} {ts : Tokens} (o c : Span) → SpellsExpr Sum s a ts →
        SpellsIndex (join o c) (index.One a) (sign_at sign.OpenBracket o ∷ (ts ++ sign_at sign.CloseBracket c ∷ []))
    two : {s t : Span} {a b : Expr} {ts us : Tokens} (o m c : Span) → SpellsExpr Sum s a ts → SpellsExpr Sum t b us →
        SpellsIndex (join o c) (index.Two a b) (sign_at sign.OpenBracket o ∷ (ts ++ sign_at sign.Comma m ∷ (us ++ sign_at sign.CloseBracket c ∷ [])))

-- rel = "=" | "<>" | "<" | "<=" | ">" | ">="
abbrev pub relation_sign : RelOp → Sign
relation_sign relation.Eq = sign.Equal
relation_sign relation.Ne = sign.NotEqual
relation_sign relation.Lt = sign.Less
relation_sign relation.Le = sign.LessEqual
relation_sign relation.Gt = sign.Greater
relation_sign relation.Ge = sign.GreaterEqual

pub data CondLevel : Type 0 where
  Disjunction Conjunction Negated Part : CondLevel

pub data SpellsCond : CondLevel → Span → Cond → Tokens → Type 0 where
  -- cond = conj { "or" conj }
  disjunction : {s : Span} {a : Cond} {ts : Tokens} → SpellsCond Conjunction s a ts → SpellsCond Disjunction s a ts
  or : {s t : Span} {a b : Cond} {ts us : Tokens} (o : Span) → SpellsCond Disjunction s a ts → SpellsCond Conjunction t b us →
      SpellsCond Disjunction (join s t) (condition (join s t) (cond.Or a b)) (ts ++ keyword_at keyword.Or o ∷ us)
  -- conj = neg { "and" neg }
  conjunction : {s : Span} {a : Cond} {ts : Tokens} → SpellsCond Negated s a ts → SpellsCond Conjunction s a ts
  and : {s t : Span} {a b : Cond} {ts us : Tokens} (o : Span) → SpellsCond Conjunction s a ts → SpellsCond Negated t b us →
      SpellsCond Conjunction (join s t) (condition (join s t) (cond.And a b)) (ts ++ keyword_at keyword.And o ∷ us)
  -- neg = "not" part | part
  part : {s : Span} {a : Cond} {ts : Tokens} → SpellsCond Part s a ts → SpellsCond Negated s a ts
  negation : {s : Span} {a : Cond} {ts : Tokens} (o : Span) → SpellsCond Part s a ts →
      SpellsCond Negated (join o s) (condition (join o s) (cond.Not a)) (keyword_at keyword.Not o ∷ ts)
  -- part = "true" | "false" | expr rel expr | "{" cond "}"
  truth : (s : Span) → SpellsCond Part s (condition s cond.True) (keyword_at keyword.True s ∷ [])
  falsity : (s : Span) → SpellsCond Part s (condition s cond.False) (keyword_at keyword.False s ∷ [])
  comparison : {s t : Span} {a b : Expr} {ts us : Tokens} (r : RelOp) (o : Span) → SpellsExpr Sum s a ts → SpellsExpr Sum t b us →
      SpellsCond Part (join s t) (condition (join s t) (cond.Rel r a b)) (ts ++ sign_at (relation_sign r) o ∷ us)
  braces : {s : Span} {a : Cond} {ts : Tokens} (o c : Span) → SpellsCond Disjunction s a ts →
      SpellsCond Part (join o c) a (sign_at sign.OpenBrace o ∷ (ts ++ sign_at sign.CloseBrace c ∷ []))

mutual
  pub data SpellsStmt : Stmt → Tokens → Type 0 where
    -- stmt = name [ index ] ":=" expr ";"
    set : {v : Span} {a : Expr} {ts : Tokens} (x : NameBytes) (s o e : Span) → SpellsExpr Sum v a ts →
        SpellsStmt (statement (join s e) (stmt.Set x a)) (name x s ∷ sign_at sign.Assign o ∷ (ts ++ sign_at sign.Semicolon e ∷ []))
    put : {t v : Span} {i : Index} {a : Expr} {bs ts : Tokens} (x : NameBytes) (s o e : Span) → SpellsIndex t i bs → SpellsExpr Sum v a ts →
        SpellsStmt (statement (join s e) (stmt.Put x i a)) (name x s ∷ (bs ++ sign_at sign.Assign o ∷ (ts ++ sign_at sign.Semicolon e ∷ [])))
    -- | "if" cond "then" { stmt } [ "else" { stmt } ] "end"
    if_then : {v : Span} {c : Cond} {xs : List Stmt} {ts us : Tokens} (s o e : Span) → SpellsCond Disjunction v c ts → SpellsBlock xs us →
        SpellsStmt (statement (join s e) (stmt.If c xs [])) (keyword_at keyword.If s ∷ (ts ++ keyword_at keyword.Then o ∷ (us ++ keyword_at keyword.End e ∷ [])))
    if_else : {v : Span} {c : Cond} {xs ys : List Stmt} {ts us vs : Tokens} (s o m e : Span) → SpellsCond Disjunction v c ts → SpellsBlock xs us → SpellsBlock ys vs →
        SpellsStmt (statement (join s e) (stmt.If c xs ys))
        (keyword_at keyword.If s ∷ (ts ++ keyword_at keyword.Then o ∷ (us ++ keyword_at keyword.Else m ∷ (vs ++ keyword_at keyword.End e ∷ []))))
    -- | "for" name ":=" expr "to" expr "do" { stmt } "end"
    for_loop : {v w : Span} {a b : Expr} {xs : List Stmt} {ts us vs : Tokens} (x : NameBytes) (s n o m d e : Span) → SpellsExpr Sum v a ts → SpellsExpr Sum w b us → SpellsBlock xs vs →
        SpellsStmt (statement (join s e) (stmt.For x a b xs))
        (keyword_at keyword.For s ∷ name x n ∷ sign_at sign.Assign o ∷ (ts ++ keyword_at keyword.To m ∷ (us ++ keyword_at keyword.Do d ∷ (vs ++ keyword_at keyword.End e ∷ []))))
    -- | "while" cond "do" { stmt } "end"
    while_loop : {v : Span} {c : Cond} {xs : List Stmt} {ts us : Tokens} (s o e : Span) → SpellsCond Disjunction v c ts → SpellsBlock xs us →
        SpellsStmt (statement (join s e) (stmt.While c xs)) (keyword_at keyword.While s ∷ (ts ++ keyword_at keyword.Do o ∷ (us ++ keyword_at keyword.End e ∷ [])))
    -- | "use" name "as" name ";" | "skip" ";"
    hand : (x y : NameBytes) (s n o r e : Span) →
        SpellsStmt (statement (join s e) (stmt.Hand x y)) (keyword_at keyword.Use s ∷ name x n ∷ keyword_at keyword.As o ∷ name y r ∷ sign_at sign.Semicolon e ∷ [])
    skip : (s e : Span) → SpellsStmt (statement (join s e) stmt.Skip) (keyword_at keyword.Skip s ∷ sign_at sign.Semicolon e ∷ [])

  -- { stmt }
  pub data SpellsBlock : List Stmt → Tokens → Type 0 where
    none : SpellsBlock [] []
    more : {a : Stmt} {xs : List Stmt} {ts us : Tokens} → SpellsStmt a ts → SpellsBlock xs us → SpellsBlock (a ∷ xs) (ts ++ us)

-- int = [ "-" ] literal
pub data SpellsInt : ℤ → Tokens → Type 0 where
  bare : (n : ℕ) (s : Span) → SpellsInt (pos n) (literal n s ∷ [])
  below : (n : ℕ) (o s : Span) → SpellsInt (neg_ℤ (pos n)) (sign_at sign.Minus o ∷ literal n s ∷ [])

-- extent = literal | name
pub data SpellsExtent : Extent → Tokens → Type 0 where
  fixed : (n : ℕ) (s : Span) → SpellsExtent (extent.Lit n) (literal n s ∷ [])
  named : (x : NameBytes) (s : Span) → SpellsExtent (extent.Named x) (name x s ∷ [])

-- extents = "[" extent [ "," extent ] "]"
pub data SpellsExtents : Extents → Tokens → Type 0 where
  one : {a : Extent} {ts : Tokens} (o c : Span) → SpellsExtent a ts →
      SpellsExtents (extents.One a) (sign_at sign.OpenBracket o ∷ (ts ++ sign_at sign.CloseBracket c ∷ []))
  two : {a b : Extent} {ts us : Tokens} (o m c : Span) → SpellsExtent a ts → SpellsExtent b us →
      SpellsExtents (extents.Two a b) (sign_at sign.OpenBracket o ∷ (ts ++ sign_at sign.Comma m ∷ (us ++ sign_at sign.CloseBracket c ∷ [])))

pub data SpellsItem : Item → Tokens → Type 0 where
  -- decl = "const" name "=" int ";"
  constant : {k : ℤ} {ts : Tokens} (x : NameBytes) (s n o e : Span) → SpellsInt k ts →
      SpellsItem (declaration (join s e) x (item.Const k)) (keyword_at keyword.Const s ∷ name x n ∷ sign_at sign.Equal o ∷ (ts ++ sign_at sign.Semicolon e ∷ []))
  -- | "input" name [ extents ] ":" int ".." int ";"
  input_scalar : {low high : ℤ} {ts us : Tokens} (x : NameBytes) (s n o d e : Span) → SpellsInt low ts → SpellsInt high us →
      SpellsItem (declaration (join s e) x (item.InputScalar low high))
      (keyword_at keyword.Input s ∷ name x n ∷ sign_at sign.Colon o ∷ (ts ++ sign_at sign.DotDot d ∷ (us ++ sign_at sign.Semicolon e ∷ [])))
  input_array : {a : Extents} {low high : ℤ} {bs ts us : Tokens} (x : NameBytes) (s n o d e : Span) → SpellsExtents a bs → SpellsInt low ts → SpellsInt high us →
      SpellsItem (declaration (join s e) x (item.InputArray a low high))
      (keyword_at keyword.Input s ∷ name x n ∷ (bs ++ sign_at sign.Colon o ∷ (ts ++ sign_at sign.DotDot d ∷ (us ++ sign_at sign.Semicolon e ∷ []))))
  -- | "var" name [ extents ] ";"
  var_scalar : (x : NameBytes) (s n e : Span) →
      SpellsItem (declaration (join s e) x item.VarScalar) (keyword_at keyword.Var s ∷ name x n ∷ sign_at sign.Semicolon e ∷ [])
  var_array : {a : Extents} {bs : Tokens} (x : NameBytes) (s n e : Span) → SpellsExtents a bs →
      SpellsItem (declaration (join s e) x (item.VarArray a)) (keyword_at keyword.Var s ∷ name x n ∷ (bs ++ sign_at sign.Semicolon e ∷ []))

-- { decl }
pub data SpellsItems : List Item → Tokens → Type 0 where
  none : SpellsItems [] []
  more : {a : Item} {xs : List Item} {ts us : Tokens} → SpellsItem a ts → SpellsItems xs us → SpellsItems (a ∷ xs) (ts ++ us)

-- where the tokens begin
abbrev pub first_span : Tokens → Span → Span
first_span [] s = s
first_span (t ∷ ts) s = t.span

-- program = { decl } "begin" { stmt } "end"
pub data SpellsProgram : Program → Tokens → Type 0 where
  program : {ds : List Item} {xs : List Stmt} {ts us : Tokens} (b e : Span) → SpellsItems ds ts → SpellsBlock xs us →
      SpellsProgram (record { node = node (join (first_span ts b) e); items = ds; body = xs }) (ts ++ keyword_at keyword.Begin b ∷ (us ++ keyword_at keyword.End e ∷ []))

-- some program begins with these tokens
pub record Continues (ts : Tokens) : Type 0 where
  pub tree : Program
  pub more : Tokens
  pub spelled : SpellsProgram tree (ts ++ more)
