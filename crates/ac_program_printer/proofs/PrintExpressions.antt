-- A printed expression spells the same expression.
use Rattle.std.proofs.Common.{◌≡◌, ℕ, ◌^◌, ◌<◌, [], ◌∷◌, ◌++◌, Bool, true, false, refl, sym, ap, ap₂, arith, codes, append_assoc, append-nil}
use Rattle.std.specs.Fmt.{decimal}
use Rattle.ac_tree.specs.declared.node.Node.{Node}
use Rattle.ac_tree.specs.declared.node.Span.{Span}
use Rattle.ac_tree.specs.declared.program.Expr.{Expr}
use Rattle.ac_tree.specs.declared.program.ExprKind.{ExprKind}
use Rattle.ac_tree.specs.declared.program.ExprKind.TheVariants.{Num, Get, Read}
use Rattle.ac_tree.specs.declared.program.ExprKind.TheVariants as expr
use Rattle.ac_tree.specs.declared.program.Index.{Index}
use Rattle.ac_tree.specs.declared.program.Index.TheVariants as index
use Rattle.ac_tree.specs.declared.token.Sign.TheVariants as sign
use Rattle.ac_tree.specs.Grammar as spells
use Rattle.ac_tree.specs.Grammar.{Tokens, NameBytes, token, join, expression, ExprLevel, Sum, Term, Factor, Atom, SpellsExpr, SpellsIndex}
use Rattle.ac_tree.specs.Patterns.{Negative, Plus, Minus, Times, OneIndex, TwoIndexes}
use Rattle.ac_tree.specs.Tokens.{kind_of_byte, IsName}
use Rattle.ac_program_printer.specs.Opened.{hidden, expr_shape, expr_child}
use Rattle.ac_program_printer.proofs.Printable.{IsPrintableExpr, IsPrintableIndex}
use Rattle.ac_program_printer.specs.Printing.{Text, is_grouped, in_parens, expr_text, index_text}
use Rattle.ac_program_printer.specs.SameUpToSpans.{changed_expr, changed_index}
use Rattle.ac_program_printer.proofs.PrintCuts.{Any, Edge, Cuts, behind, as_tokens, as_text, weaker, name_shows, number_shows, sign_shows, spaced_shows}

-- nothing of a node
abbrev pub bare : Node → Node
bare n = record { id = record { 0 = 0 }; span = record { start = 0; end = 0 } }

-- from a place on the text is cut into tokens that spell an expression, which is this one but for its nodes
pub record PrintsExpr (l : ExprLevel) (k : ExprKind) (text : Text) (at : ℕ) : Type 0 where
  pub tokens : Tokens
  pub to : ℕ
  pub span : Span
  pub tree : Expr
  pub cuts : Cuts Edge at text tokens to
  pub spelled : SpellsExpr l span tree tokens
  pub same : changed_expr bare tree.kind ≡ changed_expr bare k

pub record PrintsIndex (i : Index) (text : Text) (at : ℕ) : Type 0 where
  pub tokens : Tokens
  pub to : ℕ
  pub span : Span
  pub tree : Index
  pub cuts : Cuts Any at text tokens to
  pub opens : (rest : Text) → Edge (text ++ rest)
  pub spelled : SpellsIndex span tree tokens
  pub same : changed_index bare tree ≡ changed_index bare i

number_prints : (n : ℕ) (at : ℕ) → n < 2 ^ 64 → PrintsExpr Atom (Num n) (decimal n) at
unfolding hidden expr_shape expr_child
number_prints n at h =
    let s = number_shows n at h in
    record { tokens = spells.literal n s.0 ∷ []; to = s.1; span = s.0; tree = expression s.0 (expr.Num n); cuts = s.2; spelled = spells.number n s.0; same = refl }

name_prints : (x : NameBytes) (at : ℕ) → IsName x → PrintsExpr Atom (Get x) x at
unfolding hidden expr_shape expr_child
name_prints x at h =
    let s = name_shows x at h in
    record { tokens = spells.name x s.0 ∷ []; to = s.1; span = s.0; tree = expression s.0 (expr.Get x); cuts = s.2; spelled = spells.scalar x s.0; same = refl }

read_prints : (x : NameBytes) (i : Index) (text : Text) (at : ℕ) → IsName x → ((at : ℕ) → PrintsIndex i text at) → PrintsExpr Atom (Read x i) (x ++ text) at
unfolding hidden expr_shape expr_child
read_prints x i text at h p =
    let s = name_shows x at h in
    let r = p s.1 in
    record {
      tokens = spells.name x s.0 ∷ r.tokens;
      to = r.to;
      span = join s.0 r.span;
      tree = expression (join s.0 r.span) (expr.Read x r.tree);
      cuts = weaker (behind {P = Edge} s.2 r.cuts (λ rest q. r.opens rest));
      spelled = spells.read x s.0 r.spelled;
      same = ap (λ j. Read x j) r.same;
    }

parens_print : (k : ExprKind) (text : Text) (at : ℕ) → ((at : ℕ) → PrintsExpr Sum k text at) → PrintsExpr Atom k (codes "(" ++ text ++ codes ")") at
unfolding kind_of_byte
parens_print k text at p =
    let o = sign_shows 40 sign.OpenParen at refl (omega arith) (λ k. refl) in
    let a = p o.1 in
    let c = sign_shows 41 sign.CloseParen a.to refl (omega arith) (λ k. refl) in
    record {
      tokens = spells.sign_at sign.OpenParen o.0 ∷ (a.tokens ++ spells.sign_at sign.CloseParen c.0 ∷ []);
      to = c.1;
      span = join o.0 c.0;
      tree = a.tree;
      cuts = weaker (behind {P = Edge} (behind {P = Any} o.2 a.cuts (λ rest q. tt)) c.2 (λ rest q f. f));
      spelled = spells.parentheses o.0 c.0 a.spelled;
      same = a.same;
    }

operand_prints : (g : Bool) (k : ExprKind) (text : Text) (at : ℕ) → ((at : ℕ) → PrintsExpr Sum k text at) → (g ≡ false → (at : ℕ) → PrintsExpr Atom k text at) → PrintsExpr Atom k (in_parens g text) at
operand_prints true k text at p q = parens_print k text at p
operand_prints false k text at p q =
    let a = q refl at in
    record { tokens = a.tokens; to = a.to; span = a.span; tree = a.tree; cuts = as_text (sym (append-nil text)) a.cuts; spelled = a.spelled; same = a.same }

whole_of : (k : ExprKind) (text : Text) (at : ℕ) → PrintsExpr Atom k text at → PrintsExpr Sum k text at
whole_of k text at a = record { tokens = a.tokens; to = a.to; span = a.span; tree = a.tree; cuts = a.cuts; spelled = spells.sum (spells.term (spells.factor a.spelled)); same = a.same }

negative_prints : (n : Node) (a : ExprKind) (text : Text) (at : ℕ) → ((at : ℕ) → PrintsExpr Atom a text at) → PrintsExpr Sum (Negative n a) (codes "-" ++ text) at
unfolding hidden expr_shape expr_child kind_of_byte
negative_prints n a text at p =
    let o = sign_shows 45 sign.Minus at refl (omega arith) (λ k. refl) in
    let r = p o.1 in
    record {
      tokens = spells.sign_at sign.Minus o.0 ∷ r.tokens;
      to = r.to;
      span = join o.0 r.span;
      tree = expression (join o.0 r.span) (expr.Neg r.tree);
      cuts = behind {P = Any} o.2 r.cuts (λ rest q. tt);
      spelled = spells.sum (spells.term (spells.negative o.0 r.spelled));
      same = ap (λ b. Negative (bare n) b) r.same;
    }

plus_prints : (n m : Node) (a b : ExprKind) (x y : Text) (at : ℕ) → ((at : ℕ) → PrintsExpr Atom a x at) → ((at : ℕ) → PrintsExpr Atom b y at) → PrintsExpr Sum (Plus n a m b) (x ++ codes " + " ++ y) at
unfolding hidden expr_shape expr_child kind_of_byte
plus_prints n m a b x y at p q =
    let l = p at in
    let o = spaced_shows 43 sign.Plus l.to refl (omega arith) refl in
    let r = q o.1 in
    record {
      tokens = l.tokens ++ spells.sign_at sign.Plus o.0 ∷ r.tokens;
      to = r.to;
      span = join l.span r.span;
      tree = expression (join l.span r.span) (expr.Add l.tree r.tree);
      cuts = as_tokens (append_assoc l.tokens (spells.sign_at sign.Plus o.0 ∷ []) r.tokens) (behind {P = Any} (behind {P = Edge} l.cuts o.2 (λ rest q f. f)) r.cuts (λ rest q. tt));
      spelled = spells.plus o.0 (spells.sum (spells.term (spells.factor l.spelled))) (spells.term (spells.factor r.spelled));
      same = ap₂ (λ c d. Plus (bare n) c (bare m) d) l.same r.same;
    }

minus_prints : (n m : Node) (a b : ExprKind) (x y : Text) (at : ℕ) → ((at : ℕ) → PrintsExpr Atom a x at) → ((at : ℕ) → PrintsExpr Atom b y at) → PrintsExpr Sum (Minus n a m b) (x ++ codes " - " ++ y) at
unfolding hidden expr_shape expr_child kind_of_byte
minus_prints n m a b x y at p q =
    let l = p at in
    let o = spaced_shows 45 sign.Minus l.to refl (omega arith) refl in
    let r = q o.1 in
    record {
      tokens = l.tokens ++ spells.sign_at sign.Minus o.0 ∷ r.tokens;
      to = r.to;
      span = join l.span r.span;
      tree = expression (join l.span r.span) (expr.Sub l.tree r.tree);
      cuts = as_tokens (append_assoc l.tokens (spells.sign_at sign.Minus o.0 ∷ []) r.tokens) (behind {P = Any} (behind {P = Edge} l.cuts o.2 (λ rest q f. f)) r.cuts (λ rest q. tt));
      spelled = spells.minus o.0 (spells.sum (spells.term (spells.factor l.spelled))) (spells.term (spells.factor r.spelled));
      same = ap₂ (λ c d. Minus (bare n) c (bare m) d) l.same r.same;
    }

times_prints : (n m : Node) (a b : ExprKind) (x y : Text) (at : ℕ) → ((at : ℕ) → PrintsExpr Atom a x at) → ((at : ℕ) → PrintsExpr Atom b y at) → PrintsExpr Sum (Times n a m b) (x ++ codes " * " ++ y) at
unfolding hidden expr_shape expr_child kind_of_byte
times_prints n m a b x y at p q =
    let l = p at in
    let o = spaced_shows 42 sign.Star l.to refl (omega arith) refl in
    let r = q o.1 in
    record {
      tokens = l.tokens ++ spells.sign_at sign.Star o.0 ∷ r.tokens;
      to = r.to;
      span = join l.span r.span;
      tree = expression (join l.span r.span) (expr.Mul l.tree r.tree);
      cuts = as_tokens (append_assoc l.tokens (spells.sign_at sign.Star o.0 ∷ []) r.tokens) (behind {P = Any} (behind {P = Edge} l.cuts o.2 (λ rest q f. f)) r.cuts (λ rest q. tt));
      spelled = spells.sum (spells.times o.0 (spells.term (spells.factor l.spelled)) (spells.factor r.spelled));
      same = ap₂ (λ c d. Times (bare n) c (bare m) d) l.same r.same;
    }

one_prints : (n : Node) (a : ExprKind) (x : Text) (at : ℕ) → ((at : ℕ) → PrintsExpr Sum a x at) → PrintsIndex (OneIndex n a) (codes "[" ++ x ++ codes "]") at
unfolding hidden expr_shape expr_child kind_of_byte
one_prints n a x at p =
    let o = sign_shows 91 sign.OpenBracket at refl (omega arith) (λ k. refl) in
    let r = p o.1 in
    let c = sign_shows 93 sign.CloseBracket r.to refl (omega arith) (λ k. refl) in
    record {
      tokens = spells.sign_at sign.OpenBracket o.0 ∷ (r.tokens ++ spells.sign_at sign.CloseBracket c.0 ∷ []);
      to = c.1;
      span = join o.0 c.0;
      tree = index.One r.tree;
      cuts = behind {P = Edge} (behind {P = Any} o.2 r.cuts (λ rest q. tt)) c.2 (λ rest q f. f);
      opens = λ rest f. f;
      spelled = spells.one o.0 c.0 r.spelled;
      same = ap (λ b. OneIndex (bare n) b) r.same;
    }

two_prints : (n m : Node) (a b : ExprKind) (x y : Text) (at : ℕ) → ((at : ℕ) → PrintsExpr Sum a x at) → ((at : ℕ) → PrintsExpr Sum b y at) →
    PrintsIndex (TwoIndexes n a m b) (codes "[" ++ x ++ codes "," ++ y ++ codes "]") at
unfolding hidden expr_shape expr_child kind_of_byte
two_prints n m a b x y at p q =
    let o = sign_shows 91 sign.OpenBracket at refl (omega arith) (λ k. refl) in
    let r = p o.1 in
    let d = sign_shows 44 sign.Comma r.to refl (omega arith) (λ k. refl) in
    let t = q d.1 in
    let c = sign_shows 93 sign.CloseBracket t.to refl (omega arith) (λ k. refl) in
    record {
      tokens = spells.sign_at sign.OpenBracket o.0 ∷ (r.tokens ++ spells.sign_at sign.Comma d.0 ∷ (t.tokens ++ spells.sign_at sign.CloseBracket c.0 ∷ []));
      to = c.1;
      span = join o.0 c.0;
      tree = index.Two r.tree t.tree;
      cuts = as_tokens (simp append_assoc) (behind {P = Edge} (behind {P = Any} (behind {P = Edge} (behind {P = Any} o.2 r.cuts (λ rest q. tt)) d.2 (λ rest q f. f)) t.cuts (λ rest q. tt)) c.2 (λ rest q f. f));
      opens = λ rest f. f;
      spelled = spells.two o.0 d.0 c.0 r.spelled t.spelled;
      same = ap₂ (λ c d. TwoIndexes (bare n) c (bare m) d) r.same t.same;
    }

-- a printed expression, and as an operand where it is bare
abbrev pub PrintsBoth : ExprKind → Type 0
PrintsBoth k = ((at : ℕ) → PrintsExpr Sum k (expr_text k) at) × (is_grouped k ≡ false → (at : ℕ) → PrintsExpr Atom k (expr_text k) at)

operand_of : (k : ExprKind) → PrintsBoth k → (at : ℕ) → PrintsExpr Atom k (in_parens (is_grouped k) (expr_text k)) at
operand_of k p at = operand_prints (is_grouped k) k (expr_text k) at p.0 p.1

both_of : (k : ExprKind) → ((at : ℕ) → PrintsExpr Atom k (expr_text k) at) → PrintsBoth k
both_of k p = (λ at. whole_of k (expr_text k) at (p at), λ g. p)

mutual
  unfolding hidden expr_shape expr_child

  both_print : (k : ExprKind) → IsPrintableExpr k → PrintsBoth k
  both_print (Num n) h = both_of (Num n) (λ at. number_prints n at h)
  both_print (Get x) h = both_of (Get x) (λ at. name_prints x at h)
  both_print (Read x i) h = both_of (Read x i) (λ at. read_prints x i (index_text i) at h.0 (index_prints i h.1))
  both_print (Negative n a) h = (λ at. negative_prints n a (in_parens (is_grouped a) (expr_text a)) at (operand_of a (both_print a h)), λ g. cc)
  both_print (Plus n a m b) h = (λ at. plus_prints n m a b _ _ at (operand_of a (both_print a h.0)) (operand_of b (both_print b h.1)), λ g. cc)
  both_print (Minus n a m b) h = (λ at. minus_prints n m a b _ _ at (operand_of a (both_print a h.0)) (operand_of b (both_print b h.1)), λ g. cc)
  both_print (Times n a m b) h = (λ at. times_prints n m a b _ _ at (operand_of a (both_print a h.0)) (operand_of b (both_print b h.1)), λ g. cc)

  pub index_prints : (i : Index) → IsPrintableIndex i → (at : ℕ) → PrintsIndex i (index_text i) at
  index_prints (OneIndex n a) h at = one_prints n a (expr_text a) at (both_print a h).0
  index_prints (TwoIndexes n a m b) h at = two_prints n m a b (expr_text a) (expr_text b) at (both_print a h.0).0 (both_print b h.1).0

pub expr_prints : (k : ExprKind) → IsPrintableExpr k → (at : ℕ) → PrintsExpr Sum k (expr_text k) at
expr_prints k h at = (both_print k h).0 at
