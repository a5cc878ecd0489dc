-- A printed condition spells the same condition.
use Rattle.std.proofs.Common.{◌≡◌, ℕ, ◌+◌, [], ◌∷◌, ◌++◌, Bool, true, false, refl, sym, ap, ap₂, arith, codes, append_assoc, append-nil}
use Rattle.ac_tree.specs.declared.node.Node.{Node}
use Rattle.ac_tree.specs.declared.node.Span.{Span}
use Rattle.ac_tree.specs.declared.program.Cond.{Cond}
use Rattle.ac_tree.specs.declared.program.CondKind.{CondKind}
use Rattle.ac_tree.specs.declared.program.CondKind.TheVariants.{True, False, Rel}
use Rattle.ac_tree.specs.declared.program.CondKind.TheVariants as cond
use Rattle.ac_tree.specs.declared.program.Expr.{Expr}
use Rattle.ac_tree.specs.declared.program.RelOp.{RelOp}
use Rattle.ac_tree.specs.declared.program.RelOp.TheVariants as relation
use Rattle.ac_tree.specs.declared.token.Keyword.TheVariants as keyword
use Rattle.ac_tree.specs.declared.token.Mark.TheVariants as mark
use Rattle.ac_tree.specs.declared.token.Sign.TheVariants as sign
use Rattle.ac_tree.specs.Grammar as spells
use Rattle.ac_tree.specs.Grammar.{Tokens, join, condition, relation_sign, CondLevel, Part, SpellsCond, Sum}
use Rattle.ac_tree.specs.Patterns.{Negation, Conjunction, Disjunction}
use Rattle.ac_tree.specs.Tokens.{kind_of_byte, keyword_of}
use Rattle.ac_program_printer.specs.Opened.{hidden, cond_shape, cond_child}
use Rattle.ac_program_printer.proofs.Printable.{IsPrintableCond}
use Rattle.ac_program_printer.specs.Printing.{Text, is_braced, in_braces, cond_text, relation_text}
use Rattle.ac_program_printer.specs.SameUpToSpans.{changed_cond}
use Rattle.ac_program_printer.proofs.PrintCuts.{Any, Edge, Cuts, Shows, behind, as_tokens, as_text, weaker, sign_shows, spaced_shows, double_shows, word_shows, space_before, space_behind, space_after}
use Rattle.ac_program_printer.proofs.PrintExpressions.{bare, PrintsExpr, expr_prints}

pub record PrintsCond (l : CondLevel) (k : CondKind) (text : Text) (at : ℕ) : Type 0 where
  pub tokens : Tokens
  pub to : ℕ
  pub span : Span
  pub tree : Cond
  pub cuts : Cuts Edge at text tokens to
  pub spelled : SpellsCond l span tree tokens
  pub same : changed_cond bare tree.kind ≡ changed_cond bare k

true_prints : (at : ℕ) → PrintsCond Part True (codes "true") at
unfolding hidden cond_shape cond_child kind_of_byte keyword_of
true_prints at =
    let w = word_shows keyword.True 116 (114 ∷ 117 ∷ 101 ∷ []) at refl (tt, (tt, (tt, tt))) refl in
    record { tokens = spells.keyword_at keyword.True w.0 ∷ []; to = w.1; span = w.0; tree = condition w.0 cond.True; cuts = w.2; spelled = spells.truth w.0; same = refl }

false_prints : (at : ℕ) → PrintsCond Part False (codes "false") at
unfolding hidden cond_shape cond_child kind_of_byte keyword_of
false_prints at =
    let w = word_shows keyword.False 102 (97 ∷ 108 ∷ 115 ∷ 101 ∷ []) at refl (tt, (tt, (tt, (tt, tt)))) refl in
    record { tokens = spells.keyword_at keyword.False w.0 ∷ []; to = w.1; span = w.0; tree = condition w.0 cond.False; cuts = w.2; spelled = spells.falsity w.0; same = refl }

relation_shows : (r : RelOp) (at : ℕ) → Shows Any at (relation_text r) (mark.Sign (relation_sign r))
unfolding kind_of_byte
relation_shows relation.Eq at = spaced_shows 61 sign.Equal at refl (omega arith) refl
relation_shows relation.Ne at = double_shows 60 62 sign.NotEqual at (omega arith) (omega arith) refl
relation_shows relation.Lt at = spaced_shows 60 sign.Less at refl (omega arith) refl
relation_shows relation.Le at = double_shows 60 61 sign.LessEqual at (omega arith) (omega arith) refl
relation_shows relation.Gt at = spaced_shows 62 sign.Greater at refl (omega arith) refl
relation_shows relation.Ge at = double_shows 62 61 sign.GreaterEqual at (omega arith) (omega arith) refl

relation_edge : (r : RelOp) (rest : Text) → Edge (relation_text r ++ rest)
unfolding kind_of_byte
relation_edge relation.Eq rest = λ f. f
relation_edge relation.Ne rest = λ f. f
relation_edge relation.Lt rest = λ f. f
relation_edge relation.Le rest = λ f. f
relation_edge relation.Gt rest = λ f. f
relation_edge relation.Ge rest = λ f. f

comparison_prints : (r : RelOp) (a b : Expr) (x y : Text) (at : ℕ) → ((at : ℕ) → PrintsExpr Sum a.kind x at) → ((at : ℕ) → PrintsExpr Sum b.kind y at) → PrintsCond Part (Rel r a b) (x ++ relation_text r ++ y) at
unfolding hidden cond_shape cond_child
comparison_prints r a b x y at p q =
    let l = p at in
    let o = relation_shows r l.to in
    let t = q o.1 in
    record {
      tokens = l.tokens ++ spells.sign_at (relation_sign r) o.0 ∷ t.tokens;
      to = t.to;
      span = join l.span t.span;
      tree = condition (join l.span t.span) (cond.Rel r l.tree t.tree);
      cuts = as_tokens (append_assoc l.tokens (spells.sign_at (relation_sign r) o.0 ∷ []) t.tokens) (behind {P = Any} (behind {P = Edge} l.cuts o.2 (λ rest q. relation_edge r rest)) t.cuts (λ rest q. tt));
      spelled = spells.comparison r o.0 l.spelled t.spelled;
      same = ap₂ (λ c d. Rel r (record { node = bare a.node; kind = c }) (record { node = bare b.node; kind = d })) l.same t.same;
    }

braces_print : (k : CondKind) (text : Text) (at : ℕ) → ((at : ℕ) → PrintsCond spells.Disjunction k text at) → PrintsCond Part k (codes "{ " ++ text ++ codes " }") at
unfolding kind_of_byte
braces_print k text at p =
    let o = sign_shows 123 sign.OpenBrace at refl (omega arith) (λ k. refl) in
    let i : Shows Any at (codes "{ ") (mark.Sign sign.OpenBrace) = space_after at (123 ∷ []) o in
    let a = p i.1 in
    let c : Shows Any a.to (codes " }") (mark.Sign sign.CloseBrace) = space_before a.to (125 ∷ []) (sign_shows 125 sign.CloseBrace (a.to + 1) refl (omega arith) (λ k. refl)) in
    record {
      tokens = spells.sign_at sign.OpenBrace i.0 ∷ (a.tokens ++ spells.sign_at sign.CloseBrace c.0 ∷ []);
      to = c.1;
      span = join i.0 c.0;
      tree = a.tree;
      cuts = weaker (behind {P = Edge} (behind {P = Any} i.2 a.cuts (λ rest q. tt)) c.2 (λ rest q f. f));
      spelled = spells.braces i.0 c.0 a.spelled;
      same = a.same;
    }

operand_prints : (g : Bool) (k : CondKind) (text : Text) (at : ℕ) → ((at : ℕ) → PrintsCond spells.Disjunction k text at) → (g ≡ false → (at : ℕ) → PrintsCond Part k text at) → PrintsCond Part k (in_braces g text) at
operand_prints true k text at p q = braces_print k text at p
operand_prints false k text at p q =
    let a = q refl at in
    record { tokens = a.tokens; to = a.to; span = a.span; tree = a.tree; cuts = as_text (sym (append-nil text)) a.cuts; spelled = a.spelled; same = a.same }

whole_of : (k : CondKind) (text : Text) (at : ℕ) → PrintsCond Part k text at → PrintsCond spells.Disjunction k text at
whole_of k text at a = record {
  tokens = a.tokens;
  to = a.to;
  span = a.span;
  tree = a.tree;
  cuts = a.cuts;
  spelled = spells.disjunction (spells.conjunction (spells.part a.spelled));
  same = a.same;
}

not_prints : (n : Node) (a : CondKind) (text : Text) (at : ℕ) → ((at : ℕ) → PrintsCond Part a text at) → PrintsCond spells.Disjunction (Negation n a) (codes "not " ++ text) at
unfolding hidden cond_shape cond_child kind_of_byte keyword_of
not_prints n a text at p =
    let o : Shows Any at (codes "not ") (mark.Keyword keyword.Not) = space_behind at (codes "not") (word_shows keyword.Not 110 (111 ∷ 116 ∷ []) at refl (tt, (tt, tt)) refl) in
    let r = p o.1 in
    record {
      tokens = spells.keyword_at keyword.Not o.0 ∷ r.tokens;
      to = r.to;
      span = join o.0 r.span;
      tree = condition (join o.0 r.span) (cond.Not r.tree);
      cuts = behind {P = Any} o.2 r.cuts (λ rest q. tt);
      spelled = spells.disjunction (spells.conjunction (spells.negation o.0 r.spelled));
      same = ap (λ b. Negation (bare n) b) r.same;
    }

and_shows : (at : ℕ) → Shows Any at (codes " and ") (mark.Keyword keyword.And)
unfolding kind_of_byte keyword_of
and_shows at = space_before at (codes "and ") (space_behind (at + 1) (codes "and") (word_shows keyword.And 97 (110 ∷ 100 ∷ []) (at + 1) refl (tt, (tt, tt)) refl))

or_shows : (at : ℕ) → Shows Any at (codes " or ") (mark.Keyword keyword.Or)
unfolding kind_of_byte keyword_of
or_shows at = space_before at (codes "or ") (space_behind (at + 1) (codes "or") (word_shows keyword.Or 111 (114 ∷ []) (at + 1) refl (tt, tt) refl))

and_prints : (n m : Node) (a b : CondKind) (x y : Text) (at : ℕ) → ((at : ℕ) → PrintsCond Part a x at) → ((at : ℕ) → PrintsCond Part b y at) → PrintsCond spells.Disjunction (Conjunction n a m b) (x ++ codes " and " ++ y) at
unfolding hidden cond_shape cond_child kind_of_byte
and_prints n m a b x y at p q =
    let l = p at in
    let o = and_shows l.to in
    let r = q o.1 in
    record {
      tokens = l.tokens ++ spells.keyword_at keyword.And o.0 ∷ r.tokens;
      to = r.to;
      span = join l.span r.span;
      tree = condition (join l.span r.span) (cond.And l.tree r.tree);
      cuts = as_tokens (append_assoc l.tokens (spells.keyword_at keyword.And o.0 ∷ []) r.tokens) (behind {P = Any} (behind {P = Edge} l.cuts o.2 (λ rest q f. f)) r.cuts (λ rest q. tt));
      spelled = spells.disjunction (spells.and o.0 (spells.conjunction (spells.part l.spelled)) (spells.part r.spelled));
      same = ap₂ (λ c d. Conjunction (bare n) c (bare m) d) l.same r.same;
    }

or_prints : (n m : Node) (a b : CondKind) (x y : Text) (at : ℕ) → ((at : ℕ) → PrintsCond Part a x at) → ((at : ℕ) → PrintsCond Part b y at) → PrintsCond spells.Disjunction (Disjunction n a m b) (x ++ codes " or " ++ y) at
unfolding hidden cond_shape cond_child kind_of_byte
or_prints n m a b x y at p q =
    let l = p at in
    let o = or_shows l.to in
    let r = q o.1 in
    record {
      tokens = l.tokens ++ spells.keyword_at keyword.Or o.0 ∷ r.tokens;
      to = r.to;
      span = join l.span r.span;
      tree = condition (join l.span r.span) (cond.Or l.tree r.tree);
      cuts = as_tokens (append_assoc l.tokens (spells.keyword_at keyword.Or o.0 ∷ []) r.tokens) (behind {P = Any} (behind {P = Edge} l.cuts o.2 (λ rest q f. f)) r.cuts (λ rest q. tt));
      spelled = spells.or o.0 (spells.disjunction (spells.conjunction (spells.part l.spelled))) (spells.conjunction (spells.part r.spelled));
      same = ap₂ (λ c d. Disjunction (bare n) c (bare m) d) l.same r.same;
    }

-- a printed condition, and as an operand where it is bare
abbrev pub PrintsBoth : CondKind → Type 0
PrintsBoth k = ((at : ℕ) → PrintsCond spells.Disjunction k (cond_text k) at) × (is_braced k ≡ false → (at : ℕ) → PrintsCond Part k (cond_text k) at)

operand_of : (k : CondKind) → PrintsBoth k → (at : ℕ) → PrintsCond Part k (in_braces (is_braced k) (cond_text k)) at
operand_of k p at = operand_prints (is_braced k) k (cond_text k) at p.0 p.1

both_of : (k : CondKind) → ((at : ℕ) → PrintsCond Part k (cond_text k) at) → PrintsBoth k
both_of k p = (λ at. whole_of k (cond_text k) at (p at), λ g. p)

both_print : (k : CondKind) → IsPrintableCond k → PrintsBoth k
unfolding hidden cond_shape cond_child
both_print True h = both_of True true_prints
both_print False h = both_of False false_prints
both_print (Rel r a b) h = both_of (Rel r a b) (λ at. comparison_prints r a b _ _ at (expr_prints a.kind h.0) (expr_prints b.kind h.1))
both_print (Negation n c) h = (λ at. not_prints n c _ at (operand_of c (both_print c h)), λ g. cc)
both_print (Conjunction n c m d) h = (λ at. and_prints n m c d _ _ at (operand_of c (both_print c h.0)) (operand_of d (both_print d h.1)), λ g. cc)
both_print (Disjunction n c m d) h = (λ at. or_prints n m c d _ _ at (operand_of c (both_print c h.0)) (operand_of d (both_print d h.1)), λ g. cc)

pub cond_prints : (k : CondKind) → IsPrintableCond k → (at : ℕ) → PrintsCond spells.Disjunction k (cond_text k) at
cond_prints k h at = (both_print k h).0 at
