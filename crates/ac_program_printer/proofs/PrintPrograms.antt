-- A printed program spells the same program up to spans.
use Rattle.std.proofs.Common.{◌≡◌, ℕ, ℤ, pos, negsuc, suc, ◌+◌, List, [], ◌∷◌, ◌++◌, refl, sym, ◌∙◌, ap, ap₂, subst, arith, codes, append_assoc, append-nil}
use Rattle.std.specs.Fmt.{signed_decimal}
use Rattle.std.proofs.lemmas.Str.{IsUtf8-from_ascii}
use Rattle.ac_tree.specs.declared.node.Span.{Span}
use Rattle.ac_tree.specs.declared.program.Extent.{Extent}
use Rattle.ac_tree.specs.declared.program.Extent.TheVariants.{Lit, Named}
use Rattle.ac_tree.specs.declared.program.Extents.{Extents}
use Rattle.ac_tree.specs.declared.program.Extents.TheVariants as extents
use Rattle.ac_tree.specs.declared.program.Item.{Item}
use Rattle.ac_tree.specs.declared.program.ItemKind.{ItemKind}
use Rattle.ac_tree.specs.declared.program.ItemKind.TheVariants.{Const, InputScalar, InputArray, VarScalar, VarArray}
use Rattle.ac_tree.specs.declared.program.Program.{Program}
use Rattle.ac_tree.specs.declared.program.Stmt.{Stmt}
use Rattle.ac_tree.specs.declared.token.Keyword.TheVariants as keyword
use Rattle.ac_tree.specs.declared.token.Mark.TheVariants as mark
use Rattle.ac_tree.specs.declared.token.Sign.TheVariants as sign
use Rattle.ac_tree.specs.Grammar as spells
use Rattle.ac_tree.specs.Grammar.{Tokens, NameBytes, join, node, declaration, first_span, SpellsInt, SpellsExtent, SpellsExtents, SpellsItem, SpellsItems, SpellsProgram}
use Rattle.ac_tree.specs.Numbering.{numbered_program}
use Rattle.ac_tree.specs.Spelling.{Spells}
use Rattle.ac_tree.specs.Tokens.{kind_of_byte, keyword_of, IsName, Lexes}
use Rattle.ac_program_printer.specs.Names.{IsSigned}
use Rattle.ac_program_printer.proofs.Printable.{IsPrintableExtent, IsPrintableExtents, IsPrintableKind, ArePrintableItems, IsPrintable}
use Rattle.ac_program_printer.specs.Printing.{Text, line, extent_text, extents_text, range_text, item_text, items_text, program_text}
use Rattle.ac_program_printer.specs.SameUpToSpans.{spanless, changed_items, changed_program, IsSameUpToSpans, IsNumbered, SpellsUpToSpans}
use Rattle.ac_program_printer.proofs.PrintCuts.{Any, Edge, Cuts, Shows, behind, as_tokens, weaker, empty_cuts, indent_cuts, line_cuts, name_shows, number_shows, sign_shows, spaced_shows, double_shows, word_shows, space_behind}
use Rattle.ac_program_printer.proofs.PrintExpressions.{bare}
use Rattle.ac_program_printer.proofs.PrintStatements.{semicolon_shows, word_line, end_shows, list_prints}
use Rattle.ac_program_printer.proofs.PrintNumbers.{program_numbered}

-- numbers, extents and ranges

record PrintsInt (z : ℤ) (text : Text) (at : ℕ) : Type 0 where
  pub tokens : Tokens
  pub to : ℕ
  pub cuts : Cuts Edge at text tokens to
  pub spelled : SpellsInt z tokens

int_prints : (z : ℤ) (at : ℕ) → IsSigned z → PrintsInt z (signed_decimal z) at
unfolding kind_of_byte
int_prints (pos n) at h =
    let s = number_shows n at (omega arith) in
    record { tokens = spells.literal n s.0 ∷ []; to = s.1; cuts = s.2; spelled = spells.bare n s.0 }
int_prints (negsuc n) at h =
    let o = sign_shows 45 sign.Minus at refl (omega arith) (λ k. refl) in
    let s = number_shows (suc n) o.1 (omega arith) in
    record { tokens = spells.sign_at sign.Minus o.0 ∷ spells.literal (suc n) s.0 ∷ []; to = s.1; cuts = behind {P = Any} o.2 s.2 (λ rest q. tt); spelled = spells.below (suc n) o.0 s.0 }

record PrintsExtent (e : Extent) (text : Text) (at : ℕ) : Type 0 where
  pub tokens : Tokens
  pub to : ℕ
  pub cuts : Cuts Edge at text tokens to
  pub spelled : SpellsExtent e tokens

extent_prints : (e : Extent) (at : ℕ) → IsPrintableExtent e → PrintsExtent e (extent_text e) at
extent_prints (Lit n) at h = let s = number_shows n at h in record { tokens = spells.literal n s.0 ∷ []; to = s.1; cuts = s.2; spelled = spells.fixed n s.0 }
extent_prints (Named x) at h = let s = name_shows x at h in record { tokens = spells.name x s.0 ∷ []; to = s.1; cuts = s.2; spelled = spells.named x s.0 }

record PrintsExtents (e : Extents) (text : Text) (at : ℕ) : Type 0 where
  pub tokens : Tokens
  pub to : ℕ
  pub cuts : Cuts Any at text tokens to
  pub opens : (rest : Text) → Edge (text ++ rest)
  pub spelled : SpellsExtents e tokens

extents_prints : (e : Extents) (at : ℕ) → IsPrintableExtents e → PrintsExtents e (extents_text e) at
unfolding kind_of_byte
extents_prints (extents.One a) at h =
    let o = sign_shows 91 sign.OpenBracket at refl (omega arith) (λ k. refl) in
    let r = extent_prints a o.1 h in
    let c = sign_shows 93 sign.CloseBracket r.to refl (omega arith) (λ k. refl) in
    record {
      tokens = spells.sign_at sign.OpenBracket o.0 ∷ (r.tokens ++ spells.sign_at sign.CloseBracket c.0 ∷ []);
      to = c.1;
      cuts = behind {P = Edge} (behind {P = Any} o.2 r.cuts (λ rest q. tt)) c.2 (λ rest q f. f);
      opens = λ rest f. f;
      spelled = spells.one o.0 c.0 r.spelled;
    }
extents_prints (extents.Two a b) at h =
    let o = sign_shows 91 sign.OpenBracket at refl (omega arith) (λ k. refl) in
    let r = extent_prints a o.1 h.0 in
    let d = sign_shows 44 sign.Comma r.to refl (omega arith) (λ k. refl) in
    let t = extent_prints b d.1 h.1 in
    let c = sign_shows 93 sign.CloseBracket t.to refl (omega arith) (λ k. refl) in
    record {
      tokens = spells.sign_at sign.OpenBracket o.0 ∷ (r.tokens ++ spells.sign_at sign.Comma d.0 ∷ (t.tokens ++ spells.sign_at sign.CloseBracket c.0 ∷ []));
      to = c.1;
      cuts = as_tokens (simp append_assoc) (behind {P = Edge} (behind {P = Any} (behind {P = Edge} (behind {P = Any} o.2 r.cuts (λ rest q. tt)) d.2 (λ rest q f. f)) t.cuts (λ rest q. tt)) c.2 (λ rest q f. f));
      opens = λ rest f. f;
      spelled = spells.two o.0 d.0 c.0 r.spelled t.spelled;
    }

record PrintsRange (low high : ℤ) (text : Text) (at : ℕ) : Type 0 where
  pub lows : Tokens
  pub highs : Tokens
  pub to : ℕ
  pub colon : Span
  pub dots : Span
  pub semicolon : Span
  pub cuts : Cuts Any at text (spells.sign_at sign.Colon colon ∷ (lows ++ spells.sign_at sign.DotDot dots ∷ (highs ++ spells.sign_at sign.Semicolon semicolon ∷ []))) to
  pub low_spelled : SpellsInt low lows
  pub high_spelled : SpellsInt high highs

range_prints : (low high : ℤ) (at : ℕ) → IsSigned low → IsSigned high → PrintsRange low high (range_text (signed_decimal low) (signed_decimal high)) at
unfolding kind_of_byte
range_prints low high at h k =
    let o = spaced_shows 58 sign.Colon at refl (omega arith) refl in
    let l = int_prints low o.1 h in
    let d = double_shows 46 46 sign.DotDot l.to (omega arith) (omega arith) refl in
    let u = int_prints high d.1 k in
    let e = semicolon_shows u.to in
    record {
      lows = l.tokens;
      highs = u.tokens;
      to = e.1;
      colon = o.0;
      dots = d.0;
      semicolon = e.0;
      cuts = as_tokens (simp append_assoc) (behind {P = Edge} (behind {P = Any} (behind {P = Edge} (behind {P = Any} o.2 l.cuts (λ rest q. tt)) d.2 (λ rest q f. f)) u.cuts (λ rest q. tt)) e.2 (λ rest q f. f));
      low_spelled = l.spelled;
      high_spelled = u.spelled;
    }

-- declarations

record PrintsItem (x : NameBytes) (k : ItemKind) (text : Text) (at : ℕ) : Type 0 where
  pub tokens : Tokens
  pub to : ℕ
  pub span : Span
  pub cuts : Cuts Edge at text tokens to
  pub spelled : SpellsItem (declaration span x k) tokens

const_shows : (at : ℕ) → Shows Any at (codes "const ") (mark.Keyword keyword.Const)
unfolding kind_of_byte keyword_of
const_shows at = space_behind at (codes "const") (word_shows keyword.Const 99 (111 ∷ 110 ∷ 115 ∷ 116 ∷ []) at refl (tt, (tt, (tt, (tt, tt)))) refl)

input_shows : (at : ℕ) → Shows Any at (codes "input ") (mark.Keyword keyword.Input)
unfolding kind_of_byte keyword_of
input_shows at = space_behind at (codes "input") (word_shows keyword.Input 105 (110 ∷ 112 ∷ 117 ∷ 116 ∷ []) at refl (tt, (tt, (tt, (tt, tt)))) refl)

var_shows : (at : ℕ) → Shows Any at (codes "var ") (mark.Keyword keyword.Var)
unfolding kind_of_byte keyword_of
var_shows at = space_behind at (codes "var") (word_shows keyword.Var 118 (97 ∷ 114 ∷ []) at refl (tt, (tt, tt)) refl)

item_prints : (x : NameBytes) (k : ItemKind) (at : ℕ) → IsName x → IsPrintableKind k → PrintsItem x k (item_text x k) at
unfolding kind_of_byte
item_prints x (Const v) at h k =
    let s = const_shows at in
    let n = name_shows x s.1 h in
    let o = spaced_shows 61 sign.Equal n.1 refl (omega arith) refl in
    let i = int_prints v o.1 k in
    let e = semicolon_shows i.to in
    record {
      tokens = spells.keyword_at keyword.Const s.0 ∷ spells.name x n.0 ∷ spells.sign_at sign.Equal o.0 ∷ (i.tokens ++ spells.sign_at sign.Semicolon e.0 ∷ []);
      to = e.1;
      span = join s.0 e.0;
      cuts = weaker (behind {P = Edge} (behind {P = Any} (behind {P = Edge} (behind {P = Any} s.2 n.2 (λ rest q. tt)) o.2 (λ rest q f. f)) i.cuts (λ rest q. tt)) e.2 (λ rest q f. f));
      spelled = spells.constant x s.0 n.0 o.0 e.0 i.spelled;
    }
item_prints x (InputScalar low high) at h k =
    let s = input_shows at in
    let n = name_shows x s.1 h in
    let r = range_prints low high n.1 k.0 k.1 in
    record {
      tokens = spells.keyword_at keyword.Input s.0 ∷ spells.name x n.0 ∷ spells.sign_at sign.Colon r.colon ∷ (r.lows ++ spells.sign_at sign.DotDot r.dots ∷ (r.highs ++ spells.sign_at sign.Semicolon r.semicolon ∷ []));
      to = r.to;
      span = join s.0 r.semicolon;
      cuts = weaker (behind {P = Edge} (behind {P = Any} s.2 n.2 (λ rest q. tt)) r.cuts (λ rest q f. f));
      spelled = spells.input_scalar x s.0 n.0 r.colon r.dots r.semicolon r.low_spelled r.high_spelled;
    }
item_prints x (InputArray a low high) at h k =
    let s = input_shows at in
    let n = name_shows x s.1 h in
    let b = extents_prints a n.1 k.0 in
    let r = range_prints low high b.to k.1 k.2 in
    record {
      tokens = spells.keyword_at keyword.Input s.0 ∷ spells.name x n.0
          ∷ (b.tokens ++ spells.sign_at sign.Colon r.colon ∷ (r.lows ++ spells.sign_at sign.DotDot r.dots ∷ (r.highs ++ spells.sign_at sign.Semicolon r.semicolon ∷ [])));
      to = r.to;
      span = join s.0 r.semicolon;
      cuts = weaker (behind {P = Any} (behind {P = Edge} (behind {P = Any} s.2 n.2 (λ rest q. tt)) b.cuts (λ rest q. b.opens rest)) r.cuts (λ rest q. tt));
      spelled = spells.input_array x s.0 n.0 r.colon r.dots r.semicolon b.spelled r.low_spelled r.high_spelled;
    }
item_prints x VarScalar at h k =
    let s = var_shows at in
    let n = name_shows x s.1 h in
    let e = semicolon_shows n.1 in
    record {
      tokens = spells.keyword_at keyword.Var s.0 ∷ spells.name x n.0 ∷ spells.sign_at sign.Semicolon e.0 ∷ [];
      to = e.1;
      span = join s.0 e.0;
      cuts = weaker (behind {P = Edge} (behind {P = Any} s.2 n.2 (λ rest q. tt)) e.2 (λ rest q f. f));
      spelled = spells.var_scalar x s.0 n.0 e.0;
    }
item_prints x (VarArray a) at h k =
    let s = var_shows at in
    let n = name_shows x s.1 h in
    let b = extents_prints a n.1 k in
    let e = semicolon_shows b.to in
    record {
      tokens = spells.keyword_at keyword.Var s.0 ∷ spells.name x n.0 ∷ (b.tokens ++ spells.sign_at sign.Semicolon e.0 ∷ []);
      to = e.1;
      span = join s.0 e.0;
      cuts = weaker (behind {P = Any} (behind {P = Edge} (behind {P = Any} s.2 n.2 (λ rest q. tt)) b.cuts (λ rest q. b.opens rest)) e.2 (λ rest q. tt));
      spelled = spells.var_array x s.0 n.0 e.0 b.spelled;
    }

record PrintsItems (ds : List Item) (text : Text) (at : ℕ) : Type 0 where
  pub tokens : Tokens
  pub to : ℕ
  pub trees : List Item
  pub cuts : Cuts Any at text tokens to
  pub spelled : SpellsItems trees tokens
  pub same : changed_items bare trees ≡ changed_items bare ds

items_print : (ds : List Item) (at : ℕ) → ArePrintableItems ds → PrintsItems ds (items_text ds) at
items_print [] at h = record { tokens = []; to = at; trees = []; cuts = empty_cuts at; spelled = spells.none; same = refl }
items_print (d ∷ rest) at h =
    let i = indent_cuts 0 at in
    let s = item_prints d.name d.kind i.0 h.0 h.1 in
    let r = items_print rest (s.to + 1) h.2 in
    record {
      tokens = s.tokens ++ r.tokens;
      to = r.to;
      trees = declaration s.span d.name d.kind ∷ r.trees;
      cuts = behind {P = Any} (line_cuts 0 i.1 s.cuts) r.cuts (λ rest q. tt);
      spelled = spells.more s.spelled r.spelled;
      same = ap (λ (xs : List Item). record d { node = bare d.node } ∷ xs) r.same;
    }

-- the program

begin_shows : (at : ℕ) → Shows Any at (line 0 (codes "begin")) (mark.Keyword keyword.Begin)
unfolding kind_of_byte keyword_of
begin_shows at = word_line 0 keyword.Begin 98 (101 ∷ 103 ∷ 105 ∷ 110 ∷ []) at refl (tt, (tt, (tt, (tt, tt)))) refl

record PrintsProgram (p : Program) (text : Text) : Type 0 where
  pub tokens : Tokens
  pub to : ℕ
  pub tree : Program
  pub cuts : Cuts Any 0 text tokens to
  pub spelled : SpellsProgram tree tokens
  pub same : changed_program bare tree ≡ changed_program bare p

program_prints : (p : Program) → IsPrintable p → PrintsProgram p (program_text p)
program_prints p h =
    let i = items_print p.items 0 h.0 in
    let b = begin_shows i.to in
    let l = list_prints p.body 1 b.1 h.1 in
    let e = end_shows 0 l.to in
    record {
      tokens = i.tokens ++ spells.keyword_at keyword.Begin b.0 ∷ (l.tokens ++ spells.keyword_at keyword.End e.0 ∷ []);
      to = e.1;
      tree = record { node = node (join (first_span i.tokens b.0) e.0); items = i.trees; body = l.trees };
      cuts = as_tokens (simp append_assoc) (behind {P = Any} (behind {P = Any} (behind {P = Any} i.cuts b.2 (λ rest q. tt)) l.cuts (λ rest q. tt)) e.2 (λ rest q. tt));
      spelled = spells.program b.0 e.0 i.spelled l.spelled;
      same = ap₂ (λ (ds : List Item) (xs : List Stmt). record { node = bare p.node; items = ds; body = xs }) i.same l.same;
    }

-- the text spells the program again where its numbers are those that its tree gives
pub spelled_again : (p : Program) → changed_program spanless p ≡ numbered_program (changed_program bare p) → IsPrintable p → SpellsUpToSpans (program_text p) p
spelled_again p n h =
    let r = program_prints p h in
    let spells_it : Spells (program_text p) (numbered_program r.tree) = record {
      tokens = r.tokens;
      cut = record { utf8 = IsUtf8-from_ascii (program_text p) r.cuts.bytes; end_ = r.to; cut = subst (λ t. Lexes 0 t r.tokens r.to []) (append-nil (program_text p)) (r.cuts.cut [] tt) };
      tree = r.tree;
      spelled = r.spelled;
      numbers = refl;
    } in
    let same_up : IsSameUpToSpans (numbered_program r.tree) p = program_numbered r.tree ∙ (ap numbered_program r.same ∙ sym n) in
    record { spelled = numbered_program r.tree; spells = spells_it; same = same_up }

pub program_reads_back : (p : Program) → IsNumbered p → IsPrintable p → SpellsUpToSpans (program_text p) p
program_reads_back p n h = spelled_again p (ap (changed_program spanless) n ∙ program_numbered p) h
