-- A program that is spelled is read.
use Rattle.std.proofs.Common.{◌≡◌, ℤ, List, [], ◌∷◌, ◌++◌, Option, Some, None, refl, sym, ◌∙◌, ap, append_assoc, append-nil}
use Rattle.ac_tree.specs.declared.node.Span.{Span}
use Rattle.ac_tree.specs.declared.program.Extent.{Extent}
use Rattle.ac_tree.specs.declared.program.Extents.{Extents}
use Rattle.ac_tree.specs.declared.program.Item.{Item}
use Rattle.ac_tree.specs.declared.program.Program.{Program}
use Rattle.ac_tree.specs.declared.program.Stmt.{Stmt}
use Rattle.ac_tree.specs.declared.token.Keyword.TheVariants as keyword
use Rattle.ac_tree.specs.declared.token.Sign.TheVariants as sign
use Rattle.ac_tree.specs.declared.token.Token.{Token}
use Rattle.ac_tree.specs.Grammar as g
use Rattle.ac_tree.specs.Grammar.{Tokens, NameBytes, SpellsInt, SpellsExtent, SpellsExtents, SpellsItem, SpellsItems, SpellsProgram, keyword_at, sign_at, node, first_span}
use Rattle.ac_parse.specs.declared.declaration.DeclState.{DeclState}
use Rattle.ac_parse.specs.declared.declaration.DeclState.TheVariants.{Between, Int, IntRead, StoredName, Extent as ExtentIn, ExtentRead, Extended}
use Rattle.ac_parse.specs.declared.declaration.IntUse.{IntUse}
use Rattle.ac_parse.specs.declared.declaration.IntUse.TheVariants.{Value, Low, High}
use Rattle.ac_parse.specs.declared.declaration.ProgramReading.TheVariants.{Declarations, Whole}
use Rattle.ac_parse.specs.declared.declaration.Storage.{Storage}
use Rattle.ac_parse.specs.declared.declaration.Storage.TheVariants as storage
use Rattle.ac_parse.specs.declared.statement.StmtReading.{StmtReading}
use Rattle.ac_parse.specs.ReadStatement as statement
use Rattle.ac_parse.specs.ReadProgram.{start, begin_of, program_of, body_of, body_ends, step, value, runs}
use Rattle.ac_expression_reader.proofs.Paths.{Reaches, path_runs, path_within, step_runs, inside_taken, inside_passed}
use Rattle.ac_parse.proofs.StatementComplete.{block_reached}
use Rattle.ac_parse.proofs.StatementEnds.{block_own, block_closed}

abbrev pub run : List Item → DeclState → Tokens → Option Program
run ds s ts = runs (Declarations ds s) ts

two_parts : (ts us rest : Tokens) (t e : Token) → (ts ++ t ∷ (us ++ e ∷ [])) ++ rest ≡ ts ++ t ∷ (us ++ e ∷ rest)
two_parts ts us rest t e = simp append_assoc

three_parts : (ts us vs rest : Tokens) (t l e : Token) → (ts ++ t ∷ (us ++ l ∷ (vs ++ e ∷ []))) ++ rest ≡ ts ++ t ∷ (us ++ l ∷ (vs ++ e ∷ rest))
three_parts ts us vs rest t l e = simp append_assoc

int_moves : {k : ℤ} {ts : Tokens} → SpellsInt k ts → (ds : List Item) (u : IntUse) (rest : Tokens) → run ds (Int u) (ts ++ rest) ≡ run ds (IntRead u k) rest
int_moves (g.bare n s) = λ ds u rest. refl
int_moves (g.below n o s) = λ ds u rest. refl

extent_moves : {a : Extent} {ts : Tokens} → SpellsExtent a ts → (ds : List Item) (w : Storage) (s : Span) (x : NameBytes) (f : Option Extent) (rest : Tokens) →
    run ds (ExtentIn w s x f) (ts ++ rest) ≡ run ds (ExtentRead w s x f a) rest
extent_moves (g.fixed n s) = λ ds w t x f rest. refl
extent_moves (g.named y s) = λ ds w t x f rest. refl

extents_move : {a : Extents} {ts : Tokens} → SpellsExtents a ts → (ds : List Item) (w : Storage) (s : Span) (x : NameBytes) (rest : Tokens) →
    run ds (StoredName w s x) (ts ++ rest) ≡ run ds (Extended w s x a) rest
extents_move (g.one {a = a} {ts = ts} o c d) = λ ds w s x rest.
    ap (run ds (ExtentIn w s x None)) (append_assoc ts (sign_at sign.CloseBracket c ∷ []) rest) ∙ extent_moves d ds w s x None (sign_at sign.CloseBracket c ∷ rest)
extents_move (g.two {a = a} {b = b} {ts = ts} {us = us} o m c d e) = λ ds w s x rest.
    ap (run ds (ExtentIn w s x None)) (two_parts ts us rest (sign_at sign.Comma m) (sign_at sign.CloseBracket c))
    ∙ (extent_moves d ds w s x None (sign_at sign.Comma m ∷ (us ++ sign_at sign.CloseBracket c ∷ rest)) ∙ extent_moves e ds w s x (Some a) (sign_at sign.CloseBracket c ∷ rest))

item_moves : {a : Item} {ts : Tokens} → SpellsItem a ts → (ds : List Item) (rest : Tokens) → run ds Between (ts ++ rest) ≡ run (ds ++ a ∷ []) Between rest
item_moves (g.constant {k = k} {ts = ts} x s n o e d) = λ ds rest.
    ap (run ds (Int (Value s x))) (append_assoc ts (sign_at sign.Semicolon e ∷ []) rest) ∙ int_moves d ds (Value s x) (sign_at sign.Semicolon e ∷ rest)
item_moves (g.input_scalar {low = low} {high = high} {ts = ts} {us = us} x s n o d e p q) = λ ds rest.
    ap (run ds (Int (Low s x None))) (two_parts ts us rest (sign_at sign.DotDot d) (sign_at sign.Semicolon e))
    ∙ (int_moves p ds (Low s x None) (sign_at sign.DotDot d ∷ (us ++ sign_at sign.Semicolon e ∷ rest)) ∙ int_moves q ds (High s x None low) (sign_at sign.Semicolon e ∷ rest))
item_moves (g.input_array {a = a} {low = low} {high = high} {bs = bs} {ts = ts} {us = us} x s n o d e r p q) = λ ds rest.
    ap (run ds (StoredName storage.Input s x)) (three_parts bs ts us rest (sign_at sign.Colon o) (sign_at sign.DotDot d) (sign_at sign.Semicolon e))
    ∙ (extents_move r ds storage.Input s x (sign_at sign.Colon o ∷ (ts ++ sign_at sign.DotDot d ∷ (us ++ sign_at sign.Semicolon e ∷ rest)))
    ∙ (int_moves p ds (Low s x (Some a)) (sign_at sign.DotDot d ∷ (us ++ sign_at sign.Semicolon e ∷ rest)) ∙ int_moves q ds (High s x (Some a) low) (sign_at sign.Semicolon e ∷ rest)))
item_moves (g.var_scalar x s n e) = λ ds rest. refl
item_moves (g.var_array {a = a} {bs = bs} x s n e r) = λ ds rest.
    ap (run ds (StoredName storage.Var s x)) (append_assoc bs (sign_at sign.Semicolon e ∷ []) rest) ∙ extents_move r ds storage.Var s x (sign_at sign.Semicolon e ∷ rest)

items_move : {es : List Item} {ts : Tokens} → SpellsItems es ts → (ds : List Item) (rest : Tokens) → run ds Between (ts ++ rest) ≡ run (ds ++ es) Between rest
items_move g.none = λ ds rest. ap (λ es. run es Between rest) (sym (append-nil ds))
items_move (g.more {a = a} {xs = es} {ts = ts} {us = us} d b) = λ ds rest.
    ap (run ds Between) (append_assoc ts us rest)
    ∙ (item_moves d ds (us ++ rest) ∙ (items_move b (ds ++ a ∷ []) rest ∙ ap (λ fs. run fs Between rest) (append_assoc ds (a ∷ []) es)))

-- the body, inside
body_stays : (ds : List Item) (b : Span) (m j : StmtReading) (t : Token) → statement.step m t ≡ Some j → step (body_of ds b m) t ≡ Some (body_of ds b j)
body_stays ds b m j t h =
    inside_taken (body_of ds b) (body_ends ds b t.span t.mark) (statement.is_own m.stack t.mark) (statement.step m t) (statement.value m) j (block_own m j t h) h

pub body_leads : (ts rest : Tokens) (ds : List Item) (b e : Span) (m : StmtReading) (xs : List Stmt) → Reaches statement.step statement.value m ts xs →
    runs (body_of ds b m) (ts ++ keyword_at keyword.End e ∷ rest) ≡ runs (Whole (program_of ds b e xs)) rest
body_leads ts rest ds b e m xs r =
    let l = r.last in
    let t = keyword_at keyword.End e in
    path_runs step value ts (t ∷ rest) (body_of ds b m) (body_of ds b l) (path_within statement.step step (body_of ds b) (body_stays ds b) ts m l r.path)
    ∙ step_runs step value (body_of ds b l) (Whole (program_of ds b e xs)) t rest
    (inside_passed (body_of ds b) (body_ends ds b e t.mark) (statement.is_own l.stack t.mark) (statement.step l t) (statement.value l) xs
    (ap (λ k. statement.is_own k t.mark) (block_closed l xs r.gives)) r.gives)

-- the first token of a declaration begins it
item_begins : {a : Item} {ts : Tokens} → SpellsItem a ts → (us : Tokens) (b : Span) → (first_span (ts ++ us) b).start ≡ a.node.span.start
item_begins (g.constant x s n o e d) = λ us b. refl
item_begins (g.input_scalar x s n o d e p q) = λ us b. refl
item_begins (g.input_array x s n o d e r p q) = λ us b. refl
item_begins (g.var_scalar x s n e) = λ us b. refl
item_begins (g.var_array x s n e r) = λ us b. refl

pub items_begin : {ds : List Item} {ts : Tokens} → SpellsItems ds ts → (b : Span) → (first_span ts b).start ≡ (begin_of ds b).start
items_begin g.none = λ b. refl
items_begin (g.more {us = us} d r) = λ b. item_begins d us b

pub complete : {p : Program} {ts : Tokens} → SpellsProgram p ts → runs start ts ≡ Some p
complete (g.program {ds = ds} {xs = xs} {ts = ts} {us = us} b e d r) =
    items_move d [] (keyword_at keyword.Begin b ∷ (us ++ keyword_at keyword.End e ∷ []))
    ∙ (body_leads us [] ds b e statement.start xs (block_reached r)
    ∙ ap (λ i. Some (record { node = node (record { start = i; end = e.end }); items = ds; body = xs })) (sym (items_begin d b)))

-- tokens spell at most one program
pub one_program : {p q : Program} {ts : Tokens} → SpellsProgram p ts → SpellsProgram q ts → p ≡ q
one_program d e = let p = complete d in let q = complete e in cc
