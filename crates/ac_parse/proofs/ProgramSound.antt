-- A program that is read is spelled so.
use Rattle.std.proofs.Common.{◌≡◌, ℤ, pos, neg_ℤ, List, [], ◌∷◌, ◌++◌, Option, Some, None, refl, sym, ap, subst, append_assoc, append-nil}
use Rattle.ac_tree.specs.declared.node.Span.{Span}
use Rattle.ac_tree.specs.declared.program.Extent.{Extent}
use Rattle.ac_tree.specs.declared.program.Extent.TheVariants as extent
use Rattle.ac_tree.specs.declared.program.Extents.{Extents}
use Rattle.ac_tree.specs.declared.program.Item.{Item}
use Rattle.ac_tree.specs.declared.program.ItemKind.{ItemKind}
use Rattle.ac_tree.specs.declared.program.ItemKind.TheVariants as item
use Rattle.ac_tree.specs.declared.program.Program.{Program}
use Rattle.ac_tree.specs.declared.program.Stmt.{Stmt}
use Rattle.ac_tree.specs.declared.token.Keyword.TheVariants as keyword
use Rattle.ac_tree.specs.declared.token.Mark.{Mark}
use Rattle.ac_tree.specs.declared.token.Mark.TheVariants as mark
use Rattle.ac_tree.specs.declared.token.Sign.TheVariants as sign
use Rattle.ac_tree.specs.declared.token.Token.{Token}
use Rattle.ac_tree.specs.Grammar as g
use Rattle.ac_tree.specs.Grammar.{Tokens, NameBytes, SpellsInt, SpellsExtent, SpellsExtents, SpellsItem, SpellsItems, SpellsBlock, SpellsProgram, token, name, literal, keyword_at, sign_at, join, node, declaration}
use Rattle.ac_parse.specs.declared.declaration.DeclState.{DeclState}
use Rattle.ac_parse.specs.declared.declaration.DeclState.TheVariants.{Between, Const, ConstName, Int, Minus, IntRead, Stored, StoredName, Extent as ExtentIn, ExtentRead, Extended}
use Rattle.ac_parse.specs.declared.declaration.IntUse.{IntUse}
use Rattle.ac_parse.specs.declared.declaration.IntUse.TheVariants.{Value, Low, High}
use Rattle.ac_parse.specs.declared.declaration.ProgramReading.{ProgramReading}
use Rattle.ac_parse.specs.declared.declaration.ProgramReading.TheVariants.{Declarations, Body, Whole}
use Rattle.ac_parse.specs.declared.declaration.Storage.{Storage}
use Rattle.ac_parse.specs.declared.declaration.Storage.TheVariants as storage
use Rattle.ac_parse.specs.declared.statement.StmtReading.{StmtReading}
use Rattle.ac_parse.specs.ReadStatement as statement
use Rattle.ac_parse.specs.ReadProgram.{start, declare, between, const_name, const_equal, int, negative, int_ends, const_ends, low_ends, high_ends, stored_name, named, sized, input_goes_on, var_ends, input_kind, var_kind, extent_comes, extent_ends, next_extent, extents_of, body_of, body_ends, step, value}
use Rattle.ac_expression_reader.proofs.ExpressionSound.{◌⋯◌, Just}
use Rattle.ac_expression_reader.proofs.Paths.{IsPath, path_more, inside_cases}
use Rattle.ac_parse.proofs.ProgramComplete.{items_begin}
use Rattle.ac_parse.proofs.StatementSound.{block_spelled}

-- what has been read, by each part of the state
abbrev pub word_of : Storage → Span → Token
word_of storage.Input s = keyword_at keyword.Input s
word_of storage.Var s = keyword_at keyword.Var s

abbrev pub InExtents : Option Extents → Tokens → Type 0
InExtents None ts = ts ≡ []
InExtents (Some a) ts = SpellsExtents a ts

abbrev pub InUse : IntUse → Tokens → Type 0
InUse (Value s x) ts = (n o : Span) × (ts ≡ keyword_at keyword.Const s ∷ name x n ∷ sign_at sign.Equal o ∷ [])
InUse (Low s x a) ts = (n o : Span) × (es : Tokens) × (ts ≡ keyword_at keyword.Input s ∷ name x n ∷ (es ++ sign_at sign.Colon o ∷ [])) × InExtents a es
InUse (High s x a low) ts = (n o d : Span) × (es ls : Tokens) ×
    (ts ≡ keyword_at keyword.Input s ∷ name x n ∷ (es ++ sign_at sign.Colon o ∷ (ls ++ sign_at sign.DotDot d ∷ []))) × InExtents a es × SpellsInt low ls

abbrev pub InFirst : Option Extent → Tokens → Type 0
InFirst None ts = ts ≡ []
InFirst (Some a) ts = (m : Span) × (us : Tokens) × (ts ≡ us ++ sign_at sign.Comma m ∷ []) × SpellsExtent a us

abbrev pub InState : DeclState → Tokens → Type 0
InState Between ts = ts ≡ []
InState (Const s) ts = ts ≡ keyword_at keyword.Const s ∷ []
InState (ConstName s x) ts = (n : Span) × (ts ≡ keyword_at keyword.Const s ∷ name x n ∷ [])
InState (Int u) ts = InUse u ts
InState (Minus u) ts = (o : Span) × (us : Tokens) × (ts ≡ us ++ sign_at sign.Minus o ∷ []) × InUse u us
InState (IntRead u k) ts = (InUse u ⋯ SpellsInt k) ts
InState (Stored w s) ts = ts ≡ word_of w s ∷ []
InState (StoredName w s x) ts = (n : Span) × (ts ≡ word_of w s ∷ name x n ∷ [])
InState (ExtentIn w s x f) ts = (n o : Span) × (fs : Tokens) × (ts ≡ word_of w s ∷ name x n ∷ sign_at sign.OpenBracket o ∷ fs) × InFirst f fs
InState (ExtentRead w s x f a) ts = (n o : Span) × (fs us : Tokens) × (ts ≡ word_of w s ∷ name x n ∷ sign_at sign.OpenBracket o ∷ (fs ++ us)) × InFirst f fs × SpellsExtent a us
InState (Extended w s x a) ts = (n : Span) × (es : Tokens) × (ts ≡ word_of w s ∷ name x n ∷ es) × SpellsExtents a es

abbrev pub IsRead : ProgramReading → Tokens → Type 0
IsRead (Declarations ds s) = SpellsItems ds ⋯ InState s
IsRead (Body ds b m) = SpellsItems ds ⋯ Just (keyword_at keyword.Begin b ∷ []) ⋯ (λ us. IsPath statement.step statement.start us m)
IsRead (Whole p) = SpellsProgram p

abbrev pub After : Option ProgramReading → Tokens → Type 0
After None ts = Unit {0}
After (Some m) ts = IsRead m ts

one_more : {ds : List Item} {ts : Tokens} → SpellsItems ds ts → (a : Item) (us : Tokens) → SpellsItem a us → SpellsItems (ds ++ a ∷ []) (ts ++ us)
one_more g.none a us d = subst (λ vs. SpellsItems (a ∷ []) vs) (append-nil us) (g.more d g.none)
one_more (g.more {a = b} {xs = es} {ts = ts} {us = vs} c r) a us d =
    subst (λ ws. SpellsItems (b ∷ (es ++ a ∷ [])) ws) (sym (append_assoc ts vs us)) (g.more c (one_more r a us d))

-- the state goes on
on : (ds : List Item) (s : DeclState) (bs us : Tokens) → SpellsItems ds bs → InState s us → IsRead (Declarations ds s) (bs ++ us)
on ds s bs us b h = (bs, us, refl, b, h)

-- a declaration is whole
whole_read : (ds : List Item) (s : Span) (x : NameBytes) (k : ItemKind) (bs us : Tokens) → SpellsItems ds bs → SpellsItem (declaration s x k) us →
    IsRead (Declarations (ds ++ declaration s x k ∷ []) Between) (bs ++ us)
whole_read ds s x k bs us b d = (bs ++ us, [], sym (append-nil (bs ++ us)), one_more b (declaration s x k) us d, refl)

abbrev Step : Option ProgramReading → (m : Mark) (e : Span) (bs us : Tokens) → Type 0
Step o m e bs us = After o (bs ++ (us ++ token m e ∷ []))

between_read : (ds : List Item) (e : Span) (m : Mark) (bs us : Tokens) → SpellsItems ds bs → us ≡ [] → Step (between ds e m) m e bs us
between_read ds e (mark.Keyword keyword.Const) bs us b h = on ds (Const e) bs (us ++ keyword_at keyword.Const e ∷ []) b (ap (λ ws. ws ++ keyword_at keyword.Const e ∷ []) h)
between_read ds e (mark.Keyword keyword.Input) bs us b h = on ds (Stored storage.Input e) bs (us ++ keyword_at keyword.Input e ∷ []) b (ap (λ ws. ws ++ keyword_at keyword.Input e ∷ []) h)
between_read ds e (mark.Keyword keyword.Var) bs us b h = on ds (Stored storage.Var e) bs (us ++ keyword_at keyword.Var e ∷ []) b (ap (λ ws. ws ++ keyword_at keyword.Var e ∷ []) h)
between_read ds e (mark.Keyword keyword.Begin) bs us b h = (bs, us ++ keyword_at keyword.Begin e ∷ [], refl, b, (keyword_at keyword.Begin e ∷ [], [], ap (λ ws. ws ++ keyword_at keyword.Begin e ∷ []) h, refl, refl))
between_read ds e _ bs us b h = tt

const_read : (ds : List Item) (s e : Span) (m : Mark) (bs us : Tokens) → SpellsItems ds bs → InState (Const s) us → Step (const_name ds s m) m e bs us
const_read ds s e (mark.Name x) bs us b h = on ds (ConstName s x) bs (us ++ name x e ∷ []) b (e, ap (λ ws. ws ++ name x e ∷ []) h)
const_read ds s e _ bs us b h = tt

const_name_read : (ds : List Item) (s : Span) (x : NameBytes) (e : Span) (m : Mark) (bs us : Tokens) → SpellsItems ds bs → InState (ConstName s x) us → Step (const_equal ds s x m) m e bs us
const_name_read ds s x e (mark.Sign sign.Equal) bs us b h = on ds (Int (Value s x)) bs (us ++ sign_at sign.Equal e ∷ []) b (h.0, e, ap (λ ws. ws ++ sign_at sign.Equal e ∷ []) h.1)
const_name_read ds s x e _ bs us b h = tt

int_read : (ds : List Item) (u : IntUse) (e : Span) (m : Mark) (bs us : Tokens) → SpellsItems ds bs → InUse u us → Step (int ds u m) m e bs us
int_read ds u e (mark.Literal n) bs us b h = on ds (IntRead u (pos n)) bs (us ++ literal n e ∷ []) b (us, literal n e ∷ [], refl, h, g.bare n e)
int_read ds u e (mark.Sign sign.Minus) bs us b h = on ds (Minus u) bs (us ++ sign_at sign.Minus e ∷ []) b (e, us, refl, h)
int_read ds u e _ bs us b h = tt

minus_read : (ds : List Item) (u : IntUse) (e : Span) (m : Mark) (bs us : Tokens) → SpellsItems ds bs → InState (Minus u) us → Step (negative ds u m) m e bs us
minus_read ds u e (mark.Literal n) bs us b h =
    on ds (IntRead u (neg_ℤ (pos n))) bs (us ++ literal n e ∷ []) b (h.1, sign_at sign.Minus h.0 ∷ literal n e ∷ [], rw h.2 (simp append_assoc), h.3, g.below n h.0 e)
minus_read ds u e _ bs us b h = tt

-- behind a number
abbrev Ended : Option ProgramReading → (m : Mark) (e : Span) (bs us vs : Tokens) → Type 0
Ended o m e bs us vs = After o (bs ++ (us ++ (vs ++ token m e ∷ [])))

const_ends_read : (ds : List Item) (s : Span) (x : NameBytes) (k : ℤ) (e : Span) (m : Mark) (bs us vs : Tokens) → SpellsItems ds bs → InUse (Value s x) us → SpellsInt k vs →
    Ended (const_ends ds s x k e m) m e bs us vs
const_ends_read ds s x k e (mark.Sign sign.Semicolon) bs us vs b h d =
    whole_read ds (join s e) x (item.Const k) bs (us ++ (vs ++ sign_at sign.Semicolon e ∷ [])) b (rw h.2 (g.constant x s h.0 h.1 e d))
const_ends_read ds s x k e _ bs us vs b h d = tt

low_ends_read : (ds : List Item) (s : Span) (x : NameBytes) (a : Option Extents) (k : ℤ) (e : Span) (m : Mark) (bs us vs : Tokens) → SpellsItems ds bs → InUse (Low s x a) us → SpellsInt k vs →
    Ended (low_ends ds s x a k m) m e bs us vs
low_ends_read ds s x a k e (mark.Sign sign.DotDot) bs us vs b h d =
    on ds (Int (High s x a k)) bs (us ++ (vs ++ sign_at sign.DotDot e ∷ [])) b (h.0, h.1, e, h.2, vs, rw h.3 (simp append_assoc), h.4, d)
low_ends_read ds s x a k e _ bs us vs b h d = tt

input_spelled : (s : Span) (x : NameBytes) (n o d e : Span) (a : Option Extents) (low high : ℤ) (es ls hs : Tokens) → InExtents a es → SpellsInt low ls → SpellsInt high hs →
    SpellsItem (declaration (join s e) x (input_kind a low high)) (keyword_at keyword.Input s ∷ name x n ∷ (es ++ sign_at sign.Colon o ∷ (ls ++ sign_at sign.DotDot d ∷ (hs ++ sign_at sign.Semicolon e ∷ []))))
input_spelled s x n o d e None low high es ls hs h p q = rw h (g.input_scalar x s n o d e p q)
input_spelled s x n o d e (Some a) low high es ls hs h p q = g.input_array x s n o d e h p q

high_ends_read : (ds : List Item) (s : Span) (x : NameBytes) (a : Option Extents) (low k : ℤ) (e : Span) (m : Mark) (bs us vs : Tokens) → SpellsItems ds bs → InUse (High s x a low) us → SpellsInt k vs →
    Ended (high_ends ds s x a low k e m) m e bs us vs
high_ends_read ds s x a low k e (mark.Sign sign.Semicolon) bs us vs b h d =
    whole_read ds (join s e) x (input_kind a low k) bs (us ++ (vs ++ sign_at sign.Semicolon e ∷ [])) b
    (subst (λ ts. SpellsItem (declaration (join s e) x (input_kind a low k)) ts) (rw h.5 (simp append_assoc)) (input_spelled s x h.0 h.1 h.2 e a low k h.3 h.4 vs h.6 h.7 d))
high_ends_read ds s x a low k e _ bs us vs b h d = tt

int_ends_read : (ds : List Item) (u : IntUse) (k : ℤ) (e : Span) (m : Mark) (bs us vs : Tokens) → SpellsItems ds bs → InUse u us → SpellsInt k vs → Ended (int_ends ds u k e m) m e bs us vs
int_ends_read ds (Value s x) k e m bs us vs b h d = const_ends_read ds s x k e m bs us vs b h d
int_ends_read ds (Low s x a) k e m bs us vs b h d = low_ends_read ds s x a k e m bs us vs b h d
int_ends_read ds (High s x a low) k e m bs us vs b h d = high_ends_read ds s x a low k e m bs us vs b h d

stored_read : (ds : List Item) (w : Storage) (s e : Span) (m : Mark) (bs us : Tokens) → SpellsItems ds bs → InState (Stored w s) us → Step (stored_name ds w s m) m e bs us
stored_read ds w s e (mark.Name x) bs us b h = on ds (StoredName w s x) bs (us ++ name x e ∷ []) b (e, ap (λ ws. ws ++ name x e ∷ []) h)
stored_read ds w s e _ bs us b h = tt

input_read : (ds : List Item) (s : Span) (x : NameBytes) (n : Span) (a : Option Extents) (e : Span) (m : Mark) (bs us es : Tokens) → SpellsItems ds bs → us ≡ keyword_at keyword.Input s ∷ name x n ∷ es → InExtents a es →
    Step (input_goes_on ds s x a m) m e bs us
input_read ds s x n a e (mark.Sign sign.Colon) bs us es b h d = on ds (Int (Low s x a)) bs (us ++ sign_at sign.Colon e ∷ []) b (n, e, es, ap (λ ws. ws ++ sign_at sign.Colon e ∷ []) h, d)
input_read ds s x n a e _ bs us es b h d = tt

var_spelled : (s : Span) (x : NameBytes) (n e : Span) (a : Option Extents) (es : Tokens) → InExtents a es →
    SpellsItem (declaration (join s e) x (var_kind a)) (keyword_at keyword.Var s ∷ name x n ∷ (es ++ sign_at sign.Semicolon e ∷ []))
var_spelled s x n e None es h = rw h (g.var_scalar x s n e)
var_spelled s x n e (Some a) es h = g.var_array x s n e h

var_read : (ds : List Item) (s : Span) (x : NameBytes) (n : Span) (a : Option Extents) (e : Span) (m : Mark) (bs us es : Tokens) → SpellsItems ds bs → us ≡ keyword_at keyword.Var s ∷ name x n ∷ es → InExtents a es →
    Step (var_ends ds s x a e m) m e bs us
var_read ds s x n a e (mark.Sign sign.Semicolon) bs us es b h d =
    whole_read ds (join s e) x (var_kind a) bs (us ++ sign_at sign.Semicolon e ∷ []) b (rw h (var_spelled s x n e a es d))
var_read ds s x n a e _ bs us es b h d = tt

sized_read : (ds : List Item) (w : Storage) (s : Span) (x : NameBytes) (n : Span) (a : Option Extents) (e : Span) (m : Mark) (bs us es : Tokens) → SpellsItems ds bs → us ≡ word_of w s ∷ name x n ∷ es → InExtents a es →
    Step (sized ds w s x a e m) m e bs us
sized_read ds storage.Input s x n a e m bs us es b h d = input_read ds s x n a e m bs us es b h d
sized_read ds storage.Var s x n a e m bs us es b h d = var_read ds s x n a e m bs us es b h d

named_read : (ds : List Item) (w : Storage) (s : Span) (x : NameBytes) (e : Span) (m : Mark) (bs us : Tokens) → SpellsItems ds bs → InState (StoredName w s x) us → Step (named ds w s x e m) m e bs us
named_read ds w s x e (mark.Sign sign.OpenBracket) bs us b h =
    on ds (ExtentIn w s x None) bs (us ++ sign_at sign.OpenBracket e ∷ []) b (h.0, e, [], ap (λ ws. ws ++ sign_at sign.OpenBracket e ∷ []) h.1, refl)
named_read ds w s x e m bs us b h = sized_read ds w s x h.0 None e m bs us [] b h.1 refl

extent_read : (ds : List Item) (w : Storage) (s : Span) (x : NameBytes) (f : Option Extent) (e : Span) (m : Mark) (bs us : Tokens) → SpellsItems ds bs → InState (ExtentIn w s x f) us → Step (extent_comes ds w s x f m) m e bs us
extent_read ds w s x f e (mark.Literal n) bs us b h =
    on ds (ExtentRead w s x f (extent.Lit n)) bs (us ++ literal n e ∷ []) b (h.0, h.1, h.2, literal n e ∷ [], ap (λ ws. ws ++ literal n e ∷ []) h.3, h.4, g.fixed n e)
extent_read ds w s x f e (mark.Name y) bs us b h =
    on ds (ExtentRead w s x f (extent.Named y)) bs (us ++ name y e ∷ []) b (h.0, h.1, h.2, name y e ∷ [], ap (λ ws. ws ++ name y e ∷ []) h.3, h.4, g.named y e)
extent_read ds w s x f e _ bs us b h = tt

close_read : (ds : List Item) (w : Storage) (s : Span) (x : NameBytes) (f : Option Extent) (a : Extent) (e : Span) (bs us : Tokens) → SpellsItems ds bs → InState (ExtentRead w s x f a) us →
    IsRead (Declarations ds (Extended w s x (extents_of f a))) (bs ++ (us ++ sign_at sign.CloseBracket e ∷ []))
close_read ds w s x None a e bs us b h =
    let close = sign_at sign.CloseBracket e ∷ [] in
    on ds (Extended w s x (extents_of None a)) bs (us ++ close) b (h.0, sign_at sign.OpenBracket h.1 ∷ (h.3 ++ close), rw (h.4, h.5) refl, g.one h.1 e h.6)
close_read ds w s x (Some f) a e bs us b h =
    let close = sign_at sign.CloseBracket e ∷ [] in
    let q = h.5 in
    on ds (Extended w s x (extents_of (Some f) a)) bs (us ++ close) b
    (h.0, sign_at sign.OpenBracket h.1 ∷ (q.1 ++ sign_at sign.Comma q.0 ∷ (h.3 ++ close)), rw (h.4, q.2) (simp append_assoc), g.two h.1 q.0 e q.3 h.6)

comma_read : (ds : List Item) (w : Storage) (s : Span) (x : NameBytes) (f : Option Extent) (a : Extent) (e : Span) (bs us : Tokens) → SpellsItems ds bs → InState (ExtentRead w s x f a) us →
    After (next_extent ds w s x f a) (bs ++ (us ++ sign_at sign.Comma e ∷ []))
comma_read ds w s x None a e bs us b h =
    on ds (ExtentIn w s x (Some a)) bs (us ++ sign_at sign.Comma e ∷ []) b (h.0, h.1, h.3 ++ sign_at sign.Comma e ∷ [], rw (h.4, h.5) refl, (e, h.3, refl, h.6))
comma_read ds w s x (Some f) a e bs us b h = tt

extent_ends_read : (ds : List Item) (w : Storage) (s : Span) (x : NameBytes) (f : Option Extent) (a : Extent) (e : Span) (m : Mark) (bs us : Tokens) → SpellsItems ds bs → InState (ExtentRead w s x f a) us →
    Step (extent_ends ds w s x f a m) m e bs us
extent_ends_read ds w s x f a e (mark.Sign sign.CloseBracket) bs us b h = close_read ds w s x f a e bs us b h
extent_ends_read ds w s x f a e (mark.Sign sign.Comma) bs us b h = comma_read ds w s x f a e bs us b h
extent_ends_read ds w s x f a e _ bs us b h = tt

declare_read : (ds : List Item) (s : DeclState) (e : Span) (m : Mark) (bs us : Tokens) → SpellsItems ds bs → InState s us → Step (declare ds s e m) m e bs us
declare_read ds Between e m bs us b h = between_read ds e m bs us b h
declare_read ds (Const s) e m bs us b h = const_read ds s e m bs us b h
declare_read ds (ConstName s x) e m bs us b h = const_name_read ds s x e m bs us b h
declare_read ds (Int u) e m bs us b h = int_read ds u e m bs us b h
declare_read ds (Minus u) e m bs us b h = minus_read ds u e m bs us b h
declare_read ds (IntRead u k) e m bs us b h =
    subst (λ ws. After (int_ends ds u k e m) (bs ++ ws)) (rw h.2 (simp append_assoc)) (int_ends_read ds u k e m bs h.0 h.1 b h.3 h.4)
declare_read ds (Stored w s) e m bs us b h = stored_read ds w s e m bs us b h
declare_read ds (StoredName w s x) e m bs us b h = named_read ds w s x e m bs us b h
declare_read ds (ExtentIn w s x f) e m bs us b h = extent_read ds w s x f e m bs us b h
declare_read ds (ExtentRead w s x f a) e m bs us b h = extent_ends_read ds w s x f a e m bs us b h
declare_read ds (Extended w s x a) e m bs us b h = sized_read ds w s x h.0 (Some a) e m bs us h.1 b h.2 h.3

-- the last `end`
end_read : (ds : List Item) (b e : Span) (m : Mark) (xs : List Stmt) (bs us : Tokens) → SpellsItems ds bs → SpellsBlock xs us →
    After (body_ends ds b e m xs) (bs ++ keyword_at keyword.Begin b ∷ (us ++ token m e ∷ []))
end_read ds b e (mark.Keyword keyword.End) xs bs us d r =
    subst (λ i. SpellsProgram (record { node = node (record { start = i; end = e.end }); items = ds; body = xs }) (bs ++ keyword_at keyword.Begin b ∷ (us ++ keyword_at keyword.End e ∷ [])))
    (items_begin d b) (g.program b e d r)
end_read ds b e _ xs bs us d r = tt

body_read : (ds : List Item) (b : Span) (m : StmtReading) (t : Token) (bs us : Tokens) → SpellsItems ds bs → IsPath statement.step statement.start us m →
    After (step (Body ds b m) t) (bs ++ keyword_at keyword.Begin b ∷ (us ++ t ∷ []))
body_read ds b m t bs us d p =
    inside_cases (body_of ds b) (body_ends ds b t.span t.mark) (λ o. After o (bs ++ keyword_at keyword.Begin b ∷ (us ++ t ∷ []))) (statement.is_own m.stack t.mark) (statement.step m t) (statement.value m) tt
    (λ j e. (bs, keyword_at keyword.Begin b ∷ (us ++ t ∷ []), refl, d, (keyword_at keyword.Begin b ∷ [], us ++ t ∷ [], refl, refl, path_more statement.step us statement.start m j t p e)))
    (λ xs v. end_read ds b t.span t.mark xs bs us d (block_spelled us m xs p v))

step_read : (m : ProgramReading) (t : Token) (pre : Tokens) → IsRead m pre → After (step m t) (pre ++ t ∷ [])
step_read (Declarations ds s) t pre h =
    subst (λ ts. After (declare ds s t.span t.mark) ts) (rw h.2 (simp append_assoc)) (declare_read ds s t.span t.mark h.0 h.1 h.3 h.4)
step_read (Body ds b m) t pre h =
    let q = h.4 in
    subst (λ ts. After (step (Body ds b m) t) ts) (rw (h.2, q.2, q.3) (simp append_assoc)) (body_read ds b m t h.0 q.1 h.3 q.4)
step_read (Whole p) t pre h = tt

pub path_read : (ts : Tokens) (m n : ProgramReading) (pre : Tokens) → IsRead m pre → IsPath step m ts n → IsRead n (pre ++ ts)
path_read [] m n pre h p = subst (λ ts. IsRead n ts) (sym (append-nil pre)) (subst (λ (j : ProgramReading). IsRead j pre) p h)
path_read (t ∷ ts) m n pre h p =
    let i = subst (λ (o : Option ProgramReading). After o (pre ++ t ∷ [])) p.1 (step_read m t pre h) in
    subst (λ us. IsRead n us) (append_assoc pre (t ∷ []) ts) (path_read ts p.0 n (pre ++ t ∷ []) i p.2)

start_read : IsRead start []
start_read = ([], [], refl, g.none, refl)

whole_spelled : (m : ProgramReading) (q : Program) (pre : Tokens) → value m ≡ Some q → IsRead m pre → SpellsProgram q pre
whole_spelled (Whole p) q pre v h = let e : p ≡ q = cc in subst (λ (r : Program). SpellsProgram r pre) e h
whole_spelled (Declarations ds s) q pre v h = cc
whole_spelled (Body ds b m) q pre v h = cc

-- what is read is spelled so
pub program_spelled : (ts : Tokens) (m : ProgramReading) (p : Program) → IsPath step start ts m → value m ≡ Some p → SpellsProgram p ts
program_spelled ts m p q v = whole_spelled m p ts v (path_read ts start m [] start_read q)
