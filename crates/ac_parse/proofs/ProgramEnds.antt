-- Each state of a program can be completed.
use Rattle.std.proofs.Common.{◌≡◌, ℤ, pos, List, [], ◌∷◌, ◌++◌, Option, Some, None, refl, ◌∙◌, ap}
use Rattle.ac_tree.specs.declared.node.Span.{Span}
use Rattle.ac_tree.specs.declared.program.Extent.{Extent}
use Rattle.ac_tree.specs.declared.program.Extent.TheVariants as extent
use Rattle.ac_tree.specs.declared.program.Extents.{Extents}
use Rattle.ac_tree.specs.declared.program.Item.{Item}
use Rattle.ac_tree.specs.declared.program.Program.{Program}
use Rattle.ac_tree.specs.declared.token.Keyword.TheVariants as keyword
use Rattle.ac_tree.specs.declared.token.Sign.TheVariants as sign
use Rattle.ac_tree.specs.declared.token.Token.{Token}
use Rattle.ac_tree.specs.Grammar.{Tokens, NameBytes, keyword_at, sign_at, name, literal}
use Rattle.ac_parse.specs.declared.declaration.DeclState.{DeclState}
use Rattle.ac_parse.specs.declared.declaration.DeclState.TheVariants.{Between, Const, ConstName, Int, Minus, IntRead, Stored, StoredName, Extent as ExtentIn, ExtentRead, Extended}
use Rattle.ac_parse.specs.declared.declaration.IntUse.{IntUse}
use Rattle.ac_parse.specs.declared.declaration.IntUse.TheVariants.{Value, Low, High}
use Rattle.ac_parse.specs.declared.declaration.ProgramReading.{ProgramReading}
use Rattle.ac_parse.specs.declared.declaration.ProgramReading.TheVariants.{Declarations, Body, Whole}
use Rattle.ac_parse.specs.declared.declaration.Storage.{Storage}
use Rattle.ac_parse.specs.declared.declaration.Storage.TheVariants as storage
use Rattle.ac_parse.specs.declared.statement.StmtReading.{StmtReading}
use Rattle.ac_parse.specs.ReadStatement as statement
use Rattle.ac_parse.specs.ReadProgram.{extents_of, program_of, step, runs}
use Rattle.ac_expression_reader.proofs.ExpressionEnds.{nowhere}
use Rattle.ac_parse.proofs.ProgramComplete.{body_leads}
use Rattle.ac_parse.proofs.StatementEnds.{block_ends}

pub record Completed (m : ProgramReading) : Type 0 where
  pub tree : Program
  pub tokens : Tokens
  pub reads : runs m tokens ≡ Some tree

-- by a token and what completes the next state
by : (m n : ProgramReading) (t : Token) → step m t ≡ Some n → Completed n → Completed m
by m n t h c = record { tree = c.tree; tokens = t ∷ c.tokens; reads = ap (λ (o : Option ProgramReading). elim o [ None ↦ None | Some j ↦ runs j c.tokens ]) h ∙ c.reads }

body_completed : (ds : List Item) (b : Span) (m : StmtReading) → Completed (Body ds b m)
body_completed ds b m =
    let e = block_ends m in
    record { tree = program_of ds b nowhere e.tree; tokens = e.tokens ++ keyword_at keyword.End nowhere ∷ []; reads = body_leads e.tokens [] ds b nowhere m e.tree e.reaches }

between_completed : (ds : List Item) → Completed (Declarations ds Between)
between_completed ds = by (Declarations ds Between) (Body ds nowhere statement.start) (keyword_at keyword.Begin nowhere) refl (body_completed ds nowhere statement.start)

high_completed : (ds : List Item) (s : Span) (x : NameBytes) (a : Option Extents) (low k : ℤ) → Completed (Declarations ds (IntRead (High s x a low) k))
high_completed ds s x a low k = by (Declarations ds (IntRead (High s x a low) k)) _ (sign_at sign.Semicolon nowhere) refl (between_completed _)

read_completed : (ds : List Item) (u : IntUse) (k : ℤ) → Completed (Declarations ds (IntRead u k))
read_completed ds (Value s x) k = by (Declarations ds (IntRead (Value s x) k)) _ (sign_at sign.Semicolon nowhere) refl (between_completed _)
read_completed ds (Low s x a) k = by (Declarations ds (IntRead (Low s x a) k)) (Declarations ds (Int (High s x a k))) (sign_at sign.DotDot nowhere) refl
    (by (Declarations ds (Int (High s x a k))) (Declarations ds (IntRead (High s x a k) (pos 0))) (literal 0 nowhere) refl (high_completed ds s x a k (pos 0)))
read_completed ds (High s x a low) k = high_completed ds s x a low k

int_completed : (ds : List Item) (u : IntUse) → Completed (Declarations ds (Int u))
int_completed ds u = by (Declarations ds (Int u)) (Declarations ds (IntRead u (pos 0))) (literal 0 nowhere) refl (read_completed ds u (pos 0))

extended_completed : (ds : List Item) (w : Storage) (s : Span) (x : NameBytes) (a : Extents) → Completed (Declarations ds (Extended w s x a))
extended_completed ds storage.Input s x a = by (Declarations ds (Extended storage.Input s x a)) (Declarations ds (Int (Low s x (Some a)))) (sign_at sign.Colon nowhere) refl (int_completed ds (Low s x (Some a)))
extended_completed ds storage.Var s x a = by (Declarations ds (Extended storage.Var s x a)) _ (sign_at sign.Semicolon nowhere) refl (between_completed _)

named_completed : (ds : List Item) (w : Storage) (s : Span) (x : NameBytes) → Completed (Declarations ds (StoredName w s x))
named_completed ds storage.Input s x = by (Declarations ds (StoredName storage.Input s x)) (Declarations ds (Int (Low s x None))) (sign_at sign.Colon nowhere) refl (int_completed ds (Low s x None))
named_completed ds storage.Var s x = by (Declarations ds (StoredName storage.Var s x)) _ (sign_at sign.Semicolon nowhere) refl (between_completed _)

extent_completed : (ds : List Item) (w : Storage) (s : Span) (x : NameBytes) (f : Option Extent) (a : Extent) → Completed (Declarations ds (ExtentRead w s x f a))
extent_completed ds w s x f a = by (Declarations ds (ExtentRead w s x f a)) (Declarations ds (Extended w s x (extents_of f a))) (sign_at sign.CloseBracket nowhere) refl (extended_completed ds w s x (extents_of f a))

state_completed : (ds : List Item) (s : DeclState) → Completed (Declarations ds s)
state_completed ds Between = between_completed ds
state_completed ds (Const s) = by (Declarations ds (Const s)) (Declarations ds (ConstName s [])) (name [] nowhere) refl
    (by (Declarations ds (ConstName s [])) (Declarations ds (Int (Value s []))) (sign_at sign.Equal nowhere) refl (int_completed ds (Value s [])))
state_completed ds (ConstName s x) = by (Declarations ds (ConstName s x)) (Declarations ds (Int (Value s x))) (sign_at sign.Equal nowhere) refl (int_completed ds (Value s x))
state_completed ds (Int u) = int_completed ds u
state_completed ds (Minus u) = by (Declarations ds (Minus u)) (Declarations ds (IntRead u (pos 0))) (literal 0 nowhere) refl (read_completed ds u (pos 0))
state_completed ds (IntRead u k) = read_completed ds u k
state_completed ds (Stored w s) = by (Declarations ds (Stored w s)) (Declarations ds (StoredName w s [])) (name [] nowhere) refl (named_completed ds w s [])
state_completed ds (StoredName w s x) = named_completed ds w s x
state_completed ds (ExtentIn w s x f) = by (Declarations ds (ExtentIn w s x f)) (Declarations ds (ExtentRead w s x f (extent.Lit 0))) (literal 0 nowhere) refl (extent_completed ds w s x f (extent.Lit 0))
state_completed ds (ExtentRead w s x f a) = extent_completed ds w s x f a
state_completed ds (Extended w s x a) = extended_completed ds w s x a

-- some tokens complete it
pub completed : (m : ProgramReading) → Completed m
completed (Declarations ds s) = state_completed ds s
completed (Body ds b m) = body_completed ds b m
completed (Whole p) = record { tree = p; tokens = []; reads = refl }
