-- Reading a program token by token: its declarations, then its body.
-- No promise rests on this file: it says what the code keeps on the way.
use Rattle.std.specs.Prelude.{ℤ, pos, neg_ℤ, List, [], ◌∷◌, ◌++◌, Option, Some, None}
use Rattle.ac_tree.specs.declared.node.Span.{Span}
use Rattle.ac_tree.specs.declared.program.Extent.{Extent}
use Rattle.ac_tree.specs.declared.program.Extent.TheVariants as extent
use Rattle.ac_tree.specs.declared.program.Extents.{Extents}
use Rattle.ac_tree.specs.declared.program.Extents.TheVariants as extents
use Rattle.ac_tree.specs.declared.program.Item.{Item}
use Rattle.ac_tree.specs.declared.program.ItemKind.{ItemKind}
use Rattle.ac_tree.specs.declared.program.ItemKind.TheVariants as item
use Rattle.ac_tree.specs.declared.program.Program.{Program}
use Rattle.ac_tree.specs.declared.program.Stmt.{Stmt}
use Rattle.ac_tree.specs.declared.token.Keyword.TheVariants as keyword
use Rattle.ac_tree.specs.declared.token.Mark.{Mark}
use Rattle.ac_tree.specs.declared.token.Mark.TheVariants as mark
use Rattle.ac_tree.specs.declared.token.Sign.TheVariants as sign
use Rattle.ac_tree.specs.declared.token.Token.{Token}
use Rattle.ac_tree.specs.Grammar.{Tokens, NameBytes, node, declaration, join}
use Rattle.ac_parse.specs.declared.declaration.DeclState.{DeclState}
use Rattle.ac_parse.specs.declared.declaration.DeclState.TheVariants.{Between, Const, ConstName, Int, Minus, IntRead, Stored, StoredName, Extent as ExtentIn, ExtentRead, Extended}
use Rattle.ac_parse.specs.declared.declaration.IntUse.{IntUse}
use Rattle.ac_parse.specs.declared.declaration.IntUse.TheVariants.{Value, Low, High}
use Rattle.ac_parse.specs.declared.declaration.ProgramReading.{ProgramReading}
use Rattle.ac_parse.specs.declared.declaration.ProgramReading.TheVariants.{Declarations, Body, Whole}
use Rattle.ac_parse.specs.declared.declaration.Storage.{Storage}
use Rattle.ac_parse.specs.declared.declaration.Storage.TheVariants as storage
use Rattle.ac_parse.specs.declared.statement.StmtReading.{StmtReading}
use Rattle.ac_parse.specs.ReadStatement as statement
use Rattle.ac_expression_reader.specs.Steps as steps
use Rattle.ac_expression_reader.specs.Steps.{inside}

abbrev pub start : ProgramReading
start = Declarations [] Between

abbrev pub declaring : List Item → DeclState → Option ProgramReading
declaring ds s = Some (Declarations ds s)

-- a declaration is whole
abbrev pub declared_ : List Item → Span → NameBytes → ItemKind → Option ProgramReading
declared_ ds s x k = declaring (ds ++ declaration s x k ∷ []) Between

abbrev pub between : List Item → Span → Mark → Option ProgramReading
between ds s (mark.Keyword keyword.Const) = declaring ds (Const s)
between ds s (mark.Keyword keyword.Input) = declaring ds (Stored storage.Input s)
between ds s (mark.Keyword keyword.Var) = declaring ds (Stored storage.Var s)
between ds s (mark.Keyword keyword.Begin) = Some (Body ds s statement.start)
between ds s _ = None

abbrev pub const_name : List Item → Span → Mark → Option ProgramReading
const_name ds s (mark.Name x) = declaring ds (ConstName s x)
const_name ds s _ = None

abbrev pub const_equal : List Item → Span → NameBytes → Mark → Option ProgramReading
const_equal ds s x (mark.Sign sign.Equal) = declaring ds (Int (Value s x))
const_equal ds s x _ = None

abbrev pub int : List Item → IntUse → Mark → Option ProgramReading
int ds u (mark.Literal n) = declaring ds (IntRead u (pos n))
int ds u (mark.Sign sign.Minus) = declaring ds (Minus u)
int ds u _ = None

abbrev pub negative : List Item → IntUse → Mark → Option ProgramReading
negative ds u (mark.Literal n) = declaring ds (IntRead u (neg_ℤ (pos n)))
negative ds u _ = None

abbrev pub input_kind : Option Extents → ℤ → ℤ → ItemKind
input_kind None low high = item.InputScalar low high
input_kind (Some a) low high = item.InputArray a low high

-- the token behind a number, by what the number is for
abbrev pub const_ends : List Item → Span → NameBytes → ℤ → Span → Mark → Option ProgramReading
const_ends ds s x k e (mark.Sign sign.Semicolon) = declared_ ds (join s e) x (item.Const k)
const_ends ds s x k e _ = None

abbrev pub low_ends : List Item → Span → NameBytes → Option Extents → ℤ → Mark → Option ProgramReading
low_ends ds s x a k (mark.Sign sign.DotDot) = declaring ds (Int (High s x a k))
low_ends ds s x a k _ = None

abbrev pub high_ends : List Item → Span → NameBytes → Option Extents → ℤ → ℤ → Span → Mark → Option ProgramReading
high_ends ds s x a low k e (mark.Sign sign.Semicolon) = declared_ ds (join s e) x (input_kind a low k)
high_ends ds s x a low k e _ = None

abbrev pub int_ends : List Item → IntUse → ℤ → Span → Mark → Option ProgramReading
int_ends ds (Value s x) k e m = const_ends ds s x k e m
int_ends ds (Low s x a) k e m = low_ends ds s x a k m
int_ends ds (High s x a low) k e m = high_ends ds s x a low k e m

abbrev pub stored_name : List Item → Storage → Span → Mark → Option ProgramReading
stored_name ds w s (mark.Name x) = declaring ds (StoredName w s x)
stored_name ds w s _ = None

-- behind a name, or its extents
abbrev pub input_goes_on : List Item → Span → NameBytes → Option Extents → Mark → Option ProgramReading
input_goes_on ds s x a (mark.Sign sign.Colon) = declaring ds (Int (Low s x a))
input_goes_on ds s x a _ = None

abbrev pub var_kind : Option Extents → ItemKind
var_kind None = item.VarScalar
var_kind (Some a) = item.VarArray a

abbrev pub var_ends : List Item → Span → NameBytes → Option Extents → Span → Mark → Option ProgramReading
var_ends ds s x a e (mark.Sign sign.Semicolon) = declared_ ds (join s e) x (var_kind a)
var_ends ds s x a e _ = None

abbrev pub sized : List Item → Storage → Span → NameBytes → Option Extents → Span → Mark → Option ProgramReading
sized ds storage.Input s x a e m = input_goes_on ds s x a m
sized ds storage.Var s x a e m = var_ends ds s x a e m

abbrev pub named : List Item → Storage → Span → NameBytes → Span → Mark → Option ProgramReading
named ds w s x e (mark.Sign sign.OpenBracket) = declaring ds (ExtentIn w s x None)
named ds w s x e m = sized ds w s x None e m

abbrev pub extent_comes : List Item → Storage → Span → NameBytes → Option Extent → Mark → Option ProgramReading
extent_comes ds w s x f (mark.Literal n) = declaring ds (ExtentRead w s x f (extent.Lit n))
extent_comes ds w s x f (mark.Name y) = declaring ds (ExtentRead w s x f (extent.Named y))
extent_comes ds w s x f _ = None

abbrev pub extents_of : Option Extent → Extent → Extents
extents_of None a = extents.One a
extents_of (Some f) a = extents.Two f a

abbrev pub next_extent : List Item → Storage → Span → NameBytes → Option Extent → Extent → Option ProgramReading
next_extent ds w s x None a = declaring ds (ExtentIn w s x (Some a))
next_extent ds w s x (Some f) a = None

abbrev pub extent_ends : List Item → Storage → Span → NameBytes → Option Extent → Extent → Mark → Option ProgramReading
extent_ends ds w s x f a (mark.Sign sign.CloseBracket) = declaring ds (Extended w s x (extents_of f a))
extent_ends ds w s x f a (mark.Sign sign.Comma) = next_extent ds w s x f a
extent_ends ds w s x f a _ = None

abbrev pub declare : List Item → DeclState → Span → Mark → Option ProgramReading
declare ds Between e m = between ds e m
declare ds (Const s) e m = const_name ds s m
declare ds (ConstName s x) e m = const_equal ds s x m
declare ds (Int u) e m = int ds u m
declare ds (Minus u) e m = negative ds u m
declare ds (IntRead u k) e m = int_ends ds u k e m
declare ds (Stored w s) e m = stored_name ds w s m
declare ds (StoredName w s x) e m = named ds w s x e m
declare ds (ExtentIn w s x f) e m = extent_comes ds w s x f m
declare ds (ExtentRead w s x f a) e m = extent_ends ds w s x f a m
declare ds (Extended w s x a) e m = sized ds w s x (Some a) e m

-- where the program begins: at its first declaration, else at `begin`
abbrev pub begin_of : List Item → Span → Span
begin_of [] b = b
begin_of (d ∷ ds) b = d.node.span

abbrev pub program_of : List Item → Span → Span → List Stmt → Program
program_of ds b e xs = record { node = node (join (begin_of ds b) e); items = ds; body = xs }

abbrev pub body_of : List Item → Span → StmtReading → ProgramReading
body_of ds b m = Body ds b m

abbrev pub body_ends : List Item → Span → Span → Mark → List Stmt → Option ProgramReading
body_ends ds b e (mark.Keyword keyword.End) xs = Some (Whole (program_of ds b e xs))
body_ends ds b e _ xs = None

abbrev pub step : ProgramReading → Token → Option ProgramReading
step (Declarations ds s) t = declare ds s t.span t.mark
step (Body ds b m) t =
    inside (body_of ds b) (body_ends ds b t.span t.mark) (statement.is_own m.stack t.mark) (statement.step m t) (statement.value m)
step (Whole p) t = None

abbrev pub value : ProgramReading → Option Program
value (Declarations ds s) = None
value (Body ds b m) = None
value (Whole p) = Some p

abbrev pub runs : ProgramReading → Tokens → Option Program
runs = steps.runs step value
