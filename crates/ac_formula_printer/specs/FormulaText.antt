-- Which tokens are the text of a term or a formula, a line for each production.
-- `SpellsTerm e l t ts rest`: the tokens ts begin with a text of t at the level l, behind which the tokens rest follow.
use Rattle.std.specs.Prelude.{◌≡◌, ℕ, zero, suc, ℤ, pos, negsuc, ◌+◌, ◌^◌, List, [], ◌∷◌, ◌++◌, Option, Some, None, Bool, true, false, nat_lt, nat_le, if◌then◌else◌, bytes_eq}
use Rattle.ac_logic.specs.declared.label.LabelKind.{LabelKind}
use Rattle.ac_logic.specs.declared.label.LabelKind.TheVariants as kind
use Rattle.ac_logic.specs.declared.formula.Sym.{Sym}
use Rattle.ac_logic.specs.declared.formula.Sym.TheVariants.{Value, Init, Fresh}
use Rattle.ac_logic.specs.declared.formula.Term.{Term, Num, Bound}
use Rattle.ac_logic.specs.declared.formula.ArrayTerm.{ArrayTerm}
use Rattle.ac_logic.specs.declared.formula.Formula.{Formula, True, False, Le, Eq}
use Rattle.ac_formula_printer.specs.declared.mark.FormulaMark.{FormulaMark}
use Rattle.ac_formula_printer.specs.declared.mark.FormulaMark.TheVariants as mark
use Rattle.ac_tree.specs.declared.program.RelOp.{RelOp}
use Rattle.ac_tree.specs.declared.program.RelOp.TheVariants as rel
use Rattle.ac_logic.specs.Patterns.{Scalar, Array, ReadOf, Sum, Difference, Product, Negative, PutOf, Negation, Conjunction, Disjunction, Implication, Every, Labelled}
use Rattle.ac_logic.specs.Labels.{kind_text}

abbrev pub Tokens : Type 0
Tokens = List FormulaMark

-- the names of the enclosing `all`, the innermost first
abbrev pub Names : Type 0
Names = List (List ℕ)

abbrev pub one_further : Option ℕ → Option ℕ
one_further None = None
one_further (Some k) = Some (k + 1)

-- a name means the innermost `all` that has it
abbrev pub place_of : List ℕ → Names → Option ℕ
place_of x [] = None
place_of x (y ∷ e) = if bytes_eq x y then Some 0 else one_further (place_of x e)

-- the number that a literal makes, alone and behind `-`, in the range of 64 bits with a sign
abbrev pub negated : ℕ → ℤ
negated zero = pos 0
negated (suc n) = negsuc n

abbrev pub number_of : Bool → ℕ → Option ℤ
number_of false n = if nat_lt n (2 ^ 63) then Some (pos n) else None
number_of true n = if nat_le n (2 ^ 63) then Some (negated n) else None

-- a number of 32 bits, as behind `#` and a kind
abbrev pub short_of : ℕ → Option ℕ
short_of n = if nat_lt n (2 ^ 32) then Some n else None

-- the kind that a token names
abbrev pub kind_named : List LabelKind → List ℕ → Option LabelKind
kind_named [] x = None
kind_named (k ∷ ks) x = if bytes_eq (kind_text k) x then Some k else kind_named ks x

abbrev pub name_kinds : List LabelKind
name_kinds = kind.Range ∷ kind.Header ∷ kind.Exit ∷ kind.Invariant ∷ kind.Assumed ∷ kind.Test ∷ kind.Denied ∷ kind.Guard ∷ kind.Set ∷ kind.Entry ∷ kind.Keep ∷ kind.Barrier ∷ []

abbrev pub label_kind_of : FormulaMark → Option LabelKind
label_kind_of (mark.Name x) = kind_named name_kinds x
label_kind_of mark.Use = Some kind.Need
label_kind_of _ = None

-- a formula has = and <= alone; the other relations are read as these
abbrev pub related : RelOp → Term → Term → Formula
related rel.Eq s t = Eq s t
related rel.Ne s t = Negation (Eq s t)
related rel.Lt s t = Le (Sum s (Num (pos 1))) t
related rel.Le s t = Le s t
related rel.Gt s t = Le (Sum t (Num (pos 1))) s
related rel.Ge s t = Le t s

pub data TermLevel : Type 0 where
  Whole Prod Fac Atom : TermLevel

mutual
  pub data SpellsTerm : Names → TermLevel → Term → Tokens → Tokens → Type 0 where
    -- term = prod { ("+" | "-") prod }
    prod : {e : Names} {t : Term} {ts rest : Tokens} → SpellsTerm e Prod t ts rest → SpellsTerm e Whole t ts rest
    plus : {e : Names} {s t : Term} {ts us rest : Tokens} → SpellsTerm e Whole s ts (mark.Plus ∷ us) → SpellsTerm e Prod t us rest → SpellsTerm e Whole (Sum s t) ts rest
    minus : {e : Names} {s t : Term} {ts us rest : Tokens} → SpellsTerm e Whole s ts (mark.Minus ∷ us) → SpellsTerm e Prod t us rest → SpellsTerm e Whole (Difference s t) ts rest
    -- prod = fac { "*" fac }
    fac : {e : Names} {t : Term} {ts rest : Tokens} → SpellsTerm e Fac t ts rest → SpellsTerm e Prod t ts rest
    times : {e : Names} {s t : Term} {ts us rest : Tokens} → SpellsTerm e Prod s ts (mark.Star ∷ us) → SpellsTerm e Fac t us rest → SpellsTerm e Prod (Product s t) ts rest
    -- fac = literal | "-" literal | "-" atom | atom, where the atoms are without the literals: `-` and a literal are one number
    literal : {e : Names} {rest : Tokens} {z : ℤ} (n : ℕ) → number_of false n ≡ Some z → SpellsTerm e Fac (Num z) (mark.Literal n ∷ rest) rest
    negative : {e : Names} {rest : Tokens} {z : ℤ} (n : ℕ) → number_of true n ≡ Some z → SpellsTerm e Fac (Num z) (mark.Minus ∷ mark.Literal n ∷ rest) rest
    negation : {e : Names} {t : Term} {ts rest : Tokens} → SpellsTerm e Atom t ts rest → SpellsTerm e Fac (Negative t) (mark.Minus ∷ ts) rest
    atom : {e : Names} {t : Term} {ts rest : Tokens} → SpellsTerm e Atom t ts rest → SpellsTerm e Fac t ts rest
    -- atom = bound | "#" literal | name | "init" "(" name ")" | array "[" term [ "," term ] "]" | "(" term ")"
    bound : {e : Names} {rest : Tokens} {k : ℕ} (x : List ℕ) → place_of x e ≡ Some k → SpellsTerm e Atom (Bound k) (mark.Bound x ∷ rest) rest
    fresh : {e : Names} {rest : Tokens} {k : ℕ} (n : ℕ) → short_of n ≡ Some k → SpellsTerm e Atom (Scalar (Fresh k)) (mark.Hash ∷ mark.Literal n ∷ rest) rest
    symbol : {e : Names} {s : Sym} {ts rest : Tokens} → SpellsArray e (Array s) ts rest → SpellsTerm e Atom (Scalar s) ts rest
    vector : {e : Names} {a : ArrayTerm} {i : Term} {ts us rest : Tokens} →
        SpellsArray e a ts (mark.OpenBracket ∷ us) → SpellsTerm e Whole i us (mark.CloseBracket ∷ rest) → SpellsTerm e Atom (ReadOf a i (Num (pos 0))) ts rest
    matrix : {e : Names} {a : ArrayTerm} {i j : Term} {ts us vs rest : Tokens} →
        SpellsArray e a ts (mark.OpenBracket ∷ us) → SpellsTerm e Whole i us (mark.Comma ∷ vs) → SpellsTerm e Whole j vs (mark.CloseBracket ∷ rest) → SpellsTerm e Atom (ReadOf a i j) ts rest
    parens : {e : Names} {t : Term} {ts rest : Tokens} → SpellsTerm e Whole t ts (mark.CloseParen ∷ rest) → SpellsTerm e Atom t (mark.OpenParen ∷ ts) rest

  -- array = name | "init" "(" name ")" | "put" "(" array "," term "," term "," term ")"
  pub data SpellsArray : Names → ArrayTerm → Tokens → Tokens → Type 0 where
    name : {e : Names} {rest : Tokens} (x : List ℕ) → SpellsArray e (Array (Value x)) (mark.Name x ∷ rest) rest
    init : {e : Names} {rest : Tokens} (x : List ℕ) → SpellsArray e (Array (Init x)) (mark.Init ∷ mark.OpenParen ∷ mark.Name x ∷ mark.CloseParen ∷ rest) rest
    put : {e : Names} {a : ArrayTerm} {i j v : Term} {ts us vs ws rest : Tokens} →
        SpellsArray e a ts (mark.Comma ∷ us) → SpellsTerm e Whole i us (mark.Comma ∷ vs) → SpellsTerm e Whole j vs (mark.Comma ∷ ws) → SpellsTerm e Whole v ws (mark.CloseParen ∷ rest) →
        SpellsArray e (PutOf a i j v) (mark.Put ∷ mark.OpenParen ∷ ts) rest

pub data FormulaLevel : Type 0 where
  Full Disj Conj Neg Part : FormulaLevel

pub data SpellsFormula : Names → FormulaLevel → Formula → Tokens → Tokens → Type 0 where
  -- formula = disj [ "implies" formula ]
  disj : {e : Names} {f : Formula} {ts rest : Tokens} → SpellsFormula e Disj f ts rest → SpellsFormula e Full f ts rest
  implies : {e : Names} {f g : Formula} {ts us rest : Tokens} → SpellsFormula e Disj f ts (mark.Implies ∷ us) → SpellsFormula e Full g us rest → SpellsFormula e Full (Implication f g) ts rest
  -- disj = conj { "or" conj }
  conj : {e : Names} {f : Formula} {ts rest : Tokens} → SpellsFormula e Conj f ts rest → SpellsFormula e Disj f ts rest
  or : {e : Names} {f g : Formula} {ts us rest : Tokens} → SpellsFormula e Disj f ts (mark.Or ∷ us) → SpellsFormula e Conj g us rest → SpellsFormula e Disj (Disjunction f g) ts rest
  -- conj = neg { "and" neg }
  neg : {e : Names} {f : Formula} {ts rest : Tokens} → SpellsFormula e Neg f ts rest → SpellsFormula e Conj f ts rest
  and : {e : Names} {f g : Formula} {ts us rest : Tokens} → SpellsFormula e Conj f ts (mark.And ∷ us) → SpellsFormula e Neg g us rest → SpellsFormula e Conj (Conjunction f g) ts rest
  -- neg = "not" neg | part
  negation : {e : Names} {f : Formula} {ts rest : Tokens} → SpellsFormula e Neg f ts rest → SpellsFormula e Neg (Negation f) (mark.Not ∷ ts) rest
  part : {e : Names} {f : Formula} {ts rest : Tokens} → SpellsFormula e Part f ts rest → SpellsFormula e Neg f ts rest
  -- part = "true" | "false" | term rel term | "{" formula "}" | "all" bound "{" formula "}" | "@" kind literal "{" formula "}"
  true_word : {e : Names} {rest : Tokens} → SpellsFormula e Part True (mark.True ∷ rest) rest
  false_word : {e : Names} {rest : Tokens} → SpellsFormula e Part False (mark.False ∷ rest) rest
  relation : {e : Names} {s t : Term} {ts us rest : Tokens} (r : RelOp) → SpellsTerm e Whole s ts (mark.Relation r ∷ us) → SpellsTerm e Whole t us rest → SpellsFormula e Part (related r s t) ts rest
  braces : {e : Names} {f : Formula} {ts rest : Tokens} → SpellsFormula e Full f ts (mark.CloseBrace ∷ rest) → SpellsFormula e Part f (mark.OpenBrace ∷ ts) rest
  all : {e : Names} {f : Formula} {ts rest : Tokens} (x : List ℕ) → SpellsFormula (x ∷ e) Full f ts (mark.CloseBrace ∷ rest) → SpellsFormula e Part (Every f) (mark.All ∷ mark.Bound x ∷ mark.OpenBrace ∷ ts) rest
  label : {e : Names} {f : Formula} {ts rest : Tokens} {k : LabelKind} {i : ℕ} (m : FormulaMark) (n : ℕ) → label_kind_of m ≡ Some k → short_of n ≡ Some i →
      SpellsFormula e Full f ts (mark.CloseBrace ∷ rest) → SpellsFormula e Part (Labelled (record { kind = k; node = record { 0 = i } }) f) (mark.At ∷ m ∷ mark.Literal n ∷ mark.OpenBrace ∷ ts) rest

-- what is read: a term or a formula
pub data Goal : Type 0 where
  Terms Formulas : Goal

abbrev pub Tree : Goal → Type 0
Tree Terms = Term
Tree Formulas = Formula

-- the tokens are a text of the whole term or formula
abbrev pub IsTextOf : (g : Goal) → Tree g → Tokens → Type 0
IsTextOf Terms t ts = SpellsTerm [] Whole t ts []
IsTextOf Formulas f ts = SpellsFormula [] Full f ts []

-- some text begins with these tokens
pub record Continues (g : Goal) (ts : Tokens) : Type 0 where
  pub tree : Tree g
  pub more : Tokens
  pub spelled : IsTextOf g tree (ts ++ more)

-- no text begins with these tokens and the next one, or these tokens are no whole text
abbrev pub NoneGoesOn : Goal → Tokens → Tokens → Type 0
NoneGoesOn g before [] = (t : Tree g) → IsTextOf g t before → ⊥
NoneGoesOn g before (m ∷ after) = Continues g (before ++ m ∷ []) → ⊥

-- behind the tokens before, the rest begins with the first at which none continues, or is the end
pub record IsUnexpected (g : Goal) (ts rest : Tokens) : Type 0 where
  pub before : Tokens
  pub whole : ts ≡ before ++ rest
  pub so_far : Continues g before
  pub no_further : NoneGoesOn g before rest
