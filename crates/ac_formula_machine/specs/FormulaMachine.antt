-- Reading formula text token by token, with a stack of what stands around.
-- No promise rests on this file: it says what the code keeps on the way.
use Rattle.std.specs.Prelude.{if◌then◌else◌, ◌≡◌, ℕ, zero, suc, ℤ, pos, List, [], ◌∷◌, Option, Some, None, Bool, true, false, Result, Ok, Err}
use Rattle.ac_logic.specs.declared.label.Label.{Label}
use Rattle.ac_logic.specs.declared.label.LabelKind.{LabelKind}
use Rattle.ac_logic.specs.declared.formula.Sym.{Sym}
use Rattle.ac_logic.specs.declared.formula.Sym.TheVariants.{Value, Init, Fresh}
use Rattle.ac_logic.specs.declared.formula.Term.{Term, Num, Bound}
use Rattle.ac_logic.specs.declared.formula.ArrayTerm.{ArrayTerm}
use Rattle.ac_logic.specs.declared.formula.Formula.{Formula, True, False, Le, Eq}
use Rattle.ac_formula_printer.specs.declared.mark.FormulaMark.{FormulaMark}
use Rattle.ac_formula_printer.specs.declared.mark.FormulaMark.TheVariants as mark
use Rattle.ac_tree.specs.declared.program.RelOp.{RelOp}
use Rattle.ac_formula_machine.specs.declared.token_roles.ProductSign.{ProductSign}
use Rattle.ac_formula_machine.specs.declared.token_roles.ProductSign.TheVariants as product_mark
use Rattle.ac_formula_machine.specs.declared.token_roles.Connective.{Connective}
use Rattle.ac_formula_machine.specs.declared.token_roles.Connective.TheVariants as link
use Rattle.ac_formula_machine.specs.declared.token_roles.FactorStart.{FactorStart}
use Rattle.ac_formula_machine.specs.declared.token_roles.FactorStart.TheVariants as factor_mark
use Rattle.ac_formula_machine.specs.declared.token_roles.PartStart.{PartStart}
use Rattle.ac_formula_machine.specs.declared.token_roles.PartStart.TheVariants as part_mark
use Rattle.ac_formula_machine.specs.declared.token_roles.ArrayWord.{ArrayWord}
use Rattle.ac_formula_machine.specs.declared.token_roles.ArrayWord.TheVariants as array_mark
use Rattle.ac_formula_machine.specs.declared.token_roles.IndexEnd.{IndexEnd}
use Rattle.ac_formula_machine.specs.declared.token_roles.IndexEnd.TheVariants as index_mark
use Rattle.ac_formula_machine.specs.declared.machine_state.Adding.{Adding}
use Rattle.ac_formula_machine.specs.declared.machine_state.Adding.TheVariants as adding
use Rattle.ac_formula_machine.specs.declared.machine_state.Pending.{Pending}
use Rattle.ac_formula_machine.specs.declared.machine_state.Slot.{Slot}
use Rattle.ac_formula_machine.specs.declared.machine_state.Slot.TheVariants as slot
use Rattle.ac_formula_machine.specs.declared.machine_state.Before.{Before}
use Rattle.ac_formula_machine.specs.declared.machine_state.Frame.{Frame}
use Rattle.ac_formula_machine.specs.declared.machine_state.Frame.TheVariants as frame
use Rattle.ac_formula_machine.specs.declared.machine_state.State.{State}
use Rattle.ac_formula_machine.specs.declared.machine_state.State.TheVariants as state
use Rattle.ac_logic.specs.Patterns.{Scalar, Array, ReadOf, Sum, Difference, Product, Negative, PutOf, Negation, Conjunction, Disjunction, Implication, Every, Labelled}
use Rattle.ac_formula_machine.specs.Opened.{hidden, formula_shape, formula_child, term_shape, term_child, array_shape, array_child}
use Rattle.ac_formula_printer.specs.FormulaText.{Tokens, Names, place_of, number_of, short_of, label_kind_of, related, Goal, Terms, Formulas, Tree}

abbrev pub Stack : Type 0
Stack = List Frame

abbrev pub Machine : Type 0
Machine = Stack × State

abbrev pub if_some : {A B : Type 0} → Option A → (A → Option B) → Option B
if_some None f = None
if_some (Some a) f = f a

-- what a token is, by what may stand at a place
abbrev pub name_in : FormulaMark → Option (List ℕ)
name_in (mark.Name x) = Some x
name_in _ = None

abbrev pub bound_in : FormulaMark → Option (List ℕ)
bound_in (mark.Bound x) = Some x
bound_in _ = None

abbrev pub number_in : Bool → FormulaMark → Option ℤ
number_in minus (mark.Literal n) = number_of minus n
number_in minus _ = None

abbrev pub short_in : FormulaMark → Option ℕ
short_in (mark.Literal n) = short_of n
short_in _ = None

abbrev pub place_in : Names → FormulaMark → Option ℕ
place_in e (mark.Bound x) = place_of x e
place_in e _ = None

abbrev pub relation_in : FormulaMark → Option RelOp
relation_in (mark.Relation r) = Some r
relation_in _ = None

abbrev pub is_comma : FormulaMark → Bool
is_comma mark.Comma = true
is_comma _ = false

abbrev pub is_open_paren : FormulaMark → Bool
is_open_paren mark.OpenParen = true
is_open_paren _ = false

abbrev pub is_close_paren : FormulaMark → Bool
is_close_paren mark.CloseParen = true
is_close_paren _ = false

abbrev pub is_open_bracket : FormulaMark → Bool
is_open_bracket mark.OpenBracket = true
is_open_bracket _ = false

abbrev pub is_close_bracket : FormulaMark → Bool
is_close_bracket mark.CloseBracket = true
is_close_bracket _ = false

abbrev pub is_open_brace : FormulaMark → Bool
is_open_brace mark.OpenBrace = true
is_open_brace _ = false

abbrev pub product_sign : FormulaMark → ProductSign
product_sign mark.Plus = product_mark.Plus
product_sign mark.Minus = product_mark.Minus
product_sign mark.Star = product_mark.Star
product_sign _ = product_mark.Other

abbrev pub connective : FormulaMark → Connective
connective mark.And = link.And
connective mark.Or = link.Or
connective mark.Implies = link.Implies
connective mark.CloseBrace = link.Close
connective _ = link.Other

abbrev pub factor_start : FormulaMark → FactorStart
factor_start (mark.Literal n) = factor_mark.Literal
factor_start (mark.Bound x) = factor_mark.Bound
factor_start mark.Hash = factor_mark.Hash
factor_start mark.Minus = factor_mark.Minus
factor_start mark.OpenParen = factor_mark.Paren
factor_start _ = factor_mark.Array

abbrev pub part_start : FormulaMark → PartStart
part_start mark.True = part_mark.True
part_start mark.False = part_mark.False
part_start mark.Not = part_mark.Not
part_start mark.OpenBrace = part_mark.Brace
part_start mark.All = part_mark.All
part_start mark.At = part_mark.Label
part_start _ = part_mark.Term

abbrev pub array_word : FormulaMark → ArrayWord
array_word mark.Init = array_mark.Init
array_word mark.Put = array_mark.Put
array_word _ = array_mark.Other

abbrev pub index_end : FormulaMark → IndexEnd
index_end mark.CloseBracket = index_mark.Bracket
index_end mark.Comma = index_mark.Comma
index_end _ = index_mark.Other

-- the names of the enclosing `all`
abbrev pub names_of : Stack → Names
names_of [] = []
names_of (frame.All b x ∷ k) = x ∷ names_of k
names_of (_ ∷ k) = names_of k

-- what each part makes of what comes behind it
abbrev pub signed : Bool → Term → Term
signed false t = t
signed true t = Negative t

abbrev pub multiplied : Option Term → Term → Term
multiplied None t = t
multiplied (Some s) t = Product s t

abbrev pub added : Adding → Term → Term
added adding.Nothing t = t
added (adding.Plus s) t = Sum s t
added (adding.Minus s) t = Difference s t

abbrev pub pending : Adding → Option Term → Bool → Pending
pending a m n = record { sum = a; product = m; minus = n }

abbrev pub fresh : Pending
fresh = pending adding.Nothing None false

abbrev pub atom_read : Pending → Term → State
atom_read p t = state.Product p.sum (multiplied p.product (signed p.minus t))

abbrev pub number_read : Pending → ℤ → State
number_read p z = state.Product p.sum (multiplied p.product (Num z))

abbrev pub denied : ℕ → Formula → Formula
denied zero f = f
denied (suc n) f = denied n (Negation f)

abbrev pub joined : Option Formula → Formula → Formula
joined None f = f
joined (Some g) f = Conjunction g f

abbrev pub either : Option Formula → Formula → Formula
either None f = f
either (Some g) f = Disjunction g f

abbrev pub before : Option Formula → Option Formula → ℕ → Before
before o a n = record { or = o; and = a; nots = n }

abbrev pub unbound : Before
unbound = before None None 0

abbrev pub part_read : Before → Formula → State
part_read b f = state.Conj b.or (joined b.and (denied b.nots f))

-- a brace closes
abbrev pub closed : Stack → Formula → Option Machine
closed (frame.Antecedent g ∷ k) f = closed k (Implication g f)
closed (frame.Braces b ∷ k) f = Some (k, part_read b f)
closed (frame.All b x ∷ k) f = Some (k, part_read b (Every f))
closed (frame.Lab b l ∷ k) f = Some (k, part_read b (Labelled l f))
closed _ f = None

abbrev pub connected : Stack → Option Formula → Formula → Connective → Option Machine
connected k o f link.And = Some (k, state.Part (before o (Some f) 0))
connected k o f link.Or = Some (k, state.Part (before (Some (either o f)) None 0))
connected k o f link.Implies = Some (frame.Antecedent (either o f) ∷ k, state.Part unbound)
connected k o f link.Close = closed k (either o f)
connected k o f link.Other = None

-- a token behind a conjunction
abbrev pub following : Stack → Option Formula → Formula → FormulaMark → Option Machine
following k o f m = connected k o f (connective m)

abbrev pub index_ends : Stack → Pending → ArrayTerm → Term → IndexEnd → Option Machine
index_ends k p a t index_mark.Bracket = Some (k, atom_read p (ReadOf a t (Num (pos 0))))
index_ends k p a t index_mark.Comma = Some (frame.Second p a t ∷ k, state.Factor fresh)
index_ends k p a t index_mark.Other = None

abbrev pub in_index : Stack → Pending → ArrayTerm → Term → FormulaMark → Option Machine
in_index k p a t m = index_ends k p a t (index_end m)

abbrev pub at_paren : Machine → FormulaMark → Option Machine
at_paren n m = if is_close_paren m then Some n else None

abbrev pub at_bracket : Machine → FormulaMark → Option Machine
at_bracket n m = if is_close_bracket m then Some n else None

abbrev pub at_comma : Machine → FormulaMark → Option Machine
at_comma n m = if is_comma m then Some n else None

abbrev pub at_relation : Stack → Before → Term → FormulaMark → Option Machine
at_relation k b t m = if_some (relation_in m) (λ r. Some (frame.Right b t r ∷ k, state.Factor fresh))

-- a token behind a whole term
abbrev pub term_ends : Stack → Term → FormulaMark → Option Machine
term_ends (frame.Paren p ∷ k) t m = at_paren (k, atom_read p t) m
term_ends (frame.First p a ∷ k) t m = in_index k p a t m
term_ends (frame.Second p a i ∷ k) t m = at_bracket (k, atom_read p (ReadOf a i t)) m
term_ends (frame.PutFirst s a ∷ k) t m = at_comma (frame.PutSecond s a t ∷ k, state.Factor fresh) m
term_ends (frame.PutSecond s a i ∷ k) t m = at_comma (frame.PutValue s a i t ∷ k, state.Factor fresh) m
term_ends (frame.PutValue s a i j ∷ k) t m = at_paren (k, state.Array s (PutOf a i j t)) m
term_ends (frame.Left b ∷ k) t m = at_relation k b t m
term_ends (frame.Right b s r ∷ k) t m = following k b.or (joined b.and (denied b.nots (related r s t))) m
term_ends _ t m = None

abbrev pub product_ends : Stack → Adding → Term → FormulaMark → ProductSign → Option Machine
product_ends k a x m product_mark.Plus = Some (k, state.Factor (pending (adding.Plus (added a x)) None false))
product_ends k a x m product_mark.Minus = Some (k, state.Factor (pending (adding.Minus (added a x)) None false))
product_ends k a x m product_mark.Star = Some (k, state.Factor (pending a (Some x) false))
product_ends k a x m product_mark.Other = term_ends k (added a x) m

-- a token behind a product
abbrev pub having : Stack → Adding → Term → FormulaMark → Option Machine
having k a x m = product_ends k a x m (product_sign m)

abbrev pub word_begins : Stack → Slot → ArrayWord → Option Machine
word_begins k s array_mark.Init = Some (k, state.InitWord s)
word_begins k s array_mark.Put = Some (k, state.PutWord s)
word_begins k s array_mark.Other = None

abbrev pub named_begins : Stack → Slot → FormulaMark → Option (List ℕ) → Option Machine
named_begins k s m (Some x) = Some (k, state.Array s (Array (Value x)))
named_begins k s m None = word_begins k s (array_word m)

-- a token that begins an array
abbrev pub array_begins : Stack → Slot → FormulaMark → Option Machine
array_begins k s m = named_begins k s m (name_in m)

abbrev pub at_minus : Stack → Pending → Bool → Option Machine
at_minus k p false = Some (k, state.Factor (pending p.sum p.product true))
at_minus k p true = None

abbrev pub number_begins : Stack → Pending → FormulaMark → Option Machine
number_begins k p m = if_some (number_in p.minus m) (λ z. Some (k, number_read p z))

abbrev pub bound_read : Stack → Pending → FormulaMark → Option Machine
bound_read k p m = if_some (place_in (names_of k) m) (λ i. Some (k, atom_read p (Bound i)))

abbrev pub factor_begins : Stack → Pending → FormulaMark → FactorStart → Option Machine
factor_begins k p m factor_mark.Literal = number_begins k p m
factor_begins k p m factor_mark.Bound = bound_read k p m
factor_begins k p m factor_mark.Hash = Some (k, state.Fresh p)
factor_begins k p m factor_mark.Minus = at_minus k p p.minus
factor_begins k p m factor_mark.Paren = Some (frame.Paren p ∷ k, state.Factor fresh)
factor_begins k p m factor_mark.Array = array_begins k (slot.Atom p) m

-- a token where a factor is due
abbrev pub wanting : Stack → Pending → FormulaMark → Option Machine
wanting k p m = factor_begins k p m (factor_start m)

abbrev pub fresh_read : Stack → Pending → FormulaMark → Option Machine
fresh_read k p m = if_some (short_in m) (λ i. Some (k, atom_read p (Scalar (Fresh i))))

abbrev pub at_open_paren : Machine → FormulaMark → Option Machine
at_open_paren n m = if is_open_paren m then Some n else None

abbrev pub at_open_brace : Machine → FormulaMark → Option Machine
at_open_brace n m = if is_open_brace m then Some n else None

abbrev pub init_named : Stack → Slot → FormulaMark → Option Machine
init_named k s m = if_some (name_in m) (λ x. Some (k, state.InitName s x))

-- the array of a `put` is read
abbrev pub put_begins : Stack → ArrayTerm → Option Machine
put_begins (frame.Put s ∷ k) a = Some (frame.PutFirst s a ∷ k, state.Factor fresh)
put_begins _ a = None

abbrev pub put_named : Stack → ArrayTerm → FormulaMark → Option Machine
put_named k a m = if is_comma m then put_begins k a else None

-- a symbol and nothing else is an atom
abbrev pub symbol_ends : Stack → Pending → ArrayTerm → FormulaMark → Option Machine
unfolding hidden term_shape term_child array_shape array_child
symbol_ends k p (Array s) m = having k p.sum (multiplied p.product (signed p.minus (Scalar s))) m
symbol_ends k p (PutOf a i j v) m = None

abbrev pub array_named : Stack → Pending → ArrayTerm → FormulaMark → Option Machine
array_named k p a m = if is_open_bracket m then Some (frame.First p a ∷ k, state.Factor fresh) else symbol_ends k p a m

abbrev pub array_read : Stack → Slot → ArrayTerm → FormulaMark → Option Machine
array_read k (slot.Atom p) a m = array_named k p a m
array_read k slot.Put a m = put_named k a m

abbrev pub part_starts : Stack → Before → FormulaMark → PartStart → Option Machine
part_starts k b m part_mark.True = Some (k, part_read b True)
part_starts k b m part_mark.False = Some (k, part_read b False)
part_starts k b m part_mark.Not = Some (k, state.Part (before b.or b.and (suc b.nots)))
part_starts k b m part_mark.Brace = Some (frame.Braces b ∷ k, state.Part unbound)
part_starts k b m part_mark.All = Some (k, state.AllWord b)
part_starts k b m part_mark.Label = Some (k, state.AtSign b)
part_starts k b m part_mark.Term = wanting (frame.Left b ∷ k) fresh m

-- a token where a part is due
abbrev pub part_begins : Stack → Before → FormulaMark → Option Machine
part_begins k b m = part_starts k b m (part_start m)

abbrev pub all_named : Stack → Before → FormulaMark → Option Machine
all_named k b m = if_some (bound_in m) (λ x. Some (k, state.AllName b x))

abbrev pub node_named : Stack → Before → LabelKind → FormulaMark → Option Machine
node_named k b c m = if_some (short_in m) (λ i. Some (k, state.AtLabel b (record { kind = c; node = record { 0 = i } })))

abbrev pub kind_read : Stack → Before → FormulaMark → Option Machine
kind_read k b m = if_some (label_kind_of m) (λ c. Some (k, state.AtKind b c))

-- a token
abbrev pub stepped : Stack → State → FormulaMark → Option Machine
stepped k (state.Factor p) m = wanting k p m
stepped k (state.Fresh p) m = fresh_read k p m
stepped k (state.InitWord s) m = at_open_paren (k, state.InitOpen s) m
stepped k (state.InitOpen s) m = init_named k s m
stepped k (state.InitName s x) m = at_paren (k, state.Array s (Array (Init x))) m
stepped k (state.PutWord s) m = at_open_paren (frame.Put s ∷ k, state.ArrayDue) m
stepped k state.ArrayDue m = array_begins k slot.Put m
stepped k (state.Array s a) m = array_read k s a m
stepped k (state.Product a x) m = having k a x m
stepped k (state.Part b) m = part_begins k b m
stepped k (state.AllWord b) m = all_named k b m
stepped k (state.AllName b x) m = at_open_brace (frame.All b x ∷ k, state.Part unbound) m
stepped k (state.AtSign b) m = kind_read k b m
stepped k (state.AtKind b c) m = node_named k b c m
stepped k (state.AtLabel b l) m = at_open_brace (frame.Lab b l ∷ k, state.Part unbound) m
stepped k (state.Conj o f) m = following k o f m

-- the term, if it may end here
abbrev pub atom_so_far : Pending → Term → Term
atom_so_far p t = added p.sum (multiplied p.product (signed p.minus t))

abbrev pub symbol_so_far : Pending → ArrayTerm → Option Term
unfolding hidden term_shape term_child array_shape array_child
symbol_so_far p (Array s) = Some (atom_so_far p (Scalar s))
symbol_so_far p (PutOf a i j v) = None

abbrev pub array_so_far : Slot → ArrayTerm → Option Term
array_so_far (slot.Atom p) a = symbol_so_far p a
array_so_far slot.Put a = None

abbrev pub term_so_far : State → Option Term
term_so_far (state.Product a x) = Some (added a x)
term_so_far (state.Array s a) = array_so_far s a
term_so_far _ = None

abbrev pub ended_term : Stack → State → Option Term
ended_term [] s = term_so_far s
ended_term (o ∷ k) s = None

abbrev pub implied : Stack → Formula → Option Formula
implied [] f = Some f
implied (frame.Antecedent g ∷ k) f = implied k (Implication g f)
implied (_ ∷ k) f = None

abbrev pub relation_top : Stack → Term → Option Formula
relation_top (frame.Right b s r ∷ k) t = implied k (either b.or (joined b.and (denied b.nots (related r s t))))
relation_top _ t = None

abbrev pub relation_ended : Stack → Option Term → Option Formula
relation_ended k None = None
relation_ended k (Some t) = relation_top k t

abbrev pub ended_formula : Stack → State → Option Formula
ended_formula k (state.Conj o f) = implied k (either o f)
ended_formula k s = relation_ended k (term_so_far s)

-- a step of the code: the stack afterwards and the new state, or nothing
abbrev pub StepGives : Stack → Option State → Option Machine → Type 0
StepGives k None m = m ≡ None
StepGives k (Some s) m = m ≡ Some (k, s)

abbrev pub ended : (g : Goal) → Stack → State → Option (Tree g)
ended Terms k s = ended_term k s
ended Formulas k s = ended_formula k s

abbrev pub begun : Goal → State
begun Terms = state.Factor fresh
begun Formulas = state.Part unbound

abbrev pub whole : {A : Type 0} → Option A → Result A Tokens
whole None = Err []
whole (Some t) = Ok t

-- the tree, or the tokens from the first on at which none continues
abbrev pub reads : (g : Goal) → Stack → State → Tokens → Result (Tree g) Tokens
reads g k s [] = whole (ended g k s)
reads g k s (m ∷ ms) = elim (stepped k s m) [ None ↦ Err (m ∷ ms) | Some n ↦ reads g n.0 n.1 ms ]
