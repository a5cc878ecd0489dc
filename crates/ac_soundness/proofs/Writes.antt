-- What a write does to the valuation of a state.
use Rattle.ac_run.specs.declared.start.Start.{Start}
use Rattle.std.proofs.Common.{◌≡◌, ◌≢◌, ℕ, ◌+◌, ◌*◌, ◌/◌, ◌%◌, ◌<◌, nat_abs, ℤ, pos, negsuc, int_le, int_lt, List, [], ◌∷◌, Bool, true, false, refl, sym, ◌∙◌, ap, subst, if◌then◌else◌, arith, bytes_eq, set, length, ◌&&◌}
use Rattle.std.specs.Ordering.{int_eq}
use Rattle.std.proofs.lemmas.Bool.Decides.{Decides-int_eq, not_from_Decides}
use Rattle.std.proofs.lemmas.Slice.Eq.{bytes_eq-Decides}
use Rattle.std.proofs.lemmas.Bool.{false≢true, ltb-true}
use Rattle.std.proofs.lemmas.Nat.{div-mul-add, mod-mul-add}
use Rattle.std.proofs.lemmas.List.{get_or-set_same, get_or-set_other}
use Rattle.ac_tree.specs.declared.program.Program.{Program}
use Rattle.ac_run.specs.declared.event.Cell.{Cell}
use Rattle.ac_run.specs.declared.start.StartCell.{StartCell}
use Rattle.ac_logic.specs.declared.formula.Sym.{Sym}
use Rattle.ac_logic.specs.declared.formula.Sym.TheVariants.{Value, Init, Fresh}
use Rattle.ac_logic.specs.declared.formula.Term.{Term}
use Rattle.ac_logic.specs.declared.formula.Term.TheVariants as term
use Rattle.ac_logic.specs.declared.formula.ArrayTerm.TheVariants as array
use Rattle.ac_logic.specs.declared.formula.Change.{Change}
use Rattle.ac_logic.specs.declared.formula.Change.TheVariants.{Scalar, Array}
use Rattle.ac_soundness.specs.Opened.{hidden, term_shape, term_child, array_shape, array_child}
use Rattle.ac_logic.specs.Meaning.{Valuation, with_cell, value, table_of}
use Rattle.ac_logic.specs.Substitution.{changed, scalar_after, array_symbol_after}
use Rattle.ac_policy.specs.State.{Shadow, cell, element, scalar_or, element_or, state, state_number, state_table}
use Rattle.ac_policy.specs.Laws.{AreShadowChanges}
use Rattle.ac_policy.specs.State.{IsArray, IsScalar}
use Rattle.ac_run.specs.Declarations.{NameBytes, Shape, Scalar as Single, Vector, Matrix, numbers_in, shape}
use Rattle.ac_run.specs.Memory.{Memory, set_numbers, is_within, place_in, place, is_inside, number_at, write, is_below, is_missing}

-- the numbers of another name
other_step : (c : StartCell) (m n : Memory) (x y : NameBytes) (ns : List ℤ) (t : Bool) → bytes_eq c.name x ≡ t → bytes_eq x y ≡ false → numbers_in n y ≡ numbers_in m y →
    numbers_in (if t then record { name = c.name; numbers = ns } ∷ m else c ∷ n) y ≡ numbers_in (c ∷ m) y
other_step c m n x y ns true h e ih =
    let f : bytes_eq c.name y ≡ false = subst (λ z. bytes_eq z y ≡ false) (sym ((bytes_eq-Decides c.name x).0 h)) e in
    rw f refl
other_step c m n x y ns false h e ih = ap (λ z. if bytes_eq c.name y then c.numbers else z) ih

pub numbers_other : (m : Memory) (x y : NameBytes) (ns : List ℤ) → bytes_eq x y ≡ false → numbers_in (set_numbers m x ns) y ≡ numbers_in m y
numbers_other [] x y ns e = refl
numbers_other (c ∷ m) x y ns e = other_step c m (set_numbers m x ns) x y ns (bytes_eq c.name x) refl e (numbers_other m x y ns e)

-- the numbers of the name itself, where it has some
same_step : (c : StartCell) (m n : Memory) (x : NameBytes) (ns : List ℤ) (t : Bool) → bytes_eq c.name x ≡ t → 0 < length (if t then c.numbers else numbers_in m x) →
    (0 < length (numbers_in m x) → numbers_in n x ≡ ns) → numbers_in (if t then record { name = c.name; numbers = ns } ∷ m else c ∷ n) x ≡ ns
same_step c m n x ns true h k ih = rw h refl
same_step c m n x ns false h k ih = rw h (ih k)

pub numbers_same : (m : Memory) (x : NameBytes) (ns : List ℤ) → 0 < length (numbers_in m x) → numbers_in (set_numbers m x ns) x ≡ ns
numbers_same [] x ns k = absurd (omega arith)
numbers_same (c ∷ m) x ns k = same_step c m (set_numbers m x ns) x ns (bytes_eq c.name x) refl k (numbers_same m x ns)

pub and_both : (a b : Bool) → (a && b) ≡ true → (a ≡ true) × (b ≡ true)
and_both true b e = (refl, e)
and_both false b e = absurd (false≢true e)

-- two table_of is_within the extents have different places
between : (i : ℤ) (n : ℕ) → int_le (pos 0) i ≡ true → int_lt i (pos n) ≡ true → (i ≡ pos (nat_abs i)) × (nat_abs i < n)
between (pos k) n e f = (refl, ltb-true k n f)
between (negsuc k) n e f = absurd (false≢true e)

pub below_is : (i : ℤ) (n : ℕ) → is_below i n ≡ true → (i ≡ pos (nat_abs i)) × (nat_abs i < n)
below_is i n e = let k = and_both (int_le (pos 0) i) (int_lt i (pos n)) e in between i n k.0 k.1

row_same : (a b c d m : ℕ) → b < m → d < m → a * m + b ≡ c * m + d → (a ≡ c) × (b ≡ d)
row_same a b c d m h k e =
    (sym (div-mul-add a m b h) ∙ ap (λ z. z / m) e ∙ div-mul-add c m d k, sym (mod-mul-add a m b h) ∙ ap (λ z. z % m) e ∙ mod-mul-add c m d k)

zero_is : (i : ℤ) → is_missing i ≡ true → i ≡ pos 0
zero_is i e = (Decides-int_eq i (pos 0)).0 e

pub place_same : (z : Shape) (i j k l : ℤ) → is_within z i j ≡ true → is_within z k l ≡ true → place_in z (nat_abs i) (nat_abs j) ≡ place_in z (nat_abs k) (nat_abs l) → (i ≡ k) × (j ≡ l)
place_same Single i j k l e f h =
    let a = and_both (is_missing i) (is_missing j) e in
    let b = and_both (is_missing k) (is_missing l) f in
    (zero_is i a.0 ∙ sym (zero_is k b.0), zero_is j a.1 ∙ sym (zero_is l b.1))
place_same (Vector n) i j k l e f h =
    let a = and_both (is_below i n) (is_missing j) e in
    let b = and_both (is_below k n) (is_missing l) f in
    ((below_is i n a.0).0 ∙ ap pos h ∙ sym (below_is k n b.0).0, zero_is j a.1 ∙ sym (zero_is l b.1))
place_same (Matrix n m) i j k l e f h =
    let a = and_both (is_below i n) (is_below j m) e in
    let b = and_both (is_below k n) (is_below l m) f in
    let c = below_is j m a.1 in
    let d = below_is l m b.1 in
    let g = row_same _ _ _ _ m c.1 d.1 h in
    ((below_is i n a.0).0 ∙ ap pos g.0 ∙ sym (below_is k n b.0).0, c.0 ∙ ap pos g.1 ∙ sym d.0)

module _ (p : Program) (start : Start) where
  pub number_same : (m : Memory) (c : Cell) (n : ℤ) → place p start c < length (numbers_in m c.name) → number_at p start (write p start m c n) c ≡ n
  number_same m c n h = rw (numbers_same m c.name (set (numbers_in m c.name) (place p start c) n) (omega arith)) (get_or-set_same (numbers_in m c.name) (place p start c) n (pos 0) h)

  pub number_other : (m : Memory) (c d : Cell) (n : ℤ) → bytes_eq c.name d.name ≡ false → number_at p start (write p start m c n) d ≡ number_at p start m d
  number_other m c d n h = rw (numbers_other m c.name d.name (set (numbers_in m c.name) (place p start c) n) h) refl

  pub number_elsewhere : (m : Memory) (x : NameBytes) (i j k l n : ℤ) → is_inside p start (cell x i j) ≡ true → is_inside p start (cell x k l) ≡ true → (i ≡ k → j ≡ l → ⊥) →
      place p start (cell x i j) < length (numbers_in m x) → number_at p start (write p start m (cell x i j) n) (cell x k l) ≡ number_at p start m (cell x k l)
  number_elsewhere m x i j k l n f g h r =
      let differ : place p start (cell x k l) ≢ place p start (cell x i j) = λ e. let q = place_same (shape p start x) i j k l f g (sym e) in h q.0 q.1 in
      rw (numbers_same m x (set (numbers_in m x) (place p start (cell x i j)) n) (omega arith)) (get_or-set_other (numbers_in m x) (place p start (cell x i j)) (place p start (cell x k l)) n (pos 0) differ)

  -- a write is_within the extents, seen as a table
  at_cell : (m : Memory) (x : NameBytes) (i j k l n : ℤ) (a b inside : Bool) → int_eq i k ≡ a → int_eq j l ≡ b → is_inside p start (cell x k l) ≡ inside → is_inside p start (cell x i j) ≡ true →
      place p start (cell x i j) < length (numbers_in m x) →
      (if inside then number_at p start (write p start m (cell x i j) n) (cell x k l) else pos 0) ≡ (if (a && b) then n else (if inside then number_at p start m (cell x k l) else pos 0))
  at_cell m x i j k l n true true true e f g h r =
      let u = (Decides-int_eq i k).0 e in
      let v = (Decides-int_eq j l).0 f in
      (λ t. number_at p start (write p start m (cell x i j) n) (cell x (sym u t) (sym v t))) ∙ number_same m (cell x i j) n r
  at_cell m x i j k l n true true false e f g h r =
      let u = (Decides-int_eq i k).0 e in
      let v = (Decides-int_eq j l).0 f in
      let w : is_inside p start (cell x k l) ≡ true = (λ t. is_inside p start (cell x (sym u t) (sym v t))) ∙ h in
      absurd (false≢true (sym g ∙ w))
  at_cell m x i j k l n true false true e f g h r = number_elsewhere m x i j k l n h g (λ u v. not_from_Decides (int_eq j l) (Decides-int_eq j l) f v) r
  at_cell m x i j k l n true false false e f g h r = refl
  at_cell m x i j k l n false b true e f g h r = number_elsewhere m x i j k l n h g (λ u v. not_from_Decides (int_eq i k) (Decides-int_eq i k) e u) r
  at_cell m x i j k l n false b false e f g h r = refl

  pub element_same : (m : Memory) (x : NameBytes) (i j k l n : ℤ) → IsArray (shape p start x) → is_inside p start (cell x i j) ≡ true → place p start (cell x i j) < length (numbers_in m x) →
      element p start (write p start m (cell x i j) n) x k l ≡ with_cell (element p start m x) i j n k l
  element_same m x i j k l n a h r = go (shape p start x) a
    where
      go : (ns : Shape) → IsArray ns →
          element_or ns (if is_inside p start (cell x k l) then number_at p start (write p start m (cell x i j) n) (cell x k l) else pos 0) ≡
          (if (int_eq i k && int_eq j l) then n else element_or ns (if is_inside p start (cell x k l) then number_at p start m (cell x k l) else pos 0))
      go Single q = absurd q
      go (Vector rows) q = at_cell m x i j k l n (int_eq i k) (int_eq j l) (is_inside p start (cell x k l)) refl refl refl h r
      go (Matrix rows columns) q = at_cell m x i j k l n (int_eq i k) (int_eq j l) (is_inside p start (cell x k l)) refl refl refl h r

  pub element_other : (m : Memory) (c : Cell) (y : NameBytes) (k l n : ℤ) → bytes_eq c.name y ≡ false → element p start (write p start m c n) y k l ≡ element p start m y k l
  element_other m c y k l n h = ap (λ z. element_or (shape p start y) (if is_inside p start (cell y k l) then z else pos 0)) (number_other m c (cell y k l) n h)

  pub scalar_other : (m : Memory) (c : Cell) (y : NameBytes) (n : ℤ) → bytes_eq c.name y ≡ false → scalar_or (shape p start y) (number_at p start (write p start m c n) (cell y (pos 0) (pos 0))) ≡ scalar_or (shape p start y) (number_at p start m (cell y (pos 0) (pos 0)))
  scalar_other m c y n h = ap (scalar_or (shape p start y)) (number_other m c (cell y (pos 0) (pos 0)) n h)

pub no_scalar : (ns : Shape) (a b : ℤ) → IsArray ns → scalar_or ns a ≡ scalar_or ns b
no_scalar Single a b h = absurd h
no_scalar (Vector n) a b h = refl
no_scalar (Matrix n m) a b h = refl

pub is_scalar : (ns : Shape) (a : ℤ) → IsScalar ns → scalar_or ns a ≡ a
is_scalar Single a h = refl
is_scalar (Vector n) a h = absurd h
is_scalar (Matrix n m) a h = absurd h

pub no_array : (ns : Shape) (a b : ℤ) → IsScalar ns → element_or ns a ≡ element_or ns b
no_array Single a b h = refl
no_array (Vector n) a b h = absurd h
no_array (Matrix n m) a b h = absurd h

-- a symbol that is no shadow
abbrev IsPlain : Sym → Type 0
IsPlain (Init x) = ⊥
IsPlain _ = Unit {0}

plain_scalar : (cs : List Change) (s : Sym) → AreShadowChanges cs → IsPlain s → scalar_after cs s ≡ term.Sym s
plain_scalar [] s h k = refl
plain_scalar (Scalar (Init x) t ∷ cs) (Value y) h k = plain_scalar cs (Value y) h.1 k
plain_scalar (Scalar (Init x) t ∷ cs) (Fresh y) h k = plain_scalar cs (Fresh y) h.1 k
plain_scalar (Scalar (Init x) t ∷ cs) (Init y) h k = absurd k
plain_scalar (Scalar (Value x) t ∷ cs) s h k = absurd h.0
plain_scalar (Scalar (Fresh x) t ∷ cs) s h k = absurd h.0
plain_scalar (Array x a ∷ cs) s h k = plain_scalar cs s h.1 k

plain_array : (cs : List Change) (s : Sym) → AreShadowChanges cs → IsPlain s → array_symbol_after cs s ≡ array.Sym s
plain_array [] s h k = refl
plain_array (Array (Init x) t ∷ cs) (Value y) h k = plain_array cs (Value y) h.1 k
plain_array (Array (Init x) t ∷ cs) (Fresh y) h k = plain_array cs (Fresh y) h.1 k
plain_array (Array (Init x) t ∷ cs) (Init y) h k = absurd k
plain_array (Array (Value x) t ∷ cs) s h k = absurd h.0
plain_array (Array (Fresh x) t ∷ cs) s h k = absurd h.0
plain_array (Scalar x a ∷ cs) s h k = plain_array cs s h.1 k

module _ (p : Program) (start : Start) (m : Memory) (s r : Shadow) (cs : List Change) (form : AreShadowChanges cs)
    (number : (x : NameBytes) → (changed (state p start m s) cs).number (Init x) ≡ state_number p start m r (Init x))
    (table : (x : NameBytes) → (changed (state p start m s) cs).table (Init x) ≡ state_table p start m r (Init x)) where
  plain_number : (y : NameBytes) → value (state p start m s) [] (scalar_after cs (Value y)) ≡ state_number p start m s (Value y)
  unfolding hidden term_shape term_child array_shape array_child
  plain_number y = ap (value (state p start m s) []) (plain_scalar cs (Value y) form tt)

  plain_table : (y : NameBytes) → table_of (state p start m s) [] (array_symbol_after cs (Value y)) ≡ element p start m y
  unfolding hidden term_shape term_child array_shape array_child
  plain_table y = ap (table_of (state p start m s) []) (plain_array cs (Value y) form tt)

  module _ (x : NameBytes) (t : Term) (h : IsScalar (shape p start x)) (k : place p start (cell x (pos 0) (pos 0)) < length (numbers_in m x)) where
    set_number : ℤ
    set_number = value (state p start m s) [] t

    set_after : Memory
    unfolding set_number
    set_after = write p start m (cell x (pos 0) (pos 0)) set_number

    number_set : (y : Sym) → (changed (state p start m s) (Scalar (Value x) t ∷ cs)).number y ≡ state_number p start set_after r y
    unfolding set_number set_after hidden term_shape term_child array_shape array_child
    number_set (Init y) = number y
    number_set (Fresh y) = ap (value (state p start m s) []) (plain_scalar cs (Fresh y) form tt)
    number_set (Value y) = go (bytes_eq x y) refl
      where
        go : (b : Bool) → bytes_eq x y ≡ b → value (state p start m s) [] (if b then t else scalar_after cs (Value y)) ≡ state_number p start (write p start m (cell x (pos 0) (pos 0)) (value (state p start m s) [] t)) r (Value y)
        go true e = subst (λ (z : NameBytes). value (state p start m s) [] t ≡ state_number p start (write p start m (cell x (pos 0) (pos 0)) (value (state p start m s) [] t)) r (Value z)) ((bytes_eq-Decides x y).0 e)
            (sym (is_scalar (shape p start x) _ h ∙ number_same p start m (cell x (pos 0) (pos 0)) _ k))
        go false e = plain_number y ∙ sym (scalar_other p start m (cell x (pos 0) (pos 0)) y _ e)

    table_set : (y : Sym) → (changed (state p start m s) (Scalar (Value x) t ∷ cs)).table y ≡ state_table p start set_after r y
    unfolding set_number set_after hidden term_shape term_child array_shape array_child
    table_set (Init y) = table y
    table_set (Fresh y) = ap (table_of (state p start m s) []) (plain_array cs (Fresh y) form tt)
    table_set (Value y) = plain_table y ∙ (λ d i j. go (bytes_eq x y) refl i j d)
      where
        go : (b : Bool) → bytes_eq x y ≡ b → (i j : ℤ) → element p start m y i j ≡ element p start (write p start m (cell x (pos 0) (pos 0)) (value (state p start m s) [] t)) y i j
        go true e i j = no_array (shape p start y) _ _ (subst (λ (z : NameBytes). IsScalar (shape p start z)) ((bytes_eq-Decides x y).0 e) h)
        go false e i j = sym (element_other p start m (cell x (pos 0) (pos 0)) y i j _ e)

    -- the state after an assignment to a scalar
    pub state_set : state p start (write p start m (cell x (pos 0) (pos 0)) (value (state p start m s) [] t)) r ≡ changed (state p start m s) (Scalar (Value x) t ∷ cs)
    unfolding set_number set_after hidden term_shape term_child array_shape array_child
    state_set = λ d. record { number = λ y. sym (number_set y) d; table = λ y. sym (table_set y) d }

  module _ (x : NameBytes) (i j t : Term) (h : IsArray (shape p start x)) (inside : is_inside p start (cell x (value (state p start m s) [] i) (value (state p start m s) [] j)) ≡ true)
      (k : place p start (cell x (value (state p start m s) [] i) (value (state p start m s) [] j)) < length (numbers_in m x)) where
    put_after : Memory
    put_after = write p start m (cell x (value (state p start m s) [] i) (value (state p start m s) [] j)) (value (state p start m s) [] t)

    put_change : Change
    unfolding term_shape term_child array_shape array_child hidden
    put_change = Array (Value x) (array.Put (array.Sym (Value x)) i j t)

    number_put : (y : Sym) → (changed (state p start m s) (put_change ∷ cs)).number y ≡ state_number p start put_after r y
    unfolding term_shape term_child array_shape array_child hidden put_change put_after
    number_put (Init y) = number y
    number_put (Fresh y) = ap (value (state p start m s) []) (plain_scalar cs (Fresh y) form tt)
    number_put (Value y) = plain_number y ∙ go (bytes_eq x y) refl
      where
        go : (b : Bool) → bytes_eq x y ≡ b → state_number p start m s (Value y) ≡ state_number p start (write p start m (cell x (value (state p start m s) [] i) (value (state p start m s) [] j)) (value (state p start m s) [] t)) r (Value y)
        go true e = no_scalar (shape p start y) _ _ (subst (λ (z : NameBytes). IsArray (shape p start z)) ((bytes_eq-Decides x y).0 e) h)
        go false e = sym (scalar_other p start m (cell x (value (state p start m s) [] i) (value (state p start m s) [] j)) y _ e)

    table_put : (y : Sym) → (changed (state p start m s) (put_change ∷ cs)).table y ≡ state_table p start put_after r y
    unfolding term_shape term_child array_shape array_child hidden put_change put_after
    table_put (Init y) = table y
    table_put (Fresh y) = ap (table_of (state p start m s) []) (plain_array cs (Fresh y) form tt)
    table_put (Value y) = go (bytes_eq x y) refl
      where
        w : Valuation
        w = state p start m s

        go : (b : Bool) → bytes_eq x y ≡ b → table_of (state p start m s) [] (if b then array.Put (array.Sym (Value x)) i j t else array_symbol_after cs (Value y)) ≡ state_table p start (write p start m (cell x (value (state p start m s) [] i) (value (state p start m s) [] j)) (value (state p start m s) [] t)) r (Value y)
        go true e = subst (λ (z : NameBytes). with_cell (element p start m x) (value (state p start m s) [] i) (value (state p start m s) [] j) (value (state p start m s) [] t) ≡ state_table p start (write p start m (cell x (value (state p start m s) [] i) (value (state p start m s) [] j)) (value (state p start m s) [] t)) r (Value z)) ((bytes_eq-Decides x y).0 e)
            (λ d u v. sym (element_same p start m x (value (state p start m s) [] i) (value (state p start m s) [] j) u v (value (state p start m s) [] t) h inside k) d)
        go false e = plain_table y ∙ (λ d u v. sym (element_other p start m (cell x (value (state p start m s) [] i) (value (state p start m s) [] j)) y u v (value (state p start m s) [] t) e) d)

    -- the state after an assignment to an element
    pub state_put : state p start (write p start m (cell x (value (state p start m s) [] i) (value (state p start m s) [] j)) (value (state p start m s) [] t)) r ≡ changed (state p start m s) (Array (Value x) (array.Put (array.Sym (Value x)) i j t) ∷ cs)
    unfolding term_shape term_child array_shape array_child hidden put_change put_after
    state_put = λ d. record { number = λ y. sym (number_put y) d; table = λ y. sym (table_put y) d }
