-- What a match asks beside its code: values that the run leaves as they are, and values that have nothing to do with a name.
-- The openers `hidden`, `cond_shape` and `cond_child` let a definition look at the children of a tree.
use Rattle.std.specs.Prelude.{◌≡◌, List, [], ◌∷◌, Option, Some, Bool, true, false, ◌||◌, bytes_eq}
use Rattle.ac_tree.specs.declared.program.CondKind.{CondKind}
use Rattle.ac_tree.specs.declared.program.CondKind.TheVariants.{True, False, Rel}
use Rattle.ac_tree.specs.declared.program.Stmt.{Stmt}
use Rattle.ac_tree.specs.declared.program.StmtKind.{StmtKind, Row_of-Stmt, end_of-Stmt, more_of-Stmt}
use Rattle.ac_tree.specs.declared.program.StmtKind.TheVariants.{Set, Put, If', For', While', Hand, Skip}
use Rattle.ac_tree.specs.Names.{NameBytes}
use Rattle.ac_tree.specs.Patterns.{Negation, Conjunction, Disjunction}
use Rattle.ac_tree.specs.StaticRules.{reads}
use Rattle.ac_codes.specs.declared.pattern.ApartPair.{ApartPair}
use Rattle.ac_codes.specs.declared.pattern.MatchValue.{MatchValue}
use Rattle.ac_codes.specs.declared.pattern.MatchValue.TheVariants as value
use Rattle.ac_codes.specs.Opened.{hidden, cond_shape, cond_child}
use Rattle.ac_codes.specs.Values.{Values, value_of}

-- whether a condition reads a name
abbrev pub cond_reads : NameBytes → CondKind → Bool
unfolding hidden cond_shape cond_child
cond_reads x True = false
cond_reads x False = false
cond_reads x (Rel r a b) = reads x a.kind || reads x b.kind
cond_reads x (Negation n c) = cond_reads x c
cond_reads x (Conjunction n c k d) = cond_reads x c || cond_reads x d
cond_reads x (Disjunction n c k d) = cond_reads x c || cond_reads x d

-- whether a statement writes a name, itself or by a statement in it; a `for` writes its variable
abbrev mutual
  pub writes : NameBytes → StmtKind → Bool
  writes x (Set y a) = bytes_eq y x
  writes x (Put y i a) = bytes_eq y x
  writes x (If' c _ xs _ ys) = row_writes x xs || row_writes x ys
  writes x (For' y a b _ xs) = bytes_eq y x || row_writes x xs
  writes x (While' c _ xs) = row_writes x xs
  writes x (Hand y r) = false
  writes x Skip = false

  pub row_writes : {n : _} → NameBytes → Row_of-Stmt n → Bool
  row_writes x end_of-Stmt = false
  row_writes x (more_of-Stmt n s rest) = writes x s || row_writes x rest

-- the same of a list of statements
abbrev pub run_writes : NameBytes → List Stmt → Bool
run_writes x [] = false
run_writes x (s ∷ rest) = writes x s.kind || run_writes x rest

-- a run leaves a value as it is: it writes no name that the value reads, nor the name that the value is
abbrev pub IsKept : List Stmt → Option MatchValue → Type 0
IsKept run (Some (value.Name x)) = run_writes x run ≡ false
IsKept run (Some (value.Expr e)) = (x : NameBytes) → reads x e.kind ≡ true → run_writes x run ≡ false
IsKept run (Some (value.Cond c)) = (x : NameBytes) → cond_reads x c.kind ≡ true → run_writes x run ≡ false
IsKept run _ = Unit {0}

-- a value has nothing to do with a name: an expression or condition doesn't read it, a run doesn't write it, a name isn't it
abbrev pub IsApartFrom : MatchValue → NameBytes → Type 0
IsApartFrom (value.Name y) x = bytes_eq y x ≡ false
IsApartFrom (value.Expr e) x = reads x e.kind ≡ false
IsApartFrom (value.Cond c) x = cond_reads x c.kind ≡ false
IsApartFrom (value.Run xs) x = run_writes x xs ≡ false

abbrev pub AreApart : Option MatchValue → Option MatchValue → Type 0
AreApart (Some v) (Some (value.Name x)) = IsApartFrom v x
AreApart _ _ = Unit {0}

-- those of a pattern

abbrev pub AreKept : Values → List Stmt → List NameBytes → Type 0
AreKept bound run [] = Unit {0}
AreKept bound run (x ∷ xs) = IsKept run (value_of bound x) × AreKept bound run xs

abbrev pub AreAllApart : Values → List ApartPair → Type 0
AreAllApart bound [] = Unit {0}
AreAllApart bound (p ∷ ps) = AreApart (value_of bound p.value) (value_of bound p.name) × AreAllApart bound ps
