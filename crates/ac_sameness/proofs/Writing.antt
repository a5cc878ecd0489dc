-- What a statement writes, by its parts, and the names of a run in a map.
use Rattle.std.proofs.Common.{◌≡◌, ℕ, List, Option, Some, None, Bool, true, false, ◌||◌, is_some, if◌then◌else◌, bytes_eq, refl, sym, ◌∙◌, ap, subst}
use Rattle.ac_tree.specs.declared.program.Cond.{Cond}
use Rattle.ac_tree.specs.declared.program.Expr.{Expr}
use Rattle.ac_tree.specs.declared.program.Stmt.{Stmt}
use Rattle.ac_tree.specs.declared.program.StmtKind.{StmtKind}
use Rattle.ac_tree.specs.declared.program.StmtKind.TheVariants as stmt
use Rattle.ac_tree.specs.Names.{NameBytes}
use Rattle.ac_codes.specs.SideConditions.{writes, run_writes}
use Rattle.ac_sameness.specs.Tests.{Entries, has_name, AreWritten}
use Rattle.ac_sameness.proofs.Rows.{writes-If, writes-For, writes-While}

-- a test of two parts, by what the code tells of the first

pub if_first : (x : NameBytes) (k : StmtKind) (c : Cond) (xs ys us : List Stmt) (b : Bool) → k ≡ stmt.If c xs ys → us ≡ xs → b ≡ run_writes x us → b ≡ true → b ≡ writes x k
if_first x k c xs ys us b e f g h =
    let w : run_writes x xs ≡ true = ap (run_writes x) (sym f) ∙ (sym g ∙ h) in
    h ∙ sym (ap (writes x) e ∙ (writes-If x c xs ys ∙ ap (λ (p : Bool). p || run_writes x ys) w))

pub if_second : (x : NameBytes) (k : StmtKind) (c : Cond) (xs ys us vs : List Stmt) (b d : Bool) → k ≡ stmt.If c xs ys → us ≡ xs → b ≡ run_writes x us → b ≡ false →
    vs ≡ ys → d ≡ run_writes x vs → d ≡ writes x k
if_second x k c xs ys us vs b d e f g h i j =
    let w : run_writes x xs ≡ false = ap (run_writes x) (sym f) ∙ (sym g ∙ h) in
    j ∙ (ap (run_writes x) i ∙ sym (ap (writes x) e ∙ (writes-If x c xs ys ∙ ap (λ (p : Bool). p || run_writes x ys) w)))

pub for_body : (x y : NameBytes) (k : StmtKind) (a z : Expr) (xs us : List Stmt) (b d : Bool) → k ≡ stmt.For y a z xs → b ≡ bytes_eq y x → b ≡ false →
    us ≡ xs → d ≡ run_writes x us → d ≡ writes x k
for_body x y k a z xs us b d e g h i j =
    let w : bytes_eq y x ≡ false = sym g ∙ h in
    j ∙ (ap (run_writes x) i ∙ sym (ap (writes x) e ∙ (writes-For x y a z xs ∙ ap (λ (p : Bool). p || run_writes x xs) w)))

pub while_body : (x : NameBytes) (k : StmtKind) (c : Cond) (xs us : List Stmt) (d : Bool) → k ≡ stmt.While c xs → us ≡ xs → d ≡ run_writes x us → d ≡ writes x k
while_body x k c xs us d e i j = j ∙ (ap (run_writes x) i ∙ sym (ap (writes x) e ∙ writes-While x c xs))

-- names added for one part after the other

or-assoc : (a b c : Bool) → ((a || b) || c) ≡ (a || (b || c))
or-assoc true b c = refl
or-assoc false b c = refl

module _ (old mid new : Entries) (k : StmtKind) where
  pub names_if : (c : Cond) (xs ys us vs : List Stmt) → k ≡ stmt.If c xs ys → us ≡ xs → vs ≡ ys →
      ((x : NameBytes) → has_name mid x ≡ (has_name old x || run_writes x us)) → ((x : NameBytes) → has_name new x ≡ (has_name mid x || run_writes x vs)) →
      (x : NameBytes) → has_name new x ≡ (has_name old x || writes x k)
  names_if c xs ys us vs e f g h j x =
      j x ∙ (ap (λ (p : Bool). p || run_writes x vs) (h x) ∙ (or-assoc (has_name old x) (run_writes x us) (run_writes x vs)
      ∙ ap (λ (p : Bool). has_name old x || p)
      (ap (λ (l : List Stmt). run_writes x l || run_writes x vs) f ∙ (ap (λ (l : List Stmt). run_writes x xs || run_writes x l) g ∙ sym (ap (writes x) e ∙ writes-If x c xs ys)))))

  pub names_for : (y z : NameBytes) (a b : Expr) (xs us : List Stmt) → k ≡ stmt.For y a b xs → z ≡ y → us ≡ xs →
      ((x : NameBytes) → has_name mid x ≡ (has_name old x || bytes_eq z x)) → ((x : NameBytes) → has_name new x ≡ (has_name mid x || run_writes x us)) →
      (x : NameBytes) → has_name new x ≡ (has_name old x || writes x k)
  names_for y z a b xs us e f g h j x =
      j x ∙ (ap (λ (p : Bool). p || run_writes x us) (h x) ∙ (or-assoc (has_name old x) (bytes_eq z x) (run_writes x us)
      ∙ ap (λ (p : Bool). has_name old x || p)
      (ap (λ (w : NameBytes). bytes_eq w x || run_writes x us) f ∙ (ap (λ (l : List Stmt). bytes_eq y x || run_writes x l) g ∙ sym (ap (writes x) e ∙ writes-For x y a b xs)))))

pub names_while : (old new : Entries) (k : StmtKind) (c : Cond) (xs us : List Stmt) → k ≡ stmt.While c xs → us ≡ xs →
    ((x : NameBytes) → has_name new x ≡ (has_name old x || run_writes x us)) → (x : NameBytes) → has_name new x ≡ (has_name old x || writes x k)
names_while old new k c xs us e g j x =
    j x ∙ ap (λ (p : Bool). has_name old x || p) (ap (run_writes x) g ∙ sym (ap (writes x) e ∙ writes-While x c xs))

-- one name more in a map

pub one_more : (o n : Option (Unit {0})) (a b : List ℕ) (x : NameBytes) → a ≡ b → n ≡ (if bytes_eq a x then Some tt else o) → is_some n ≡ (is_some o || bytes_eq b x)
one_more o n a b x e h = ap is_some h ∙ (by o (bytes_eq a x) ∙ ap (λ (c : List ℕ). is_some o || bytes_eq c x) e)
  where
    by : (o : Option (Unit {0})) (t : Bool) → is_some (if t then Some tt else o) ≡ (is_some o || t)
    by None true = refl
    by None false = refl
    by (Some u) true = refl
    by (Some u) false = refl

-- what a map with the names of a run tells of a name
pub has_written : (entries : Entries) (run seen : List Stmt) (x y : NameBytes) (b : Bool) → AreWritten run entries → seen ≡ run → y ≡ x → b ≡ has_name entries y → b ≡ run_writes x seen
has_written entries run seen x y b h s e k = k ∙ (h y ∙ (ap (λ (z : NameBytes). run_writes z run) e ∙ ap (run_writes x) (sym s)))
