-- A write keeps the sizes of a memory and the numbers of the inputs.
use Rattle.std.proofs.Common.{◌≡◌, ℤ, List, [], ◌∷◌, length, set, Bool, true, false, refl, sym, ◌∙◌, ap, if◌then◌else◌, bytes_eq}
use Rattle.std.proofs.lemmas.Bool.{false≢true}
use Rattle.std.proofs.lemmas.List.{length-set}
use Rattle.std.proofs.lemmas.Slice.Eq.{bytes_eq-Decides}
use Rattle.ac_tree.specs.declared.program.Program.{Program}
use Rattle.ac_run.specs.declared.event.Cell.{Cell}
use Rattle.ac_run.specs.declared.start.Start.{Start}
use Rattle.ac_run.specs.declared.start.StartCell.{StartCell}
use Rattle.ac_run.specs.Declarations.{NameBytes, numbers_in, is_input}
use Rattle.ac_run.specs.Memory.{Memory, set_numbers, write, place}
use Rattle.ac_policy.specs.State.{Kept}
use Rattle.ac_soundness.proofs.Writes.{numbers_other}

size_step : (c : StartCell) (m n : Memory) (x y : NameBytes) (ns : List ℤ) (t : Bool) → bytes_eq c.name x ≡ t → length ns ≡ length (if t then c.numbers else numbers_in m x) →
    (length ns ≡ length (numbers_in m x) → length (numbers_in n y) ≡ length (numbers_in m y)) →
    length (numbers_in (if t then record { name = c.name; numbers = ns } ∷ m else c ∷ n) y) ≡ length (numbers_in (c ∷ m) y)
size_step c m n x y ns true h e ih = by (bytes_eq c.name y)
  where
    by : (b : Bool) → length (if b then ns else numbers_in m y) ≡ length (if b then c.numbers else numbers_in m y)
    by true = e
    by false = refl
size_step c m n x y ns false h e ih = by (bytes_eq c.name y)
  where
    by : (b : Bool) → length (if b then c.numbers else numbers_in n y) ≡ length (if b then c.numbers else numbers_in m y)
    by true = refl
    by false = ih e

size_set : (m : Memory) (x y : NameBytes) (ns : List ℤ) → length ns ≡ length (numbers_in m x) → length (numbers_in (set_numbers m x ns) y) ≡ length (numbers_in m y)
size_set [] x y ns e = refl
size_set (c ∷ m) x y ns e = size_step c m (set_numbers m x ns) x y ns (bytes_eq c.name x) refl e (size_set m x y ns)

differ : (p : Program) (start : Start) (x y : NameBytes) (b : Bool) → bytes_eq x y ≡ b → is_input p x ≡ false → is_input p y ≡ true → b ≡ false
differ p start x y false e f g = refl
differ p start x y true e f g = absurd (false≢true (sym f ∙ ap (is_input p) ((bytes_eq-Decides x y).0 e) ∙ g))

pub kept_write : (p : Program) (start : Start) (m : Memory) (c : Cell) (n : ℤ) → is_input p c.name ≡ false → Kept p start m → Kept p start (write p start m c n)
kept_write p start m c n f k = record {
  sizes = λ y. size_set m c.name y (set (numbers_in m c.name) (place p start c) n) (length-set (numbers_in m c.name) (place p start c) n) ∙ k.sizes y;
  inputs = λ y h. numbers_other m c.name y (set (numbers_in m c.name) (place p start c) n) (differ p start c.name y (bytes_eq c.name y) refl f h) ∙ k.inputs y h;
}
