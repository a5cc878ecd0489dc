-- Annotations are judged one by one.
use Rattle.std.proofs.Common.{◌≡◌, ℕ, ◌<◌, ◌+◌, Bool, true, false, IsTrue, ◌↔◌, List, length, refl, sym, subst, get_or}
use Rattle.std.specs.List.{AllWithin}
use Rattle.std.proofs.lemmas.List.Elements.{AllWithin-more, at_read}
use Rattle.std.proofs.lemmas.Option.{slice_get_read}
use Rattle.ac_tree.specs.declared.path.Place.{Place}
use Rattle.ac_tree.specs.declared.program.Item.{Item}
use Rattle.ac_tree.specs.declared.program.Program.{Program}
use Rattle.ac_logic.specs.declared.condition.Annotation.{Annotation}
use Rattle.ac_kernel.specs.Places.{places_of}
use Rattle.ac_kernel.specs.WellFormed.{IsWellFormedFor, IsWellFormed, IsFirstIllFormed}

module _ (p : Program) (annotations : List Annotation) (i : ℕ) (a : Annotation) (ds : List Item) (places : List Place) (b : Bool) where
  pub formed_more : ds ≡ p.items → places ≡ places_of p → a ≡ get_or annotations i a → i < length annotations → AllWithin (IsWellFormed p) annotations 0 i → (IsTrue b ↔ IsWellFormedFor ds places a) → b ≡ true → AllWithin (IsWellFormed p) annotations 0 (i + 1)
  formed_more e f at within before h r =
      AllWithin-more (IsWellFormed p) annotations 0 i before
      (at_read annotations (IsWellFormed p) i a within at (subst (λ xs. IsWellFormedFor p.items xs a) f (subst (λ xs. IsWellFormedFor xs places a) e (h.0 r))))

  pub first_ill : ds ≡ p.items → places ≡ places_of p → a ≡ get_or annotations i a → i < length annotations → AllWithin (IsWellFormed p) annotations 0 i → (IsTrue b ↔ IsWellFormedFor ds places a) → b ≡ false → IsFirstIllFormed p annotations i
  first_ill e f at within before h r = record {
    before = before;
    here = (
      a,
      slice_get_read annotations (length annotations) i a refl within at,
      λ k.
          let t : b ≡ true = h.1 (subst (λ xs. IsWellFormedFor xs places a) (sym e) (subst (λ xs. IsWellFormedFor p.items xs a) (sym f) k)) in
          cc,
    );
  }
