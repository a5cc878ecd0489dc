-- Terms as keys of a table: equal where they are the same tree.
-- No promise rests on this file: it says what the code keeps on the way.
use Rattle.std.specs.Prelude.{◌≡◌, List, map, Bool, true, false, refl}
use Rattle.std.specs.Cmp.{IsEquivalence}
use Rattle.std.specs.Hash as fed
use Rattle.std.specs.Hash.{Alike}
use Rattle.std.proofs.Common.{ap, sym, ◌∙◌}
use Rattle.ac_logic.specs.declared.formula.Term.{Term}
use Rattle.ac_linear.specs.TermEquality.{term_eq}
use Rattle.ac_linear.proofs.Equal.{term_same, term_itself}
use Rattle.ac_expand.specs.declared.key.Key.{Key}
use Rattle.ac_expand.specs.Digest.{digest_of}

abbrev pub terms_of : List Key → List Term
terms_of ks = map (λ k. k.term) ks

abbrev pub same_key : Key → Key → Bool
same_key x y = term_eq x.term y.term

same_bits : (p q : Bool) → (p ≡ true → q ≡ true) → (q ≡ true → p ≡ true) → p ≡ q
same_bits true q f g = sym (f refl)
same_bits false true f g = g refl
same_bits false false f g = refl

pub equiv : IsEquivalence same_key
equiv = record {
  refl = λ x. term_itself x.term;
  symm = λ x y. same_bits _ _ (λ h. ap (λ t. term_eq y.term t) (term_same x.term y.term h) ∙ term_itself y.term) (λ h. ap (λ t. term_eq x.term t) (term_same y.term x.term h) ∙ term_itself x.term);
  congr = λ x y z h. ap (λ t. term_eq t z.term) (term_same x.term y.term h);
}

pub alike : Alike same_key (λ k. fed.u64 (digest_of k.term))
alike = record { fed = λ x y h. ap (λ t. fed.u64 (digest_of t)) (term_same x.term y.term h) }
