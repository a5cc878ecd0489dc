-- Parts are accepted one by one.
use Rattle.std.proofs.Common.{◌≡◌, ℕ, ◌<◌, ◌≤◌, ◌+◌, List, [], ◌∷◌, ◌++◌, length, take, refl, sym, ◌∙◌, ap, subst, get_or}
use Rattle.std.specs.Prelude.{All, map}
use Rattle.std.proofs.lemmas.List.{take_all, take_more, map-append}
use Rattle.std.proofs.lemmas.List.Elements.{All-push}
use Rattle.std.proofs.lemmas.Option.{slice_get_read}
use Rattle.ac_tree.specs.declared.program.Program.{Program}
use Rattle.ac_kernel.specs.declared.refused.Refused.{Refused}
use Rattle.ac_kernel.specs.Refusals.{IsRefusal}
use Rattle.ac_policy_set.specs.declared.policy_set.PolicySet.{PolicySet}
use Rattle.ac_proof.specs.declared.certificate.CertPart.{CertPart}
use Rattle.ac_verify.specs.Certificates.{Keeps, part_policies, IsAcceptedPart, IsFirstRefusedPart, condition_count, conditions_for}

-- what is known of the first parts
pub record AreCounted (p : Program) (set : PolicySet) (parts : List CertPart) (numbers : List ℕ) : Type 0 where
  pub kept : All (Keeps p set.roles) (part_policies parts)
  pub accepted : All (IsAcceptedPart p set) parts
  pub counts : numbers ≡ map (condition_count p set) parts

module _ (p : Program) (set : PolicySet) (parts : List CertPart) (i : ℕ) (part : CertPart) where
  one_more : part ≡ get_or parts i part → i < length parts → take (i + 1) parts ≡ take i parts ++ part ∷ []
  one_more e within = take_more parts i part within ∙ ap (λ x. take i parts ++ x ∷ []) (sym e)

  pub counted_more : (counts more : List ℕ) (count : ℕ) → part ≡ get_or parts i part → i < length parts → AreCounted p set (take i parts) counts → Keeps p set.roles part.policy → IsAcceptedPart p set part → count ≡ condition_count p set part → more ≡ counts ++ count ∷ [] → AreCounted p set (take (i + 1) parts) more
  counted_more counts more count e within before kept accepted told pushed =
      subst (λ xs. AreCounted p set xs more) (sym (one_more e within)) (record {
        kept = subst (λ ps. All (Keeps p set.roles) ps) (sym (map-append (λ x. x.policy) (take i parts) (part ∷ []))) (All-push (Keeps p set.roles) (part_policies (take i parts)) part.policy before.kept kept);
        accepted = All-push (IsAcceptedPart p set) (take i parts) part before.accepted accepted;
        counts = pushed ∙ (ap (λ xs. xs ++ count ∷ []) before.counts ∙ (ap (λ x. map (condition_count p set) (take i parts) ++ x ∷ []) told ∙ sym (map-append (condition_count p set) (take i parts) (part ∷ []))));
      })

  pub part_refused : (counts : List ℕ) (r : Refused) → part ≡ get_or parts i part → i < length parts → AreCounted p set (take i parts) counts → IsRefusal p part (conditions_for p set part) r → IsFirstRefusedPart p set parts r
  part_refused counts r e within before refused = (i, part, slice_get_read parts (length parts) i part refl within e, before.accepted, refused)

pub all_kept : (p : Program) (set : PolicySet) (parts : List CertPart) (i : ℕ) (counts : List ℕ) → length parts ≤ i → AreCounted p set (take i parts) counts → All (Keeps p set.roles) (part_policies parts)
all_kept p set parts i counts past h = subst (λ xs. All (Keeps p set.roles) (part_policies xs)) (take_all i parts past) h.kept
