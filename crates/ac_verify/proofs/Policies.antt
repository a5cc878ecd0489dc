-- Parts and policies are compared one by one.
use Rattle.std.proofs.Common.{◌≡◌, ◌≢◌, ℕ, ◌<◌, ◌+◌, List, length, take, sym, ◌∙◌, ap, subst, arith, get_or}
use Rattle.std.proofs.lemmas.List.{take_all, take_more_same, get_or-map, length-map}
use Rattle.ac_tree.specs.declared.policy.PolicyName.{PolicyName}
use Rattle.ac_proof.specs.declared.certificate.CertPart.{CertPart}
use Rattle.ac_verify.specs.Certificates.{part_policies}

module _ (parts : List CertPart) (names : List PolicyName) where
  names_length : length (part_policies parts) ≡ length parts
  names_length = length-map parts (λ part. part.policy)

  -- lists of other lengths are other lists
  pub other_length : length parts ≢ length names → part_policies parts ≢ names
  other_length apart h = apart (sym names_length ∙ ap (λ (xs : List PolicyName). length xs) h)

  module _ (i : ℕ) (part : CertPart) (name : PolicyName) where
    name_at : i < length parts → get_or (part_policies parts) i name ≡ (get_or parts i part).policy
    name_at within = get_or-map (λ x. x.policy) parts i part name within

    pub same_more : i < length parts → length parts ≡ length names → (get_or parts i part).policy ≡ get_or names i name → take i (part_policies parts) ≡ take i names → take (i + 1) (part_policies parts) ≡ take (i + 1) names
    same_more within same here before =
        let first : i < length (part_policies parts) = subst (λ n. i < n) (sym names_length) within in
        let second : i < length names = subst (λ n. i < n) same within in
        take_more_same (part_policies parts) names i name first second before (name_at within ∙ here)

  pub same_all : (i : ℕ) → length parts ≡ i → length parts ≡ length names → take i (part_policies parts) ≡ take i names → part_policies parts ≡ names
  same_all i at same h =
      let all : take i (part_policies parts) ≡ part_policies parts = take_all i (part_policies parts) (omega (arith, names_length, at)) in
      let whole : take i names ≡ names = take_all i names (omega (arith, same, at)) in
      sym all ∙ (h ∙ whole)
