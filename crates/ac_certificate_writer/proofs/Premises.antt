-- The steps of a proof from its last step and the list of its premises.
use Rattle.std.proofs.Common.{◌≡◌, suc, ◌∷◌, ◌++◌, length, refl, sym, ap, ◌∙◌}
use Rattle.std.specs.List.{flat_map}
use denote.Hole.Carrier as carrier
use Rattle.ac_proof.specs.declared.tree.ProofTree.{ProofTree, ProofTree', Row_of-ProofTree, end_of-ProofTree, more_of-ProofTree, out-ProofTree, items-the_row-ProofTree, items_shown-the_row-ProofTree-0}
use Rattle.ac_proof.specs.Checked.{goals}
use Rattle.ac_lines.specs.CertificateText.{step_entry, steps_of, steps_of_premises}
use Rattle.ac_certificate_writer.specs.Written.{Written, with_entry, with_entries}

width-items : (n : _) (row : Row_of-ProofTree n) → length (goals row) ≡ length (items-the_row-ProofTree n row)
width-items n end_of-ProofTree = refl
width-items n (more_of-ProofTree t row) = ap suc (width-items _ row)

steps-items : (n : _) (row : Row_of-ProofTree n) → steps_of_premises row ≡ flat_map steps_of (items-the_row-ProofTree n row)
steps-items n end_of-ProofTree = refl
steps-items n (more_of-ProofTree t row) = λ k. steps_of t ++ steps-items _ row k

pub steps-out : (t : ProofTree) → steps_of t ≡ step_entry (out-ProofTree t).rule (out-ProofTree t).goal (length (out-ProofTree t).premises) ∷ flat_map steps_of (out-ProofTree t).premises
unfolding out-ProofTree carrier.out
steps-out (ProofTree' r g s row) =
    (λ k. step_entry r g (width-items _ row k) ∷ steps-items _ row k)
    ∙ ap (λ ts. step_entry r g (length ts) ∷ flat_map steps_of ts) (sym (items_shown-the_row-ProofTree-0 s row))

-- a proof is written where its last step and then its premises are
pub proof_written : (t : ProofTree) (w v z : Written) → v ≡ with_entry w (step_entry (out-ProofTree t).rule (out-ProofTree t).goal (length (out-ProofTree t).premises)) → z ≡ with_entries v (flat_map steps_of (out-ProofTree t).premises) → z ≡ with_entries w (steps_of t)
proof_written t w v z p q = q ∙ (ap (λ u. with_entries u (flat_map steps_of (out-ProofTree t).premises)) p ∙ ap (with_entries w) (sym (steps-out t)))
