use Rattle.std.proofs.Common.{◌≡◌, ◌<◌, length, arith, ap, subst, refl, true, Some, slice_get}
use Rattle.std.proofs.lemmas.Option.{slice_get_read}
use Rattle.ac_proof.specs.declared.tree.ProofTree.{out-ProofTree}
use Rattle.ac_proof.proofs.Trees.{few_premises, few_below, few_of, few_more, few_through}
use Rattle.ac_proof.proofs.few.+has_few_premises.Goals as goal

pub returns-then-premises : goal.returns-then-premises
returns-then-premises t c = (λ h. cc, λ h. let n : length (out-ProofTree c.args.tree.now).premises < 4294967296 = few_premises c.args.tree.now h in absurd (omega (arith, ap length c.as_slice-premises.ensures)))

pub loop-p-preserved : goal.loop-p-preserved
loop-p-preserved t c = few_more c.as_slice-premises.result.now c.loop-p.p-index c.p-item.result c.p-item.is c.loop-p.invariant (c.has_few_premises.ensures.0 c.if-not-has_few_premises.false)

pub returns-then-not-has_few_premises : goal.returns-then-not-has_few_premises
returns-then-not-has_few_premises t c =
    let e : slice_get (out-ProofTree c.args.tree.now).premises c.loop-p.p-index ≡ Some c.p-item.result = subst (λ ts. slice_get ts c.loop-p.p-index ≡ Some c.p-item.result) c.as_slice-premises.ensures (slice_get_read c.as_slice-premises.result.now _ c.loop-p.p-index c.p-item.result refl c.loop-p-test.true c.p-item.is) in
    (λ h. cc, λ h. let q : c.has_few_premises.result ≡ true = c.has_few_premises.ensures.1 (few_below c.args.tree.now c.loop-p.p-index c.p-item.result h e) in cc)

pub returns : goal.returns
returns t c =
    let n : length (out-ProofTree c.args.tree.now).premises < 4294967296 = subst (λ ts. length ts < 4294967296) c.as_slice-premises.ensures c.if-premises.false in
    (λ _. few_of c.args.tree.now n (few_through (out-ProofTree c.args.tree.now).premises c.as_slice-premises.result.now c.loop-p.p-index c.as_slice-premises.ensures c.loop-p-test.false c.loop-p.invariant), λ _. refl)
