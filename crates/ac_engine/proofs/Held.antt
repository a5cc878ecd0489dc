-- The bytes under a name: those that are told, else others.
use Rattle.std.proofs.Common.{◌≡◌, ℕ, ◌+◌, ◌<◌, List, [], length, refl, ap, subst, inl, arith}
use Rattle.std.specs.Prelude.{Option, Some, None, unwrap_or, replicate}
use Rattle.std.specs.Option.{ForSome}
use Rattle.std.proofs.lemmas.List.{length-replicate}
use Rattle.ac_io.specs.Contents.{Told}
use Rattle.ac_tree.specs.Limits.{limit_of}
use Rattle.ac_tree.specs.declared.limit.LimitKind.TheVariants.{ProgramBytes, PolicyBytes}
use Rattle.ac_tree.specs.declared.program.Program.{Program}
use Rattle.ac_verdict.specs.declared.outcome.Outcome.{Outcome}
use Rattle.ac_verdict.specs.declared.outcome.Outcome.TheVariants.{Accepted, Limit, OutOfMemory}
use Rattle.ac_verdict.specs.declared.count.Count.{Count}
use Rattle.ac_verdict.specs.Causes.{HasVerdict, IsSomeProgram, IsRefusal, IsCause}
use Rattle.ac_verdict.specs.Headline.{IsCertified}
use Rattle.ac_verdict.proofs.Verdicts.{refusal_cause, long_policy_cause, certified}
use Rattle.ac_engine.specs.Causes.{AreOf, IsOutcomeOf, Certifies}
use Rattle.ac_engine.specs.Words.{Names, Asks}

-- the bytes that are told, else these
held : Told → List ℕ → List ℕ → List ℕ
held told name others = unwrap_or (told name) others

held_of : (told : Told) (name others : List ℕ) → AreOf told name (held told name others)
unfolding held
held_of told name others x e = ap (λ (o : Option (List ℕ)). unwrap_or o others) e

-- what holds of what is told and of the others holds of the bytes
held_by : (P : List ℕ → Type 0) (o : Option (List ℕ)) (others : List ℕ) → P others → ForSome o P → P (unwrap_or o others)
held_by P None others is told = is
held_by P (Some x) others is told = told x refl

zeros : ℕ → List ℕ
zeros n = replicate n 0

longer : (most : ℕ) → most < length (zeros (most + 1))
unfolding zeros
longer most = omega (arith, length-replicate {A = ℕ} (most + 1) 0)

-- want of memory
pub no_memory : (told : Told) (program policy : List ℕ) → IsOutcomeOf told program policy OutOfMemory
no_memory told program policy = record {
  bytes = held told program [];
  policy_bytes = held told policy [];
  of_program = held_of told program [];
  of_policy = held_of told policy [];
  cause = tt;
}

-- a program that is longer than its limit
pub long_program : (told : Told) (program policy : List ℕ) (most value : ℕ) → most ≡ limit_of ProgramBytes → value ≡ limit_of ProgramBytes → ForSome (told program) (λ x. most < length x) →
    IsOutcomeOf told program policy (Limit ProgramBytes value)
unfolding held
long_program told program policy most value most_is value_is long = record {
  bytes = held told program (zeros (limit_of ProgramBytes + 1));
  policy_bytes = held told policy [];
  of_program = held_of told program (zeros (limit_of ProgramBytes + 1));
  of_policy = held_of told policy [];
  cause = inl (value_is, held_by (λ x. limit_of ProgramBytes < length x) (told program) (zeros (limit_of ProgramBytes + 1)) (longer (limit_of ProgramBytes)) (λ x e. subst (λ (n : ℕ). n < length x) most_is (long x e)));
}

-- a program that is refused
pub refused : (told : Told) (program policy : List ℕ) (bytes : List ℕ) (o : Outcome) → AreOf told program bytes → IsRefusal bytes o → IsOutcomeOf told program policy o
refused told program policy bytes o same h = record {
  bytes = bytes;
  policy_bytes = held told policy [];
  of_program = same;
  of_policy = held_of told policy [];
  cause = refusal_cause bytes (held told policy []) o h;
}

-- an accepted program and a policy file that is longer than its limit
pub long_policy : (told : Told) (program policy bytes : List ℕ) (p : Program) (most value : ℕ) → AreOf told program bytes → HasVerdict bytes p → most ≡ limit_of PolicyBytes → value ≡ limit_of PolicyBytes →
    ForSome (told policy) (λ x. most < length x) → IsOutcomeOf told program policy (Limit PolicyBytes value)
unfolding held
long_policy told program policy bytes p most value same verdict most_is value_is long = record {
  bytes = bytes;
  policy_bytes = held told policy (zeros (limit_of PolicyBytes + 1));
  of_program = same;
  of_policy = held_of told policy (zeros (limit_of PolicyBytes + 1));
  cause = long_policy_cause bytes _ p value verdict value_is (held_by (λ x. limit_of PolicyBytes < length x) (told policy) (zeros (limit_of PolicyBytes + 1)) (longer (limit_of PolicyBytes)) (λ x e. subst (λ (n : ℕ). n < length x) most_is (long x e)));
}

-- an accepted program and a policy file
pub judged : (told : Told) (program policy bytes policy_bytes : List ℕ) (o : Outcome) → AreOf told program bytes → AreOf told policy policy_bytes → IsCause bytes policy_bytes o →
    IsOutcomeOf told program policy o
judged told program policy bytes policy_bytes o of_program of_policy h = record { bytes = bytes; policy_bytes = policy_bytes; of_program = of_program; of_policy = of_policy; cause = h }

-- a fault of the policy file
pub accepted_bytes : (told : Told) (program policy : List ℕ) (bytes : List ℕ) (p : Program) → AreOf told program bytes → HasVerdict bytes p → ForSome (told program) IsSomeProgram
accepted_bytes told program policy bytes p same verdict x e = (p, subst (λ (bs : List ℕ). HasVerdict bs p) (same x e) verdict)

-- the headline
pub certified_names : (told : Told) (words : List (List ℕ)) (n : Names) (ks : List Count) → Asks words n → IsOutcomeOf told n.program n.policy (Accepted ks) → Certifies told words
certified_names told words n ks asks o =
    let c = certified o.bytes o.policy_bytes ks o.cause in (
      n,
      asks,
      λ program e policy f.
          subst (λ (q : List ℕ). IsCertified program q) (o.of_policy policy f) (subst (λ (p : List ℕ). IsCertified p o.policy_bytes) (o.of_program program e) c),
    )
