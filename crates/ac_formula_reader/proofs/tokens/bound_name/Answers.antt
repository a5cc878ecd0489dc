use Rattle.std.proofs.Common.{◌≡◌, ◌+◌, ◌-◌, take, drop, subst, arith}
use Rattle.std.specs.Str.{IsAscii}
use Rattle.ac_tokens.specs.declared.run.Run.TheVariants.{Bound}
use Rattle.ac_tokens.proofs.Runs.{run_ascii}
use Rattle.ac_formula_reader.proofs.Pieces.{run_rest}
use Rattle.ac_formula_reader.proofs.tokens.bound_name.Goals as goal

pub ascii_text-requires : goal.ascii_text-requires
ascii_text-requires c =
    let bytes = c.args.bytes.now in
    let n = c.run_length-len.result in
    let e : n ≡ 1 + n - 1 = omega arith in
    subst (λ k. IsAscii (take k (drop 1 bytes))) e (run_ascii Bound (drop 1 bytes) n tt (run_rest Bound bytes n c.requires.within c.run_length-len.ensures).0)
