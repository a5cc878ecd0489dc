use Rattle.std.proofs.Common.{◌≡◌, ℕ, ◌-◌, List, Option, ◌++◌, length, take, drop, sym, ap, ◌∙◌, subst, append_assoc, take-append-drop}
use Rattle.std.proofs.Math.Seq.{take-append_seam}
use Rattle.std.proofs.lemmas.List.{take_rest}
use Rattle.std.specs.Io.KnownBytes.{Appends}
use Rattle.std.proofs.KnownBytes.{Appends-trans, Appends-kept}
use Rattle.ac_io.proofs.transfer.write_whole.Goals as goal

-- n bytes more are done
moves_front : (all done rest : List ℕ) (n : ℕ) → all ≡ done ++ rest → all ≡ (done ++ take n rest) ++ take (length rest - n) (drop n rest)
moves_front all done rest n split =
    split ∙ ap (λ l. done ++ l) (sym (take-append-drop n rest)) ∙ sym (append_assoc done (take n rest) (drop n rest)) ∙ ap (λ l. (done ++ take n rest) ++ l) (sym (take_rest rest n))

-- what is done is a prefix
is_prefix : (before now : Option (List ℕ)) (all done rest : List ℕ) → all ≡ done ++ rest → Appends before now done → (kept : ℕ) × Appends before now (take kept all)
is_prefix before now all done rest split appended =
    (length done, subst (Appends before now) (sym (ap (take (length done)) split ∙ take-append_seam done rest)) appended)

pub loop-rest-preserved : goal.loop-rest-preserved
loop-rest-preserved g c =
    let (done, split, appended) = c.loop-rest.invariant in
    let rest = c.loop-rest.rest.now in
    let n = c.in-Ok.n in
    (done ++ take n rest, moves_front _ done rest n split, Appends-trans _ _ _ _ _ appended c.in-Ok.ensures.bytes)

pub returns-in-Ok-eq0-clause-err : goal.returns-in-Ok-eq0-clause-err
returns-in-Ok-eq0-clause-err g c =
    let (done, split, appended) = c.loop-rest.invariant in
    let rest = c.loop-rest.rest.now in
    let n = c.in-Ok-eq0.field-0 in
    is_prefix _ _ c.args.bytes.now (done ++ take n rest) _ (moves_front _ done rest n split) (Appends-trans _ _ _ _ _ appended c.in-Ok-eq0.ensures.bytes)

pub returns-in-Err-clause-err : goal.returns-in-Err-clause-err
returns-in-Err-clause-err g c =
    let (done, split, appended) = c.loop-rest.invariant in
    is_prefix _ _ c.args.bytes.now done _ split (Appends-kept _ _ _ _ appended c.in-Err.ensures.bytes)
