-- The loop over the declarations: the fault of one, or else of those behind it.
use Rattle.std.proofs.Common.{ap, sym, ◌∙◌, ◌+◌, List, take, drop, Some}
use Rattle.std.proofs.lemmas.Result.{err_from_is_err_and}
use Rattle.ac_tree.specs.declared.program.Item.{Item}
use Rattle.ac_tree.specs.FirstFault.{fault_of}
use Rattle.ac_tree.specs.StaticRules.{first_fault, item_faults, items_faults}
use Rattle.ac_tree.proofs.FirstFaults.{or_else, items_faults-drop}
use Rattle.ac_tree.proofs.declarations.check_items.Goals as goal

pub loop-count-preserved : goal.loop-count-preserved
loop-count-preserved g c =
    let count = c.loop-count.count in
    let d = c.index-items-count.result in
    let behind = first_fault (items_faults (take (count + 1) c.args.items.now) (drop (count + 1) c.args.items.now)) in
    let step = items_faults-drop c.args.items.now count d c.loop-count-test.true c.index-items-count.is in
    let here = c.in_ok-check_item.ensures ∙ ap (λ (ds : List Item). first_fault (item_faults (take count ds) d)) c.requires in
    sym (step ∙ ap (λ o. or_else o behind) (sym here)) ∙ c.loop-count.invariant

pub returns-in_err-check_item : goal.returns-in_err-check_item
returns-in_err-check_item g c =
    let count = c.loop-count.count in
    let d = c.index-items-count.result in
    let behind = first_fault (items_faults (take (count + 1) c.args.items.now) (drop (count + 1) c.args.items.now)) in
    let step = items_faults-drop c.args.items.now count d c.loop-count-test.true c.index-items-count.is in
    let here = c.in_err-check_item.ensures ∙ ap (λ (ds : List Item). first_fault (item_faults (take count ds) d)) c.requires in
    let whole = sym (step ∙ ap (λ o. or_else o behind) (sym here)) ∙ c.loop-count.invariant in
    let p = err_from_is_err_and c.from_residual.result c.from_residual.ensures.1 in
    ap (λ r. fault_of r) p.1 ∙ (ap Some p.2 ∙ whole)
