use Rattle.std.proofs.Common.{◌≡◌, ◌+◌, ◌<◌, ◌≤◌, drop, get_or, length, sym, ◌∙◌, rules, arith}
use Rattle.std.proofs.lemmas.Result.{on_ok_weaker}
use Rattle.ac_profile.proofs.Changing.{changed_at, changed_nowhere, past_change}
use Rattle.ac_profile.proofs.Merged.{drop_next}
use Rattle.ac_profile.proofs.counts.add_changed.Goals as goal

pub returns-then-is_of : goal.returns-then-is_of
returns-then-is_of c =
    let cs = c.args.changes.now in
    let i = c.loop-change.change-index in
    let x = c.change-item.result in
    let o = c.args.occurrence.now in
    let low : i < length cs = first_of (search rules, omega (arith, c.loop-change-test.true)) in
    let read : x ≡ get_or cs i x = first_of (cc, search rules) in
    on_ok_weaker c.add_change.result
    (λ h. changed_at c.args.profile.now c.loop-change.profile _ c.place_at-place.result o cs i c.loop-change.invariant.kept c.place_at-place.ensures c.loop-change.invariant.past x (drop_next cs i x low read)
    (h (drop (i + 1) cs) o.symbol o.is_array (sym c.is_of.ensures ∙ c.if-is_of.true)))
    c.add_change.ensures

pub returns : goal.returns
returns c =
    let cs = c.args.changes.now in
    let i = c.loop-change.change-index in
    let low : length cs ≤ i = first_of (search rules, omega (arith, c.loop-change-test.false)) in
    on_ok_weaker c.add_symbol.result
    (λ h. changed_nowhere c.args.profile.now c.loop-change.profile _ c.place_at-place.result c.args.occurrence.now cs i c.loop-change.invariant.kept c.place_at-place.ensures c.loop-change.invariant.past low h)
    c.add_symbol.ensures
