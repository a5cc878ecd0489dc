use Rattle.std.proofs.Common.{◌≡◌, ◌+◌, ◌<◌, ◌≤◌, List, length, get_or, set, ap, sym, subst, ◌∙◌, rules, arith, add-one, refl}
use Rattle.std.proofs.lemmas.List.{with_items_is}
use Rattle.ac_profile.specs.declared.counts.Occurrence.{Occurrence}
use Rattle.ac_profile.specs.Added.{raised}
use Rattle.ac_profile.proofs.Raised.{raised_to, raised_length, raise_one, above_all}
use Rattle.ac_profile.proofs.counts.raise_all.Goals as goal

pub loop-occurrence-preserved : goal.loop-occurrence-preserved
loop-occurrence-preserved c =
    let start = c.deref_mut-occurrence-items.result.now in
    let i = c.loop-occurrence.occurrence-index in
    let d = c.occurrence-item.result in
    let y = c.raise.new.occurrence in
    let same = c.loop-occurrence.invariant in
    let low : i < length c.loop-occurrence.occurrence-items = first_of (search rules, omega (arith, c.loop-occurrence-test.true)) in
    ap (λ (l : List Occurrence). set l i y) same
    ∙ (raise_one c.args.by start i d y (subst (λ (l : List Occurrence). i < length l) same low) (c.raise.ensures ∙ ap (λ (l : List Occurrence). raised c.args.by (get_or l i d)) same) ∙ rw add-one refl)

pub returns : goal.returns
returns c =
    let start = c.deref_mut-occurrence-items.result.now in
    let i = c.loop-occurrence.occurrence-index in
    let items = c.loop-occurrence.occurrence-items in
    let low : length start ≤ i = first_of (search rules, omega (arith, c.loop-occurrence-test.false)) in
    let many = ap (λ (l : List Occurrence). length l) c.loop-occurrence.invariant ∙ (raised_length c.args.by i start ∙ ap (λ (l : List Occurrence). length l) c.deref_mut-occurrence-items.ensures.value) in
    let all : length items ≡ c.args.profile.now.symbols.len = omega (arith, many, c.args.profile.now.symbols.ok.0) in
    above_all c.args.by c.args.profile.now _ start i refl (search rules) c.deref_mut-occurrence-items.ensures.value (with_items_is c.args.profile.now.symbols items all ∙ c.loop-occurrence.invariant) low
