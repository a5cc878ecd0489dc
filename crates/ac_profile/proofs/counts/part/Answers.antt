use Rattle.std.proofs.Common.{◌≡◌, ◌+◌, ◌∷◌, ◌++◌, [], List, max, sym, ◌∙◌, subst}
use Rattle.ac_conditions.specs.Weights.{after}
use Rattle.ac_profile.specs.declared.counts.Occurrence.{Occurrence}
use Rattle.ac_profile.specs.Profile.{sizes, depths}
use Rattle.ac_profile.proofs.Changing.{part_changed, part_kept, deep_changed, deep_kept}
use Rattle.ac_profile.proofs.counts.part.Goals as goal

pub loop-occurrence-preserved-in-Continue-1 : goal.loop-occurrence-preserved-in-Continue-1
loop-occurrence-preserved-in-Continue-1 c =
    let cs = c.args.changes.now in
    let left = c.pop.new.self.items in
    let kept = c.loop-occurrence.kept.items in
    let changed = c.loop-occurrence.changed.items in
    let o = c.in-Some.occurrence in
    let popped : c.loop-occurrence.symbols.items ≡ left ++ o ∷ [] = c.in-Some.ensures.items in
    let pushed : c.push.new.self.items ≡ changed ++ o ∷ [] = c.in_ok-push.ensures.items in
    record {
      size = λ u. subst (λ (l : List Occurrence). sizes (after ◌+◌ u cs) left + sizes u kept + sizes (after ◌+◌ u cs) l ≡ sizes (after ◌+◌ u cs) c.args.symbols.items) (sym pushed)
          (part_changed cs c.loop-occurrence.symbols.items left changed o u (sizes u kept) _ popped (c.loop-occurrence.invariant.size u));
      depth = λ u. subst (λ (l : List Occurrence). max (max (depths (after max u cs) left) (depths u kept)) (depths (after max u cs) l) ≡ depths (after max u cs) c.args.symbols.items) (sym pushed)
          (deep_changed cs c.loop-occurrence.symbols.items left changed o u (depths u kept) _ popped (c.loop-occurrence.invariant.depth u));
    }

pub loop-occurrence-preserved : goal.loop-occurrence-preserved
loop-occurrence-preserved c =
    let cs = c.args.changes.now in
    let left = c.pop.new.self.items in
    let kept = c.loop-occurrence.kept.items in
    let changed = c.loop-occurrence.changed.items in
    let o = c.in-Some.occurrence in
    let popped : c.loop-occurrence.symbols.items ≡ left ++ o ∷ [] = c.in-Some.ensures.items in
    let pushed : c.push-else-is_changed.new.self.items ≡ kept ++ o ∷ [] = c.in_ok-push-2.ensures.items in
    let stays = sym c.is_changed.ensures ∙ c.if-is_changed.false in
    record {
      size = λ u. subst (λ (l : List Occurrence). sizes (after ◌+◌ u cs) left + sizes u l + sizes (after ◌+◌ u cs) changed ≡ sizes (after ◌+◌ u cs) c.args.symbols.items) (sym pushed)
          (part_kept cs c.loop-occurrence.symbols.items left kept o u (sizes (after ◌+◌ u cs) changed) _ popped stays (c.loop-occurrence.invariant.size u));
      depth = λ u. subst (λ (l : List Occurrence). max (max (depths (after max u cs) left) (depths u l)) (depths (after max u cs) changed) ≡ depths (after max u cs) c.args.symbols.items) (sym pushed)
          (deep_kept cs c.loop-occurrence.symbols.items left kept o u (depths (after max u cs) changed) _ popped stays (c.loop-occurrence.invariant.depth u));
    }
