use Rattle.std.proofs.Common.{◌≡◌, ◌∷◌, ◌++◌, List, Some, length, slice_get, get_or, set, ap, sym, ◌∙◌, rules, refl}
use Rattle.std.proofs.lemmas.Int.{to_z-of_z}
use Rattle.std.proofs.lemmas.Option.{get_or_from_slice_get}
use Rattle.ac_profile.specs.declared.counts.Occurrence.{Occurrence}
use Rattle.ac_profile.proofs.Merged.{symbol_merged, symbol_added}
use Rattle.ac_profile.proofs.counts.add_symbol.Goals as goal

pub returns-in-Some : goal.returns-in-Some
returns-in-Some c =
    let here = c.in-Some.ensures in
    let held = c.index_mut-occurrence.result.now in
    let there : slice_get c.args.profile.now.symbols.items c.in-Some.at ≡ Some here.occurrence = sym (ap (λ (l : List Occurrence). slice_get l c.in-Some.at) c.as_slice.ensures.value) ∙ here.there in
    let read : held ≡ get_or c.args.profile.now.symbols.items c.in-Some.at held = c.index_mut-occurrence.ensures.value in
    let same : held ≡ here.occurrence = read ∙ get_or_from_slice_get c.args.profile.now.symbols.items c.in-Some.at here.occurrence held there in
    symbol_merged c.args.profile.now _ c.args.place c.args.symbol.now c.args.is_array refl refl c.in-Some.at here.occurrence c.merge.new.occurrence there here.symbol here.kind
    (c.merge.ensures.symbol ∙ ap (λ (o : Occurrence). o.symbol) same) (c.merge.ensures.kind ∙ ap (λ (o : Occurrence). o.is_array) same)
    (c.merge.ensures.count ∙ rw same refl) (c.merge.ensures.above ∙ rw same refl) (first_of (search rules, search (rules, to_z-of_z)))

pub returns-in_ok-push-in-None : goal.returns-in_ok-push-in-None
returns-in_ok-push-in-None c =
    symbol_added c.args.profile.now _ c.args.place c.args.symbol.now c.args.is_array refl refl _ c.in_ok-copy-in-None.ensures refl refl refl c.in_ok-push-in-None.ensures.items
