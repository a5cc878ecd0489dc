-- Metavariables as code lists them. No promise rests on this file.
use Rattle.std.specs.Prelude.{List, [], ◌∷◌, ◌++◌, Bool, false, map, ◌||◌, bytes_eq, if◌then◌else◌}
use denote.Ref.{Bor}
use Rattle.ac_tree.specs.Names.{NameBytes}

abbrev pub texts_of : List (Bor NameBytes) → List NameBytes
texts_of metas = map (λ m. m.now) metas

abbrev pub has_text : List NameBytes → NameBytes → Bool
has_text [] x = false
has_text (y ∷ ys) x = bytes_eq y x || has_text ys x

abbrev pub with_text : List NameBytes → NameBytes → List NameBytes
with_text ys x = if has_text ys x then ys else ys ++ x ∷ []
