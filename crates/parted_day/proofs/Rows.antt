-- Rows of links whose queues vehicles left are told by what they say.
use Rattle.traffic.proofs.Common.{◌≡◌, List, [], ◌∷◌, ◌∙◌, ap, refl, sym, map}
use Rattle.parts.specs.Parts.{Freed}
use Rattle.part_seconds.specs.{Contents.freed_row, declared.contents.FreedPlaces.FreedPlaces}

abbrev row_of : Freed → FreedPlaces
row_of f = record { link = f.link; count = f.rows }

rows_again : (fs : List FreedPlaces) → map row_of (map freed_row fs) ≡ fs
rows_again [] = refl
rows_again (f ∷ fs) = ap (λ (gs : List FreedPlaces). f ∷ gs) (rows_again fs)

pub same_freed : (fs gs : List FreedPlaces) → map freed_row fs ≡ map freed_row gs → fs ≡ gs
same_freed fs gs e = sym (rows_again fs) ∙ ap (map row_of) e ∙ rows_again gs
