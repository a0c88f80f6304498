-- Links to which no vehicle of a parcel comes.
use Rattle.traffic.proofs.Common.{◌≡◌, ℕ, false, List, [], ◌∷◌, ◌∙◌, ap, refl, inl, inr, cases_Bool, eqb, eqb-true, eqb-false, or_parts, get_or, map, filter}
use Rattle.traffic.specs.declared.world.Row.{Row}
use Rattle.parts.specs.Parts.{Passed}
use Rattle.node_seconds.specs.Networks.{is_among}
use Rattle.part_seconds.specs.Arriving.{entered}
use Rattle.parted_day.specs.Absorbed.{entered_slots}

-- nobody comes to the link of a slot that is not among those of the links that are entered
pub none_to : (slots : List ℕ) (l k : ℕ) (ys : List Passed) → get_or slots l 0 ≡ k
    → is_among k (entered_slots slots (map entered ys)) ≡ false
    → filter (λ (r : Row). eqb r.link l) (map (λ (y : Passed). y.row) ys) ≡ []
none_to slots l k [] at off = refl
none_to slots l k (y ∷ ys) at off =
    let j = get_or slots y.row.link 0 in
    let parts = or_parts (eqb j k) (is_among k (entered_slots slots (map entered ys))) off in
    elim (cases_Bool (eqb y.row.link l)) [
      | inl e ↦
          let same : j ≡ k = ap (λ (n : ℕ). get_or slots n 0) (eqb-true y.row.link l e) ∙ at in
          absurd (eqb-false j k parts.0 same)
      | inr e ↦ rw e (none_to slots l k ys at parts.1)
    ]
