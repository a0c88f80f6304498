-- What comes of fronts.
use Rattle.std.proofs.Common.{◌≡◌, ◌≢◌, ℕ, ◌+◌, ◌-◌, Bool, true, false, List, [], ◌∷◌, refl, sym, arith, inl, inr}
use Rattle.std.proofs.lemmas.Bool.{cases_Bool, Decides.nat_tests}
use Rattle.std.specs.Prelude.{◌&&◌, nat_lt, nat_le, if◌then◌else◌}
use Rattle.fixed_flow.specs.declared.TheConstants.{VEHICLE_COST}
use Rattle.traffic.specs.{Links.is_last, Stops.calls_on, declared.world.Row.Row}
use Rattle.queue_link.specs.Turns.{fate_by, fate_of, queue_fate}
use Rattle.queue_link.specs.declared.fates.Fate.{Fate, TheVariants.Stops, TheVariants.Arrives, TheVariants.Passes, TheVariants.Stays}
use Rattle.queue_link.specs.declared.numbers.LinkNumbers.{LinkNumbers}

-- why a fate is one
pub stops_by : (a b c : Bool) → fate_by a b c ≡ Stops → a ≡ true
stops_by true b c e = refl
stops_by false true c e = absurd (cc)
stops_by false false true e = absurd (cc)
stops_by false false false e = absurd (cc)

pub arrives_by : (a b c : Bool) → fate_by a b c ≡ Arrives → (a ≡ false) × (b ≡ true)
arrives_by true b c e = absurd (cc)
arrives_by false true c e = (refl, refl)
arrives_by false false true e = absurd (cc)
arrives_by false false false e = absurd (cc)

pub passes_by : (a b c : Bool) → fate_by a b c ≡ Passes → (a ≡ false) × (b ≡ false) × (c ≡ true)
passes_by true b c e = absurd (cc)
passes_by false true c e = absurd (cc)
passes_by false false true e = (refl, refl, refl)
passes_by false false false e = absurd (cc)

pub stays_by : (a b c : Bool) → fate_by a b c ≡ Stays → (a ≡ false) × (b ≡ false) × (c ≡ false)
stays_by true b c e = absurd (cc)
stays_by false true c e = absurd (cc)
stays_by false false true e = absurd (cc)
stays_by false false false e = (refl, refl, refl)

-- a front that goes is due
pub due_by : (b : Bool) (f g : Fate) → (if b then Stays else f) ≡ g → g ≢ Stays → (b ≡ false) × (f ≡ g)
due_by true f g e ne = absurd (ne (sym e))
due_by false f g e ne = (refl, e)

-- with one row more in the buffer, and the credit less what it paid, a front that stays still does
less_pays : (room b credit : ℕ) → (nat_lt b room && nat_le VEHICLE_COST credit) ≡ false
    → (nat_lt (b + 1) room && nat_le VEHICLE_COST (credit - VEHICLE_COST)) ≡ false
less_pays room b credit e = grind (arith, nat_tests)

pub still_by : (a b c d : Bool) → (c ≡ false → d ≡ false) → fate_by a b c ≡ Stays → fate_by a b d ≡ Stays
still_by a b c d f e = let h = stays_by a b c e in let g = f h.2 in rw (h.0, h.1, g) refl

pub still_stays : (n : LinkNumbers) (t b credit : ℕ) (rows : List Row) → queue_fate n t b credit rows ≡ Stays
    → queue_fate n t (b + 1) (credit - VEHICLE_COST) rows ≡ Stays
still_stays n t b credit [] e = refl
still_stays n t b credit (r ∷ rs) e =
    elim (cases_Bool (nat_lt t r.second)) [
      | inl q ↦ rw q refl
      | inr q ↦
          let f : fate_of n b credit r.vehicle ≡ Stays = rw q at e in
          rw q (still_by (calls_on n.link r.vehicle) (is_last r.vehicle) _ _ (less_pays n.room b credit) f)
    ]
