-- A partition of the day of a town between its seconds.
use Rattle.std.proofs.Common.{◌≡◌, ℕ, List, [], ◌∙◌, ap, refl, sym, subst, arith, length, replicate, inl, inr}
use Rattle.std.proofs.lemmas.{Bool.cases_lt, List.length-replicate, List.get_or_past, List.get_or-replicate}
use Rattle.parts.specs.Owners.{Owner as Owning}
use Rattle.traffic.specs.Setup.{Setup}
use Rattle.step_core.specs.Views.{in_place, AreEmpty, Stays}
use Rattle.part_seconds.specs.{Parcels.nothing, Parcels.HasNothing, declared.contents.Contents.Contents}
use Rattle.parted_day.specs.{Parts.IsPartOf, Strays.AreStrays, Strays.strays_before, declared.part.TownPart.TownPart}

-- one that differs in nothing but what lies in its places
pub stays : (old new : TownPart) → new ≡ record old { inbox = new.inbox; outbox = new.outbox } → Stays IsPartOf old new
stays old new e = λ run h.
    subst (λ (x : TownPart). IsPartOf run x) (sym e) (record {
      there = h.there;
      stands = h.stands;
      quiet = h.quiet;
      events = h.events;
      silent = h.silent;
      stray = h.stray;
      whole = h.whole;
    })

-- before the first second nobody strays
pub none_stray : (S : Setup) (own : Owning) (parts p : ℕ) → AreStrays S own parts p 0 []
unfolding strays_before
none_stray S own parts p = refl

-- PLACES
-- a new mailbox is empty
pub new_empty : (n m : ℕ) (places : List Contents) → places ≡ replicate n nothing → n ≡ m → AreEmpty nothing m places
new_empty n m places e same = record {
  many = ap (λ (xs : List Contents). length xs) e ∙ length-replicate n nothing ∙ same;
  none = λ k lt. ap (λ (xs : List Contents). in_place nothing xs k) e ∙ get_or-replicate n k nothing nothing (omega arith);
}

-- nothing is in the parcels of an empty one
pub empty_has_nothing : (n : ℕ) (places : List Contents) → AreEmpty nothing n places → HasNothing places
empty_has_nothing n places h k =
    let many = h.many in
    elim (cases_lt k n) [
      | inl lt ↦ h.none k lt
      | inr ge ↦ get_or_past places k nothing (omega arith)
    ]

-- so many places are as many as there are neighbours
pub empty_as : (n m : ℕ) (places : List Contents) → n ≡ m → AreEmpty nothing n places → AreEmpty nothing m places
empty_as n m places e h = subst (λ (k : ℕ). AreEmpty nothing k places) e h
