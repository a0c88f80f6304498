-- The parcels of a second go to the neighbours of a partition.
use Rattle.std.proofs.Common.{◌≡◌, ℕ, ◌<◌, List, ◌∙◌, ap, sym, subst, length, true≢false}
use Rattle.std.proofs.lemmas.Bool.{ne_eqb}
use Rattle.traffic.specs.Setup.{Setup}
use Rattle.town.specs.{Views.setup, declared.day_input.DayInput.DayInput}
use Rattle.law_in_range.specs.Setups.{HaveFittingPlans}
use Rattle.parts.specs.{Owners.Owner as Owning, Owners.near, Parts.out}
use Rattle.partition.specs.{Owned.owner_in, declared.owner.Owner.Owner}
use Rattle.step_core.specs.{Nets.border_at, Views.HasSent, declared.part.Border.Border}
use Rattle.divided_day.{proofs.Whole.net_sound, proofs.Whole.borders_sound, specs.Days.borders_in}
use Rattle.part_seconds.specs.{Contents.parcel_of, Leaving.AreOthers, Parcels.nothing, Sending.parcel_at, declared.contents.Contents.Contents}
use Rattle.parted_day.specs.Absorbed.{IsRight}

-- the neighbours of a partition are other ones, ascending
pub are_others : (day : DayInput) (owner : Owner) → HaveFittingPlans day → (p : ℕ) (borders : List Border)
    → borders ≡ borders_in day owner p → AreOthers p borders
are_others day owner given p borders e =
    let S = setup day in
    let own = owner_in owner.of_node in
    let net = net_sound day owner given in
    let found = borders_sound day owner given p in
    subst (λ (bs : List Border). AreOthers p bs) (sym e) (record {
      each = λ k lt. ne_eqb (border_at (borders_in day owner p) k).neighbour p (λ same.
          true≢false (sym (found.each k lt) ∙ ap (λ (q : ℕ). near S own q p) same ∙ net.others p));
      ascend = found.ascend;
    })

-- the parcels for these neighbours are those for the same
pub has_sent : (S : Setup) (own : Owning) (p t : ℕ) (borders rows : List Border) (parcels : List Contents) → borders ≡ rows
    → ((k : ℕ) → k < length borders → parcel_of S t (parcel_at parcels k) ≡ out S own p (border_at borders k).neighbour t)
    → HasSent nothing (IsRight S own) p t rows parcels
has_sent S own p t borders rows parcels e right =
    subst (λ (bs : List Border). HasSent nothing (IsRight S own) p t bs parcels) e right

-- so of lists of parcels that are the same
pub sent_as : (S : Setup) (own : Owning) (p t : ℕ) (borders : List Border) (parcels slice : List Contents) → slice ≡ parcels
    → HasSent nothing (IsRight S own) p t borders parcels → HasSent nothing (IsRight S own) p t borders slice
sent_as S own p t borders parcels slice e h =
    subst (λ (xs : List Contents). HasSent nothing (IsRight S own) p t borders xs) (sym e) h
