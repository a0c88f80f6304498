-- What belongs to a partition of seconds that follow one another.
use Rattle.std.proofs.Common.{◌≡◌, ℕ, zero, suc, ◌+◌, [], ◌∷◌, ◌++◌, arith, refl, ◌∙◌, ap}
use Rattle.std.{proofs.lemmas.List.Elements.filter-append, specs.Prelude.filter, specs.Prelude.◌==◌}
use Rattle.events.specs.declared.event.Event.{Event}
use Rattle.town.specs.{Views.setup, declared.day_input.DayInput.DayInput}
use Rattle.traffic.specs.{Day.second_events, Day.world_at, Lists.numbers}
use Rattle.parts.specs.Owners.{owner_of_event}
use Rattle.partition.specs.{Owned.owner_in, declared.owner.Owner.Owner}
use Rattle.divided_day.specs.Days.{told_at}
use Rattle.streamed_day.{proofs.Coming.one_more, specs.Coming.seconds_from}
use Rattle.collected_day.specs.Spans.{told_from}

pub none_told : (day : DayInput) (owner : Owner) (p begin : ℕ) → told_from day owner p begin 0 ≡ []
unfolding seconds_from
none_told day owner p begin = refl

pub told_more : (day : DayInput) (owner : Owner) (p begin n : ℕ)
    → told_from day owner p begin (n + 1) ≡ told_from day owner p begin n ++ told_at day owner p (begin + n)
told_more day owner p begin n =
    let S = setup day in
    let is_own = λ (e : Event). owner_of_event S (owner_in owner.of_node) e == p in
    ap (filter is_own) (one_more S begin n)
    ∙ filter-append is_own (seconds_from S begin n) (second_events S (begin + n) (world_at S (begin + n)))

pub numbers_more : (k n : ℕ) → numbers k (n + 1) ≡ numbers k n ++ (k + n) ∷ []
numbers_more k zero = let e : k ≡ k + 0 = omega arith in ap (λ j. j ∷ []) e
numbers_more k (suc n) =
    let e : suc n + 1 ≡ suc (n + 1) = omega arith in
    let f : (k + 1) + n ≡ k + suc n = omega arith in
    ap (numbers k) e ∙ ap (λ ns. k ∷ ns) (numbers_more (k + 1) n ∙ ap (λ j. numbers (k + 1) n ++ j ∷ []) f)
