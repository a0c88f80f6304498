-- What is known of the cars after one event more.
use Rattle.std.proofs.Common.{◌≡◌, ℕ, suc, ◌+◌, ◌-◌, ◌^◌, ◌<◌, ◌≤◌, Bool, cond, List, [], ◌∷◌, ◌++◌, length, get_or, Option, None, Some, ◌⊎◌, inl, inr, refl}
use Rattle.std.proofs.{Common.sym, Common.◌∙◌, Common.ap, Common.subst, Common.length-append, Common.arith, Math.ListN.get_or-append}
use Rattle.std.proofs.{Math.Seq.get_or-append_seam, lemmas.Bool.cases_eq, lemmas.Bool.eq-eqb, lemmas.Bool.ne_eqb, lemmas.List.Sums.sum_by-cons}
use Rattle.std.specs.{List.cons_option, Option.option_map_or, Prelude.nat_eq, Prelude.sum, Prelude.sum_by, Prelude.slice_index_or, Prelude.IfSome}
use Rattle.events.specs.declared.event.Event.{Event}
use Rattle.travel_times.specs.{declared.tallies.Tally.Tally, declared.observations.Entry.Entry, Observed.car_of, Observed.observed_from, Observed.observed}
use Rattle.travel_times.specs.Tallies.{with_stay, tally_at, HasRows, entry_of, ended_stay, EndsStay, entry_after, IsKnown, IsPiece}
use Rattle.travel_times.proofs.Stays.{entry_other, entry_own, tells_same, tells_none, weight, total, total_car, observed_other, entered_by, entry_tells}

-- before the first event nothing is known
pub known_none : (links : ℕ) (rows : List (List Tally)) (entries : List (Option Entry)) → rows ≡ [] → entries ≡ [] →
    IsKnown links [] rows entries
unfolding entry_after observed
known_none links rows entries no_rows no_entries =
    let P : List (List Tally) → Type 0 = λ rs. IsKnown links [] rs entries in
    let Q : List (Option Entry) → Type 0 = λ es. IsKnown links [] [] es in
    subst P (sym no_rows) (subst Q (sym no_entries) (record {
      rows_kept = record { each = λ bin. inl refl; few = omega arith; small = λ link bin. omega arith };
      cars = λ link bin. refl;
      seconds = λ link bin. refl;
      entered = λ car. refl;
    }))

-- nor does an event of no car tell anything
pub known_other : (links : ℕ) (taken : List Event) (x : Event) (rows : List (List Tally)) (entries : List (Option Entry))
    → car_of x.vehicle ≡ None → IsKnown links taken rows entries → IsKnown links (taken ++ x ∷ []) rows entries
known_other links taken x rows entries told known = record {
  rows_kept = known.rows_kept;
  cars = λ link bin. known.cars link bin ∙ ap (λ (xs : List ℕ). length xs) (sym (observed_other link bin taken x told));
  seconds = λ link bin. known.seconds link bin ∙ ap (λ (xs : List ℕ). sum xs) (sym (observed_other link bin taken x told));
  entered = λ car. known.entered car ∙ sym (entry_other car taken x (tells_none car x told));
}

count_is : (xs : List ℕ) → sum_by (λ (_ : ℕ). 1) xs ≡ length xs
count_is [] = refl
count_is (x ∷ xs) = let rest = count_is xs in let first = sum_by-cons (λ (_ : ℕ). 1) x xs in omega arith

-- what the stay that ends adds to a tally
cars_more : (tally : Tally) (o : Option ℕ) → (option_map_or (λ seconds. with_stay tally seconds) o tally).cars
    ≡ tally.cars + weight (λ _. 1) o
cars_more tally None = omega arith
cars_more tally (Some seconds) = refl

seconds_more : (tally : Tally) (o : Option ℕ) → (option_map_or (λ seconds. with_stay tally seconds) o tally).seconds
    ≡ tally.seconds + weight (λ s. s) o
seconds_more tally None = omega arith
seconds_more tally (Some seconds) = refl

cars_seen : (link bin c : ℕ) (events : List Event) (x : Event) → car_of x.vehicle ≡ Some c
    → length (observed link bin (events ++ x ∷ [])) ≡ length (observed link bin events) + weight (λ _. 1)
    (ended_stay link bin (entry_after c events) x)
unfolding total
cars_seen link bin c events x told =
    let more = total_car (λ _. 1) link bin c events x told in
    let after = count_is (observed link bin (events ++ x ∷ [])) in
    let before = count_is (observed link bin events) in
    omega arith

seconds_seen : (link bin c : ℕ) (events : List Event) (x : Event) → car_of x.vehicle ≡ Some c
    → sum (observed link bin (events ++ x ∷ [])) ≡ sum (observed link bin events) + weight (λ s. s)
    (ended_stay link bin (entry_after c events) x)
unfolding total
seconds_seen link bin c events x told = total_car (λ s. s) link bin c events x told

-- an event of a car ends its stay, where it is on a link, and tells where it is now
pub known_car : (links c : ℕ) (taken : List Event) (x : Event) (rows new_rows : List (List Tally))
    (entries new_entries : List (Option Entry))
    (entry now : Option Entry) → car_of x.vehicle ≡ Some c → IsKnown links taken rows entries → HasRows links new_rows
    → entry ≡ entry_after c taken → EndsStay x entry rows new_rows → now ≡ entry_of x
    → ((other : ℕ) → slice_index_or new_entries other None ≡ cond (nat_eq other c) now (slice_index_or entries other None))
    → IsKnown links (taken ++ x ∷ []) new_rows new_entries
known_car links c taken x rows new_rows entries new_entries entry now told known kept on_link ends_entry tells set =
    let E : Option Entry → Type 0 = λ o. EndsStay x o rows new_rows in
    let ends : EndsStay x (entry_after c taken) rows new_rows = subst E on_link ends_entry in
    record {
      rows_kept = kept;
      cars = λ link bin.
          ap (λ (t : Tally). t.cars) (ends link bin) ∙ cars_more (tally_at rows link bin) (ended_stay link bin (entry_after c taken) x)
          ∙ ap (λ (n : ℕ). n + weight (λ _. 1) (ended_stay link bin (entry_after c taken) x)) (known.cars link bin)
          ∙ sym (cars_seen link bin c taken x told);
      seconds = λ link bin.
          ap (λ (t : Tally). t.seconds) (ends link bin)
          ∙ seconds_more (tally_at rows link bin) (ended_stay link bin (entry_after c taken) x)
          ∙ ap (λ (n : ℕ). n + weight (λ s. s) (ended_stay link bin (entry_after c taken) x)) (known.seconds link bin)
          ∙ sym (seconds_seen link bin c taken x told);
      entered = λ car. set car ∙ ap (λ (o : Option Entry). cond (nat_eq car c) o (slice_index_or entries car None)) tells
          ∙ placed car (cases_eq car c);
    }
  where
    placed : (car : ℕ) → (car ≡ c) ⊎ (car ≡ c → ⊥)
        → cond (nat_eq car c) (entry_of x) (slice_index_or entries car None) ≡ entry_after car (taken ++ x ∷ [])
    placed car (inl same) =
        ap (λ (b : Bool). cond b (entry_of x) (slice_index_or entries car None)) (eq-eqb car c same)
        ∙ sym (entry_own car taken x (tells_same car c x told ∙ eq-eqb c car (sym same)))
    placed car (inr apart) =
        ap (λ (b : Bool). cond b (entry_of x) (slice_index_or entries car None)) (ne_eqb car c apart) ∙ known.entered car
        ∙ sym (entry_other car taken x (tells_same car c x told ∙ ne_eqb c car (λ same. apart (sym same))))

-- a car that is on a link is on one of them, and entered it by now
pub on_a_link : (links car : ℕ) (taken : List Event) (x : Event) (entry : Option Entry) → IsPiece links taken (x ∷ [])
    → entry ≡ entry_after car taken → IfSome entry (λ e. (e.link < links) × (e.second ≤ x.key.second))
on_a_link links car taken x entry piece is = by_entry entry is
  where
    by_entry : (o : Option Entry) → o ≡ entry_after car taken → IfSome o (λ e. (e.link < links) × (e.second ≤ x.key.second))
    by_entry None same = tt
    by_entry (Some e) same =
        let found = entered_by car taken e (sym same) in
        let k : ℕ = found.0 in
        let before : k < length taken = found.1 in
        let long : length (taken ++ x ∷ []) ≡ length taken + 1 = length-append taken (x ∷ []) in
        let there : get_or (taken ++ x ∷ []) k x ≡ get_or taken k x = get_or-append taken (x ∷ []) x k before in
        let last : get_or (taken ++ x ∷ []) (length taken) x ≡ x = get_or-append_seam taken x [] x in
        let tells = entry_tells (get_or (taken ++ x ∷ []) k x) e (ap entry_of there ∙ found.2 x) in
        let in_order = piece.order k (length taken) x before (omega arith) in
        let now = ap (λ (y : Event). y.key.second) last in
        let entered = tells.1 in
        let P : Option ℕ → Type 0 = λ o. IfSome o (λ l. l < links) in
        let on : e.link < links = subst P tells.0 (piece.on_links k x (omega arith)) in
        (on, omega arith)

observed_few : (link bin : ℕ) (events : List Event) → length (observed link bin events) ≤ length events
unfolding observed
observed_few link bin [] = omega arith
observed_few link bin (y ∷ ys) = let rest = observed_few link bin ys in one_more (observed_from link bin y ys) (observed link bin ys)
    (length ys) rest
  where
    one_more : (o : Option ℕ) (xs : List ℕ) (n : ℕ) → length xs ≤ n → length (cons_option o xs) ≤ suc n
    one_more None xs n h = omega arith
    one_more (Some x) xs n h = omega arith

-- no tally has more cars than there were events
pub cars_few : (links : ℕ) (taken : List Event) (x : Event) (rows : List (List Tally)) (entries : List (Option Entry))
    → IsPiece links taken (x ∷ []) → IsKnown links taken rows entries → (link bin : ℕ)
    → (tally_at rows link bin).cars < 2 ^ 64 - 1
cars_few links taken x rows entries piece known link bin =
    let are = known.cars link bin in
    let few = observed_few link bin taken in
    let long = length-append taken (x ∷ []) in
    let fits = piece.few in
    omega arith
