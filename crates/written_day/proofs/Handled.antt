-- The events of a day of a town can be handled.
use Rattle.std.proofs.Common.{◌≡◌, ℕ, zero, suc, ◌<◌, ◌≤◌, Bool, true, false, ◌&&◌, ◌||◌, List, [], ◌∷◌, length, map, get_or, arith, Option, None, Some, refl}
use Rattle.std.proofs.{Common.sym, Common.◌∙◌, Common.ap, Common.subst, lemmas.Bool.and_parts, lemmas.Bool.Decides.nat_tests, lemmas.List.length-map}
use Rattle.std.{proofs.lemmas.List.Elements.All-weaker, specs.Prelude.IfSome, specs.Prelude.nat_eq, specs.Prelude.nat_lt}
use Rattle.events.specs.{Keys.key_before, Lines.IsNamed, Lines.IsInBook, Lines.AreInBook}
use Rattle.events.specs.declared.event.{Book.Book, Event.Event, Key.Key}
use Rattle.rows.specs.PlanRows.{plan_rows}
use Rattle.scoring.specs.Taken.{first_kind_of}
use Rattle.day_scores.specs.Scores.{first_kind}
use Rattle.travel_times.specs.Observed.{AreInOrder, AreOnLinks}
use Rattle.traffic.{proofs.Order.day-ascends, specs.Day.day, specs.Frames.AreAfter, specs.Frames.Ascends}
use Rattle.town.specs.{Views.rows_of, Views.chosen_in, Views.setup, declared.day_input.DayInput.DayInput, declared.town.Town.Town}
use Rattle.law_in_range.{proofs.Dawn.day_in_book, specs.Setups.HaveFittingPlans}
use Rattle.law_matches_plans.proofs.ScoredTowns.{plans_scored}
use Rattle.event_handler.specs.{Handling.kinds_of, Handling.persons_of, Handling.links_in, Handling.CanHandle, declared.handling.EventHandler.EventHandler}

-- THE EVENTS OF A DAY
on_link : (book : Book) (count : ℕ) (o : Option ℕ) → length book.links ≡ count → IsNamed book.links o → IfSome o (λ l. l < count)
on_link book count None same named = tt
on_link book count (Some l) same named = omega arith

pub on_links : (book : Book) (count : ℕ) (events : List Event) → length book.links ≡ count → AreInBook events book → AreOnLinks count events
on_links book count events same named =
    All-weaker (λ event. IsInBook event book) (λ event. IfSome event.link (λ l. l < count))
    (λ event is. on_link book count event.link same is.link) events named

second_by : (x y : ℕ) (less rest : Bool) → nat_lt x y ≡ less → (less || (nat_eq x y && rest)) ≡ true → x ≤ y
second_by x y true rest is e = grind (arith, nat_tests)
second_by x y false rest is e = let same = (and_parts (nat_eq x y) rest e).0 in grind (arith, nat_tests)

second_before : (a b : Key) → key_before a b ≡ true → a.second ≤ b.second
unfolding key_before
second_before a b before =
    second_by a.second b.second (nat_lt a.second b.second)
    (nat_lt a.phase b.phase || (nat_eq a.phase b.phase && (nat_lt a.number b.number || (nat_eq a.number b.number && nat_lt a.index b.index))))
    refl before

is_before : (a b : Event) → key_before a.key b.key ≡ true → a.key.second ≤ b.key.second
is_before a b before = second_before a.key b.key before

after_at : (a : Event) (bs : List Event) (j : ℕ) (d : Event) → AreAfter a bs → j < length bs → a.key.second ≤ (get_or bs j d).key.second
after_at a [] j d after within = absurd (omega arith)
after_at a (b ∷ bs) zero d after within = is_before a b after.0
after_at a (b ∷ bs) (suc j) d after within = after_at a bs j d after.1 (omega arith)

pub in_order : (events : List Event) → Ascends events → AreInOrder events
in_order [] ascends i j d before within = absurd (omega arith)
in_order (a ∷ bs) ascends i zero d before within = absurd (omega arith)
in_order (a ∷ bs) ascends zero (suc j) d before within = after_at a bs j d ascends.0 (omega arith)
in_order (a ∷ bs) ascends (suc i) (suc j) d before within = in_order bs ascends.1 i j d (omega arith) (omega arith)

names_of : (town : Town) → length town.book.links ≡ length town.network.links
names_of town = ap (λ (names : List (List ℕ)). length names) town.named.links ∙ town.network.each_link

pub day_on_links : (d : DayInput) → HaveFittingPlans d → AreOnLinks (length d.town.now.network.links) (day (setup d))
day_on_links d given =
    on_links d.town.now.book (length d.town.now.network.links) (day (setup d)) (names_of d.town.now) (day_in_book d (day (setup d)) given refl)

pub can_handle : (d : DayInput) (handler : EventHandler) → HaveFittingPlans d → kinds_of handler ≡ map first_kind (chosen_in d)
    → links_in handler ≡ length d.town.now.network.links → CanHandle (persons_of handler) (links_in handler) (day (setup d))
can_handle d handler given kinds links =
    let count : persons_of handler ≡ length d.chosen.now =
    sym (length-map handler.scorers first_kind_of) ∙ ap (λ (l : List ℕ). length l) kinds ∙ length-map (chosen_in d) first_kind
    ∙ length-map d.chosen.now plan_rows in
    record {
      scored = λ i less. plans_scored (rows_of d.town.now) d.chosen.now d.iteration i d.town.now.sound given.fit (omega (arith, less, count));
      order = in_order (day (setup d)) (day-ascends (setup d));
      on_links = subst (λ (n : ℕ). AreOnLinks n (day (setup d))) (sym links) (day_on_links d given);
    }
