-- The travel times of a day.
use Rattle.std.proofs.Common.{◌≡◌, ℕ, ◌/◌, ◌<◌, ◌≤◌, max, Bool, true, false, cond, ◌&&◌, List, [], ◌∷◌, length, sum, Option, None, Some, inl, inr, refl, sym}
use Rattle.std.proofs.Common.{◌∙◌, ap, arith}
use Rattle.std.proofs.lemmas.{Bool.cases_lt, Bool.ne_eqb, List.get_or_past, List.Elements.recursion_from_All}
use Rattle.std.specs.{List.AllByRecursion as Each, Option.option_eq, Prelude.IfSome, Prelude.nat_eq}
use Rattle.traffic.proofs.Common.{fun_ext}
use Rattle.events.specs.declared.event.Event.{Event}
use Rattle.fixed_flow.specs.Link.{free_seconds}
use Rattle.rows.specs.declared.network.LinkRow.{LinkRow}
use Rattle.walks.specs.Arrivals.{IsFifo}
use Rattle.travel_times.specs.Times.{LinkProfile, time_in, arrival_by, profile_at, free_of, arrivals}
use Rattle.travel_times.specs.Observed.{AreOnLinks, is_entry, enters, observed, link_at, observed_time}
use Rattle.travel_times.proofs.Arriving.{arrival_in_order, arrival_later}
use Rattle.iterations.specs.Days.{seen_arrivals}

-- NOBODY OVERTAKES
some_free : (link : LinkRow) → 1 ≤ free_of link
unfolding free_seconds
some_free link = grind arith

some_average : (free cars seconds : ℕ) (none : Bool) → nat_eq cars 0 ≡ none → 1 ≤ free → 1 ≤ cond none free (max 1 (seconds / cars))
some_average free cars seconds true is some = some
some_average free cars seconds false is some = grind arith

some_time : (links : List LinkRow) (events : List Event) (link bin : ℕ) → 1 ≤ observed_time links events link bin
some_time links events link bin =
    some_average (free_of (link_at links link)) (length (observed link bin events)) (sum (observed link bin events))
    (nat_eq (length (observed link bin events)) 0) refl (some_free (link_at links link))

pub seen_fifo : (links : List LinkRow) (events : List Event) → IsFifo (seen_arrivals links events)
seen_fifo links events = record {
  later = λ link second. arrival_later (observed_time links events link) second (some_time links events link);
  in_order = λ link earlier second before. arrival_in_order (observed_time links events link) earlier second before;
}

-- WHAT WAS SEEN IS WHAT IS KEPT
not_there : (link count : ℕ) (on : Option ℕ) → IfSome on (λ l. l < count) → count ≤ link → option_eq nat_eq on (Some link) ≡ false
not_there link count None on past = refl
not_there link count (Some l) on past = ne_eqb l link (λ same. omega arith)

and_false : (a b : Bool) → b ≡ false → (a && b) ≡ false
and_false true b e = e
and_false false b e = refl

-- nobody enters a link that is not there
none_observed : (link bin count : ℕ) (events : List Event) → Each (λ event. IfSome event.link (λ l. l < count)) events → count ≤ link
    → observed link bin events ≡ []
unfolding observed
none_observed link bin count [] on past = refl
none_observed link bin count (event ∷ later) on past =
    let none : enters link event ≡ false =
    and_false (is_entry event.word) (option_eq nat_eq event.link (Some link)) (not_there link count event.link on.0 past) in
    rw none (none_observed link bin count later on.1 past)

past_links : (links : List LinkRow) (link : ℕ) → length links ≤ link → free_of (link_at links link) ≡ 1
unfolding free_seconds
past_links links link past = rw (get_or_past links link (record { from = 0; to = 0; length = 1; speed = 1; capacity = 1; lanes = 1 }) past) refl

time_past : (links : List LinkRow) (events : List Event) (link bin : ℕ) → AreOnLinks (length links) events → length links ≤ link
    → observed_time links events link bin ≡ 1
time_past links events link bin on past =
    rw (none_observed link bin (length links) events (recursion_from_All (λ event. IfSome event.link (λ l. l < length links)) events on) past)
    (past_links links link past)

profile_past : (times : List LinkProfile) (link bin : ℕ) → length times ≤ link → time_in (profile_at times link) bin ≡ 1
profile_past times link bin past = rw (get_or_past times link (record { free = 1; times = [] }) past) refl

arrival_at : (links : List LinkRow) (events : List Event) (times : List LinkProfile) → length times ≡ length links → AreOnLinks (length links) events
    → ((link second : ℕ) → link < length links → arrivals times link second ≡ arrival_by (observed_time links events link) second)
    → (link second : ℕ) → arrivals times link second ≡ seen_arrivals links events link second
arrival_at links events times count on there link second = elim (cases_lt link (length links)) [
  | inl less ↦ there link second less
  | inr past ↦
      let same : time_in (profile_at times link) ≡ observed_time links events link =
      fun_ext (λ bin. profile_past times link bin (omega arith) ∙ sym (time_past links events link bin on past)) in
      ap (λ (time : ℕ → ℕ). arrival_by time second) same
]

pub arrivals_seen : (links : List LinkRow) (events : List Event) (times : List LinkProfile) → length times ≡ length links
    → AreOnLinks (length links) events
    → ((link second : ℕ) → link < length links → arrivals times link second ≡ arrival_by (observed_time links events link) second)
    → arrivals times ≡ seen_arrivals links events
arrivals_seen links events times count on there = fun_ext (λ link. fun_ext (λ second. arrival_at links events times count on there link second))
