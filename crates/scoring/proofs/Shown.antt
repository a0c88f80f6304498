-- What one more event shows.
use Rattle.std.proofs.Common.{◌≡◌, ℕ, cond, List, [], ◌∷◌, ◌++◌, map, filter, ap, ◌∙◌, subst, append-nil}
use Rattle.std.{proofs.lemmas.List.map-append, proofs.lemmas.List.Elements.filter_map-append, proofs.lemmas.List.Elements.filter-append, specs.List.cons_option}
use Rattle.events.specs.{Persons.is_step, declared.event.Event.Event, declared.event.More.More, declared.event.Word.Word}
use Rattle.scoring.specs.Score.{Activity, Leg, started, departed, act_ended, leg_ended, got_stuck, starts, departures, act_ends, leg_ends, stuck_in}
use Rattle.scoring.specs.{Tables.ScoringRows, Taken.Keeps, Turns.steps, declared.scorer.Scorer.Scorer}

-- what events show
pub record Show (es : List Event) (a : List Activity) (d : List Leg) (n m k : List ℕ) (w : List Word) : Type 0 where
  pub starts : starts es ≡ a
  pub departures : departures es ≡ d
  pub act_ends : act_ends es ≡ n
  pub leg_ends : leg_ends es ≡ m
  pub stuck : stuck_in es ≡ k
  pub steps : steps es ≡ w

-- what they show with one more event of a word
abbrev pub Adds : List Event → Event → Word → More → Type 0
Adds es e w m =
    Show (es ++ e ∷ []) (starts es ++ cons_option (started w m e.key.second) []) (departures es ++ cons_option (departed w m e.key.second) [])
    (act_ends es ++ cons_option (act_ended w e.key.second) []) (leg_ends es ++ cons_option (leg_ended w e.key.second) [])
    (stuck_in es ++ cons_option (got_stuck w e.key.second) []) (steps es ++ cond (is_step w) (w ∷ []) [])

-- what an event adds to what events show
pub added : (es : List Event) (e : Event) → Adds es e e.word e.more
unfolding starts departures act_ends leg_ends stuck_in
added es e = record {
  starts = filter_map-append _ es (e ∷ []);
  departures = filter_map-append _ es (e ∷ []);
  act_ends = filter_map-append _ es (e ∷ []);
  leg_ends = filter_map-append _ es (e ∷ []);
  stuck = filter_map-append _ es (e ∷ []);
  steps = ap (filter is_step) (map-append (λ (x : Event). x.word) es (e ∷ [])) ∙ filter-append is_step (map (λ (x : Event). x.word) es) (e.word ∷ []);
}

pub adds : (es : List Event) (e : Event) (w : Word) (m : More) → e.word ≡ w → e.more ≡ m → Adds es e w m
adds es e w m is tells = subst (λ (v : Word). Adds es e v m) is (subst (Adds es e e.word) tells (added es e))

-- with nothing at the end of a list it is the same list
pub kept : {A : Type 0} (xs ys : List A) → xs ≡ ys ++ [] → xs ≡ ys
kept xs ys e = e ∙ append-nil ys

-- what is kept of what events show is kept of the events
pub keeps-shown : (T : ScoringRows) (s : Scorer) (es : List Event) (a : List Activity) (d : List Leg) (n m k : List ℕ) (w : List Word)
    → Show es a d n m k w → Keeps T s a d n m k → Keeps T s (starts es) (departures es) (act_ends es) (leg_ends es) (stuck_in es)
keeps-shown T s es a d n m k w H K = rw (H.starts, H.departures, H.act_ends, H.leg_ends, H.stuck) K
