-- Turns that are mine: their events, and lists and credits that they alone change.
use Rattle.traffic.proofs.Common.{◌≡◌, ℕ, List, ◌∙◌, ap, refl, sym, [], ◌∷◌, arith, true, ◌++◌, ◌+◌, Bool, inl, inr, false, eqb, cases_Bool, ne_eqb, true≢false}
use Rattle.traffic.proofs.Common.{nat_tests, filter-append, flat_map, map, filter, phase_code, Event, Phase, turns_of, turns_in, moves_of, keyed, after}
use Rattle.traffic.proofs.Common.{count_of, events_in, Turn, events_of, TurnMoves, event_at, Untouched, turn_of, below, told, at_after_all, World, at, Setup}
use Rattle.traffic.proofs.{Phases.phase_at_once, Sublists.at-run, Turns.moves_of-map, Turns.at_after_all-filter}
use Rattle.traffic.specs.declared.{moves.Occurrence.Occurrence, stage.Stage.Stage}

pub map_mine : (f g : ℕ → Turn) (mine : ℕ → Bool) → ((n : ℕ) → mine n ≡ true → f n ≡ g n) → (ns : List ℕ) → map f (filter mine ns) ≡ map g (filter mine ns)
map_mine f g mine h [] = refl
map_mine f g mine h (n ∷ ns) = elim (cases_Bool (mine n)) [ inl e ↦ simp e (let a = h n e in let b = map_mine f g mine h ns in cc) | inr e ↦ simp e (map_mine f g mine h ns) ]

pub not_mine : (own : ℕ → ℕ) (p n m : ℕ) → eqb (own m) p ≡ true → eqb (own n) p ≡ false → eqb m n ≡ false
not_mine own p n m e f = ne_eqb m n (λ q. true≢false (sym e ∙ ap (λ x. eqb (own x) p) q ∙ f))

pub eqb_turn : (a b : ℕ) → eqb a b ≡ false → eqb b a ≡ false
eqb_turn a b e = grind (arith, nat_tests)

filter_turns : (plan : TurnMoves) (W : World) (mine : ℕ → Bool) (ns : List ℕ) → filter (λ (u : Turn). mine u.number) (map (turn_of plan W) ns) ≡ map (turn_of plan W) (filter mine ns)
filter_turns plan W mine [] = refl
filter_turns plan W mine (n ∷ ns) = elim (cases_Bool (mine n)) [ inl e ↦ simp e (ap (λ us. turn_of plan W n ∷ us) (filter_turns plan W mine ns)) | inr e ↦ simp e (filter_turns plan W mine ns) ]

keyed_mine : (mine : ℕ → Bool) (t c n i : ℕ) (xs : List Occurrence) → mine n ≡ true → filter (λ (e : Event). mine e.key.number) (keyed t c n i xs) ≡ keyed t c n i xs
unfolding keyed
keyed_mine mine t c n i [] e = refl
keyed_mine mine t c n i (x ∷ xs) e = simp e (ap (λ ys. event_at t c n i x ∷ ys) (keyed_mine mine t c n (i + 1) xs e))

keyed_other : (mine : ℕ → Bool) (t c n i : ℕ) (xs : List Occurrence) → mine n ≡ false → filter (λ (e : Event). mine e.key.number) (keyed t c n i xs) ≡ []
unfolding keyed
keyed_other mine t c n i [] e = refl
keyed_other mine t c n i (x ∷ xs) e = simp e (keyed_other mine t c n (i + 1) xs e)

-- the events of the numbers that are mine are those of my turns
pub events_mine : (mine : ℕ → Bool) (t : ℕ) (ph : Phase) (us : List Turn) → filter (λ (e : Event). mine e.key.number) (events_in t ph us) ≡ events_in t ph (filter (λ (u : Turn). mine u.number) us)
events_mine mine t ph [] = refl
events_mine mine t ph (u ∷ us) =
    let f = λ (e : Event). mine e.key.number in
    let says = flat_map told u.moves in
    filter-append f (events_of t ph u) (events_in t ph us)
    ∙ elim (cases_Bool (mine u.number)) [
      | inl e ↦ simp e (ap (λ xs. xs ++ filter f (events_in t ph us)) (keyed_mine mine t (phase_code ph) u.number 0 says e) ∙ ap (λ ys. events_of t ph u ++ ys) (events_mine mine t ph us))
      | inr e ↦ simp e (ap (λ xs. xs ++ filter f (events_in t ph us)) (keyed_other mine t (phase_code ph) u.number 0 says e) ∙ events_mine mine t ph us)
    ]

-- so the events of a phase that are mine are those of my turns in the world at its start
pub phase_events_mine : (S : Setup) (t : ℕ) (ph : Phase) (mine : ℕ → Bool) (W : World) →
    filter (λ (e : Event). mine e.key.number) (events_in t ph (turns_in S t ph W)) ≡ events_in t ph (map (turn_of (turns_of S t ph) W) (filter mine (below (count_of S ph))))
phase_events_mine S t ph mine W =
    events_mine mine t ph (turns_in S t ph W)
    ∙ ap (λ us. events_in t ph (filter (λ (u : Turn). mine u.number) us)) (phase_at_once S t ph W)
    ∙ ap (events_in t ph) (filter_turns (turns_of S t ph) W mine (below (count_of S ph)))

-- the moves of a phase are those of all turns in the world at its start
pub phase_moves : (S : Setup) (t : ℕ) (ph : Phase) (W : World) → moves_of (turns_in S t ph W) ≡ flat_map (λ n. turns_of S t ph n W) (below (count_of S ph))
phase_moves S t ph W = ap moves_of (phase_at_once S t ph W) ∙ moves_of-map (turns_of S t ph) W (below (count_of S ph))

-- a list after a phase, by the moves of those who touch it
pub at-mine : (S : Setup) (t : ℕ) (ph : Phase) (mine : ℕ → Bool) (l : ℕ) (s : Stage) (W : World) → ((n : ℕ) → mine n ≡ false → Untouched l s (turns_of S t ph n W)) →
    at l s (after S t (turns_in S t ph W) W) ≡ at_after_all l s (flat_map (λ n. turns_of S t ph n W) (filter mine (below (count_of S ph)))) (at l s W)
at-mine S t ph mine l s W h =
    at-run S t l s (moves_of (turns_in S t ph W)) W
    ∙ ap (λ ms. at_after_all l s ms (at l s W)) (phase_moves S t ph W)
    ∙ at_after_all-filter (λ n. turns_of S t ph n W) mine l s h (below (count_of S ph)) (at l s W)
