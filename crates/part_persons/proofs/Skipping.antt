-- Turns that move nothing may be left out.
use Rattle.traffic.proofs.Common.{◌≡◌, ℕ, Bool, false, List, ◌∙◌, ap, refl, sym, [], ◌∷◌, ◌++◌, inl, inr, cases_Bool, filter, map, flat_map, Event, Phase}
use Rattle.traffic.proofs.Common.{moves_of, after, events_in, turns, run, World, Setup, TurnMoves, Turn, Apart, turn_of, keyed, events_of}
use Rattle.traffic.{proofs.Turns.Fresh, proofs.Turns.Distinct, proofs.Turns.turns_at_once, proofs.Turns.moves_of-map, specs.declared.moves.Move.Move}
use Rattle.std.specs.List.{AllByRecursion as Each}

fresh_filter : (p : ℕ → Bool) (x : ℕ) (ns : List ℕ) → Fresh x ns → Fresh x (filter p ns)
fresh_filter p x [] h = tt
fresh_filter p x (n ∷ ns) h = elim (cases_Bool (p n)) [ inl e ↦ simp e (h.0, fresh_filter p x ns h.1) | inr e ↦ simp e (fresh_filter p x ns h.1) ]

pub distinct_filter : (p : ℕ → Bool) (ns : List ℕ) → Distinct ns → Distinct (filter p ns)
distinct_filter p [] h = tt
distinct_filter p (n ∷ ns) h =
    elim (cases_Bool (p n)) [ inl e ↦ simp e (fresh_filter p n ns h.0, distinct_filter p ns h.1) | inr e ↦ simp e (distinct_filter p ns h.1) ]

-- who is not awake has nothing to do
abbrev pub Idle : (ℕ → Bool) → (ℕ → List Move) → ℕ → Type 0
Idle awake f n = awake n ≡ false → f n ≡ []

idle_moves : (awake : ℕ → Bool) (f : ℕ → List Move) (ns : List ℕ) → Each (Idle awake f) ns → flat_map f ns ≡ flat_map f (filter awake ns)
idle_moves awake f [] h = refl
idle_moves awake f (n ∷ ns) h =
    elim (cases_Bool (awake n)) [
      | inl e ↦ simp e (ap (λ (xs : List Move). f n ++ xs) (idle_moves awake f ns h.1))
      | inr e ↦ simp e (ap (λ (xs : List Move). xs ++ flat_map f ns) (h.0 e) ∙ idle_moves awake f ns h.1)
    ]

nothing_told : (t : ℕ) (p : Phase) (u : Turn) → u.moves ≡ [] → events_of t p u ≡ []
unfolding keyed
nothing_told t p u e = rw e refl

idle_events : (t : ℕ) (p : Phase) (plan : TurnMoves) (W : World) (awake : ℕ → Bool) (ns : List ℕ) → Each (Idle awake (λ n. plan n W)) ns
    → events_in t p (map (turn_of plan W) ns) ≡ events_in t p (map (turn_of plan W) (filter awake ns))
idle_events t p plan W awake [] h = refl
idle_events t p plan W awake (n ∷ ns) h =
    elim (cases_Bool (awake n)) [
      | inl e ↦ simp e (ap (λ (xs : List Event). events_of t p (turn_of plan W n) ++ xs) (idle_events t p plan W awake ns h.1))
      | inr e ↦ simp e (ap (λ (xs : List Event). xs ++ events_in t p (map (turn_of plan W) ns)) (nothing_told t p (turn_of plan W n) (h.0 e)) ∙ idle_events t p plan W awake ns h.1)
    ]

pub skip_world : (S : Setup) (t : ℕ) (plan : TurnMoves) (awake : ℕ → Bool) (ns : List ℕ) (W : World) → Apart S t plan → Distinct ns
    → Each (Idle awake (λ n. plan n W)) ns → after S t (turns S t plan (filter awake ns) W) W ≡ after S t (turns S t plan ns W) W
skip_world S t plan awake ns W apart d h =
    ap (λ (ms : List Move). run S t ms W)
    (ap (λ us. moves_of us) (turns_at_once S t plan apart (filter awake ns) W (distinct_filter awake ns d)) ∙ moves_of-map plan W (filter awake ns)
    ∙ sym (idle_moves awake (λ n. plan n W) ns h) ∙ sym (moves_of-map plan W ns) ∙ sym (ap (λ us. moves_of us) (turns_at_once S t plan apart ns W d)))

pub skip_events : (S : Setup) (t : ℕ) (p : Phase) (plan : TurnMoves) (awake : ℕ → Bool) (ns : List ℕ) (W : World) → Apart S t plan → Distinct ns
    → Each (Idle awake (λ n. plan n W)) ns → events_in t p (turns S t plan (filter awake ns) W) ≡ events_in t p (turns S t plan ns W)
skip_events S t p plan awake ns W apart d h =
    ap (λ us. events_in t p us) (turns_at_once S t plan apart (filter awake ns) W (distinct_filter awake ns d))
    ∙ sym (idle_events t p plan W awake ns h) ∙ sym (ap (λ us. events_in t p us) (turns_at_once S t plan apart ns W d))
