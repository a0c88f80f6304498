-- A second in three steps: the phases of persons and departures, that of the nodes, and that of the links.
use Rattle.traffic.proofs.Common.{◌≡◌, ℕ, List, [], ◌∷◌, ◌++◌, ◌∙◌, ap, refl, sym, append-nil, append_assoc, Event, Phase, Setup, World, second, through}
use Rattle.traffic.{proofs.Common.told_in, proofs.Common.turns_in, proofs.Common.after, proofs.Common.events_in, specs.Day.second_events}
use Rattle.events.specs.declared.event.Phase.TheVariants as phase
use Rattle.law_sleeping.specs.Marks.{before_nodes, before_links}

through_on : (S : Setup) (t : ℕ) (ps qs : List Phase) (W : World) → through S t (ps ++ qs) W ≡ through S t qs (through S t ps W)
unfolding through
through_on S t [] qs W = refl
through_on S t (p ∷ ps) qs W = through_on S t ps qs (after S t (turns_in S t p W) W)

told_on : (S : Setup) (t : ℕ) (ps qs : List Phase) (W : World) → told_in S t (ps ++ qs) W ≡ told_in S t ps W ++ told_in S t qs (through S t ps W)
unfolding through told_in
told_on S t [] qs W = refl
told_on S t (p ∷ ps) qs W =
    let next = after S t (turns_in S t p W) W in
    ap (λ (xs : List Event). events_in t p (turns_in S t p W) ++ xs) (told_on S t ps qs next)
    ∙ sym (append_assoc (events_in t p (turns_in S t p W)) (told_in S t ps next) (told_in S t qs (through S t ps next)))

one_through : (S : Setup) (t : ℕ) (p : Phase) (V : World) → through S t (p ∷ []) V ≡ after S t (turns_in S t p V) V
unfolding through
one_through S t p V = refl

one_told : (S : Setup) (t : ℕ) (p : Phase) (V : World) → told_in S t (p ∷ []) V ≡ events_in t p (turns_in S t p V)
unfolding told_in
one_told S t p V = append-nil (events_in t p (turns_in S t p V))

-- the world when the nodes have had their turns, and when the links have
pub nodes_are : (S : Setup) (t : ℕ) (W : World) → before_links S t W ≡ after S t (turns_in S t phase.C (before_nodes S t W)) (before_nodes S t W)
nodes_are S t W =
    through_on S t (phase.A ∷ phase.B1 ∷ phase.B2 ∷ []) (phase.C ∷ []) W ∙ one_through S t phase.C (before_nodes S t W)

pub links_are : (S : Setup) (t : ℕ) (W : World) → second S t W ≡ after S t (turns_in S t phase.D (before_links S t W)) (before_links S t W)
links_are S t W =
    through_on S t (phase.A ∷ phase.B1 ∷ phase.B2 ∷ phase.C ∷ []) (phase.D ∷ []) W ∙ one_through S t phase.D (before_links S t W)

-- what a second tells
pub told_are : (S : Setup) (t : ℕ) (W : World) (old first mid out : List Event) → first ≡ old ++ told_in S t (phase.A ∷ phase.B1 ∷ phase.B2 ∷ []) W
    → mid ≡ first ++ events_in t phase.C (turns_in S t phase.C (before_nodes S t W))
    → out ≡ mid ++ events_in t phase.D (turns_in S t phase.D (before_links S t W)) → out ≡ old ++ second_events S t W
told_are S t W old first mid out a b c =
    let es = told_in S t (phase.A ∷ phase.B1 ∷ phase.B2 ∷ []) W in
    let cs = events_in t phase.C (turns_in S t phase.C (before_nodes S t W)) in
    let ds = events_in t phase.D (turns_in S t phase.D (before_links S t W)) in
    let four : told_in S t (phase.A ∷ phase.B1 ∷ phase.B2 ∷ phase.C ∷ []) W ≡ es ++ cs
    = told_on S t (phase.A ∷ phase.B1 ∷ phase.B2 ∷ []) (phase.C ∷ []) W ∙ ap (λ (xs : List Event). es ++ xs) (one_told S t phase.C (before_nodes S t W)) in
    let all : second_events S t W ≡ (es ++ cs) ++ ds
    = told_on S t (phase.A ∷ phase.B1 ∷ phase.B2 ∷ phase.C ∷ []) (phase.D ∷ []) W
    ∙ ap (λ (xs : List Event). told_in S t (phase.A ∷ phase.B1 ∷ phase.B2 ∷ phase.C ∷ []) W ++ xs) (one_told S t phase.D (before_links S t W))
    ∙ ap (λ (xs : List Event). xs ++ ds) four in
    c ∙ ap (λ (xs : List Event). xs ++ ds) (b ∙ ap (λ (xs : List Event). xs ++ cs) a ∙ append_assoc old es cs)
    ∙ append_assoc old (es ++ cs) ds ∙ ap (λ (xs : List Event). old ++ xs) (sym all)
