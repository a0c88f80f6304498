-- What the calls of the two ends come to.
use Rattle.std.proofs.Common.{◌≡◌, ℕ, ◌+◌, ◌<◌, ◌≤◌, List, [], ◌∷◌, ◌++◌, length, get_or, set, sym, ap, subst, ◌∙◌, arith, length-append}
use mathlib.Core.List.{IsPrefix}
use Rattle.rtrb.specs.Ring.{received, known_items, known_free, producer_capacity, ProducerLooked, ConsumerLooked}
use Rattle.rtrb.specs.declared.{consumer.Consumer.Consumer, producer.Producer.Producer}
use Rattle.rtrb.specs.Ring as ring
use Rattle.event_pipe.specs.Rings.{popped, waiting, next_pieces, AreLooked, AllWait, IsTaken, AreTaken}
use Rattle.event_pipe.proofs.Rings.{prefix_on, at_place, next_at}

-- what is free, where all is known
pub free_count : (n sent₁ sent₂ room₁ room₂ popped₁ popped₂ waits free₁ free₂ : ℕ)
    → n + sent₁ ≡ room₁ + popped₁ → n ≡ free₁ → sent₂ ≡ sent₁ → popped₂ ≡ popped₁
    → room₂ ≡ room₁ → free₁ ≤ free₂ → popped₂ + waits ≡ sent₂ → room₂ ≤ free₂ + waits
free_count n s s' m m' p p' w f f' a b c d e g h = omega (arith, a, b, c, d, e, g, h)

module _ {T A P : Type 0} where
  pub meets_free : (p q : Producer T A P) (c d : Consumer T A P) (n : ℕ)
      → n + length (ring.sent p) ≡ producer_capacity p + length (received c) → n ≡ known_free p
      → ProducerLooked p q → ConsumerLooked c d → received d ++ known_items d ≡ ring.sent q
      → producer_capacity q ≤ known_free q + length (known_items d)
  meets_free p q c d n all value sender own fifo =
      free_count n (length (ring.sent p)) (length (ring.sent q)) (producer_capacity p) (producer_capacity q) (length (received c))
      (length (received d))
      (length (known_items d)) (known_free p) (known_free q) all value (ap length sender.1) (ap length own.1) sender.0.1 sender.2
      (sym (length-append (received d) (known_items d)) ∙ ap length fifo)

  -- two looks are one
  pub looked_on : (a b c : Consumer T A P) → ConsumerLooked a b → ConsumerLooked b c → ConsumerLooked a c
  looked_on a b c h g = (
    ((g.0.0.0 ∙ h.0.0.0, g.0.0.1 ∙ h.0.0.1, g.0.0.2 ∙ h.0.0.2, g.0.0.3 ∙ h.0.0.3), g.0.1 ∙ h.0.1),
    g.1 ∙ h.1,
    prefix_on (known_items a) (known_items b) (known_items c) h.2 g.2,
  )

  pub producer_looked_on : (a b c : Producer T A P) → ProducerLooked a b → ProducerLooked b c → ProducerLooked a c
  producer_looked_on a b c h g = (
    ((g.0.0.0 ∙ h.0.0.0, g.0.0.1 ∙ h.0.0.1, g.0.0.2 ∙ h.0.0.2, g.0.0.3 ∙ h.0.0.3), g.0.1 ∙ h.0.1),
    g.1 ∙ h.1,
    let x = h.2 in let y = g.2 in omega (arith, x, y),
  )

  -- the ring that was met
  pub met_at : (rings : List (Consumer T A P)) (i : ℕ) (after : Consumer T A P) (sent : List T) → i < length rings
      → received after ++ known_items after ≡ sent
      → popped (set rings i after) i ++ waiting (set rings i after) i ≡ sent
  met_at rings i after sent b e =
      ap (λ l. l ++ waiting (set rings i after) i) (at_place received rings i after [] b)
      ∙ ap (λ l. received after ++ l) (at_place known_items rings i after [] b) ∙ e

  pub held_at : (rings : List (Consumer T A P)) (i : ℕ) (after : Consumer T A P) → i < length rings
      → waiting (set rings i after) i ≡ known_items after
  held_at rings i after b = at_place known_items rings i after [] b

  -- one piece of each partition was gathered: by the rings that were looked at, and those out of which the next were taken
  pub taken_each : (allows : List T → T → Type 0) (before rings after : List (Consumer T A P)) → AreLooked before rings → AllWait rings
      → AreTaken allows (length rings) rings after
      → (p : ℕ) (d : T) → p < length before
      → (popped after p ≡ popped before p ++ get_or (next_pieces rings) p d ∷ [])
      × IsPrefix (waiting before p) (get_or (next_pieces rings) p d ∷ waiting after p)
      × allows (popped before p) (get_or (next_pieces rings) p d)
  taken_each allows before rings after looked wait taken p d b =
      let c : p < length rings = let n = looked.count in omega (arith, n, b) in
      let t : IsTaken allows rings after p = taken.taken p c in
      let x : t.0 ≡ get_or (next_pieces rings) p d = sym (next_at rings wait p d t.0 (waiting after p) c t.2) in (
        t.1 ∙ ap (λ l. l ++ t.0 ∷ []) (looked.same p) ∙ ap (λ y. popped before p ++ y ∷ []) x,
        subst (λ l. IsPrefix (waiting before p) l) (t.2 ∙ ap (λ y. y ∷ waiting after p) x) (looked.more p),
        subst (λ y. allows (popped before p) y) x (subst (λ l. allows l t.0) (looked.same p) t.3),
      )
