-- Rings, one for each partition, by their ends that pop.
use Rattle.std.specs.Prelude.{◌≡◌, ℕ, ◌<◌, ◌≤◌, List, [], ◌∷◌, ◌++◌, length, map, get_or, take}
use Rattle.std.specs.List.{flat_map}
use mathlib.Core.List.{IsPrefix}
use Rattle.rtrb.specs.{Ring.received, Ring.known_items, Ring.IsPair, declared.consumer.Consumer.Consumer, declared.producer.Producer.Producer}

module _ {T A P : Type 0} where
  -- what was popped from the ring at place p
  abbrev pub popped : List (Consumer T A P) → ℕ → List T
  popped rings p = get_or (map received rings) p []

  -- what is known to lie in the ring at place p, the next first
  abbrev pub waiting : List (Consumer T A P) → ℕ → List T
  waiting rings p = get_or (map known_items rings) p []

  -- the next of each ring in which one is known to lie, ring by ring
  abbrev pub next_pieces : List (Consumer T A P) → List T
  next_pieces rings = flat_map (λ ring. take 1 (known_items ring)) rings

  -- this end pushes into the ring at place p
  abbrev pub IsEndOf : List (Consumer T A P) → ℕ → Producer T A P → Type 0
  IsEndOf rings p producer = (p < length rings) × ((d : Consumer T A P) → IsPair producer (get_or rings p d))

  -- the same ends push into the rings
  abbrev pub KeepEnds : List (Consumer T A P) → List (Consumer T A P) → Type 0
  KeepEnds before after = (p : ℕ) (producer : Producer T A P) → IsEndOf before p producer → IsEndOf after p producer

  -- rings that were looked at: nothing was popped, and more may be known
  pub record AreLooked (before after : List (Consumer T A P)) : Type 0 where
    pub count : length after ≡ length before
    pub ends : KeepEnds before after
    pub same : (p : ℕ) → popped after p ≡ popped before p
    pub more : (p : ℕ) → IsPrefix (waiting before p) (waiting after p)

  -- in every ring something is known to lie
  abbrev pub AllWait : List (Consumer T A P) → Type 0
  AllWait rings = (p : ℕ) → p < length rings → 0 < length (waiting rings p)

  -- the first ring in which nothing is known to lie
  pub record IsFirstShort (rings : List (Consumer T A P)) (p : ℕ) : Type 0 where
    pub is_ring : p < length rings
    pub short : waiting rings p ≡ []
    pub first : (q : ℕ) → q < p → 0 < length (waiting rings q)

  -- one was taken out of the ring at place p, which may follow those that were taken out of it before
  abbrev pub IsTaken : (List T → T → Type 0) → List (Consumer T A P) → List (Consumer T A P) → ℕ → Type 0
  IsTaken allows before after p =
      (x : T) × (popped after p ≡ popped before p ++ x ∷ []) × (waiting before p ≡ x ∷ waiting after p) × allows (popped before p) x

  -- one was taken out of each of the first rings, and nothing out of the others
  pub record AreTaken (allows : List T → T → Type 0) (n : ℕ) (before after : List (Consumer T A P)) : Type 0 where
    pub count : length after ≡ length before
    pub ends : KeepEnds before after
    pub taken : (p : ℕ) → p < n → IsTaken allows before after p
    pub same : (p : ℕ) → n ≤ p → popped after p ≡ popped before p
    pub rest : (p : ℕ) → n ≤ p → waiting after p ≡ waiting before p
