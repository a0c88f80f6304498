-- What is so of a board at every moment.
use Rattle.std.proofs.Common.{◌≡◌, ℕ, ◌+◌, ◌%◌, ◌<◌, ◌≤◌, ◌⊎◌, List, length, Option, Some, sym, subst}
use mathlib.Core.Option.{some, none}
use lib.ListN.{get_elem?}
use Rattle.atomic_table.specs.Table.{State}
use Rattle.cells.specs.{Ports.IsLawful, Ports.run_of, Rings.slot, Rule.word_at, Rule.from_of, Rule.to_of, Rule.lag_of, Rule.twin_of}
use Rattle.cells.specs.declared.{board.Board.Board, table.Channel.Channel, table.View.View}
use Rattle.cells.proofs.Rings as rings

module _ {T R P : Type 0} (right : R → ℕ → ℕ → ℕ → Option P → Type 0) (b : Board T R P) where
  abbrev Near : State (Option P) (View R) → List Channel → ℕ → Type 0
  Near s cs e = word_at s.words (to_of cs e) ≤ word_at s.words (from_of cs e) + lag_of cs e

  abbrev Lies : State (Option P) (View R) → List Channel → ℕ → ℕ → P → Type 0
  Lies s cs e i x = (t : ℕ) × (t % 64 ≡ i) × (t < word_at s.words (from_of cs e)) × (word_at s.words (to_of cs e) ≤ t + lag_of cs e)
      × right (run_of b) (from_of cs e) (to_of cs e) t (Some x)

  abbrev Stays : State (Option P) (View R) → List Channel → ℕ → ℕ → Type 0
  Stays s cs e t = ((x : Option P) × (get_elem? s.homes (slot e t) ≡ some (some x))
      × right (run_of b) (from_of cs e) (to_of cs e) t x)
      ⊎ ((word_at s.words (to_of cs e) ≡ t + lag_of cs e) × (get_elem? s.homes (slot e t) ≡ some none))

  pub lawful : IsLawful right b
  lawful = record {
    near = λ s k e lt. subst (λ cs. Near s cs e) b.channels_are (k.rings.near e (subst (λ cs. e < length cs) (sym b.channels_are) lt));
    lies = λ s k e i x lt few is. let cs : List Channel = b.table.shared.key.channels.value.items in
        subst (λ cs. Lies s cs e i x) b.channels_are
        (rings.lies (right (run_of b)) b.table.shared.key.count (length cs) (from_of cs) (to_of cs) (lag_of cs) (twin_of cs) k.channels
        (λ q. word_at s.words q) (λ j. get_elem? s.homes j) k.marked k.rings e i x
        (subst (λ cs. e < length cs) (sym b.channels_are) lt) few is);
    stays = λ s k e t lt sent due. let cs : List Channel = b.table.shared.key.channels.value.items in
        subst (λ cs. Stays s cs e t) b.channels_are
        (rings.stays (right (run_of b)) b.table.shared.key.count (length cs) (from_of cs) (to_of cs) (lag_of cs) (twin_of cs) k.channels
        (λ q. word_at s.words q) (λ j. get_elem? s.homes j) k.marked k.rings e t
        (subst (λ cs. e < length cs) (sym b.channels_are) lt)
        (subst (λ cs. t < word_at s.words (from_of cs e)) (sym b.channels_are) sent)
        (subst (λ cs. word_at s.words (to_of cs e) ≤ t + lag_of cs e) (sym b.channels_are) due));
  }
