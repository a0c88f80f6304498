-- What comes over the rings.
use Rattle.std.proofs.Common.{◌≡◌, ℕ, suc, ◌+◌, ◌*◌, ◌<◌, List, [], ◌∷◌, ◌++◌, length, get_or, map, arith, refl, sym, ◌∙◌, ap}
use Rattle.events.specs.declared.event.Event.{Event}
use Rattle.event_pipe.specs.{Pieces.events_of, Pieces.label, Pipes.parts, Pipes.gathered, Pipes.AreGathered}
use Rattle.event_pipe.specs.declared.{gathering.Gather.Gather, pieces.Piece.Piece}
use Rattle.traffic.specs.Lists.{below, numbers}
use Rattle.town.specs.declared.day_input.DayInput.{DayInput}
use Rattle.partition.specs.declared.owner.Owner.{Owner}
use Rattle.collected_day.{proofs.Handed.pieces_more, proofs.Handed.next_is, specs.Spans.told_from}
use Rattle.collected_day.specs.Streams.{span_length, told_in_span, TellsOf, span_piece, pieces_to, IsNext, HasGathered}
use Rattle.collected_day.specs.declared.spans.TheConstants.{SPAN_SECONDS}

-- a list, and what its places are by number
mapped : {T X : Type 0} (f : T → X) (g : ℕ → X) (xs : List T) (k : ℕ)
    → ((i : ℕ) (d : T) → i < length xs → f (get_or xs i d) ≡ g (k + i)) → map f xs ≡ map g (numbers k (length xs))
mapped f g [] k h = refl
mapped f g (x ∷ xs) k h =
    let here : k + 0 ≡ k = omega arith in
    let first : f x ≡ g k = h 0 x (omega arith) ∙ ap g here in
    ap (λ y. y ∷ map f xs) first
    ∙ ap (λ ys. g k ∷ ys) (mapped f g xs (k + 1) (λ i d lt.
    let e : k + suc i ≡ (k + 1) + i = omega arith in
    h (suc i) d (omega arith) ∙ ap g e))

map_same : {X : Type 0} (f g : ℕ → X) (ns : List ℕ) → ((n : ℕ) → f n ≡ g n) → map f ns ≡ map g ns
map_same f g [] h = refl
map_same f g (n ∷ ns) h = ap (λ y. y ∷ map f ns) (h n) ∙ ap (λ ys. g n ∷ ys) (map_same f g ns h)

module _ {P : Type 0} (told : ℕ → ℕ → List Event) (count n : ℕ) where
  -- nothing but looks
  pub as_gathered : (before after : Gather P) → HasGathered told count n before → parts after ≡ parts before
      → ((p : ℕ) → gathered after p ≡ gathered before p) → HasGathered told count n after
  as_gathered before after h many same = record {
    many = many ∙ h.many;
    pieces = λ p lt. same p ∙ h.pieces p lt;
  }

  module _ (pieces : List Piece) (before after : Gather P) (h : HasGathered told count n before)
      (g : AreGathered (IsNext told) pieces before after) (many : parts after ≡ parts before) where
    -- each piece is the one of its partition
    own_piece : (p : ℕ) (d : Piece) → p < count → get_or pieces p d ≡ span_piece told p n
    own_piece p d lt =
        let long = h.many in
        next_is told p n (gathered before p) (get_or pieces p d) (h.pieces p lt) (g.allowed p d (omega arith))

    pub gathered_more : HasGathered told count (n + 1) after
    gathered_more = record {
      many = many ∙ h.many;
      pieces = λ p lt.
          let long = h.many in
          g.each p (label p) (omega arith) ∙ ap (λ l. l ++ get_or pieces p (label p) ∷ []) (h.pieces p lt)
          ∙ ap (λ x. pieces_to told p n ++ x ∷ []) (own_piece p (label p) lt) ∙ sym (pieces_more told p n);
    }

    pub lists_are : (lists : List (List Event)) → lists ≡ map events_of pieces → lists ≡ map (λ p. told p n) (below count)
    lists_are lists is =
        let long = h.many in
        let all = g.count in
        let e : length pieces ≡ count = omega arith in
        is
        ∙ mapped events_of (λ p. told p n) pieces 0 (λ i d lt.
        let zero_more : i ≡ 0 + i = omega arith in
        ap events_of (own_piece i d (omega arith)) ∙ ap (λ q. told q n) zero_more)
        ∙ ap (λ m. map (λ p. told p n) (below m)) e

-- the lists are what belongs to the partitions in the span
pub span_lists : (told : ℕ → ℕ → List Event) (day : DayInput) (owner : Owner) (end count n : ℕ) (lists : List (List Event))
    → TellsOf told day owner end → lists ≡ map (λ p. told p n) (below count)
    → lists ≡ map (λ p. told_from day owner p (n * SPAN_SECONDS) (span_length end n)) (below count)
span_lists told day owner end count n lists tells is =
    is ∙ map_same (λ p. told p n) (λ p. told_in_span day owner end p n) (below count) (λ p. tells p n)
