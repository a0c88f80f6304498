-- The first of the lists that were gathered.
use Rattle.std.proofs.Common.{◌≡◌, ℕ, ◌<◌, List, [], ◌∷◌, length, get_or, map, arith, refl, ◌∙◌, ap}
use Rattle.events.specs.declared.event.Event.{Event}
use Rattle.event_pipe.specs.{Pieces.events_of, declared.pieces.Piece.Piece}

first_is : (pieces : List Piece) (d : Piece) (e : List Event) → 0 < length pieces
    → get_or (map events_of pieces) 0 e ≡ events_of (get_or pieces 0 d)
first_is [] d e b = absurd (omega (arith, b))
first_is (x ∷ pieces) d e b = refl

pub first_length : (lists : List (List Event)) (first : List Event) (pieces : List Piece) (d : Piece) (n m : ℕ)
    → first ≡ get_or lists 0 first → lists ≡ map events_of pieces → 0 < length pieces
    → length (events_of (get_or pieces 0 d)) ≡ n → m ≡ length first → m ≡ n
first_length lists first pieces d n m is all some long count =
    count ∙ ap length (is ∙ ap (λ l. get_or l 0 first) all ∙ first_is pieces d first some) ∙ long
