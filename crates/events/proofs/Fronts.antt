-- What stood in a list before more was appended.
use Rattle.std.proofs.Common.{◌≡◌, ◌≤◌, ℕ, List, ◌++◌, length, take, ap, ◌∙◌, arith, length-take}
use Rattle.std.proofs.{Math.Seq.take-append_seam, lemmas.List.take-append-le}

-- the front of a list with one piece more is the list
pub front_of_one : (old piece : List ℕ) → take (length old) (old ++ piece) ≡ old
front_of_one old piece = take-append_seam old piece

-- a front that stood before one piece more still stands
pub front_of_front : (old middle piece : List ℕ) (front : take (length old) middle ≡ old) → take (length old) (middle ++ piece) ≡ old
front_of_front old middle piece front =
    let within : length old ≤ length middle = omega (arith, ap length front, length-take (length old) middle) in
    take-append-le (length old) middle piece within ∙ front
