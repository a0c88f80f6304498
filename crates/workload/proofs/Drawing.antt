-- Numbers that words draw.
use Rattle.std.proofs.{Common.◌≡◌, Common.ℕ, Common.◌+◌, Common.◌-◌, Common.◌<◌, Common.pos, Common.refl, Common.arith, lemmas.Int.ints}
use Rattle.draws.specs.Choices.{below, between, count_of}

-- one of the numbers from 0 to the last one
pub drawn : (count word : ℕ) → 0 < count → between (pos 0) (pos (count - 1)) word ≡ pos (below count word)
unfolding between
drawn count word some =
    let all : count_of (pos 0) (pos (count - 1)) ≡ count = omega (arith, ints) in
    rw all (omega (arith, ints))

-- a second between 6 and 8 o'clock
pub drawn_from : (word : ℕ) → between (pos 21600) (pos 28799) word ≡ pos (21600 + below 7200 word)
unfolding between
drawn_from word = refl
