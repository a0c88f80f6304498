-- The layout of a block.
use Rattle.std.proofs.Common.{◌≡◌, ℕ, ◌%◌, ◌^◌, ◌<◌, List, refl, ap, ◌∙◌, arith}
use Rattle.rand_chacha.specs.{Block.block_word, ChaCha.ChaCha, ChaCha.word_at, ChaCha.of_seed, ChaCha.key_of}
use Rattle.draws.specs.Words.{Source, key_bytes, key_words, starting_words, word, generator_at}
use Rattle.draws.proofs.Keys.{key_is}

-- the word at a place, as the generator gives it
pub word_is : (s : Source) (place : ℕ) → word_at 4 (key_words s.seed s.iteration) s.stream place ≡ word s place
unfolding block_word starting_words word
word_is s place = refl

-- a generator made from the key, with its stream and then its place set
pub at_place : (s : Source) (place : ℕ) (bytes : List ℕ) (made there at : ChaCha)
    → s.seed < 2 ^ 64 → s.iteration < 2 ^ 32 → place < 2 ^ 64 → bytes ≡ key_bytes s.seed s.iteration
    → made ≡ of_seed bytes → there ≡ record made { stream = s.stream }
    → at ≡ record there { word_pos = place % 2 ^ 68 } → at ≡ generator_at s place
at_place s place bytes made there at seed_fits iteration_fits place_fits e_bytes e_made e_there e_at =
    let key : key_of (key_bytes s.seed s.iteration) ≡ key_words s.seed s.iteration =
    key_is s.seed s.iteration seed_fits iteration_fits in
    let small : place % 2 ^ 68 ≡ place = omega arith in
    e_at ∙ ap (λ (g : ChaCha). record g { word_pos = place % 2 ^ 68 })
    (e_there ∙ ap (λ (g : ChaCha). record g { stream = s.stream }) (e_made ∙ ap of_seed e_bytes))
    ∙ rw (key, small) refl
