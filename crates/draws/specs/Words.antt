-- The random words: the ChaCha block function of RFC 8439 with four double rounds (8 rounds), in Bernstein's layout,
-- which has a 64-bit block number and a 64-bit stream in the place of the RFC's counter and nonce.
use Rattle.std.specs.Prelude.{ℕ, ◌+◌, ◌/◌, ◌%◌, ◌^◌, List, [], ◌∷◌, ◌++◌, replicate, slice_index}
use Rattle.std.specs.Int.{w32, w64, to_le_bytes}
use Rattle.rand_chacha.specs.{Block.add32, Block.double_rounds, ChaCha.ChaCha}
use Rattle.draws.specs.declared.TheConstants.{PERSON_STREAMS}

-- where words come from: the seed of a run, the iteration, and the stream of a node or a person
pub record Source : Type 0 where
  pub seed : ℕ
  pub iteration : ℕ
  pub stream : ℕ

-- the words of a node have its number as their stream
abbrev pub node_source : ℕ → ℕ → ℕ → Source
node_source seed iteration node = record { seed = seed; iteration = iteration; stream = node }

-- the streams of persons begin behind those of all nodes
abbrev pub person_source : ℕ → ℕ → ℕ → Source
person_source seed iteration person = record { seed = seed; iteration = iteration; stream = PERSON_STREAMS + person }

-- the key: the seed and the iteration, each with its low byte first, and zeros
unfoldable pub key_bytes : ℕ → ℕ → List ℕ
key_bytes seed iteration = to_le_bytes w64 seed ++ to_le_bytes w32 iteration ++ replicate 20 0

-- the same as eight words, each of four bytes with the low one first
abbrev pub key_words : ℕ → ℕ → List ℕ
key_words seed iteration = seed % 2 ^ 32 ∷ seed / 2 ^ 32 ∷ iteration ∷ 0 ∷ 0 ∷ 0 ∷ 0 ∷ 0 ∷ []

-- the sixteen words that a block starts from: the constants (`expand 32-byte k`), the key, the number of the block and the stream
unfoldable pub starting_words : Source → ℕ → List ℕ
starting_words s block =
    (0x61707865 ∷ 0x3320646e ∷ 0x79622d32 ∷ 0x6b206574 ∷ []) ++ key_words s.seed s.iteration
    ++ (block % 2 ^ 32 ∷ block / 2 ^ 32 ∷ s.stream % 2 ^ 32 ∷ s.stream / 2 ^ 32 ∷ [])

-- the word at a place, of which each block has sixteen: what four double rounds make of the starting word there, plus that word
unfoldable pub word : Source → ℕ → ℕ
word s place =
    let start = starting_words s (place / 16) in
    add32 (slice_index (double_rounds 4 start) (place % 16)) (slice_index start (place % 16))

-- the cipher's generator that gives the word at this place next
abbrev pub generator_at : Source → ℕ → ChaCha
generator_at s place = record { key = key_words s.seed s.iteration; stream = s.stream; word_pos = place }
