-- The bytes of the key as words.
use Rattle.std.proofs.Common.{◌≡◌, ℕ, ◌+◌, ◌*◌, ◌/◌, ◌%◌, ◌^◌, ◌<◌, refl, arith}
use Rattle.std.proofs.lemmas.Nat.{mod-pow-add, shr-shr, shr_below}
use Rattle.rand_core.specs.Steps.{u32_at}
use Rattle.rand_chacha.specs.ChaCha.{key_of}
use Rattle.draws.specs.Words.{key_bytes, key_words}

-- the lowest four bytes of a number are its lowest word
four_bytes : (n : ℕ)
    → n % 2 ^ 8 + n / 2 ^ 8 % 2 ^ 8 * 2 ^ 8 + n / 2 ^ 16 % 2 ^ 8 * 2 ^ 16 + n / 2 ^ 24 % 2 ^ 8 * 2 ^ 24 ≡ n % 2 ^ 32
four_bytes n = omega (arith, mod-pow-add n 8 8, mod-pow-add n 8 16, mod-pow-add n 8 24)

low_word : (seed iteration : ℕ) → u32_at (key_bytes seed iteration) 0 ≡ seed % 2 ^ 32
unfolding u32_at key_bytes
low_word seed iteration = four_bytes seed

high_word : (seed iteration : ℕ) → seed < 2 ^ 64 → u32_at (key_bytes seed iteration) 1 ≡ seed / 2 ^ 32
unfolding u32_at key_bytes
high_word seed iteration h =
    let word : seed / 2 ^ 32 < 2 ^ 32 = shr_below seed 32 32 h in
    rw (← shr-shr seed 32 8, ← shr-shr seed 32 16, ← shr-shr seed 32 24) (omega (arith, four_bytes (seed / 2 ^ 32)))

third_word : (seed iteration : ℕ) → iteration < 2 ^ 32 → u32_at (key_bytes seed iteration) 2 ≡ iteration
unfolding u32_at key_bytes
third_word seed iteration h = omega (arith, four_bytes iteration)

-- the key as the cipher reads it
pub key_is : (seed iteration : ℕ) → seed < 2 ^ 64 → iteration < 2 ^ 32
    → key_of (key_bytes seed iteration) ≡ key_words seed iteration
key_is seed iteration h g =
    rw (low_word seed iteration, high_word seed iteration h, third_word seed iteration g) (unfold u32_at key_bytes in refl)
