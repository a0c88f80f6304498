-- When the end of a link is reached: nobody who enters later is there earlier.
use Rattle.std.proofs.Common.{◌≡◌, ℕ, zero, suc, ◌+◌, ◌-◌, ◌*◌, ◌/◌, ◌<◌, ◌≤◌, max, List, [], ◌∷◌, length, map, fold, inl, inr, refl, ◌∙◌, ap, arith}
use Rattle.std.proofs.lemmas.{Bool.cases_eq, List.get_or_read, List.FromFn.map-range_with_len_more, List.Sums.fold_push}
use Rattle.std.specs.{List.range_with_len, Prelude.slice_index_or}
use Rattle.walks.specs.Arrivals.{IsFifo}
use Rattle.travel_times.specs.declared.TheConstants.{BIN_SECONDS}
use Rattle.travel_times.specs.Times.{LinkProfile, time_in, last_second, arrival_by, profile_at, arrivals}

-- the latest arrival of those who enter in the last second of a bin before this one
unfoldable pub held : (ℕ → ℕ) → ℕ → ℕ
held time bin = fold max 0 (map (λ b. last_second b + time b) (range_with_len 0 bin))

greatest_from : (a b : ℕ) (xs : List ℕ) → fold max (max a b) xs ≡ max a (fold max b xs)
greatest_from a b [] = refl
greatest_from a b (x ∷ xs) = ap (λ (n : ℕ). fold max n xs) (regrouped a b x) ∙ greatest_from a (max b x) xs
  where
    regrouped : (a b x : ℕ) → max (max a b) x ≡ max a (max b x)
    regrouped a b x = grind arith

pub held_none : (time : ℕ → ℕ) → held time 0 ≡ 0
unfolding held
held_none time = refl

pub held_more : (time : ℕ → ℕ) (bin : ℕ) → held time (suc bin) ≡ max (held time bin) (last_second bin + time bin)
unfolding held
held_more time bin =
    let f : ℕ → ℕ = λ b. last_second b + time b in
    let next : suc bin ≡ bin + 1 = omega arith in
    ap (λ (n : ℕ). fold max 0 (map f (range_with_len 0 n))) next
    ∙ ap (λ (xs : List ℕ). fold max 0 xs) (map-range_with_len_more f 0 bin bin (omega arith))
    ∙ fold_push max 0 (map f (range_with_len 0 bin)) (f bin)

-- the arrival is the own one, or that of those who are held
pub arrival_is : (time : ℕ → ℕ) (second : ℕ) → arrival_by time second
    ≡ max (second + time (second / BIN_SECONDS)) (held time (second / BIN_SECONDS))
unfolding arrival_by held
arrival_is time second =
    let own : ℕ = second + time (second / BIN_SECONDS) in
    let others : List ℕ = map (λ b. last_second b + time b) (range_with_len 0 (second / BIN_SECONDS)) in
    ap (λ (n : ℕ). fold max n others) (with_none own) ∙ greatest_from own 0 others
  where
    with_none : (a : ℕ) → a ≡ max a 0
    with_none a = grind arith

held_up : (time : ℕ → ℕ) (bin more : ℕ) → held time bin ≤ held time (more + bin)
held_up time bin zero = let same : held time (0 + bin) ≡ held time bin = ap (held time) (at_zero bin) in omega arith
  where
    at_zero : (n : ℕ) → 0 + n ≡ n
    at_zero n = omega arith
held_up time bin (suc more) =
    let up = held_up time bin more in
    let step = held_more time (more + bin) in
    let same : held time (suc more + bin) ≡ held time (suc (more + bin)) = ap (held time) (suc_out more bin) in
    grind arith
  where
    suc_out : (a b : ℕ) → suc a + b ≡ suc (a + b)
    suc_out a b = omega arith

pub held_in_order : (time : ℕ → ℕ) (bin later : ℕ) → bin ≤ later → held time bin ≤ held time later
held_in_order time bin later before =
    let same : later - bin + bin ≡ later = omega arith in
    let up = held_up time bin (later - bin) in
    let at = ap (held time) same in
    omega arith

-- a second is in its bin
in_bin : (second : ℕ) → (BIN_SECONDS * (second / BIN_SECONDS) ≤ second) × (second ≤ last_second (second / BIN_SECONDS))
in_bin second = (omega arith, omega arith)

-- who enters in a bin and is held is so in each later one
held_here : (time : ℕ → ℕ) (second bin : ℕ) → second ≤ last_second bin → second + time bin ≤ held time (suc bin)
held_here time second bin within = let step = held_more time bin in grind arith

pub arrival_in_order : (time : ℕ → ℕ) (earlier second : ℕ) → earlier ≤ second → arrival_by time earlier ≤ arrival_by time second
arrival_in_order time earlier second before =
    let b : ℕ = earlier / BIN_SECONDS in
    let c : ℕ = second / BIN_SECONDS in
    let first = arrival_is time earlier in
    let then' = arrival_is time second in
    let ordered : b ≤ c = quotients earlier second before in
    elim (cases_eq b c) [
      | inl same ↦ let time_same = ap time same in let held_same = ap (held time) same in grind arith
      | inr differ ↦
          let next : suc b ≤ c = omega arith in
          let own = held_here time earlier b (in_bin earlier).1 in
          let up = held_in_order time (suc b) c next in
          let held_up' = held_in_order time b c ordered in
          grind arith
    ]
  where
    quotients : (x y : ℕ) → x ≤ y → x / BIN_SECONDS ≤ y / BIN_SECONDS
    quotients x y h = omega arith

pub arrival_later : (time : ℕ → ℕ) (second : ℕ) → ((bin : ℕ) → 1 ≤ time bin) → second < arrival_by time second
arrival_later time second least =
    let is = arrival_is time second in
    let some = least (second / BIN_SECONDS) in
    grind arith

pub least_time : (profile : LinkProfile) (bin : ℕ) → 1 ≤ time_in profile bin
least_time profile bin = grind arith

-- whatever is known of links, they are first in, first out
pub arrivals_are_fifo : (times : List LinkProfile) → IsFifo (arrivals times)
arrivals_are_fifo times = record {
  later = λ link second. arrival_later (time_in (profile_at times link)) second (least_time (profile_at times link));
  in_order = λ link earlier second before. arrival_in_order (time_in (profile_at times link)) earlier second before;
}

-- the arrival by a profile that was read is that of its link
pub read_arrival : (times : List LinkProfile) (link second reached : ℕ) (profile : LinkProfile) → link < length times → profile
    ≡ slice_index_or times link profile
    → reached ≡ arrival_by (time_in profile) second → reached ≡ arrivals times link second
read_arrival times link second reached profile within read is =
    is ∙ ap (λ (p : LinkProfile). arrival_by (time_in p) second)
    (get_or_read times link profile within read (record { free = 1; times = [] }))
