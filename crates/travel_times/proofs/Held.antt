-- What a profile says of the second of arrival.
use Rattle.std.proofs.Common.{◌≡◌, ℕ, zero, suc, ◌+◌, ◌-◌, ◌*◌, ◌/◌, ◌<◌, ◌≤◌, max, min, length, inl, inr, sym, ◌∙◌, ap}
use Rattle.std.proofs.{Common.arith, lemmas.Bool.cases_lt, lemmas.List.get_or_past, lemmas.List.get_or-map, lemmas.List.get_or_read, lemmas.List.length-map}
use Rattle.std.specs.Prelude.{slice_index_or}
use Rattle.travel_times.proofs.Arriving.{held, held_none, held_more, held_in_order, arrival_is}
use Rattle.travel_times.specs.{Profiles.bin_at, Profiles.profile_of, Profiles.IsProfile, Times.time_in, Times.last_second, Times.arrival_by}
use Rattle.travel_times.specs.declared.{TheConstants.BIN_SECONDS, profiles.Bin.Bin, profiles.Profile.TheInside.Inside}

-- the time of a bin that is there, and of one that is not
time_of_bin : (p : Inside) (k : ℕ) → IsProfile p → k < length p.bins.items → time_in (profile_of p) k ≡ (bin_at p k).time
time_of_bin p k kept within =
    let at : slice_index_or (profile_of p).times k p.free ≡ (bin_at p k).time =
    get_or-map (λ (b : Bin). b.time) p.bins.items k (record { time = 1; hold = 0 }) p.free within in
    let least = kept.each k in
    grind arith

free_past : (p : Inside) (k : ℕ) → IsProfile p → length p.bins.items ≤ suc k → time_in (profile_of p) k ≡ p.free
free_past p k kept past =
    elim (cases_lt k (length p.bins.items)) [
      | inl within ↦ time_of_bin p k kept within ∙ kept.last k (omega arith)
      | inr beyond ↦
          let at : slice_index_or (profile_of p).times k p.free ≡ p.free =
          get_or_past (profile_of p).times k p.free (let same = length-map p.bins.items (λ (b : Bin). b.time) in omega arith) in
          let least = kept.least in
          grind arith
    ]

-- the latest arrival of those in earlier bins, but not before the bin starts
hold_is : (p : Inside) (k : ℕ) → IsProfile p → k < length p.bins.items → (bin_at p k).hold
    ≡ held (time_in (profile_of p)) k - BIN_SECONDS * k
hold_is p zero kept within = let none = held_none (time_in (profile_of p)) in let first = kept.first within in omega arith
hold_is p (suc k) kept within =
    let before = hold_is p k kept (omega arith) in
    let next = kept.next k within in
    let more = held_more (time_in (profile_of p)) k in
    let same = time_of_bin p k kept (omega arith) in
    let least = kept.each k in
    step (held (time_in (profile_of p)) k) (held (time_in (profile_of p)) (suc k)) (bin_at p k).hold (bin_at p (suc k)).hold
    (bin_at p k).time k before next
    (more ∙ ap (λ (t : ℕ). max (held (time_in (profile_of p)) k) (last_second k + t)) same) least
  where
    step : (h h' x y t k : ℕ) → x ≡ h - BIN_SECONDS * k → y ≡ max (x - BIN_SECONDS) (t - 1) → h' ≡ max h (last_second k + t) → 1 ≤ t → y
        ≡ h' - BIN_SECONDS * suc k
    step h h' x y t k before next more least = grind arith

-- where all bins from one on take as long, later ones hold nobody else
held_free : (time : ℕ → ℕ) (free low more : ℕ) → ((bin : ℕ) → low ≤ bin → time bin ≡ free) →
    held time (more + low) ≤ max (held time low) (BIN_SECONDS * (more + low) - 1 + free)
held_free time free low zero same = let at = ap (held time) (at_zero low) in grind arith
  where
    at_zero : (n : ℕ) → 0 + n ≡ n
    at_zero n = omega arith
held_free time free low (suc more) same =
    let before = held_free time free low more same in
    let step = held_more time (more + low) in
    let here = same (more + low) (omega arith) in
    let at = ap (held time) (suc_out more low) in
    grind arith
  where
    suc_out : (a b : ℕ) → suc a + b ≡ suc (a + b)
    suc_out a b = omega arith

-- from the bin on from which a link is free, arrivals are the free ones or those of who is held there
pub arrival_free : (time : ℕ → ℕ) (free low second : ℕ) → 1 ≤ free → ((bin : ℕ) → low ≤ bin → time bin ≡ free) → low ≤ second / BIN_SECONDS
    → arrival_by time second ≡ max (second + free) (held time low)
arrival_free time free low second least same past =
    let bin : ℕ = second / BIN_SECONDS in
    let is = arrival_is time second in
    let here = same bin past in
    let up = held_in_order time low bin past in
    let back : bin - low + low ≡ bin = omega arith in
    let most : held time bin ≤ max (held time low) (BIN_SECONDS * bin - 1 + free) =
    let h = held_free time free low (bin - low) same in let at = ap (held time) back in let start =
    ap (λ (n : ℕ). BIN_SECONDS * n - 1 + free) back in grind arith in
    let within : BIN_SECONDS * bin ≤ second = omega arith in
    grind arith

-- what a profile with no bins gives
pub free_is : (p : Inside) (second : ℕ) → IsProfile p → length p.bins.items ≡ 0 → second + p.free
    ≡ arrival_by (time_in (profile_of p)) second
free_is p second kept none =
    let is = arrival_free (time_in (profile_of p)) p.free 0 second kept.least (λ bin _. free_past p bin kept (omega arith)) (omega arith) in
    let nobody = held_none (time_in (profile_of p)) in
    omega arith

-- what a profile gives by the bin of a second, or by its last one
pub binned_is : (p : Inside) (second last place : ℕ) → IsProfile p → suc last ≡ length p.bins.items → place
    ≡ min (second / BIN_SECONDS) last
    → max (second + (bin_at p place).time) (place * BIN_SECONDS + (bin_at p place).hold) ≡ arrival_by (time_in (profile_of p)) second
binned_is p second last place kept count at =
    let time : ℕ → ℕ = time_in (profile_of p) in
    let within : place < length p.bins.items = omega arith in
    let hold = hold_is p place kept within in
    let took = time_of_bin p place kept within in
    let start : place * BIN_SECONDS ≤ second = omega arith in
    elim (cases_lt last (second / BIN_SECONDS)) [
      | inl past ↦
          let same : place ≡ last = omega arith in
          let is = arrival_free time p.free place second kept.least (λ bin later. free_past p bin kept (omega arith)) (omega arith) in
          let free = kept.last place (omega arith) in
          joined second (bin_at p place).time p.free place (bin_at p place).hold (held time place)
          (arrival_by time second) start free hold is
      | inr known ↦
          let same : second / BIN_SECONDS ≡ place = omega arith in
          let is = arrival_is time second ∙ ap (λ (b : ℕ). max (second + time b) (held time b)) same in
          joined second (bin_at p place).time (time place) place (bin_at p place).hold (held time place) (arrival_by time second) start
          (sym took) hold is
    ]
  where
    joined : (second t u place hold h a : ℕ) → place * BIN_SECONDS ≤ second → t ≡ u → hold ≡ h - BIN_SECONDS * place → a
        ≡ max (second + u) h
        → max (second + t) (place * BIN_SECONDS + hold) ≡ a
    joined second t u place hold h a start same is arrived = grind arith

-- the same of a bin that was read
pub binned_read : (p : Inside) (second last place time hold reached : ℕ) (bin : Bin) → IsProfile p → suc last ≡ length p.bins.items →
    place ≡ min (second / BIN_SECONDS) last
    → bin ≡ slice_index_or p.bins.items place bin → time ≡ bin.time → hold ≡ bin.hold → reached
    ≡ max (second + time) (place * BIN_SECONDS + hold)
    → reached ≡ arrival_by (time_in (profile_of p)) second
binned_read p second last place time hold reached bin kept count at read time_is hold_is' is =
    let there : bin ≡ bin_at p place = get_or_read p.bins.items place bin (omega arith) read (record { time = 1; hold = 0 }) in
    let time_there : time ≡ (bin_at p place).time = time_is ∙ ap (λ (b : Bin). b.time) there in
    let hold_there : hold ≡ (bin_at p place).hold = hold_is' ∙ ap (λ (b : Bin). b.hold) there in
    is ∙ ap (λ (n : ℕ). max (second + n) (place * BIN_SECONDS + hold)) time_there
    ∙ ap (λ (n : ℕ). max (second + (bin_at p place).time) (place * BIN_SECONDS + n)) hold_there ∙ binned_is p second last place kept
    count at
