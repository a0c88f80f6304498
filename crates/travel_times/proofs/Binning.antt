-- The bins of a link: what they say, and that they are kept as a profile keeps them.
use Rattle.std.proofs.Common.{◌≡◌, ℕ, zero, suc, ◌+◌, ◌-◌, ◌/◌, ◌<◌, ◌≤◌, max, Bool, true, false, cond, List, [], ◌∷◌, ◌++◌, length, take, drop}
use Rattle.std.proofs.Common.{map, sum, Option, inl, inr, refl, sym, ◌∙◌, ap, subst, arith}
use Rattle.std.proofs.lemmas.{Bool.cases_lt, Bool.cases_eq, Bool.eq-eqb, List.get_or_past, List.get_or-map}
use Rattle.std.proofs.lemmas.List.{get_or-take, get_or_push, get_or_default, get_or_append_left, length-map, length-take-le, drop_more, drop_all, append_assoc}
use Rattle.std.specs.Prelude.{nat_eq, slice_index_or}
use Rattle.travel_times.specs.{Binned.tallies_of, Binned.time_of, Binned.bins_from, Observed.average_or, Observed.link_at, Observed.observed}
use Rattle.travel_times.specs.{Observed.observed_time, Profiles.profile_of, Profiles.IsProfile, Tallies.no_tally, Tallies.tally_at, Tallies.IsSeen}
use Rattle.travel_times.specs.{Tallies.IsKnown, Times.LinkProfile, Times.time_in, Times.profile_at, Times.free_of, declared.TheConstants.BIN_SECONDS}
use Rattle.travel_times.specs.declared.{observations.Entry.Entry, profiles.Bin.Bin, profiles.Profile.TheInside.Inside, tallies.Tally.Tally}
use Rattle.fixed_flow.specs.Link.{free_seconds}
use Rattle.rows.specs.declared.network.LinkRow.{LinkRow}
use Rattle.events.specs.declared.event.Event.{Event}

abbrev bin_in : List Bin → ℕ → Bin
bin_in bins k = slice_index_or bins k (record { time = 1; hold = 0 })

length-bins : (free hold : ℕ) (tallies : List Tally) → length (bins_from free hold tallies) ≡ suc (length tallies)
unfolding bins_from
length-bins free hold [] = refl
length-bins free hold (tally ∷ tallies) =
    ap (λ (n : ℕ). suc n) (length-bins free (max (hold - BIN_SECONDS) (time_of free tally - 1)) tallies)

first_hold : (free hold : ℕ) (tallies : List Tally) → (bin_in (bins_from free hold tallies) 0).hold ≡ hold
unfolding bins_from
first_hold free hold [] = refl
first_hold free hold (tally ∷ tallies) = refl

next_hold : (free hold : ℕ) (tallies : List Tally) (k : ℕ) → suc k < length (bins_from free hold tallies)
    → (bin_in (bins_from free hold tallies) (suc k)).hold
    ≡ max ((bin_in (bins_from free hold tallies) k).hold - BIN_SECONDS) ((bin_in (bins_from free hold tallies) k).time - 1)
unfolding bins_from
next_hold free hold [] k within = absurd (omega arith)
next_hold free hold (tally ∷ tallies) zero within = first_hold free (max (hold - BIN_SECONDS) (time_of free tally - 1)) tallies
next_hold free hold (tally ∷ tallies) (suc k) within =
    next_hold free (max (hold - BIN_SECONDS) (time_of free tally - 1)) tallies k (omega arith)

-- the time of a bin; behind them all it is free
time_at : (free hold : ℕ) (tallies : List Tally) (k : ℕ)
    → slice_index_or (map (λ (b : Bin). b.time) (bins_from free hold tallies)) k free ≡ time_of free (slice_index_or tallies k no_tally)
unfolding bins_from
time_at free hold [] zero = refl
time_at free hold [] (suc k) = refl
time_at free hold (tally ∷ tallies) zero = refl
time_at free hold (tally ∷ tallies) (suc k) = time_at free (max (hold - BIN_SECONDS) (time_of free tally - 1)) tallies k

least_time : (free : ℕ) (tally : Tally) → 1 ≤ free → 1 ≤ time_of free tally
least_time free tally some = either (nat_eq tally.cars 0)
  where
    either : (b : Bool) → 1 ≤ cond b free (max 1 (tally.seconds / tally.cars))
    either true = some
    either false = grind arith

each_time : (free hold : ℕ) (tallies : List Tally) (k : ℕ) → 1 ≤ free → 1 ≤ (bin_in (bins_from free hold tallies) k).time
unfolding bins_from
each_time free hold [] zero some = some
each_time free hold [] (suc k) some = omega arith
each_time free hold (tally ∷ tallies) zero some = least_time free tally some
each_time free hold (tally ∷ tallies) (suc k) some = each_time free (max (hold - BIN_SECONDS) (time_of free tally - 1)) tallies k some

last_time : (free hold : ℕ) (tallies : List Tally) (k : ℕ) → suc k ≡ length (bins_from free hold tallies) →
    (bin_in (bins_from free hold tallies) k).time ≡ free
unfolding bins_from
last_time free hold [] zero at = refl
last_time free hold [] (suc k) at = absurd (omega arith)
last_time free hold (tally ∷ tallies) zero at = absurd
    (let count = length-bins free (max (hold - BIN_SECONDS) (time_of free tally - 1)) tallies in omega arith)
last_time free hold (tally ∷ tallies) (suc k) at = last_time free (max (hold - BIN_SECONDS) (time_of free tally - 1)) tallies k
    (omega arith)

-- such bins make a profile
pub makes_profile : (p : Inside) (tallies : List Tally) → p.bins.items ≡ bins_from p.free 0 tallies → 1 ≤ p.free →
    length tallies ≤ 4772186 → IsProfile p
makes_profile p tallies are some few =
    let count : length p.bins.items ≡ suc (length tallies) = ap (λ (bs : List Bin). length bs) are ∙ length-bins p.free 0 tallies in
    record {
      least = some;
      each = λ k. let P : List Bin → Type 0 = λ bs. 1 ≤ (bin_in bs k).time in subst P (sym are) (each_time p.free 0 tallies k some);
      first = λ _. let P : List Bin → Type 0 = λ bs. (bin_in bs 0).hold ≡ 0 in subst P (sym are) (first_hold p.free 0 tallies);
      next = λ k.
          let P : List Bin → Type 0 = λ bs. suc k < length bs → (bin_in bs (suc k)).hold
          ≡ max ((bin_in bs k).hold - BIN_SECONDS) ((bin_in bs k).time - 1) in
          subst P (sym are) (next_hold p.free 0 tallies k);
      last = λ k. let P : List Bin → Type 0 = λ bs. suc k ≡ length bs → (bin_in bs k).time
          ≡ p.free in subst P (sym are) (last_time p.free 0 tallies k);
      few = omega arith;
    }

-- the tally of a link in a front of the bins, where it was seen in none behind
tally_in_front : (link seen : ℕ) (rows : List (List Tally)) (bin : ℕ) → seen ≤ length rows →
    ((b : ℕ) → seen ≤ b → (tally_at rows link b).cars ≡ 0)
    → (free : ℕ) → time_of free (slice_index_or (tallies_of link (take seen rows)) bin no_tally) ≡ time_of free (tally_at rows link bin)
tally_in_front link seen rows bin within unseen free =
    elim (cases_lt bin seen) [
      | inl before ↦
          let short : length (take seen rows) ≡ seen = length-take-le seen rows within in
          let there : bin < length (take seen rows) = omega arith in
          ap (time_of free) (get_or-map (λ (row : List Tally). slice_index_or row link no_tally) (take seen rows) bin [] no_tally there
          ∙ ap (λ (row : List Tally). slice_index_or row link no_tally) (get_or-take seen rows bin [] before))
      | inr behind ↦
          let short : length (take seen rows) ≡ seen = length-take-le seen rows within in
          let none : slice_index_or (tallies_of link (take seen rows)) bin no_tally ≡ no_tally =
          get_or_past (tallies_of link (take seen rows)) bin no_tally
          (let same = length-map (take seen rows) (λ (row : List Tally). slice_index_or row link no_tally) in omega arith) in
          ap (time_of free) none ∙ sym (ap (λ (b : Bool). cond b free
          (max 1 ((tally_at rows link bin).seconds / (tally_at rows link bin).cars)))
          (eq-eqb (tally_at rows link bin).cars 0 (unseen bin behind)))
    ]

-- the profile of a link by the bins up to the last in which it was seen
pub seen_is : (link seen : ℕ) (rows : List (List Tally)) (p : Inside) → seen ≤ length rows →
    ((b : ℕ) → seen ≤ b → (tally_at rows link b).cars ≡ 0)
    → p.bins.items ≡ bins_from p.free 0 (tallies_of link (take seen rows)) → IsSeen p.free link rows (profile_of p)
seen_is link seen rows p within unseen are = (
  refl,
  λ bin.
      let at : slice_index_or (profile_of p).times bin p.free
      ≡ time_of p.free (slice_index_or (tallies_of link (take seen rows)) bin no_tally) =
      ap (λ (bs : List Bin). slice_index_or (map (λ (b : Bin). b.time) bs) bin p.free) are ∙ time_at p.free 0
      (tallies_of link (take seen rows)) bin in
      ap (λ (t : ℕ). max 1 t) (at ∙ tally_in_front link seen rows bin within unseen p.free),
)

-- one bin more
pub binned_more : (free hold : ℕ) (bins new : List Bin) (link i : ℕ) (rows : List (List Tally)) (row : List Tally) (tally : Tally)
    (time hold' : ℕ) → i < length rows
    → row ≡ slice_index_or rows i row → tally ≡ slice_index_or row link no_tally → time ≡ average_or free tally.cars tally.seconds →
    hold' ≡ max (hold - BIN_SECONDS) (time - 1)
    → new ≡ bins ++ (record { time = time; hold = hold }) ∷ []
    → bins ++ bins_from free hold (tallies_of link (drop i rows)) ≡ bins_from free 0 (tallies_of link rows)
    → new ++ bins_from free hold' (tallies_of link (drop (i + 1) rows)) ≡ bins_from free 0 (tallies_of link rows)
unfolding bins_from
binned_more free hold bins new link i rows row tally time hold' within read is timed held pushed before =
    let rest : drop i rows ≡ slice_index_or rows i row ∷ drop (i + 1) rows = drop_more rows i row within in
    let here : slice_index_or (slice_index_or rows i row) link no_tally ≡ tally =
    ap (λ (r : List Tally). slice_index_or r link no_tally) (sym read) ∙ sym is in
    let timed' : time_of free (slice_index_or (slice_index_or rows i row) link no_tally) ≡ time = ap (time_of free) here ∙ sym timed in
    ap (λ (bs : List Bin). bs ++ bins_from free hold' (tallies_of link (drop (i + 1) rows))) pushed
    ∙ append_assoc bins ((record { time = time; hold = hold }) ∷ []) (bins_from free hold' (tallies_of link (drop (i + 1) rows)))
    ∙ ap (λ (h : ℕ). bins ++ ((record { time = time; hold = hold }) ∷ bins_from free h (tallies_of link (drop (i + 1) rows)))) held
    ∙ ap (λ (t : ℕ). bins ++ ((record { time = t; hold = hold }) ∷ bins_from free (max (hold - BIN_SECONDS) (t - 1))
    (tallies_of link (drop (i + 1) rows)))) (sym timed')
    ∙ ap (λ (rs : List (List Tally)). bins ++ bins_from free hold (tallies_of link rs)) (sym rest) ∙ before

pub binned_all : (free hold : ℕ) (bins new : List Bin) (link i : ℕ) (rows : List (List Tally)) → length rows ≤ i → new
    ≡ bins ++ (record { time = free; hold = hold }) ∷ []
    → bins ++ bins_from free hold (tallies_of link (drop i rows)) ≡ bins_from free 0 (tallies_of link rows) → new
    ≡ bins_from free 0 (tallies_of link rows)
unfolding bins_from
binned_all free hold bins new link i rows past pushed before =
    pushed ∙ ap (λ (rs : List (List Tally)). bins ++ bins_from free hold (tallies_of link rs)) (sym (drop_all i rows past)) ∙ before

-- one more profile
pub seen_push : (profiles new : List LinkProfile) (links items : List LinkRow) (rows : List (List Tally)) (place free : ℕ)
    (profile : LinkProfile) (d : LinkRow) → items ≡ links
    → length profiles ≡ place → place < length items → free ≡ free_of (slice_index_or items place d) → IsSeen free place rows profile →
    new ≡ profiles ++ profile ∷ []
    → ((link : ℕ) → link < place → IsSeen (free_of (link_at links link)) link rows (profile_at profiles link))
    → (link : ℕ) → link < place + 1 → IsSeen (free_of (link_at links link)) link rows (profile_at new link)
seen_push profiles new links items rows place free profile d same count within is seen pushed before link less =
    let P : List LinkProfile → Type 0 = λ ps. IsSeen (free_of (link_at links link)) link rows (profile_at ps link) in
    subst P (sym pushed) (elim (cases_eq link place) [
      | inl last ↦
          let there : profile_at (profiles ++ profile ∷ []) link ≡ profile =
          get_or_push profiles profile (record { free = 1; times = [] }) link (count ∙ sym last) in
          let row_there : slice_index_or items place d ≡ link_at links place =
          get_or_default items place d (record { from = 0; to = 0; length = 1; speed = 1; capacity = 1; lanes = 1 }) within ∙ ap
          (λ (ls : List LinkRow). link_at ls place) same in
          let free_is : free ≡ free_of (link_at links link) = is ∙ ap free_of (row_there ∙ ap (link_at links) (sym last)) in
          let Q : LinkProfile → Type 0 = λ p. IsSeen (free_of (link_at links link)) link rows p in
          let R : ℕ → Type 0 = λ f. IsSeen f link rows profile in
          let S : ℕ → Type 0 = λ l. IsSeen free l rows profile in
          subst Q (sym there) (subst R free_is (subst S (sym last) seen))
      | inr other ↦
          let earlier : link < place = omega arith in
          let there : profile_at (profiles ++ profile ∷ []) link ≡ profile_at profiles link =
          get_or_append_left profiles (profile ∷ []) (record { free = 1; times = [] }) link (omega arith) in
          let Q : LinkProfile → Type 0 = λ p. IsSeen (free_of (link_at links link)) link rows p in
          subst Q (sym there) (before link earlier)
    ])

free_some : (row : LinkRow) → 1 ≤ free_of row
unfolding free_seconds
free_some row = grind arith

-- the time that was seen is the observed one
pub seen_time : (links : List LinkRow) (events : List Event) (count : ℕ) (rows rows' : List (List Tally)) (entries : List (Option Entry))
    (link bin : ℕ) (profile : LinkProfile)
    → rows' ≡ rows → IsKnown count events rows entries → IsSeen (free_of (link_at links link)) link rows' profile → time_in profile bin
    ≡ observed_time links events link bin
seen_time links events count rows rows' entries link bin profile same known seen =
    let free : ℕ = free_of (link_at links link) in
    let of_rows : (rs : List (List Tally)) → ℕ = λ rs. max 1 (average_or free (tally_at rs link bin).cars (tally_at rs link bin).seconds) in
    seen.1 bin ∙ ap of_rows same ∙ ap (λ (n : ℕ). max 1 (average_or free n (tally_at rows link bin).seconds)) (known.cars link bin)
    ∙ ap (λ (n : ℕ). max 1 (average_or free (length (observed link bin events)) n)) (known.seconds link bin)
    ∙ at_least (average_or free (length (observed link bin events)) (sum (observed link bin events)))
    (average_some free (length (observed link bin events)) (sum (observed link bin events)) (free_some (link_at links link)))
  where
    at_least : (n : ℕ) → 1 ≤ n → max 1 n ≡ n
    at_least n h = grind arith

    average_some : (free cars seconds : ℕ) → 1 ≤ free → 1 ≤ average_or free cars seconds
    average_some free cars seconds some = either (nat_eq cars 0)
      where
        either : (b : Bool) → 1 ≤ cond b free (max 1 (seconds / cars))
        either true = some
        either false = grind arith
