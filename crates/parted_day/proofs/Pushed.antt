-- Lists that are appended item by item.
use Rattle.traffic.proofs.Common.{◌≡◌, ℕ, zero, suc, ◌+◌, ◌<◌, ◌≤◌, List, [], ◌∷◌, ◌++◌, ◌∙◌, ap, refl, sym, arith, append_assoc, append-nil, add-one, length}
use Rattle.traffic.proofs.Common.{get_or, drop, take, map, flat_map, VehicleId, Setup}
use Rattle.traffic.specs.declared.riders.Rider.{Rider}
use Rattle.std.specs.Prelude.{min}
use Rattle.traffic.specs.declared.world.Place.TheVariants as place
use Rattle.part_seconds.{proofs.Lists.flat_of_map, proofs.Lists.map_of_map, specs.Contents.passed_of, specs.Contents.flight_of, specs.Contents.parcel_of}
use Rattle.part_seconds.specs.{Parcels.nothing, declared.contents.Contents.Contents, declared.contents.Moved.Moved, declared.contents.Teleported.Teleported}
use Rattle.parted_day.specs.declared.straying.Stray.{Stray}
use Rattle.parted_day.specs.Strays.{stray_riders, passed_strays, flight_stray, strays_in, moved_strays, teleported_stray}

-- ONE ITEM AFTER THE OTHER
flat_next : {X Y : Type 0} (f : X → List Y) (k : ℕ) (xs : List X) (x : X) → k < length xs → x ≡ get_or xs k x
    → flat_map f (drop k xs) ≡ f x ++ flat_map f (drop (k + 1) xs)
flat_next f k [] x lt e = absurd (omega arith)
flat_next {X} {Y} f zero (y ∷ ys) x lt e = ap (λ (z : X). f z ++ flat_map f ys) (sym e)
flat_next {X} {Y} f (suc k) (y ∷ ys) x lt e =
    let next : suc k + 1 ≡ suc (k + 1) = omega arith in
    flat_next f k ys x (omega arith) e ∙ ap (λ (n : ℕ). f x ++ flat_map f (drop n (y ∷ ys))) (sym next)

pub flat_pushed : {X Y : Type 0} (f : X → List Y) (k : ℕ) (xs : List X) (x : X) (out now whole : List Y) → k < length xs → x ≡ get_or xs k x
    → now ≡ out ++ f x → out ++ flat_map f (drop k xs) ≡ whole → now ++ flat_map f (drop (k + 1) xs) ≡ whole
flat_pushed {X} {Y} f k xs x out now whole lt e made so_far =
    let rest = flat_map f (drop (k + 1) xs) in
    ap (λ (ys : List Y). ys ++ rest) made ∙ append_assoc out (f x) rest
    ∙ ap (λ (ys : List Y). out ++ ys) (sym (flat_next f k xs x lt e)) ∙ so_far

flat_over : {X Y : Type 0} (f : X → List Y) (k : ℕ) (xs : List X) → length xs ≤ k → flat_map f (drop k xs) ≡ []
flat_over f zero [] le = refl
flat_over f (suc k) [] le = refl
flat_over f zero (x ∷ xs) le = absurd (omega arith)
flat_over f (suc k) (x ∷ xs) le = flat_over f k xs (omega arith)

pub flat_whole : {X Y : Type 0} (f : X → List Y) (k : ℕ) (xs : List X) (out whole : List Y) → length xs ≤ k
    → out ++ flat_map f (drop k xs) ≡ whole → out ≡ whole
flat_whole {X} {Y} f k xs out whole le so_far = sym (append-nil out) ∙ ap (λ (ys : List Y). out ++ ys) (sym (flat_over f k xs le)) ∙ so_far

map_next : {X Y : Type 0} (f : X → Y) (k : ℕ) (xs : List X) (x : X) → k < length xs → x ≡ get_or xs k x
    → map f (drop k xs) ≡ f x ∷ map f (drop (k + 1) xs)
map_next f k [] x lt e = absurd (omega arith)
map_next {X} {Y} f zero (y ∷ ys) x lt e = ap (λ (z : X). f z ∷ map f ys) (sym e)
map_next {X} {Y} f (suc k) (y ∷ ys) x lt e =
    let next : suc k + 1 ≡ suc (k + 1) = omega arith in
    map_next f k ys x (omega arith) e ∙ ap (λ (n : ℕ). f x ∷ map f (drop n (y ∷ ys))) (sym next)

pub map_pushed : {X Y : Type 0} (f : X → Y) (k : ℕ) (xs : List X) (x : X) (out now whole : List Y) → k < length xs → x ≡ get_or xs k x
    → now ≡ out ++ f x ∷ [] → out ++ map f (drop k xs) ≡ whole → now ++ map f (drop (k + 1) xs) ≡ whole
map_pushed {X} {Y} f k xs x out now whole lt e made so_far =
    let rest = map f (drop (k + 1) xs) in
    ap (λ (ys : List Y). ys ++ rest) made ∙ append_assoc out (f x ∷ []) rest
    ∙ ap (λ (ys : List Y). out ++ ys) (sym (map_next f k xs x lt e)) ∙ so_far

map_over : {X Y : Type 0} (f : X → Y) (k : ℕ) (xs : List X) → length xs ≤ k → map f (drop k xs) ≡ []
map_over f zero [] le = refl
map_over f (suc k) [] le = refl
map_over f zero (x ∷ xs) le = absurd (omega arith)
map_over f (suc k) (x ∷ xs) le = map_over f k xs (omega arith)

pub map_whole : {X Y : Type 0} (f : X → Y) (k : ℕ) (xs : List X) (out whole : List Y) → length xs ≤ k
    → out ++ map f (drop k xs) ≡ whole → out ≡ whole
map_whole {X} {Y} f k xs out whole le so_far = sym (append-nil out) ∙ ap (λ (ys : List Y). out ++ ys) (sym (map_over f k xs le)) ∙ so_far

-- RIDERS
abbrev pub rider_stray : ℕ → VehicleId → Rider → ℕ → Stray
rider_stray l v r e = record { person = r.person; link = l; state = record { element = e; place = place.Riding v } }

riders_more : (l : ℕ) (v : VehicleId) (k : ℕ) (rs : List Rider) (es : List ℕ) (d : Rider) (c : ℕ) → k < length rs → k < length es
    → stray_riders l v (take (suc k) rs) (take (suc k) es)
    ≡ stray_riders l v (take k rs) (take k es) ++ rider_stray l v (get_or rs k d) (get_or es k c) ∷ []
riders_more l v k [] es d c lr le = absurd (omega arith)
riders_more l v k (r ∷ rs) [] d c lr le = absurd (omega arith)
riders_more l v zero (r ∷ rs) (e ∷ es) d c lr le = refl
riders_more l v (suc k) (r ∷ rs) (e ∷ es) d c lr le =
    ap (λ (xs : List Stray). rider_stray l v r e ∷ xs) (riders_more l v k rs es d c (omega arith) (omega arith))

pub riders_next : (l : ℕ) (v : VehicleId) (k : ℕ) (rs : List Rider) (es : List ℕ) (d : Rider) (c : ℕ) (first out now : List Stray)
    → k < length rs → k < length es → now ≡ out ++ rider_stray l v (get_or rs k d) (get_or es k c) ∷ []
    → out ≡ first ++ stray_riders l v (take k rs) (take k es) → now ≡ first ++ stray_riders l v (take (k + 1) rs) (take (k + 1) es)
riders_next l v k rs es d c first out now lr le made so_far =
    let x = rider_stray l v (get_or rs k d) (get_or es k c) in
    let before = stray_riders l v (take k rs) (take k es) in
    made ∙ ap (λ (xs : List Stray). xs ++ x ∷ []) so_far ∙ append_assoc first before (x ∷ [])
    ∙ ap (λ (xs : List Stray). first ++ xs) (sym (riders_more l v k rs es d c lr le))
    ∙ ap (λ (n : ℕ). first ++ stray_riders l v (take n rs) (take n es)) (sym (add-one k))

riders_all : (l : ℕ) (v : VehicleId) (k : ℕ) (rs : List Rider) (es : List ℕ) → min (length rs) (length es) ≤ k
    → stray_riders l v (take k rs) (take k es) ≡ stray_riders l v rs es
riders_all l v zero [] es le = refl
riders_all l v (suc k) [] es le = refl
riders_all l v zero (r ∷ rs) [] le = refl
riders_all l v (suc k) (r ∷ rs) [] le = refl
riders_all l v zero (r ∷ rs) (e ∷ es) le = absurd (omega arith)
riders_all l v (suc k) (r ∷ rs) (e ∷ es) le = ap (λ (xs : List Stray). rider_stray l v r e ∷ xs) (riders_all l v k rs es (omega arith))

pub riders_whole : (l : ℕ) (v : VehicleId) (k : ℕ) (rs : List Rider) (es : List ℕ) (first out : List Stray)
    → min (length rs) (length es) ≤ k
    → out ≡ first ++ stray_riders l v (take k rs) (take k es) → out ≡ first ++ stray_riders l v rs es
riders_whole l v k rs es first out le so_far = so_far ∙ ap (λ (xs : List Stray). first ++ xs) (riders_all l v k rs es le)

-- A PARCEL
pub parcel_pushed : (S : Setup) (s : ℕ) (ms : List Moved) (fs : List Teleported) (first mid out : List Stray)
    → mid ≡ first ++ flat_map moved_strays ms
    → out ≡ mid ++ map (teleported_stray s) fs
    → out ≡ first ++ (flat_map passed_strays (map (passed_of S s) ms) ++ map (flight_stray s) (map (flight_of S s) fs))
parcel_pushed S s ms fs first mid out riders flights =
    let xs = flat_map moved_strays ms in
    let ys = map (teleported_stray s) fs in
    flights ∙ ap (λ (zs : List Stray). zs ++ ys) riders ∙ append_assoc first xs ys
    ∙ ap (λ (zs : List Stray). first ++ (zs ++ ys)) (sym (flat_of_map (passed_of S s) passed_strays ms))
    ∙ ap (λ (zs : List Stray). first ++ (flat_map passed_strays (map (passed_of S s) ms) ++ zs))
    (sym (map_of_map (flight_of S s) (flight_stray s) fs))

-- where nothing goes nobody strays
pub nothing_pushed : (S : Setup) (s : ℕ) (x : Contents) (first : List Stray) → x ≡ nothing → first ≡ first ++ strays_in s (parcel_of S s x)
nothing_pushed S s x first e =
    sym (append-nil first) ∙ ap (λ (y : Contents). first ++ strays_in s (parcel_of S s y)) (sym e)
