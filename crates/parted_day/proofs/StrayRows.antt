-- The vehicles of a link by their places, and links by theirs.
use Rattle.traffic.proofs.Common.{◌≡◌, ℕ, zero, suc, ◌+◌, ◌<◌, ◌≤◌, List, [], ◌∷◌, ◌∙◌, ap, sym, refl, arith, drop, length, get_or, None, Some}
use Rattle.traffic.specs.{Vehicles.VehicleState, declared.world.Row.Row}
use Rattle.queue_link.specs.Links.{LinkView, all_rows, vehicle_at}
use Rattle.law_parts_of_days.specs.Riding.{put_riders, put_rows, put_links}

-- VEHICLES
next_row : (l place : ℕ) (rows : List Row) (v : VehicleState) (table : List ℕ) → Some v ≡ vehicle_at place rows
    → put_rows l (drop (place + 1) rows) (put_riders l v.riders table) ≡ put_rows l (drop place rows) table
unfolding put_rows
next_row l place [] v table e = absurd (cc)
next_row l zero (r ∷ rs) v table e =
    let same : v ≡ r.vehicle = cc in
    ap (λ (w : VehicleState). put_rows l rs (put_riders l w.riders table)) same
next_row l (suc k) (r ∷ rs) v table e =
    let next : suc k + 1 ≡ suc (k + 1) = omega arith in
    ap (λ (n : ℕ). put_rows l (drop n (r ∷ rs)) (put_riders l v.riders table)) next ∙ next_row l k rs v table e

-- the riders of one vehicle more
pub row_put : (l number place : ℕ) (rows : List Row) (v : VehicleState) (table now whole : List ℕ) → number ≡ l
    → Some v ≡ vehicle_at place rows
    → now ≡ put_riders number v.riders table → put_rows l (drop place rows) table ≡ whole → put_rows l (drop (place + 1) rows) now ≡ whole
row_put l number place rows v table now whole own e made so_far =
    ap (put_rows l (drop (place + 1) rows)) (made ∙ ap (λ (k : ℕ). put_riders k v.riders table) own) ∙ next_row l place rows v table e
    ∙ so_far

no_row : (l place : ℕ) (rows : List Row) (table : List ℕ) → None ≡ vehicle_at place rows → put_rows l (drop place rows) table ≡ table
unfolding put_rows
no_row l zero [] table e = refl
no_row l (suc k) [] table e = refl
no_row l zero (r ∷ rs) table e = absurd (cc)
no_row l (suc k) (r ∷ rs) table e = no_row l k rs table e

-- there is none any more
pub rows_put : (l place : ℕ) (rows : List Row) (table whole : List ℕ) → None ≡ vehicle_at place rows
    → put_rows l (drop place rows) table ≡ whole → table ≡ whole
rows_put l place rows table whole e so_far = sym (no_row l place rows table e) ∙ so_far

-- LINKS
next_link : (k : ℕ) (links : List LinkView) (v : LinkView) (table : List ℕ) → k < length links → v ≡ get_or links k v
    → put_links (drop (k + 1) links) (put_rows v.numbers.link (all_rows v.lists) table) ≡ put_links (drop k links) table
unfolding put_links
next_link k [] v table lt e = absurd (omega arith)
next_link zero (x ∷ xs) v table lt e = ap (λ (w : LinkView). put_links xs (put_rows w.numbers.link (all_rows w.lists) table)) e
next_link (suc k) (x ∷ xs) v table lt e =
    let next : suc k + 1 ≡ suc (k + 1) = omega arith in
    ap (λ (n : ℕ). put_links (drop n (x ∷ xs)) (put_rows v.numbers.link (all_rows v.lists) table)) next
    ∙ next_link k xs v table (omega arith) e

-- those of one link more
pub link_put : (k : ℕ) (links : List LinkView) (v : LinkView) (table now whole : List ℕ) → k < length links → v ≡ get_or links k v
    → now ≡ put_rows v.numbers.link (all_rows v.lists) table → put_links (drop k links) table ≡ whole
    → put_links (drop (k + 1) links) now ≡ whole
link_put k links v table now whole lt e made so_far = ap (put_links (drop (k + 1) links)) made ∙ next_link k links v table lt e ∙ so_far

no_link_more : (k : ℕ) (links : List LinkView) (table : List ℕ) → length links ≤ k → put_links (drop k links) table ≡ table
unfolding put_links
no_link_more zero [] table le = refl
no_link_more (suc k) [] table le = refl
no_link_more zero (x ∷ xs) table le = absurd (omega arith)
no_link_more (suc k) (x ∷ xs) table le = no_link_more k xs table (omega arith)

pub links_put : (k : ℕ) (links : List LinkView) (table whole : List ℕ) → length links ≤ k → put_links (drop k links) table ≡ whole
    → table ≡ whole
links_put k links table whole le so_far = sym (no_link_more k links table le) ∙ so_far
