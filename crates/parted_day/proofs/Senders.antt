-- The neighbours of a partition, as it absorbs their parcels.
use Rattle.traffic.proofs.Common.{◌≡◌, ℕ, zero, suc, ◌+◌, ◌<◌, ◌≤◌, List, ◌∙◌, ap, refl, arith, not, length, length-map, get_or}
use Rattle.traffic.proofs.Common.{get_or-map, filter, below, numbers, Setup}
use Rattle.std.proofs.lemmas.List.Filters.{length-filter_both}
use Rattle.limits.specs.declared.TheConstants.{MAX_PARTITIONS}
use Rattle.parts.specs.Owners.{Owner, near}
use Rattle.divided_day.specs.Borders.{border_from, borders_of}
use Rattle.law_parcels.specs.Hearing.{HearsFrom}
use Rattle.law_steps.specs.Steps.{net_of}
use Rattle.step_core.specs.{Nets.AreBorders, Nets.border_at, Nets.no_border, declared.part.Border.Border}
use Rattle.parted_day.specs.Absorbed.{neighbours_at}

pub many : (rows : List Border) → length (neighbours_at rows) ≡ length rows
many rows = length-map rows (λ (b : Border). b.neighbour)

many_numbers : (from n : ℕ) → length (numbers from n) ≡ n
many_numbers from zero = refl
many_numbers from (suc n) = ap suc (many_numbers (from + 1) n)

-- at most as many as there are partitions
pub few : (S : Setup) (own : Owner) (parts p : ℕ) → parts ≤ MAX_PARTITIONS → length (borders_of S own parts p) ≤ MAX_PARTITIONS
few S own parts p le =
    let near_p = λ (q : ℕ). near S own q p in
    let far_p = λ (q : ℕ). not (near S own q p) in
    let a = length-map (filter near_p (below parts)) (border_from S own p) in
    let b = length-filter_both near_p far_p (λ q. refl) (below parts) in
    let c = many_numbers 0 parts in
    omega arith

-- the neighbour at a place
pub neighbour_is : (rows : List Border) (k : ℕ) → k < length rows → get_or (neighbours_at rows) k 0 ≡ (border_at rows k).neighbour
neighbour_is rows k lt = get_or-map (λ (b : Border). b.neighbour) rows k no_border 0 lt

-- all of them, each once
pub hears_from : (S : Setup) (own : Owner) (parts end p : ℕ) (rows : List Border) → AreBorders (net_of S own parts end) p rows
    → HearsFrom S own p (neighbours_at rows)
hears_from S own parts end p rows h =
    let n = many rows in
    record {
      all = λ q e. (
          let a = h.all q e in
          let lt : a.0 < length (neighbours_at rows) = (let b = a.1 in omega arith) in
          (a.0, lt, neighbour_is rows a.0 a.1 ∙ a.2));
      ascend = λ j k less lt. (
          let a = neighbour_is rows j (omega arith) in
          let b = neighbour_is rows k (omega arith) in
          let c = h.ascend j k less (omega arith) in
          omega arith);
    }
