-- The ends of a link that was read.
use Rattle.std.proofs.Common.{◌≡◌, ℕ, ◌<◌, List, length, Option, sym, ◌∙◌, ap, subst, arith}
use Rattle.std.{proofs.lemmas.List.get_or-map, specs.Prelude.slice_index_or}
use Rattle.rows.specs.{Joined.ends_of, declared.network.LinkRow.LinkRow}
use Rattle.travel_times.proofs.Networks.{length-ends_of}
use Rattle.walks.specs.{Arrivals.Arrivals, Certificates.IsInTime, Certificates.IsKept}

pub is_link : (links rows : List LinkRow) (number : ℕ) → rows ≡ links → number < length rows → number < length (ends_of links)
is_link links rows number same within =
    let count = length-ends_of links in
    let rows_count = ap (λ (ls : List LinkRow). length ls) same in
    omega arith

module _ (links rows : List LinkRow) (arrive : Arrivals) (labels : List (Option ℕ)) (number : ℕ) (default : LinkRow)
    (same : rows ≡ links) (within : number < length rows) where
  abbrev link : LinkRow
  link = slice_index_or rows number default

  ends_at : slice_index_or (ends_of links) number (0, 0) ≡ (link.from, link.to)
  unfolding ends_of
  ends_at =
      get_or-map (λ (l : LinkRow). (l.from, l.to)) links number default (0, 0)
      (let rows_count = ap (λ (ls : List LinkRow). length ls) same in omega arith)
      ∙ ap (λ (ls : List LinkRow). ((slice_index_or ls number default).from, (slice_index_or ls number default).to)) (sym same)

  -- the labels hold along it
  pub kept_by_row : IsInTime arrive labels number link.from link.to → IsKept (ends_of links) arrive labels number
  kept_by_row in_time =
      let P : ℕ × ℕ → Type 0 = λ p. IsInTime arrive labels number p.0 p.1 in
      subst P (sym ends_at) in_time

  pub row_kept : IsKept (ends_of links) arrive labels number → IsInTime arrive labels number link.from link.to
  row_kept kept = let P : ℕ × ℕ → Type 0 = λ p. IsInTime arrive labels number p.0 p.1 in subst P ends_at kept
