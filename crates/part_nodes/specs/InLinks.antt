-- Which links lead into a node, and in which slots they stand.
use Rattle.std.specs.Prelude.{◌≡◌, ℕ, ◌<◌, List, [], length, filter, map, get_or, ◌==◌}
use Rattle.rows.specs.declared.network.LinkRow.{LinkRow}
use Rattle.traffic.specs.{Lists.below, Setup.row_at}

-- the slots that a table gives these links
abbrev pub slots_of : List ℕ → List ℕ → List ℕ
slots_of slots ls = map (λ (l : ℕ). get_or slots l 0) ls

-- the node to which a link leads
abbrev pub leads_to : List LinkRow → ℕ → ℕ
leads_to links l = (row_at links l).to

-- those of the first so many links that lead into node n, ascending
abbrev pub first_into : List LinkRow → ℕ → ℕ → List ℕ
first_into links count n = filter (λ l. leads_to links l == n) (below count)

-- for each of so many nodes the slots of the links into it, of the first so many
pub record AreInto (size count : ℕ) (links : List LinkRow) (slots : List ℕ) (into : List (List ℕ)) : Type 0 where
  pub nodes : length into ≡ size
  pub each : (n : ℕ) → n < size → get_or into n [] ≡ slots_of slots (first_into links count n)
