-- What the links of a network keep.
use Rattle.std.proofs.{Common.◌≡◌, Common.ℕ, Common.◌<◌, Common.true, Common.List, Common.length, Common.arith, lemmas.Bool.Decides.nat_tests}
use Rattle.std.{proofs.lemmas.List.length-map, proofs.lemmas.List.Sums.AllPass-from_list_all, specs.List.list_all, specs.Prelude.slice_index_or}
use Rattle.rows.specs.{Joined.ends_of, Joined.ends_of_link, Networks.is_link, Networks.are_measures, declared.network.LinkRow.LinkRow}

moves : (nodes : ℕ) (link : LinkRow) → is_link nodes link ≡ true → 0 < link.speed
unfolding is_link are_measures
moves nodes link sound = grind (arith, nat_tests)

-- no link stands still
pub all_move : (nodes : ℕ) (links : List LinkRow) → list_all (is_link nodes) links ≡ true → (k : ℕ) (d : LinkRow) → k < length links →
    0 < (slice_index_or links k d).speed
all_move nodes links sound k d within = moves nodes (slice_index_or links k d)
    (AllPass-from_list_all (is_link nodes) links sound k d within)

-- each link has its two ends
pub length-ends_of : (links : List LinkRow) → length (ends_of links) ≡ length links
unfolding ends_of
length-ends_of links = length-map links ends_of_link
