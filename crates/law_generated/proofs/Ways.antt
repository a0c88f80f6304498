-- Ways over a grid: between any two nodes there is one of few links, so that the one of least arrival has few.
use Rattle.std.proofs.Common.{◌≡◌, ◌∙◌, ◌<◌, ◌≤◌, ◌+◌, ◌-◌, ◌*◌, ◌/◌, ◌%◌, ◌++◌, ℕ, zero, suc, arith, ap, sym, subst, refl, inl, inr, Bool, true, false, List}
use Rattle.std.proofs.{Common.[], Common.◌∷◌, Common.length, Common.length-append, Common.Option, Common.None, Common.Some, lemmas.Bool.cases_lt}
use Rattle.std.proofs.lemmas.{Bool.Decides.nat_tests, Nat.div-add-mod', Nat.div-mul-add, Nat.div_below, Nat.mod-mul-add, Nat.mod_below, Nat.mul-le}
use Rattle.std.specs.{Option.option_map, Prelude.MatchOption, Prelude.is_some, Prelude.nat_eq, Prelude.nat_le, Prelude.if◌then◌else◌}
use Rattle.limits.specs.declared.TheConstants.{MAX_ROUTE_LINKS}
use Rattle.router.specs.{Graphs.Graph, Routes.allowed, Routes.leg_route, Routes.way_to}
use Rattle.walks.proofs.{Followed.chosen_is_least, Least.least_or_none}
use Rattle.walks.specs.{Arrivals.Arrivals, Arrivals.IsFifo, Chosen.chosen_route, Rounds.label_at, Rounds.least_labels}
use Rattle.walks.specs.Walks.{AreWithin, Ends, IsLeast, IsWalk, NoWalk, arrival, end_of, start_of}

-- a way of so many links
abbrev pub IsWay : Ends → ℕ → ℕ → ℕ → Type 0
IsWay ends from to count = (links : List ℕ) × IsWalk ends from links to × (length links ≡ count)

-- one way behind another
pub onward : (ends : Ends) (from middle to a b : ℕ) → IsWay ends from middle a → IsWay ends middle to b → IsWay ends from to (a + b)
onward ends from middle to a b first second = (
  first.0 ++ second.0,
  joined first.0 from first.1,
  length-append first.0 second.0 ∙ both (length first.0) (length second.0) a b first.2 second.2,
)
  where
    both : (x y a b : ℕ) → x ≡ a → y ≡ b → x + y ≡ a + b
    both x y a b p q = omega (arith, p, q)

    joined : (links : List ℕ) (from : ℕ) → IsWalk ends from links middle → IsWalk ends from (links ++ second.0) to
    joined [] from walk = subst (λ (n : ℕ). IsWalk ends n second.0 to) (sym walk) second.1
    joined (link ∷ links) from walk = (walk.0, walk.1, joined links (end_of ends link) walk.2)

-- links that take as many seconds whenever they are entered
module _ (ends : Ends) (arrive : Arrivals) (seconds : ℕ)
    (alike : (link second : ℕ) → link < length ends → arrive link second ≡ second + seconds) where
  arrival_is : (links : List ℕ) (from to second : ℕ) → IsWalk ends from links to
      → arrival arrive second links ≡ second + seconds * length links
  arrival_is [] from to second walk = omega arith
  arrival_is (link ∷ links) from to second walk =
      let rest = arrival_is links (end_of ends link) to (arrive link second) walk.2 in
      let here = alike link second walk.0 in
      omega (arith, rest, here)

-- where there is a way of few links, the route of least arrival has few, where all links take as long
module _ (nodes : ℕ) (ends : Ends) (arrive : Arrivals) (fifo : IsFifo arrive) (inside : AreWithin nodes ends)
    (seconds : ℕ) (some : 1 ≤ seconds) (alike : (link second : ℕ) → link < length ends → arrive link second ≡ second + seconds)
    (second from to count : ℕ) (within : from < nodes) (way : IsWay ends from to count) where
  abbrev labels : List (Option ℕ)
  labels = least_labels nodes ends arrive from second

  abbrev route : List ℕ
  route = chosen_route nodes ends arrive labels from to

  not_more : (x y : ℕ) → seconds * x ≤ seconds * y → x ≤ y
  not_more x y less = grind (arith, some, less)

  by_label : (o : Option ℕ) → label_at labels to ≡ o → MatchOption o (NoWalk ends from to) (IsLeast ends arrive from second to)
      → (o ≡ None → ⊥) × (length route ≤ count)
  by_label None is none = absurd (none way.0 way.1)
  by_label (Some at) is least =
      let found = chosen_is_least nodes ends arrive fifo inside from second within to at is in
      let early = least.none_earlier way.0 way.1 in
      let mine = arrival_is ends arrive seconds alike route from to second found.0 in
      let theirs = arrival_is ends arrive seconds alike way.0 from to second way.1 in (
        (λ e. let bad : Some at ≡ None = e in absurd (cc bad)),
        not_more (length route) count (omega (arith, found.1, early, mine, theirs, ap (λ (n : ℕ). seconds * n) way.2)),
      )

  pub short_route : (label_at labels to ≡ None → ⊥) × (length route ≤ count)
  short_route = by_label (label_at labels to) refl (least_or_none nodes ends arrive fifo inside from second within to)

-- a way of at most so many links
pub record IsShortWay (ends : List (ℕ × ℕ)) (from to most : ℕ) : Type 0 where
  pub count : ℕ
  pub way : IsWay ends from to count
  pub few : count ≤ most

both_short : (ends : Ends) (from middle to a b : ℕ) → IsShortWay ends from middle a → IsShortWay ends middle to b
    → IsShortWay ends from to (a + b)
both_short ends from middle to a b first second = record {
  count = first.count + second.count;
  way = onward ends from middle to first.count second.count first.way second.way;
  few = omega (arith, first.few, second.few);
}

-- so there is a route for a leg between two links, where it has few enough
kept_short : (way : List ℕ) (here there : ℕ) → length way ≤ 900 → is_some (allowed (Some (here ∷ way ++ there ∷ []))) ≡ true
kept_short way here there few =
    let count = length-append way (there ∷ []) in
    let fits : length (here ∷ way ++ there ∷ []) ≤ MAX_ROUTE_LINKS = omega (arith, count, few) in
    by (nat_le (length (here ∷ way ++ there ∷ [])) MAX_ROUTE_LINKS) (at_most (length (here ∷ way ++ there ∷ [])) MAX_ROUTE_LINKS fits)
  where
    at_most : (a b : ℕ) → a ≤ b → nat_le a b ≡ true
    at_most a b h = grind (arith, nat_tests)

    by : (b : Bool) → b ≡ true → is_some (if b then Some (here ∷ way ++ there ∷ []) else None) ≡ true
    by true h = refl
    by false h = absurd (cc h)

module _ (graph : Graph) (arrive : Arrivals) (second here there : ℕ) where
  abbrev found : List (Option ℕ)
  found = least_labels graph.nodes graph.ends arrive (end_of graph.ends here) second

  abbrev between : List ℕ
  between = chosen_route graph.nodes graph.ends arrive found (end_of graph.ends here) (start_of graph.ends there)

  by_way : (o : Option ℕ) → (o ≡ None → ⊥) → length between ≤ 900
      → is_some (allowed (option_map (λ way. here ∷ way ++ there ∷ []) (option_map (λ at. between) o))) ≡ true
  by_way None some few = absurd (some refl)
  by_way (Some at) some few = kept_short between here there few

  pub leg_routed : (label_at found (start_of graph.ends there) ≡ None → ⊥) → length between ≤ 900
      → is_some (allowed (leg_route graph arrive second here there)) ≡ true
  unfolding leg_route way_to
  leg_routed some few = by_test (nat_eq here there)
    where
      by_test : (b : Bool) → is_some (allowed (if b then Some (here ∷ [])
          else option_map (λ way. here ∷ way ++ there ∷ [])
          (option_map (λ at. between) (label_at found (start_of graph.ends there))))) ≡ true
      by_test true = refl
      by_test false = by_way (label_at found (start_of graph.ends there)) some few

-- ALONG ROWS AND COLUMNS
-- steps of a grid that are links: from a node to the one at a distance, and back
module _ (ends : Ends) (size : ℕ) (some : 2 ≤ size)
    (right : (node : ℕ) → node < size * size → node % size + 1 < size → IsWay ends node (node + 1) 1)
    (left : (node : ℕ) → node < size * size → node % size + 1 < size → IsWay ends (node + 1) node 1)
    (down : (node : ℕ) → node < size * size → node / size + 1 < size → IsWay ends node (node + size) 1)
    (up : (node : ℕ) → node < size * size → node / size + 1 < size → IsWay ends (node + size) node 1) where
  positive : 0 < size
  positive = omega (arith, some)

  stay : (node : ℕ) → IsWay ends node node 0
  stay node = ([], refl, refl)

  -- a place of a row and a column
  abbrev at : ℕ → ℕ → ℕ
  at row column = row * size + column

  inside : (row column : ℕ) → row < size → column < size → row * size + column < size * size
  inside row column r c =
      let whole = mul-le (row + 1) size size size (omega (arith, r)) (omega arith) in
      omega (arith, whole, c)

  -- to a later column of the row, and back
  to_right : (row column distance : ℕ) → row < size → column + distance < size
      → IsWay ends (row * size + column) (row * size + (column + distance)) distance
  to_right row column zero r c =
      let same : row * size + column ≡ row * size + (column + 0) = omega arith in
      subst (λ (n : ℕ). IsWay ends (row * size + column) n 0) same (stay (row * size + column))
  to_right row column (suc distance) r c =
      let here : (row * size + (column + distance)) % size ≡ column + distance =
      mod-mul-add row size (column + distance) (omega (arith, c)) in
      let next : row * size + (column + distance) + 1 ≡ row * size + (column + suc distance) = omega arith in
      let count : distance + 1 ≡ suc distance = omega arith in
      let step = right (row * size + (column + distance)) (inside row (column + distance) r (omega (arith, c))) (omega (arith, here, c)) in
      subst (λ (n : ℕ). IsWay ends (row * size + column) (row * size + (column + suc distance)) n) count
      (subst (λ (n : ℕ). IsWay ends (row * size + column) n (distance + 1)) next
      (onward ends (row * size + column) (row * size + (column + distance)) (row * size + (column + distance) + 1) distance 1
      (to_right row column distance r (omega (arith, c))) step))

  to_left : (row column distance : ℕ) → row < size → column + distance < size
      → IsWay ends (row * size + (column + distance)) (row * size + column) distance
  to_left row column zero r c =
      let same : row * size + column ≡ row * size + (column + 0) = omega arith in
      subst (λ (n : ℕ). IsWay ends n (row * size + column) 0) same (stay (row * size + column))
  to_left row column (suc distance) r c =
      let here : (row * size + (column + distance)) % size ≡ column + distance =
      mod-mul-add row size (column + distance) (omega (arith, c)) in
      let next : row * size + (column + distance) + 1 ≡ row * size + (column + suc distance) = omega arith in
      let count : 1 + distance ≡ suc distance = omega arith in
      let step = left (row * size + (column + distance)) (inside row (column + distance) r (omega (arith, c))) (omega (arith, here, c)) in
      subst (λ (n : ℕ). IsWay ends (row * size + (column + suc distance)) (row * size + column) n) count
      (subst (λ (n : ℕ). IsWay ends n (row * size + column) (1 + distance)) next
      (onward ends (row * size + (column + distance) + 1) (row * size + (column + distance)) (row * size + column) 1 distance step
      (to_left row column distance r (omega (arith, c)))))

  -- to a later row of the column, and back
  to_down : (row column distance : ℕ) → row + distance < size → column < size
      → IsWay ends (row * size + column) ((row + distance) * size + column) distance
  to_down row column zero r c =
      let same : row * size + column ≡ (row + 0) * size + column = omega arith in
      subst (λ (n : ℕ). IsWay ends (row * size + column) n 0) same (stay (row * size + column))
  to_down row column (suc distance) r c =
      let here : ((row + distance) * size + column) / size ≡ row + distance = div-mul-add (row + distance) size column c in
      let next : (row + distance) * size + column + size ≡ (row + suc distance) * size + column = omega arith in
      let count : distance + 1 ≡ suc distance = omega arith in
      let step = down ((row + distance) * size + column) (inside (row + distance) column (omega (arith, r)) c) (omega (arith, here, r)) in
      subst (λ (n : ℕ). IsWay ends (row * size + column) ((row + suc distance) * size + column) n) count
      (subst (λ (n : ℕ). IsWay ends (row * size + column) n (distance + 1)) next
      (onward ends (row * size + column) ((row + distance) * size + column) ((row + distance) * size + column + size) distance 1
      (to_down row column distance (omega (arith, r)) c) step))

  to_up : (row column distance : ℕ) → row + distance < size → column < size
      → IsWay ends ((row + distance) * size + column) (row * size + column) distance
  to_up row column zero r c =
      let same : row * size + column ≡ (row + 0) * size + column = omega arith in
      subst (λ (n : ℕ). IsWay ends n (row * size + column) 0) same (stay (row * size + column))
  to_up row column (suc distance) r c =
      let here : ((row + distance) * size + column) / size ≡ row + distance = div-mul-add (row + distance) size column c in
      let next : (row + distance) * size + column + size ≡ (row + suc distance) * size + column = omega arith in
      let count : 1 + distance ≡ suc distance = omega arith in
      let step = up ((row + distance) * size + column) (inside (row + distance) column (omega (arith, r)) c) (omega (arith, here, r)) in
      subst (λ (n : ℕ). IsWay ends ((row + suc distance) * size + column) (row * size + column) n) count
      (subst (λ (n : ℕ). IsWay ends n (row * size + column) (1 + distance)) next
      (onward ends ((row + distance) * size + column + size) ((row + distance) * size + column) (row * size + column) 1 distance step
      (to_up row column distance (omega (arith, r)) c)))

  -- to any column of the row
  along_row : (row from to : ℕ) → row < size → from < size → to < size → IsShortWay ends (row * size + from) (row * size + to) size
  along_row row from to r p q = elim (cases_lt from to) [
    | inl before ↦ forth (omega (arith, before))
    | inr behind ↦ back behind
  ]
    where
      forth : from ≤ to → IsShortWay ends (row * size + from) (row * size + to) size
      forth before =
          let there : from + (to - from) ≡ to = omega (arith, before) in
          record {
            count = to - from;
            way = subst (λ (n : ℕ). IsWay ends (row * size + from) (row * size + n) (to - from)) there
                (to_right row from (to - from) r (omega (arith, there, q)));
            few = omega (arith, q);
          }

      back : to ≤ from → IsShortWay ends (row * size + from) (row * size + to) size
      back behind =
          let there : to + (from - to) ≡ from = omega (arith, behind) in
          record {
            count = from - to;
            way = subst (λ (n : ℕ). IsWay ends (row * size + n) (row * size + to) (from - to)) there
                (to_left row to (from - to) r (omega (arith, there, p)));
            few = omega (arith, p);
          }

  -- to any row of the column
  along_column : (column from to : ℕ) → column < size → from < size → to < size
      → IsShortWay ends (from * size + column) (to * size + column) size
  along_column column from to c p q = elim (cases_lt from to) [
    | inl before ↦ forth (omega (arith, before))
    | inr behind ↦ back behind
  ]
    where
      forth : from ≤ to → IsShortWay ends (from * size + column) (to * size + column) size
      forth before =
          let there : from + (to - from) ≡ to = omega (arith, before) in
          record {
            count = to - from;
            way = subst (λ (n : ℕ). IsWay ends (from * size + column) (n * size + column) (to - from)) there
                (to_down from column (to - from) (omega (arith, there, q)) c);
            few = omega (arith, q);
          }

      back : to ≤ from → IsShortWay ends (from * size + column) (to * size + column) size
      back behind =
          let there : to + (from - to) ≡ from = omega (arith, behind) in
          record {
            count = from - to;
            way = subst (λ (n : ℕ). IsWay ends (n * size + column) (to * size + column) (from - to)) there
                (to_up to column (from - to) (omega (arith, there, p)) c);
            few = omega (arith, p);
          }

  -- from any node to any other: along its row, and then along the other's column
  pub across : (from to : ℕ) → from < size * size → to < size * size → IsShortWay ends from to (size + size)
  across from to p q =
      let here : from / size * size + from % size ≡ from = div-add-mod' from size in
      let there : to / size * size + to % size ≡ to = div-add-mod' to size in
      let row = div_below from size size positive p in
      let column = mod_below to size positive in
      subst (λ (n : ℕ). IsShortWay ends n to (size + size)) here
      (subst (λ (n : ℕ). IsShortWay ends (from / size * size + from % size) n (size + size)) there
      (both_short ends (from / size * size + from % size) (from / size * size + to % size) (to / size * size + to % size) size size
      (along_row (from / size) (from % size) (to % size) row (mod_below from size positive) column)
      (along_column (to % size) (from / size) (to / size) column row (div_below to size size positive q))))
