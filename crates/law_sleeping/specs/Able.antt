-- Which links into a node can hand over, and the drawing among these alone.
use Rattle.std.specs.List.{AllByRecursion as Each}
use Rattle.std.specs.Prelude.{◌≡◌, ℕ, zero, suc, ◌+◌, ◌*◌, ◌^◌, ◌<◌, Bool, true, false, ◌&&◌, ◌||◌, List, [], ◌∷◌, ◌++◌, filter, get_or, Option}
use Rattle.traffic.specs.Lists.{without_at}
use Rattle.traffic.specs.Nodes.{next_link, has_room, is_stuck, out_links_after, pass_node_all, drawn, no_in_link}
use Rattle.traffic.specs.declared.{moves.Move.Move, node_views.InLink.InLink, node_views.OutLink.OutLink, world.Row.Row}
use Rattle.rows.specs.declared.settings.Stuck.{Stuck}

-- whether the first of these rows can leave its buffer: its next link has room, or it is stuck
abbrev pub can_go : Stuck → ℕ → (ℕ → Option OutLink) → List Row → Bool
can_go K t out_links [] = false
can_go K t out_links (r ∷ rs) = has_room (out_links (next_link r.vehicle)) || is_stuck K t r.second

-- whether an in-link that is drawn hands anything over
abbrev pub can_pass_node : Stuck → ℕ → (ℕ → Option OutLink) → InLink → Bool
can_pass_node K t out_links e = can_go K t out_links e.rows

-- an in-link is able: it is green and its front can leave
abbrev pub is_able : Stuck → ℕ → (ℕ → Option OutLink) → InLink → Bool
is_able K t out_links e = e.green && can_pass_node K t out_links e

-- these out-links have room nowhere but where those have
abbrev pub IsFuller : (ℕ → Option OutLink) → (ℕ → Option OutLink) → Type 0
IsFuller out_links before = (m : ℕ) → has_room (out_links m) ≡ true → has_room (before m) ≡ true

-- every in-link has a weight, so that no pick misses
abbrev pub AreWeighted : List InLink → Type 0
AreWeighted es = Each (λ (e : InLink). 0 < e.capacity) es

-- every word is one of 32 bits
abbrev pub AreWords : (ℕ → ℕ) → Type 0
AreWords word = (p : ℕ) → word p < 2 ^ 32

-- the in-links in the order in which they are drawn, from pick number j on; no room matters for it
unfoldable pub order : ℕ → (ℕ → ℕ) → ℕ → ℕ → List InLink → List InLink
order t word zero j es = []
order t word (suc left) j es =
    let k = drawn es (word (16 * t + j)) in
    get_or es k no_in_link ∷ order t word left (j + 1) (without_at k es)

-- in-links hand over one after the other
unfoldable pub pass_node_each : Stuck → ℕ → (ℕ → Option OutLink) → List InLink → List Move
pass_node_each K t out_links [] = []
pass_node_each K t out_links (e ∷ es) =
    let moves = pass_node_all K t out_links e in
    moves ++ pass_node_each K t (out_links_after moves out_links) es

-- a choice of in-links, by the out-links as they are
abbrev pub Choice : Type 0
Choice = (ℕ → Option OutLink) → InLink → Bool

-- it has all that can hand over, now and later in the turn
abbrev pub HasAble : Stuck → ℕ → Choice → (ℕ → Option OutLink) → Type 0
HasAble K t p out_links = (later : ℕ → Option OutLink) → IsFuller later out_links → (e : InLink) → can_pass_node K t later e ≡ true
    → p later e ≡ true

-- the two choices that code may take: those that can hand over as things stand, and those that could when the turn began
abbrev pub able_now : Stuck → ℕ → Choice
able_now K t out_links e = can_pass_node K t out_links e

abbrev pub able_before : Stuck → ℕ → (ℕ → Option OutLink) → Choice
able_before K t start out_links e = can_pass_node K t start e

-- by how many are chosen: with none nothing, with one that one's handing over, and with more these moves
abbrev pub by_chosen : (InLink → List Move) → List Move → List InLink → List Move
by_chosen alone more [] = []
by_chosen alone more (e ∷ []) = alone e
by_chosen alone more (e ∷ f ∷ es) = more

-- The lazy drawing: words are read only while two or more of the chosen are left. The others stay in the sum of weights, and use up picks.
unfoldable pub draw_lazily : Choice → Stuck → ℕ → (ℕ → ℕ) → ℕ → ℕ → List InLink → (ℕ → Option OutLink) → List Move
draw_lazily p K t word zero j es out_links = []
draw_lazily p K t word (suc left) j es out_links =
    let k = drawn es (word (16 * t + j)) in
    let moves = pass_node_all K t out_links (get_or es k no_in_link) in
    let more = moves ++ draw_lazily p K t word left (j + 1) (without_at k es) (out_links_after moves out_links) in
    by_chosen (pass_node_all K t out_links) more (filter (p out_links) es)

-- the number of words that it reads
abbrev pub count_chosen : ℕ → List InLink → ℕ
count_chosen more [] = 0
count_chosen more (e ∷ []) = 0
count_chosen more (e ∷ f ∷ es) = more

unfoldable pub words_read : Choice → Stuck → ℕ → (ℕ → ℕ) → ℕ → ℕ → List InLink → (ℕ → Option OutLink) → ℕ
words_read p K t word zero j es out_links = 0
words_read p K t word (suc left) j es out_links =
    let k = drawn es (word (16 * t + j)) in
    let moves = pass_node_all K t out_links (get_or es k no_in_link) in
    let more = suc (words_read p K t word left (j + 1) (without_at k es) (out_links_after moves out_links)) in
    count_chosen more (filter (p out_links) es)
