-- What is seen of a world.
use Rattle.traffic.proofs.Common.{◌≡◌, ℕ, List, length, ap, refl, [], ◌∷◌, ◌+◌, Bool, inl, inr, suc, eqb, cases_Bool, map, filter, nat_lt, ◌==◌, LinkRow, below}
use Rattle.traffic.proofs.Common.{in_link, in_force, taken_at, World, on, Setup, link_row, hole_of, into}
use Rattle.traffic.specs.declared.{node_views.InLink.InLink, stage.Stage.TheVariants.Queue, stage.Stage.TheVariants.Buffer, world.Hole.Hole, world.Row.Row}
use Rattle.town.specs.{Setups.setup_of, Views.setup, declared.day_input.DayInput.DayInput}
use Rattle.rows.specs.Greens.{is_green, green_at}
use Rattle.plain_day.specs.Views.{is_in_force, is_in}

-- the holes in force of a link, counted among all holes
counted : (l t h : ℕ) (hs : List Hole) → in_force t h (map (λ (x : Hole). x.second) (filter (λ (x : Hole). x.link == l) hs)) ≡ length (filter (is_in_force l t h) hs)
counted l t h [] = refl
counted l t h (x ∷ xs) =
    let g = counted l t h xs in
    elim (cases_Bool (eqb x.link l)) [
      | inl e ↦ elim (cases_Bool (nat_lt t (x.second + h))) [ inl f ↦ simp (e, f) (ap suc g) | inr f ↦ simp (e, f) g ]
      | inr e ↦ simp e g
    ]

pub taken_is : (S : Setup) (t l : ℕ) (W : World) (rows : List Row) (hs : List Hole) (queue h holes taken : ℕ) → rows ≡ W.rows → hs ≡ W.holes →
    queue ≡ length (filter (on l Queue) rows) → h ≡ hole_of S l → holes ≡ length (filter (is_in_force l t h) hs) → taken ≡ queue + holes → taken ≡ taken_at S t l W
taken_is S t l W rows hs queue h holes taken r s q e f g =
    rw (g, q, f, r, s, ← counted l t h W.holes, e)

-- a link as the node at its end sees it
pub in_link_is : (day : DayInput) (t l : ℕ) (W : World) (row : LinkRow) (green : Bool) (rows here : List Row) → link_row (setup day) l ≡ row → green ≡ is_green (green_at day.town.now.greens l) t →
    rows ≡ W.rows → here ≡ filter (on l Buffer) rows → ◌≡◌ {A = InLink} (record { link = l; capacity = row.capacity; green = green; rows = here }) (in_link (setup day) t W l)
unfolding setup_of
in_link_is day t l W row green rows here e g r h =
    rw (h, r, g, ← e)

-- the links into a node, by the day's list of links
pub into_is : (day : DayInput) (n : ℕ) → into (setup day) n ≡ filter (is_in (setup day) n) (below (length day.town.now.network.links))
unfolding into setup_of
into_is day n = refl
