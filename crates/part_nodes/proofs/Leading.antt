-- What a node does depends on those links out of it alone to which the rows in the buffers lead.
use Rattle.traffic.proofs.Common.{◌≡◌, ℕ, List, ◌∙◌, length, ap, refl, [], ◌∷◌, ◌++◌, ◌+◌, suc, eqb, zero, get_or, ◌*◌, map, not, Option, if◌then◌else◌, Stuck}
use Rattle.traffic.proofs.Common.{without_at, is_nil, with_one_more, since_of, pass_node_all, drawn, no_in_link, red, candidates, next_link, ready, node_moves}
use Rattle.traffic.proofs.Common.{draw, one_more, pass_node, mark, out_links_after}
use Rattle.traffic.{proofs.Each.each_get_or, proofs.Each.each_without_at, proofs.Each.each_kept, specs.declared.moves.Move.Move}
use Rattle.traffic.specs.declared.moves.Move.TheVariants.{Transfer, Remove, Enter, SetFrontSince, Credit, LeaveHole, Report}
use Rattle.traffic.specs.declared.{node_views.InLink.InLink, node_views.OutLink.OutLink, world.Row.Row}
use Rattle.std.specs.List.{AllByRecursion as Each}

-- two nodes' out-links are the same where this holds of their numbers
abbrev pub Agree : (ℕ → Type 0) → (ℕ → Option OutLink) → (ℕ → Option OutLink) → Type 0
Agree P e f = (m : ℕ) → P m → e m ≡ f m

agree_more : (P : ℕ → Type 0) (m : ℕ) (e f : ℕ → Option OutLink) → Agree P e f → Agree P (one_more m e) (one_more m f)
unfolding one_more
agree_more P m e f h l b = ap (λ (x : Option OutLink). if eqb l m then with_one_more x else x) (h l b)

agree_after : (P : ℕ → Type 0) (ms : List Move) (e f : ℕ → Option OutLink) → Agree P e f → Agree P (out_links_after ms e) (out_links_after ms f)
agree_after P [] e f h = h
agree_after P (Transfer l s k was now ∷ ms) e f h = agree_after P ms (one_more now.link e) (one_more now.link f) (agree_more P now.link e f h)
agree_after P (Remove l s k was ∷ ms) e f h = agree_after P ms e f h
agree_after P (Enter now ∷ ms) e f h = agree_after P ms e f h
agree_after P (SetFrontSince l t ∷ ms) e f h = agree_after P ms e f h
agree_after P (Credit l c ∷ ms) e f h = agree_after P ms e f h
agree_after P (LeaveHole l t ∷ ms) e f h = agree_after P ms e f h
agree_after P (Report says ∷ ms) e f h = agree_after P ms e f h

-- it holds of the next link of each row
abbrev pub Lead : (ℕ → Type 0) → List Row → Type 0
Lead P rows = Each (λ (r : Row). P (next_link r.vehicle)) rows

pass_node_same : (P : ℕ → Type 0) (K : Stuck) (t a : ℕ) (e f : ℕ → Option OutLink) (since : ℕ) (rows : List Row) → Agree P e f → Lead P rows
    → pass_node K t a e since rows ≡ pass_node K t a f since rows
unfolding pass_node
pass_node_same P K t a e f since [] h g = refl
pass_node_same P K t a e f since (r ∷ rs) h g =
    let m = next_link r.vehicle in
    let q : e m ≡ f m = h m g.0 in
    let i = pass_node_same P K t a (one_more m e) (one_more m f) t rs (agree_more P m e f h) g.1 in
    let j = pass_node_same P K t a e f t rs h g.1 in
    rw (q, i, j) refl

-- all rows before a node lead there
abbrev pub Leads : (ℕ → Type 0) → InLink → Type 0
Leads P e = Lead P e.rows

draw_same : (P : ℕ → Type 0) (K : Stuck) (t : ℕ) (word : ℕ → ℕ) (left j : ℕ) (es : List InLink) (e f : ℕ → Option OutLink) → Agree P e f
    → Each (Leads P) es → draw K t word left j es e ≡ draw K t word left j es f
unfolding draw
draw_same P K t word zero j es e f h g = refl
draw_same P K t word (suc left) j es e f h g =
    let k = drawn es (word (16 * t + j)) in
    let x = get_or es k no_in_link in
    let ms = pass_node_all K t f x in
    let q : pass_node_all K t e x ≡ ms = pass_node_same P K t x.link e f (since_of x.rows) x.rows h (each_get_or (Leads P) es k no_in_link tt g) in
    let i : draw K t word left (j + 1) (without_at k es) (out_links_after ms e) ≡ draw K t word left (j + 1) (without_at k es) (out_links_after ms f)
    = draw_same P K t word left (j + 1) (without_at k es) (out_links_after ms e) (out_links_after ms f) (agree_after P ms e f h)
    (each_without_at (Leads P) k es g) in
    ap (λ (ns : List Move). ns ++ draw K t word left (j + 1) (without_at k es) (out_links_after ns e)) q ∙ ap (λ (ns : List Move). ms ++ ns) i

pub node_same : (P : ℕ → Type 0) (K : Stuck) (t : ℕ) (word : ℕ → ℕ) (es : List InLink) (e f : ℕ → Option OutLink) → Agree P e f → Each (Leads P) es
    → node_moves K t word (record { in_links = es; out_links = e }) ≡ node_moves K t word (record { in_links = es; out_links = f })
unfolding node_moves
node_same P K t word es e f h g =
    let go = each_kept (Leads P) (λ (x : InLink). x.green) (ready es) (each_kept (Leads P) (λ (x : InLink). not (is_nil x.rows)) es g) in
    ap (λ (ms : List Move). map (mark t) (red es) ++ ms) (draw_same P K t word (length (candidates es)) 0 (candidates es) e f h go)
