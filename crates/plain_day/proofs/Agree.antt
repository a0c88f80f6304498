-- What a node does depends only on the out-links to which the rows in the buffers lead.
use Rattle.traffic.proofs.Common.{◌≡◌, ℕ, List, ◌∙◌, length, ap, refl, [], ◌∷◌, ◌<◌, ◌++◌, ◌+◌, suc, eqb, zero, get_or, ◌*◌, map, not, Option, if◌then◌else◌}
use Rattle.traffic.proofs.Common.{Stuck, without_at, is_nil, with_one_more, since_of, pass_node_all, drawn, no_in_link, red, candidates, next_link, ready}
use Rattle.traffic.proofs.Common.{node_moves, draw, one_more, pass_node, mark, out_links_after}
use Rattle.traffic.proofs.Each.{each_get_or, each_without_at, each_kept}
use Rattle.traffic.specs.declared.{moves.Move.Move, moves.Move.TheVariants.Transfer, node_views.InLink.InLink, node_views.OutLink.OutLink, world.Row.Row}
use Rattle.std.specs.List.{AllByRecursion as Each}
use Rattle.plain_day.proofs.Fitting.{GoWithin}

-- two nodes' out-links are the same for so many links
abbrev pub Agree : ℕ → (ℕ → Option OutLink) → (ℕ → Option OutLink) → Type 0
Agree links e f = (m : ℕ) → m < links → e m ≡ f m

agree_more : (links m : ℕ) (e f : ℕ → Option OutLink) → Agree links e f → Agree links (one_more m e) (one_more m f)
unfolding one_more
agree_more links m e f h l b = ap (λ (x : Option OutLink). if eqb l m then with_one_more x else x) (h l b)

agree_after : (links : ℕ) (ms : List Move) (e f : ℕ → Option OutLink) → Agree links e f → Agree links (out_links_after ms e) (out_links_after ms f)
agree_after links [] e f h = h
agree_after links (Transfer l s k was now ∷ ms) e f h = agree_after links ms (one_more now.link e) (one_more now.link f) (agree_more links now.link e f h)
agree_after links (_ ∷ ms) e f h = agree_after links ms e f h

pass_node_same : (links : ℕ) (K : Stuck) (t a : ℕ) (e f : ℕ → Option OutLink) (since : ℕ) (rows : List Row) → Agree links e f → GoWithin links rows → pass_node K t a e since rows ≡ pass_node K t a f since rows
unfolding pass_node
pass_node_same links K t a e f since [] h g = refl
pass_node_same links K t a e f since (r ∷ rs) h g =
    let m = next_link r.vehicle in
    let q : e m ≡ f m = h m g.0 in
    let i = pass_node_same links K t a (one_more m e) (one_more m f) t rs (agree_more links m e f h) g.1 in
    let j = pass_node_same links K t a e f t rs h g.1 in
    rw (q, i, j) refl

-- all rows before a node go on within these links
abbrev pub Goes : ℕ → InLink → Type 0
Goes links e = GoWithin links e.rows

draw_same : (links : ℕ) (K : Stuck) (t : ℕ) (word : ℕ → ℕ) (left j : ℕ) (es : List InLink) (e f : ℕ → Option OutLink) → Agree links e f → Each (Goes links) es →
    draw K t word left j es e ≡ draw K t word left j es f
unfolding draw
draw_same links K t word zero j es e f h g = refl
draw_same links K t word (suc left) j es e f h g =
    let k = drawn es (word (16 * t + j)) in
    let x = get_or es k no_in_link in
    let q : pass_node_all K t e x ≡ pass_node_all K t f x = pass_node_same links K t x.link e f (since_of x.rows) x.rows h (each_get_or (Goes links) es k no_in_link tt g) in
    let i : draw K t word left (j + 1) (without_at k es) (out_links_after (pass_node_all K t f x) e) ≡ draw K t word left (j + 1) (without_at k es) (out_links_after (pass_node_all K t f x) f)
    = draw_same links K t word left (j + 1) (without_at k es) (out_links_after (pass_node_all K t f x) e) (out_links_after (pass_node_all K t f x) f) (agree_after links (pass_node_all K t f x) e f h) (each_without_at (Goes links) k es g) in
    ap (λ (ms : List Move). ms ++ draw K t word left (j + 1) (without_at k es) (out_links_after ms e)) q ∙ ap (λ (ms : List Move). pass_node_all K t f x ++ ms) i

pub node_same : (links : ℕ) (K : Stuck) (t : ℕ) (word : ℕ → ℕ) (es : List InLink) (e f : ℕ → Option OutLink) → Agree links e f → Each (Goes links) es →
    node_moves K t word (record { in_links = es; out_links = e }) ≡ node_moves K t word (record { in_links = es; out_links = f })
unfolding node_moves
node_same links K t word es e f h g =
    let go = each_kept (Goes links) (λ (x : InLink). x.green) (ready es) (each_kept (Goes links) (λ (x : InLink). not (is_nil x.rows)) es g) in
    ap (λ (ms : List Move). map (mark t) (red es) ++ ms) (draw_same links K t word (length (candidates es)) 0 (candidates es) e f h go)
