-- A turn that has nothing to do makes no moves.
use Rattle.traffic.proofs.Common.{◌≡◌, ℕ, List, ◌∙◌, length, ap, refl, [], ◌∷◌, ◌++◌, ◌+◌, ◌≢◌, ne_eqb, map, filter, Some, not, Option, Mode, raised, Act}
use Rattle.traffic.proofs.Common.{Leg, Stuck, Rules, LinkState, link_moves, leave_bay, from_queue, from_wait, Credit, InLink, NodeView, OutLink, ready}
use Rattle.traffic.proofs.Common.{node_moves, draw, mark, landing, departure_moves, leaving, Row, Teleporting, At, Setup, departure, Waiter}
use Rattle.rows.specs.declared.plan.Leg.TheVariants as leg

-- a link with an empty queue, wait list and bay raises its credit alone
idle_state : (K : Rules) (t l : ℕ) (ws : List Waiter) (buffer : List Row) (credit : ℕ) → link_moves K t l ws (record { queue = []; buffer = buffer; wait = []; bay = []; credit = credit }) ≡ Credit l (raised K.gain credit) ∷ []
unfolding link_moves leave_bay from_queue from_wait
idle_state K t l ws buffer credit = refl

pub link_idle : (K : Rules) (t l : ℕ) (ws : List Waiter) (L : LinkState) → L.queue ≡ [] → L.wait ≡ [] → L.bay ≡ [] → link_moves K t l ws L ≡ Credit l (raised K.gain L.credit) ∷ []
link_idle K t l ws L e f g =
    let h : L ≡ record { queue = []; buffer = L.buffer; wait = []; bay = []; credit = L.credit } = λ i. record { queue = e i; buffer = L.buffer; wait = f i; bay = g i; credit = L.credit } in
    ap (link_moves K t l ws) h ∙ idle_state K t l ws L.buffer L.credit

-- a node with empty buffers does nothing
none_ready : (K : Stuck) (t : ℕ) (word : ℕ → ℕ) (out_links : ℕ → Option OutLink) (xs : List InLink) → xs ≡ [] →
    map (mark t) (filter (λ (e : InLink). not e.green) xs) ++ draw K t word (length (filter (λ (e : InLink). e.green) xs)) 0 (filter (λ (e : InLink). e.green) xs) out_links ≡ []
unfolding draw
none_ready K t word out_links xs e = rw e refl

pub node_idle : (K : Stuck) (t : ℕ) (word : ℕ → ℕ) (see : NodeView) → ready see.in_links ≡ [] → node_moves K t word see ≡ []
unfolding node_moves
node_idle K t word see e = none_ready K t word see.out_links (ready see.in_links) e

-- a person whose leg or activity does not end in this second does nothing, and neither does a departure of another second
pub landing_idle : (t i : ℕ) (mode : Mode) (seconds start : ℕ) (next : Act) → start + seconds ≢ t → landing t i (leg.Teleport mode seconds) next (Teleporting start) ≡ []
landing_idle t i mode seconds start next ne = let e = ne_eqb (start + seconds) t ne in rw e refl

pub leaving_idle : (S : Setup) (t i end : ℕ) (here : Act) (w : Leg) (next : Act) → end ≢ t → leaving S t i here w next (At (Some end)) ≡ []
leaving_idle S t i end here w next ne = let e = ne_eqb end t ne in rw e refl

pub departure_idle : (S : Setup) (t d : ℕ) → (departure S d).second ≢ t → departure_moves S t d ≡ []
unfolding departure_moves
departure_idle S t d ne = let e = ne_eqb (departure S d).second t ne in rw e refl
