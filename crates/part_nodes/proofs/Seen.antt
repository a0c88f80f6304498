-- What a node sees of the links of a network is what it sees of the world for which they stand.
use Rattle.traffic.proofs.Common.{◌≡◌, ℕ, List, ◌∙◌, length, ap, refl, [], ◌∷◌, arith, ◌<◌, ◌≤◌, ◌+◌, true, inl, inr, suc, zero, eqb, map, filter, Some}
use Rattle.traffic.proofs.Common.{cases_Bool, eqb-true, eq-eqb, below, numbers, in_link, out_link, World, Setup, into, link_row, next_link, at}
use Rattle.traffic.{proofs.Each.each_weaker, specs.Links.LinkState}
use Rattle.traffic.specs.declared.{node_views.InLink.InLink, stage.Stage.TheVariants.Buffer, world.Row.Row}
use Rattle.std.specs.List.{AllByRecursion as Each}
use Rattle.queue_link.specs.{Links.LinkView, Numbers.numbers_of, declared.numbers.LinkNumbers.LinkNumbers}
use Rattle.node_move.specs.{Entries.SpaceRows, NodeStates.in_link_of, NodeStates.in_links_of, Spaces.places_in}
use Rattle.node_seconds.specs.Networks.{lane, is_among}
use Rattle.calendar.specs.Due.{AreIn}
use Rattle.part_links.{proofs.Numbers.among_passed, specs.Links.LinksStandAt}
use Rattle.part_nodes.proofs.Leading.{Agree, Leads, Lead}
use Rattle.part_nodes.specs.{Phase.Extent, Phase.GoOnThere, Phase.places_at, Turns.lights_of}
use Rattle.law_joined_routes.specs.Going.{GoesOn}

-- NUMBERS
pub number_is : (E : Extent) (S : Setup) (t k : ℕ) (links : List LinkView) (V : World) → k < E.size → LinksStandAt E.number E.size S t links V
    → (lane links k).numbers.link ≡ E.number k
unfolding numbers_of
number_is E S t k links V lt h = ap (λ (n : LinkNumbers). n.link) (h.numbers k lt).numbers

capacity_is : (E : Extent) (S : Setup) (t k : ℕ) (links : List LinkView) (V : World) → k < E.size → LinksStandAt E.number E.size S t links V
    → (lane links k).numbers.capacity ≡ (link_row S (E.number k)).capacity
unfolding numbers_of
capacity_is E S t k links V lt h = ap (λ (n : LinkNumbers). n.capacity) (h.numbers k lt).numbers

pub buffer_is : (E : Extent) (S : Setup) (t k : ℕ) (links : List LinkView) (V : World) → k < E.size → LinksStandAt E.number E.size S t links V
    → (lane links k).lists.buffer ≡ at (E.number k) Buffer V
buffer_is E S t k links V lt h = ap (λ (L : LinkState). L.buffer) (h.lists k lt)

-- the links into a node: each there, each once, and each leads there
into_in : (S : Setup) (n k count : ℕ) → k + count ≤ length S.links → AreIn (length S.links) (filter (λ l. eqb (link_row S l).to n) (numbers k count))
into_in S n k zero le = tt
into_in S n k (suc count) le =
    let rest = into_in S n (k + 1) count (omega arith) in
    elim (cases_Bool (eqb (link_row S k).to n)) [ inl e ↦ rw e (omega arith, rest) | inr e ↦ rw e rest ]

pub into_there : (S : Setup) (n : ℕ) → AreIn (length S.links) (into S n)
unfolding into
into_there S n = into_in S n 0 (length S.links) (omega arith)

-- a link is among them where it leads there
pub among_into : (S : Setup) (n l : ℕ) → l < length S.links → is_among l (into S n) ≡ eqb (link_row S l).to n
unfolding into
among_into S n l lt = among_passed (λ (k : ℕ). eqb (link_row S k).to n) l 0 (length S.links) (omega arith) (omega arith)

into_leads : (S : Setup) (n : ℕ) (ls : List ℕ) → Each (λ (l : ℕ). (link_row S l).to ≡ n) (filter (λ l. eqb (link_row S l).to n) ls)
into_leads S n [] = tt
into_leads S n (l ∷ ls) =
    elim (cases_Bool (eqb (link_row S l).to n)) [
      | inl e ↦ rw e (eqb-true (link_row S l).to n e, into_leads S n ls)
      | inr e ↦ rw e (into_leads S n ls)
    ]

pub into_to : (S : Setup) (n : ℕ) → Each (λ (l : ℕ). (link_row S l).to ≡ n) (into S n)
unfolding into
into_to S n = into_leads S n (below (length S.links))

-- THE LINKS INTO THE NODE
in_link_is : (E : Extent) (S : Setup) (t k : ℕ) (links : List LinkView) (V : World) → k < E.size → LinksStandAt E.number E.size S t links V
    → in_link_of (lane links k) (S.green (lane links k).numbers.link t) ≡ in_link S t V (E.number k)
in_link_is E S t k links V lt h =
    let a = number_is E S t k links V lt h in
    let b = capacity_is E S t k links V lt h in
    let c = buffer_is E S t k links V lt h in
    λ i. record { link = a i; capacity = b i; green = S.green (a i) t; rows = c i }

pub in_links_are : (E : Extent) (S : Setup) (t : ℕ) (links : List LinkView) (V : World) (ks : List ℕ) → AreIn E.size ks
    → LinksStandAt E.number E.size S t links V
    → in_links_of (map (lane links) ks) (lights_of S t links ks) ≡ map (in_link S t V) (map E.number ks)
in_links_are E S t links V [] there h = refl
in_links_are E S t links V (k ∷ ks) there h =
    let a = in_link_is E S t k links V there.0 h in
    let b = in_links_are E S t links V ks there.1 h in
    ap (λ (e : InLink). e ∷ in_links_of (map (lane links) ks) (lights_of S t links ks)) a
    ∙ ap (λ (es : List InLink). in_link S t V (E.number k) ∷ es) b

-- THE LINKS OUT OF IT
-- link m is there and begins at node n
abbrev pub IsOut : Setup → ℕ → ℕ → Type 0
IsOut S n m = (m < length S.links) × ((link_row S m).from ≡ n)

pub out_agree : (E : Extent) (S : Setup) (t n : ℕ) (space : SpaceRows) (V : World) → E.mine n ≡ true
    → ((m : ℕ) → m < length S.links → E.mine (link_row S m).from ≡ true → places_in space m ≡ Some (places_at S t V m))
    → Agree (IsOut S n) (places_in space) (out_link S t n V)
out_agree E S t n space V own h m out =
    let e : eqb (link_row S m).from n ≡ true = eq-eqb (link_row S m).from n out.1 in
    h m out.0 (ap E.mine out.1 ∙ own) ∙ rw e refl

lead_at : (E : Extent) (S : Setup) (n l : ℕ) (V : World) → GoOnThere E.mine S V → E.mine n ≡ true → l < length S.links → (link_row S l).to ≡ n
    → Lead (IsOut S n) (at l Buffer V)
lead_at E S n l V h own lt e =
    each_weaker (GoesOn S l) (λ (r : Row). IsOut S n (next_link r.vehicle)) (λ r g. (g.there, g.joined ∙ e)) (at l Buffer V)
    (h l lt (ap E.mine e ∙ own))

pub all_lead : (E : Extent) (S : Setup) (t n : ℕ) (V : World) (ls : List ℕ) → GoOnThere E.mine S V → E.mine n ≡ true → AreIn (length S.links) ls
    → Each (λ (l : ℕ). (link_row S l).to ≡ n) ls → Each (Leads (IsOut S n)) (map (in_link S t V) ls)
all_lead E S t n V [] h own lt to = tt
all_lead E S t n V (l ∷ ls) h own lt to = (lead_at E S n l V h own lt.0 to.0, all_lead E S t n V ls h own lt.1 to.1)
