-- One more link, leg or plan in a table.
use Rattle.std.proofs.Common.{◌≡◌, ℕ, ◌+◌, ◌<◌, List, [], ◌∷◌, ◌++◌, Bool, sym, ◌∙◌, ap, subst, length, get_or, take, map, append-nil, min}
use Rattle.std.proofs.lemmas.List.{take_more, map-append, get_or_default}
use Rattle.std.specs.{List.list_any, List.flat_map, Prelude.Option, Prelude.if◌then◌else◌, Prelude.◌==◌}
use Rattle.traffic.specs.Lists.{below}
use Rattle.rows.specs.{PlanRows.PlanRows, PlanRows.plan_rows, declared.network.LinkRow.LinkRow, declared.plan.Plan.Plan}
use Rattle.parts.specs.Owners.{Owner, Hop}
use Rattle.partition.specs.Neighbours.{AreJoined, is_either, is_hop_over, hop_in, hops_in, end_node, AreShorter, shortest, shortened, hole_at, seconds_of_hop}
use Rattle.partition.{specs.Neighbours.leads_over, specs.Neighbours.hop_leads_over, proofs.Numbers.flat_more, proofs.Numbers.flat_push}
use Rattle.partition.proofs.Tables.{and_comm, joined_more, joined_by_one, shorter_more, shorter_by_one, shorter_both}
use Rattle.travel_times.specs.Times.{free_of}

more_taken : {X : Type 0} (xs : List X) (i : ℕ) (x : X) → i < length xs → x ≡ get_or xs i x → take (i + 1) xs ≡ take i xs ++ x ∷ []
more_taken xs i x h e = take_more xs i x h ∙ ap (λ y. take i xs ++ y ∷ []) (sym e)

-- JOINED

pub hop_joined : (own : Owner) (links : List LinkRow) (rows : PlanRows) (k from to : ℕ) (h : Hop) (start old new : List Bool) → hop_in rows k ≡ h ∷ []
    → from ≡ own (end_node links h.from) → to ≡ own (end_node links h.to) → AreJoined (λ p q. list_any (is_hop_over own links p q) (flat_map (hop_in rows) (below k))) start old
    → AreJoined (is_either from to) old new → AreJoined (λ p q. list_any (is_hop_over own links p q) (flat_map (hop_in rows) (below (k + 1)))) start new
hop_joined own links rows k from to h start old new is ef et before one =
    let a = own (end_node links h.from) in
    let b = own (end_node links h.to) in
    let one2 : AreJoined (is_either a b) old new = subst (λ x. AreJoined (is_either x b) old new) ef (subst (λ y. AreJoined (is_either from y) old new) et one) in
    let all : flat_map (hop_in rows) (below (k + 1)) ≡ flat_map (hop_in rows) (below k) ++ h ∷ [] = flat_more (hop_in rows) k ∙ ap (λ zs. flat_map (hop_in rows) (below k) ++ zs) is in
    subst (λ xs. AreJoined (λ p q. list_any (is_hop_over own links p q) xs) start new) (sym all)
    (joined_more (is_hop_over own links) (flat_map (hop_in rows) (below k)) (h ∷ []) start old new before (joined_by_one (is_hop_over own links) h old new one2))

pub no_hop : (rows : PlanRows) (k : ℕ) → hop_in rows k ≡ [] → flat_map (hop_in rows) (below (k + 1)) ≡ flat_map (hop_in rows) (below k)
no_hop rows k is = flat_more (hop_in rows) k ∙ ap (λ zs. flat_map (hop_in rows) (below k) ++ zs) is ∙ append-nil (flat_map (hop_in rows) (below k))

pub no_hop_joined : (own : Owner) (links : List LinkRow) (rows : PlanRows) (k : ℕ) (start old : List Bool) → hop_in rows k ≡ []
    → AreJoined (λ p q. list_any (is_hop_over own links p q) (flat_map (hop_in rows) (below k))) start old
    → AreJoined (λ p q. list_any (is_hop_over own links p q) (flat_map (hop_in rows) (below (k + 1)))) start old
no_hop_joined own links rows k start old is before = subst (λ xs. AreJoined (λ p q. list_any (is_hop_over own links p q) xs) start old) (sym (no_hop rows k is)) before

more_plans : (chosen : List Plan) (i : ℕ) (plan : Plan) → i < length chosen → plan ≡ get_or chosen i plan
    → flat_map hops_in (map plan_rows (take (i + 1) chosen)) ≡ flat_map hops_in (map plan_rows (take i chosen)) ++ hops_in (plan_rows plan)
more_plans chosen i plan inside is =
    ap (λ xs. flat_map hops_in (map plan_rows xs)) (more_taken chosen i plan inside is)
    ∙ ap (flat_map hops_in) (map-append plan_rows (take i chosen) (plan ∷ [])) ∙ flat_push hops_in (map plan_rows (take i chosen)) (plan_rows plan)

-- SHORTER
pub link_shortened : (own : Owner) (speed : Option ℕ) (links : List LinkRow) (i : ℕ) (link : LinkRow) (from to seconds hole : ℕ) (start old mid new : List ℕ) → i < length links
    → link ≡ get_or links i link → from ≡ own link.from → to ≡ own link.to → seconds ≡ free_of link → hole ≡ hole_at speed link
    → AreShorter (λ p q n. shortest free_of (leads_over own p q) (take i links) (shortest (hole_at speed) (leads_over own q p) (take i links) n)) start old
    → AreShorter (shortened from to seconds) old mid → AreShorter (shortened to from hole) mid new
    → AreShorter (λ p q n. shortest free_of (leads_over own p q) (take (i + 1) links) (shortest (hole_at speed) (leads_over own q p) (take (i + 1) links) n)) start new
link_shortened own speed links i link from to seconds hole start old mid new inside is ef et es eh before one two =
    let a = own link.from in
    let b = own link.to in
    let one2 : AreShorter (shortened a b (free_of link)) old mid =
    subst (λ x. AreShorter (shortened x b (free_of link)) old mid) ef (subst (λ y. AreShorter (shortened from y (free_of link)) old mid) et (subst (λ z. AreShorter (shortened from to z) old mid) es one)) in
    let two2 : AreShorter (shortened b a (hole_at speed link)) mid new =
    subst (λ x. AreShorter (shortened b x (hole_at speed link)) mid new) ef (subst (λ y. AreShorter (shortened y from (hole_at speed link)) mid new) et (subst (λ z. AreShorter (shortened to from z) mid new) eh two)) in
    subst (λ xs. AreShorter (λ p q n. shortest free_of (leads_over own p q) xs (shortest (hole_at speed) (leads_over own q p) xs n)) start new) (sym (more_taken links i link inside is))
    (shorter_both free_of (hole_at speed) (leads_over own) (λ p q. leads_over own q p) (take i links) link start old mid new before one2 (λ p q lp lq. two2 p q lp lq ∙ turned own link p q (hole_at speed link) _))
  where
    turned : (own : Owner) (link : LinkRow) (p q m n : ℕ) → shortened (own link.to) (own link.from) m p q n ≡ (if leads_over own q p link then min m n else n)
    turned own link p q m n = ap (λ (c : Bool). if c then min m n else n) (and_comm (own link.to == p) (own link.from == q))

pub hop_shortened : (own : Owner) (links : List LinkRow) (rows : PlanRows) (k from to seconds : ℕ) (h : Hop) (start old new : List ℕ) → hop_in rows k ≡ h ∷ []
    → from ≡ own (end_node links h.from) → to ≡ own (end_node links h.to) → seconds ≡ h.seconds
    → AreShorter (λ p q n. shortest seconds_of_hop (hop_leads_over own links p q) (flat_map (hop_in rows) (below k)) n) start old → AreShorter (shortened from to seconds) old new
    → AreShorter (λ p q n. shortest seconds_of_hop (hop_leads_over own links p q) (flat_map (hop_in rows) (below (k + 1))) n) start new
hop_shortened own links rows k from to seconds h start old new is ef et es before one =
    let a = own (end_node links h.from) in
    let b = own (end_node links h.to) in
    let one2 : AreShorter (shortened a b h.seconds) old new =
    subst (λ x. AreShorter (shortened x b h.seconds) old new) ef (subst (λ y. AreShorter (shortened from y h.seconds) old new) et (subst (λ z. AreShorter (shortened from to z) old new) es one)) in
    let all : flat_map (hop_in rows) (below (k + 1)) ≡ flat_map (hop_in rows) (below k) ++ h ∷ [] = flat_more (hop_in rows) k ∙ ap (λ zs. flat_map (hop_in rows) (below k) ++ zs) is in
    subst (λ xs. AreShorter (λ p q n. shortest seconds_of_hop (hop_leads_over own links p q) xs n) start new) (sym all)
    (shorter_more seconds_of_hop (hop_leads_over own links) (flat_map (hop_in rows) (below k)) (h ∷ []) start old new before (shorter_by_one seconds_of_hop (hop_leads_over own links) h old new one2))

pub no_hop_shortened : (own : Owner) (links : List LinkRow) (rows : PlanRows) (k : ℕ) (start old : List ℕ) → hop_in rows k ≡ []
    → AreShorter (λ p q n. shortest seconds_of_hop (hop_leads_over own links p q) (flat_map (hop_in rows) (below k)) n) start old
    → AreShorter (λ p q n. shortest seconds_of_hop (hop_leads_over own links p q) (flat_map (hop_in rows) (below (k + 1))) n) start old
no_hop_shortened own links rows k start old is before =
    subst (λ xs. AreShorter (λ p q n. shortest seconds_of_hop (hop_leads_over own links p q) xs n) start old) (sym (no_hop rows k is)) before

pub plan_shortened : (own : Owner) (links : List LinkRow) (chosen : List Plan) (i : ℕ) (plan : Plan) (start old new : List ℕ) → i < length chosen → plan ≡ get_or chosen i plan
    → AreShorter (λ p q n. shortest seconds_of_hop (hop_leads_over own links p q) (flat_map hops_in (map plan_rows (take i chosen))) n) start old
    → AreShorter (λ p q n. shortest seconds_of_hop (hop_leads_over own links p q) (hops_in (plan_rows plan)) n) old new
    → AreShorter (λ p q n. shortest seconds_of_hop (hop_leads_over own links p q) (flat_map hops_in (map plan_rows (take (i + 1) chosen))) n) start new
plan_shortened own links chosen i plan start old new inside is before one =
    subst (λ xs. AreShorter (λ p q n. shortest seconds_of_hop (hop_leads_over own links p q) xs n) start new) (sym (more_plans chosen i plan inside is))
    (shorter_more seconds_of_hop (hop_leads_over own links) (flat_map hops_in (map plan_rows (take i chosen))) (hops_in (plan_rows plan)) start old new before one)

-- the same of the link at a place, whatever stands behind the last one
pub link_shortened_at : (own : Owner) (speed : Option ℕ) (links : List LinkRow) (i : ℕ) (d : LinkRow) (from to seconds hole : ℕ) (start old mid new : List ℕ) → i < length links
    → from ≡ own (get_or links i d).from → to ≡ own (get_or links i d).to → seconds ≡ free_of (get_or links i d) → hole ≡ hole_at speed (get_or links i d)
    → AreShorter (λ p q n. shortest free_of (leads_over own p q) (take i links) (shortest (hole_at speed) (leads_over own q p) (take i links) n)) start old
    → AreShorter (shortened from to seconds) old mid → AreShorter (shortened to from hole) mid new
    → AreShorter (λ p q n. shortest free_of (leads_over own p q) (take (i + 1) links) (shortest (hole_at speed) (leads_over own q p) (take (i + 1) links) n)) start new
link_shortened_at own speed links i d from to seconds hole start old mid new inside ef et es eh before one two =
    link_shortened own speed links i (get_or links i d) from to seconds hole start old mid new inside (get_or_default links i d (get_or links i d) inside) ef et es eh before one two
