-- What the turn of a node asks of the links into it: at most sixteen, each in a slot of its own, and who is in their buffers goes on.
use Rattle.traffic.proofs.Common.{◌≡◌, ℕ, suc, ◌+◌, ◌<◌, ◌≤◌, Bool, true, List, [], ◌∷◌, ◌∙◌, ap, sym, refl, subst, inl, inr, arith, eqb, length, get_or}
use Rattle.traffic.proofs.Common.{filter, cases_Bool, length-filter, numbers, World, on, at, Setup, into, link_row, recursion_from_All, LinkRow}
use Rattle.traffic.proofs.Sublists.{on_is}
use Rattle.traffic.specs.{Nodes.HaveNext, Nodes.HasNext, declared.stage.Stage.TheVariants.Buffer, declared.world.Row.Row}
use Rattle.std.{proofs.lemmas.List.length-map, specs.List.AllByRecursion as Each}
use Rattle.limits.specs.declared.TheConstants.{MAX_IN_LINKS}
use Rattle.rows.specs.Networks.{in_links}
use Rattle.town.specs.{Setups.setup_of, Views.setup, declared.day_input.DayInput.DayInput}
use Rattle.law_in_range.{proofs.Sizes.buffer_next, specs.Rows.Counts, specs.Rows.IsFitRow, specs.Rows.IsFitWorld}
use Rattle.queue_link.specs.Links.{LinkView}
use Rattle.node_seconds.specs.{Networks.AreOnce, Turns.AreReadyInto}
use Rattle.calendar.specs.Due.{AreIn}
use Rattle.part_links.{proofs.Numbers.once_passed, specs.Links.LinksStandAt}
use Rattle.part_nodes.proofs.{Buffered.in_some, Into.town_links, Seen.number_is, Seen.buffer_is, Slots.node_there, Slots.node_back, Slots.once_numbers}
use Rattle.part_nodes.specs.{InLinks.slots_of, Phase.Extent, Phase.HasLinks, Turns.HaveNumbersIn}

-- AT MOST SIXTEEN
as_many : (f : ℕ → Bool) (n k : ℕ) (d : LinkRow) (rows : List LinkRow) → ((j : ℕ) → j < length rows → f (k + j) ≡ eqb (get_or rows j d).to n)
    → length (filter f (numbers k (length rows))) ≡ length (filter (λ (r : LinkRow). eqb r.to n) rows)
as_many f n k d [] h = refl
as_many f n k d (r ∷ rs) h =
    let first : f k ≡ eqb r.to n = ap f (let e : k ≡ k + 0 = omega arith in e) ∙ h 0 (omega arith) in
    let rest = as_many f n (k + 1) d rs (λ j lt.
    ap f (let e : k + 1 + j ≡ k + suc j = omega arith in e) ∙ (let s : suc j < length (r ∷ rs) = omega arith in h (suc j) s)) in
    elim (cases_Bool (eqb r.to n)) [
      | inl e ↦ let b = first ∙ e in simp (b, e) (ap suc rest)
      | inr e ↦ let b = first ∙ e in simp (b, e) rest
    ]

into_few : (day : DayInput) (n : ℕ) → length (into (setup day) n) ≤ MAX_IN_LINKS
unfolding setup_of into in_links
into_few day n =
    let links = day.town.now.network.links in
    let d : LinkRow = record { from = 0; to = 0; length = 0; speed = 1; capacity = 0; lanes = 0 } in
    let f : ℕ → Bool = λ l. eqb (link_row (setup day) l).to n in
    let count : length (filter f (numbers 0 (length links))) ≡ length (filter (λ (r : LinkRow). eqb r.to n) links)
    = as_many f n 0 d links (λ j lt. ap f (let e : 0 + j ≡ j = omega arith in e)) in
    let counted = length-filter (λ (r : LinkRow). eqb r.to n) links in
    let few = day.town.now.network.few_in_links n in
    let bound : length (filter f (numbers 0 (length links))) ≤ MAX_IN_LINKS = omega arith in
    bound

pub few_slots : (day : DayInput) (slots : List ℕ) (n : ℕ) → length (slots_of slots (into (setup day) n)) ≤ MAX_IN_LINKS
few_slots day slots n =
    let a = into_few day n in
    let b = length-map (into (setup day) n) (λ (l : ℕ). get_or slots l 0) in
    omega arith

-- EACH IN A SLOT OF ITS OWN
into_once : (S : Setup) (n : ℕ) → AreOnce (into S n)
unfolding into
into_once S n = once_passed (λ (l : ℕ). eqb (link_row S l).to n) (length S.links)

pub once_slots : (S : Setup) (E : Extent) (slots : List ℕ) (n : ℕ) → HasLinks S E slots → E.mine n ≡ true → AreOnce (slots_of slots (into S n))
once_slots S E slots n h own = once_numbers E.number (slots_of slots (into S n)) (subst AreOnce (sym (node_back S E slots n h own)) (into_once S n))

-- links of the town have numbers of links
pub town_numbers : (day : DayInput) (E : Extent) (t : ℕ) (slots : List ℕ) (links : List LinkView) (V : World) → HasLinks (setup day) E slots
    → LinksStandAt E.number E.size (setup day) t links V → HaveNumbersIn (length day.town.now.network.links) links
town_numbers day E t slots links V h stand k lt =
    let there : k < E.size = (let a = stand.count in omega arith) in
    let within = h.numbered.there k there in
    let same = number_is E (setup day) t k links V there stand in
    let many = town_links day in
    omega arith

-- WHO GOES ON
has_next : (z : Counts) (l : ℕ) (r : Row) → on l Buffer r ≡ true → IsFitRow z r → HasNext r.vehicle
has_next z l r e h =
    let few : length r.vehicle.route ≤ 1000 = h.vehicle.few_links in
    record { next = buffer_next z r h (on_is l Buffer r e).0; route = omega arith }

have_next : (z : Counts) (l : ℕ) (rows : List Row) → Each (IsFitRow z) rows → HaveNext (filter (on l Buffer) rows)
have_next z l [] h = tt
have_next z l (r ∷ rs) h =
    elim (cases_Bool (on l Buffer r)) [
      | inl e ↦ simp e (has_next z l r e h.0, have_next z l rs h.1)
      | inr e ↦ simp e (have_next z l rs h.1)
    ]

next_at : (z : Counts) (l : ℕ) (V : World) → IsFitWorld z V → HaveNext (at l Buffer V)
next_at z l V h = have_next z l V.rows (recursion_from_All (IsFitRow z) V.rows h.rows)

pub ready_into : (z : Counts) (E : Extent) (S : Setup) (t : ℕ) (links : List LinkView) (V : World) (ks : List ℕ) → IsFitWorld z V
    → LinksStandAt E.number E.size S t links V → AreIn E.size ks → AreReadyInto links ks
ready_into z E S t links V [] fit h there = tt
ready_into z E S t links V (k ∷ ks) fit h there =
    (subst HaveNext (sym (buffer_is E S t k links V there.0 h)) (next_at z (E.number k) V fit), ready_into z E S t links V ks fit h there.1)

-- IN SLOTS OF THE PART
pub slots_in : (S : Setup) (E : Extent) (slots : List ℕ) (n count : ℕ) (ks : List ℕ) → count ≡ E.size → ks ≡ slots_of slots (into S n)
    → HasLinks S E slots → E.mine n ≡ true → AreIn count ks
slots_in S E slots n count ks e are h own =
    subst (λ (k : ℕ). AreIn k ks) (sym e) (subst (λ (js : List ℕ). AreIn E.size js) (sym are) (node_there S E slots n h own))

pub some_in : (S : Setup) (E : Extent) (slots : List ℕ) (n count : ℕ) (p : ℕ → Bool) (ks : List ℕ) → count ≡ E.size
    → ks ≡ filter p (slots_of slots (into S n)) → HasLinks S E slots → E.mine n ≡ true → AreIn count ks
some_in S E slots n count p ks e are h own =
    subst (λ (k : ℕ). AreIn k ks) (sym e)
    (subst (λ (js : List ℕ). AreIn E.size js) (sym are) (in_some p E.size (slots_of slots (into S n)) (node_there S E slots n h own)))
