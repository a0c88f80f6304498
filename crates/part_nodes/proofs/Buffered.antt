-- Of the links into a node only those with somebody in their buffers matter.
use Rattle.traffic.proofs.Common.{◌≡◌, ℕ, suc, ◌<◌, ◌≤◌, Bool, true, false, List, [], ◌∷◌, ◌++◌, ◌∙◌, ap, refl, sym, subst, arith, inl, inr, length, map}
use Rattle.traffic.proofs.Common.{filter, not, ◌||◌, cases_Bool, eqb, eqb-true, or_parts, true≢false, nat_lt, lt-ltb, Option, Some, World, Setup, at, into}
use Rattle.traffic.proofs.Common.{link_row, in_link, out_link, ready, mark, draw, node_moves, node_turns, word}
use Rattle.traffic.specs.Lists.{is_nil}
use Rattle.traffic.specs.declared.{moves.Move.Move, node_views.InLink.InLink, node_views.OutLink.OutLink, stage.Stage.TheVariants.Buffer, world.Row.Row}
use Rattle.std.specs.List.{AllByRecursion as Each}
use Rattle.rows.specs.declared.settings.Stuck.{Stuck}
use Rattle.draws.specs.Words.{Source}
use Rattle.queue_link.specs.Links.{LinkView}
use Rattle.node_move.specs.{Entries.SpaceRows, NodeStates.in_links_of, Spaces.places_in}
use Rattle.node_seconds.specs.Networks.{lane, is_among, AreOnce}
use Rattle.calendar.specs.Due.{AreIn}
use Rattle.part_links.specs.Links.{LinksStandAt}
use Rattle.part_nodes.proofs.{Leading.node_same, Seen.IsOut, Seen.buffer_is, Seen.into_to, Seen.in_links_are, Seen.out_agree, Seen.all_lead}
use Rattle.part_nodes.{proofs.Slots.numbers_there, proofs.Slots.node_there, proofs.Slots.node_back, specs.InLinks.slots_of}
use Rattle.part_nodes.specs.{Phase.Extent, Phase.HasLinks, Phase.GoOnThere, Phase.places_at, Turns.IsTurnOf, Turns.lights_of, Turns.is_buffered}

-- THOSE THAT PASS A TEST
pub in_some : (p : ℕ → Bool) (count : ℕ) (ls : List ℕ) → AreIn count ls → AreIn count (filter p ls)
in_some p count [] h = tt
in_some p count (l ∷ ls) h =
    let rest = in_some p count ls h.1 in
    elim (cases_Bool (p l)) [ inl e ↦ rw e (h.0, rest) | inr e ↦ rw e rest ]

fresh_some : (p : ℕ → Bool) (l : ℕ) (ls : List ℕ) → is_among l ls ≡ false → is_among l (filter p ls) ≡ false
fresh_some p l [] e = e
fresh_some p l (n ∷ ls) e =
    let q = or_parts (eqb n l) (is_among l ls) e in
    let a = q.0 in
    let rest = fresh_some p l ls q.1 in
    elim (cases_Bool (p n)) [ inl c ↦ rw (c, a) rest | inr c ↦ rw c rest ]

pub once_some : (p : ℕ → Bool) (ls : List ℕ) → AreOnce ls → AreOnce (filter p ls)
once_some p [] h = tt
once_some p (l ∷ ls) h =
    let rest = once_some p ls h.1 in
    elim (cases_Bool (p l)) [ inl e ↦ rw e (fresh_some p l ls h.0, rest) | inr e ↦ rw e rest ]

pub few_some : (p : ℕ → Bool) (ls : List ℕ) → length (filter p ls) ≤ length ls
few_some p [] = omega arith
few_some p (l ∷ ls) =
    let rest = few_some p ls in
    elim (cases_Bool (p l)) [ inl e ↦ rw e (omega arith) | inr e ↦ rw e (omega arith) ]

-- who is among all and not among those fails the test
not_some : (p : ℕ → Bool) (l : ℕ) (ls : List ℕ) → is_among l (filter p ls) ≡ false → is_among l ls ≡ true → p l ≡ false
not_some p l [] h a = absurd (true≢false (sym a))
not_some p l (n ∷ ls) h a =
    elim (cases_Bool (eqb n l)) [
      | inl q ↦
          elim (cases_Bool (p n)) [
            | inl e ↦
                let f : (eqb n l || is_among l (filter p ls)) ≡ false = rw e at h in
                let g : true ≡ false = rw q at f in absurd (true≢false g)
            | inr e ↦ ap p (sym (eqb-true n l q)) ∙ e
          ]
      | inr q ↦
          let b : is_among l ls ≡ true = rw q at a in
          elim (cases_Bool (p n)) [
            | inl e ↦
                let f : (eqb n l || is_among l (filter p ls)) ≡ false = rw e at h in
                let g : is_among l (filter p ls) ≡ false = rw q at f in not_some p l ls g b
            | inr e ↦ let f : is_among l (filter p ls) ≡ false = rw e at h in not_some p l ls f b
          ]
    ]

nobody : (xs : List Row) → nat_lt 0 (length xs) ≡ false → xs ≡ []
nobody [] e = refl
nobody (x ∷ xs) e = let q = lt-ltb 0 (suc (length xs)) (omega arith) in absurd (true≢false (sym q ∙ e))

pub nobody_in : (l : ℕ) (links : List LinkView) (ls : List ℕ) → is_among l (filter (is_buffered links) ls) ≡ false → is_among l ls ≡ true
    → (lane links l).lists.buffer ≡ []
nobody_in l links ls h a = nobody (lane links l).lists.buffer (not_some (is_buffered links) l ls h a)

-- WHAT THE NODE DOES
same_ready : (K : Stuck) (t : ℕ) (word : ℕ → ℕ) (es fs : List InLink) (P : ℕ → Option OutLink) → ready es ≡ ready fs
    → node_moves K t word (record { in_links = es; out_links = P }) ≡ node_moves K t word (record { in_links = fs; out_links = P })
unfolding node_moves
same_ready K t word es fs P e =
    ap (λ (rs : List InLink).
    map (mark t) (filter (λ (x : InLink). not x.green) rs)
    ++ draw K t word (length (filter (λ (x : InLink). x.green) rs)) 0 (filter (λ (x : InLink). x.green) rs) P) e

some_ready : (xs ys : List Row) → ys ≡ xs → not (is_nil xs) ≡ nat_lt 0 (length ys)
some_ready [] ys e = ap (λ (zs : List Row). nat_lt 0 (length zs)) (sym e)
some_ready (x ∷ xs) ys e = sym (lt-ltb 0 (suc (length xs)) (omega arith)) ∙ ap (λ (zs : List Row). nat_lt 0 (length zs)) (sym e)

ready_some : (E : Extent) (S : Setup) (t : ℕ) (links : List LinkView) (V : World) (ks : List ℕ) → AreIn E.size ks
    → LinksStandAt E.number E.size S t links V
    → ready (map (in_link S t V) (map E.number (filter (is_buffered links) ks))) ≡ ready (map (in_link S t V) (map E.number ks))
ready_some E S t links V [] there h = refl
ready_some E S t links V (k ∷ ks) there h =
    let rest = ready_some E S t links V ks there.1 h in
    let same = some_ready (at (E.number k) Buffer V) (lane links k).lists.buffer (buffer_is E S t k links V there.0 h) in
    elim (cases_Bool (is_buffered links k)) [
      | inl e ↦ let r = same ∙ e in simp (e, r) (ap (λ (es : List InLink). in_link S t V (E.number k) ∷ es) rest)
      | inr e ↦ let r = same ∙ e in simp (e, r) rest
    ]

each_some : (P : ℕ → Type 0) (f : ℕ → ℕ) (p : ℕ → Bool) (ks : List ℕ) → Each P (map f ks) → Each P (map f (filter p ks))
each_some P f p [] h = tt
each_some P f p (k ∷ ks) h =
    let rest = each_some P f p ks h.1 in
    elim (cases_Bool (p k)) [ inl e ↦ rw e (h.0, rest) | inr e ↦ rw e rest ]

pub moves_of_some : (E : Extent) (S : Setup) (t n : ℕ) (K : Stuck) (second : ℕ) (s : Source) (links : List LinkView) (space : SpaceRows)
    (V : World) (slots ks : List ℕ) → ks ≡ filter (is_buffered links) (slots_of slots (into S n)) → HasLinks S E slots → E.mine n ≡ true
    → IsTurnOf S t n K second s → LinksStandAt E.number E.size S t links V → GoOnThere E.mine S V
    → ((m : ℕ) → m < length S.links → E.mine (link_row S m).from ≡ true → places_in space m ≡ Some (places_at S t V m))
    → node_moves K second (word s) (record { in_links = in_links_of (map (lane links) ks) (lights_of S t links ks); out_links = places_in space })
    ≡ node_turns S t n V
moves_of_some E S t n K second s links space V slots ks are has own turn h on places =
    let all = slots_of slots (into S n) in
    let some = filter (is_buffered links) all in
    let ls = map E.number some in
    let es = map (in_link S t V) ls in
    let there_all : AreIn E.size all = node_there S E slots n has own in
    let there : AreIn E.size some = in_some (is_buffered links) E.size all there_all in
    let back : map E.number all ≡ into S n = node_back S E slots n has own in
    let to : Each (λ (l : ℕ). (link_row S l).to ≡ n) ls
    = each_some (λ (l : ℕ). (link_row S l).to ≡ n) E.number (is_buffered links) all
    (subst (λ (ns : List ℕ). Each (λ (l : ℕ). (link_row S l).to ≡ n) ns) (sym back) (into_to S n)) in
    let f : Stuck → ℕ → (ℕ → ℕ) → List InLink → List Move = λ k u w xs. node_moves k u w (record { in_links = xs; out_links = places_in space }) in
    ap (λ (js : List ℕ). f K second (word s) (in_links_of (map (lane links) js) (lights_of S t links js))) are
    ∙ ap (λ (k : Stuck). f k second (word s) (in_links_of (map (lane links) some) (lights_of S t links some))) turn.stuck
    ∙ ap (λ (u : ℕ). f S.settings.stuck u (word s) (in_links_of (map (lane links) some) (lights_of S t links some))) turn.second
    ∙ ap (λ (w : ℕ → ℕ). f S.settings.stuck t w (in_links_of (map (lane links) some) (lights_of S t links some))) turn.words
    ∙ ap (λ (xs : List InLink). f S.settings.stuck t (S.word n) xs) (in_links_are E S t links V some there h)
    ∙ node_same (IsOut S n) S.settings.stuck t (S.word n) es (places_in space) (out_link S t n V) (out_agree E S t n space V own places)
    (all_lead E S t n V ls on own (numbers_there S E some has.numbered there) to)
    ∙ same_ready S.settings.stuck t (S.word n) es (map (in_link S t V) (map E.number all)) (out_link S t n V) (ready_some E S t links V all there_all h)
    ∙ ap (λ (ns : List ℕ). node_moves S.settings.stuck t (S.word n) (record { in_links = map (in_link S t V) ns; out_links = out_link S t n V })) back
