-- The places of links over the phases of a second.
use Rattle.traffic.proofs.Common.{◌≡◌, ℕ, zero, suc, ◌+◌, ◌-◌, ◌<◌, Bool, List, ◌++◌, ◌∙◌, ap, refl, sym, arith, inl, lt-ltb, length, filter, replicate, nat_lt}
use Rattle.traffic.proofs.Common.{Option, Some, None, length-append, filter-append, World, Setup, link_row, at, holes_at, in_force, hole_of, hole_seconds}
use Rattle.traffic.proofs.{Common.turns_in, Common.turns_of, Common.after, Common.node_turns, Nodes.node-buffers, Nodes.buffers-holes, Sublists.holes-run}
use Rattle.traffic.{proofs.Walks.phase_keeps, specs.declared.node_views.OutLink.OutLink, specs.declared.stage.Stage.TheVariants.Queue}
use Rattle.events.specs.declared.event.Phase.TheVariants as phase
use Rattle.law_sleeping.proofs.Places.{links_free, links_keep_places}
use Rattle.part_places.specs.{Taking.Taking, Taking.AreTakenOf, Taking.still, Taking.times, declared.places.Places.Places}

-- PLACES THAT ARE TAKEN ALIKE
pub record AreAlike (count : ℕ) (T U : Taking) : Type 0 where
  pub storage : (m : ℕ) → m < count → U.storage m ≡ T.storage m
  pub seconds : (m : ℕ) → m < count → U.seconds m ≡ T.seconds m
  pub queued : (m : ℕ) → m < count → U.queued m ≡ T.queued m
  pub frees : (m : ℕ) → m < count → U.frees m ≡ T.frees m

place : ℕ → ℕ → ℕ → Option OutLink
place n s k = Some (record { taken = n; storage = s; seconds = k })

pub taken_as : {begins : ℕ → Bool} (count end t : ℕ) (T U : Taking) (P : Places) → AreAlike count T U → AreTakenOf begins count end t T P
    → AreTakenOf begins count end t U P
unfolding place
taken_as count end t T U P a h = record {
  places = λ m lt here.
      h.places m lt here
      ∙ ap (λ (n : ℕ). place (n + still t (T.frees m)) (T.storage m) (T.seconds m)) (sym (a.queued m lt))
      ∙ ap (λ (fs : List ℕ). place (U.queued m + still t fs) (T.storage m) (T.seconds m)) (sym (a.frees m lt))
      ∙ ap (λ (n : ℕ). place (U.queued m + still t (U.frees m)) n (T.seconds m)) (sym (a.storage m lt))
      ∙ ap (λ (n : ℕ). place (U.queued m + still t (U.frees m)) (U.storage m) n) (sym (a.seconds m lt));
  holes = λ m lt here. h.holes m lt here ∙ ap (λ (fs : List ℕ). still t fs) (sym (a.frees m lt));
  freed = λ m u lt here from to. h.freed m u lt here from to ∙ ap (λ (fs : List ℕ). times u fs) (sym (a.frees m lt));
}

-- WHEN NODES LOOK AT THEM

-- nodes leave no holes
pub nodes_keep_holes : (S : Setup) (t m : ℕ) (V : World) → holes_at m (after S t (turns_in S t phase.C V) V) ≡ holes_at m V
unfolding turns_of
nodes_keep_holes S t m V =
    phase_keeps (λ (X : World). holes_at m X ≡ holes_at m V) S t phase.C
    (λ n X lt e. (holes-run S t m (node_turns S t n X) X ∙ buffers-holes m (node_turns S t n X) (holes_at m X) (node-buffers S t n X) ∙ e)) V refl

-- WHAT LINKS LEFT
hole_from : (n : ℕ) (speed : Option ℕ) → 0 < hole_seconds n speed
unfolding hole_seconds
hole_from n None = omega arith
hole_from n (Some speed) = omega arith

pub some_hole : (S : Setup) (m : ℕ) → 0 < hole_of S m
some_hole S m = hole_from (link_row S m).length S.settings.hole_speed

force_more : (u h : ℕ) (hs gs : List ℕ) → in_force u h (hs ++ gs) ≡ in_force u h hs + in_force u h gs
force_more u h hs gs =
    ap (λ (xs : List ℕ). length xs) (filter-append (λ (s : ℕ). nat_lt u (s + h)) hs gs)
    ∙ length-append (filter (λ (s : ℕ). nat_lt u (s + h)) hs) (filter (λ (s : ℕ). nat_lt u (s + h)) gs)

force_all : (u h t k : ℕ) → u < t + h → in_force u h (replicate k t) ≡ k
force_all u h t zero lt = refl
force_all u h t (suc k) lt =
    let q = lt-ltb u (t + h) lt in
    let r = force_all u h t k lt in
    simp q (ap suc r)

-- as many vehicles left the queue of a link as left a hole in this second
pub record HasLeft (S : Setup) (t m : ℕ) (V W : World) : Type 0 where
  pub count : ℕ
  pub queue : length (at m Queue W) + count ≡ length (at m Queue V)
  pub holes : holes_at m W ≡ holes_at m V ++ replicate count t

pub has_left : (S : Setup) (t m : ℕ) (V : World) → m < length S.links → HasLeft S t m V (after S t (turns_in S t phase.D V) V)
has_left S t m V lt =
    let h = hole_of S m in
    let f = links_free S t m V lt in
    let some = some_hole S m in
    let within : t < t + h = omega arith in
    let same = links_keep_places S t t m V (inl within) in
    let more = ap (λ (hs : List ℕ). in_force t h hs) f.1 ∙ force_more t h (holes_at m V) (replicate f.0 t) in
    let all = force_all t h t f.0 within in
    record { count = f.0; queue = omega arith; holes = f.1 }

-- the same as one fact
pub as_many_left : (S : Setup) (t m : ℕ) (V : World) → m < length S.links
    → (count : ℕ) × (length (at m Queue (after S t (turns_in S t phase.D V) V)) + count ≡ length (at m Queue V))
    × (holes_at m (after S t (turns_in S t phase.D V) V) ≡ holes_at m V ++ replicate count t)
as_many_left S t m V lt = let h = has_left S t m V lt in (h.count, h.queue, h.holes)
