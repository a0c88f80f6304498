-- The places of a second come free.
use Rattle.std.proofs.Common.{◌≡◌, ℕ, ◌+◌, ◌-◌, ◌<◌, List, refl, ap, sym, ◌∙◌, arith, eqb, Bool, true, false}
use Rattle.std.{proofs.lemmas.Bool.ne_eqb, proofs.lemmas.Bool.le-leb, specs.Prelude.filter, specs.Prelude.Option, specs.Prelude.Some}
use Rattle.traffic.specs.declared.node_views.OutLink.{OutLink}
use Rattle.calendar.specs.Due.{due_at, HasNone}
use Rattle.node_move.specs.{Entries.fewer, Spaces.places_in, Spaces.holes_in}
use Rattle.part_places.{proofs.Counting.still_split, proofs.Counting.times_passed, specs.Taking.Taking, specs.Taking.AreTakenOf}
use Rattle.part_places.specs.{Taking.IsFull, Taking.is_full, Taking.is_full_in, Taking.still, Taking.times, declared.places.Places.Places}

unfoldable pub with_taken : ℕ → ℕ → Taking → Option OutLink
with_taken n m T = Some (record { taken = n; storage = T.storage m; seconds = T.seconds m })

pub freed_is : (begins : ℕ → Bool) (count end t : ℕ) (T : Taking) (P Q : Places) (ls : List ℕ) → t < end → ls ≡ due_at t P.freed → HasNone t P.freed Q.freed
    → ((m : ℕ) → places_in Q.space m ≡ fewer (times m ls) (places_in P.space m))
    → ((m : ℕ) → holes_in Q.space m ≡ holes_in P.space m - times m ls)
    → AreTakenOf begins count end t T P → AreTakenOf begins count end (t + 1) T Q
unfolding with_taken
freed_is begins count end t T P Q ls lt e none space holes h =
    let gone : (m : ℕ) → m < count → begins m ≡ true → times m ls ≡ times t (T.frees m)
    = λ m in_count here. ap (times m) e ∙ h.freed m t in_count here (omega arith) lt in
    record {
      places = λ m in_count here.
          let a = gone m in_count here in
          let b = still_split t (T.frees m) in
          let c : T.queued m + still t (T.frees m) - times m ls ≡ T.queued m + still (t + 1) (T.frees m) = omega arith in
          space m ∙ ap (fewer (times m ls)) (h.places m in_count here) ∙ ap (λ (k : ℕ). with_taken k m T) c;
      holes = λ m in_count here.
          let a = gone m in_count here in
          let b = still_split t (T.frees m) in
          let c = holes m in
          let d = h.holes m in_count here in
          omega arith;
      freed = λ m u in_count here from to.
          let ne : eqb u t ≡ false = ne_eqb u t (λ (z : u ≡ t). absurd (omega arith)) in
          let f : due_at u Q.freed ≡ due_at u P.freed = none u ∙ rw ne refl in
          ap (times m) f ∙ h.freed m u in_count here (omega arith) to;
    }

-- a link that was full and is not among those of the full ones on which a place comes free is full then
pub full_is : (begins : ℕ → Bool) (count end t : ℕ) (T : Taking) (P : Places) (ls full : List ℕ) → t < end → ls ≡ due_at t P.freed
    → full ≡ filter (is_full_in P.space) ls → AreTakenOf begins count end t T P
    → (m : ℕ) → m < count → begins m ≡ true → times m full ≡ 0 → IsFull t T m → IsFull (t + 1) T m
full_is begins count end t T P ls full lt e f h = λ m in_count here none was.
    let p : is_full_in P.space m ≡ true = ap is_full (h.places m in_count here) ∙ le-leb (T.storage m) (T.queued m + still t (T.frees m)) was in
    let a : times m ls ≡ 0 = sym (times_passed (is_full_in P.space) m ls p) ∙ sym (ap (times m) f) ∙ none in
    let b : times t (T.frees m) ≡ 0 = sym (ap (times m) e ∙ h.freed m t in_count here (omega arith) lt) ∙ a in
    let c = still_split t (T.frees m) in
    omega arith
