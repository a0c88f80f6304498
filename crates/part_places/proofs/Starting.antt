-- Links of which no place is taken, one after the other.
use Rattle.std.proofs.Common.{◌≡◌, ℕ, ◌+◌, ◌<◌, ◌≤◌, Bool, true, false, List, [], ◌∷◌, ◌++◌, length, get_or, take, refl, ap, sym, ◌∙◌, subst, inl, inr, arith}
use Rattle.std.proofs.lemmas.{Bool.cases_Bool, Bool.eqb-true, Bool.eqb-false, List.take_all, List.take_more, List.Elements.Contains-push_cases}
use Rattle.std.specs.{List.Contains, Prelude.◌==◌, Prelude.if◌then◌else◌, Prelude.Some}
use Rattle.calendar.specs.Due.{Due, due_at}
use Rattle.node_move.specs.{Entries.SpaceRows, Spaces.places_in, Spaces.holes_in}
use Rattle.traffic.specs.{Setup.Setup, declared.node_views.OutLink.OutLink}
use Rattle.part_places.specs.{Taking.AreFree, Taking.AreTakenOf, Taking.empty, Taking.free_place, Taking.times, declared.places.Places.Places}

pub none_free : (S : Setup) (links : List ℕ) (space : SpaceRows) → AreFree S (take 0 links) space
none_free S links space = λ m c. absurd (let lt = c.1 in omega arith)

-- one link more
pub one_free : (S : Setup) (links : List ℕ) (i : ℕ) (places : OutLink) (old new : SpaceRows) → i < length links
    → places ≡ free_place S (get_or links i 0)
    → ((m : ℕ) → places_in new m ≡ (if m == get_or links i 0 then Some places else places_in old m))
    → AreFree S (take i links) old → AreFree S (take (i + 1) links) new
one_free S links i places old new lt is now before = λ m c.
    let link = get_or links i 0 in
    let there : Contains (take i links ++ link ∷ []) m = subst (λ (ns : List ℕ). Contains ns m) (take_more links i 0 lt) c in
    now m
    ∙ elim (cases_Bool (m == link)) [
      | inl same ↦
          rw same (ap (λ (x : OutLink). Some x) is ∙ ap (λ (n : ℕ). Some (free_place S n)) (sym (eqb-true m link same)))
      | inr other ↦
          rw other (elim (Contains-push_cases (take i links) link m there) [
            | inl earlier ↦ before m earlier
            | inr here ↦ absurd (eqb-false m link other (sym here))
          ])
    ]

-- a link more that has none
pub no_holes : (b : Bool) (k : ℕ) → k ≡ 0 → (if b then 0 else k) ≡ 0
no_holes true k h = refl
no_holes false k h = h

pub all_free : (S : Setup) (links : List ℕ) (i : ℕ) (space : SpaceRows) → length links ≤ i → AreFree S (take i links) space
    → AreFree S links space
all_free S links i space past h = subst (λ (ns : List ℕ). AreFree S ns space) (take_all i links past) h

-- none of the places of any links is taken that are among these
pub none_taken : (S : Setup) (links : List ℕ) (begins : ℕ → Bool) (end : ℕ) (P : Places)
    → AreFree S links P.space → ((m : ℕ) → holes_in P.space m ≡ 0) → P.freed ≡ []
    → ((m : ℕ) → m < length S.links → begins m ≡ true → Contains links m)
    → AreTakenOf begins (length S.links) end 0 (empty S) P
none_taken S links begins end P free holes freed among = record {
  places = λ m lt here. free m (among m lt here);
  holes = λ m lt here. holes m;
  freed = λ m u lt here from to. ap (λ (due : Due). times m (due_at u due)) freed;
}
