-- The merge of what the parts tell is the day.
use Rattle.traffic.proofs.Common.{◌≡◌, ℕ, List, ◌∙◌, length, ap, refl, sym, [], ◌∷◌, arith, ◌<◌, ◌++◌, ◌+◌, Bool, inl, inr, subst, ◌≤◌, suc, eqb, zero, ◌≢◌}
use Rattle.traffic.proofs.Common.{append_assoc, cases_Bool, eqb-true, eqb-false, ne_eqb, flat_map, map, filter, phase_code, Event, world_at, world_start, keyed}
use Rattle.traffic.proofs.{Common.events_from, Common.day, Common.end_events, Common.below, Common.numbers, Common.stranded, Common.Setup, Order.day-ascends}
use Rattle.std.proofs.lemmas.List.Sorted.{IsPermutation-refl, IsPermutation-trans, IsPermutation-append, IsPermutation-append_comm, IsPermutation-append_left}
use Rattle.std.{proofs.lemmas.List.Sorted.IsPermutation-append_right, specs.List.Sorted.IsPermutation}
use Rattle.events.specs.declared.event.Phase.TheVariants as phase
use Rattle.parts.specs.{Owners.Owner, Owners.owner_of_event, Parts.own_events, Parts.ends_with, Parts.own_end_events}
pub use Rattle.law_partitions.specs.Whole.{all_told}
use Rattle.parts.specs.Merge.{Merges}

same_perm : {Y : Type 0} (xs ys : List Y) → xs ≡ ys → IsPermutation xs ys
same_perm xs ys e = subst (λ zs. IsPermutation xs zs) e (IsPermutation-refl xs)

-- what each number has of a list that is dealt out
abbrev pub dealt : {X Y : Type 0} → (X → List Y) → (X → ℕ) → List X → ℕ → List Y
dealt f owner xs p = flat_map f (filter (λ x. eqb (owner x) p) xs)

dealt_past : {X Y : Type 0} (f : X → List Y) (owner : X → ℕ) (x : X) (xs : List X) (k n : ℕ) → owner x < k → flat_map (dealt f owner (x ∷ xs)) (numbers k n) ≡ flat_map (dealt f owner xs) (numbers k n)
dealt_past f owner x xs k zero h = refl
dealt_past f owner x xs k (suc n) h =
    let e = ne_eqb (owner x) k (λ q. omega arith) in
    let r = dealt_past f owner x xs (k + 1) n (omega arith) in
    let one : dealt f owner (x ∷ xs) k ≡ dealt f owner xs k = (rw e refl) in
    ap (λ ys. ys ++ flat_map (dealt f owner (x ∷ xs)) (numbers (k + 1) n)) one ∙ ap (λ zs. dealt f owner xs k ++ zs) r

dealt_one : {X Y : Type 0} (f : X → List Y) (owner : X → ℕ) (x : X) (xs : List X) (k n : ℕ) → k ≤ owner x → owner x < k + n →
    IsPermutation (flat_map (dealt f owner (x ∷ xs)) (numbers k n)) (f x ++ flat_map (dealt f owner xs) (numbers k n))
dealt_one f owner x xs k zero h g = absurd (omega arith)
dealt_one f owner x xs k (suc n) h g =
    let a = dealt f owner xs k in
    let more = flat_map (dealt f owner (x ∷ xs)) (numbers (k + 1) n) in
    let rest = flat_map (dealt f owner xs) (numbers (k + 1) n) in
    elim (cases_Bool (eqb (owner x) k)) [
      | inl e ↦
          let q = eqb-true (owner x) k e in
          let one : dealt f owner (x ∷ xs) k ≡ f x ++ a = (rw e refl) in
          let r : more ≡ rest = dealt_past f owner x xs (k + 1) n (omega arith) in
          same_perm _ _ (ap (λ ys. ys ++ more) one ∙ ap (λ zs. (f x ++ a) ++ zs) r ∙ append_assoc (f x) a rest)
      | inr e ↦
          let d : owner x ≢ k = eqb-false (owner x) k e in
          let one : dealt f owner (x ∷ xs) k ≡ a = (rw e refl) in
          let r = dealt_one f owner x xs (k + 1) n (omega arith) (omega arith) in
          let p1 = IsPermutation-append_right a more (f x ++ rest) r in
          let p2 = IsPermutation-append_left rest (a ++ f x) (f x ++ a) (IsPermutation-append_comm a (f x)) in
          let p3 = subst (λ zs. IsPermutation zs ((f x ++ a) ++ rest)) (append_assoc a (f x) rest) p2 in
          let p4 = subst (λ zs. IsPermutation (a ++ (f x ++ rest)) zs) (append_assoc (f x) a rest) p3 in
          subst (λ zs. IsPermutation (zs ++ more) (f x ++ (a ++ rest))) (sym one) (IsPermutation-trans (a ++ more) (a ++ (f x ++ rest)) (f x ++ (a ++ rest)) p1 p4)
    ]

dealt_none : {X Y : Type 0} (f : X → List Y) (owner : X → ℕ) (k n : ℕ) → flat_map (dealt f owner []) (numbers k n) ≡ []
dealt_none f owner k zero = refl
dealt_none f owner k (suc n) = dealt_none f owner (k + 1) n

-- all that is dealt out is all
pub dealt_all : {X Y : Type 0} (f : X → List Y) (owner : X → ℕ) (n : ℕ) → ((x : X) → owner x < n) → (xs : List X) → IsPermutation (flat_map (dealt f owner xs) (below n)) (flat_map f xs)
dealt_all f owner n h [] = same_perm _ _ (dealt_none f owner 0 n)
dealt_all f owner n h (x ∷ xs) =
    let lt = h x in
    IsPermutation-trans (flat_map (dealt f owner (x ∷ xs)) (below n)) (f x ++ flat_map (dealt f owner xs) (below n)) (f x ++ flat_map f xs)
    (dealt_one f owner x xs 0 n (omega arith) (omega arith)) (IsPermutation-append_right (f x) (flat_map (dealt f owner xs) (below n)) (flat_map f xs) (dealt_all f owner n h xs))

-- two lists for each number
two_lists : {Y : Type 0} (f g : ℕ → List Y) (ns : List ℕ) → IsPermutation (flat_map (λ p. f p ++ g p) ns) (flat_map f ns ++ flat_map g ns)
two_lists f g [] = IsPermutation-refl []
two_lists f g (n ∷ ns) =
    let a = flat_map f ns in
    let b = flat_map g ns in
    let r = two_lists f g ns in
    let p1 = IsPermutation-append_right (f n ++ g n) (flat_map (λ p. f p ++ g p) ns) (a ++ b) r in
    let p2 = IsPermutation-append_left b (g n ++ a) (a ++ g n) (IsPermutation-append_comm (g n) a) in
    let p3 = IsPermutation-append_right (f n) ((g n ++ a) ++ b) ((a ++ g n) ++ b) p2 in
    let left : (f n ++ g n) ++ (a ++ b) ≡ f n ++ ((g n ++ a) ++ b) = append_assoc (f n) (g n) (a ++ b) ∙ ap (λ zs. f n ++ zs) (sym (append_assoc (g n) a b)) in
    let right : f n ++ ((a ++ g n) ++ b) ≡ (f n ++ a) ++ (g n ++ b) = ap (λ zs. f n ++ zs) (append_assoc a (g n) b) ∙ sym (append_assoc (f n) a (g n ++ b)) in
    let p4 = subst (λ zs. IsPermutation zs (f n ++ ((a ++ g n) ++ b))) (sym left) p3 in
    let p5 = subst (λ zs. IsPermutation ((f n ++ g n) ++ (a ++ b)) zs) right p4 in
    IsPermutation-trans ((f n ++ g n) ++ flat_map (λ p. f p ++ g p) ns) ((f n ++ g n) ++ (a ++ b)) ((f n ++ a) ++ (g n ++ b)) p1 p5

singles : (xs : List Event) → flat_map (λ (x : Event). x ∷ []) xs ≡ xs
singles [] = refl
singles (x ∷ xs) = ap (λ ys. x ∷ ys) (singles xs)

flat_id : {Y : Type 0} (f : ℕ → List Y) (ns : List ℕ) → flat_map (λ (ys : List Y). ys) (map f ns) ≡ flat_map f ns
flat_id f [] = refl
flat_id f (n ∷ ns) = ap (λ ys. f n ++ ys) (flat_id f ns)

same_flat : {Y : Type 0} (f g : ℕ → List Y) (c : ℕ) → ((p : ℕ) → p < c → f p ≡ g p) → (k n : ℕ) → k + n ≤ c → flat_map f (numbers k n) ≡ flat_map g (numbers k n)
same_flat f g c h k zero le = refl
same_flat f g c h k (suc n) le = let a = h k (omega arith) in let b = same_flat f g c h (k + 1) n (omega arith) in cc

same_filter : (f g : ℕ → Bool) (c : ℕ) → ((i : ℕ) → i < c → f i ≡ g i) → (k n : ℕ) → k + n ≤ c → filter f (numbers k n) ≡ filter g (numbers k n)
same_filter f g c h k zero le = refl
same_filter f g c h k (suc n) le = let e = h k (omega arith) in let r = same_filter f g c h (k + 1) n (omega arith) in cc

-- each event of a second belongs to a partition, and each person's end to one
pub record Shared (S : Setup) (own : Owner) (parts : ℕ) (ender : ℕ → ℕ) : Type 0 where
  pub events : (e : Event) → owner_of_event S own e < parts
  pub ends : (i : ℕ) → ender i < parts
  pub who : (p i : ℕ) → p < parts → i < length S.persons → ends_with S own parts p i ≡ eqb (ender i) p

owned_is : (S : Setup) (own : Owner) (p : ℕ) → own_events S own p S.settings.end_second ≡ dealt (λ (x : Event). x ∷ []) (owner_of_event S own) (events_from S (world_start S) S.settings.end_second) p
unfolding own_events
owned_is S own p = sym (singles (filter (λ (e : Event). eqb (owner_of_event S own e) p) (events_from S (world_start S) S.settings.end_second)))

abbrev last_of : Setup → ℕ → List Event
last_of S i = keyed S.settings.end_second (phase_code phase.E) i 0 (stranded S (world_at S S.settings.end_second) i)

ended_is : (S : Setup) (own : Owner) (parts : ℕ) (ender : ℕ → ℕ) → Shared S own parts ender → (p : ℕ) → p < parts → own_end_events S own parts p ≡ dealt (last_of S) ender (below (length S.persons)) p
unfolding own_end_events
ended_is S own parts ender h p lt = ap (flat_map (last_of S)) (same_filter (ends_with S own parts p) (λ i. eqb (ender i) p) (length S.persons) (λ i inside. h.who p i lt inside) 0 (length S.persons) (omega arith))

-- The merge of all parts' events is the day.
pub day_merged : (S : Setup) (own : Owner) (parts : ℕ) (ender : ℕ → ℕ) → Shared S own parts ender → Merges (map (all_told S own parts) (below parts)) (day S)
unfolding day end_events
day_merged S own parts ender h =
    let ns = below parts in
    let evs = events_from S (world_start S) S.settings.end_second in
    let f : ℕ → List Event = dealt (λ (x : Event). x ∷ []) (owner_of_event S own) evs in
    let g : ℕ → List Event = dealt (last_of S) ender (below (length S.persons)) in
    let parts_are : flat_map (λ events. events) (map (all_told S own parts) ns) ≡ flat_map (λ p. f p ++ g p) ns =
    flat_id (all_told S own parts) ns
    ∙ same_flat (all_told S own parts) (λ p. f p ++ g p) parts (λ p lt. ap (λ xs. xs ++ own_end_events S own parts p) (owned_is S own p) ∙ ap (λ ys. f p ++ ys) (ended_is S own parts ender h p lt)) 0 parts (omega arith) in
    let one = dealt_all (λ (x : Event). x ∷ []) (owner_of_event S own) parts h.events evs in
    let one2 = subst (λ zs. IsPermutation (flat_map f ns) zs) (singles evs) one in
    let two = dealt_all (last_of S) ender parts h.ends (below (length S.persons)) in
    let both = IsPermutation-append (flat_map f ns) evs (flat_map g ns) (flat_map (last_of S) (below (length S.persons))) one2 two in
    record {
      ascends = day-ascends S;
      same = subst (λ zs. IsPermutation zs (evs ++ flat_map (last_of S) (below (length S.persons)))) (sym parts_are) (IsPermutation-trans (flat_map (λ p. f p ++ g p) ns) (flat_map f ns ++ flat_map g ns) (evs ++ flat_map (last_of S) (below (length S.persons))) (two_lists f g ns) both);
    }
