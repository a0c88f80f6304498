-- In every order of allowed events the partitions hold, tell and send what the day says.
use Rattle.traffic.proofs.Common.{◌≡◌, ℕ, List, ◌∙◌, length, ap, refl, sym, [], ◌∷◌, arith, ◌<◌, true, ◌++◌, ◌+◌, Bool, inl, inr, subst, false, suc, eqb, ◌⊎◌}
use Rattle.traffic.proofs.Common.{◌*◌, cases_Bool, eqb-true, and_parts, eq-eqb, true≢false, list_any, not, ◌&&◌, ◌||◌, Event, events_from, Setup, link_row}
use Rattle.parts.specs.{Core.Core, Core.Allowed, Core.Reaches, Core.start, Owners.Owner, Owners.owner_of, Owners.begins_in, Owners.leads, Owners.links_of}
use Rattle.parts.specs.{Owners.Hop, Owners.hops, Owners.hops_over, Owners.near, Parts.Held, Parts.Parcel, Parts.out, Parts.own_events, Parts.held}
use Rattle.law_partitions.proofs.{Absorbed.absorb_is, Home.Lawful, Joined.near-self, Lags.lag-some, Locality.alone_is, Order.Right, Order.Kept}
use Rattle.law_partitions.proofs.{Order.every_order, Order.no_dead_end, Order.all_at_end, Owning.Arrivals, Parcels.parcel_is, Telling.tells_is, Turns.eqb_turn}
use Rattle.law_partitions.specs.{Alone.alone, Alone.parcel_to, Alone.tells_alone, Whole.rule}

-- NEIGHBOURS
or_comm : (x y : Bool) → (x || y) ≡ (y || x)
or_comm true true = refl
or_comm true false = refl
or_comm false true = refl
or_comm false false = refl

any_same : {X : Type 0} (f g : X → Bool) → ((x : X) → f x ≡ g x) → (xs : List X) → list_any f xs ≡ list_any g xs
any_same f g h [] = refl
any_same f g h (x ∷ xs) = let e = h x in let r = any_same f g h xs in cc

eqb_same : (p q : ℕ) → eqb p q ≡ eqb q p
eqb_same p q = elim (cases_Bool (eqb p q)) [ inl e ↦ e ∙ sym (eq-eqb q p (sym (eqb-true p q e))) | inr e ↦ e ∙ sym (eqb_turn p q e) ]

pub near-both : (S : Setup) (own : Owner) (p q : ℕ) → near S own p q ≡ near S own q p
unfolding near
near-both S own p q =
    let a = ap not (eqb_same p q) in
    let b = any_same (λ l. leads S own p q l || leads S own q p l) (λ l. leads S own q p l || leads S own p q l) (λ l. or_comm (leads S own p q l) (leads S own q p l)) (links_of S) in
    let c = any_same (λ (h : Hop). hops_over S own p q h || hops_over S own q p h) (λ (h : Hop). hops_over S own q p h || hops_over S own p q h) (λ h. or_comm (hops_over S own p q h) (hops_over S own q p h)) (hops S) in
    ap (λ x. x && (list_any (λ l. leads S own p q l || leads S own q p l) (links_of S) || list_any (λ (h : Hop). hops_over S own p q h || hops_over S own q p h) (hops S))) a
    ∙ ap (λ x. not (eqb q p) && (x || list_any (λ (h : Hop). hops_over S own p q h || hops_over S own q p h) (hops S))) b
    ∙ ap (λ x. not (eqb q p) && (list_any (λ l. leads S own q p l || leads S own p q l) (links_of S) || x)) c

any_find : {X : Type 0} (f : X → Bool) (xs : List X) → list_any f xs ≡ true → (x : X) × (f x ≡ true)
any_find f [] e = absurd (true≢false (sym e))
any_find f (x ∷ xs) e = elim (cases_Bool (f x)) [ inl y ↦ (x, y) | inr y ↦ any_find f xs (let z = simp y at e in z) ]

or_either : (x y : Bool) → (x || y) ≡ true → (x ≡ true) ⊎ (y ≡ true)
or_either true y e = inl refl
or_either false y e = inr e

leads_part : (S : Setup) (own : Owner) (parts q p l : ℕ) → ((n : ℕ) → own n < parts) → (leads S own q p l || leads S own p q l) ≡ true → q < parts
leads_part S own parts q p l h e = elim (or_either (leads S own q p l) (leads S own p q l) e) [
  | inl y ↦ subst (λ x. x < parts) (eqb-true (begins_in S own l) q (and_parts (eqb (begins_in S own l) q) (eqb (owner_of S own l) p) y).0) (h (link_row S l).from)
  | inr y ↦ subst (λ x. x < parts) (eqb-true (owner_of S own l) q (and_parts (eqb (begins_in S own l) p) (eqb (owner_of S own l) q) y).1) (h (link_row S l).to)
]

hops_part : (S : Setup) (own : Owner) (parts q p : ℕ) (x : Hop) → ((n : ℕ) → own n < parts) → (hops_over S own q p x || hops_over S own p q x) ≡ true → q < parts
hops_part S own parts q p x h e = elim (or_either (hops_over S own q p x) (hops_over S own p q x) e) [
  | inl y ↦ subst (λ z. z < parts) (eqb-true (owner_of S own x.from) q (and_parts (eqb (owner_of S own x.from) q) (eqb (owner_of S own x.to) p) y).0) (h (link_row S x.from).to)
  | inr y ↦ subst (λ z. z < parts) (eqb-true (owner_of S own x.to) q (and_parts (eqb (owner_of S own x.from) p) (eqb (owner_of S own x.to) q) y).1) (h (link_row S x.to).to)
]

pub near_part : (S : Setup) (own : Owner) (parts q p : ℕ) → ((n : ℕ) → own n < parts) → near S own q p ≡ true → q < parts
unfolding near
near_part S own parts q p h e =
    let links = list_any (λ l. leads S own q p l || leads S own p q l) (links_of S) in
    let flights = list_any (λ (x : Hop). hops_over S own q p x || hops_over S own p q x) (hops S) in
    elim (or_either links flights (and_parts (not (eqb q p)) (links || flights) e).1) [
      | inl y ↦ let f = any_find (λ l. leads S own q p l || leads S own p q l) (links_of S) y in leads_part S own parts q p f.0 h f.1
      | inr y ↦ let f = any_find (λ (x : Hop). hops_over S own q p x || hops_over S own p q x) (hops S) y in hops_part S own parts q p f.0 h f.1
    ]

no_events : (S : Setup) (own : Owner) (p : ℕ) → own_events S own p 0 ≡ []
unfolding own_events events_from
no_events S own p = refl

-- The second of each part, with what it absorbs, is that of the day.
pub right : (S : Setup) (own : Owner) (parts end : ℕ) → Lawful S → Arrivals S → ((n : ℕ) → own n < parts) → Right (rule S own parts) (held S own) (out S own) (own_events S own) end
right S own parts end law arrivals shares =
    let next : (t : ℕ) → suc t ≡ t + 1 = λ t. omega arith in
    record {
      both_ways = near-both S own;
      not_self = near-self S own;
      parts_near = λ p q e. near_part S own parts q p shares e;
      some = λ p q e. lag-some S own law.long q p;
      steps = λ p t lt before. ap (alone S own p t) (absorb_is S own parts p t law arrivals shares) ∙ alone_is S own p t law arrivals ∙ ap (held S own p) (next t);
      sends = λ p t q lt before e. ap (λ H. parcel_to S own p t H q) (absorb_is S own parts p t law arrivals shares) ∙ parcel_is S own p q t law arrivals;
      tells = λ p t lt before. ap (λ H. own_events S own p t ++ tells_alone S own p t H) (absorb_is S own parts p t law arrivals shares) ∙ tells_is S own p t law ∙ ap (own_events S own p) (next t);
      silent = no_events S own;
    }

-- EVERY INTERLEAVING
pub every_interleaving : (S : Setup) (own : Owner) (parts end : ℕ) → Lawful S → Arrivals S → ((n : ℕ) → own n < parts) → (ps : List ℕ) (d : Core Held Parcel Event) →
    Reaches (rule S own parts) end ps (start {H = Held} {P = Parcel} {E = Event} (λ p. held S own p 0)) d → Kept (rule S own parts) (held S own) (out S own) (own_events S own) d
every_interleaving S own parts end law arrivals shares ps d e = every_order (rule S own parts) (held S own) (out S own) (own_events S own) end (right S own parts end law arrivals shares) ps d e

pub some_may_advance : (S : Setup) (own : Owner) (parts end n x : ℕ) → Lawful S → Arrivals S → ((n : ℕ) → own n < parts) → parts ≡ suc n → (c : Core Held Parcel Event) → x < parts → c.done x < end → (p : ℕ) × Allowed (rule S own parts) end p c
some_may_advance S own parts end n x law arrivals shares e c lt before = no_dead_end (rule S own parts) (held S own) (out S own) (own_events S own) end (right S own parts end law arrivals shares) c x n e lt before

pub all_come_to_the_end : (S : Setup) (own : Owner) (parts end : ℕ) → Lawful S → Arrivals S → ((n : ℕ) → own n < parts) → (ps : List ℕ) (d : Core Held Parcel Event) →
    Reaches (rule S own parts) end ps (start {H = Held} {P = Parcel} {E = Event} (λ p. held S own p 0)) d → length ps ≡ parts * end → (q : ℕ) → q < parts → d.done q ≡ end
all_come_to_the_end S own parts end law arrivals shares ps d e n q lt = all_at_end (rule S own parts) (held S own) (out S own) (own_events S own) end (right S own parts end law arrivals shares) ps d e n q lt
