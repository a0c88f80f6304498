-- Whom no partition knows stands still; and a flight that lasts was begun as it is.
use Rattle.traffic.proofs.Common.{◌≡◌, ℕ, ◌∙◌, length, ap, refl, sym, [], arith, ◌<◌, true, inl, inr, false, suc, eqb, cases_Bool, eqb-true, eq-eqb, flat_map}
use Rattle.traffic.proofs.Common.{not, world_at, link_turns, node_turns, landing_turns, below, run, landing_moves, leaving_moves, person_of, Setup}
use Rattle.traffic.proofs.{Each.each_flat_all, Persons.landing_moves-of}
use Rattle.law_one_place.proofs.Turns.{always_kept}
use Rattle.parts.specs.{Owners.Owner, Owners.owner_of, Owners.owner_of_person, Parts.is_late, Parts.has}
use Rattle.law_partitions.proofs.{Begins.of-quiet, Begins.own-turn, Calms.node_away, Calms.link_away, Early.A_world, Early.mid, Early.A_moves-are}
use Rattle.law_partitions.proofs.{Early.world-next, Ends.less, Flights.mid_is, Flights.few_mid, Home.Lawful, Home.has-is, Quiet.IsQuiet, Quiet.person_moves}
use Rattle.law_partitions.proofs.{Quiet.person-run, Quiet.quiet_same, Second.C_world, Second.C_moves-are, Second.D_moves-are, Second.C-length}

-- WHOM NOBODY KNOWS
-- a person who is late for the partition to which he belongs is known to none
pub late_all : (S : Setup) (own : Owner) (t i : ℕ) → i < length S.persons → let P = person_of i (world_at S t) in
    is_late S own (less S own) (owner_of_person S own (world_at S t) i) t i P.element P.place ≡ true → (p : ℕ) → has S own (less S own) p t i ≡ false
late_all S own t i lt late p =
    let P = person_of i (world_at S t) in
    let o = owner_of_person S own (world_at S t) i in
    has-is S own (less S own) p t i lt P.place refl
    ∙ elim (cases_Bool (eqb o p)) [
      | inl e ↦ let l : is_late S own (less S own) p t i P.element P.place ≡ true = ap (λ (x : ℕ). is_late S own (less S own) x t i P.element P.place) (sym (eqb-true o p e)) ∙ late in (rw (e, l) refl)
      | inr e ↦ (rw e refl)
    ]

-- who does nothing in A and B1 is before phase C as at the start of the second
pub mid_same : (S : Setup) (t i : ℕ) → i < length S.persons → let P = person_of i (world_at S t) in landing_moves S t i P ≡ [] → leaving_moves S t i P ≡ [] → person_of i (mid S t) ≡ P
mid_same S t i lt a b =
    let W = world_at S t in
    let P = person_of i W in
    let few = (always_kept S t).one_row in
    let c = length S.persons in
    let now = person_of i (A_world S t W) in
    let same : now ≡ P = ap (λ ms. person_of i (run S t ms W)) (A_moves-are S t W) ∙ person-run S t i (flat_map (λ i. landing_turns S t i W) (below c)) W (omega arith)
    ∙ own-turn S t i c (λ n. landing_turns S t n W) (λ n g. of-quiet S t n i (landing_turns S t n W) g (landing_moves-of S t n (person_of n W))) lt P ∙ ap (λ ms. person_moves S t i ms P) a in
    mid_is S t i lt ∙ ap (λ x. person_moves S t i (leaving_moves S t i x) x) same ∙ ap (λ ms. person_moves S t i ms P) b

pub still : (S : Setup) (own : Owner) (t i : ℕ) → Lawful S → i < length S.persons → let P = person_of i (world_at S t) in
    ((p : ℕ) → has S own (less S own) p t i ≡ false) → landing_moves S t i P ≡ [] → leaving_moves S t i P ≡ [] → person_of i (world_at S (suc t)) ≡ P
still S own t i law lt unknown a b =
    let V = mid S t in
    let U = C_world S t V in
    let few = few_mid S t in
    let f2 = C-length S t V in
    let cs = flat_map (λ n. node_turns S t n V) (below S.nodes) in
    let ds = flat_map (λ l. link_turns S t l U) (below (length S.links)) in
    let c : person_of i U ≡ person_of i V = ap (λ ms. person_of i (run S t ms V)) (C_moves-are S t V) ∙ person-run S t i cs V (omega arith)
    ∙ quiet_same S t i cs (person_of i V) (each_flat_all (IsQuiet S t i) (λ n. node_turns S t n V) (λ n. node_away S own (own n) t i law lt n (eq-eqb (own n) (own n) refl ∙ sym (ap not (unknown (own n))))) (below S.nodes)) in
    let d : person_of i (world_at S (suc t)) ≡ person_of i U = ap (person_of i) (world-next S t) ∙ ap (λ ms. person_of i (run S t ms U)) (D_moves-are S t U) ∙ person-run S t i ds U (omega arith)
    ∙ quiet_same S t i ds (person_of i U) (each_flat_all (IsQuiet S t i) (λ l. link_turns S t l U) (λ l. link_away S own (owner_of S own l) t i law lt l (eq-eqb (owner_of S own l) (owner_of S own l) refl ∙ sym (ap not (unknown (owner_of S own l))))) (below (length S.links))) in
    d ∙ c ∙ mid_same S t i lt a b
