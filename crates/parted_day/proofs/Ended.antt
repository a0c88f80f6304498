-- What the end of a day tells of the persons of a partition and of its strays.
use Rattle.traffic.proofs.Common.{◌≡◌, ◌⊎◌, ℕ, zero, suc, ◌+◌, ◌<◌, ◌≤◌, Bool, true, false, List, [], ◌∷◌, ◌++◌, ◌∙◌, ap, refl, sym, subst, arith, inl, inr}
use Rattle.traffic.proofs.Common.{cases_Bool, true≢false, length, length-replicate, get_or, replicate, flat_map, filter, numbers, below, if◌then◌else◌, Some}
use Rattle.traffic.proofs.Common.{None, Option, VehicleId, Setup, World, person_of, nobody, world_at, link_of_vehicle, stranded, keyed, phase_code, Event}
use Rattle.traffic.proofs.{Common.act_at, Common.leg_at, Common.mode_of_leg, Each.each_weaker}
use Rattle.traffic.specs.declared.{moves.Occurrence.Occurrence, world.Person.Person, world.Place.TheVariants.Riding}
use Rattle.std.specs.{List.AllByRecursion as Each, Prelude.is_some}
use Rattle.events.specs.declared.event.Phase.TheVariants as phase
use Rattle.law_in_range.specs.Setups.{IsFitSetup, counts_in, HaveFittingPlans}
use Rattle.town.specs.{Views.setup, declared.day_input.DayInput.DayInput}
use Rattle.queue_link.specs.Links.{LinkView, all_rows}
use Rattle.parts.specs.{Owners.Owner, Owners.lag, Parts.Held, Parts.held, Parts.ends_with, Parts.own_end_events}
use Rattle.law_partitions.{proofs.Setting.lawful, proofs.Setting.alighting, proofs.Setting.are_local, specs.Laws.IsOwner}
use Rattle.law_own_worlds.{proofs.Knowing.unheard_known, proofs.Making.one_person, specs.Making.own_world, specs.Making.or_nobody}
use Rattle.law_parcels.specs.Worlds.{world_held}
use Rattle.law_parts_of_days.proofs.{Riding.rows_length, Riding.stuck_there, Worlds.fit_setup, Worlds.sound_setup, Worlds.consistent_setup}
use Rattle.law_parts_of_days.specs.Riding.{put_rows, put_links, stranded_on, told_on}
use Rattle.law_last_parcels.{proofs.Ending.ends_so, proofs.Having.has_them, proofs.Sent.still_so, specs.Last.LastAreSo, specs.Last.HasThem, specs.Last.EndsSo}
use Rattle.part_seconds.specs.{Stands.AreaStands, declared.area.Area.Area}
use Rattle.parted_day.proofs.{Lags.end_is, Ridden.is_own, Ridden.table_has, Strayed.IsRight, Strayed.all_right, Strayed.stray_sent, Strayed.sent_stray}
use Rattle.parted_day.proofs.Tabled.{is_stray, with_kept, with_is}
use Rattle.parted_day.specs.{Strays.AreStrays, Tables.with_states, Tables.with_links, declared.straying.Stray.Stray}

-- LISTS BY NUMBER
same_flat : (f g : ℕ → List Event) (c : ℕ) → ((i : ℕ) → i < c → f i ≡ g i) → (k n : ℕ) → k + n ≤ c
    → flat_map f (numbers k n) ≡ flat_map g (numbers k n)
same_flat f g c h k zero le = refl
same_flat f g c h k (suc n) le =
    ap (λ (xs : List Event). xs ++ flat_map f (numbers (k + 1) n)) (h k (omega arith))
    ∙ ap (λ (xs : List Event). g k ++ xs) (same_flat f g c h (k + 1) n (omega arith))

-- where those who do not pass tell nothing
passed_flat : (pass : ℕ → Bool) (g : ℕ → List Event) (ns : List ℕ)
    → flat_map (λ (i : ℕ). if pass i then g i else []) ns ≡ flat_map g (filter pass ns)
passed_flat pass g [] = refl
passed_flat pass g (n ∷ ns) =
    elim (cases_Bool (pass n)) [
      | inl e ↦ rw e (ap (λ (xs : List Event). g n ++ xs) (passed_flat pass g ns))
      | inr e ↦ rw e (passed_flat pass g ns)
    ]

-- ONE PERSON
stranded_there : (S : Setup) (W : World) (l i : ℕ) → ((v : VehicleId) → (person_of i W).place ≡ Riding v → l ≡ link_of_vehicle v W.rows)
    → stranded_on S l i (person_of i W) ≡ stranded S W i
unfolding stranded
stranded_there S W l i riding =
    let P = person_of i W in
    stuck_there S W l i (act_at S i P.element) (mode_of_leg (leg_at S i P.element)) P.place riding

nothing_told : (S : Setup) (t l i : ℕ) → keyed t (phase_code phase.E) i 0 (stranded_on S l i nobody) ≡ []
unfolding keyed
nothing_told S t l i = refl

-- nothing is told of who is not under way
pub none_keyed : (t i : ℕ) (said : List Occurrence) → [] ≡ said → [] ≡ keyed t (phase_code phase.E) i 0 said
unfolding keyed
none_keyed t i said e = ap (keyed t (phase_code phase.E) i 0) e

lacked : (o : Option Person) → is_some o ≡ false → or_nobody o ≡ nobody
lacked None e = refl
lacked (Some P) e = absurd (true≢false e)

-- The tables have whom p has at the end, and the links on which those ride.
record AreTables (S : Setup) (own : Owner) (p : ℕ) (persons : List Person) (links : List ℕ) : Type 0 where
  many : length persons ≡ length S.persons
  more : length links ≡ length S.persons
  state : (i : ℕ) → get_or persons i nobody ≡ or_nobody ((held S own p S.settings.end_second).person i)
  ridden :
      (i : ℕ) (v : VehicleId) → i < length S.persons → is_some ((held S own p S.settings.end_second).person i) ≡ true
      → (person_of i (world_at S S.settings.end_second)).place ≡ Riding v
      → get_or links i 0 ≡ link_of_vehicle v (world_at S S.settings.end_second).rows

-- ALL OF THEM
module _ (S : Setup) (own : Owner) (parts p : ℕ) (shares : IsOwner own parts) (last : LastAreSo S own p S.settings.end_second)
    (them : HasThem S own p S.settings.end_second) (strays : List Stray) (are : AreStrays S own parts p S.settings.end_second strays)
    (persons : List Person) (links : List ℕ) (tables : AreTables S own p persons links) where
  abbrev end : ℕ
  end = S.settings.end_second

  abbrev W : World
  W = world_at S end

  abbrev H : Held
  H = held S own p end

  right : Each (IsRight S W) strays
  right = subst (λ (xs : List Stray). Each (IsRight S W) xs) (sym are) (all_right S own parts p last end (omega arith))

  module _ (i : ℕ) (lt : i < length S.persons) where
    abbrev P : Person
    P = person_of i W

    abbrev ends : Bool
    ends = ends_with S own parts p i

    so : EndsSo S own parts p i
    so = ends_so S own parts p i shares

    -- a person who is had or is a stray is as in the day
    abbrev IsKnown : Type 0
    IsKnown = (is_stray i strays ≡ true) ⊎ (is_some (H.person i) ≡ true)

    known : ends ≡ true → IsKnown
    known e = elim (so.either e) [
      | inl y ↦ inr y
      | inr y ↦ inl (ap (is_stray i) are ∙ sent_stray S own parts p i shares y)
    ]

    state_is : IsKnown → get_or (with_states strays persons) i nobody ≡ P
    state_is k =
        let n = tables.many in
        let each : Each (λ (x : Stray). x.person ≡ i → x.state ≡ P) strays
        = each_weaker (IsRight S W) (λ (x : Stray). x.person ≡ i → x.state ≡ P)
        (λ x h e. sym (h.state (subst (λ (j : ℕ). j < length S.persons) (sym e) lt)) ∙ ap (λ (j : ℕ). person_of j W) e) strays right in
        let before : (is_stray i strays ≡ true) ⊎ (get_or persons i nobody ≡ P) = elim k [
          | inl y ↦ inl y
          | inr y ↦ inr (tables.state i ∙ ap or_nobody (them.state i y))
        ] in
        with_is (λ (x : Stray). x.state) nobody P i strays persons each (omega arith) before

    link_is : IsKnown → (v : VehicleId) → P.place ≡ Riding v → get_or (with_links strays links) i 0 ≡ link_of_vehicle v W.rows
    link_is k v riding =
        let n = tables.more in
        let l = link_of_vehicle v W.rows in
        let each : Each (λ (x : Stray). x.person ≡ i → x.link ≡ l) strays
        = each_weaker (IsRight S W) (λ (x : Stray). x.person ≡ i → x.link ≡ l)
        (λ x h e. (
        let there : x.person < length S.persons = subst (λ (j : ℕ). j < length S.persons) (sym e) lt in
        h.link there v (ap (λ (Q : Person). Q.place) (sym (h.state there) ∙ ap (λ (j : ℕ). person_of j W) e) ∙ riding))) strays right in
        let before : (is_stray i strays ≡ true) ⊎ (get_or links i 0 ≡ l) = elim k [
          | inl y ↦ inl y
          | inr y ↦ inr (tables.ridden i v lt y riding)
        ] in
        with_is (λ (x : Stray). x.link) 0 l i strays links each (omega arith) before

    -- of nobody else anything is told
    none_told : ends ≡ false → get_or (with_states strays persons) i nobody ≡ nobody
    none_told e =
        let off : is_stray i strays ≡ false = elim (cases_Bool (is_stray i strays)) [
          | inl y ↦ absurd (true≢false (sym (so.sent (stray_sent S own parts p i (sym (ap (is_stray i) are) ∙ y))) ∙ e))
          | inr n ↦ n
        ] in
        let lacks : is_some (H.person i) ≡ false = elim (cases_Bool (is_some (H.person i))) [
          | inl y ↦ absurd (true≢false (sym (so.had y) ∙ e))
          | inr n ↦ n
        ] in
        with_kept (λ (x : Stray). x.state) nobody i strays persons off ∙ tables.state i ∙ lacked (H.person i) lacks

    abbrev told_so : ℕ → List Event
    told_so j = keyed end (phase_code phase.E) j 0 (stranded S W j)

    one_told : told_on S end (with_links strays links) (with_states strays persons) i ≡ (if ends then told_so i else [])
    one_told =
        let l = get_or (with_links strays links) i 0 in
        elim (cases_Bool ends) [
          | inl e ↦
              let k = known e in
              rw e (ap (λ (Q : Person). keyed end (phase_code phase.E) i 0 (stranded_on S l i Q)) (state_is k)
              ∙ ap (λ (xs : List Occurrence). keyed end (phase_code phase.E) i 0 xs) (stranded_there S W l i
              (λ v riding. link_is k v riding)))
          | inr e ↦
              rw e (ap (λ (Q : Person). keyed end (phase_code phase.E) i 0 (stranded_on S l i Q)) (none_told e) ∙ nothing_told S end l i)
        ]

  all_told :
      flat_map (told_on S end (with_links strays links) (with_states strays persons)) (below (length S.persons))
      ≡ own_end_events S own parts p
  unfolding own_end_events
  all_told =
      let g : ℕ → List Event = λ j. keyed end (phase_code phase.E) j 0 (stranded S W j) in
      let n = length S.persons in
      let f : ℕ → List Event = told_on S end (with_links strays links) (with_states strays persons) in
      same_flat f (λ (j : ℕ). if ends_with S own parts p j then g j else []) n one_told 0 n (omega arith)
      ∙ passed_flat (ends_with S own parts p) g (below n)

-- IN A TOWN
links_length : (links : List LinkView) (table : List ℕ) → length (put_links links table) ≡ length table
unfolding put_links
links_length [] table = refl
links_length (v ∷ vs) table =
    links_length vs (put_rows v.numbers.link (all_rows v.lists) table) ∙ rows_length v.numbers.link (all_rows v.lists) table

pub table_length : (n : ℕ) (links : List LinkView) (table : List ℕ) → table ≡ put_links links (replicate n 0) → length table ≡ n
table_length n links table e = ap length e ∙ links_length links (replicate n 0) ∙ length-replicate n 0

module _ (day : DayInput) (own : Owner) (parts p : ℕ) (given : HaveFittingPlans day) (shares : IsOwner own parts) (A : Area)
    (strays : List Stray)
    (persons : List Person) (seen : List LinkView) (same : persons ≡ A.persons.world.persons) (stood : seen ≡ A.network.links.items) where
  abbrev S0 : Setup
  S0 = setup day

  abbrev t0 : ℕ
  t0 = S0.settings.end_second

  abbrev ridden_at_first : List ℕ
  ridden_at_first = put_links seen (replicate (length persons) 0)

  Stands : ℕ → Type 0
  Stands t = AreaStands day own p t t t A (held S0 own p t) (world_held S0 own p t)

  Told : ℕ → List Event → Type 0
  Told t events =
      events ≡ flat_map (told_on S0 t (with_links strays ridden_at_first) (with_states strays persons)) (below (length persons))

  fit : IsFitSetup (counts_in day) S0
  fit = fit_setup day given

  tables : Stands t0 → AreTables S0 own p persons ridden_at_first
  unfolding Stands
  tables h =
      let H = held S0 own p t0 in
      let V = own_world S0 t0 H in
      let links = A.network.links.items in
      let n = length persons in
      let owned = is_own S0 own p t0 (counts_in day) fit links h.network.links in
      let rows : persons ≡ V.persons = same ∙ h.persons.persons in
      let count : n ≡ length S0.persons = ap length rows ∙ owned.world.one_each in
      let long : length ridden_at_first ≡ n = table_length n seen ridden_at_first refl in
      let first : length (replicate {A = ℕ} n 0) ≡ n = length-replicate {A = ℕ} n 0 in
      record {
        many = count;
        more = long ∙ count;
        state = λ i.
            ap (λ (ps : List Person). get_or ps i nobody) rows
            ∙ one_person S0 own p t0 H (unheard_known S0 own (lag S0 own) p t0 (counts_in day) fit) i;
        ridden = λ i v lt had riding.
            ap (λ (vs : List LinkView). get_or (put_links vs (replicate n 0)) i 0) stood
            ∙ table_has S0 own p t0 (counts_in day) fit links h.network.links i (link_of_vehicle v (world_at S0 t0).rows)
            (replicate n 0) (omega arith)
            ((has_them S0 own parts p t0 (counts_in day) (sound_setup day given)
            (are_local S0 (sound_setup day given) (consistent_setup day given) own parts shares) fit).rides i v had riding);
      }

  ended : Stands t0 → AreStrays S0 own parts p t0 strays → (events : List Event) → Told t0 events → events ≡ own_end_events S0 own parts p
  unfolding Told
  ended h are events told =
      let sound = sound_setup day given in
      let consistent = consistent_setup day given in
      let last : LastAreSo S0 own p t0
      = λ q s n before within. still_so S0 own parts p q s t0 sound (lawful S0 sound consistent)
      (alighting S0 sound consistent) shares n before within in
      let them = has_them S0 own parts p t0 (counts_in day) sound (are_local S0 sound consistent own parts shares) fit in
      told
      ∙ ap (λ (n : ℕ). flat_map (told_on S0 t0 (with_links strays ridden_at_first) (with_states strays persons)) (below n)) (tables h).many
      ∙ all_told S0 own parts p shares last them strays are persons ridden_at_first (tables h)

  -- the same with the number of seconds as a day has it
  pub ended_day : AreaStands day own p day.town.now.settings.end_second day.town.now.settings.end_second day.town.now.settings.end_second A
      (held S0 own p day.town.now.settings.end_second) (world_held S0 own p day.town.now.settings.end_second)
      → AreStrays S0 own parts p day.town.now.settings.end_second strays → (events : List Event)
      → events ≡ flat_map (told_on S0 day.town.now.settings.end_second (with_links strays ridden_at_first) (with_states strays persons))
      (below (length persons)) → events ≡ own_end_events S0 own parts p
  unfolding Stands Told
  ended_day h are events told =
      let back = sym (end_is day) in
      ended (subst (λ (t : ℕ). Stands t) back h) (subst (λ (t : ℕ). AreStrays S0 own parts p t strays) back are) events
      (subst (λ (t : ℕ). Told t events) back told)
