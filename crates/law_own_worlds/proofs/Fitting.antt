-- The own world of a partition is fit, and who waits in it does so since before.
use Rattle.traffic.proofs.Common.{ℕ, ◌+◌, ◌-◌, ◌<◌, ◌++◌, ◌∙◌, sym, subst, arith, inl, inr, cases_Bool, true, false, Bool, length, flat_map, replicate, eqb}
use Rattle.traffic.proofs.Common.{recursion_from_All, All-from_recursion, Setup, World, at, on, person_of, below, world_at}
use Rattle.traffic.proofs.Each.{each_append, each_flat, each_flat_all, each_kept, each_map, each_all, each_number, each_take}
use Rattle.traffic.specs.declared.stage.Stage.{Stage, TheVariants.Queue, TheVariants.Buffer, TheVariants.Wait, TheVariants.Bay}
use Rattle.traffic.specs.declared.world.{Hole.Hole, Person.Person}
use Rattle.std.specs.List.{AllByRecursion as Each}
use Rattle.law_in_range.specs.{Rows.Counts, Rows.IsFitRow, Rows.IsFitPerson, Rows.IsFitWorld, Setups.IsFitSetup}
use Rattle.parts.specs.Owners.{Owner, owner_of, lag}
use Rattle.parts.specs.Parts.{Held, mine, late_rows, known_list, has, unheard, ready}
use Rattle.law_own_worlds.proofs.{Knowing.fit_at, Knowing.unheard_known, Making.one_person, Making.one_each, Making.credits}
use Rattle.law_own_worlds.specs.Making.{or_nobody, rows_on, hole, holes_on, own_world, IsKnown}

-- FIT
module _ (S : Setup) (own : Owner) (p t : ℕ) (H : Held) (known : IsKnown S own p H) (z : Counts) (fit : IsFitSetup z S)
    (rows : (l : ℕ) (s : Stage) → Each (IsFitRow z) (H.list l s)) (persons : (i : ℕ) → IsFitPerson z i (or_nobody (H.person i))) where
  each_row : (l : ℕ) → Each (IsFitRow z) (rows_on H l)
  each_row l =
      let q = H.list l Queue in
      let b = H.list l Buffer in
      let w = H.list l Wait in
      let y = H.list l Bay in
      each_append (IsFitRow z) q (b ++ (w ++ y)) (rows l Queue)
      (each_append (IsFitRow z) b (w ++ y) (rows l Buffer) (each_append (IsFitRow z) w y (rows l Wait) (rows l Bay)))

  each_hole : (m : ℕ) → m < z.links → Each (λ (x : Hole). x.link < z.links) (holes_on H t m)
  each_hole m lt =
      let ss = H.holes m ++ replicate (H.rows m - length (H.list m Queue)) t in
      each_map (λ (s : ℕ). Unit {0}) (λ (x : Hole). x.link < z.links) (hole m) (λ s u. lt) ss (each_all (λ (s : ℕ). Unit {0}) (λ s. tt) ss)

  pub fit_world : IsFitWorld z (own_world S t H)
  unfolding own_world
  fit_world =
      let n = fit.links in
      record {
        rows = All-from_recursion (IsFitRow z) (flat_map (rows_on H) (below (length S.links)))
            (each_flat_all (IsFitRow z) (rows_on H) each_row (below (length S.links)));
        persons = λ i. subst (λ (P : Person). IsFitPerson z i P) (sym (one_person S own p t H known i)) (persons i);
        one_each = one_each S own p t H known ∙ fit.persons;
        credits = credits S own p t H known ∙ n;
        holes = All-from_recursion (λ (x : Hole). x.link < z.links) (flat_map (holes_on H t) (below (length S.links)))
            (each_flat (λ (m : ℕ). m < z.links) (λ (x : Hole). x.link < z.links) (holes_on H t) each_hole (below (length S.links))
            (each_number z.links 0 (length S.links) (omega arith)));
      }

-- WHAT IT HOLDS OF A DAY
known_fit : (z : Counts) (S : Setup) (own : Owner) (k : ℕ → ℕ → ℕ) (t l : ℕ) (s : Stage) → Each (IsFitRow z) (world_at S t).rows
    → Each (IsFitRow z) (known_list S own k t l s)
known_fit z S own k t l Queue h =
    let rows = at l Queue (world_at S t) in
    each_take (IsFitRow z) (length rows - length (late_rows S own k t l)) rows (each_kept (IsFitRow z) (on l Queue) (world_at S t).rows h)
known_fit z S own k t l Buffer h = each_kept (IsFitRow z) (on l Buffer) (world_at S t).rows h
known_fit z S own k t l Wait h = each_kept (IsFitRow z) (on l Wait) (world_at S t).rows h
known_fit z S own k t l Bay h = each_kept (IsFitRow z) (on l Bay) (world_at S t).rows h

or_none_fit : (z : Counts) (i : ℕ) (b : Bool) (P : Person) → IsFitPerson z i P → IsFitPerson z i (or_nobody (mine b P))
or_none_fit z i true P h = h
or_none_fit z i false P h = tt

module _ (S : Setup) (own : Owner) (k : ℕ → ℕ → ℕ) (p t : ℕ) (z : Counts) (fit : IsFitSetup z S) where
  abbrev W : World
  W = world_at S t

  unheard_rows : (l : ℕ) (s : Stage) → Each (IsFitRow z) ((unheard S own k p t).list l s)
  unfolding unheard
  unheard_rows l s =
      let rows = recursion_from_All (IsFitRow z) W.rows (fit_at z S t fit).rows in
      elim (cases_Bool (eqb (owner_of S own l) p)) [ inl e ↦ rw e (known_fit z S own k t l s rows) | inr e ↦ rw e tt ]

  unheard_persons : (i : ℕ) → IsFitPerson z i (or_nobody ((unheard S own k p t).person i))
  unfolding unheard
  unheard_persons i = or_none_fit z i (has S own k p t i) (person_of i W) ((fit_at z S t fit).persons i)

  pub unheard_fit : IsFitWorld z (own_world S t (unheard S own k p t))
  unheard_fit =
      fit_world S own p t (unheard S own k p t) (unheard_known S own k p t z fit) z fit unheard_rows unheard_persons

pub ready_fit : (S : Setup) (own : Owner) (p t : ℕ) (z : Counts) → IsFitSetup z S → IsFitWorld z (own_world S t (ready S own p t))
ready_fit S own p t z fit = unheard_fit S own (λ q x. lag S own q x - 1) p t z fit
