-- The board at the start, and seats that are split off and joined.
use Rattle.std.proofs.Common.{◌≡◌, ◌≢◌, ℕ, zero, suc, ◌*◌, ◌<◌, true, false, cond, eqb, List, [], ◌∷◌, ◌++◌, map, replicate, slice_set, slice_index, length}
use Rattle.std.proofs.Common.{Option, None, refl, sym, ap, ◌∙◌, subst, ⊎_elim, true≢false, length-set, eq-eqb, ne_eqb, arith}
use mathlib.Core.Option.{some, some-injective}
use mathlib.Core.Logic.{dite}
use native.Mathlib.Decide.{ℕ_discrete}
use lib.ListN.{get_elem?}
use Rattle.atomic_table.specs.Table.{State, Splits, Joins, opening}
use Rattle.atomic_table.proofs.Lists.{at_set, at_map, at_last, at_longer, set_else}
use Rattle.cells.proofs.{Homes.at_end, Homes.at_below, Rings.by_bool, Rings.mark_here, Rings.mark_else, Rings.mark_more, Steps.not_both, Steps.slot_in}
use Rattle.cells.specs.Rings.{slot, AreChannels}
use Rattle.cells.specs.Rule.{contains, place, word_at, is_port, is_hub, hub_view, hub_after, hub_joined, spent_view, port_view, IsPortView, IsHubView, IsKeptBy}
use Rattle.cells.specs.declared.{TheConstants.WORDS_APART, table.View.View}

abbrev pub seat_at : (ℕ → ℕ) → ℕ → ℕ → ℕ → ℕ
seat_at who p j x = cond (eqb x p) j (who x)

seat_here : (who : ℕ → ℕ) (p j x : ℕ) → x ≡ p → seat_at who p j x ≡ j
seat_here who p j x is = ap (λ b. cond b j (who x)) (eq-eqb x p is)

seat_else : (who : ℕ → ℕ) (p j x : ℕ) → x ≢ p → seat_at who p j x ≡ who x
seat_else who p j x ne = ap (λ b. cond b j (who x)) (ne_eqb x p ne)

module _ {R S : Type 0} (right : R → ℕ → ℕ → ℕ → Option S → Type 0) (run : R) (count n : ℕ) (from to lag twin : ℕ → ℕ) where
  abbrev St : Type 0
  St = State (Option S) (View R)

  abbrev K : St → Type 0
  K s = IsKeptBy right run count n from to lag twin s

  pub opens : AreChannels count n from to lag twin → (words : List ℕ) (xs : List (Option S)) → length words ≡ WORDS_APART * count
      → ((p : ℕ) → slice_index words p ≡ 0) → length (map (λ (y : Option S). some y) xs) ≡ 65 * n
      → ((k : ℕ) → k < 65 * n → get_elem? xs k ≡ some None) → K (opening words xs (hub_view run [] []))
  opens g words xs many none_done wide empty = record {
    channels = g;
    many = many;
    wide = wide;
    who = λ _. 0;
    marked = λ _. false;
    rings = record {
      near = λ e lt. let a = none_done (place (to e)) in omega arith;
      ready = λ e lt is. absurd (true≢false (sym is));
      full = λ e s lt a b exc. let z = none_done (place (from e)) in absurd (omega arith);
      received = λ e lt is late. absurd (true≢false (sym is));
      free = λ e s lt a b exc. at_map (λ (y : Option S). some y) xs (slot e s) None (empty (slot e s) (slot_in e s n lt));
      lent = λ e lt is. absurd (true≢false (sym is));
    };
    ports = λ j v e is. first_port j v e is;
    hubs = λ j v e is. first_hub j v e;
    seated = λ p lt pos. absurd (omega arith);
  }
    where
      first_port : (j : ℕ) (v : View R) → get_elem? (hub_view run [] [] ∷ []) j ≡ some v → is_port v.role ≡ true
          → IsPortView right run count n from to lag twin words (λ _. 0) (λ _. false) j v
      first_port j v e is = ⊎_elim (λ t. absurd (none_at j v t))
          (λ t. absurd (not_both v.role is (ap (λ (x : View R). is_hub x.role) (sym t.1)))) (at_end [] (hub_view run [] []) v j e)
        where
          none_at : (j : ℕ) (v : View R) → get_elem? [] j ≡ some v → ⊥
          none_at j v e = let h = at_below [] j v e in omega arith

      first_hub : (j : ℕ) (v : View R) → get_elem? (hub_view run [] [] ∷ []) j ≡ some v → IsHubView right run count n from to lag twin words
          (λ _. 0) (λ _. false) j v
      first_hub j v e = ⊎_elim (λ t. let h = at_below [] j v t in absurd (omega arith))
          (λ t. subst (λ x. IsHubView right run count n from to lag twin words (λ _. 0)
          (λ _. false) j x) t.1 record {
            same_run = refl;
            first = t.0;
            without_port = λ p lt no. (
              none_done (place p),
              refl,
              λ _ _ _. refl,
            );
            joined = λ p lt is. absurd (true≢false (sym is));
            gone = λ p lt is z. absurd (true≢false (sym is));
          })
          (at_end [] (hub_view run [] []) v j e)

  module _ (id : ℕ) (v : View R) (p : ℕ) (hub : is_hub v.role ≡ true) (lt : p < count) (no : contains v.had_port p ≡ false) where
    abbrev left : View R
    left = hub_after v p

    abbrev new_port : View R
    new_port = port_view v.run p

    module _ (s : St) (h : K s) (at : get_elem? s.views id ≡ some v) where
      abbrev m : ℕ
      m = length s.views

      abbrev who' : ℕ → ℕ
      who' = seat_at h.who p m

      free_p : (word_at s.words p ≡ 0) × (h.who p ≡ 0) × ((e : ℕ) → e < n → to e ≡ p → h.marked e ≡ false)
      free_p = (h.hubs id v at hub).without_port p lt no

      some_view : 0 < m
      some_view = let b = at_below s.views id v at in omega arith

      abbrev P : ℕ → View R → Type 0
      P j u = IsPortView right run count n from to lag twin s.words who' h.marked j u

      abbrev H : ℕ → View R → Type 0
      H j u = IsHubView right run count n from to lag twin s.words who' h.marked j u

      new_ok : P m new_port
      new_ok = record {
        same_run = (h.hubs id v at hub).same_run;
        named = lt;
        at = seat_here h.who p m p refl;
        later = some_view;
        word = free_p.0;
        marks = λ e in_n is. free_p.2 e in_n is;
      }

      left_ok : H id left
      left_ok = let o = h.hubs id v at hub in record {
        same_run = o.same_run;
        first = o.first;
        without_port = λ q lq nq. dite (ℕ_discrete q p) (λ y. absurd (true≢false (sym (mark_here (contains v.had_port) p q y) ∙ nq)))
            (λ ne. let f = o.without_port q lq (sym (mark_else (contains v.had_port) p q ne) ∙ nq) in
            (f.0, seat_else h.who p m q ne ∙ f.1, f.2));
        joined = λ q lq is. let f = o.joined q lq is in let ne : q ≢ p = λ y. true≢false (sym f.0 ∙ ap (contains v.had_port) y ∙ no) in
            (mark_more (contains v.had_port) p q f.0, seat_else h.who p m q ne ∙ f.1);
        gone = λ q lq is z. dite (ℕ_discrete q p) (λ y. let b = sym (seat_here h.who p m q y) ∙ z in let c = some_view in
            absurd (omega arith))
            (λ ne. o.gone q lq (sym (mark_else (contains v.had_port) p q ne) ∙ is) (sym (seat_else h.who p m q ne) ∙ z));
      }

      pub split_keeps : K record { words = s.words; homes = s.homes; views = slice_set s.views id left ++ new_port ∷ [] }
      split_keeps = record {
        channels = h.channels;
        many = h.many;
        wide = h.wide;
        who = who';
        marked = h.marked;
        rings = h.rings;
        ports = λ j u e is. ⊎_elim
            (λ t. ⊎_elim
            (λ y. absurd (not_both u.role is (ap (λ (x : View R). is_hub x.role) (sym y.1) ∙ hub)))
            (λ y. let o = h.ports j u y.1 is in let ne : u.partition ≢ p = λ z. let a : j ≡ 0 = sym o.at ∙ ap h.who z ∙ free_p.1 in
            let b = o.later in omega arith in
            record {
              same_run = o.same_run;
              named = o.named;
              at = seat_else h.who p m u.partition ne
                  ∙ o.at;
              later = o.later;
              word = o.word;
              marks = o.marks;
            })
            (at_set s.views id j left u t))
            (λ t. subst (P j) t.1 (subst (λ z. P z new_port) (sym (t.0 ∙ length-set s.views id left)) new_ok))
            (at_end (slice_set s.views id left) new_port u j e);
        hubs = λ j u e is. ⊎_elim
            (λ t. ⊎_elim
            (λ y. subst (H j) y.1 (subst (λ z. H z left) (sym y.0) left_ok))
            (λ y. absurd (y.0 ((h.hubs j u y.1 is).first ∙ sym (h.hubs id v at hub).first)))
            (at_set s.views id j left u t))
            (λ t. absurd (not_both u.role (ap (λ (x : View R). is_port x.role) (sym t.1)) is))
            (at_end (slice_set s.views id left) new_port u j e);
        seated = λ q lq pos. dite (ℕ_discrete q p)
            (λ y. (
              new_port,
              ap (get_elem? (slice_set s.views id left ++ new_port ∷ [])) (seat_here h.who p m q y)
                  ∙ at_last (slice_set s.views id left) new_port m (length-set s.views id left),
              refl,
              sym y,
            ))
            (λ ne. let is = seat_else h.who p m q ne in let o = h.seated q lq (subst (λ z. 0 < z) is pos) in
            let far : h.who q ≢ id = λ z. not_both v.role
            (ap (λ (x : View R). is_port x.role) (some-injective v o.0 (sym at ∙ ap (get_elem? s.views) (sym z) ∙ o.1)) ∙ o.2) hub in (
              o.0,
              ap (get_elem? (slice_set s.views id left ++ new_port ∷ [])) is
                  ∙ at_longer (slice_set s.views id left) (new_port ∷ []) (h.who q) o.0 (set_else s.views id (h.who q) left far ∙ o.1),
              o.2,
              o.3,
            ));
      }

    pub splits : Splits K id v left new_port
    splits s h at = split_keeps s h at

  module _ (id : ℕ) (v : View R) (other : ℕ) (w : View R) (hub : is_hub v.role ≡ true) (port : is_port w.role ≡ true) where
    abbrev both : View R
    both = hub_joined v w

    module _ (s : St) (h : K s) (at : get_elem? s.views id ≡ some v) (apart : ¬ (other ≡ id))
        (at_w : get_elem? s.views other ≡ some w) where
      abbrev gone' : ℕ → ℕ
      gone' = seat_at h.who w.partition 0

      abbrev H' : ℕ → View R → Type 0
      H' j u = IsHubView right run count n from to lag twin s.words gone' h.marked j u

      was_made : contains v.had_port w.partition ≡ true
      was_made = by_bool (contains v.had_port w.partition) (λ y. y)
          (λ no. let o = h.ports other w at_w port in let z : other ≡ 0 = sym o.at
          ∙ ((h.hubs id v at hub).without_port w.partition o.named no).1 in let l = o.later in absurd (omega arith))

      both_ok : H' id both
      both_ok = let o = h.hubs id v at hub in record {
        same_run = o.same_run;
        first = o.first;
        without_port = λ q lq nq. let f = o.without_port q lq nq in (
          f.0,
          dite (ℕ_discrete q w.partition) (λ y. seat_here h.who w.partition 0 q y) (λ ne. seat_else h.who w.partition 0 q ne ∙ f.1),
          f.2,
        );
        joined = λ q lq is. dite (ℕ_discrete q w.partition)
            (λ y. (ap (contains v.had_port) y ∙ was_made, seat_here h.who w.partition 0 q y))
            (λ ne. let f = o.joined q lq (sym (mark_else (contains v.joined) w.partition q ne) ∙ is) in
            (f.0, seat_else h.who w.partition 0 q ne ∙ f.1));
        gone = λ q lq is z. dite (ℕ_discrete q w.partition) (λ y. mark_here (contains v.joined) w.partition q y)
            (λ ne. mark_more (contains v.joined) w.partition q (o.gone q lq is (sym (seat_else h.who w.partition 0 q ne) ∙ z)));
      }

      pub join_keeps : K record { words = s.words; homes = s.homes; views = slice_set (slice_set s.views id both) other spent_view }
      join_keeps = let ow = h.ports other w at_w port in record {
        channels = h.channels;
        many = h.many;
        wide = h.wide;
        who = gone';
        marked = h.marked;
        rings = h.rings;
        ports = λ j u e is. ⊎_elim
            (λ t. absurd (true≢false (sym is ∙ ap (λ (x : View R). is_port x.role) (sym t.1))))
            (λ t. ⊎_elim
            (λ y. absurd (not_both u.role is (ap (λ (x : View R). is_hub x.role) (sym y.1) ∙ hub)))
            (λ y. let o = h.ports j u y.1 is in let ne : u.partition ≢ w.partition = λ z. t.0 (sym o.at ∙ ap h.who z ∙ ow.at) in
            record {
              same_run = o.same_run;
              named = o.named;
              at = seat_else h.who w.partition 0 u.partition ne
                  ∙ o.at;
              later = o.later;
              word = o.word;
              marks = o.marks;
            })
            (at_set s.views id j both u t.1))
            (at_set (slice_set s.views id both) other j spent_view u e);
        hubs = λ j u e is. ⊎_elim
            (λ t. absurd (true≢false (sym is ∙ ap (λ (x : View R). is_hub x.role) (sym t.1))))
            (λ t. ⊎_elim
            (λ y. subst (H' j) y.1 (subst (λ z. H' z both) (sym y.0) both_ok))
            (λ y. absurd (y.0 ((h.hubs j u y.1 is).first ∙ sym (h.hubs id v at hub).first)))
            (at_set s.views id j both u t.1))
            (at_set (slice_set s.views id both) other j spent_view u e);
        seated = λ q lq pos. let ne : q ≢ w.partition = λ y. let z = seat_here h.who w.partition 0 q y in omega arith in
            let is = seat_else h.who w.partition 0 q ne in let o = h.seated q lq (subst (λ z. 0 < z) is pos) in
            let far : h.who q ≢ id = λ z. not_both v.role
            (ap (λ (x : View R). is_port x.role) (some-injective v o.0 (sym at ∙ ap (get_elem? s.views) (sym z) ∙ o.1)) ∙ o.2) hub in
            let far' : h.who q ≢ other = λ z. ne (sym o.3
            ∙ ap (λ (x : View R). x.partition) (sym (some-injective w o.0 (sym at_w ∙ ap (get_elem? s.views) (sym z) ∙ o.1)))) in (
              o.0,
              ap (get_elem? (slice_set (slice_set s.views id both) other spent_view)) is
                  ∙ set_else (slice_set s.views id both) other (h.who q) spent_view far' ∙ set_else s.views id (h.who q) both far ∙ o.1,
              o.2,
              o.3,
            );
      }

    pub joins : Joins K id v other w both spent_view
    joins s h at apart at_w = join_keeps s h at apart (sym (set_else s.views id other both apart) ∙ at_w)

-- a border of nothing
pub nothing_at : {A : Type 0} (n : ℕ) (a : A) (k : ℕ) → k < n → get_elem? (replicate n a) k ≡ some a
nothing_at zero a k lt = absurd (omega arith)
nothing_at (suc n) a zero lt = refl
nothing_at (suc n) a (suc k) lt = nothing_at n a k (omega arith)
