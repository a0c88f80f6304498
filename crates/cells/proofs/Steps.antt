-- Each step keeps the rule.
use Rattle.std.proofs.Common.{◌≡◌, ◌≢◌, ℕ, ◌+◌, ◌-◌, ◌*◌, ◌%◌, ◌<◌, ◌≤◌, Bool, true, false, ◌||◌, eqb, List, [], ◌∷◌, slice_set, slice_index, length, Option}
use Rattle.std.proofs.Common.{Some, None, refl, sym, ap, ap₂, ◌∙◌, subst, ⊎_elim, true≢false, mod-lt, length-set, get_or-set_same, get_or-set_other, arith}
use mathlib.Core.Option.{some, none, some-injective}
use mathlib.Core.Option as maybe
use mathlib.Core.Logic.{dite}
use native.Mathlib.Decide.{dec_le, ℕ_discrete}
use lib.ListN.{get_elem?}
use lib.Seq.{set-get_or}
use Rattle.atomic_table.specs.Table.{State, Me, Act, Allows, Valid, stepped, carried_after, keeps, takes, chain}
use Rattle.atomic_table.proofs.Lists.{at_set, set_here, set_else}
use Rattle.cells.proofs.{Homes.give_all, Homes.all_valid, Homes.all_given, Homes.home, Homes.home_long, Homes.home_at, Homes.at_below, Rings.by_bool}
use Rattle.cells.specs.{Carried.Carries, Carried.AreOfSecond, Carried.CarriesBoth, Rings.slot, Rings.AreRings, Rings.mark, Rings.clear}
use Rattle.cells.specs.Rule.{contains, place, word_at, is_port, is_hub, IsKeptBy, after_look, Looks, Publishes}
use Rattle.cells.specs.declared.TheConstants.{WORDS_APART}
use Rattle.cells.specs.declared.table.{Border.Border, Role.Role, Role.TheVariants.Hub, Role.TheVariants.Port, Role.TheVariants.Spent, View.View}
use Rattle.cells.proofs.Rings as rings

pub not_both : (r : Role) → is_port r ≡ true → is_hub r ≡ true → ⊥
not_both Hub a b = true≢false (sym a)
not_both Port a b = true≢false (sym b)
not_both Spent a b = true≢false (sym a)

pub slot_in : (e s n : ℕ) → e < n → slot e s < 65 * n
slot_in e s n h = let r : ℕ = s % 64 in let b : r < 64 = mod-lt s (omega arith) in omega arith

module _ {R S : Type 0} (right : R → ℕ → ℕ → ℕ → Option S → Type 0) (run : R) (count n : ℕ) (from to lag twin : ℕ → ℕ) where
  abbrev pub St : Type 0
  St = State (Option S) (View R)

  abbrev pub K : St → Type 0
  K s = IsKeptBy right run count n from to lag twin s

  -- a port's view and its own word change, and slots and marks with them
  moved : (s : St) (h : K s) (id : ℕ) (v w : View R) → get_elem? s.views id ≡ some v → is_port v.role ≡ true → w.run ≡ v.run
      → w.role ≡ v.role → w.partition ≡ v.partition
      → (words : List ℕ) (homes : List (maybe.Option (Option S))) (marked : ℕ → Bool) → length words ≡ WORDS_APART * count
      → length homes ≡ 65 * n
      → word_at words v.partition ≡ w.done → ((q : ℕ) → q ≢ v.partition → word_at words q ≡ word_at s.words q)
      → AreRings (right run) n from to lag twin (λ q. word_at words q) (λ k. get_elem? homes k) marked
      → ((e : ℕ) → e < n → to e ≡ v.partition → marked e ≡ contains w.marks e)
      → ((e : ℕ) → e < n → to e ≢ v.partition → marked e ≡ h.marked e)
      → K record { words = words; homes = homes; views = slice_set s.views id w }
  moved s h id v w at port same_run same_role same_p words homes marked many wide word others ring mine theirs = let o =
      h.ports id v at port in record {
        channels = h.channels;
        many = many;
        wide = wide;
        who = h.who;
        marked = marked;
        rings = ring;
        ports = λ j u e is. ⊎_elim
            (λ t. let up : u.partition ≡ v.partition = sym (ap (λ (x : View R). x.partition) t.1) ∙ same_p in record {
              same_run = sym (ap (λ (x : View R). x.run) t.1) ∙ same_run ∙ o.same_run;
              named = subst (λ z. z < count) (sym up) o.named;
              at = ap h.who up ∙ o.at ∙ sym t.0;
              later = subst (λ z. 0 < z) (sym t.0) o.later;
              word = ap (word_at words) up ∙ word ∙ ap (λ (x : View R). x.done) t.1;
              marks = λ e in_n is_to. mine e in_n (is_to ∙ up) ∙ ap (λ (x : View R). contains x.marks e) t.1;
            })
            (λ t. let q = h.ports j u t.1 is in let ne : u.partition ≢ v.partition = λ y. t.0 (sym q.at ∙ ap h.who y ∙ o.at) in record {
              same_run = q.same_run;
              named = q.named;
              at = q.at;
              later = q.later;
              word = others u.partition ne ∙ q.word;
              marks = λ e in_n is_to. theirs e in_n (λ y. ne (sym is_to ∙ y)) ∙ q.marks e in_n is_to;
            })
            (at_set s.views id j w u e);
        hubs = λ j u e is. ⊎_elim
            (λ t. absurd (not_both v.role port (ap is_hub (sym same_role ∙ ap (λ (x : View R). x.role) t.1) ∙ is)))
            (λ t. let q = h.hubs j u t.1 is in record {
              same_run = q.same_run;
              first = q.first;
              without_port = λ p lt no. let f = q.without_port p lt no in let ne : p ≢ v.partition = λ y. let z : id ≡ 0 = sym o.at
                  ∙ ap h.who (sym y) ∙ f.1 in let l = o.later in omega arith in
                  (others p ne ∙ f.0, f.1, λ e in_n is_to. theirs e in_n (λ y. ne (sym is_to ∙ y)) ∙ f.2 e in_n is_to);
              joined = q.joined;
              gone = q.gone;
            })
            (at_set s.views id j w u e);
        seated = λ p lt pos. let q = h.seated p lt pos in dite (ℕ_discrete (h.who p) id)
            (λ y. let same : v ≡ q.0 = some-injective v q.0 (sym at ∙ ap (get_elem? s.views) (sym y) ∙ q.1) in (
              w,
              ap (get_elem? (slice_set s.views id w)) y ∙ set_here s.views id w (at_below s.views id v at),
              ap is_port same_role ∙ port,
              same_p ∙ ap (λ (x : View R). x.partition) same ∙ q.3,
            ))
            (λ ne. (q.0, set_else s.views id (h.who p) w ne ∙ q.1, q.2, q.3));
      }

  -- the word that was read is the word
  still : (s : St) (i id : ℕ) (w : View R) (homes : List (maybe.Option (Option S)))
      → K record { words = s.words; homes = homes; views = slice_set s.views id w }
      → K record { words = slice_set s.words i (slice_index s.words i); homes = homes; views = slice_set s.views id w }
  still s i id w homes k = subst (λ ws. K record { words = ws; homes = homes; views = slice_set s.views id w })
      (sym (set-get_or s.words i 0)) k

  module _ (slots id : ℕ) (me : Me (Option S) (View R)) (border : Border) (port : is_port me.0.role ≡ true) (in_n : border.inward < n)
      (fr : from border.inward ≡ border.from) (is_to : to border.inward ≡ me.0.partition) (lg : lag border.inward ≡ border.lag)
      (tw : twin border.inward ≡ border.outward) where
    abbrev Goes : St → Type 0
    Goes s = (w : View R) × (a : Act (Option S)) × Valid s.homes me.1 a
        × K (stepped s (place border.from) (slice_index s.words (place border.from)) id me.1 w a)
        × Looks right border (place border.from) me (slice_index s.words (place border.from)) (w, carried_after me.1 a)

    module _ (s : St) (h : K s) (at : get_elem? s.views id ≡ some me.0) where
      abbrev W : ℕ → ℕ
      W q = word_at s.words q

      -- the view changes in what the rule does not read
      unmarked : (w : View R) → w.run ≡ me.0.run → w.role ≡ me.0.role → w.partition ≡ me.0.partition → w.done ≡ me.0.done
          → w.marks ≡ me.0.marks → K (stepped s (place border.from) (W border.from) id me.1 w keeps)
      unmarked w a b c d f = let o = h.ports id me.0 at port in
          still s (place border.from) id w s.homes (moved s h id me.0 w at port a b c s.words s.homes h.marked h.many h.wide (o.word
          ∙ sym d) (λ _ _. refl) h.rings
          (λ e in_n is. o.marks e in_n is ∙ ap (λ m. contains m e) (sym f)) (λ _ _ _. refl))

      word_is : W (to border.inward) ≡ me.0.done
      word_is = ap W is_to ∙ (h.ports id me.0 at port).word

      -- a marked neighbour is far enough
      unready : W border.from + border.lag ≤ me.0.done → contains me.0.marks border.inward ≡ false
      unready le = by_bool (contains me.0.marks border.inward)
          (λ is. let r = h.rings.ready border.inward in_n ((h.ports id me.0 at port).marks border.inward in_n is_to ∙ is) in
          let a = word_is in let b : W (from border.inward) ≡ W border.from = ap W fr in absurd (omega arith))
          (λ no. no)

      not_yet : W border.from + border.lag ≤ me.0.done → Goes s
      not_yet le = (
        record (after_look border (W border.from) me.0) { waits = me.0.waits + 1 },
        keeps,
        tt,
        unmarked _ refl refl refl refl refl,
        (refl, λ _. (unready le, refl), λ lt. absurd (omega arith), λ lt. absurd (omega arith)),
      )

      again : me.0.done < W border.from + border.lag → contains me.0.marks border.inward ≡ true → Goes s
      again lt is = (
        after_look border (W border.from) me.0,
        keeps,
        tt,
        unmarked _ refl refl refl refl refl,
        (refl, λ le. absurd (omega arith), λ _ _. refl, λ _ no. absurd (true≢false (sym is ∙ no))),
      )

      abbrev out_slot : ℕ
      out_slot = slot border.outward me.0.done

      abbrev in_slot : ℕ
      in_slot = slot border.inward (me.0.done - border.lag)

      abbrev marking : View R
      marking = record (after_look border (W border.from) me.0) { marks = border.inward ∷ me.0.marks }

      module _ (lt : me.0.done < W border.from + border.lag) (no : contains me.0.marks border.inward ≡ false) where
        far : W (to border.inward) < W (from border.inward) + lag border.inward
        far = let a = word_is in let b : W (from border.inward) ≡ W border.from = ap W fr in omega arith

        un : h.marked border.inward ≡ false
        un = (h.ports id me.0 at port).marks border.inward in_n is_to ∙ no

        out_is : slot (twin border.inward) (W (to border.inward)) ≡ out_slot
        out_is = ap₂ slot tw word_is

        in_is : slot border.inward (W (to border.inward) - lag border.inward) ≡ in_slot
        in_is = ap₂ (λ a b. slot border.inward (a - b)) word_is lg

        out_there : get_elem? s.homes out_slot ≡ some (some None)
        out_there = ap (get_elem? s.homes) (sym out_is) ∙ rings.out_free (right run) count n from to lag twin h.channels W
            (λ k. get_elem? s.homes k) h.marked h.rings border.inward in_n un far

        in_there : border.lag ≤ me.0.done → (x : Option S) × (get_elem? s.homes in_slot ≡ some (some x))
            × ((r : R) → me.0.run ≡ Some r → right r border.from me.0.partition (me.0.done - border.lag) x)
        in_there late = let o = h.ports id me.0 at port in let a = word_is in
            let got = rings.in_full (right run) count n from to lag twin h.channels W
            (λ k. get_elem? s.homes k) h.marked h.rings border.inward in_n un far (omega arith) in (
              got.0,
              ap (get_elem? s.homes) (sym in_is) ∙ got.1,
              λ r is. let same : run ≡ r = some_same (sym o.same_run ∙ is) in
                  subst (λ z. right z border.from me.0.partition (me.0.done - border.lag) got.0) same
                  (subst (λ z. right run z me.0.partition (me.0.done - border.lag) got.0) fr
                  (subst (λ z. right run (from border.inward) z (me.0.done - border.lag) got.0) is_to
                  (subst (λ z. right run (from border.inward) (to border.inward) z got.0) (ap₂ (λ a b. a - b) word_is lg) got.2))),
            )
          where
            some_same : {a b : R} → Some a ≡ Some b → a ≡ b
            some_same e = cc

        differ : in_slot ≢ out_slot
        differ e = let q = (rings.same_slot border.inward (me.0.done - border.lag) border.outward me.0.done e).0 in
            h.channels.apart border.inward in_n (ap from (q ∙ sym tw) ∙ h.channels.back border.inward in_n)

        kept : (homes : List (maybe.Option (Option S))) → length homes ≡ length s.homes → get_elem? homes out_slot ≡ some none
            → (border.lag ≤ me.0.done → get_elem? homes in_slot ≡ some none)
            → ((k : ℕ) → k ≢ out_slot → (border.lag ≤ me.0.done → k ≢ in_slot) → get_elem? homes k ≡ get_elem? s.homes k)
            → K record {
              words = slice_set s.words (place border.from)
                  (W border.from);
              homes = homes;
              views = slice_set s.views id marking;
            }
        kept homes long out_gone in_gone else = let o = h.ports id me.0 at port in
            still s (place border.from) id marking homes (moved s h id me.0 marking at port refl refl refl s.words homes
            (mark h.marked border.inward) h.many (long ∙ h.wide) o.word (λ _ _. refl)
            (rings.look_keeps (right run) count n from to lag twin h.channels W
            (λ k. get_elem? s.homes k) h.marked h.rings border.inward in_n far (λ k. get_elem? homes k)
            (ap (get_elem? homes) out_is ∙ out_gone) (λ late. ap (get_elem? homes) in_is ∙ in_gone (let w = word_is in omega arith))
            (λ k a b. else k (λ e. a (e ∙ sym out_is)) (λ late e. b (let w = word_is in omega arith) (e ∙ sym in_is))))
            (λ e lt is. ap (λ b. eqb e border.inward || b) (o.marks e lt is))
            (λ e lt ne. rings.mark_else h.marked border.inward e (λ y. ne (ap to y ∙ is_to))))

        picks : Goes s
        picks = dite (dec_le border.lag me.0.done)
            (λ late. let x = in_there late in (
              marking,
              chain (takes out_slot None) (takes in_slot x.0),
              (out_there, set_else s.homes out_slot in_slot none differ ∙ x.1),
              kept (slice_set (slice_set s.homes out_slot none) in_slot none) (length-set (slice_set s.homes out_slot none) in_slot none
                  ∙ length-set s.homes out_slot none)
                  (set_else (slice_set s.homes out_slot none) in_slot out_slot none (λ e. differ (sym e))
                  ∙ set_here s.homes out_slot none (at_below s.homes out_slot (some None) out_there))
                  (λ _. set_here (slice_set s.homes out_slot none) in_slot none
                  (subst (λ z. in_slot < z) (sym (length-set s.homes out_slot none)) (at_below s.homes in_slot (some x.0) x.1)))
                  (λ k a b. set_else (slice_set s.homes out_slot none) in_slot k none (b late) ∙ set_else s.homes out_slot k none a),
              (
                refl,
                λ le. absurd (omega arith),
                λ _ yes. absurd (true≢false (sym yes ∙ no)),
                λ _ _. (refl, (λ early. absurd (omega arith), λ _. (x.0, refl, x.2))),
              ),
            ))
            (λ early. (
              marking,
              takes out_slot None,
              out_there,
              kept (slice_set s.homes out_slot none) (length-set s.homes out_slot none)
                  (set_here s.homes out_slot none (at_below s.homes out_slot (some None) out_there)) (λ late. absurd (early late))
                  (λ k a b. set_else s.homes out_slot k none a),
              (
                refl,
                λ le. absurd (omega arith),
                λ _ yes. absurd (true≢false (sym yes ∙ no)),
                λ _ _. (refl, (λ _. refl, λ late. absurd (early late))),
              ),
            ))

      goes : Goes s
      goes = dite (dec_le (W border.from + border.lag) me.0.done) not_yet
          (λ far. let lt : me.0.done < W border.from + border.lag = omega arith in by_bool (contains me.0.marks border.inward)
          (λ is. again lt is) (λ no. picks lt no))

    pub looks : Allows K slots id me (place border.from) (λ x. x) (Looks right border (place border.from) me)
    looks s h long at bound = goes s h at

  module _ (slots id : ℕ) (me : Me (Option S) (View R)) (new : ℕ) (port : is_port me.0.role ≡ true) (next : new ≡ me.0.done + 1)
      (good : AreOfSecond (right run) n from to lag twin me.0.partition me.0.done me.1) (both : (e : ℕ) → e < n → to e ≡ me.0.partition
      → CarriesBoth (right run) n from to lag twin me.0.partition me.0.done me.1 e) (all : (e : ℕ) → e < n → to e ≡ me.0.partition
      → contains me.0.marks e ≡ true) where
    module _ (s : St) (h : K s) (at : get_elem? s.views id ≡ some me.0) where
      abbrev t : ℕ
      t = me.0.done

      abbrev after : List ℕ
      after = slice_set s.words (place me.0.partition) new

      abbrev put_home : List (maybe.Option (Option S))
      put_home = home s.homes me.1

      abbrev next_view : View R
      next_view = record me.0 { done = me.0.done + 1; marks = []; still = me.0.waits }

      here : word_at s.words me.0.partition ≡ t
      here = (h.ports id me.0 at port).word

      stands : word_at after me.0.partition ≡ t + 1
      stands = let o = (h.ports id me.0 at port).named in let m = h.many in
          get_or-set_same s.words (place me.0.partition) new 0 (omega arith) ∙ next

      others : (q : ℕ) → q ≢ me.0.partition → word_at after q ≡ word_at s.words q
      others q ne = get_or-set_other s.words (place me.0.partition) (place q) new 0 (λ e. ne (omega arith))

      marks_in : (e : ℕ) → e < n → to e ≡ me.0.partition → h.marked e ≡ true
      marks_in e lt is = (h.ports id me.0 at port).marks e lt is ∙ all e lt is

      inside : (e r : ℕ) → e < n → slot e r < length s.homes
      inside e r lt = subst (λ z. slot e r < z) (sym h.wide) (slot_in e r n lt)

      in_back : (e : ℕ) → e < n → to e ≡ me.0.partition → lag e ≤ t → get_elem? put_home (slot e (t - lag e)) ≡ some (some None)
      in_back e lt is late = ⊎_elim
          (λ c. c.2 (inside e (t - lag e) lt) ∙ ap (λ (y : Option S). some (some y)) (⊎_elim
          (λ f. f.5)
          (λ f. absurd (h.channels.apart e lt (ap from (rings.same_slot e (t - lag e) f.0 t f.3).0 ∙ f.2 ∙ sym is)))
          (good (slot e (t - lag e)) c.0 c.1)))
          (λ st. let q = (both e lt is).0 late in absurd (st.0 q.0 q.1))
          (home_at s.homes me.1 (slot e (t - lag e)))

      out_back : (e : ℕ) → e < n → from e ≡ me.0.partition → (x : Option S) × (get_elem? put_home (slot e t) ≡ some (some x))
          × right run me.0.partition (to e) t x
      out_back e lt is = let tn = h.channels.twin_in e lt in let ti : to (twin e) ≡ me.0.partition = h.channels.forth e lt ∙ is in ⊎_elim
          (λ c. ⊎_elim
          (λ f. absurd (h.channels.apart e lt (is ∙ sym (ap to (rings.same_slot e t f.0 (t - lag f.0) f.4).0 ∙ f.2))))
          (λ f. let same = (rings.same_slot e t f.0 t f.3).0 in (
            c.0,
            c.2 (inside e t lt),
            subst (λ z. right run me.0.partition (to z) t c.0) (sym same) f.4,
          ))
          (good (slot e t) c.0 c.1))
          (λ st. let q = (both (twin e) tn ti).1 in absurd (st.0 q.0
          (subst (λ z. Carries me.1 (slot z t) q.0) (h.channels.again e lt) q.1)))
          (home_at s.homes me.1 (slot e t))

      else : (k : ℕ) → ((e : ℕ) → e < n → to e ≡ me.0.partition → lag e ≤ t → k ≢ slot e (t - lag e))
          → ((e : ℕ) → e < n → from e ≡ me.0.partition → k ≢ slot e t) → get_elem? put_home k ≡ get_elem? s.homes k
      else k a b = ⊎_elim
          (λ c. ⊎_elim (λ f. absurd (a f.0 f.1 f.2 f.3 f.4)) (λ f. absurd (b f.0 f.1 f.2 f.3)) (good k c.0 c.1))
          (λ st. st.1)
          (home_at s.homes me.1 k)

      keeps_on : K record { words = after; homes = put_home; views = slice_set s.views id next_view }
      keeps_on = moved s h id me.0 next_view at port refl refl refl after put_home (clear h.marked to me.0.partition)
          (length-set s.words (place me.0.partition) new ∙ h.many) (home_long s.homes me.1 ∙ h.wide) stands
          others
          (rings.publish_keeps (right run) count n from to lag twin h.channels (λ q. word_at s.words q)
          (λ k. get_elem? s.homes k) h.marked h.rings me.0.partition t here marks_in (λ q. word_at after q) stands
          others (λ k. get_elem? put_home k) in_back out_back else)
          (λ e lt is. rings.clear_here h.marked to me.0.partition e is)
          (λ e lt ne. rings.clear_else h.marked to me.0.partition e ne)

    pub publishes : Allows K slots id me (place me.0.partition) (λ _. new) (λ _ w. Publishes me w)
    publishes s h long at bound = (
      next_view s h at,
      give_all me.1,
      all_valid s.homes me.1,
      keeps_on s h at,
      ap (λ c. (next_view s h at, c)) (all_given me.1),
    )
