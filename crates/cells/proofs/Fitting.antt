-- A port stays one of its board through its calls.
use Rattle.std.proofs.Common.{◌≡◌, ℕ, ◌+◌, ◌-◌, ◌<◌, ◌≤◌, Bool, true, false, List, [], ◌∷◌, ◌++◌, map, length, set, sum_by, vec_capacity, Vec, Global, Option}
use Rattle.std.proofs.Common.{None, sym, ap, ◌∙◌, refl, subst, length-append, length-set, get_or-set_same, get_or-set_other, arith}
use Rattle.std.proofs.lemmas.List.Sums.{sum_by-set}
use mathlib.Core.Logic.{dite}
use native.Mathlib.Decide.{ℕ_discrete, dec_le}
use Rattle.atomic_table.specs.Table.{Me}
use Rattle.cells.proofs.Orders.{has_last, has_more, fresh_last, free_room, block_late, block_early, blocks_last}
use Rattle.cells.{proofs.Rings.mark_here, proofs.Rings.mark_else, specs.Ports.AreBorders}
use Rattle.cells.specs.Ports.{border_at, handover_at, ready_in, is_awaited, slots_of, all_slots_of, AreApart, IsHandover, AreHandovers, run_of, degree, IsPort}
use Rattle.cells.specs.{Rings.slot, Rule.contains, Rule.place, Rule.is_port, Rule.after_look, Rule.Looks, declared.board.Board.Board}
use Rattle.cells.specs.declared.board.Handover.{Handover, TheVariants.Awaited, TheVariants.Arrived, TheVariants.Taken, TheVariants.Put}
use Rattle.cells.specs.declared.{board.Port.Port, table.Border.Border, table.View.View}

module _ {T R P : Type 0} (right : R → ℕ → ℕ → ℕ → Option P → Type 0) (b : Board T R P) where
  -- the order contains room for one more
  pub room_for : (p : Port T R P) → IsPort right b p → (k : ℕ) → k < degree p → handover_at p.handovers.items k ≡ Awaited
      → length p.order.items < vec_capacity p.order
  room_for p f k lt away = let l = f.long in let c = f.counted in let r = f.room in
      let o = free_room p.handovers.items k (omega arith) away in omega arith

  -- what a ready look leaves in the port's seat and hands over
  abbrev pub Handed : Port T R P → ℕ → Me (Option P) (View R) → Handover P → Type 0
  Handed p k me h = let border : Border = border_at p.borders.items k in
      (me.0.run ≡ p.seat.me.0.run) × (me.0.role ≡ p.seat.me.0.role) × (me.0.partition ≡ p.seat.me.0.partition)
      × (me.0.done ≡ p.seat.me.0.done) × (me.0.marks ≡ border.inward ∷ p.seat.me.0.marks)
      × (me.1 ≡ slots_of border p.done ++ p.seat.me.1)
      × ((border.lag ≤ p.done → (x : Option P) × (h ≡ Arrived x) × right (run_of b) border.from p.partition (p.done - border.lag) x))
      × (p.done < border.lag → h ≡ Taken)

  pub handed : (p : Port T R P) → IsPort right b p → (k word : ℕ) → k < degree p → handover_at p.handovers.items k ≡ Awaited
      → (me me' : Me (Option P) (View R)) (h : Handover P)
      → Looks right (border_at p.borders.items k) (place (border_at p.borders.items k).from) p.seat.me word me
      → p.done < word + (border_at p.borders.items k).lag → me'.0 ≡ me.0
      → ((border_at p.borders.items k).lag ≤ p.done → (c : List (ℕ × Option P)) (x : Option P)
      → me.1 ≡ (slot (border_at p.borders.items k).inward (p.done - (border_at p.borders.items k).lag), x) ∷ c → (h ≡ Arrived x)
      × (me'.1 ≡ (slot (border_at p.borders.items k).inward (p.done - (border_at p.borders.items k).lag), None) ∷ c))
      → (p.done < (border_at p.borders.items k).lag → (h ≡ Taken) × (me'.1 ≡ me.1)) → Handed p k me' h
  handed p f k word lt away me me' h lk far same late early =
      let border : Border = border_at p.borders.items k in let at = f.done in
      let ok : (contains p.seat.me.0.marks border.inward ≡ false)
      × (contains p.order.items k ≡ false) = subst (λ z. IsHandover (right (run_of b)) p.partition p.done border
      (contains p.seat.me.0.marks border.inward)
      (contains p.order.items k) z) away (f.held k lt) in
      let got = lk.3 (omega arith) ok.0 in
      let v : me'.0 ≡ record (after_look border word p.seat.me.0) { marks = border.inward ∷ p.seat.me.0.marks } = same ∙ got.0 in
      let T0 : p.seat.me.0.done ≡ p.done = f.done in (
        ap (λ (x : View R). x.run) v,
        ap (λ (x : View R). x.role) v,
        ap (λ (x : View R). x.partition) v,
        ap (λ (x : View R). x.done) v,
        ap (λ (x : View R). x.marks) v,
        dite (dec_le border.lag p.done)
            (λ le. let q = got.1.1 (omega arith) in let there = q.1
            ∙ ap (λ z. (slot border.inward (z - border.lag), q.0) ∷ (slot border.outward z, None) ∷ p.seat.me.1) T0 in
            (late le ((slot border.outward p.done, None) ∷ p.seat.me.1) q.0 there).1
            ∙ ap (λ z. z ++ p.seat.me.1) (sym (block_late border p.done le)))
            (λ no. let q = got.1.0 (omega arith) in (early (omega arith)).1 ∙ q ∙ ap (λ z. (slot border.outward z, None) ∷ p.seat.me.1) T0
            ∙ ap (λ z. z ++ p.seat.me.1) (sym (block_early border p.done (omega arith)))),
        (λ le. let q = got.1.1 (omega arith) in let there = q.1
            ∙ ap (λ z. (slot border.inward (z - border.lag), q.0) ∷ (slot border.outward z, None) ∷ p.seat.me.1) T0 in (
              q.0,
              (late le ((slot border.outward p.done, None) ∷ p.seat.me.1) q.0 there).0,
              subst (λ z. right (run_of b) border.from z (p.done - border.lag) q.0) f.partition
                  (subst (λ z. right (run_of b) border.from p.seat.me.0.partition (z - border.lag) q.0) T0 (q.2 (run_of b) f.run)),
            )),
        (λ e. (early e).0),
      )

  handover_is : (p : ℕ) (t : ℕ) (r : Border) (m m' o o' : Bool) (h h' : Handover P) → m' ≡ m → o' ≡ o → h' ≡ h
      → IsHandover (right (run_of b)) p t r m o h → IsHandover (right (run_of b)) p t r m' o' h'
  handover_is p t r m m' o o' h h' a c d k = subst (λ z. IsHandover (right (run_of b)) p t r m' o' z) (sym d)
      (subst (λ z. IsHandover (right (run_of b)) p t r m' z h) (sym c) (subst (λ z. IsHandover (right (run_of b)) p t r z o h) (sym a) k))

  pub ready_port : (p p' : Port T R P) → IsPort right b p → (k : ℕ) → k < degree p → handover_at p.handovers.items k ≡ Awaited
      → (h : Handover P) → Handed p k p'.seat.me h
      → p'.seat.table_id ≡ p.seat.table_id → p'.partition ≡ p.partition → p'.done ≡ p.done → p'.neighbours.items ≡ p.neighbours.items
      → p'.borders.items ≡ p.borders.items → p'.handovers.items ≡ set p.handovers.items k h → p'.order.items ≡ p.order.items ++ k ∷ []
      → vec_capacity p.order ≤ vec_capacity p'.order → IsPort right b p'
  ready_port p p' f k lt away h g table partition done names borders handovers order room =
      let border : Border = border_at p.borders.items k in let t : ℕ = p.done in
      let old : (contains p.seat.me.0.marks border.inward ≡ false)
      × (contains p.order.items k ≡ false) = subst (λ z. IsHandover (right (run_of b)) p.partition p.done border
      (contains p.seat.me.0.marks border.inward)
      (contains p.order.items k) z) away (f.held k lt) in
      let there : k < length p.handovers.items = subst (λ z. k < z) (sym f.long) lt in
      let here : IsHandover (right (run_of b)) p.partition t border true true h = dite (dec_le border.lag t)
      (λ le. let q = g.6 le in subst (λ z. IsHandover (right (run_of b)) p.partition t border true true z) (sym q.1) (refl, refl, le, q.2))
      (λ no. subst (λ z. IsHandover (right (run_of b)) p.partition t border true true z) (sym (g.7 (omega arith))) (refl, refl)) in
      let is_out : ready_in h ≡ 1 = dite (dec_le border.lag t) (λ le. ap ready_in (g.6 le).1) (λ no. ap ready_in (g.7 (omega arith))) in
      let held : AreHandovers (right (run_of b)) p.partition t p.borders.items (border.inward ∷ p.seat.me.0.marks) (p.order.items ++ k ∷ [])
      (set p.handovers.items k h) =
      λ j lj. dite (ℕ_discrete j k)
      (λ is. subst (λ z. IsHandover (right (run_of b)) p.partition t (border_at p.borders.items z)
      (contains (border.inward ∷ p.seat.me.0.marks) (border_at p.borders.items z).inward) (contains (p.order.items ++ k ∷ []) z)
      (handover_at (set p.handovers.items k h) z)) (sym is)
      (handover_is p.partition t border true _ true _ h _ (mark_here (contains p.seat.me.0.marks) border.inward border.inward refl)
      (has_last p.order.items k k refl) (get_or-set_same p.handovers.items k h Awaited there) here))
      (λ ne. handover_is p.partition t (border_at p.borders.items j) (contains p.seat.me.0.marks (border_at p.borders.items j).inward) _
      (contains p.order.items j) _ (handover_at p.handovers.items j) _
      (mark_else (contains p.seat.me.0.marks) border.inward (border_at p.borders.items j).inward
      (λ e. ne (f.borders.once j k lj lt e))) (has_more p.order.items k j ne) (get_or-set_other p.handovers.items k j h Awaited ne)
      (f.held j lj)) in
      record {
        table = table ∙ f.table;
        role = ap is_port g.1 ∙ f.role;
        run = g.0 ∙ f.run;
        partition = g.2 ∙ f.partition ∙ sym partition;
        done = g.3 ∙ f.done ∙ sym done;
        named = subst (λ z. z < b.count) (sym partition) f.named;
        borders = subst (λ z. AreBorders b.channels.items z p'.borders.items) (sym partition)
            (subst (λ z. AreBorders b.channels.items p.partition z) (sym borders) f.borders);
        names = names ∙ f.names ∙ ap (map (λ (r : Border). r.from)) (sym borders);
        as_many = ap length names ∙ f.as_many ∙ ap length (sym borders);
        long = ap length handovers ∙ length-set p.handovers.items k h ∙ f.long ∙ ap length (sym borders);
        room = subst (λ z. length z ≤ vec_capacity p'.order) (sym borders) (let a = f.room in omega arith);
        held = let A = λ (q u : ℕ) (bs : List Border) (ms os : List ℕ) (hs : List (Handover P)). AreHandovers
            (right (run_of b)) q u bs ms os hs in
            subst (λ z. A p'.partition p'.done p'.borders.items z p'.order.items p'.handovers.items) (sym g.4)
            (subst (λ z. A p'.partition p'.done z (border.inward ∷ p.seat.me.0.marks) p'.order.items p'.handovers.items) (sym borders)
            (subst (λ z. A p'.partition p'.done p.borders.items (border.inward ∷ p.seat.me.0.marks) z p'.handovers.items) (sym order)
            (subst (λ z. A p'.partition p'.done p.borders.items (border.inward ∷ p.seat.me.0.marks) (p.order.items ++ k ∷ []) z)
            (sym handovers)
            (subst (λ z. A z p'.done p.borders.items (border.inward ∷ p.seat.me.0.marks) (p.order.items ++ k ∷ [])
            (set p.handovers.items k h)) (sym partition)
            (subst (λ z. A p.partition z p.borders.items (border.inward ∷ p.seat.me.0.marks) (p.order.items ++ k ∷ [])
            (set p.handovers.items k h)) (sym done) held)))));
        bounded = λ j is. subst (λ z. j < length z) (sym borders) (dite (ℕ_discrete j k)
            (λ e. subst (λ z. z < length p.borders.items) (sym e) lt)
            (λ ne. f.bounded j (sym (has_more p.order.items k j ne) ∙ ap (λ z. contains z j) (sym order) ∙ is)));
        fresh = subst AreApart (sym order) (fresh_last p.order.items k f.fresh old.1);
        counted = ap (sum_by ready_in) handovers ∙ (let s = sum_by-set ready_in p.handovers.items k h Awaited there in let c = f.counted in
            let z : ready_in (handover_at p.handovers.items k) ≡ 0 = ap ready_in away in let l = length-append p.order.items (k ∷ []) in
            let q : sum_by ready_in (set p.handovers.items k h) ≡ length (p.order.items ++ k ∷ []) = omega arith in q)
            ∙ ap length (sym order);
        carried = g.5 ∙ ap (λ z. slots_of border t ++ z) f.carried ∙ sym (blocks_last p.borders.items t p.order.items k [])
            ∙ ap (λ z. all_slots_of z t (p.order.items ++ k ∷ []) []) (sym borders)
            ∙ ap (λ z. all_slots_of p'.borders.items z (p.order.items ++ k ∷ []) []) (sym done)
            ∙ ap (λ z. all_slots_of p'.borders.items p'.done z []) (sym order);
      }

  -- a ready look, whose border was read from the list
  pub looked_port : (p p' : Port T R P) → IsPort right b p → (k word : ℕ) → k < degree p → (border : Border)
      → border ≡ border_at p.borders.items k → handover_at p.handovers.items k ≡ Awaited → (me : Me (Option P) (View R)) (h : Handover P)
      → Looks right border (place border.from) p.seat.me word me
      → p.done < word + border.lag → p'.seat.me.0 ≡ me.0
      → (border.lag ≤ p.done → (c : List (ℕ × Option P)) (x : Option P) → me.1 ≡ (slot border.inward (p.done - border.lag), x) ∷ c
      → (h ≡ Arrived x) × (p'.seat.me.1 ≡ (slot border.inward (p.done - border.lag), None) ∷ c))
      → (p.done < border.lag → (h ≡ Taken) × (p'.seat.me.1 ≡ me.1))
      → p'.seat.table_id ≡ p.seat.table_id → p'.partition ≡ p.partition → p'.done ≡ p.done → p'.neighbours.items ≡ p.neighbours.items
      → p'.borders.items ≡ p.borders.items → p'.handovers.items ≡ set p.handovers.items k h → p'.order.items ≡ p.order.items ++ k ∷ []
      → vec_capacity p.order ≤ vec_capacity p'.order → IsPort right b p'
  looked_port p p' f k word lt border is away me h lk far same late early table partition done names borders handovers order room =
      let M : Border → Type 0 = λ r. Looks right r (place r.from) p.seat.me word me → p.done < word + r.lag
      → (r.lag ≤ p.done → (c : List (ℕ × Option P)) (x : Option P) → me.1 ≡ (slot r.inward (p.done - r.lag), x) ∷ c → (h ≡ Arrived x)
      × (p'.seat.me.1 ≡ (slot r.inward (p.done - r.lag), None) ∷ c))
      → (p.done < r.lag → (h ≡ Taken) × (p'.seat.me.1 ≡ me.1)) → IsPort right b p' in
      subst M (sym is)
      (λ a c d e. ready_port p p' f k lt away h
      (handed p f k word lt away me p'.seat.me h a c same d e) table partition done names borders handovers order room) lk far late early

  -- in this second the neighbour was ready before
  marked_is : (p t : ℕ) (r : Border) (m o : Bool) (h : Handover P) → (h ≡ Awaited → ⊥) → IsHandover (right (run_of b)) p t r m o h
      → m ≡ true
  marked_is p t r m o Awaited ne k = absurd (ne refl)
  marked_is p t r m o (Arrived x) ne k = k.0
  marked_is p t r m o Taken ne k = k.0
  marked_is p t r m o (Put y) ne k = k.0

  not_away : (h : Handover P) → (h ≡ Awaited → ⊥) → is_awaited h ≡ false
  not_away Awaited ne = absurd (ne refl)
  not_away (Arrived x) ne = refl
  not_away Taken ne = refl
  not_away (Put y) ne = refl

  pub stays_here : (p : Port T R P) (k : ℕ) → (handover_at p.handovers.items k ≡ Awaited → ⊥)
      → is_awaited (handover_at p.handovers.items k) ≡ false
  stays_here p k ne = not_away (handover_at p.handovers.items k) ne

  pub again_is : (p : Port T R P) → IsPort right b p → (k word : ℕ) → k < degree p → (border : Border)
      → border ≡ border_at p.borders.items k → (handover_at p.handovers.items k ≡ Awaited → ⊥) → (me : Me (Option P) (View R))
      → Looks right border (place border.from) p.seat.me word me
      → p.done < word + border.lag → me ≡ (after_look border word p.seat.me.0, p.seat.me.1)
  again_is p f k word lt border is ne me lk far = let at = f.done in lk.2 (omega arith)
      (ap (λ (r : Border). contains p.seat.me.0.marks r.inward) is
      ∙ marked_is p.partition p.done (border_at p.borders.items k) (contains p.seat.me.0.marks (border_at p.borders.items k).inward)
      (contains p.order.items k) (handover_at p.handovers.items k) ne (f.held k lt))

  -- only what is not read of the seat differs
  pub same_port : (p p' : Port T R P) → IsPort right b p → p'.seat.table_id ≡ p.seat.table_id → (v : View R) → v.run ≡ p.seat.me.0.run
      → v.role ≡ p.seat.me.0.role → v.partition ≡ p.seat.me.0.partition → v.done ≡ p.seat.me.0.done → v.marks ≡ p.seat.me.0.marks
      → p'.seat.me ≡ (v, p.seat.me.1) → p'.partition ≡ p.partition → p'.done ≡ p.done → p'.neighbours ≡ p.neighbours
      → p'.borders ≡ p.borders → p'.handovers ≡ p.handovers → p'.order ≡ p.order → IsPort right b p'
  same_port p p' f table v run role partition done marks me pp pd pn pr ph po =
      let w : p'.seat.me.0 ≡ v = ap (λ m. m.0) me in record {
        table = table ∙ f.table;
        role = ap (λ (x : View R). is_port x.role) w ∙ ap is_port role ∙ f.role;
        run = ap (λ (x : View R). x.run) w ∙ run ∙ f.run;
        partition = ap (λ (x : View R). x.partition) w ∙ partition ∙ f.partition ∙ sym pp;
        done = ap (λ (x : View R). x.done) w ∙ done ∙ f.done ∙ sym pd;
        named = subst (λ z. z < b.count) (sym pp) f.named;
        borders = subst (λ z. AreBorders b.channels.items z p'.borders.items) (sym pp)
            (subst (λ z. AreBorders b.channels.items p.partition z) (ap (λ (z : Vec Border Global). z.items) (sym pr)) f.borders);
        names = ap (λ (z : Vec ℕ Global). z.items) pn ∙ f.names
            ∙ ap (λ (z : Vec Border Global). map (λ (r : Border). r.from) z.items) (sym pr);
        as_many = ap (λ (z : Vec ℕ Global). length z.items) pn ∙ f.as_many ∙ ap (λ (z : Vec Border Global). length z.items) (sym pr);
        long = ap (λ (z : Vec (Handover P) Global). length z.items) ph ∙ f.long ∙ ap (λ (z : Vec Border Global). length z.items) (sym pr);
        room = subst (λ (z : Vec Border Global). length z.items ≤ vec_capacity p'.order) (sym pr)
            (subst (λ (z : Vec ℕ Global). length p.borders.items ≤ vec_capacity z) (sym po) f.room);
        held = let A = λ (q u : ℕ) (bs : List Border) (ms os : List ℕ) (hs : List (Handover P)). AreHandovers
            (right (run_of b)) q u bs ms os hs in
            subst (λ (z : List ℕ). A p'.partition p'.done p'.borders.items z p'.order.items p'.handovers.items)
            (sym (ap (λ (x : View R). x.marks) w ∙ marks))
            (subst (λ (z : Vec Border Global). A p'.partition p'.done z.items p.seat.me.0.marks p'.order.items p'.handovers.items) (sym pr)
            (subst (λ (z : Vec ℕ Global). A p'.partition p'.done p.borders.items p.seat.me.0.marks z.items p'.handovers.items) (sym po)
            (subst (λ (z : Vec (Handover P) Global). A p'.partition p'.done p.borders.items p.seat.me.0.marks p.order.items z.items)
            (sym ph)
            (subst (λ z. A z p'.done p.borders.items p.seat.me.0.marks p.order.items p.handovers.items) (sym pp)
            (subst (λ z. A p.partition z p.borders.items p.seat.me.0.marks p.order.items p.handovers.items) (sym pd) f.held)))));
        bounded = subst (λ (z : Vec ℕ Global). (j : ℕ) → contains z.items j ≡ true → j < length p'.borders.items) (sym po)
            (subst (λ (z : Vec Border Global). (j : ℕ) → contains p.order.items j ≡ true → j < length z.items) (sym pr) f.bounded);
        fresh = subst (λ (z : Vec ℕ Global). AreApart z.items) (sym po) f.fresh;
        counted = ap (λ (z : Vec (Handover P) Global). sum_by ready_in z.items) ph ∙ f.counted
            ∙ ap (λ (z : Vec ℕ Global). length z.items) (sym po);
        carried = ap (λ m. m.1) me ∙ f.carried ∙ ap (λ (z : Vec Border Global). all_slots_of z.items p.done p.order.items []) (sym pr)
            ∙ ap (λ z. all_slots_of p'.borders.items z p.order.items []) (sym pd)
            ∙ ap (λ (z : Vec ℕ Global). all_slots_of p'.borders.items p'.done z.items []) (sym po);
      }
