-- How a port puts its parcels into its slots.
use Rattle.std.proofs.Common.{◌≡◌, ◌≢◌, ℕ, zero, suc, ◌+◌, ◌-◌, ◌<◌, ◌≤◌, Bool, true, false, List, [], ◌∷◌, ◌++◌, map, length, set, get_or}
use Rattle.std.proofs.Common.{sum_by, vec_capacity, Vec, Global, Option, Some, None, sym, ap, ◌∙◌, refl, subst, inl, inr, ⊎_elim}
use Rattle.std.proofs.Common.{true≢false, length-set, get_or-set_same, get_or-set_other, arith}
use mathlib.Core.Logic.{dite}
use native.Mathlib.Decide.{ℕ_discrete, dec_le}
use Rattle.std.proofs.lemmas.List.{length-map, Sums.sum_by-cons}
use Rattle.cells.proofs.Homes.{among_more, among_last, among_either}
use Rattle.cells.proofs.Orders.{has_self, has_last, has_more, fresh_popped, filled_late, filled_early, blocks_last, blocks_then}
use Rattle.cells.specs.Carried.{Carries, IsEmptied, IsFilled, AreOfSecond, CarriesBoth}
use Rattle.cells.specs.Ports.{IsBorder, AreBorders, border_at, handover_at, ready_in, is_awaited, is_taken, is_put, GoesOut, slots_of, all_slots_of}
use Rattle.cells.specs.Ports.{filled_slots_of, AreApart, IsHandover, IsSettled, run_of, degree, IsPort, PortCarriesSecond, PortCarriesBoth, IsFilling}
use Rattle.cells.specs.{Rings.slot, Rule.contains, Rule.is_port, Rule.port_view, Rule.from_of, Rule.to_of, Rule.lag_of, Rule.twin_of, Rule.AreChannelsOf}
use Rattle.cells.specs.declared.board.{Board.Board, Handover.Handover, Handover.TheVariants.Awaited, Handover.TheVariants.Arrived, Handover.TheVariants.Taken}
use Rattle.cells.specs.declared.{board.Handover.TheVariants.Put, board.Port.Port, table.Border.Border, table.Channel.Channel, table.View.View}

-- the slots of one border, filled
module _ {P : Type 0} (right : ℕ → ℕ → ℕ → Option P
    → Type 0) (count : ℕ) (cs : List Channel) (g : AreChannelsOf count cs) (p t : ℕ) (r : Border) (ok : IsBorder cs p r) (y : Option P)
    (fits : right p r.from t y) where
  abbrev n : ℕ
  n = length cs

  in_ok : (k : ℕ) (z : Option P) → r.lag ≤ t → slot r.inward (t - r.lag) ≡ k → None ≡ z
      → IsEmptied right n (from_of cs) (to_of cs) (lag_of cs) (twin_of cs) p t k z
  in_ok k z le at is = let lg = ok.late in (
    r.inward,
    ok.inside,
    ok.receiver,
    (let q : lag_of cs r.inward ≤ t = omega arith in q),
    sym at
        ∙ ap (λ l. slot r.inward (t - l)) (sym lg),
    sym is,
  )

  out_ok : (k : ℕ) (z : Option P) → slot r.outward t ≡ k → y ≡ z
      → IsFilled right n (from_of cs) (to_of cs) (lag_of cs) (twin_of cs) p t k z
  out_ok k z at is = (
    r.outward,
    subst (λ e. e < n) ok.twin (g.twin_in r.inward ok.inside),
    ap (from_of cs) (sym ok.twin) ∙ g.back r.inward ok.inside ∙ ok.receiver,
    sym at,
    subst (λ w. right p (to_of cs r.outward) t w) is
        (subst (λ e. right p e t y) (sym (ap (to_of cs) (sym ok.twin) ∙ g.forth r.inward ok.inside ∙ ok.sender)) fits),
  )

  pub filled_good : AreOfSecond right n (from_of cs) (to_of cs) (lag_of cs) (twin_of cs) p t (filled_slots_of r t y)
  filled_good k z a = dite (dec_le r.lag t)
      (λ le. ⊎_elim (λ u. inl (in_ok k z le u.0 u.1)) (λ u. ⊎_elim (λ v. inr (out_ok k z v.0 v.1)) (λ v. absurd v) u)
      (subst (λ c. Carries c k z) (filled_late r t y le) a))
      (λ no. ⊎_elim (λ v. inr (out_ok k z v.0 v.1)) (λ v. absurd v) (subst (λ c. Carries c k z) (filled_early r t y (omega arith)) a))

  pub filled_both : CarriesBoth right n (from_of cs) (to_of cs) (lag_of cs) (twin_of cs) p t (filled_slots_of r t y) r.inward
  filled_both = (
    (λ le. let lg = ok.late in let q : r.lag ≤ t = omega arith in (
      None,
      subst (λ c. Carries c (slot r.inward (t - lag_of cs r.inward)) None) (sym (filled_late r t y q)) (inl (
        ap (λ l. slot r.inward (t - l)) (sym lg),
        refl,
      )),
    )),
    (
      y,
      dite (dec_le r.lag t)
          (λ le. subst (λ c. Carries c (slot (twin_of cs r.inward) t) y) (sym (filled_late r t y le)) (inr (inl (
            ap (λ e. slot e t) (sym ok.twin),
            refl,
          ))))
          (λ no. subst (λ c. Carries c (slot (twin_of cs r.inward) t) y) (sym (filled_early r t y (omega arith))) (inl (
            ap (λ e. slot e t) (sym ok.twin),
            refl,
          ))),
    ),
  )

module _ {T R P : Type 0} (right : R → ℕ → ℕ → ℕ → Option P → Type 0) (b : Board T R P) where
  good_more : (p : Port T R P) (c d : List (ℕ × Option P)) → PortCarriesSecond right b p c → PortCarriesSecond right b p d
      → PortCarriesSecond right b p (c ++ d)
  good_more p c d x y k z a = ⊎_elim (λ u. x k z u) (λ u. y k z u) (among_either c d k z a)

  both_first : (p : Port T R P) (c d : List (ℕ × Option P)) (e : ℕ) → PortCarriesBoth right b p c e → PortCarriesBoth right b p (c ++ d) e
  both_first p c d e h = ((λ le. let q = h.0 le in (q.0, among_more c d _ q.0 q.1)), (h.1.0, among_more c d _ h.1.0 h.1.1))

  both_last : (p : Port T R P) (c d : List (ℕ × Option P)) (e : ℕ) → PortCarriesBoth right b p d e → PortCarriesBoth right b p (c ++ d) e
  both_last p c d e h = ((λ le. let q = h.0 le in (q.0, among_last c d _ q.0 q.1)), (h.1.0, among_last c d _ h.1.0 h.1.1))

  settled_is : (p t : ℕ) (r : Border) (m o : Bool) (h : Handover P)
      → (is_taken h ≡ true) × (is_put h ≡ false → right (run_of b) p r.from t None)
      → IsHandover (right (run_of b)) p t r m o h → (m ≡ true) × (o ≡ true) × ((y : Option P) × GoesOut y h × right (run_of b) p r.from t y)
  settled_is p t r m o Awaited is k = absurd (true≢false (sym is.0))
  settled_is p t r m o (Arrived x) is k = absurd (true≢false (sym is.0))
  settled_is p t r m o Taken is k = (k.0, k.1, (None, refl, is.1 refl))
  settled_is p t r m o (Put y) is k = (k.0, k.1, (y, refl, k.2))

  -- what goes out is one thing, and what lets something out was taken
  goes_once : (h : Handover P) (y z : Option P) → GoesOut y h → GoesOut z h → y ≡ z
  goes_once Awaited y z a c = absurd a
  goes_once (Arrived x) y z a c = absurd a
  goes_once Taken y z a c = a ∙ sym c
  goes_once (Put x) y z a c = sym a ∙ c

  pub goes_taken : (h : Handover P) (y : Option P) → GoesOut y h → is_taken h ≡ true
  goes_taken Awaited y a = absurd a
  goes_taken (Arrived x) y a = absurd a
  goes_taken Taken y a = refl
  goes_taken (Put x) y a = refl

  pub starts : (q : Port T R P) → IsPort right b q → IsSettled right b q → IsFilling right b q q
  starts q f all = record {
    seat = (refl, refl, refl);
    partition = refl;
    done = refl;
    neighbours = refl;
    borders = refl;
    long = f.long;
    room = refl;
    fresh = f.fresh;
    bounded = f.bounded;
    waiting = λ k lt is. (settled_is q.partition q.done (border_at q.borders.items k) _ _ (handover_at q.handovers.items k) (all k lt)
        (f.held k lt)).2;
    through = λ k lt no_order. absurd (true≢false (sym (settled_is q.partition q.done (border_at q.borders.items k) _ _
        (handover_at q.handovers.items k) (all k lt) (f.held k lt)).1 ∙ no_order));
    carried = (
      [],
      f.carried,
      (λ k y a. absurd a),
      λ k lt no_order. absurd (true≢false (sym (settled_is q.partition q.done (border_at q.borders.items k) _ _
          (handover_at q.handovers.items k) (all k lt) (f.held k lt)).1 ∙ no_order)),
    );
  }

  pub marks_all : (q : Port T R P) → IsPort right b q → IsSettled right b q → (e : ℕ) → e < length b.channels.items
      → to_of b.channels.items e ≡ q.partition → contains q.seat.me.0.marks e ≡ true
  marks_all q f all e lt is = let w = f.borders.all e lt is in ap (contains q.seat.me.0.marks) (sym w.2)
      ∙ (settled_is q.partition q.done (border_at q.borders.items w.0) _ _ (handover_at q.handovers.items w.0) (all w.0 w.1) (f.held w.0 w.1)).0

  module _ (q p : Port T R P) (f : IsFilling right b q p) (ks : List ℕ) (k : ℕ) (last : p.order.items ≡ ks ++ k ∷ []) where
    pub in_order : contains p.order.items k ≡ true
    in_order = ap (λ z. contains z k) last ∙ has_last ks k k refl

    pub in_borders : k < length q.borders.items
    in_borders = f.bounded k in_order

    pub is_waiting : (y : Option P) × GoesOut y (handover_at p.handovers.items k)
        × right (run_of b) q.partition (border_at q.borders.items k).from q.done y
    is_waiting = f.waiting k in_borders in_order

    pub ahead : (c : List (ℕ × Option P)) × (p.seat.me.1 ≡ slots_of (border_at q.borders.items k) q.done ++ c)
    ahead = (
      all_slots_of q.borders.items q.done ks f.carried.0,
      f.carried.1 ∙ ap (λ z. all_slots_of q.borders.items q.done z f.carried.0) last ∙ blocks_last q.borders.items q.done ks k f.carried.0,
    )

    pub fill_step : IsPort right b q → (y : Option P) → GoesOut y (handover_at p.handovers.items k) → (p' : Port T R P)
        → (p'.seat.table_id ≡ p.seat.table_id) × (p'.seat.id ≡ p.seat.id) × (p'.seat.me.0 ≡ p.seat.me.0)
        → ((c : List (ℕ × Option P)) → p.seat.me.1 ≡ slots_of (border_at q.borders.items k) q.done ++ c
        → p'.seat.me.1 ≡ c ++ filled_slots_of (border_at q.borders.items k) q.done y)
        → p'.partition ≡ p.partition → p'.done ≡ p.done → p'.neighbours ≡ p.neighbours → p'.borders ≡ p.borders
        → p'.handovers.items ≡ set p.handovers.items k Awaited → p'.order.items ≡ ks → vec_capacity p'.order ≡ vec_capacity p.order
        → IsFilling right b q p'
    unfolding ahead
    fill_step port y is p' seat load partition done names borders handovers order room =
        let border : Border = border_at q.borders.items k in let t : ℕ = q.done in let cs : List Channel = b.channels.items in
        let fr = fresh_popped ks k (subst AreApart last f.fresh) in let ok = port.borders.each k in_borders in
        let w = is_waiting in let val : w.0 ≡ y = goes_once (handover_at p.handovers.items k) w.0 y w.1 is in
        let fits : right (run_of b) q.partition border.from t y = subst (λ z. right (run_of b) q.partition border.from t z) val w.2 in
        let d : List (ℕ × Option P) = f.carried.0 in let l : List (ℕ × Option P) = filled_slots_of border t y in
        let old_has : (j : ℕ) → j ≢ k → contains p.order.items j ≡ contains ks j = λ j ne. ap (λ z. contains z j) last
        ∙ has_more ks k j ne in
        let there : k < length p.handovers.items = subst (λ z. k < z) (sym f.long) in_borders in
        record {
          seat = (seat.0 ∙ f.seat.0, seat.1 ∙ f.seat.1, seat.2 ∙ f.seat.2);
          partition = partition ∙ f.partition;
          done = done ∙ f.done;
          neighbours = names ∙ f.neighbours;
          borders = borders ∙ f.borders;
          long = ap length handovers ∙ length-set p.handovers.items k Awaited ∙ f.long;
          room = room ∙ f.room;
          fresh = subst AreApart (sym order) fr.0;
          bounded = λ j h. let h' = ap (λ z. contains z j) (sym order) ∙ h in dite (ℕ_discrete j k)
              (λ e. subst (λ z. z < length q.borders.items) (sym e) in_borders) (λ ne. f.bounded j (old_has j ne ∙ h'));
          waiting = λ j lt h. let h' = ap (λ z. contains z j) (sym order) ∙ h in
              let ne : j ≢ k = λ e. true≢false (sym h' ∙ ap (contains ks) e ∙ fr.1) in
              let o = f.waiting j lt (old_has j ne ∙ h') in (
                o.0,
                subst (λ h. GoesOut o.0 h)
                    (sym (ap (λ z. handover_at z j) handovers ∙ get_or-set_other p.handovers.items k j Awaited Awaited ne)) o.1,
                o.2,
              );
          through = λ j lt h. let h' = ap (λ z. contains z j) (sym order) ∙ h in dite (ℕ_discrete j k)
              (λ e. ap (λ z. handover_at z j) handovers ∙ subst (λ z. get_or (set p.handovers.items k Awaited) z Awaited ≡ Awaited) (sym e)
              (get_or-set_same p.handovers.items k Awaited Awaited there))
              (λ ne. ap (λ z. handover_at z j) handovers ∙ get_or-set_other p.handovers.items k j Awaited Awaited ne
              ∙ f.through j lt (old_has j ne ∙ h'));
          carried = (
            d ++ l,
            load ahead.0 ahead.1 ∙ blocks_then q.borders.items t ks d l ∙ ap (λ z. all_slots_of q.borders.items t z (d ++ l)) (sym order),
            good_more q d l f.carried.2 (filled_good (right (run_of b)) b.count cs b.sound q.partition t border ok y fits),
            λ j lt h. let h' = ap (λ z. contains z j) (sym order) ∙ h in dite (ℕ_discrete j k)
                (λ e. subst (λ z. PortCarriesBoth right b q (d ++ l) (border_at q.borders.items z).inward) (sym e)
                (both_last q d l border.inward (filled_both (right (run_of b)) b.count cs b.sound q.partition t border ok y fits)))
                (λ ne. both_first q d l (border_at q.borders.items j).inward (f.carried.3 j lt (old_has j ne ∙ h'))),
          );
        }

  -- with nothing left in the order, everything is carried
  pub filled_all : (q p : Port T R P) → IsPort right b q → IsFilling right b q p → p.order.items ≡ []
      → PortCarriesSecond right b q p.seat.me.1 × ((e : ℕ) → e < length b.channels.items → to_of b.channels.items e ≡ q.partition
      → PortCarriesBoth right b q p.seat.me.1 e)
  filled_all q p port f none_left = let is : p.seat.me.1 ≡ f.carried.0 = f.carried.1
      ∙ ap (λ z. all_slots_of q.borders.items q.done z f.carried.0) none_left in (
        subst (λ c. PortCarriesSecond right b q c) (sym is) f.carried.2,
        λ e lt at. subst (λ c. PortCarriesBoth right b q c e) (sym is)
            (let w = port.borders.all e lt at in subst (λ z. PortCarriesBoth right b q f.carried.0 z) w.2
            (f.carried.3 w.0 w.1 (ap (λ z. contains z w.0) none_left))),
      )

  pub none_out : (hs : List (Handover P)) → ((k : ℕ) → k < length hs → handover_at hs k ≡ Awaited) → sum_by ready_in hs ≡ 0
  none_out [] all = refl
  none_out (h ∷ hs) all = let c = sum_by-cons ready_in h hs in let o : ready_in h ≡ 0 = ap ready_in (all 0 (omega arith)) in
      let i = none_out hs (λ k lt. all (suc k) (omega arith)) in omega arith

  pub published_port : (q p p' : Port T R P) → IsPort right b q → IsFilling right b q p → p.order.items ≡ []
      → p'.seat.table_id ≡ p.seat.table_id
      → p'.seat.me ≡ (record p.seat.me.0 { done = p.seat.me.0.done + 1; marks = []; still = p.seat.me.0.waits }, [])
      → p'.partition ≡ p.partition → p'.done ≡ p.done + 1 → p'.neighbours ≡ p.neighbours → p'.borders ≡ p.borders
      → p'.handovers ≡ p.handovers → p'.order ≡ p.order → IsPort right b p'
  published_port q p p' f l none_left table me partition done names borders handovers order =
      let v : p'.seat.me.0 ≡ record p.seat.me.0 { done = p.seat.me.0.done + 1; marks = []; still = p.seat.me.0.waits } = ap (λ m. m.0) me in
      let rs : p'.borders ≡ q.borders = borders ∙ l.borders in let away : (k : ℕ) → k < length q.borders.items
      → handover_at p.handovers.items k ≡ Awaited = λ k lt. l.through k lt (ap (λ z. contains z k) none_left) in
      let ri : p'.borders.items ≡ q.borders.items = ap (λ (z : Vec Border Global). z.items) rs in
      let oi : p'.order.items ≡ [] = ap (λ (z : Vec ℕ Global). z.items) order ∙ none_left in
      let mi : p'.seat.me.0.marks ≡ [] = ap (λ (x : View R). x.marks) v in
      record {
        table = table ∙ l.seat.0 ∙ f.table;
        role = ap (λ (x : View R). is_port x.role) v ∙ ap (λ (x : View R). is_port x.role) l.seat.2 ∙ f.role;
        run = ap (λ (x : View R). x.run) v ∙ ap (λ (x : View R). x.run) l.seat.2 ∙ f.run;
        partition = ap (λ (x : View R). x.partition) v ∙ ap (λ (x : View R). x.partition) l.seat.2 ∙ f.partition
            ∙ sym (partition ∙ l.partition);
        done = ap (λ (x : View R). x.done) v ∙ ap (λ (z : ℕ). z + 1) (ap (λ (x : View R). x.done) l.seat.2 ∙ f.done ∙ sym l.done)
            ∙ sym done;
        named = subst (λ z. z < b.count) (sym (partition ∙ l.partition)) f.named;
        borders = subst (λ z. AreBorders b.channels.items z p'.borders.items) (sym (partition ∙ l.partition))
            (subst (λ z. AreBorders b.channels.items q.partition z) (sym ri) f.borders);
        names = ap (λ (z : Vec ℕ Global). z.items) (names ∙ l.neighbours) ∙ f.names ∙ ap (map (λ (r : Border). r.from)) (sym ri);
        as_many = ap (λ (z : Vec ℕ Global). length z.items) (names ∙ l.neighbours) ∙ f.as_many ∙ ap length (sym ri);
        long = ap (λ (z : Vec (Handover P) Global). length z.items) handovers ∙ l.long ∙ ap length (sym ri);
        room = subst (λ z. length z ≤ vec_capacity p'.order) (sym ri)
            (subst (λ z. length q.borders.items ≤ z) (sym (ap (λ (z : Vec ℕ Global). vec_capacity z) order ∙ l.room)) f.room);
        held = λ k lt. let lt' : k < length q.borders.items = subst (λ z. k < length z) ri lt in
            subst (λ z. IsHandover (right (run_of b)) p'.partition p'.done (border_at p'.borders.items k)
            (contains p'.seat.me.0.marks (border_at p'.borders.items k).inward) (contains p'.order.items k) z)
            (sym (ap (λ (z : Vec (Handover P) Global). handover_at z.items k) handovers ∙ away k lt'))
            (ap (λ z. contains z (border_at p'.borders.items k).inward) mi, ap (λ z. contains z k) oi);
        bounded = λ k is. absurd (true≢false (sym is ∙ ap (λ z. contains z k) oi));
        fresh = subst AreApart (sym oi) tt;
        counted = ap (λ (z : Vec (Handover P) Global). sum_by ready_in z.items) handovers ∙ none_out p.handovers.items
            (λ k lt. away k (subst (λ z. k < z) l.long lt)) ∙ ap length (sym oi);
        carried = ap (λ m. m.1) me ∙ ap (λ z. all_slots_of p'.borders.items p'.done z []) (sym oi);
      }

  pub away_at : (borders : List Border) (k : ℕ) → handover_at (map {A = Border} {B = Handover P} (λ _. Awaited) borders) k ≡ Awaited
  away_at [] k = refl
  away_at (r ∷ borders) zero = refl
  away_at (r ∷ borders) (suc k) = away_at borders k

  pub fresh_port : (q : Port T R P) (v : Option R) (p : ℕ) → q.seat.table_id ≡ b.table.shared.table_id → q.seat.me ≡ (port_view v p, [])
      → v ≡ Some (run_of b) → q.partition ≡ p → q.done ≡ 0 → p < b.count → AreBorders b.channels.items p q.borders.items
      → q.neighbours.items ≡ map (λ (r : Border). r.from) q.borders.items → q.handovers.items ≡ map {A = Border} {B = Handover P}
      (λ _. Awaited) q.borders.items → q.order.items ≡ [] → length q.borders.items ≤ vec_capacity q.order → IsPort right b q
  fresh_port q v p table me run partition done lt borders names handovers order room =
      let w : q.seat.me.0 ≡ port_view v p = ap (λ m. m.0) me in record {
        table = table;
        role = ap (λ (x : View R). is_port x.role) w;
        run = ap (λ (x : View R). x.run) w ∙ run;
        partition = ap (λ (x : View R). x.partition) w ∙ sym partition;
        done = ap (λ (x : View R). x.done) w ∙ sym done;
        named = subst (λ z. z < b.count) (sym partition) lt;
        borders = subst (λ z. AreBorders b.channels.items z q.borders.items) (sym partition) borders;
        names = names;
        as_many = ap length names ∙ length-map q.borders.items (λ (r : Border). r.from);
        long = ap length handovers ∙ length-map {A = Border} {B = Handover P} q.borders.items (λ _. Awaited);
        room = room;
        held = λ k lk. subst (λ z. IsHandover (right (run_of b)) q.partition q.done (border_at q.borders.items k)
            (contains q.seat.me.0.marks (border_at q.borders.items k).inward) (contains q.order.items k) z)
            (sym (ap (λ z. handover_at z k) handovers ∙ away_at q.borders.items k))
            (ap (λ (x : View R). contains x.marks (border_at q.borders.items k).inward) w, ap (λ z. contains z k) order);
        bounded = λ k is. absurd (true≢false (sym is ∙ ap (λ z. contains z k) order));
        fresh = subst AreApart (sym order) tt;
        counted = none_out q.handovers.items (λ k lk. ap (λ z. handover_at z k) handovers ∙ away_at q.borders.items k)
            ∙ ap length (sym order);
        carried = ap (λ m. m.1) me ∙ ap (λ z. all_slots_of q.borders.items q.done z []) (sym order);
      }

  away_is : (h : Handover P) → is_awaited h ≡ true → h ≡ Awaited
  away_is Awaited e = refl
  away_is (Arrived x) e = absurd (true≢false (sym e))
  away_is Taken e = absurd (true≢false (sym e))
  away_is (Put y) e = absurd (true≢false (sym e))

  -- a port that holds nothing has no slot out
  pub nothing_held : (q : Port T R P) → IsPort right b q → ((k : ℕ) → k < degree q → is_awaited (handover_at q.handovers.items k) ≡ true)
      → q.seat.me.1 ≡ []
  nothing_held q f all = f.carried ∙ ap (λ z. all_slots_of q.borders.items q.done z []) (none_left q.order.items (λ k is. f.bounded k is)
      (λ k lt. away_order k lt))
    where
      away_order : (k : ℕ) → k < degree q → contains q.order.items k ≡ false
      away_order k lt = (subst (λ z. IsHandover (right (run_of b)) q.partition q.done (border_at q.borders.items k)
          (contains q.seat.me.0.marks (border_at q.borders.items k).inward) (contains q.order.items k) z)
          (away_is (handover_at q.handovers.items k) (all k lt)) (f.held k lt)).1

      none_left : (ks : List ℕ) → ((k : ℕ) → contains ks k ≡ true → k < degree q) → ((k : ℕ) → k < degree q → contains ks k ≡ false)
          → ks ≡ []
      none_left [] a c = refl
      none_left (k ∷ ks) a c = absurd (true≢false (sym (has_self ks k) ∙ c k (a k (has_self ks k))))
