-- A step of a core: from a core that stands to one that stands.
use Rattle.std.proofs.Common.{◌≡◌, ◌≢◌, ℕ, ◌+◌, ◌-◌, ◌<◌, ◌≤◌, List, [], ◌∷◌, ◌++◌, ◌∙◌, length, get_or, set, take, drop, ap, refl, sym, subst, arith, Bool}
use Rattle.std.proofs.{Common.true, Common.false, lemmas.Bool.true≢false, lemmas.List.get_or-set_same, lemmas.List.get_or-set_other, lemmas.List.length-set}
use mathlib.Core.Logic.{dite}
use native.Mathlib.Decide.{ℕ_discrete}
use Rattle.step_core.proofs.Filled.{filled_at, room_at, taken_room, taken_filled, put_room, put_filled, beside_room, beside_filled}
use Rattle.step_core.specs.Cores.{IsCore, done_at, is_stopped}
use Rattle.step_core.specs.Exchanges.{neighbour_at, lag_at, IsBeside, IsReady, IsGiven, AreTaken, HasTaken, HasExchanged}
use Rattle.step_core.specs.{Nets.Net, Nets.MayStep, Nets.border_at, Views.PartView, Views.IsAt, Views.IsHeard, Wheels.IsNoted, Wheels.lag_in, Wheels.due_in}
use Rattle.step_core.specs.{Wheels.lies, Wheels.IsFilled, Wheels.HasRoom, declared.part.Border.Border, declared.wheel.Wheel.Wheel}

take_front : {A : Type 0} (xs ys : List A) → take (length xs) (xs ++ ys) ≡ xs
take_front {A} [] ys = refl
take_front {A} (x ∷ xs) ys = ap (λ (zs : List A). x ∷ zs) (take_front xs ys)

-- a slice that was lent whole and comes back as long as it was
whole : {A : Type 0} (new old : List A) (n : ℕ) → n ≡ length old → length new ≡ length old
    → take n (new ++ drop (length new) old) ≡ new
whole {A} new old n en long =
    let e : n ≡ length new = omega arith in
    subst (λ (k : ℕ). take k (new ++ drop (length new) old) ≡ new) (sym e) (take_front new (drop (length new) old))

-- of a fact that is so or not
by_near : {A : Type 0} (b : Bool) → (b ≡ true → A) → (b ≡ false → A) → A
by_near true f g = f refl
by_near false f g = g refl

module _ {T P : Type 0} (nothing : P) (N : Net) (borders : ℕ → List Border) (see : T → PartView P) (stands spent : T → Type 0)
    (right : ℕ → ℕ → ℕ → P → Type 0)
    (done : List ℕ) (stopped : List Bool) (tables : List (List Border)) (parts : List T) (wheels : List (Wheel P))
    (core : IsCore nothing N borders see stands spent right done stopped tables parts wheels) (p : ℕ) (there : p < N.parts)
    (goes : is_stopped stopped p ≡ false) where
  abbrev rows : List Border
  rows = get_or tables p []

  abbrev t : ℕ
  t = done_at done p

  is_other : (q : ℕ) → is_stopped stopped q ≡ true → q ≢ p
  is_other q h = λ e. true≢false (sym h ∙ ap (is_stopped stopped) e ∙ goes)

  near_at : (k : ℕ) → k < length rows → N.near (neighbour_at rows k) p ≡ true
  near_at k lt = (core.rows p there).each k lt

  near_from : (k : ℕ) → k < length rows → N.near p (neighbour_at rows k) ≡ true
  near_from k lt = core.net.both p (neighbour_at rows k) ∙ near_at k lt

  apart_from : (q : ℕ) → N.near q p ≡ true → q ≢ p
  apart_from q n = λ e. true≢false (sym n ∙ ap (λ (z : ℕ). N.near z p) e ∙ core.net.others p)

  few_at : (q : ℕ) → q < N.parts → q < 64
  few_at q lt = let few = core.net.few in omega arith

  lag_is : (k : ℕ) → k < length rows → lag_at rows k ≡ N.lag (neighbour_at rows k) p
  lag_is k lt = (core.rows p there).lags k lt

  may : t < N.end → ((k : ℕ) → k < length rows → t < done_at done (neighbour_at rows k) + lag_at rows k)
      → MayStep N p (done_at done)
  may lt heard = record {
    is_part = there;
    before_end = lt;
    heard = λ q n.
        let w = (core.rows p there).all q n in
        subst (λ (z : ℕ). t < done_at done z + N.lag z p) w.2
        (let h = heard w.0 w.1 in let l = lag_is w.0 w.1 in omega arith);
  }

  pub may_then : (more : List Border) (s : ℕ) (ds : List ℕ) → more ≡ rows → s ≡ t → ds ≡ done → s < N.end
      → ((k : ℕ) → k < length more → s < done_at ds (neighbour_at more k) + lag_at more k) → MayStep N p (done_at done)
  may_then more s ds er es ed lt heard =
      may (let e = es in omega arith)
      (subst (λ (xs : List Border). (k : ℕ) → k < length xs → t < done_at done (neighbour_at xs k) + lag_at xs k) er
      (subst (λ (z : ℕ). (k : ℕ) → k < length more → z < done_at done (neighbour_at more k) + lag_at more k) es
      (subst (λ (xs : List ℕ). (k : ℕ) → k < length more → s < done_at xs (neighbour_at more k) + lag_at more k) ed heard)))

  module _ (m : MayStep N p (done_at done)) where
    -- WHAT THE SECOND ASKS FOR
    heard_of : (k : ℕ) (d : Wheel P) → k < length rows
        → IsHeard nothing right p t (border_at rows k) (lies nothing (get_or wheels p d) t (neighbour_at rows k))
    heard_of k d lt =
        let q = neighbour_at rows k in
        let l = lag_at rows k in
        let h = m.heard q (near_at k lt) in
        let same : N.lag q p ≡ l = sym (lag_is k lt) in
        let f : IsFilled nothing (right q p) (done_at done q) t l q (get_or wheels p d) =
        subst (λ (z : ℕ). IsFilled nothing (right q p) (done_at done q) t z q (get_or wheels p d)) same
        (core.filled q p d (near_at k lt) goes) in
        record {
          came = λ le.
              let back : t - l + l ≡ t = omega arith in
              subst (λ (u : ℕ). right q p (t - l) (lies nothing (get_or wheels p d) u q)) back (f.full (t - l) (omega arith) (omega arith));
          none = λ late. f.before t (omega arith) late;
        }

    room_for : (k : ℕ) (d : Wheel P) → k < length rows
        → lies nothing (get_or wheels (neighbour_at rows k) d) (due_in (get_or wheels (neighbour_at rows k) d) t p) p ≡ nothing
    room_for k d lt =
        let q = neighbour_at rows k in
        let h = m.heard q (near_at k lt) in
        let a = core.net.most p q (near_from k lt) in
        let b = core.net.most q p (near_at k lt) in
        let due = core.lags p q d (near_from k lt) in
        core.room p q d (near_from k lt) (due_in (get_or wheels q d) t p) (omega arith) (omega arith)

    pub ready : IsReady nothing right t p rows wheels
    ready =
        let places = core.places in
        record {
          have = record {
            few = few_at p there;
            listed = record {
              each = λ k lt. few_at (neighbour_at rows k) (core.net.there (neighbour_at rows k) p (near_at k lt)).0;
              ascend = (core.rows p there).ascend;
            };
            there = λ k lt. let q = (core.net.there (neighbour_at rows k) p (near_at k lt)).0 in omega arith;
            noted = λ b d lt. core.noted b d (omega arith);
            room = room_for;
          };
          here = omega arith;
          other = λ k lt. apart_from (neighbour_at rows k) (near_at k lt);
          heard = heard_of;
        }

    ready_then : (more : List Border) (s : ℕ) (ws : List (Wheel P)) → more ≡ rows → s ≡ t → ws ≡ wheels
        → IsReady nothing right s p more ws
    ready_then more s ws er es ew =
        subst (λ (xs : List Border). IsReady nothing right s p xs ws) (sym er)
        (subst (λ (z : ℕ). IsReady nothing right z p rows ws) (sym es)
        (subst (λ (zs : List (Wheel P)). IsReady nothing right t p rows zs) (sym ew) ready))

    -- p's own wheel, in which the row of the second was emptied
    module _ (later : List (Wheel P)) (taken : (d : Wheel P) → AreTaken nothing t rows (get_or wheels p d) (get_or later p d)) where
      emptied : (a : ℕ) (d : Wheel P) → N.near a p ≡ true → lies nothing (get_or later p d) t a ≡ nothing
      emptied a d n =
          let w = (core.rows p there).all a n in
          subst (λ (z : ℕ). lies nothing (get_or later p d) t z ≡ nothing) w.2 ((taken d).taken w.0 w.1)

      lags_own : (a : ℕ) (d : Wheel P) → N.near a p ≡ true → lag_in (get_or later p d) a ≡ N.lag a p
      lags_own a d n = ap (λ (ls : List ℕ). get_or ls a 0) (taken d).lags ∙ core.lags a p d n

      room_own : (a : ℕ) (d : Wheel P) → N.near a p ≡ true → HasRoom nothing (done_at done a) (t + 1) (N.lag a p) a (get_or later p d)
      room_own a d n = taken_room nothing rows (get_or wheels p d) (get_or later p d) (done_at done a) t (N.lag a p) a
          (few_at a (core.net.there a p n).0) (taken d) (emptied a d n) (core.room a p d n)

    -- WHERE IT DID THE SECOND
    module _ (x : T) (later : List (Wheel P)) (is : IsAt nothing see stands p (t + 1) (length rows) x)
        (ex : HasExchanged nothing right t p rows wheels later) where
      abbrev now : List ℕ
      now = set done p (t + 1)

      now_here : done_at now p ≡ t + 1
      now_here = get_or-set_same done p (t + 1) 0 (let n = core.dones in omega arith)

      now_other : (q : ℕ) → q ≢ p → done_at now q ≡ done_at done q
      now_other q ne = get_or-set_other done p q (t + 1) 0 ne

      -- the wheel of a neighbour, and that of somebody else
      from_it : (b : ℕ) (d : Wheel P) → N.near p b ≡ true
          → IsGiven nothing (right p b t) (t + N.lag p b) p (get_or wheels b d) (get_or later b d)
      from_it b d n =
          let w = (core.rows p there).all b (core.net.both b p ∙ n) in
          let due : due_in (get_or wheels b d) t p ≡ t + N.lag p b = ap (λ (l : ℕ). t + l) (core.lags p b d n) in
          subst (λ (u : ℕ). IsGiven nothing (right p b t) u p (get_or wheels b d) (get_or later b d)) due
          (subst (λ (z : ℕ). IsGiven nothing (right p z t) (due_in (get_or wheels z d) t p) p (get_or wheels z d) (get_or later z d)) w.2
          (ex.given w.0 d w.1))

      beside : (b : ℕ) → N.near p b ≡ false → IsBeside rows (length rows) b
      beside b f j lt = λ e. true≢false (sym (near_from j lt) ∙ ap (N.near p) e ∙ f)

      same : (b : ℕ) (d : Wheel P) → b ≢ p → N.near p b ≡ false → get_or later b d ≡ get_or wheels b d
      same b d ne f = ex.others b d ne (beside b f)

      -- when what it sent is due there
      ahead : (b : ℕ) → N.near p b ≡ true → done_at done b ≤ t + N.lag p b
      ahead b n = core.close b p (core.net.both b p ∙ n)

      short : (b : ℕ) → N.near p b ≡ true → t + N.lag p b < done_at done b + 64
      short b n =
          let back : N.near b p ≡ true = core.net.both b p ∙ n in
          let h = m.heard b back in
          let f = core.net.most p b n in
          let g = core.net.most b p back in
          omega arith

      early_now : (q : ℕ) → q < N.parts → done_at now q ≤ N.end
      early_now q lt = dite (ℕ_discrete q p)
          (λ e. let h = now_here in let f = ap (done_at now) e in let b = m.before_end in omega arith)
          (λ ne. let h = now_other q ne in let b = core.early q lt in omega arith)

      close_now : (a b : ℕ) → N.near a b ≡ true → done_at now a ≤ done_at now b + N.lag b a
      close_now a b n = dite (ℕ_discrete a p)
          (λ e.
          let nb : N.near p b ≡ true = ap (λ (z : ℕ). N.near z b) (sym e) ∙ n in
          let back : N.near b p ≡ true = core.net.both b p ∙ nb in
          let f = ap (done_at now) e in let h = now_here in
          let g = now_other b (apart_from b back) in
          let l = ap (N.lag b) e in
          let heard = m.heard b back in omega arith)
          (λ ne. dite (ℕ_discrete b p)
          (λ e. let f = ap (done_at now) e in let g = ap (done_at done) e in let h = now_here in let o = now_other a ne in
          let c = core.close a b n in omega arith)
          (λ nf. let f = now_other a ne in let g = now_other b nf in let c = core.close a b n in omega arith))

      noted_now : (b : ℕ) (d : Wheel P) → b < N.parts → IsNoted nothing (get_or later b d)
      noted_now b d lt = dite (ℕ_discrete b p)
          (λ e. subst (λ (z : ℕ). IsNoted nothing (get_or later z d)) (sym e) (ex.taken d).noted)
          (λ ne. by_near (N.near p b) (λ n. (from_it b d n).put.noted)
          (λ f. subst (λ (w : Wheel P). IsNoted nothing w) (sym (same b d ne f)) (core.noted b d lt)))

      lags_now : (a b : ℕ) (d : Wheel P) → N.near a b ≡ true → lag_in (get_or later b d) a ≡ N.lag a b
      lags_now a b d n = dite (ℕ_discrete b p)
          (λ e. subst (λ (z : ℕ). N.near a z ≡ true → lag_in (get_or later z d) a ≡ N.lag a z) (sym e) (lags_own later ex.taken a d) n)
          (λ ne. by_near (N.near p b)
          (λ i. ap (λ (ls : List ℕ). get_or ls a 0) (from_it b d i).put.lags ∙ core.lags a b d n)
          (λ f. ap (λ (w : Wheel P). lag_in w a) (same b d ne f) ∙ core.lags a b d n))

      -- what lies in its own wheel, and in those of others, of it and of others
      room_to : (a : ℕ) (d : Wheel P) → N.near a p ≡ true
          → HasRoom nothing (done_at now a) (done_at now p) (N.lag a p) a (get_or later p d)
      room_to a d n = room_at nothing (done_at done a) (done_at now a) (t + 1) (done_at now p) (N.lag a p) a (get_or later p d)
          (sym (now_other a (apart_from a n))) (sym now_here) (room_own later ex.taken a d n)

      room_from : (b : ℕ) (d : Wheel P) → N.near p b ≡ true
          → HasRoom nothing (done_at now p) (done_at now b) (N.lag p b) p (get_or later b d)
      room_from b d n =
          let g = from_it b d n in
          room_at nothing (t + 1) (done_at now p) (done_at done b) (done_at now b) (N.lag p b) p (get_or later b d) (sym now_here)
          (sym (now_other b (apart_from b (core.net.both b p ∙ n))))
          (put_room nothing (get_or wheels b d) (get_or later b d) t (done_at done b) (N.lag p b) p g.parcel g.put (ahead b n) (short b n)
          (core.room p b d n))

      room_beside : (a b : ℕ) (d : Wheel P) → N.near a b ≡ true → a ≢ p → b ≢ p
          → HasRoom nothing (done_at now a) (done_at now b) (N.lag a b) a (get_or later b d)
      room_beside a b d n f g = room_at nothing (done_at done a) (done_at now a) (done_at done b) (done_at now b) (N.lag a b) a
          (get_or later b d) (sym (now_other a f)) (sym (now_other b g))
          (by_near (N.near p b)
          (λ i. let h = from_it b d i in
          beside_room nothing (get_or wheels b d) (get_or later b d) (t + N.lag p b) p h.parcel h.put (done_at done a) (done_at done b)
          (N.lag a b) a (few_at a (core.net.there a b n).0) f (core.room a b d n))
          (λ i. subst (λ (w : Wheel P). HasRoom nothing (done_at done a) (done_at done b) (N.lag a b) a w) (sym (same b d g i))
          (core.room a b d n)))

      room_now : (a b : ℕ) (d : Wheel P) → N.near a b ≡ true
          → HasRoom nothing (done_at now a) (done_at now b) (N.lag a b) a (get_or later b d)
      room_now a b d n = dite (ℕ_discrete a p)
          (λ e. subst (λ (z : ℕ). N.near z b ≡ true
          → HasRoom nothing (done_at now z) (done_at now b) (N.lag z b) z (get_or later b d)) (sym e) (room_from b d) n)
          (λ ne. dite (ℕ_discrete b p)
          (λ e. subst (λ (z : ℕ). N.near a z ≡ true
          → HasRoom nothing (done_at now a) (done_at now z) (N.lag a z) a (get_or later z d)) (sym e) (room_to a d) n)
          (λ nf. room_beside a b d n ne nf))

      filled_to : (a : ℕ) (d : Wheel P) → N.near a p ≡ true
          → IsFilled nothing (right a p) (done_at now a) (done_at now p) (N.lag a p) a (get_or later p d)
      filled_to a d n =
          let back : N.near p a ≡ true = core.net.both p a ∙ n in
          let c = core.close a p n in
          let f = core.net.most a p n in
          let g = core.net.most p a back in
          filled_at nothing (right a p) (done_at done a) (done_at now a) (t + 1) (done_at now p) (N.lag a p) a (get_or later p d)
          (sym (now_other a (apart_from a n))) (sym now_here)
          (taken_filled nothing rows (get_or wheels p d) (get_or later p d) (done_at done a) t (N.lag a p) a
          (few_at a (core.net.there a p n).0) (ex.taken d) (emptied later ex.taken a d n) (right a p) (core.filled a p d n goes)
          (omega arith) (omega arith))

      filled_from : (b : ℕ) (d : Wheel P) → N.near p b ≡ true → is_stopped stopped b ≡ false
          → IsFilled nothing (right p b) (done_at now p) (done_at now b) (N.lag p b) p (get_or later b d)
      filled_from b d n g =
          let h = from_it b d n in
          filled_at nothing (right p b) (t + 1) (done_at now p) (done_at done b) (done_at now b) (N.lag p b) p (get_or later b d)
          (sym now_here) (sym (now_other b (apart_from b (core.net.both b p ∙ n))))
          (put_filled nothing (get_or wheels b d) (get_or later b d) t (done_at done b) (N.lag p b) p h.parcel h.put (ahead b n) (short b n)
          (right p b) h.right (core.filled p b d n g))

      filled_beside : (a b : ℕ) (d : Wheel P) → N.near a b ≡ true → is_stopped stopped b ≡ false → a ≢ p → b ≢ p
          → IsFilled nothing (right a b) (done_at now a) (done_at now b) (N.lag a b) a (get_or later b d)
      filled_beside a b d n s f g =
          filled_at nothing (right a b) (done_at done a) (done_at now a) (done_at done b) (done_at now b) (N.lag a b) a (get_or later b d)
          (sym (now_other a f)) (sym (now_other b g))
          (by_near (N.near p b)
          (λ i. let h = from_it b d i in
          beside_filled nothing (get_or wheels b d) (get_or later b d) (t + N.lag p b) p h.parcel h.put (done_at done a) (done_at done b)
          (N.lag a b) a (few_at a (core.net.there a b n).0) f (right a b) (core.filled a b d n s))
          (λ i. subst (λ (w : Wheel P). IsFilled nothing (right a b) (done_at done a) (done_at done b) (N.lag a b) a w) (sym (same b d g i))
          (core.filled a b d n s)))

      filled_now : (a b : ℕ) (d : Wheel P) → N.near a b ≡ true → is_stopped stopped b ≡ false
          → IsFilled nothing (right a b) (done_at now a) (done_at now b) (N.lag a b) a (get_or later b d)
      filled_now a b d n s = dite (ℕ_discrete a p)
          (λ e. subst (λ (z : ℕ). N.near z b ≡ true
          → IsFilled nothing (right z b) (done_at now z) (done_at now b) (N.lag z b) z (get_or later b d)) (sym e)
          (λ i. filled_from b d i s) n)
          (λ ne. dite (ℕ_discrete b p)
          (λ e. subst (λ (z : ℕ). N.near a z ≡ true
          → IsFilled nothing (right a z) (done_at now a) (done_at now z) (N.lag a z) a (get_or later z d)) (sym e) (filled_to a d) n)
          (λ nf. filled_beside a b d n s ne nf))

      part_now : (q : ℕ) (d : T) → q < N.parts → is_stopped stopped q ≡ false
          → IsAt nothing see stands q (done_at now q) (length (get_or tables q [])) (get_or (set parts p x) q d)
      part_now q d lt g = dite (ℕ_discrete q p)
          (λ e. subst (λ (z : ℕ). IsAt nothing see stands z (done_at now z) (length (get_or tables z [])) (get_or (set parts p x) z d))
          (sym e)
          (subst (λ (z : T). IsAt nothing see stands p (done_at now p) (length rows) z)
          (sym (get_or-set_same parts p x d (let n = core.many in omega arith)))
          (subst (λ (z : ℕ). IsAt nothing see stands p z (length rows) x) (sym now_here) is)))
          (λ ne. subst (λ (z : T). IsAt nothing see stands q (done_at now q) (length (get_or tables q [])) z)
          (sym (get_or-set_other parts p q x d ne))
          (subst (λ (z : ℕ). IsAt nothing see stands q z (length (get_or tables q [])) (get_or parts q d)) (sym (now_other q ne))
          (core.members q d lt g)))

      pub core_done : IsCore nothing N borders see stands spent right now stopped tables (set parts p x) later
      core_done = record {
        net = core.net;
        dones = length-set done p (t + 1) ∙ core.dones;
        flags = core.flags;
        lists = core.lists;
        many = length-set parts p x ∙ core.many;
        places = ex.long ∙ core.places;
        rows = core.rows;
        given = core.given;
        early = early_now;
        close = close_now;
        noted = noted_now;
        lags = lags_now;
        room = room_now;
        filled = filled_now;
        members = part_now;
        halted = λ q d lt h. let ne = is_other q h in subst spent (sym (get_or-set_other parts p q x d ne)) (core.halted q d lt h);
      }

    done_then : (more : List Border) (s n : ℕ) (ws later : List (Wheel P)) (x : T) → more ≡ rows → s ≡ t → ws ≡ wheels
        → n ≡ length wheels
        → IsAt nothing see stands p (s + 1) (length more) x → HasExchanged nothing right s p more ws later
        → IsCore nothing N borders see stands spent right (set done p (s + 1)) stopped tables (set parts p x)
        (take n (later ++ drop (length later) wheels))
    done_then more s n ws later x er es eb en is ex =
        let here : IsAt nothing see stands p (t + 1) (length rows) x =
        subst (λ (xs : List Border). IsAt nothing see stands p (t + 1) (length xs) x) er
        (subst (λ (z : ℕ). IsAt nothing see stands p (z + 1) (length more) x) es is) in
        let changed : HasExchanged nothing right t p rows wheels later =
        subst (λ (xs : List Border). HasExchanged nothing right t p xs wheels later) er
        (subst (λ (z : ℕ). HasExchanged nothing right z p more wheels later) es
        (subst (λ (zs : List (Wheel P)). HasExchanged nothing right s p more zs later) eb ex)) in
        subst (λ (zs : List (Wheel P)).
        IsCore nothing N borders see stands spent right (set done p (s + 1)) stopped tables (set parts p x) zs)
        (sym (whole later wheels n en changed.long))
        (subst (λ (z : ℕ). IsCore nothing N borders see stands spent right (set done p (z + 1)) stopped tables (set parts p x) later)
        (sym es) (core_done x later here changed))

    -- WHERE IT WAS STOPPED
    module _ (x : T) (later : List (Wheel P)) (tk : HasTaken nothing t p rows wheels later) (poor : spent x) where
      abbrev flags : List Bool
      flags = set stopped p true

      flag_here : is_stopped flags p ≡ true
      flag_here = get_or-set_same stopped p true false (let n = core.flags in omega arith)

      flag_other : (q : ℕ) → q ≢ p → is_stopped flags q ≡ is_stopped stopped q
      flag_other q ne = get_or-set_other stopped p q true false ne

      goes_on : (q : ℕ) → is_stopped flags q ≡ false → q ≢ p
      goes_on q g = λ e. true≢false (sym flag_here ∙ ap (is_stopped flags) (sym e) ∙ g)

      noted_then : (b : ℕ) (d : Wheel P) → b < N.parts → IsNoted nothing (get_or later b d)
      noted_then b d lt = dite (ℕ_discrete b p)
          (λ e. subst (λ (z : ℕ). IsNoted nothing (get_or later z d)) (sym e) (tk.taken d).noted)
          (λ ne. subst (λ (w : Wheel P). IsNoted nothing w) (sym (tk.others b d ne)) (core.noted b d lt))

      lags_then : (a b : ℕ) (d : Wheel P) → N.near a b ≡ true → lag_in (get_or later b d) a ≡ N.lag a b
      lags_then a b d n = dite (ℕ_discrete b p)
          (λ e. subst (λ (z : ℕ). N.near a z ≡ true → lag_in (get_or later z d) a ≡ N.lag a z) (sym e) (lags_own later tk.taken a d) n)
          (λ ne. ap (λ (w : Wheel P). lag_in w a) (tk.others b d ne) ∙ core.lags a b d n)

      room_here : (a : ℕ) (d : Wheel P) → N.near a p ≡ true → HasRoom nothing (done_at done a) t (N.lag a p) a (get_or later p d)
      room_here a d n u le lt = room_own later tk.taken a d n u le (omega arith)

      room_then : (a b : ℕ) (d : Wheel P) → N.near a b ≡ true
          → HasRoom nothing (done_at done a) (done_at done b) (N.lag a b) a (get_or later b d)
      room_then a b d n = dite (ℕ_discrete b p)
          (λ e. subst (λ (z : ℕ). N.near a z ≡ true
          → HasRoom nothing (done_at done a) (done_at done z) (N.lag a z) a (get_or later z d)) (sym e) (room_here a d) n)
          (λ ne. subst (λ (w : Wheel P). HasRoom nothing (done_at done a) (done_at done b) (N.lag a b) a w) (sym (tk.others b d ne))
          (core.room a b d n))

      pub core_stopped : IsCore nothing N borders see stands spent right done flags tables (set parts p x) later
      core_stopped = record {
        net = core.net;
        dones = core.dones;
        flags = length-set stopped p true ∙ core.flags;
        lists = core.lists;
        many = length-set parts p x ∙ core.many;
        places = tk.long ∙ core.places;
        rows = core.rows;
        given = core.given;
        early = core.early;
        close = core.close;
        noted = noted_then;
        lags = lags_then;
        room = room_then;
        filled = λ a b d n g. let ne = goes_on b g in
            subst (λ (w : Wheel P). IsFilled nothing (right a b) (done_at done a) (done_at done b) (N.lag a b) a w) (sym (tk.others b d ne))
            (core.filled a b d n (sym (flag_other b ne) ∙ g));
        members = λ q d lt g. let ne = goes_on q g in
            subst (λ (z : T). IsAt nothing see stands q (done_at done q) (length (get_or tables q [])) z)
            (sym (get_or-set_other parts p q x d ne)) (core.members q d lt (sym (flag_other q ne) ∙ g));
        halted = λ q d lt h. dite (ℕ_discrete q p)
            (λ e. subst (λ (z : ℕ). spent (get_or (set parts p x) z d)) (sym e)
            (subst spent (sym (get_or-set_same parts p x d (let n = core.many in omega arith))) poor))
            (λ ne. subst spent (sym (get_or-set_other parts p q x d ne)) (core.halted q d lt (sym (flag_other q ne) ∙ h)));
      }

    stopped_then : (more : List Border) (s n : ℕ) (ws later : List (Wheel P)) (x : T) → more ≡ rows → s ≡ t → ws ≡ wheels
        → n ≡ length wheels
        → HasTaken nothing s p more ws later → spent x
        → IsCore nothing N borders see stands spent right done (set stopped p true) tables (set parts p x)
        (take n (later ++ drop (length later) wheels))
    stopped_then more s n ws later x er es eb en tk poor =
        let changed : HasTaken nothing t p rows wheels later =
        subst (λ (xs : List Border). HasTaken nothing t p xs wheels later) er
        (subst (λ (z : ℕ). HasTaken nothing z p more wheels later) es
        (subst (λ (zs : List (Wheel P)). HasTaken nothing s p more zs later) eb tk)) in
        subst (λ (zs : List (Wheel P)).
        IsCore nothing N borders see stands spent right done (set stopped p true) tables (set parts p x) zs)
        (sym (whole later wheels n en changed.long))
        (core_stopped x later changed poor)

-- p, which was not stopped, is about to do second s, and these are its neighbours
pub record IsNext {T P : Type 0} (nothing : P) (N : Net) (borders : ℕ → List Border) (see : T → PartView P) (stands spent : T → Type 0)
    (right : ℕ → ℕ → ℕ → P → Type 0) (done : List ℕ) (stopped : List Bool) (tables : List (List Border)) (parts : List T)
    (wheels : List (Wheel P)) (p s : ℕ) (list : List Border) : Type 0 where
  pub core : IsCore nothing N borders see stands spent right done stopped tables parts wheels
  pub there : p < N.parts
  pub goes : is_stopped stopped p ≡ false
  pub listed : list ≡ get_or tables p []
  pub second : s ≡ done_at done p

module _ {T P : Type 0} {nothing : P} {N : Net} {borders : ℕ → List Border} {see : T → PartView P} {stands spent : T → Type 0}
    {right : ℕ → ℕ → ℕ → P → Type 0}
    {done : List ℕ} {stopped : List Bool} {tables : List (List Border)} {parts : List T} {wheels : List (Wheel P)} {p s : ℕ}
    {list : List Border} (n : IsNext nothing N borders see stands spent right done stopped tables parts wheels p s list) where
  -- no neighbour is behind by the lag or more
  pub may_next : (ds : List ℕ) → ds ≡ done → s < N.end
      → ((k : ℕ) → k < length list → s < done_at ds (neighbour_at list k) + lag_at list k) → MayStep N p (done_at done)
  may_next ds is before heard =
      may_then nothing N borders see stands spent right done stopped tables parts wheels n.core p n.there n.goes list s ds n.listed n.second
      is before heard

  pub next_ready : MayStep N p (done_at done) → (ws : List (Wheel P)) → ws ≡ wheels → IsReady nothing right s p list ws
  next_ready m ws e =
      ready_then nothing N borders see stands spent right done stopped tables parts wheels n.core p n.there n.goes m list s ws n.listed
      n.second e

  -- once it was done. The wheels come back from a slice of all of them
  pub next_done : MayStep N p (done_at done) → (c : ℕ) (ws later : List (Wheel P)) (x : T) → ws ≡ wheels → c ≡ length wheels
      → IsAt nothing see stands p (s + 1) (length list) x → HasExchanged nothing right s p list ws later
      → IsCore nothing N borders see stands spent right (set done p (s + 1)) stopped tables (set parts p x)
      (take c (later ++ drop (length later) wheels))
  next_done m c ws later x e long here ex =
      done_then nothing N borders see stands spent right done stopped tables parts wheels n.core p n.there n.goes m list s c ws later x
      n.listed n.second e long here ex

  -- where it found no memory
  pub next_stopped : MayStep N p (done_at done) → (c : ℕ) (ws later : List (Wheel P)) (x : T) → ws ≡ wheels → c ≡ length wheels
      → HasTaken nothing s p list ws later → spent x
      → IsCore nothing N borders see stands spent right done (set stopped p true) tables (set parts p x)
      (take c (later ++ drop (length later) wheels))
  next_stopped m c ws later x e long tk poor =
      stopped_then nothing N borders see stands spent right done stopped tables parts wheels n.core p n.there n.goes m list s c ws later x
      n.listed n.second e long tk poor
