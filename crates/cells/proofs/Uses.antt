-- What a caller that goes over all neighbours knows.
use Rattle.std.proofs.Common.{◌≡◌, ◌≢◌, ℕ, ◌<◌, ◌⊎◌, true, false, List, length, set, sym, ap, ◌∙◌, refl, subst, inl, inr, ⊎_elim}
use Rattle.std.proofs.Common.{get_or-set_same, get_or-set_other, arith, not, true≢false, Option}
use mathlib.Core.Logic.{dite}
use native.Mathlib.Decide.{ℕ_discrete, dec_le}
use Rattle.cells.proofs.Rings.{by_bool}
use Rattle.cells.specs.Ports.{border_at, handover_at, is_awaited, is_taken, is_put, degree, handover, lag_from, SameSecond, Fetches, Answers}
use Rattle.cells.specs.{Ports.IsUnreadOf, Ports.IsUnread, Ports.IsUntouched, Ports.IsSettled, declared.board.Board.Board, declared.board.Handover.Handover}
use Rattle.cells.specs.declared.board.Handover.TheVariants.{Awaited, Arrived, Taken, Put}
use Rattle.cells.specs.declared.{board.Look.TheVariants.Ready, board.Look.TheVariants.NotYet, board.Port.Port, table.Border.Border}

module _ {P : Type 0} where
  unread_known : (l t : ℕ) (h : Handover P) → IsUnreadOf l t h → is_awaited h ≡ false
  unread_known l t Awaited u = absurd u
  unread_known l t (Arrived x) u = refl
  unread_known l t Taken u = refl
  unread_known l t (Put y) u = refl

  put_taken : (h : Handover P) → is_put h ≡ true → is_taken h ≡ true
  put_taken Awaited is = absurd (true≢false (sym is))
  put_taken (Arrived x) is = absurd (true≢false (sym is))
  put_taken Taken is = absurd (true≢false (sym is))
  put_taken (Put y) is = refl

module _ {T R P : Type 0} where
  pub moved_unread : (old new : Port T R P) (j : ℕ) → SameSecond old new → handover new j ≡ handover old j → IsUnread old j → IsUnread new j
  moved_unread old new j s e u = subst (λ z. IsUnreadOf (lag_from new j) new.done z) (sym e)
      (subst (λ z. IsUnreadOf z new.done (handover old j)) (sym (ap (λ (z : List Border). (border_at z j).lag) s.borders))
      (subst (λ z. IsUnreadOf (lag_from old j) z (handover old j)) (sym s.done) u))

  stays : (old new : Port T R P) (j : ℕ) → SameSecond old new → handover new j ≡ handover old j → (is_awaited (handover old j) ≡ true)
      ⊎ IsUnread old j → (is_awaited (handover new j) ≡ true) ⊎ IsUnread new j
  stays old new j s e c = ⊎_elim (λ u. inl (ap is_awaited e ∙ u)) (λ u. inr (moved_unread old new j s e u)) c

  -- after a look that was not ready all is as before
  pub waits_untouched : (old new : Port T R P) (k n : ℕ) → IsUntouched old → SameSecond old new → Answers old new k (NotYet n)
      → IsUntouched new
  waits_untouched old new k n u s a j lj = stays old new j s (ap (λ z. handover_at z j) a.4)
      (u j (let r = ap (λ (z : List Border). length z) s.borders in omega arith))

  -- after a ready look the parcel of this neighbour lies in the port, and all others are as before
  pub ready_unread : (old new : Port T R P) (k : ℕ) → IsUntouched old → SameSecond old new → k < degree old
      → length old.handovers.items ≡ degree old → Answers old new k Ready → IsUntouched new × IsUnread new k
      × ((j : ℕ) → IsUnread old j → IsUnread new j)
  ready_unread old new k u s lk long a =
      let f : Fetches old new k = a.2 in let there : k < length old.handovers.items = omega arith in
      let lag : lag_from new k ≡ lag_from old k = ap (λ (z : List Border). (border_at z k).lag) s.borders in
      let here : IsUnread new k = ⊎_elim
      (λ away. dite (dec_le (lag_from old k) old.done)
      (λ le. let w = f.1 away le in subst (λ z. IsUnreadOf (lag_from new k) new.done z) (sym (ap (λ z. handover_at z k) w.1
      ∙ get_or-set_same old.handovers.items k (Arrived w.0) Awaited there)) tt)
      (λ no. let w = f.2 away (omega arith) in subst (λ z. IsUnreadOf (lag_from new k) new.done z) (sym (ap (λ z. handover_at z k) w
      ∙ get_or-set_same old.handovers.items k Taken Awaited there)) (let d = s.done in omega arith)))
      (λ un. moved_unread old new k s (ap (λ z. handover_at z k) (f.0 (unread_known _ _ (handover old k) un))) un)
      (u k lk) in
      let other : (j : ℕ) → j ≢ k → handover new j ≡ handover old j = λ j ne. by_bool (is_awaited (handover old k))
      (λ away. dite (dec_le (lag_from old k) old.done)
      (λ le. let w = f.1 away le in ap (λ z. handover_at z j) w.1 ∙ get_or-set_other old.handovers.items k j (Arrived w.0) Awaited ne)
      (λ no. let w = f.2 away (omega arith) in ap (λ z. handover_at z j) w ∙ get_or-set_other old.handovers.items k j Taken Awaited ne))
      (λ known. ap (λ z. handover_at z j) (f.0 known)) in (
        (λ j lj. dite (ℕ_discrete j k) (λ e. inr (subst (λ z. IsUnread new z) (sym e) here))
            (λ ne. stays old new j s (other j ne) (u j (let r = ap (λ (z : List Border). length z) s.borders in omega arith)))),
        here,
        (λ j un. dite (ℕ_discrete j k) (λ e. subst (λ z. IsUnread new z) (sym e) here) (λ ne. moved_unread old new j s (other j ne) un)),
      )

  -- a neighbour that was ready is unread, as long as nothing is taken and nothing put
  pub ready_still : (p : Port T R P) (k : ℕ) → IsUntouched p → k < degree p → true ≡ not (is_awaited (handover p k)) → IsUnread p k
  ready_still p k u lk is = ⊎_elim (λ away. absurd (true≢false (is ∙ ap not away))) (λ un. un) (u k lk)

  -- what was put for all is settled
  pub put_settles : (right : R → ℕ → ℕ → ℕ → Option P → Type 0) (b : Board T R P) (p : Port T R P)
      → ((k : ℕ) → k < degree p → is_put (handover p k) ≡ true) → IsSettled right b p
  put_settles right b p all k lk = (put_taken (handover p k) (all k lk), λ not_put. absurd (true≢false (sym (all k lk) ∙ not_put)))

  pub taken_unread : (old new : Port T R P) (k j : ℕ) → SameSecond old new → new.handovers.items ≡ set old.handovers.items k Taken → j ≢ k
      → IsUnread old j → IsUnread new j
  taken_unread old new k j s e ne u = moved_unread old new j s (ap (λ z. handover_at z j) e
      ∙ get_or-set_other old.handovers.items k j Taken Awaited ne) u

  pub same_trans : (a b c : Port T R P) → SameSecond a b → SameSecond b c → SameSecond a c
  same_trans a b c x y = record {
    partition = y.partition ∙ x.partition;
    done = y.done ∙ x.done;
    neighbours = y.neighbours
        ∙ x.neighbours;
    borders = y.borders ∙ x.borders;
    still = y.still ∙ x.still;
  }
