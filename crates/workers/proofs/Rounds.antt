-- What a turn adds to a round.
use Rattle.std.proofs.Common.{◌≡◌, ◌≢◌, ℕ, ◌+◌, ◌-◌, ◌<◌, ◌≤◌, ◌⊎◌, ⊎_elim, Bool, true, List, length, set, slice_index_or, sym, ap, ◌∙◌, refl, subst, subst₂}
use Rattle.std.proofs.{Common.arith, Common.length-set, Common.le_refl, lemmas.List.get_or_default, lemmas.List.Sums.sum_by-set}
use mathlib.Core.Logic.{dite}
use native.Mathlib.Decide.{ℕ_discrete}
use Rattle.cells.specs.declared.board.Board.{Board}
use Rattle.step_core.specs.{Views.PartView, declared.part.Border.Border}
use Rattle.workers.proofs.Lists.{set_same, set_other}
use Rattle.workers.specs.Members.{IsMember, Goes, Turned, TurnedAs, Flagged, RoundTo, is_stopped, seconds_of, one_if}
use Rattle.workers.specs.declared.members.{Member.Member, ParcelsOf.ParcelsOf, Turn.Turn}
use Rattle.workers.specs.declared.members.Turn.TheVariants.{Ended, Stopped, Waited, Moved}

raised : (s m w s' m' w' : Bool) (t : Turn) → (s ≡ true → s' ≡ true) → (m ≡ true → m' ≡ true)
    → (w ≡ true → w' ≡ true) → Flagged s m w t
    → Flagged s' m' w' t
raised s m w s' m' w' Ended f g h x = tt
raised s m w s' m' w' Stopped f g h x = f x
raised s m w s' m' w' Waited f g h x = h x
raised s m w s' m' w' Moved f g h x = g x

module _ {T R P : Type 0} (until : ℕ) (borders : R → ℕ → List Border) (nothing : P) (see : T → PartView P) (stands : R → T → Type 0)
    (spent : T → Type 0) (right : R → ℕ → ℕ → ℕ → P → Type 0) (run : R) (b : Board (ParcelsOf T) R P) where
  -- the member at place k had its turn and is x
  pub step : (k : ℕ) (s m w s' m' w' : Bool) (old new : List (Member T R P)) (x e : Member T R P) (t : Turn)
      → RoundTo until borders nothing see stands spent right run b k s m w old new → k < length new
      → IsMember until borders nothing see stands spent right run b x → Goes (slice_index_or new k e) x
      → Turned until (slice_index_or new k e) x t
      → (s ≡ true → s' ≡ true) → (m ≡ true → m' ≡ true) → (w ≡ true → w' ≡ true) → Flagged s' m' w' t
      → (s' ≡ true → (s ≡ true) ⊎ (is_stopped x ≡ true))
      → one_if m' + (until - seconds_of x) ≤ one_if m + (until - seconds_of (slice_index_or new k e))
      → RoundTo until borders nothing see stands spent right run b (k + 1) s' m' w' old (set new k x)
  step k s m w s' m' w' old new x e0 t r lt member goes turned fs fm fw flagged why less =
      let next : List (Member T R P) = set new k x in
      let at : (d : Member T R P) → slice_index_or next k d ≡ x = λ d. set_same new next k x d refl lt in
      let other : (j : ℕ) (d : Member T R P) → j ≢ k → slice_index_or next j d ≡ slice_index_or new j d =
      λ j d ne. set_other new next k j x d refl ne in
      let y : Member T R P = slice_index_or new k e0 in
      let was : (d : Member T R P) → slice_index_or new k d ≡ y = λ d. get_or_default new k d e0 lt in
      let long : length next ≡ length new = length-set new k x in
      let sums = sum_by-set (λ (z : Member T R P). until - seconds_of z) new k x e0 lt in
      let before = r.less in
      record {
        long = long ∙ r.long;
        members = λ i d li. dite (ℕ_discrete i k)
            (λ e. subst (λ (z : Member T R P). IsMember until borders nothing see stands spent right run b z)
            (sym (ap (λ z. slice_index_or next z d) e ∙ at d)) member)
            (λ ne. subst (λ (z : Member T R P). IsMember until borders nothing see stands spent right run b z) (sym (other i d ne))
            (r.members i d (omega arith)));
        turns = λ j d lj. dite (ℕ_discrete j k)
            (λ e. subst (λ (v : ℕ). TurnedAs until s' m' w' (slice_index_or old v d) (slice_index_or next v d)) (sym e)
            (subst₂ (λ (o n : Member T R P). TurnedAs until s' m' w' o n) (sym (was d) ∙ r.rest k d (le_refl k)) (sym (at d))
            (record { goes = goes; turn = t; turned = turned; flagged = flagged })))
            (λ ne. let h = r.turns j d (omega arith) in
            subst (λ (n : Member T R P). TurnedAs until s' m' w' (slice_index_or old j d) n) (sym (other j d ne))
            (record { goes = h.goes; turn = h.turn; turned = h.turned; flagged = raised s m w s' m' w' h.turn fs fm fw h.flagged }));
        rest = λ j d le. other j d (λ e. absurd (omega arith)) ∙ r.rest j d (omega arith);
        some = λ e. ⊎_elim
            (λ h. let o = r.some h in dite (ℕ_discrete o.place k)
            (λ same. record {
              place = k;
              inside = omega arith;
              stopped = λ d. ap is_stopped (at d) ∙ goes.stopped
                  (ap is_stopped (sym (was d) ∙ sym (ap (λ z. slice_index_or new z d) same)) ∙ o.stopped d);
            })
            (λ ne. record {
              place = o.place;
              inside = let p = o.inside in
                  omega arith;
              stopped = λ d. ap is_stopped (other o.place d ne) ∙ o.stopped d;
            }))
            (λ h. record { place = k; inside = omega arith; stopped = λ d. ap is_stopped (at d) ∙ h })
            (why e);
        less = omega arith;
      }
