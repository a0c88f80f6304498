-- The orders of a core's steps and those of allowed events are the same.
use Rattle.std.proofs.Common.{◌≡◌, ℕ, ◌≤◌, List, [], ◌∷◌, ap, refl, sym}
use Rattle.traffic.specs.Setup.{Setup}
use Rattle.parts.specs.{Core.Core, Core.Rule, Core.Reaches, Core.advance, Owners.Owner}
use Rattle.law_partitions.specs.{Laws.HasNeighbours, Laws.AdvanceInAnyOrder, Whole.rule, Whole.start_of}
use Rattle.step_core.specs.Nets.{Net, IsNet, ComesTo}
use Rattle.law_steps.specs.Steps.{net_of, IsReached, IsKept}

pub net_is : (S : Setup) (own : Owner) (parts end : ℕ) → HasNeighbours S own parts → parts ≤ 64 → end ≤ 172800 → IsNet (net_of S own parts end)
net_is S own parts end h few short = record {
  few = few;
  short = short;
  there = h.there;
  others = h.others;
  both = h.both;
  some = λ q p n. h.some q p;
  most = λ q p n. h.most q p;
}

module _ {H P E : Type 0} (R : Rule H P E) (end : ℕ) where
  abbrev net : Net
  net = record { parts = R.parts; near = R.near; lag = R.lag; end = end }

  pub comes : (ps : List ℕ) (c d : Core H P E) → Reaches R end ps c d → ComesTo net ps c.done d.done
  unfolding advance
  comes [] c d e = λ p. ap (λ (x : Core H P E). x.done p) e
  comes (p ∷ ps) c d e =
      (record { is_part = e.0.is_part; before_end = e.0.before_end; heard = e.0.heard }, comes ps (advance R p c) d e.1)

  pub record Reached (ps : List ℕ) (c : Core H P E) (d : ℕ → ℕ) : Type 0 where
    pub state : Core H P E
    pub reaches : Reaches R end ps c state
    pub done : (p : ℕ) → state.done p ≡ d p

  pub reach : (ps : List ℕ) (c : Core H P E) (d : ℕ → ℕ) → ComesTo net ps c.done d → Reached ps c d
  unfolding advance
  reach [] c d h = record { state = c; reaches = refl; done = λ p. sym (h p) }
  reach (p ∷ ps) c d h =
      let r = reach ps (advance R p c) d h.1 in
      let m = h.0 in
      record { state = r.state; reaches = (record { is_part = m.is_part; before_end = m.before_end; heard = m.heard }, r.reaches); done = r.done }

pub reached : (S : Setup) (own : Owner) (parts end : ℕ) (ps : List ℕ) (d : ℕ → ℕ) → ComesTo (net_of S own parts end) ps (λ x. 0) d → IsReached S own parts end ps d
reached S own parts end ps d h =
    let r = reach (rule S own parts) end ps (start_of S own) d h in
    record { state = r.state; reaches = r.reaches; done = r.done }

pub kept : (S : Setup) (own : Owner) (parts end : ℕ) (ps : List ℕ) (d : ℕ → ℕ) → AdvanceInAnyOrder S own parts → ComesTo (net_of S own parts end) ps (λ x. 0) d → IsKept S own parts end ps d
kept S own parts end ps d any h =
    let r = reached S own parts end ps d h in
    record { state = r.state; reaches = r.reaches; done = r.done; kept = any.kept end ps r.state r.reaches }
