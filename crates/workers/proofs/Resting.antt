-- A member in its turn.
use Rattle.std.proofs.Common.{◌≡◌, ℕ, ◌+◌, ◌<◌, ◌≤◌, true, false, true≢false, List, length, sym, ap, ◌∙◌, subst, inl, arith}
use Rattle.cells.specs.Ports.{IsPort, IsUntouched, SameSecond, degree, handover, neighbour, partition_of, done_of, waits, still, run_of, is_awaited}
use Rattle.cells.specs.declared.board.{Board.Board, Port.Port}
use Rattle.step_core.specs.{Nets.Net, Views.PartView, Views.AreEmpty, Views.IsAt, Views.HasDone, Views.IsHeard, Views.HasHeard, Views.HasSent, Views.Stays}
use Rattle.step_core.specs.{Views.in_place, declared.part.Border.Border}
use Rattle.workers.specs.Members.{IsBoardOfRun, IsMember, Rests, border_of, number_of, seconds_of, is_stopped}
use Rattle.workers.specs.{Parcels.right_or_none, declared.members.Member.Member, declared.members.ParcelsOf.ParcelsOf}

module _ {T R P : Type 0} (until : ℕ) (borders : R → ℕ → List Border) (nothing : P) (see : T → PartView P)
    (stands : R → T → Type 0) (right : R → ℕ → ℕ → ℕ → P → Type 0) (run : R) (b : Board (ParcelsOf T) R P) where
  -- a member that rests does so up to any second that it is not beyond
  pub rests_within : (v : ℕ) (m : Member T R P) → Rests until borders nothing see stands right run b m → seconds_of m ≤ v
      → Rests v borders nothing see stands right run b m
  rests_within v m r le =
      record { port = r.port; untouched = r.untouched; at = r.at; within = le; counts = r.counts }

  -- looks leave a member as it was, between two seconds
  pub looked : (m n : Member T R P) → Rests until borders nothing see stands right run b m → n.part ≡ m.part
      → IsPort (right_or_none nothing right) b n.port
      → IsUntouched n.port → SameSecond m.port n.port → waits m.port ≤ waits n.port → Rests until borders nothing see stands right run b n
  looked m n r part port untouched same more = let done = same.done in let st = same.still in let w = r.within in let c = r.counts in
      record {
        port = port;
        untouched = untouched;
        at = subst (λ (x : T). IsAt nothing see (stands run) (number_of n) (seconds_of n) (length (borders run (number_of n))) x) (sym part)
            (subst (λ (t : ℕ). IsAt nothing see (stands run) (number_of n) t (length (borders run (number_of n))) m.part) (sym same.done)
            (subst (λ (p : ℕ). IsAt nothing see (stands run) p (seconds_of m) (length (borders run p)) m.part) (sym same.partition) r.at));
        within = omega arith;
        counts = omega arith;
      }

  -- and nothing in what is to go
  pub all_gone : (m : Member T R P) (outbox : List P) (n : ℕ) → Rests until borders nothing see stands right run b m → n ≡ number_of m
      → outbox ≡ (see m.part).outbox → AreEmpty nothing (length (borders run n)) outbox
  all_gone m outbox n r named same = subst (λ (v : ℕ). AreEmpty nothing (length (borders run v)) outbox) (sym named)
      (subst (λ (v : List P). AreEmpty nothing (length (borders run (number_of m))) v) (sym same) r.at.gone)

  -- a member that published a second
  pub published : (m n : Member T R P) → Rests until borders nothing see stands right run b m → IsPort (right_or_none nothing right) b n.port
      → partition_of n.port ≡ partition_of m.port → done_of n.port ≡ done_of m.port + 1
      → ((k : ℕ) → k < degree n.port → is_awaited (handover n.port k) ≡ true) → still n.port ≡ waits n.port
      → IsAt nothing see (stands run) (number_of m) (seconds_of m + 1) (length (borders run (number_of m))) n.part
      → seconds_of m < until → Rests until borders nothing see stands right run b n
  published m n r port partition done awaited counts at before = record {
    port = port;
    untouched = λ k lt. inl (awaited k lt);
    at = subst (λ (t : ℕ). IsAt nothing see (stands run) (number_of n) t (length (borders run (number_of n))) n.part) (sym done)
        (subst (λ (p : ℕ). IsAt nothing see (stands run) p (seconds_of m + 1) (length (borders run p)) n.part) (sym partition) at);
    within = omega arith;
    counts = omega arith;
  }

module _ {T R P : Type 0} (net : R → Net) (borders : R → ℕ → List Border) (nothing : P) (see : T → PartView P)
    (stands : R → T → Type 0) (right : R → ℕ → ℕ → ℕ → P → Type 0) (run : R) (b : Board (ParcelsOf T) R P) where
  -- as many neighbours as the port has
  own_many : (q : Port (ParcelsOf T) R P) → IsBoardOfRun net borders nothing right run b → IsPort (right_or_none nothing right) b q
      → length (borders run (partition_of q)) ≡ degree q
  own_many q board port = (board.neighbours q port).many

  -- its partition has an empty place for each neighbour of the port
  pub all_empty : (until : ℕ) (m : Member T R P) → IsBoardOfRun net borders nothing right run b → Rests until borders nothing see stands right run b m
      → AreEmpty nothing (degree m.port) (see m.part).inbox
  all_empty until m board r = subst (λ (n : ℕ). AreEmpty nothing n (see m.part).inbox) (own_many m.port board r.port) r.at.empty

  -- it has so many places
  pub all_places : (q : Port (ParcelsOf T) R P) (places n : ℕ) → IsBoardOfRun net borders nothing right run b
      → IsPort (right_or_none nothing right) b q → n ≡ partition_of q → places ≡ degree q → places ≡ length (borders run n)
  all_places q places n board port named many =
      many ∙ sym (own_many q board port) ∙ ap (λ (v : ℕ). length (borders run v)) (sym named)

  -- what was taken from the port is what the partition is to hear
  pub all_heard : (q : Port (ParcelsOf T) R P) (places : List P) (n t : ℕ) → IsBoardOfRun net borders nothing right run b
      → IsPort (right_or_none nothing right) b q → n ≡ partition_of q → t ≡ done_of q
      → ((k : ℕ) → k < degree q → IsHeard nothing (right (run_of b)) (partition_of q) (done_of q) (border_of q k)
      (in_place nothing places k)) → HasHeard nothing (right run) n t (borders run n) places
  all_heard q places n t board port ne te each =
      let own = board.neighbours q port in
      let many = own.many in
      let here : HasHeard nothing (right run) (partition_of q) (done_of q) (borders run (partition_of q)) places =
      λ k lt. subst (λ (v : Border). IsHeard nothing (right run) (partition_of q) (done_of q) v (in_place nothing places k))
      (sym (own.each k (omega arith)))
      (subst (λ (r : R). IsHeard nothing (right r) (partition_of q) (done_of q) (border_of q k) (in_place nothing places k)) board.about
      (each k (omega arith))) in
      subst (λ (v : ℕ). HasHeard nothing (right run) n v (borders run n) places) (sym te)
      (subst (λ (v : ℕ). HasHeard nothing (right run) v (done_of q) (borders run v) places) (sym ne) here)

  -- what the partition sends is what is to be put into the port
  pub all_sent : (q : Port (ParcelsOf T) R P) (places : List P) (n t : ℕ) → IsBoardOfRun net borders nothing right run b
      → IsPort (right_or_none nothing right) b q → n ≡ partition_of q → t ≡ done_of q
      → HasSent nothing (right run) n t (borders run n) places
      → (k : ℕ) → k < degree q → right (run_of b) (partition_of q) (neighbour q k) (done_of q) (in_place nothing places k)
  all_sent q places n t board port ne te sent k lt =
      let own = board.neighbours q port in
      let many = own.many in
      let here : HasSent nothing (right run) (partition_of q) (done_of q) (borders run (partition_of q)) places =
      subst (λ (v : ℕ). HasSent nothing (right run) (partition_of q) v (borders run (partition_of q)) places) te
      (subst (λ (v : ℕ). HasSent nothing (right run) v t (borders run v) places) ne sent) in
      subst (λ (r : R). right r (partition_of q) (neighbour q k) (done_of q) (in_place nothing places k)) (sym board.about)
      (subst (λ (v : Border). right run (partition_of q) v.neighbour (done_of q) (in_place nothing places k)) (own.each k lt)
      (here k (omega arith)))

  -- a partition that heard, did the second and sent
  pub is_later : (w x y z : T) (n t d : ℕ) → IsAt nothing see (stands run) n t (length (borders run n)) w
      → (see x).number ≡ (see w).number → (see x).seconds ≡ (see w).seconds
      → HasDone nothing see (stands run) (see x).number ((see x).seconds + 1) (length (borders run (see x).number)) y
      → (see z).inbox ≡ (see y).inbox → (see z).number ≡ (see y).number → (see z).seconds ≡ (see y).seconds → Stays stands y z
      → AreEmpty nothing d (see z).outbox → length (borders run n) ≡ d
      → IsAt nothing see (stands run) n (t + 1) (length (borders run n)) z
  is_later w x y z n t d before number seconds at inbox number2 seconds2 stays gone many =
      let a = before.seconds in
      let e = at.seconds in
      let named : (see x).number ≡ n = number ∙ before.number in
      record {
        number = number2 ∙ (at.number ∙ named);
        seconds = omega arith;
        holds = stays run at.holds;
        empty = subst (λ (v : List P). AreEmpty nothing (length (borders run n)) v) (sym inbox)
            (subst (λ (v : ℕ). AreEmpty nothing (length (borders run v)) (see y).inbox) named at.empty);
        gone = subst (λ (v : ℕ). AreEmpty nothing v (see z).outbox) (sym many) gone;
      }

module _ {T R P : Type 0} (until : ℕ) (borders : R → ℕ → List Border) (nothing : P) (see : T → PartView P) (stands : R → T → Type 0)
    (spent : T → Type 0) (right : R → ℕ → ℕ → ℕ → P → Type 0) (run : R) (b : Board (ParcelsOf T) R P) where
  -- one that was not stopped is a member where it rests
  pub goes_on : (m : Member T R P) → is_stopped m ≡ false → Rests until borders nothing see stands right run b m
      → IsMember until borders nothing see stands spent right run b m
  goes_on m goes r = record { rests = λ h. r; poor = λ h. absurd (true≢false (sym h ∙ goes)) }

  -- and one that was stopped where its partition found no memory
  pub halts : (m : Member T R P) → is_stopped m ≡ true → spent m.part → IsMember until borders nothing see stands spent right run b m
  halts m stopped poor = record { rests = λ h. absurd (true≢false (sym stopped ∙ h)); poor = λ h. poor }
