-- How parcels go from a port to its partition, and back.
use Rattle.std.proofs.Common.{◌≡◌, ◌≢◌, ℕ, ◌+◌, ◌-◌, ◌<◌, ◌≤◌, Bool, true, List, length, set, length-set, sym, ap, ◌∙◌, refl, subst, arith}
use Rattle.std.specs.Prelude.{Option, unwrap_or}
use mathlib.Core.Logic.{dite}
use native.Mathlib.Decide.{ℕ_discrete}
use Rattle.cells.{proofs.Uses.same_trans, proofs.Uses.taken_unread, specs.Ports.IsPort}
use Rattle.cells.specs.Ports.{SameSecond, IsHandover, IsUnreadOf, degree, handover, neighbour, lag_from, partition_of, done_of, waits, run_of, is_taken, is_put}
use Rattle.cells.specs.declared.board.{Board.Board, Handover.Handover, Handover.TheVariants.Awaited, Handover.TheVariants.Arrived, Handover.TheVariants.Taken}
use Rattle.cells.specs.declared.board.{Handover.TheVariants.Put, Port.Port}
use Rattle.cells.specs.declared.table.Border as cell
use Rattle.cells.specs.Ports as ports
use Rattle.step_core.specs.{Views.PartView, Views.IsHeard, Views.Stays, Views.in_place, declared.part.Border.Border}
use Rattle.workers.{proofs.Lists.set_same, proofs.Lists.set_other, specs.Exchanges.ArePut}
use Rattle.workers.specs.{Exchanges.HasTakenTo, Exchanges.HasPutTo, Members.border_of, Parcels.right_or_none, declared.members.ParcelsOf.ParcelsOf}

-- a border of a port as its partition has it
abbrev border_in : List cell.Border → ℕ → Border
border_in rows k = record { neighbour = (ports.border_at rows k).from; lag = (ports.border_at rows k).lag }

-- a neighbour whose first parcel comes later has none to be taken
late_taken : {P : Type 0} (right : ℕ → ℕ → ℕ → Option P → Type 0) (p t : ℕ) (r : cell.Border) (m o : Bool) (h : Handover P)
    → IsHandover right p t r m o h → IsUnreadOf r.lag t h → t < r.lag → is_taken h ≡ true
late_taken right p t r m o Awaited ok u lt = absurd u
late_taken right p t r m o (Arrived x) ok u lt = absurd (let le = ok.2 in omega arith)
late_taken right p t r m o Taken ok u lt = refl
late_taken right p t r m o (Put y) ok u lt = absurd u

module _ {T R P : Type 0} (right : R → ℕ → ℕ → ℕ → Option P → Type 0) (b : Board T R P) (before : Port T R P) where
  -- what is right at first is right still
  pub may_put : (k : ℕ) (q : Port T R P) (o : Option P) → ArePut right b before k q
      → right (run_of b) (partition_of before) (neighbour before k) (done_of before) o
      → right (run_of b) (partition_of q) (neighbour q k) (done_of q) o
  may_put k q o i is =
      let R1 : ℕ → ℕ → ℕ → Option P → Type 0 = right (run_of b) in
      let near : neighbour q k ≡ neighbour before k = ap (λ (v : List cell.Border). (ports.border_at v k).from) i.same.borders in
      subst (λ (v : ℕ). R1 v (neighbour q k) (done_of q) o) (sym i.same.partition)
      (subst (λ (v : ℕ). R1 (partition_of before) v (done_of q) o) (sym near)
      (subst (λ (v : ℕ). R1 (partition_of before) (neighbour before k) v o) (sym i.same.done) is))

  -- what goes to neighbour k was put
  pub put_more : (k : ℕ) (q r : Port T R P) (o : Option P) → ArePut right b before k q → k < degree before → IsPort right b r
      → SameSecond q r → r.handovers.items ≡ set q.handovers.items k (Put o) → waits r ≡ waits q → ArePut right b before (k + 1) r
  put_more k q r o i lk port s held w =
      let rows = ap (λ (v : List cell.Border). length v) i.same.borders in
      let long = i.port.long in
      record {
        port = port;
        same = same_trans before q r i.same s;
        waits = w ∙ i.waits;
        put = λ j lj. dite (ℕ_discrete j k)
            (λ e. subst (λ (v : ℕ). is_put (handover r v) ≡ true) (sym e)
            (ap is_put (set_same q.handovers.items r.handovers.items k (Put o) Awaited held (omega arith))))
            (λ ne. ap is_put (set_other q.handovers.items r.handovers.items k j (Put o) Awaited held ne) ∙ i.put j (omega arith));
        taken = λ j lj lb. ap is_taken (set_other q.handovers.items r.handovers.items k j (Put o) Awaited held
            (λ e. absurd (omega arith))) ∙ i.taken j (omega arith) lb;
      }

module _ {P : Type 0} (nothing : P) (right : ℕ → ℕ → ℕ → P → Type 0) (p t : ℕ) (b : Border) (inbox : List P) (k : ℕ) where
  -- something came
  pub came : (x : P) (more : List P) → more ≡ set inbox k x → k < length inbox → b.lag ≤ t → right b.neighbour p (t - b.lag) x
      → IsHeard nothing right p t b (in_place nothing more k)
  came x more e lt le is = record {
    came = λ h. subst (λ (y : P). right b.neighbour p (t - b.lag) y) (sym (set_same inbox more k x nothing e lt)) is;
    none = λ early. absurd (omega arith);
  }

  -- the parcel that came has nothing in it
  pub came_empty : in_place nothing inbox k ≡ nothing → b.lag ≤ t → right b.neighbour p (t - b.lag) nothing
      → IsHeard nothing right p t b (in_place nothing inbox k)
  came_empty none le is = record {
    came = λ h. subst (λ (y : P). right b.neighbour p (t - b.lag) y) (sym none) is;
    none = λ early. none;
  }

module _ {T R P : Type 0} (nothing : P) (see : T → PartView P) (stands : R → T → Type 0) (right : R → ℕ → ℕ → ℕ → P → Type 0)
    (b : Board (ParcelsOf T) R P) (before : Port (ParcelsOf T) R P) (x : T) where
  -- what neighbour k sent was taken
  pub took : (k : ℕ) (q r : Port (ParcelsOf T) R P) (y z : T) → HasTakenTo nothing see stands right b before x k q y → k < degree before
      → IsPort (right_or_none nothing right) b r → SameSecond q r → r.handovers.items ≡ set q.handovers.items k Taken → waits r ≡ waits q
      → IsHeard nothing (right (run_of b)) (partition_of q) (done_of q) (border_of q k) (in_place nothing (see z).inbox k)
      → ((j : ℕ) → j ≢ k → in_place nothing (see z).inbox j ≡ in_place nothing (see y).inbox j)
      → length (see z).inbox ≡ length (see y).inbox → (see z).outbox ≡ (see y).outbox → (see z).number ≡ (see y).number
      → (see z).seconds ≡ (see y).seconds → Stays stands y z → HasTakenTo nothing see stands right b before x (k + 1) r z
  took k q r y z i lk port s held w heard others long outbox number seconds stays =
      let rows = ap (λ (v : List cell.Border). length v) i.same.borders in
      let many = i.port.long in
      let R1 : ℕ → ℕ → ℕ → P → Type 0 = right (run_of b) in
      let x1 : P = in_place nothing (see z).inbox k in
      let border : border_of q k ≡ border_of before k = ap (λ (v : List cell.Border). border_in v k) i.same.borders in
      let is1 : IsHeard nothing R1 (partition_of q) (done_of q) (border_of before k) x1 =
      subst (λ (v : Border). IsHeard nothing R1 (partition_of q) (done_of q) v x1) border heard in
      let is2 : IsHeard nothing R1 (partition_of before) (done_of q) (border_of before k) x1 =
      subst (λ (v : ℕ). IsHeard nothing R1 v (done_of q) (border_of before k) x1) i.same.partition is1 in
      let here : IsHeard nothing R1 (partition_of before) (done_of before) (border_of before k) x1 =
      subst (λ (v : ℕ). IsHeard nothing R1 (partition_of before) v (border_of before k) x1) i.same.done is2 in
      record {
        port = port;
        same = same_trans before q r i.same s;
        waits = w ∙ i.waits;
        taken = λ j lj. dite (ℕ_discrete j k)
            (λ e. subst (λ (v : ℕ). is_taken (handover r v) ≡ true) (sym e)
            (ap is_taken (set_same q.handovers.items r.handovers.items k Taken Awaited held (omega arith))))
            (λ ne. ap is_taken (set_other q.handovers.items r.handovers.items k j Taken Awaited held ne) ∙ i.taken j (omega arith));
        unread = λ j lj lb. taken_unread q r k j s held (λ e. absurd (omega arith)) (i.unread j (omega arith) lb);
        many = long ∙ i.many;
        heard = λ j lj. dite (ℕ_discrete j k)
            (λ e. subst (λ (v : ℕ). IsHeard nothing R1 (partition_of before) (done_of before) (border_of before v)
            (in_place nothing (see z).inbox v)) (sym e) here)
            (λ ne. subst (λ (v : P). IsHeard nothing R1 (partition_of before) (done_of before) (border_of before j) v)
            (sym (others j ne)) (i.heard j (omega arith)));
        none = λ j lj lb. others j (λ e. absurd (omega arith)) ∙ i.none j (omega arith) lb;
        outbox = outbox ∙ i.outbox;
        number = number ∙ i.number;
        seconds = seconds ∙ i.seconds;
        stays = λ run h. stays run (i.stays run h);
      }

  -- neighbour k has no parcel for this second
  pub skipped : (k : ℕ) (q : Port (ParcelsOf T) R P) (y : T) → HasTakenTo nothing see stands right b before x k q y → k < degree before
      → done_of q < lag_from q k → HasTakenTo nothing see stands right b before x (k + 1) q y
  skipped k q y i lk lt =
      let rows = ap (λ (v : List cell.Border). length v) i.same.borders in
      let R1 : ℕ → ℕ → ℕ → P → Type 0 = right (run_of b) in
      let lag : lag_from q k ≡ lag_from before k = ap (λ (v : List cell.Border). (ports.border_at v k).lag) i.same.borders in
      let done : done_of q ≡ done_of before = i.same.done in
      let here : IsHeard nothing R1 (partition_of before) (done_of before) (border_of before k) (in_place nothing (see y).inbox k) =
      record { came = λ le. absurd (omega arith); none = λ early. i.none k (omega arith) lk } in
      record {
        port = i.port;
        same = i.same;
        waits = i.waits;
        taken = λ j lj. dite (ℕ_discrete j k)
            (λ e. subst (λ (v : ℕ). is_taken (handover q v) ≡ true) (sym e)
            (late_taken (right_or_none nothing right (run_of b)) q.partition q.done (ports.border_at q.borders.items k) _ _ (handover q k)
            (i.port.held k (omega arith)) (i.unread k (omega arith) lk) lt))
            (λ ne. i.taken j (omega arith));
        unread = λ j lj lb. i.unread j (omega arith) lb;
        many = i.many;
        heard = λ j lj. dite (ℕ_discrete j k)
            (λ e. subst (λ (v : ℕ). IsHeard nothing R1 (partition_of before) (done_of before) (border_of before v)
            (in_place nothing (see y).inbox v)) (sym e) here)
            (λ ne. i.heard j (omega arith));
        none = λ j lj lb. i.none j (omega arith) lb;
        outbox = i.outbox;
        number = i.number;
        seconds = i.seconds;
        stays = i.stays;
      }

  -- the parcel for neighbour k may be put
  pub may_give : (k : ℕ) (q : Port (ParcelsOf T) R P) (y : T) (o : Option P) → HasPutTo nothing see stands right b before x k q y
      → k < degree before → unwrap_or o nothing ≡ in_place nothing (see y).outbox k
      → right (run_of b) (partition_of before) (neighbour before k) (done_of before) (in_place nothing (see x).outbox k)
      → right_or_none nothing right (run_of b) (partition_of q) (neighbour q k) (done_of q) o
  may_give k q y o i lk is sent =
      may_put (right_or_none nothing right) b before k q o i.put
      (subst (λ (v : P). right (run_of b) (partition_of before) (neighbour before k) (done_of before) v)
      (sym (is ∙ i.kept k (omega arith) lk)) sent)

  -- it was put
  pub gave : (k : ℕ) (q r : Port (ParcelsOf T) R P) (y z : T) (o : Option P) → HasPutTo nothing see stands right b before x k q y
      → k < degree before → IsPort (right_or_none nothing right) b r → SameSecond q r
      → r.handovers.items ≡ set q.handovers.items k (Put o) → waits r ≡ waits q
      → (see z).outbox ≡ set (see y).outbox k nothing → (see z).inbox ≡ (see y).inbox → (see z).number ≡ (see y).number
      → (see z).seconds ≡ (see y).seconds → Stays stands y z → HasPutTo nothing see stands right b before x (k + 1) r z
  gave k q r y z o i lk port s held w outbox inbox number seconds stays =
      let many = i.many in
      record {
        put = put_more (right_or_none nothing right) b before k q r o i.put lk port s held w;
        many = ap length outbox ∙ (length-set (see y).outbox k nothing ∙ many);
        gone = λ j lj. dite (ℕ_discrete j k)
            (λ e. subst (λ (v : ℕ). in_place nothing (see z).outbox v ≡ nothing) (sym e)
            (set_same (see y).outbox (see z).outbox k nothing nothing outbox (omega arith)))
            (λ ne. set_other (see y).outbox (see z).outbox k j nothing nothing outbox ne ∙ i.gone j (omega arith));
        kept = λ j lj lb. set_other (see y).outbox (see z).outbox k j nothing nothing outbox (λ e. absurd (omega arith))
            ∙ i.kept j (omega arith) lb;
        inbox = inbox ∙ i.inbox;
        number = number ∙ i.number;
        seconds = seconds ∙ i.seconds;
        stays = λ run h. stays run (i.stays run h);
      }
