-- The ports of a board that is made from the pairs of a run have the neighbours that the run has.
use Rattle.std.proofs.Common.{◌≡◌, ℕ, ◌<◌, ◌≤◌, List, length, Option, sym, ap, ◌∙◌, refl, subst, subst₂, arith}
use mathlib.Core.Logic.{dite}
use native.Mathlib.Decide.{dec_lt}
use Rattle.cells.specs.{Pairs.Pair, Pairs.AreLags, Pairs.IsLag, Ports.IsPort, Ports.FollowsPairs, Ports.degree, Ports.neighbour, Ports.lag_from}
use Rattle.cells.specs.{Ports.partition_of, Ports.count_of, Ports.run_of, declared.board.Board.Board, declared.board.Port.Port}
use Rattle.step_core.specs.{Nets.Net, Nets.IsNet, Nets.AreBorders, Nets.border_at, declared.part.Border.Border}
use Rattle.workers.proofs.Lists.{same_rows}
use Rattle.workers.specs.{Members.HasNeighbours, Members.IsBoardOfRun, Pairs.ArePairsOf, Parcels.right_or_none, declared.members.ParcelsOf.ParcelsOf}

same_border : (r : Border) (n l : ℕ) → r.neighbour ≡ n → r.lag ≡ l → r ≡ record { neighbour = n; lag = l }
same_border r n l e f = subst₂ (λ (x y : ℕ). r ≡ record { neighbour = x; lag = y }) e f refl

module _ {T R P : Type 0} (N : Net) (right : R → ℕ → ℕ → ℕ → Option P → Type 0) (b : Board (ParcelsOf T) R P) (xs : List Pair)
    (pairs : ArePairsOf N xs) (follows : FollowsPairs right b xs) (many : count_of b ≡ N.parts) where
  pub has_neighbours : (rows : List Border) (q : Port (ParcelsOf T) R P) → IsPort right b q → AreBorders N (partition_of q) rows
      → HasNeighbours rows q
  has_neighbours rows q port are =
      let lags : AreLags xs (partition_of q) q.borders.items = follows q port in
      let there : (k : ℕ) → k < length rows → (j : ℕ) × (j < degree q) × (neighbour q j ≡ (border_at rows k).neighbour)
      × (lag_from q j ≡ (border_at rows k).lag) =
      λ k lt. lags.all (border_at rows k).neighbour (border_at rows k).lag
      (subst (λ (l : ℕ). IsLag xs (border_at rows k).neighbour (partition_of q) l) (sym (are.lags k lt))
      (pairs.all (border_at rows k).neighbour (partition_of q) (are.each k lt))) in
      let back : (k : ℕ) → k < degree q → (j : ℕ) × (j < length rows) × ((border_at rows j).neighbour ≡ neighbour q k)
      × ((border_at rows j).lag ≡ lag_from q k) =
      λ k lt. let is = pairs.lags (neighbour q k) (partition_of q) (lag_from q k) (lags.each k lt) in
      let w = are.all (neighbour q k) is.0 in
      (w.0, w.1, w.2, are.lags w.0 w.1 ∙ (ap (λ z. N.lag z (partition_of q)) w.2 ∙ sym is.1)) in
      let asc = port.borders.ascend in
      let one = same_rows (length rows) (degree q) (λ k. (border_at rows k).neighbour) (λ k. (border_at rows k).lag) (λ k. neighbour q k)
      (λ k. lag_from q k) are.ascend asc there back in
      let two = same_rows (degree q) (length rows) (λ k. neighbour q k) (λ k. lag_from q k) (λ k. (border_at rows k).neighbour)
      (λ k. (border_at rows k).lag) asc are.ascend back there in
      let le : length rows ≤ degree q = dite (dec_lt (degree q) (length rows))
      (λ lt. let h = (one (degree q) lt).0 in absurd (omega arith)) (λ ge. omega arith) in
      let ge : degree q ≤ length rows = dite (dec_lt (length rows) (degree q))
      (λ lt. let h = (two (length rows) lt).0 in absurd (omega arith)) (λ ge. omega arith) in
      record {
        many = omega arith;
        each = λ k lt. let s = one k (omega arith) in same_border (border_at rows k) (neighbour q k) (lag_from q k) s.1 s.2;
      }

-- a board that is made from the pairs of a run is one of the run
pub is_board : {T R P : Type 0} (net : R → Net) (borders : R → ℕ → List Border) (nothing : P) (right : R → ℕ → ℕ → ℕ → P → Type 0)
    (run : R) (b : Board (ParcelsOf T) R P) (xs : List Pair) → IsNet (net run)
    → ((p : ℕ) → p < (net run).parts → AreBorders (net run) p (borders run p)) → ArePairsOf (net run) xs → run_of b ≡ run
    → count_of b ≡ (net run).parts → FollowsPairs (right_or_none nothing right) b xs → IsBoardOfRun net borders nothing right run b
is_board net borders nothing right run b xs sound are pairs about many follows = record {
  sound = sound;
  about = about;
  many = many;
  neighbours = λ q port. let named = port.named in has_neighbours (net run) (right_or_none nothing right) b xs pairs follows many
      (borders run (partition_of q)) q port
      (are (partition_of q) (omega arith));
}
