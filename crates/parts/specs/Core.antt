-- The core: partitions that advance in any order that the lags allow. H is what a partition holds, P a parcel, E an event.
use Rattle.std.specs.Prelude.{◌≡◌, ℕ, ◌+◌, ◌<◌, Bool, true, ◌&&◌, List, [], ◌∷◌, ◌++◌, ◌==◌, nat_le, if◌then◌else◌, Option, None, Some}

-- for each partition the seconds that it has done, what it holds, and its events; for each ordered pair what was sent and not absorbed
pub record Core (H P E : Type 0) : Type 0 where
  pub done : ℕ → ℕ
  pub hold : ℕ → H
  pub told : ℕ → List E
  pub box : ℕ → ℕ → List P

-- How many partitions there are, which are neighbours, and with which lag what the first does becomes known to the second (the lag the
-- other way may be another one); and what one does in its second with what it holds and what it absorbs: what it then holds, what it sends
-- to each, and what it tells.
pub record Rule (H P E : Type 0) : Type 0 where
  pub parts : ℕ
  pub near : ℕ → ℕ → Bool
  pub lag : ℕ → ℕ → ℕ
  pub step : ℕ → ℕ → H → (ℕ → Option P) → H
  pub send : ℕ → ℕ → H → (ℕ → Option P) → ℕ → P
  pub tell : ℕ → ℕ → H → (ℕ → Option P) → List E

abbrev pub first : {X : Type 0} → List X → Option X
first [] = None
first (x ∷ xs) = Some x

abbrev pub rest : {X : Type 0} → List X → List X
rest [] = []
rest (x ∷ xs) = xs

-- before second t partition p absorbs from its neighbour q the parcel of second t - lag, where there is one
abbrev pub absorbs : {H P E : Type 0} → Rule H P E → Core H P E → ℕ → ℕ → Bool
absorbs R c p q = R.near q p && nat_le (R.lag q p) (c.done p)

abbrev pub absorbed : {H P E : Type 0} → Rule H P E → Core H P E → ℕ → ℕ → Option P
absorbed R c p q = if absorbs R c p q then first (c.box q p) else None

-- the event Advance: p absorbs, does its next second, and sends
unfoldable pub advance : {H P E : Type 0} → Rule H P E → ℕ → Core H P E → Core H P E
advance R p c =
    let t = c.done p in
    let got = absorbed R c p in
    record {
      done = λ x. if x == p then t + 1 else c.done x;
      hold = λ x. if x == p then R.step p t (c.hold p) got else c.hold x;
      told = λ x. if x == p then c.told p ++ R.tell p t (c.hold p) got else c.told x;
      box = λ a b.
          if (a == p) && R.near p b then c.box a b ++ R.send p t (c.hold p) got b ∷ []
          else if (b == p) && absorbs R c p a then rest (c.box a b)
          else c.box a b;
    }

-- it is allowed of a partition that has not come to the end, while no neighbour is too far behind
pub record Allowed {H P E : Type 0} (R : Rule H P E) (end p : ℕ) (c : Core H P E) : Type 0 where
  pub is_part : p < R.parts
  pub before_end : c.done p < end
  pub heard : (q : ℕ) → R.near q p ≡ true → c.done p < c.done q + R.lag q p

-- a list of allowed events leads from one state to another
abbrev pub Reaches : {H P E : Type 0} → Rule H P E → ℕ → List ℕ → Core H P E → Core H P E → Type 0
Reaches {H} {P} {E} R end [] c d = d ≡ c
Reaches {H} {P} {E} R end (p ∷ ps) c d = Allowed R end p c × Reaches R end ps (advance R p c) d

-- the start: nothing is done, told or sent
abbrev pub start : {H P E : Type 0} → (ℕ → H) → Core H P E
start {H} {P} {E} hold = record { done = λ p. 0; hold = hold; told = λ p. []; box = λ a b. [] }

-- What the second state says the first one shows: the done seconds of each partition, what those that go on hold and have told, and what
-- was sent to them and not absorbed. So a state of few partitions, of which some have stopped, stands for a state of the core.
pub record Shows {H P E : Type 0} (R : Rule H P E) (goes : ℕ → Bool) (c d : Core H P E) : Type 0 where
  pub done : (p : ℕ) → p < R.parts → c.done p ≡ d.done p
  pub hold : (p : ℕ) → p < R.parts → goes p ≡ true → c.hold p ≡ d.hold p
  pub told : (p : ℕ) → p < R.parts → goes p ≡ true → c.told p ≡ d.told p
  pub box : (a b : ℕ) → R.near a b ≡ true → goes b ≡ true → c.box a b ≡ d.box a b
