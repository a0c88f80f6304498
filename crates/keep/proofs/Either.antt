-- Any rows fit or are foreign, and not both; those that fit are of one list of memories, and those that do not are so at one place.
use Rattle.std.proofs.Common.{◌≡◌, ℕ, suc, ◌<◌, ◌≤◌, ◌⊎◌, inl, inr, Bool, true, false, List, [], ◌∷◌, get_or, length, take, Option, None, Some, refl, sym, ap}
use Rattle.std.{proofs.Common.◌∙◌, proofs.Common.arith, specs.Prelude.nat_lt, specs.Prelude.option_and_then}
use Rattle.edge_files.specs.declared.keeping.KeptRow.{KeptRow}
use Rattle.plan_text.specs.Lines.{IsBook}
use Rattle.plan_memory.specs.Memories.{MemoryRows}
use Rattle.town.specs.Rows.{TownRows}
use Rattle.keep.proofs.{Answered.foreign_here, Answered.foreign_end, Answered.all_read, Tests.none_some, Tests.lt_says, Tests.ge_says, Wholes.whole_run}
use Rattle.keep.specs.{Fitting.AreRowsOf, Fitting.IsForeignAt, Reading.Progress, Reading.start, Reading.step, Reading.run, Reading.ended}

-- the first row that is not read
record Unread (T : TownRows) (s : Progress) (rows : List KeptRow) : Type 0 where
  place : ℕ
  row : KeptRow
  at : Progress
  within : place < length rows
  is : row ≡ get_or rows place row
  read : run T s (take place rows) ≡ Some at
  none : step T at row ≡ None

-- it is this one, or one behind it
unread_by : (T : TownRows) (s : Progress) (row : KeptRow) (rows : List KeptRow) → ((t : Progress) → run T t rows ≡ None → Unread T t rows)
    → (o : Option Progress) → step T s row ≡ o → run T s (row ∷ rows) ≡ None → Unread T s (row ∷ rows)
unfolding run
unread_by T s row rows later None stops none = record {
  place = 0;
  row = row;
  at = s;
  within = omega arith;
  is = refl;
  read = refl;
  none = stops;
}
unread_by T s row rows later (Some t) goes none =
    let rest = later t (sym (ap (option_and_then (λ (next : Progress). run T next rows)) goes) ∙ none) in
    record {
      place = suc rest.place;
      row = rest.row;
      at = rest.at;
      within = let less : rest.place < length rows = rest.within in omega arith;
      is = rest.is;
      read = ap (option_and_then (λ (next : Progress). run T next (take rest.place rows))) goes ∙ rest.read;
      none = rest.none;
    }

unread : (T : TownRows) (s : Progress) (rows : List KeptRow) → run T s rows ≡ None → Unread T s rows
unfolding run
unread T s [] none = absurd (none_some s (sym none))
unread T s (row ∷ rows) none = unread_by T s row rows (λ t stops. unread T t rows stops) (step T s row) refl none

-- the places at which rows are foreign
below : (T : TownRows) (rows : List KeptRow) (a b : ℕ) → IsForeignAt T rows a → IsForeignAt T rows b → a < b → ⊥
below T rows a b is other less = is.here (let within : b ≤ length rows = other.within in omega arith) (other.before a less)

by_order : (T : TownRows) (rows : List KeptRow) (a b : ℕ) → IsForeignAt T rows a → IsForeignAt T rows b → (ab ba : Bool) → nat_lt a b ≡ ab
    → nat_lt b a ≡ ba → a ≡ b
by_order T rows a b is other true ba first second = absurd (below T rows a b is other (lt_says a b first))
by_order T rows a b is other false true first second = absurd (below T rows b a other is (lt_says b a second))
by_order T rows a b is other false false first second =
    let more : b ≤ a = ge_says a b first in
    let less : a ≤ b = ge_says b a second in
    omega arith

pub one_place : (T : TownRows) (rows : List KeptRow) (a b : ℕ) → IsForeignAt T rows a → IsForeignAt T rows b → a ≡ b
one_place T rows a b is other = by_order T rows a b is other (nat_lt a b) (nat_lt b a) refl refl

module _ (T : TownRows) (are : IsBook T.book) (rows : List KeptRow) where
  pub one_list : (memories others : List MemoryRows) → AreRowsOf T rows memories → AreRowsOf T rows others → others ≡ memories
  one_list memories others is other =
      let whole = whole_run T are rows memories is in
      (all_read T are rows whole.last memories whole.read whole.end).1 others other

  ended_or_not : (s : Progress) (o : Option (List MemoryRows)) → run T start rows ≡ Some s → ended T s ≡ o
      → ((memories : List MemoryRows) × AreRowsOf T rows memories) ⊎ ((place : ℕ) × IsForeignAt T rows place)
  ended_or_not s None read end = inr (length rows, foreign_end T are rows s read end)
  ended_or_not s (Some memories) read end = inl (memories, (all_read T are rows s memories read end).0)

  read_or_not : (o : Option Progress) → run T start rows ≡ o
      → ((memories : List MemoryRows) × AreRowsOf T rows memories) ⊎ ((place : ℕ) × IsForeignAt T rows place)
  read_or_not None none =
      let stop = unread T start rows none in
      inr (stop.place, foreign_here T are rows stop.place stop.row stop.at stop.within stop.is stop.read stop.none)
  read_or_not (Some s) read = ended_or_not s (ended T s) read refl

  pub fit_or_foreign : ((memories : List MemoryRows) × AreRowsOf T rows memories) ⊎ ((place : ℕ) × IsForeignAt T rows place)
  fit_or_foreign = read_or_not (run T start rows) refl
