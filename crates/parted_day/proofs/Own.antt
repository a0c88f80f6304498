-- The links of a partition, by the lists of its run.
use Rattle.traffic.proofs.Common.{◌≡◌, ℕ, ◌<◌, Bool, true, List, subst, sym, ◌∙◌, arith, length, filter, Setup, below}
use Rattle.traffic.proofs.Each.{each_kept, each_number}
use Rattle.std.{proofs.lemmas.List.get_or_default, specs.List.Contains, specs.List.AllByRecursion as Each}
use Rattle.calendar.specs.Due.{AreIn}
use Rattle.parts.specs.Owners.{Owner}
use Rattle.divided_day.specs.Slots.{my_starts}
use Rattle.part_places.specs.Taking.{begins_here}
use Rattle.part_seconds.proofs.Slots.{passed_at}

-- those of all links that pass a test are links
pub are_links : (pass : ℕ → Bool) (m n : ℕ) (numbers : List ℕ) → numbers ≡ filter pass (below m) → m ≡ n → AreIn n numbers
are_links pass m n numbers e same =
    let P : ℕ → Type 0 = λ l. l < n in
    subst (λ (ls : List ℕ). Each P ls) (sym e) (each_kept P pass (below m) (each_number n 0 m (omega arith)))

-- each link that begins in p is among those that do
pub begins_among : (S : Setup) (own : Owner) (p : ℕ) (numbers : List ℕ) → numbers ≡ my_starts S own p
    → (m : ℕ) → m < length S.links → begins_here S own p m ≡ true → Contains numbers m
begins_among S own p numbers e m lt here =
    let starts = my_starts S own p in
    let s = passed_at (begins_here S own p) m 0 (length S.links) (omega arith) (omega arith) here in
    subst (λ (ls : List ℕ). Contains ls m) (sym e) (s.0, s.1.0, get_or_default starts s.0 m 0 s.1.0 ∙ s.1.1)
