-- Partitions that have all done as many seconds, one by one.
use Rattle.std.proofs.Common.{◌≡◌, ℕ, suc, ◌+◌, ◌-◌, ◌<◌, ◌≤◌, Bool, true, false, true≢false, List, [], ◌∷◌, ◌++◌, arith, refl, sym, ◌∙◌, ap, subst, subst₂}
use Rattle.std.proofs.{Common.map, Common.length, Common.get_or, Common.if◌then◌else◌, lemmas.List.map-append}
use Rattle.events.specs.declared.event.Event.{Event}
use Rattle.traffic.specs.Lists.{below, numbers}
use Rattle.partition.specs.declared.owner.Owner.{Owner}
use Rattle.town.specs.declared.day_input.DayInput.{DayInput}
use Rattle.step_core.{proofs.Together.each_at, specs.Cores.IsCore, specs.Cores.AreRound}
use Rattle.step_core.specs.{Nets.Net, Views.PartView, Views.HasDone, Views.IsAt, Views.EachAt, declared.part.Border.Border, declared.wheel.Wheel.Wheel}
use Rattle.divided_day.specs.Days.{told_at, end_told_in}
use Rattle.streamed_day.specs.Telling.{told_last, told_at_end, AllCanTell, IsAtEnd, AllAreAtEnd, IsCoreAt}

-- a list, and what its places give by number
mapped : {T X : Type 0} (f : T → X) (g : ℕ → X) (xs : List T) (k : ℕ)
    → ((i : ℕ) (d : T) → i < length xs → f (get_or xs i d) ≡ g (k + i)) → map f xs ≡ map g (numbers k (length xs))
mapped f g [] k h = refl
mapped f g (x ∷ xs) k h =
    let here : k + 0 ≡ k = omega arith in
    let first : f x ≡ g k = h 0 x (omega arith) ∙ ap g here in
    ap (λ y. y ∷ map f xs) first
    ∙ ap (λ ys. g k ∷ ys) (mapped f g xs (k + 1) (λ i d lt.
    let e : k + suc i ≡ (k + 1) + i = omega arith in
    h (suc i) d (omega arith) ∙ ap g e))

module _ {T P : Type 0} (nothing : P) (N : Net) (borders : ℕ → List Border) (see : T → PartView P) (stands : T → Type 0) (t : ℕ)
    (parts : List T)
    (many : length parts ≡ N.parts) (each : EachAt nothing see stands t (λ p. length (borders p)) N.parts parts) where
  there : (k : ℕ) (d : T) → k < length parts → IsAt nothing see stands k t (length (borders k)) (get_or parts k d)
  there k d lt = each k d (omega arith)

  inside : (k : ℕ) (d : T) → k < length parts → (see (get_or parts k d)).number < N.parts
  inside k d lt = let n = (there k d lt).number in omega arith

  pub can_tell : 0 < t → AllCanTell nothing N borders see stands parts
  can_tell some k d lt =
      let x : T = get_or parts k d in
      let at = there k d lt in
      record {
        there = inside k d lt;
        some = let s = at.seconds in omega arith;
        at = subst₂ (λ (p s : ℕ). HasDone nothing see stands p s (length (borders p)) x) (sym at.number) (sym at.seconds)
            (record { number = at.number; seconds = at.seconds; holds = at.holds; empty = at.empty; places = at.gone.many });
      }

  pub are_at_end : t ≡ N.end → AllAreAtEnd nothing N borders see stands parts
  are_at_end end k d lt = let at = there k d lt in record {
    there = inside k d lt;
    at = subst₂ (λ (p s : ℕ). IsAt nothing see stands p s (length (borders p)) (get_or parts k d)) (sym at.number) end at;
  }

  pub told_last_is : (day : DayInput) (owner : Owner) (second : ℕ) → t ≡ second + 1
      → map (λ x. told_last day owner (see x)) parts ≡ map (λ p. told_at day owner p second) (below N.parts)
  told_last_is day owner second e =
      mapped (λ x. told_last day owner (see x)) (λ p. told_at day owner p second) parts 0 (λ i d lt.
      let at = there i d lt in
      let number : (see (get_or parts i d)).number ≡ 0 + i = (let n = at.number in omega arith) in
      let last : (see (get_or parts i d)).seconds - 1 ≡ second = (let s = at.seconds in omega arith) in
      ap (λ p. told_at day owner p ((see (get_or parts i d)).seconds - 1)) number ∙ ap (told_at day owner (0 + i)) last)
      ∙ ap (λ m. map (λ p. told_at day owner p second) (below m)) many

  pub told_at_end_is : (day : DayInput) (owner : Owner)
      → map (λ x. told_at_end day owner (see x)) parts ≡ map (end_told_in day owner) (below N.parts)
  told_at_end_is day owner =
      mapped (λ x. told_at_end day owner (see x)) (end_told_in day owner) parts 0 (λ i d lt.
      let at = there i d lt in
      let number : (see (get_or parts i d)).number ≡ 0 + i = (let n = at.number in omega arith) in
      ap (end_told_in day owner) number)
      ∙ ap (λ m. map (end_told_in day owner) (below m)) many

-- those of a core that runs
module _ {T P : Type 0} (nothing : P) (N : Net) (borders : ℕ → List Border) (see : T → PartView P) (stands spent : T → Type 0)
    (right : ℕ → ℕ → ℕ → P → Type 0) (t : ℕ) (done : List ℕ) (stopped : List Bool) (tables : List (List Border)) (parts : List T)
    (wheels : List (Wheel P)) (h : IsCoreAt nothing N borders see stands spent right t done stopped tables parts wheels) where
  pub running_each : EachAt nothing see stands t (λ p. length (borders p)) N.parts parts
  running_each = each_at nothing N borders see stands spent right done stopped tables parts wheels t h.core h.all

-- all have had their turn
pub all_ran : {T P : Type 0} (nothing : P) (N : Net) (borders : ℕ → List Border) (see : T → PartView P) (stands spent : T → Type 0)
    (right : ℕ → ℕ → ℕ → P → Type 0) (t number : ℕ) (done : List ℕ) (stopped : List Bool) (tables : List (List Border)) (parts : List T)
    (wheels : List (Wheel P)) → IsCore nothing N borders see stands spent right done stopped tables parts wheels
    → AreRound (λ p. p) N.parts number t done stopped → N.parts ≤ number → t < N.end
    → IsCoreAt nothing N borders see stands spent right (t + 1) done stopped tables parts wheels
all_ran nothing N borders see stands spent right t number done stopped tables parts wheels core round over early = record {
  core = core;
  all = record { all = λ p lt. round.before p (omega arith); goes = round.goes };
  within = omega arith;
}

-- ONE BY ONE
pub end_there : {T P : Type 0} (nothing : P) (N : Net) (borders : ℕ → List Border) (see : T → PartView P) (stands : T → Type 0)
    (parts : List T)
    (k : ℕ) (x : T) → AllAreAtEnd nothing N borders see stands parts → k < length parts → x ≡ get_or parts k x → IsAtEnd nothing N borders
    see stands x
end_there {T} nothing N borders see stands parts k x all lt is = subst (λ (y : T). IsAtEnd nothing N borders see stands y) (sym is)
    (all k x lt)

-- a list more
pub lists_more : {T X : Type 0} (f : T → X) (lists new : List X) (seen : List T) (x : T) (y : X) → lists ≡ map f seen
    → new ≡ lists ++ y ∷ [] → y ≡ f x → new ≡ map f (seen ++ x ∷ [])
lists_more f lists new seen x y before is e =
    is ∙ ap (λ ys. ys ++ y ∷ []) before ∙ ap (λ z. map f seen ++ z ∷ []) e ∙ sym (map-append f seen (x ∷ []))

-- what is told at the end where what came before was taken
pub rest_at_end : {X : Type 0} (streams : Bool) (end all x : X) → streams ≡ true → x ≡ (if streams then end else all) → x ≡ end
rest_at_end true end all x streams is = is
rest_at_end false end all x streams is = absurd (true≢false (sym streams))

-- OUT OF A CORE
module _ {T P : Type 0} (nothing : P) (N : Net) (borders : ℕ → List Border) (see : T → PartView P) (stands : T → Type 0)
    (parts seen : List T)
    (same : seen ≡ parts) (many : length parts ≡ N.parts) where
  pub round_can_tell : (second : ℕ) → EachAt nothing see stands (second + 1) (λ p. length (borders p)) N.parts parts
      → AllCanTell nothing N borders see stands seen
  round_can_tell second each =
      subst (λ (l : List T). AllCanTell nothing N borders see stands l) (sym same)
      (can_tell nothing N borders see stands (second + 1) parts many each (omega arith))

  pub round_told : (second : ℕ) → EachAt nothing see stands (second + 1) (λ p. length (borders p)) N.parts parts → (day : DayInput)
      (owner : Owner)
      (lists : List (List Event)) → lists ≡ map (λ x. told_last day owner (see x)) seen
      → lists ≡ map (λ p. told_at day owner p second) (below N.parts)
  round_told second each day owner lists is =
      is ∙ ap (map (λ x. told_last day owner (see x))) same
      ∙ told_last_is nothing N borders see stands (second + 1) parts many each day owner second refl

  pub all_at_end : EachAt nothing see stands N.end (λ p. length (borders p)) N.parts parts → AllAreAtEnd nothing N borders see stands seen
  all_at_end each =
      subst (λ (l : List T). AllAreAtEnd nothing N borders see stands l) (sym same)
      (are_at_end nothing N borders see stands N.end parts many each refl)

  pub end_told : EachAt nothing see stands N.end (λ p. length (borders p)) N.parts parts → (day : DayInput) (owner : Owner)
      (lists : List (List Event)) → lists ≡ map (λ x. told_at_end day owner (see x)) seen
      → lists ≡ map (end_told_in day owner) (below N.parts)
  end_told each day owner lists is =
      is ∙ ap (map (λ x. told_at_end day owner (see x))) same ∙ told_at_end_is nothing N borders see stands N.end parts many each day owner

again : {T X : Type 0} (f : T → X) (xs : List T) → map f xs ≡ map f (map (λ x. x) xs)
again f [] = refl
again f (x ∷ xs) = ap (λ ys. f x ∷ ys) (again f xs)

pub all_mapped : {T X : Type 0} (f : T → X) (xs ys : List T) → map (λ x. x) xs ≡ ys → map f xs ≡ map f ys
all_mapped f xs ys e = again f xs ∙ ap (map f) e
