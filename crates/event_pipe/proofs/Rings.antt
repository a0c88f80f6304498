-- Rings of which one was looked at, and rings out of which one item was taken.
use Rattle.std.proofs.Common.{◌≡◌, ◌≢◌, ℕ, zero, suc, ◌+◌, ◌<◌, List, [], ◌∷◌, ◌++◌, length, get_or, set, map, refl, sym, ap, subst, ◌∙◌, inl, inr, arith}
use Rattle.std.{proofs.Common.append-nil, proofs.Common.append_assoc, proofs.Math.Seq.take-append_seam, specs.Prelude.take, specs.Prelude.drop}
use mathlib.Core.List.{IsPrefix}
use Rattle.std.proofs.lemmas.Bool.{cases_eq}
use Rattle.std.proofs.lemmas.List.{get_or_default, get_or-set_same, get_or-set_other, length-set, length-map, get_or-map, map-set, map-append}
use Rattle.rtrb.specs.{Ring.received, Ring.known_items, Ring.IsPair, Ring.SameConsumer, Ring.ConsumerLooked, declared.consumer.Consumer.Consumer}
use Rattle.event_pipe.specs.Rings.{popped, waiting, next_pieces, KeepEnds, AreLooked, AllWait, IsFirstShort, IsTaken, AreTaken}

prefix_itself : {X : Type 0} (xs : List X) → IsPrefix xs xs
prefix_itself xs = ([], append-nil xs)

pub prefix_on : {X : Type 0} (xs ys zs : List X) → IsPrefix xs ys → IsPrefix ys zs → IsPrefix xs zs
prefix_on xs ys zs h g = (h.0 ++ g.0, sym (append_assoc xs h.0 g.0) ∙ ap (λ l. l ++ g.0) h.1 ∙ g.1)

pub prefix_of_none : {X : Type 0} (xs : List X) → IsPrefix xs [] → xs ≡ []
prefix_of_none [] h = refl
prefix_of_none (x ∷ xs) h = absurd (let e = h.1 in cc)

none_long : {X : Type 0} (xs : List X) → length xs ≡ 0 → xs ≡ []
none_long [] e = refl
none_long (x ∷ xs) e = absurd (omega (arith, e))

-- the next of a list that is not empty
next_of : {X : Type 0} (xs : List X) → 0 < length xs → (x : X) × (rest : List X) × (xs ≡ x ∷ rest)
next_of [] b = absurd (omega (arith, b))
next_of (x ∷ xs) b = (x, xs, refl)

-- a vector whose items were written over has the new ones
pub written_over : {X : Type 0} (before after : List X) (n : ℕ) → n ≡ length before → length after ≡ length before
    → take n (after ++ drop (length after) before) ≡ after
written_over before after n e f = ap (λ m. take m (after ++ drop (length after) before)) (e ∙ sym f)
    ∙ take-append_seam after (drop (length after) before)

-- one more of a list
take_more : {X : Type 0} (xs : List X) (i : ℕ) (x : X) → i < length xs → get_or xs i x ≡ x → take i xs ++ x ∷ [] ≡ take (i + 1) xs
take_more [] i x b e = absurd (omega (arith, b))
take_more (y ∷ ys) zero x b e = ap (λ z. z ∷ []) (sym e)
take_more (y ∷ ys) (suc i) x b e =
    let s : suc i + 1 ≡ suc (i + 1) = omega arith in
    ap (λ l. y ∷ l) (take_more ys i x (omega (arith, b)) e) ∙ sym (ap (λ n. take n (y ∷ ys)) s)

-- all of a list
pub take_whole : {X : Type 0} (xs : List X) (n : ℕ) → n ≡ length xs → take n xs ≡ xs
take_whole [] zero e = refl
take_whole [] (suc n) e = refl
take_whole (y ∷ ys) zero e = absurd (omega (arith, e))
take_whole (y ∷ ys) (suc n) e = ap (λ l. y ∷ l) (take_whole ys n (omega (arith, e)))

module _ {T A P : Type 0} where
  -- what stands at a place after an item of a list was replaced
  pub at_place : {Y : Type 0} (f : Consumer T A P → Y) (rings : List (Consumer T A P)) (i : ℕ) (after : Consumer T A P) (e : Y)
      → i < length rings
      → get_or (map f (set rings i after)) i e ≡ f after
  at_place f rings i after e b = ap (λ l. get_or l i e) (map-set f rings i after)
      ∙ get_or-set_same (map f rings) i (f after) e (let n = length-map rings f in omega (arith, n, b))

  at_others : {Y : Type 0} (f : Consumer T A P → Y) (rings : List (Consumer T A P)) (i p : ℕ) (after : Consumer T A P) (e : Y)
      → p ≢ i
      → get_or (map f (set rings i after)) p e ≡ get_or (map f rings) p e
  at_others f rings i p after e n = ap (λ l. get_or l p e) (map-set f rings i after) ∙ get_or-set_other (map f rings) i p (f after) e n

  read_at : {Y : Type 0} (f : Consumer T A P → Y) (rings : List (Consumer T A P)) (i : ℕ) (before : Consumer T A P) (e : Y)
      → i < length rings
      → get_or rings i before ≡ before → get_or (map f rings) i e ≡ f before
  read_at f rings i before e b is = get_or-map f rings i before e b ∙ ap f is

  -- the ends of the rings stay where the ring at one place is replaced by the same one
  ends_set : (rings : List (Consumer T A P)) (i : ℕ) (before after : Consumer T A P) → i < length rings
      → ((d : Consumer T A P) → get_or rings i d ≡ before)
      → SameConsumer before after → KeepEnds rings (set rings i after)
  ends_set rings i before after b is same p producer h = (
    let n = length-set rings i after in omega (arith, n, h.0),
    λ d. elim (cases_eq p i) [
      | inl e ↦
          let own : IsPair producer before = subst (λ c. IsPair producer c) (ap (λ q. get_or rings q d) e ∙ is d) (h.1 d) in
          let now : IsPair producer after = (same.0.0 ∙ own.0, same.0.1 ∙ own.1, same.0.2 ∙ own.2, same.0.3 ∙ own.3) in
          subst (λ c. IsPair producer c) (sym (ap (λ q. get_or (set rings i after) q d) e ∙ get_or-set_same rings i after d b)) now
      | inr n ↦ subst (λ c. IsPair producer c) (sym (get_or-set_other rings i p after d n)) (h.1 d)
    ],
  )

  pub looked_start : (rings : List (Consumer T A P)) → AreLooked rings rings
  looked_start rings = record { count = refl; ends = λ p producer h. h; same = λ p. refl; more = λ p. prefix_itself (waiting rings p) }

  pub looked_set : (first rings : List (Consumer T A P)) (i : ℕ) (before after : Consumer T A P) → AreLooked first rings
      → i < length rings
      → before ≡ get_or rings i before → ConsumerLooked before after → AreLooked first (set rings i after)
  looked_set first rings i before after h b is looked = record {
    count = length-set rings i after ∙ h.count;
    ends = λ p producer e. ends_set rings i before after b (λ d. get_or_default rings i d before b ∙ sym is) looked.0 p producer
        (h.ends p producer e);
    same = λ p. elim (cases_eq p i) [
      | inl e ↦
          subst (λ q. popped (set rings i after) q ≡ popped first q) (sym e)
          (at_place received rings i after [] b ∙ looked.1 ∙ sym (read_at received rings i before [] b (sym is)) ∙ h.same i)
      | inr n ↦ at_others received rings i p after [] n ∙ h.same p
    ];
    more = λ p. elim (cases_eq p i) [
      | inl e ↦
          subst (λ q. IsPrefix (waiting first q) (waiting (set rings i after) q)) (sym e)
          (prefix_on (waiting first i) (waiting rings i) (waiting (set rings i after) i) (h.more i) (
          subst (λ l. IsPrefix l (waiting (set rings i after) i)) (sym (read_at known_items rings i before [] b (sym is)))
          (subst (λ l. IsPrefix (known_items before) l) (sym (at_place known_items rings i after [] b)) looked.2)))
      | inr n ↦ subst (λ l. IsPrefix (waiting first p) l) (sym (at_others known_items rings i p after [] n)) (h.more p)
    ];
  }

  -- something waits in one ring more
  pub waits_set : (rings : List (Consumer T A P)) (i : ℕ) (after : Consumer T A P) → i < length rings
      → ((q : ℕ) → q < i → 0 < length (waiting rings q))
      → 0 < length (known_items after) → (q : ℕ) → q < i + 1 → 0 < length (waiting (set rings i after) q)
  waits_set rings i after b h own q c = elim (cases_eq q i) [
    | inl e ↦ subst (λ n. 0 < length (waiting (set rings i after) n)) (sym e)
        (subst (λ l. 0 < length l) (sym (at_place known_items rings i after [] b)) own)
    | inr n ↦ subst (λ l. 0 < length l) (sym (at_others known_items rings i q after [] n)) (h q (omega (arith, c, n)))
  ]

  -- the ring that was looked at last is the first in which nothing waits
  pub short_set : (rings : List (Consumer T A P)) (i : ℕ) (after : Consumer T A P) → i < length rings
      → ((q : ℕ) → q < i → 0 < length (waiting rings q))
      → length (known_items after) ≡ 0 → IsFirstShort (set rings i after) i
  short_set rings i after b h none = record {
    is_ring = let n = length-set rings i after in omega (arith, n, b);
    short = at_place known_items rings i after [] b ∙ none_long (known_items after) none;
    first = λ q c. subst (λ l. 0 < length l) (sym (at_others known_items rings i q after [] (λ e. absurd (omega (arith, c, e)))))
        (h q c);
  }

  pub taken_set : (allows : List T → T → Type 0) (first rings : List (Consumer T A P)) (i : ℕ) (before after : Consumer T A P) (x : T)
      → AreTaken allows i first rings → i < length rings
      → before ≡ get_or rings i before → SameConsumer before after → received after ≡ received before ++ x ∷ []
      → known_items before ≡ x ∷ known_items after → allows (received before) x → AreTaken allows (i + 1) first (set rings i after)
  taken_set allows first rings i before after x h b is kept gave left may = record {
    count = length-set rings i after ∙ h.count;
    ends = λ p producer e. ends_set rings i before after b (λ d. get_or_default rings i d before b ∙ sym is) kept p producer
        (h.ends p producer e);
    taken = λ p c. elim (cases_eq p i) [
      | inl e ↦
          subst (λ q. IsTaken allows first (set rings i after) q) (sym e) (
            x,
            at_place received rings i after [] b ∙ gave
                ∙ ap (λ l. l ++ x ∷ []) (sym (read_at received rings i before [] b (sym is)) ∙ h.same i (omega arith)),
            sym (h.rest i (omega arith)) ∙ read_at known_items rings i before [] b (sym is) ∙ left
                ∙ ap (λ l. x ∷ l) (sym (at_place known_items rings i after [] b)),
            subst (λ l. allows l x) (sym (read_at received rings i before [] b (sym is)) ∙ h.same i (omega arith)) may,
          )
      | inr n ↦
          let t : IsTaken allows first rings p = h.taken p (omega (arith, c, n)) in (
            t.0,
            at_others received rings i p after [] n ∙ t.1,
            t.2
                ∙ ap (λ l. t.0 ∷ l) (sym (at_others known_items rings i p after [] n)),
            t.3,
          )
    ];
    same = λ p c. at_others received rings i p after [] (λ e. absurd (omega (arith, c, e))) ∙ h.same p (omega (arith, c));
    rest = λ p c. at_others known_items rings i p after [] (λ e. absurd (omega (arith, c, e))) ∙ h.rest p (omega (arith, c));
  }

  -- what is to be taken out of a ring that was left as it was is what was to be taken out of it at first
  pub taken_next : (allows : List T → T → Type 0) (first rings : List (Consumer T A P)) (i : ℕ) (before : Consumer T A P) (rest : List T)
      (x : T)
      → AreTaken allows i first rings → i < length rings → before ≡ get_or rings i before → known_items before ≡ x ∷ rest
      → waiting first i ≡ x ∷ rest
  taken_next allows first rings i before rest x h b is left =
      sym (h.rest i (omega arith)) ∙ read_at known_items rings i before [] b (sym is) ∙ left

  all_wait_rest : (ring : Consumer T A P) (rings : List (Consumer T A P)) → AllWait (ring ∷ rings) → AllWait rings
  all_wait_rest ring rings h p b = h (suc p) (omega (arith, b))

  pub next_count : (rings : List (Consumer T A P)) → AllWait rings → length (next_pieces rings) ≡ length rings
  next_count [] h = refl
  next_count (ring ∷ rings) h =
      let own = next_of (known_items ring) (h 0 (omega arith)) in
      let e : next_pieces (ring ∷ rings) ≡ own.0 ∷ next_pieces rings = ap (λ l. take 1 l ++ next_pieces rings) own.2 in
      ap length e ∙ ap suc (next_count rings (all_wait_rest ring rings h))

  pub next_at : (rings : List (Consumer T A P)) → AllWait rings → (p : ℕ) (d x : T) (rest : List T) → p < length rings
      → waiting rings p ≡ x ∷ rest
      → get_or (next_pieces rings) p d ≡ x
  next_at [] h p d x rest b e = absurd (omega (arith, b))
  next_at (ring ∷ rings) h zero d x rest b e = ap (λ l. get_or (take 1 l ++ next_pieces rings) 0 d) e
  next_at (ring ∷ rings) h (suc p) d x rest b e =
      let own = next_of (known_items ring) (h 0 (omega arith)) in
      let s : next_pieces (ring ∷ rings) ≡ own.0 ∷ next_pieces rings = ap (λ l. take 1 l ++ next_pieces rings) own.2 in
      ap (λ l. get_or l (suc p) d) s ∙ next_at rings (all_wait_rest ring rings h) p d x rest (omega (arith, b)) e

  -- the next of the rings up to one more
  pub next_more : {Y : Type 0} (f : T → Y) (rings : List (Consumer T A P)) → AllWait rings → (i : ℕ) (x : T) (rest : List T)
      → i < length rings → waiting rings i ≡ x ∷ rest
      → map f (take i (next_pieces rings)) ++ f x ∷ [] ≡ map f (take (i + 1) (next_pieces rings))
  next_more f rings h i x rest b e =
      let n = next_count rings h in
      sym (map-append f (take i (next_pieces rings)) (x ∷ []))
      ∙ ap (map f) (take_more (next_pieces rings) i x (omega (arith, n, b)) (next_at rings h i x x rest b e))
