-- The two ends of a new pipe, ring by ring.
use Rattle.std.proofs.Common.{◌≡◌, ℕ, zero, suc, ◌+◌, ◌<◌, ◌≤◌, List, [], ◌∷◌, ◌++◌, length, get_or, refl, sym, ap, subst, ◌∙◌, arith}
use Rattle.std.specs.declared.alloc.Global.{Global}
use Rattle.rtrb.specs.{Ring.IsPair, Ring.SameProducer, Ring.SameConsumer, declared.consumer.Consumer.Consumer, declared.producer.Producer.Producer}
use Rattle.event_pipe.specs.{Pieces.label, Pipes.IsMade, Pipes.IsNewPipe, Rings.popped, Rings.waiting}
use Rattle.event_pipe.specs.declared.{gathering.Gather.Gather, pieces.Piece.Piece, senders.Sender.Sender}

module _ {P : Type 0} where
  -- senders, numbered from k on, and their rings
  abbrev pub AreMade : ℕ → ℕ → List (Sender P) → List (Consumer Piece Global P) → Type 0
  AreMade places k [] [] = Unit {0}
  AreMade places k (s ∷ ss) (r ∷ rs) = IsMade places k s r × AreMade places (k + 1) ss rs
  AreMade places k [] (r ∷ rs) = ⊥
  AreMade places k (s ∷ ss) [] = ⊥

  pub made_more : (places k m : ℕ) (ss : List (Sender P)) (rs : List (Consumer Piece Global P)) (s : Sender P)
      (r : Consumer Piece Global P) → AreMade places k ss rs
      → k + length ss ≡ m → IsMade places m s r
      → AreMade places k (ss ++ s ∷ []) (rs ++ r ∷ [])
  made_more places k m [] [] s r h e g = (subst (λ n. IsMade places n s r) (omega (arith, e)) g, tt)
  made_more places k m (s' ∷ ss) (r' ∷ rs) s r h e g = (h.0, made_more places (k + 1) m ss rs s r h.1 (omega (arith, e)) g)
  made_more places k m [] (r' ∷ rs) s r h e g = absurd h
  made_more places k m (s' ∷ ss) [] s r h e g = absurd h

  pub made_count : (places k : ℕ) (ss : List (Sender P)) (rs : List (Consumer Piece Global P)) → AreMade places k ss rs
      → length rs ≡ length ss
  made_count places k [] [] h = refl
  made_count places k (s ∷ ss) (r ∷ rs) h = ap suc (made_count places (k + 1) ss rs h.1)
  made_count places k [] (r ∷ rs) h = absurd h
  made_count places k (s ∷ ss) [] h = absurd h

  -- the ring of the sender at a place
  made_at : (places k : ℕ) (ss : List (Sender P)) (rs : List (Consumer Piece Global P)) → AreMade places k ss rs → (p : ℕ) (d : Sender P)
      → p < length ss
      → (r : Consumer Piece Global P) × IsMade places (k + p) (get_or ss p d) r × ((e : Consumer Piece Global P) → get_or rs p e ≡ r)
  made_at places k [] rs h p d b = absurd (omega (arith, b))
  made_at places k (s ∷ ss) [] h p d b = absurd h
  made_at places k (s ∷ ss) (r ∷ rs) h zero d b = (r, subst (λ n. IsMade places n s r) (omega arith) h.0, λ e. refl)
  made_at places k (s ∷ ss) (r ∷ rs) h (suc p) d b =
      let t = made_at places (k + 1) ss rs h.1 p d (omega (arith, b)) in
      (t.0, subst (λ n. IsMade places n (get_or ss p d) t.0) (omega arith) t.1, t.2)

  made_label_popped : (places k : ℕ) (ss : List (Sender P)) (rs : List (Consumer Piece Global P)) → AreMade places k ss rs → (p : ℕ)
      → p < length ss → popped rs p ≡ label (k + p) ∷ []
  made_label_popped places k [] rs h p b = absurd (omega (arith, b))
  made_label_popped places k (s ∷ ss) [] h p b = absurd h
  made_label_popped places k (s ∷ ss) (r ∷ rs) h zero b =
      let e : k ≡ k + 0 = omega arith in h.0.label_popped ∙ ap (λ n. label n ∷ []) e
  made_label_popped places k (s ∷ ss) (r ∷ rs) h (suc p) b =
      let e : (k + 1) + p ≡ k + suc p = omega arith in
      made_label_popped places (k + 1) ss rs h.1 p (omega (arith, b)) ∙ ap (λ n. label n ∷ []) e

  made_none_waits : (places k : ℕ) (ss : List (Sender P)) (rs : List (Consumer Piece Global P)) → AreMade places k ss rs → (p : ℕ)
      → waiting rs p ≡ []
  made_none_waits places k [] [] h p = refl
  made_none_waits places k [] (r ∷ rs) h p = absurd h
  made_none_waits places k (s ∷ ss) [] h p = absurd h
  made_none_waits places k (s ∷ ss) (r ∷ rs) h zero = h.0.none_waits
  made_none_waits places k (s ∷ ss) (r ∷ rs) h (suc p) = made_none_waits places (k + 1) ss rs h.1 p

  pub made_pipe : (count places : ℕ) (senders : List (Sender P)) (g : Gather P) → length senders ≡ count
      → AreMade places 0 senders g.rings.items
      → IsNewPipe count places senders g
  made_pipe count places senders g n h =
      let at = made_at places 0 senders g.rings.items h in
      let long = made_count places 0 senders g.rings.items h in
      record {
        senders_count = n;
        parts_count = long ∙ n;
        own = λ p d b. let t = at p d (omega (arith, n, b)) in (
          t.1.partition ∙ omega arith,
          (omega (arith, long, n, b), λ e. subst (λ r. IsPair (get_or senders p d).producer r) (sym (t.2 e)) t.1.pair),
        );
        label_sent = λ p d b. let t = at p d (omega (arith, n, b)) in
            let e : 0 + p ≡ p = omega arith in t.1.label_sent ∙ ap (λ q. label q ∷ []) e;
        all_free = λ p d b. let t = at p d (omega (arith, n, b)) in (t.1.all_free, t.1.has_room);
        none_full = λ p d b. let t = at p d (omega (arith, n, b)) in (t.1.none_full, t.1.none_at_sent);
        label_gathered = λ p b.
            let e : 0 + p ≡ p = omega arith in
            made_label_popped places 0 senders g.rings.items h p (omega (arith, n, b)) ∙ ap (λ q. label q ∷ []) e;
        none_held = made_none_waits places 0 senders g.rings.items h;
      }

-- AFTER THE LABEL
-- what a ring holds in which one item was sent and nothing popped
pub only_held : {X : Type 0} (popped known sent : List X) (x : X) → popped ++ known ≡ sent → popped ≡ [] → sent ≡ x ∷ []
    → known ≡ x ∷ []
only_held popped known sent x fifo none one = sym (ap (λ l. l ++ known) none) ∙ fifo ∙ one

-- the first of a list of one
pub head_of_one : {X : Type 0} (x y : X) (rest : List X) → y ∷ rest ≡ x ∷ [] → y ≡ x
head_of_one x y rest e = let f : y ∷ rest ≡ x ∷ [] = e in cc

-- nothing is held where all that was sent was popped
pub none_held : {X : Type 0} (popped known sent : List X) (x : X) → popped ++ known ≡ sent → popped ≡ x ∷ [] → sent ≡ x ∷ []
    → known ≡ []
none_held popped known sent x fifo one all =
    let e : x ∷ known ≡ x ∷ [] = sym (ap (λ l. l ++ known) one) ∙ fifo ∙ all in cc

-- all places are free again
pub all_free : (places after room known : ℕ) → room ≤ after + known → known ≡ 0 → room ≡ places → after ≤ room → after ≡ places
all_free places after room known h e is most = omega (arith, h, e, is, most)

-- both ends stay those of one ring
module _ {T A P : Type 0} where
  pub same_producer : (p : Producer T A P) → SameProducer p p
  same_producer p = ((refl, refl, refl, refl), refl)

  pub same_consumer : (c : Consumer T A P) → SameConsumer c c
  same_consumer c = ((refl, refl, refl, refl), refl)

  pub pair_kept : (p q : Producer T A P) (c d : Consumer T A P) → IsPair p c → SameProducer p q → SameConsumer c d → IsPair q d
  pair_kept p q c d pair own other = (
    other.0.0 ∙ pair.0 ∙ sym own.0.0,
    other.0.1 ∙ pair.1 ∙ sym own.0.1,
    other.0.2 ∙ pair.2 ∙ sym own.0.2,
    other.0.3 ∙ pair.3 ∙ sym own.0.3,
  )
