-- A partition that sends what it told, span by span.
use Rattle.std.proofs.Common.{◌≡◌, ℕ, zero, suc, ◌+◌, ◌-◌, ◌*◌, ◌<◌, ◌≤◌, ◌⊎◌, inl, inr, Bool, true, false, Some, IfSome, List, [], ◌∷◌, ◌++◌, length, map}
use Rattle.std.proofs.Common.{arith, refl, sym, ◌∙◌, ap, subst, subst₂}
use Rattle.std.proofs.lemmas.List.{map-append, length-map}
use Rattle.events.specs.declared.event.Event.{Event}
use Rattle.event_pipe.specs.{Pieces.label, Pipes.sent, Pipes.free, declared.pieces.Piece.Piece}
use Rattle.traffic.specs.Lists.{below, numbers}
use Rattle.town.specs.declared.day_input.DayInput.{DayInput}
use Rattle.partition.specs.declared.owner.Owner.{Owner}
use Rattle.divided_day.specs.Days.{told_at}
use Rattle.collected_day.{proofs.Told.none_told, proofs.Told.told_more, proofs.Told.numbers_more, specs.Sending.IsSending}
use Rattle.collected_day.specs.{Sending.SendsOn, Sending.IsSendingOf, Spans.told_from, Streams.TellsOf, Streams.span_piece, Streams.pieces_to, Streams.IsNext}
use Rattle.collected_day.specs.declared.{sending.Outgoing.Outgoing, sending.SendingPart.SendingPart, spans.TheConstants.SPAN_SECONDS}
use Rattle.step_core.specs.{Nets.Net, Views.PartView, Views.IsAt}

numbers_count : (k n : ℕ) → length (numbers k n) ≡ n
numbers_count k zero = refl
numbers_count k (suc n) = ap suc (numbers_count (k + 1) n)

-- the pieces of one span more
pub pieces_more : (told : ℕ → ℕ → List Event) (p n : ℕ)
    → pieces_to told p (n + 1) ≡ pieces_to told p n ++ span_piece told p n ∷ []
pieces_more told p n =
    let last : 0 + n ≡ n = omega arith in
    ap (λ ys. record { partition = p; events = [] } ∷ ys)
    (ap (map (span_piece told p)) (numbers_more 0 n ∙ ap (λ j. below n ++ j ∷ []) last)
    ∙ map-append (span_piece told p) (below n) (n ∷ []))

-- the next piece of a ring out of which, or into which, those of n spans came
pub next_allowed : (told : ℕ → ℕ → List Event) (p n : ℕ) (before : List Piece) (x : Piece) → before ≡ pieces_to told p n
    → x ≡ span_piece told p n → IsNext told before x
next_allowed told p n before x is same =
    let count : length (map (span_piece told p) (below n)) ≡ n = length-map (below n) (span_piece told p) ∙ numbers_count 0 n in
    subst (λ (ys : List Piece). IsNext told ys x) (sym is) (same ∙ ap (span_piece told p) (sym count))

pub next_is : (told : ℕ → ℕ → List Event) (p n : ℕ) (before : List Piece) (x : Piece) → before ≡ pieces_to told p n
    → IsNext told before x → x ≡ span_piece told p n
next_is told p n before x is next =
    let count : length (map (span_piece told p) (below n)) ≡ n = length-map (below n) (span_piece told p) ∙ numbers_count 0 n in
    let e : IsNext told (pieces_to told p n) x = subst (λ (ys : List Piece). IsNext told ys x) is next in
    e ∙ ap (span_piece told p) count

-- what was kept, with one second more
told_one_more : (day : DayInput) (owner : Owner) (p b t v : ℕ) (old es : List Event) → b ≤ t → v ≡ t + 1
    → old ≡ told_from day owner p b (t - b) → es ≡ old ++ told_at day owner p t → es ≡ told_from day owner p b (v - b)
told_one_more day owner p b t v old es begun next kept is =
    let here : b + (t - b) ≡ t = omega arith in
    let more : (t - b) + 1 ≡ v - b = omega arith in
    is ∙ ap (λ xs. xs ++ told_at day owner p t) kept
    ∙ ap (λ m. told_from day owner p b (t - b) ++ told_at day owner p m) (sym here)
    ∙ sym (told_more day owner p b (t - b)) ∙ ap (told_from day owner p b) more

-- a span that is over is as long as it is to be
length_is : (end b t v : ℕ) → b ≤ t → t < b + SPAN_SECONDS → v ≡ t + 1 → v ≤ end
    → (SPAN_SECONDS ≤ v - b) ⊎ (end ≤ v) → v - b ≡ SPAN_SECONDS - (SPAN_SECONDS - (end - b))
length_is end b t v begun early next within (inl full) = omega arith
length_is end b t v begun early next within (inr over) = omega arith

module _ {S : Type 0} (told : ℕ → ℕ → List Event) (day : DayInput) (owner : Owner) (end p t v : ℕ) (x : Outgoing S)
    (h : IsSending told day owner end p t x) (early : t < end) (next : v ≡ t + 1) where
  -- of the span in which the partition is more is kept
  pub keeps : (y : Outgoing S) → y.sender ≡ x.sender → y.partition ≡ x.partition → y.done ≡ x.done + 1 → y.began ≡ x.began
      → y.kept.items ≡ x.kept.items ++ told_at day owner p t → y.done - y.began < SPAN_SECONDS
      → y.done < end → IsSending told day owner end p v y
  keeps y sender partition done began kept more before =
      let at = h.seconds in
      let first = h.begins early in
      let begun = h.begun early in
      record {
        tells = h.tells;
        number = partition ∙ h.number;
        seconds = omega arith;
        spans = h.spans;
        sent = ap sent sender ∙ h.sent;
        room = subst (λ s. end ≤ (h.spans + free s) * SPAN_SECONDS) (sym sender) h.room;
        begins = λ lt. began ∙ first;
        begun = λ lt. omega arith;
        early = λ lt. omega arith;
        kept = λ lt. told_one_more day owner p (h.spans * SPAN_SECONDS) t v x.kept.items y.kept.items begun next (h.kept early) kept;
        ended = λ over. absurd (omega arith);
      }

  pub over_is : (SPAN_SECONDS ≤ (x.done + 1) - x.began) ⊎ (end ≤ x.done + 1)
      → (SPAN_SECONDS ≤ v - h.spans * SPAN_SECONDS) ⊎ (end ≤ v)
  over_is (inl full) = let at = h.seconds in let first = h.begins early in inl (omega arith)
  over_is (inr all) = let at = h.seconds in inr (omega arith)

  -- it is over: all that was kept of it is what is told of it
  pub whole_span : (es : List Event) → v ≤ end → es ≡ x.kept.items ++ told_at day owner p t
      → (SPAN_SECONDS ≤ v - h.spans * SPAN_SECONDS) ⊎ (end ≤ v) → es ≡ told p h.spans
  whole_span es within kept over =
      let b = h.spans * SPAN_SECONDS in
      told_one_more day owner p b t v x.kept.items es (h.begun early) next (h.kept early) kept
      ∙ ap (told_from day owner p b) (length_is end b t v (h.begun early) (h.early early) next within over)
      ∙ sym (h.tells h.spans)

  pub is_allowed : (es : List Event) (piece : Piece) → v ≤ end → es ≡ x.kept.items ++ told_at day owner p t
      → (SPAN_SECONDS ≤ v - h.spans * SPAN_SECONDS) ⊎ (end ≤ v) → piece ≡ record { partition = x.partition; events = es }
      → IsNext told (sent x.sender) piece
  is_allowed es piece within kept over is =
      next_allowed told p h.spans (sent x.sender) piece h.sent
      (is ∙ ap (λ q. record { partition = q; events = es }) h.number
      ∙ ap (λ l. record { partition = p; events = l }) (whole_span es within kept over))

  -- once it was sent the next span begins
  pub goes_over : (es : List Event) (piece : Piece) (y : Outgoing S) → v ≤ end → es ≡ x.kept.items ++ told_at day owner p t
      → (SPAN_SECONDS ≤ v - h.spans * SPAN_SECONDS) ⊎ (end ≤ v) → piece ≡ record { partition = x.partition; events = es }
      → sent y.sender ≡ sent x.sender ++ piece ∷ [] → free x.sender ≤ free y.sender + 1 → y.partition ≡ x.partition
      → y.done ≡ x.done + 1 → y.began ≡ y.done → y.kept.items ≡ [] → IsSending told day owner end p v y
  goes_over es piece y within kept over is gone places partition done began none =
      let at = h.seconds in
      let b = h.spans * SPAN_SECONDS in
      let begun = h.begun early in
      let inside = h.early early in
      let room = h.room in
      let full : v < end → v ≡ (h.spans + 1) * SPAN_SECONDS =
      λ lt. elim over [ inl f ↦ omega arith | inr g ↦ absurd (omega arith) ] in
      let same : piece ≡ span_piece told p h.spans =
      is ∙ ap (λ q. record { partition = q; events = es }) h.number
      ∙ ap (λ l. record { partition = p; events = l }) (whole_span es within kept over) in
      record {
        tells = h.tells;
        number = partition ∙ h.number;
        seconds = omega arith;
        spans = h.spans + 1;
        sent = gone ∙ ap (λ l. l ++ piece ∷ []) h.sent ∙ ap (λ z. pieces_to told p h.spans ++ z ∷ []) same
            ∙ sym (pieces_more told p h.spans);
        room = omega arith;
        begins = λ lt. (let f = full lt in omega arith);
        begun = λ lt. (let f = full lt in omega arith);
        early = λ lt. (let f = full lt in omega arith);
        kept = λ lt.
            let f = full lt in
            let zero_long : v - (h.spans + 1) * SPAN_SECONDS ≡ 0 = omega arith in
            none ∙ sym (none_told day owner p ((h.spans + 1) * SPAN_SECONDS))
            ∙ ap (told_from day owner p ((h.spans + 1) * SPAN_SECONDS)) (sym zero_long);
        ended = λ over. omega arith;
      }

-- a partition before its first second has sent the label alone
pub first_sending : {S : Type 0} (told : ℕ → ℕ → List Event) (day : DayInput) (owner : Owner) (end p q t : ℕ) (x : Outgoing S)
    → TellsOf told day owner end → q ≡ p → t ≡ 0 → x.partition ≡ p → x.done ≡ 0 → x.began ≡ 0 → x.kept.items ≡ []
    → sent x.sender ≡ label p ∷ [] → end ≤ free x.sender * SPAN_SECONDS → IsSending told day owner end q t x
first_sending told day owner end p q t x tells named zero_done partition done began none first room =
    subst₂ (λ (a b : ℕ). IsSending told day owner end a b x) (sym named) (sym zero_done) (record {
      tells = tells p;
      number = partition;
      seconds = done;
      spans = 0;
      sent = first;
      room = omega (arith, room);
      begins = λ lt. began;
      begun = λ lt. omega arith;
      early = λ lt. omega arith;
      kept = λ lt. none ∙ sym (none_told day owner p 0);
      ended = λ over. omega arith;
    })

-- it stands for what it holds, and sends
pub started : {S T R P : Type 0} (told : ℕ → ℕ → List Event) (day : R → DayInput) (owner : R → Owner) (streams : R → Bool)
    (net : R → Net) (see : T → PartView P) (stands : R → T → Type 0) (nothing : P) (run : R) (n degree : ℕ)
    (x : SendingPart S T R P) (o : Outgoing S) → x.outgoing ≡ Some o → x.spent ≡ false
    → IsAt nothing see (stands run) n 0 degree x.part → streams run ≡ true → n < (net run).parts
    → IsSending told (day run) (owner run) (net run).end (see x.part).number (see x.part).seconds o
    → IsAt nothing (λ (y : SendingPart S T R P). see y.part) (IsSendingOf told day owner streams net see stands run) n 0 degree x
started told day owner streams net see stands nothing run n degree x o is whole at goes inside sending =
    let number = at.number in
    record {
      number = at.number;
      seconds = at.seconds;
      holds = record {
        part = at.holds;
        outgoing = subst
            (λ z. IfSome z (SendsOn told (day run) (owner run) (streams run) (net run) (see x.part).number (see x.part).seconds))
            (sym is) (record { goes = goes; there = omega (arith, number, inside); sending = sending });
        whole = whole;
      };
      empty = at.empty;
      gone = at.gone;
    }
