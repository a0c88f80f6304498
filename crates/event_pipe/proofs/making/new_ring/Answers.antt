use Rattle.std.proofs.Common.{◌≡◌, ◌<◌, ◌∙◌, [], ◌∷◌, ◌++◌, List, length, sym, ap, arith, subst}
use Rattle.rtrb.specs.Ring.{known_free, known_items, producer_capacity, received, IsPair}
use Rattle.rtrb.specs.Ring as ring
use Rattle.event_pipe.proofs.Made.{only_held, head_of_one, none_held, all_free, pair_kept, same_producer, same_consumer}
use Rattle.event_pipe.specs.{Pieces.label, declared.pieces.Piece.Piece}
use Rattle.event_pipe.proofs.making.new_ring.Goals as goal

pub pop_known-requires : goal.pop_known-requires
pop_known-requires g c =
    let first = c.in_ok-producer.ensures in
    let all = c.know_all.ensures in
    let sent : ring.sent c.know_all.new.producer ≡ label c.args.partition ∷ [] =
    all.producer.1 ∙ c.push_reserved.ensures.sent.0 ∙ ap (λ (l : List Piece). l ++ c.label.result ∷ []) first.producer.0
    ∙ ap (λ (x : Piece). x ∷ []) c.label.ensures in
    let held = only_held (received c.know_all.new.ring) (known_items c.know_all.new.ring) (ring.sent c.know_all.new.producer)
    (label c.args.partition) all.items (all.ring.1 ∙ first.consumer.0) sent in
    subst (λ (l : List Piece). 0 < length l) (sym held) (omega arith)

pub returns : goal.returns
returns g c =
    let first = c.in_ok-producer.ensures in
    let all = c.know_all.ensures in
    let again = c.know_all-2.ensures in
    let pop = c.pop_known.ensures in
    let made = c.new_sender.ensures in
    let x = label c.args.partition in
    let q = c.know_all-2.new.producer in
    let d = c.know_all-2.new.ring in
    let sent : ring.sent c.know_all.new.producer ≡ x ∷ [] =
    all.producer.1 ∙ c.push_reserved.ensures.sent.0 ∙ ap (λ (l : List Piece). l ++ c.label.result ∷ []) first.producer.0
    ∙ ap (λ (y : Piece). y ∷ []) c.label.ensures in
    let none = all.ring.1 ∙ first.consumer.0 in
    let held = only_held (received c.know_all.new.ring) (known_items c.know_all.new.ring) (ring.sent c.know_all.new.producer) x all.items none
    sent in
    let is : c.pop_known.result ≡ x = head_of_one x c.pop_known.result (known_items c.pop_known.new.self) (sym pop.received.1 ∙ held) in
    let popped : received d ≡ x ∷ [] =
    again.ring.1 ∙ pop.received.0 ∙ ap (λ (l : List Piece). l ++ c.pop_known.result ∷ []) none ∙ ap (λ (y : Piece). y ∷ []) is in
    let gone : ring.sent q ≡ x ∷ [] = again.producer.1 ∙ sent in
    let empty : known_items d ≡ [] = none_held (received d) (known_items d) (ring.sent q) x again.items popped gone in
    let room : producer_capacity q ≡ c.args.room =
    again.producer.0.1 ∙ all.producer.0.1 ∙ c.push_reserved.ensures.ring.1 ∙ first.producer.2 in
    record {
      partition = made.number;
      pair = subst (λ p. IsPair p d) (sym made.end)
          (pair_kept c.know_all.new.producer q c.pop_known.new.self d
          (pair_kept c.know_all.new.producer c.know_all.new.producer c.know_all.new.ring c.pop_known.new.self
          (pair_kept c.push_reserved.new.self c.know_all.new.producer c.in_ok-producer.ring c.know_all.new.ring
          (pair_kept c.in_ok-producer.producer c.push_reserved.new.self c.in_ok-producer.ring c.in_ok-producer.ring first.pair
          c.push_reserved.ensures.ring (same_consumer c.in_ok-producer.ring))
          all.producer.0 all.ring.0)
          (same_producer c.know_all.new.producer) pop.ring)
          again.producer.0 again.ring.0);
      label_sent = ap ring.sent made.end ∙ gone;
      all_free = ap known_free made.end
          ∙ all_free c.args.room (known_free q) (producer_capacity q) (length (known_items d)) again.places (ap length empty) room
          (let most = q.counts.2 in omega (arith, most));
      has_room = ap producer_capacity made.end ∙ room;
      none_full = made.none_full;
      none_at_sent = made.none_at_sent;
      label_popped = popped;
      none_waits = empty;
    }
