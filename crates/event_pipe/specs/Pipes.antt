-- The two ends of a pipe.
use Rattle.std.specs.Prelude.{◌≡◌, ℕ, ◌+◌, ◌<◌, ◌≤◌, List, [], ◌∷◌, ◌++◌, length, map, get_or}
use mathlib.Core.List.{IsPrefix}
use Rattle.std.specs.declared.alloc.Global.{Global}
use Rattle.rtrb.specs.Ring.{known_free, producer_capacity, received, known_items, IsPair}
use Rattle.rtrb.specs.declared.{consumer.Consumer.Consumer, producer.Producer.Producer}
use Rattle.rtrb.specs.Ring as ring
use Rattle.event_pipe.specs.{Pieces.events_of, Pieces.label, Rings.popped, Rings.waiting, Rings.IsEndOf, Tallies.count_of}
use Rattle.event_pipe.specs.declared.gathering.{Gather.Gather, Gathered.Gathered, Gathered.TheVariants.Pieces, Gathered.TheVariants.Short}
use Rattle.event_pipe.specs.declared.pieces.Piece.{Piece}
use Rattle.event_pipe.specs.declared.senders.{Offer.Offer, Offer.TheVariants.Sent, Offer.TheVariants.Full, Sender.Sender}

module _ {P : Type 0} where
  -- THE SENDER
  -- every piece that it sent, the first one first
  abbrev pub sent : Sender P → List Piece
  sent s = ring.sent s.producer

  -- how many places it knows to be free, and how many places there are
  abbrev pub free : Sender P → ℕ
  free s = known_free s.producer

  abbrev pub room : Sender P → ℕ
  room s = producer_capacity s.producer

  -- how often it answered Full, and what that number was when it last answered Sent
  abbrev pub full : Sender P → ℕ
  full s = count_of s.refusals

  abbrev pub full_at_sent : Sender P → ℕ
  full_at_sent s = count_of s.refusals_at_sent.value

  -- a sender that has refused nothing
  pub record IsNewSender (partition : ℕ) (producer : Producer Piece Global P) (s : Sender P) : Type 0 where
    pub end : s.producer ≡ producer
    pub number : s.partition ≡ partition
    pub none_full : full s ≡ 0
    pub none_at_sent : full_at_sent s ≡ 0

  -- a new sender, and the ring into which it pushes, out of which the label was taken
  pub record IsMade (places number : ℕ) (s : Sender P) (c : Consumer Piece Global P) : Type 0 where
    pub partition : s.partition ≡ number
    pub pair : IsPair s.producer c
    pub label_sent : sent s ≡ label number ∷ []
    pub all_free : free s ≡ places
    pub has_room : room s ≡ places
    pub none_full : full s ≡ 0
    pub none_at_sent : full_at_sent s ≡ 0
    pub label_popped : received c ≡ label number ∷ []
    pub none_waits : known_items c ≡ []

  -- THE GATHERER
  -- how many partitions there are
  abbrev pub parts : Gather P → ℕ
  parts g = length g.rings.items

  -- the pieces of partition p that it has gathered, the first one first
  abbrev pub gathered : Gather P → ℕ → List Piece
  gathered g p = popped g.rings.items p

  -- those that it knows and has not gathered
  abbrev pub held : Gather P → ℕ → List Piece
  held g p = waiting g.rings.items p

  -- s is the sender of partition p in the pipe of this gatherer
  abbrev pub IsSenderOf : Gather P → ℕ → Sender P → Type 0
  IsSenderOf g p s = (s.partition ≡ p) × IsEndOf g.rings.items p s.producer

  -- the senders of the pipe are its senders still
  abbrev pub KeepsSenders : Gather P → Gather P → Type 0
  KeepsSenders before after = (p : ℕ) (s : Sender P) → IsSenderOf before p s → IsSenderOf after p s

  -- nothing was gathered; more may be known
  pub record IsAsBefore (before after : Gather P) : Type 0 where
    pub count : parts after ≡ parts before
    pub same : (p : ℕ) → gathered after p ≡ gathered before p
    pub more : (p : ℕ) → IsPrefix (held before p) (held after p)

  -- THE CALLS
  -- it is the sender of the same partition in the same pipe, with the same room
  pub record IsStill (before after : Sender P) : Type 0 where
    pub number : after.partition ≡ before.partition
    pub places : room after ≡ room before
    pub of : (g : Gather P) (p : ℕ) → IsSenderOf g p before → IsSenderOf g p after

  -- what an offer of a piece came to: it was sent behind the others; or it comes back, since no place was known to be free
  abbrev pub Sends : Sender P → Sender P → Piece → Offer → Type 0
  Sends before after piece Sent =
      (sent after ≡ sent before ++ piece ∷ []) × (free before ≤ free after + 1) × (full after ≡ full before)
      × (full_at_sent after ≡ full before)
  Sends before after piece (Full back) =
      (back ≡ piece) × (sent after ≡ sent before) × (free before ≡ 0) × (free after ≡ 0) × (full after ≡ full before + 1)
      × (full_at_sent after ≡ full_at_sent before)

  -- one piece of each partition was gathered, which may follow those that were gathered of it before
  pub record AreGathered (allows : List Piece → Piece → Type 0) (pieces : List Piece) (before after : Gather P) : Type 0 where
    pub count : length pieces ≡ parts before
    pub each : (p : ℕ) (d : Piece) → p < parts before → gathered after p ≡ gathered before p ++ get_or pieces p d ∷ []
    pub were_held : (p : ℕ) (d : Piece) → p < parts before → IsPrefix (held before p) (get_or pieces p d ∷ held after p)
    pub allowed : (p : ℕ) (d : Piece) → p < parts before → allows (gathered before p) (get_or pieces p d)

  -- what gathering came to: the events of one piece of each partition; or one of the partitions is short of its next piece, the least such,
  -- and all is as before
  abbrev pub Gathers : (List Piece → Piece → Type 0) → Gather P → Gather P → Gathered → Type 0
  Gathers allows before after (Pieces lists) =
      (pieces : List Piece) × AreGathered allows pieces before after × (lists.items ≡ map events_of pieces)
  Gathers allows before after (Short p) =
      (p < parts before) × (held before p ≡ []) × (held after p ≡ []) × ((q : ℕ) → q < p → 0 < length (held after q))
      × IsAsBefore before after

  -- who met knows all: what was gathered and what is held is what was sent, and every place that holds no piece is known to be free
  pub record HasMet (g : Gather P) (p : ℕ) (s : Sender P) : Type 0 where
    pub all_sent : gathered g p ++ held g p ≡ sent s
    pub all_free : room s ≤ free s + length (held g p)

  -- nothing was offered in between, and no place that was known to be free is lost
  pub record HasSentNothing (before after : Sender P) : Type 0 where
    pub same : sent after ≡ sent before
    pub places : free before ≤ free after
    pub refused : full after ≡ full before
    pub at_sent : full_at_sent after ≡ full_at_sent before

  -- a new pipe: the senders stand by the numbers of their partitions, of each ring its label was sent and gathered and nothing else, and all
  -- places are known to be free
  pub record IsNewPipe (count places : ℕ) (senders : List (Sender P)) (g : Gather P) : Type 0 where
    pub senders_count : length senders ≡ count
    pub parts_count : parts g ≡ count
    pub own : (p : ℕ) (d : Sender P) → p < count → IsSenderOf g p (get_or senders p d)
    pub label_sent : (p : ℕ) (d : Sender P) → p < count → sent (get_or senders p d) ≡ label p ∷ []
    pub all_free : (p : ℕ) (d : Sender P) → p < count → (free (get_or senders p d) ≡ places) × (room (get_or senders p d) ≡ places)
    pub none_full : (p : ℕ) (d : Sender P) → p < count → (full (get_or senders p d) ≡ 0) × (full_at_sent (get_or senders p d) ≡ 0)
    pub label_gathered : (p : ℕ) → p < count → gathered g p ≡ label p ∷ []
    pub none_held : (p : ℕ) → held g p ≡ []
