-- Events that are written and handled piece by piece.
use Rattle.std.proofs.Common.{◌≡◌, ℕ, ◌+◌, ◌<◌, ◌≤◌, List, [], ◌++◌, length, get_or, refl, sym, ap, subst, subst₂, ◌∙◌, append_assoc, length-append}
use Rattle.std.proofs.{Common.Ok, Common.Err, Common.arith, Math.ListN.get_or-append}
use Rattle.std.proofs.lemmas.{Grind.flat_map-append, List.get_or-append-add, List.length-map}
use Rattle.std.specs.{Prelude.Option, Prelude.Some, Prelude.IfSome, declared.alloc.Global.Global, declared.vec.Vec.Vec}
use Rattle.edge_files.specs.declared.files.OutFile.TheVariants as out
use Rattle.edge_files.{proofs.Written.writes_nothing, specs.World.Written, specs.World.byte_steps, specs.World.Writes}
use Rattle.events.specs.{Lines.IsInBook, Lines.AreInBook, Lines.event_line, Lines.event_lines, declared.event.Book.Book, declared.event.Event.Event}
use Rattle.scoring.specs.{Tables.ScoringRows, Taken.first_kind_of}
use Rattle.event_handler.specs.declared.handling.EventHandler.{EventHandler}
use Rattle.event_handler.specs.Handling.{kinds_of, persons_of, links_in, HasHandled, CanHandle}
use Rattle.event_writer.proofs.Written.{texts_then, failed_behind, wanting_behind}
use Rattle.event_writer.specs.{Writing.IsWritten, declared.writing.StreamError.StreamError}
use Rattle.event_writer.specs.declared.writing.StreamError.TheVariants as error

lines_then : (book : Book) (xs ys : List Event) → event_lines xs book ++ event_lines ys book ≡ event_lines (xs ++ ys) book
lines_then book xs ys = sym (flat_map-append (λ (event : Event). event_line event book) xs ys)

-- names in the middle of a list
named_middle : (book : Book) (xs ys zs : List Event) → AreInBook ((xs ++ ys) ++ zs) book → AreInBook ys book
named_middle book xs ys zs h = λ i d here.
    let long = length-append xs ys in
    let more = length-append (xs ++ ys) zs in
    let at : get_or ((xs ++ ys) ++ zs) (length xs + i) d ≡ get_or ys i d =
    get_or-append (xs ++ ys) zs d (length xs + i) (omega arith) ∙ get_or-append-add xs ys i d in
    subst (λ (e : Event). IsInBook e book) at (h (length xs + i) d (omega arith))

-- the next piece, as a list
pub comes_of : (rest left : List Event) (next : Option (Vec Event Global)) (piece : Vec Event Global) (now : List Event)
    → next ≡ Some piece → IfSome next (λ events. rest ≡ events.items ++ left) → now ≡ piece.items → rest ≡ now ++ left
comes_of rest left next piece now is some same =
    subst (λ (o : Option (Vec Event Global)). IfSome o (λ events. rest ≡ events.items ++ left)) is some
    ∙ ap (λ (l : List Event). l ++ left) (sym same)

pub fewer_of : (before after : ℕ) (next : Option (Vec Event Global)) (piece : Vec Event Global) → next ≡ Some piece
    → IfSome next (λ _. after < before) → after < before
fewer_of before after next piece is some = subst (λ (o : Option (Vec Event Global)). IfSome o (λ _. after < before)) is some

-- of all events those that were taken are written and handled, and the rest is still to come
pub record IsStreaming (R : ScoringRows) (book : Book) (all rest : List Event) (first handler : EventHandler) (old now : Written)
    (before faults : ℕ) : Type 0 where
  pub taken : List Event
  pub parts : all ≡ taken ++ rest
  pub handled : HasHandled R handler taken
  pub written : Writes old now (byte_steps out.Events (event_lines taken book))
  pub later : before ≤ faults
  pub kinds : kinds_of handler ≡ kinds_of first
  pub links : links_in handler ≡ links_in first

pub streaming_first : (R : ScoringRows) (book : Book) (all : List Event) (handler : EventHandler) (old : Written) (faults : ℕ)
    → HasHandled R handler [] → IsStreaming R book all all handler handler old old faults faults
streaming_first R book all handler old faults new = record {
  taken = [];
  parts = refl;
  handled = new;
  written = writes_nothing old;
  later = omega arith;
  kinds = refl;
  links = refl;
}

module _ (R : ScoringRows) (book : Book) (all rest piece left : List Event) (first handler : EventHandler) (old now : Written)
    (before faults : ℕ) (h : IsStreaming R book all rest first handler old now before faults) (comes : rest ≡ piece ++ left) where
  split : all ≡ (h.taken ++ piece) ++ left
  split = h.parts ∙ ap (λ (l : List Event). h.taken ++ l) comes ∙ sym (append_assoc h.taken piece left)

  persons_stay : persons_of first ≡ persons_of handler
  persons_stay = sym (length-map first.scorers first_kind_of) ∙ ap (λ (l : List ℕ). length l) (sym h.kinds)
      ∙ length-map handler.scorers first_kind_of

  pub piece_named : AreInBook all book → AreInBook piece book
  piece_named named = named_middle book h.taken piece left (subst (λ (l : List Event). AreInBook l book) split named)

  pub piece_handled : CanHandle (persons_of first) (links_in first) all
      → CanHandle (persons_of handler) (links_in handler) ((h.taken ++ piece) ++ left)
  piece_handled can =
      subst₂ (λ (n m : ℕ). CanHandle n m ((h.taken ++ piece) ++ left)) persons_stay (sym h.links)
      (subst (CanHandle (persons_of first) (links_in first)) split can)

  whole_text : (event_lines h.taken book ++ event_lines piece book) ++ event_lines left book ≡ event_lines all book
  whole_text =
      ap (λ (l : List ℕ). l ++ event_lines left book) (lines_then book h.taken piece) ∙ lines_then book (h.taken ++ piece) left
      ∙ ap (λ (l : List Event). event_lines l book) (sym split)

  pub streaming_more : {T : Type 0} (after : EventHandler) (later : Written) (new : ℕ) (x : T)
      → IsWritten now later faults new (event_lines piece book) (Ok x) → HasHandled R after (h.taken ++ piece)
      → kinds_of after ≡ kinds_of handler → links_in after ≡ links_in handler
      → IsStreaming R book all left first after old later before new
  streaming_more after later new x did handled kinds links = record {
    taken = h.taken ++ piece;
    parts = split;
    handled = handled;
    written =
        subst (λ (l : List ℕ). Writes old later (byte_steps out.Events l)) (lines_then book h.taken piece)
        (texts_then old now later (event_lines h.taken book) (event_lines piece book) h.written did.done);
    later = let l = did.later in let m = h.later in omega arith;
    kinds = kinds ∙ h.kinds;
    links = links ∙ h.links;
  }

  pub streaming_failed : {A B : Type 0} (later : Written) (new : ℕ) (e : StreamError)
      → IsWritten {T = A} now later faults new (event_lines piece book) (Err e)
      → IsWritten {T = B} old later before new (event_lines all book) (Err e)
  streaming_failed {A} {B} later new e did =
      subst (λ (l : List ℕ). IsWritten {T = B} old later before new l (Err e)) whole_text
      (failed_behind {A = A} {B = B} old now later before faults new (event_lines h.taken book) (event_lines piece book)
      (event_lines left book) e h.written h.later did)

module _ (R : ScoringRows) (book : Book) (all rest : List Event) (first handler : EventHandler) (old now : Written) (before faults : ℕ)
    (h : IsStreaming R book all rest first handler old now before faults) where
  -- memory was wanting
  pub streaming_wanting : {B : Type 0} → IsWritten {T = B} old now before faults (event_lines all book) (Err error.NoMemory)
  streaming_wanting {B} =
      subst (λ (l : List ℕ). IsWritten {T = B} old now before faults l (Err error.NoMemory))
      (lines_then book h.taken rest ∙ ap (λ (l : List Event). event_lines l book) (sym h.parts))
      (wanting_behind {B = B} old now before faults (event_lines h.taken book) (event_lines rest book) h.written h.later)
