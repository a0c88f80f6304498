-- A day that is written span by span.
use Rattle.std.proofs.Common.{◌≡◌, ℕ, ◌-◌, ◌≤◌, true, false, List, [], ◌++◌, append-nil, arith, refl, sym, ap, ◌∙◌, subst, subst₂, Result, Ok, Err}
use Rattle.std.proofs.lemmas.Grind.{flat_map-append}
use Rattle.edge_files.specs.declared.files.OutFile.TheVariants as out
use Rattle.edge_files.specs.World.{Written, Writes, WritesPart, byte_steps}
use Rattle.events.specs.{Lines.AreInBook, Lines.event_line, Lines.event_lines, declared.event.Book.Book, declared.event.Event.Event}
use Rattle.scoring.specs.Tables.{ScoringRows}
use Rattle.event_handler.specs.Handling.{kinds_of, persons_of, links_in, HasHandled, CanHandle, IsSeen}
use Rattle.event_handler.specs.declared.handling.{EventHandler.EventHandler, SeenDay.SeenDay}
use Rattle.event_writer.proofs.Streaming.{IsStreaming, streaming_first, streaming_more, streaming_failed, piece_named, piece_handled}
use Rattle.event_writer.{proofs.Written.texts_then, specs.Writing.IsWritten, specs.declared.writing.StreamError.StreamError}
use Rattle.event_writer.specs.declared.writing.StreamError.TheVariants as error
use Rattle.streamed_day.{proofs.Coming.day_comes, proofs.Coming.span_piece, proofs.Coming.end_piece, specs.Coming.seconds_from, specs.Coming.to_come}
use Rattle.traffic.specs.{Day.day, Setup.Setup}
use Rattle.partition.specs.declared.owner.Owner.{Owner}
use Rattle.town.specs.{Views.setup, declared.day_input.DayInput.DayInput}
use Rattle.collected_day.specs.{Spans.told_at_end, Taking.IsTaking, Taking.HasTaken, Taking.CanHandleMore, Taking.HasHandledMore, Taking.HasHandledOn}
use Rattle.collected_day.specs.{Taking.HasSeenMore, declared.taking.Taking.Taking}

-- nothing is written yet, and all of the day is to come
pub begins : (S : Setup) (end : ℕ) (scoring : ScoringRows) (book : Book) (handler : EventHandler) (old : Written) (faults : ℕ)
    → end ≡ S.settings.end_second → HasHandled scoring handler []
    → IsStreaming scoring book (day S) (to_come S end 0 true) handler handler old old faults faults
begins S end scoring book handler old faults is new =
    subst (λ (rest : List Event). IsStreaming scoring book (day S) rest handler handler old old faults faults) (sym (day_comes S end is))
    (streaming_first scoring book (day S) handler old faults new)

-- what is taken between two seconds is a piece
taken_comes : (S : Setup) (end w t : ℕ) → w ≤ t → t ≤ end
    → to_come S end w true ≡ seconds_from S w (t - w) ++ to_come S end t true
taken_comes S end w t within early = span_piece S end w t (seconds_from S w (t - w)) true refl within early refl

-- and the end of the day the last one, once all seconds are done
end_comes : (S : Setup) (end t : ℕ) → end ≤ t → to_come S end t true ≡ told_at_end S end
end_comes S end t past = end_piece S end t t (told_at_end S end) true false refl refl past refl ∙ append-nil (told_at_end S end)

-- the next piece has its names in the book, and can be handled
due : {scoring : ScoringRows} {book : Book} {first handler : EventHandler} {old now : Written} {before faults : ℕ}
    (all rest piece left : List Event) → IsStreaming scoring book all rest first handler old now before faults → rest ≡ piece ++ left
    → AreInBook all book → CanHandle (persons_of first) (links_in first) all
    → AreInBook piece book × CanHandleMore scoring piece handler
due {scoring} {book} {first} {handler} {old} {now} {before} {faults} all rest piece left h comes named can = (
  piece_named scoring book all rest piece left first handler old now before faults h comes named,
  (h.taken, left, h.handled, piece_handled scoring book all rest piece left first handler old now before faults h comes can),
)

-- it was written, and the handler took it
piece_taken : {T : Type 0} {scoring : ScoringRows} {book : Book} {first handler after : EventHandler} {old now later : Written}
    {before faults new : ℕ} {x : T} (all rest piece left : List Event)
    → IsStreaming scoring book all rest first handler old now before faults → rest ≡ piece ++ left
    → CanHandle (persons_of first) (links_in first) all → IsWritten now later faults new (event_lines piece book) (Ok x)
    → HasHandledMore scoring piece handler after → kinds_of after ≡ kinds_of handler → links_in after ≡ links_in handler
    → IsStreaming scoring book all left first after old later before new
piece_taken {T} {scoring} {book} {first} {handler} {after} {old} {now} {later} {before} {faults} {new} {x} all rest piece left h comes can
    written handled kinds links =
    streaming_more scoring book all rest piece left first handler old now before faults h comes after later new x written
    (handled h.taken left h.handled (piece_handled scoring book all rest piece left first handler old now before faults h comes can))
    kinds links

-- a text that is this one was written
pub as_written : {T : Type 0} {old new : Written} {before now : ℕ} {text lines : List ℕ} {result : Result T StreamError}
    → text ≡ lines → IsWritten old new before now text result → IsWritten old new before now lines result
as_written {T} {old} {new} {before} {now} {text} {lines} {result} is written =
    subst (λ (l : List ℕ). IsWritten old new before now l result) is written

-- whole, whatever is answered otherwise
pub whole_written : {A B : Type 0} {old new : Written} {before now : ℕ} {text lines : List ℕ} {x : A} (y : B) → text ≡ lines
    → IsWritten old new before now text (Ok x) → IsWritten old new before now lines (Ok y)
whole_written {A} {B} {old} {new} {before} {now} {text} {lines} {x} y is did = record {
  done = subst (λ (l : List ℕ). Writes old new (byte_steps out.Events l)) is did.done;
  part = tt;
  later = did.later;
  failed = λ same. absurd (cc);
}

-- or a front of it
pub front_written : {A B : Type 0} {old new : Written} {before now : ℕ} {text lines : List ℕ} {e : StreamError} → text ≡ lines
    → IsWritten {T = A} old new before now text (Err e) → IsWritten {T = B} old new before now lines (Err e)
front_written {A} {B} {old} {new} {before} {now} {text} {lines} {e} is did = record {
  done = tt;
  part = subst (λ (l : List ℕ). WritesPart old new out.Events l) is did.part;
  later = did.later;
  failed = λ failed. (let same : e ≡ error.WriteFailed = cc in did.failed (ap Err same));
}

module _ {S : Type 0} {told : ℕ → ℕ → List Event} {d : DayInput} {owner : Owner} {end t : ℕ} {old : Taking S}
    {scoring : ScoringRows} {book : Book} {first : EventHandler} {a b : Written} {m n : ℕ}
    (taking : IsTaking told d owner end t old) (within : t ≤ end)
    (h : IsStreaming scoring book (day (setup d)) (to_come (setup d) end old.second true) first old.handler a b m n) where
  comes : to_come (setup d) end old.second true ≡ seconds_from (setup d) old.second (t - old.second) ++ to_come (setup d) end t true
  comes = taken_comes (setup d) end old.second t taking.within within

  -- what is to be taken up to a second can be
  pub span_due : AreInBook (day (setup d)) book → CanHandle (persons_of first) (links_in first) (day (setup d))
      → AreInBook (seconds_from (setup d) old.second (t - old.second)) book
      × CanHandleMore scoring (seconds_from (setup d) old.second (t - old.second)) old.handler
  span_due named can = due _ _ _ _ h comes named can

  -- it was not written whole
  pub span_failed : {A B : Type 0} {c : Written} {o : ℕ} {e : StreamError}
      → IsWritten {T = A} b c n o (event_lines (seconds_from (setup d) old.second (t - old.second)) book) (Err e)
      → IsWritten {T = B} a c m o (event_lines (day (setup d)) book) (Err e)
  span_failed {A} {B} {c} {o} {e} written = streaming_failed _ _ _ _ _ _ _ _ _ _ _ _ h comes c o e written

  -- it was taken and written
  pub streams_on : {T : Type 0} {c : Written} {o : ℕ} {x : T} (new : Taking S)
      → CanHandle (persons_of first) (links_in first) (day (setup d)) → HasTaken told d owner end t scoring book old new
      → IsWritten b c n o new.text.items (Ok x)
      → IsStreaming scoring book (day (setup d)) (to_come (setup d) end new.second true) first new.handler a c m o
  streams_on new can taken written =
      let at : t ≡ new.second = sym taken.second in
      piece_taken _ _ _ _ h
      (comes ∙ ap (λ s. seconds_from (setup d) old.second (t - old.second) ++ to_come (setup d) end s true) at) can
      (as_written taken.text written) taken.handled taken.kinds taken.links

  -- and all seconds are done (`count`, as the code has them): the end of the day is left
  pub end_left : {T : Type 0} {c : Written} {o count : ℕ} {x : T} {after : EventHandler} → count ≡ end → count ≤ t
      → CanHandle (persons_of first) (links_in first) (day (setup d))
      → IsWritten b c n o (event_lines (seconds_from (setup d) old.second (t - old.second)) book) (Ok x)
      → HasHandledOn scoring (seconds_from (setup d) old.second (t - old.second)) old.handler after
      → IsStreaming scoring book (day (setup d)) (told_at_end (setup d) end) first after a c m o
  end_left counted over can written took =
      let past : end ≤ t = omega arith in
      piece_taken _ _ _ _ h
      (comes ∙ ap (λ es. seconds_from (setup d) old.second (t - old.second) ++ es) (end_comes (setup d) end t past)) can written
      took.handled took.kinds took.links

module _ {scoring : ScoringRows} {book : Book} {first handler : EventHandler} {old now : Written} {before faults : ℕ}
    (all piece : List Event) (h : IsStreaming scoring book all piece first handler old now before faults) where
  last : piece ≡ piece ++ []
  last = sym (append-nil piece)

  -- what is left is the last piece
  pub end_due : AreInBook all book → CanHandle (persons_of first) (links_in first) all
      → AreInBook piece book × CanHandleMore scoring piece handler
  end_due named can = due all piece piece [] h last named can

  -- it was written whole, or a front of it
  pub end_written : {T : Type 0} {later : Written} {new : ℕ} (result : Result T StreamError)
      → IsWritten now later faults new (event_lines piece book) result → IsWritten old later before new (event_lines all book) result
  end_written {T} {later} {new} (Ok x) did = record {
    done =
        subst (λ (l : List ℕ). Writes old later (byte_steps out.Events l))
        (sym (flat_map-append (λ (event : Event). event_line event book) h.taken piece)
        ∙ ap (λ (l : List Event). event_lines l book) (sym h.parts))
        (texts_then old now later (event_lines h.taken book) (event_lines piece book) h.written did.done);
    part = tt;
    later = let l = did.later in let m = h.later in omega arith;
    failed = λ is. absurd (cc);
  }
  end_written {T} {later} {new} (Err e) did =
      streaming_failed scoring book all piece piece [] first handler old now before faults h last later new e did

  -- all that was seen is what was seen of the day
  pub end_seen : (seen : SeenDay) → CanHandle (persons_of first) (links_in first) all → HasSeenMore scoring piece handler seen
      → IsSeen scoring (kinds_of first) all seen
  end_seen seen can more =
      subst₂ (λ (ks : List ℕ) (es : List Event). IsSeen scoring ks es seen) h.kinds (sym h.parts)
      (more h.taken [] h.handled (piece_handled scoring book all piece piece [] first handler old now before faults h last can))
