-- The stop calls of a route: `STOP:OFFSET` or `STOP:OFFSET:wait`.
use Rattle.std.specs.Prelude.{ℕ, Bool, ◌&&◌, ◌||◌, nat_eq, bytes_eq, codes, unwrap_or, List, length}
use Rattle.limits.specs.declared.TheConstants.{LAST_SECOND}
use Rattle.events.specs.{Names.is_name, Names.number_of, declared.lists.StopCall.StopCall}
use Rattle.records.specs.{Lists.part, Lists.parts_of, Numbers.number_in}
use Rattle.rows.specs.{Stops.stop_link, declared.schedule.StopRow.StopRow}
use Rattle.schedule.specs.declared.calls.CallText.{CallText}

-- two parts, or three of which the last is `wait`; the first is a name
unfoldable pub is_call : List (List ℕ) → Bool
is_call parts = is_name (part parts 0) && (nat_eq (length parts) 2 || (nat_eq (length parts) 3 && bytes_eq (part parts 2) (codes "wait")))

-- what the parts of a stop call say: the number of the stop among the names of the stops, and an offset of 0 to 172,800 s
unfoldable pub text_of : List (List ℕ) → List (List ℕ) → CallText
text_of stops parts = record {
  is_call = is_call parts;
  stop = number_of (part parts 0) stops;
  offset = number_in 0 LAST_SECOND (part parts 1);
  wait = nat_eq (length parts) 3;
}

-- what the text of a stop call says
abbrev pub call_text : List (List ℕ) → List ℕ → CallText
call_text stops item = text_of stops (parts_of 58 item)

-- the stop call of a text, on the link of its stop
unfoldable pub call_of : List StopRow → CallText → StopCall
call_of rows text = record {
  stop = unwrap_or text.stop 0;
  link = stop_link rows (unwrap_or text.stop 0);
  offset = unwrap_or text.offset 0;
  wait = text.wait;
}
