-- Two persons, of whom the first has tried one of two plans, and what is kept of them.
use Rattle.std.specs.Prelude.{ℕ, true, false, codes, List, [], ◌∷◌, None, Some, negsuc}
use Rattle.events.specs.declared.event.Book.{Book}
use Rattle.edge_files.specs.declared.keeping.KeptRow.{KeptRow}
use Rattle.rows.specs.PlanRows.{PlanRows}
use Rattle.plan_memory.specs.Memories.{MemoryRows}

abbrev pub book : Book
book = record {
  persons = codes "p1" ∷ codes "p2" ∷ [];
  links = codes "L1" ∷ codes "L2" ∷ [];
  kinds = codes "home" ∷ [];
  stops = [];
  lines = [];
  departures = [];
}

-- at home the whole day, on the link of this number
abbrev pub home_on : ℕ → PlanRows
home_on link = record { acts = record { kind = 0; link = link; end = None } ∷ []; legs = [] }

abbrev pub memories : List MemoryRows
memories =
    record { plans = home_on 0 ∷ home_on 1 ∷ []; scores = Some (negsuc 6) ∷ None ∷ []; chosen = 1 }
    ∷ record { plans = home_on 1 ∷ []; scores = None ∷ []; chosen = 0 }
    ∷ []

abbrev pub rows : List KeptRow
rows =
    record { person = codes "p1"; plan = 0; chosen = false; score = Some (negsuc 6); body = codes "p1,0,act,home,L1,,\n" }
    ∷ record { person = codes "p1"; plan = 1; chosen = true; score = None; body = codes "p1,1,act,home,L2,,\n" }
    ∷ record { person = codes "p2"; plan = 0; chosen = true; score = None; body = codes "p2,0,act,home,L2,,\n" }
    ∷ []
