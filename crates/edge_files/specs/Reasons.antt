-- The numbers and the names of the reasons.
use Rattle.std.specs.Prelude.{ℕ, List, codes}
use Rattle.edge_files.specs.declared.reasons.Reason.{Reason}
use Rattle.edge_files.specs.declared.reasons.Reason.TheVariants as reason

-- the place in the list of reasons, from 1
unfoldable pub reason_number : Reason → ℕ
reason_number reason.Header = 1
reason_number reason.FieldCount = 2
reason_number reason.BadName = 3
reason_number reason.BadNumber = 4
reason_number reason.Twice = 5
reason_number reason.Unknown = 6
reason_number reason.Order = 7
reason_number reason.RouteBroken = 8
reason_number reason.EndWrong = 9
reason_number reason.ModeUnknown = 10
reason_number reason.TooMany = 11
reason_number reason.Empty = 12
reason_number reason.TooLong = 13
reason_number reason.NotJson = 14
reason_number reason.KeyUnknown = 15
reason_number reason.ValueBad = 16
reason_number reason.StopsWrong = 17
reason_number reason.InLinks = 18
reason_number reason.NoRoute = 19
reason_number reason.TableWrong = 20
reason_number reason.StopLink = 21
reason_number reason.SignalWrong = 22
reason_number reason.Conflict = 23

-- what the report calls it
unfoldable pub reason_name : Reason → List ℕ
reason_name reason.Header = codes "Header"
reason_name reason.FieldCount = codes "FieldCount"
reason_name reason.BadName = codes "BadName"
reason_name reason.BadNumber = codes "BadNumber"
reason_name reason.Twice = codes "Twice"
reason_name reason.Unknown = codes "Unknown"
reason_name reason.Order = codes "Order"
reason_name reason.RouteBroken = codes "RouteBroken"
reason_name reason.EndWrong = codes "EndWrong"
reason_name reason.ModeUnknown = codes "ModeUnknown"
reason_name reason.TooMany = codes "TooMany"
reason_name reason.Empty = codes "Empty"
reason_name reason.TooLong = codes "TooLong"
reason_name reason.NotJson = codes "NotJson"
reason_name reason.KeyUnknown = codes "KeyUnknown"
reason_name reason.ValueBad = codes "ValueBad"
reason_name reason.StopsWrong = codes "StopsWrong"
reason_name reason.InLinks = codes "InLinks"
reason_name reason.NoRoute = codes "NoRoute"
reason_name reason.TableWrong = codes "TableWrong"
reason_name reason.StopLink = codes "StopLink"
reason_name reason.SignalWrong = codes "SignalWrong"
reason_name reason.Conflict = codes "Conflict"
