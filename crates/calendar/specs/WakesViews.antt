-- What a table of wakes keeps.
use Rattle.calendar.specs.{Waking.AreHung, declared.wake_ups.Wakes.TheInside.Inside}

abbrev pub is_hung : Inside → Type 0
is_hung w = AreHung w.due.items w.calendar
