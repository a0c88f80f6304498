-- What contracts see of the persons who are due.
use Rattle.agents.specs.{Due.AgentsView, declared.agents_due.Agents.TheInside.Inside}

abbrev pub agents_view : Inside → AgentsView
agents_view a = record { ends = a.ends; flights = a.flights }
