use Rattle.records.proofs.{Common.List, Common.ap, Common.ℕ, Common.◌∙◌, Common.number_of, Numbering.numbered_new, Numbering.numbered_within}
use Rattle.events.proofs.NameLists.{with_name-Adds}
use Rattle.records.proofs.names.add_number.Goals as goal

pub returns-in-Ok-New-clause-number : goal.returns-in-Ok-New-clause-number
returns-in-Ok-New-clause-number c = numbered_new _ _ _ _ (rw c.in-Ok-New.field-0-is at c.in-Ok-New.ensures)

pub returns-in-Ok-New-clause-names : goal.returns-in-Ok-New-clause-names
returns-in-Ok-New-clause-names c = with_name-Adds c.args.names.now c.args.name c.in-Ok-New.field-0 c.add.new.self c.in-Ok-New.ensures

pub returns-in-Ok-Held-clause-names : goal.returns-in-Ok-Held-clause-names
returns-in-Ok-Held-clause-names c = with_name-Adds c.args.names.now c.args.name c.in-Ok-Held.field-0 c.add.new.self c.in-Ok-Held.ensures

pub returns-in-Ok-New-clause-within : goal.returns-in-Ok-New-clause-within
returns-in-Ok-New-clause-within c = numbered_within _ _ _ (numbered_new _ _ _ _ (rw c.in-Ok-New.field-0-is at c.in-Ok-New.ensures))

pub returns-in-Ok-Held-clause-within : goal.returns-in-Ok-Held-clause-within
returns-in-Ok-Held-clause-within c = let held = rw c.in-Ok-Held.field-0-is at c.in-Ok-Held.ensures in numbered_within _ _ _ (ap (λ (names : List (List ℕ)). number_of c.args.name names) held.1 ∙ held.0)
