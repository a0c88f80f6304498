use Rattle.records.proofs.{Common.List, Common.ap, Common.ℕ, Common.◌∙◌, Common.[], Common.Option, Common.unwrap_or, Common.fields_of, FieldAt.field_there}
use Rattle.records.proofs.fields.field.Goals as goal

pub returns-in-Some : goal.returns-in-Some
returns-in-Some c = ap (λ (o : Option (List ℕ)). unwrap_or o []) c.in-Some.ensures.value ∙ field_there (fields_of c.args.row.now) c.args.place

pub returns-in-None : goal.returns-in-None
returns-in-None c = ap (λ (o : Option (List ℕ)). unwrap_or o []) c.in-None.ensures.value ∙ field_there (fields_of c.args.row.now) c.args.place
