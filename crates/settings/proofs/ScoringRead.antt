-- What is told of the settings of scores, by its parts.
use Rattle.std.proofs.Common.{◌≡◌, Bool, true, false, not, ◌||◌, if◌then◌else◌, is_some, codes, List, [], ◌∷◌, unwrap_or, Option, None, Some, Result, refl, sym}
use Rattle.std.proofs.Common.{ap, ap₂, ◌∙◌, subst}
use Rattle.edge_files.specs.declared.reasons.{Reason.Reason, Reason.TheVariants.ValueBad, Reason.TheVariants.TableWrong, RowStop.RowStop}
use Rattle.records.specs.Faults.{least, Answers, fault_at}
use Rattle.serde_json.specs.{Data.Data, Data.Members, Find.get_member}
use Rattle.settings.specs.{Keys.is_bad, Keys.has_bad_cost, Keys.has_bad_scoring, NamedTables.tables_of, NamedTables.given_tables, NamedTables.are_right}
use Rattle.settings.specs.Scoring.{CostValues, ScoringValues, costs_in, with_tables, tables_given, scoring_in, scoring_of, has_wrong_table}
use Rattle.settings.specs.declared.{costs.Scoring.Scoring, named_tables.NamedTable.NamedTable}

-- tables that are given are no bad value
given_good : (o : Option Data) (tables : List NamedTable) → Some tables ≡ given_tables o → is_bad (λ value. is_some (tables_of value)) o ≡ false
given_good None tables e = refl
given_good (Some value) tables e = ap (λ (x : Option (List NamedTable)). not (is_some x)) (sym e)

neither : (b c : Bool) → b ≡ false → c ≡ false → (b || c) ≡ false
neither b c e f = ap₂ (λ x y. x || y) e f

wrong_is : (members : Members) (tables : List NamedTable) → Some tables ≡ given_tables (get_member (codes "tables") members)
    → has_wrong_table members ≡ not (are_right tables)
unfolding has_wrong_table
wrong_is members tables e = ap (λ (x : Option (List NamedTable)). not (are_right (unwrap_or x []))) (sym e)

by_right : (b : Bool) → (if b then None else Some TableWrong) ≡ (if not b then Some TableWrong else None)
by_right true = refl
by_right false = refl

fault_is : (a b c : Bool) → a ≡ false → b ≡ not c → (if c then None else Some TableWrong) ≡ least ((a, ValueBad) ∷ (b, TableWrong) ∷ [])
fault_is a b c e f = rw (e, f) (by_right c)

pub scoring_told : (r : Result Scoring RowStop) (members : Members) (costs : CostValues) (tables : List NamedTable) → has_bad_cost members ≡ false → costs ≡ costs_in members
    → Some tables ≡ given_tables (get_member (codes "tables") members)
    → Answers scoring_of r (fault_at 0 (if are_right tables then None else Some TableWrong)) (with_tables costs tables)
    → Answers scoring_of r (fault_at 0 (least ((has_bad_scoring members, ValueBad) ∷ (has_wrong_table members, TableWrong) ∷ []))) (scoring_in members)
scoring_told r members costs tables good same given told =
    let bad : has_bad_scoring members ≡ false = neither (has_bad_cost members) _ good (given_good (get_member (codes "tables") members) tables given) in
    let tables_same : tables ≡ tables_given members = ap (λ (x : Option (List NamedTable)). unwrap_or x []) given in
    let value : with_tables costs tables ≡ scoring_in members = ap (λ (k : CostValues). with_tables k tables) same ∙ ap (with_tables (costs_in members)) tables_same in
    let fault = fault_is (has_bad_scoring members) (has_wrong_table members) (are_right tables) bad (wrong_is members tables given) in
    subst (λ (v : ScoringValues). Answers scoring_of r (fault_at 0 (least ((has_bad_scoring members, ValueBad) ∷ (has_wrong_table members, TableWrong) ∷ []))) v) value
    (subst (λ (f : Option Reason). Answers scoring_of r (fault_at 0 f) (with_tables costs tables)) fault told)
