-- The names that most proofs on files cite, passed on from one place. Declares nothing.
pub use Rattle.std.proofs.Common.{◌≡◌, List, ap, ℕ, length, ◌∙◌, arith, map, [], ◌<◌, sym, None, Some, ◌++◌, ◌∷◌, refl, true, Bool, Option, ◌+◌, false, cond}
pub use Rattle.std.proofs.Common.{get_or, ◌&&◌, ◌≤◌, drop, suc, not, take, zero, ◌||◌, subst, Err, append_assoc, length-append, ◌^◌, Ok, Result, ◌-◌, Bor}
pub use Rattle.std.proofs.Common.{add-one, inl, inr, rules}
pub use Rattle.std.proofs.lemmas.Bool.Decides.{nat_tests}
pub use Rattle.std.proofs.lemmas.List.{length-map, map-append, take_more, append-nil, get_or-map, take_all}
pub use Rattle.std.proofs.lemmas.List.Folds.{list_all-append}
pub use Rattle.std.proofs.lemmas.List.Sums.{fold-append}
pub use Rattle.std.specs.List.{list_all, fold, join_with_byte, flat_map}
pub use Rattle.std.specs.Prelude.{nat_eq, nat_lt, is_some, nat_le, unwrap_or, is_none, option_to_list, bytes_eq, decimal, option_map}
pub use Rattle.csv.specs.Reading.{strip_bom}
unfoldable pub use Rattle.csv.specs.Reading.{Reached}
pub use Rattle.csv.specs.Records.{fields_of}
pub use Rattle.csv.specs.declared.record.ByteRecord.{ByteRecord}
pub use Rattle.edge_files.specs.declared.reasons.Reason.{Reason}
pub use Rattle.edge_files.specs.declared.reasons.RowStop.{RowStop}
pub use Rattle.events.specs.Names.{with_name, is_held, name_at}
unfoldable pub use Rattle.events.specs.Names.{number_of, firsts, is_name}
pub use Rattle.events.specs.declared.event.Book.{Book}
pub use Rattle.events.specs.declared.event.Mode.{Mode}
pub use Rattle.limits.specs.declared.TheConstants.{LAST_SECOND, MAX_ROUTE_LINKS, MAX_LEGS, MAX_ROUTES}
pub use Rattle.records.specs.Faults.{Answers, first_below}
unfoldable pub use Rattle.records.specs.Faults.{first_fault}
pub use Rattle.records.specs.Fields.{field, column, holds_name}
pub use Rattle.records.specs.Files.{TellsStop}
unfoldable pub use Rattle.records.specs.Files.{body_of, head_reason, optional_head_reason}
pub use Rattle.records.specs.Lists.{with_number}
unfoldable pub use Rattle.records.specs.Lists.{numbers_of, parts_of}
pub use Rattle.records.specs.Numbers.{value_of}
unfoldable pub use Rattle.records.specs.Numbers.{are_digits, number_in}
unfoldable pub use Rattle.records.specs.Reading.{body_fault}
pub use Rattle.records.specs.Rows.{Row}
unfoldable pub use Rattle.records.specs.Rows.{rows_of}
