-- What the three texts mean under the schema of the one table.
use Rattle.std.proofs.Common.{◌≡◌, List, [], ◌∷◌, false, Some, Ok, refl, codes, negsuc, pos}
use Rattle.std.specs.Prelude.{None}
use Rattle.sqlite.{proofs.Callers.IsPlain, proofs.Callers.command_of, proofs.Callers.statement_of, specs.Collation.TheVariants.Binary}
use Rattle.sqlite.specs.Command.TheVariants.{Nothing, CreateTable, InsertOr, Select}
use Rattle.sqlite.specs.{Compile.table_defined_by, Listing.understood, Listing.reads_listing, Query.Query, Query.inner, Query.end, Source.TheVariants.Values}
use Rattle.sqlite.specs.{Term.Term, Term.lit, Term.col, Term.op2, declared.types.Value.TheVariants.Null, declared.types.Value.TheVariants.Int}
use Rattle.sqlite_schema.specs.declared.command.{Conflict.TheVariants.Abort, Upsert.Upsert}
use Rattle.sqlite_sql.specs.declared.ops.CompareOp.TheVariants.{Eq}
use Rattle.sqlite_sql.specs.declared.ops.BinaryOp.TheVariants as by
use Rattle.sqlite_tied.specs.Compute.{everything}
use Rattle.keep_sql.specs.{Table.kept, Table.kept_schema, Table.no_schema, Texts.make_text, Texts.put_text, Texts.get_text}

pub make_is : (command_of (understood no_schema make_text) ≡ CreateTable) × (statement_of make_text (understood no_schema make_text) ≡ make_text) × (table_defined_by make_text ≡ Ok kept)
unfolding understood everything
make_is = (refl, refl, refl)

pub make_plain : IsPlain (understood no_schema make_text)
unfolding understood everything
make_plain = (refl, refl)

pub again_is : command_of (understood kept_schema make_text) ≡ Nothing
unfolding understood everything
again_is = refl

pub again_plain : IsPlain (understood kept_schema make_text)
unfolding understood everything
again_plain = (refl, refl)

pub get_plain : IsPlain (understood kept_schema get_text)
unfolding understood everything
get_plain = (refl, refl)

abbrev pub new_terms : List Term
new_terms = lit (Int (pos 0)) ∷ lit Null ∷ col 0 0 ∷ col 0 1 ∷ []

abbrev pub find_query : Query
find_query = record {
  from = inner 0 end;
  filter = op2 (by.Compare Eq Binary) (col 1 0) (lit (Int (pos 0))) ∷ [];
  group = None;
  project = col 1 2 ∷ col 1 3 ∷ [];
  distinct = false;
  collations = [];
  order = [];
  limit = lit (Int (negsuc 0));
  offset = lit (Int (pos 0));
}

pub get_is : (command_of (understood kept_schema get_text) ≡ Select (record { lets = []; body = find_query }) (codes "iteration" ∷ codes "body" ∷ [])) × (reads_listing kept_schema get_text ≡ false)
unfolding understood everything
get_is = (refl, refl)

abbrev pub update_query : Query
update_query = record {
  from = inner 0 end;
  filter = op2 (by.Compare Eq Binary) (col 1 0) (col 0 2) ∷ [];
  group = None;
  project = col 1 0 ∷ col 1 0 ∷ lit Null ∷ col 0 5 ∷ col 0 6 ∷ [];
  distinct = false;
  collations = [];
  order = [];
  limit = lit (Int (negsuc 0));
  offset = lit (Int (pos 0));
}

abbrev pub clause : Upsert
clause = record { target = Some (0 ∷ []); update = Some (record { lets = []; body = update_query }) }

pub put_is : command_of (understood kept_schema put_text) ≡ InsertOr 0 Abort (Values new_terms 4) (clause ∷ [])
unfolding understood everything
put_is = refl

pub put_plain : IsPlain (understood kept_schema put_text)
unfolding understood everything
put_plain = (refl, refl)
