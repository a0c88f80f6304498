-- A table with at most its one row, of place 0: what is left of it, and the row that goes in where none is.
use Rattle.std.proofs.Common.{◌≡◌, ◌⊎◌, inl, inr, ℕ, ℤ, pos, List, [], ◌∷◌, Bool, true, false, cond, not, Ok, Err, Result, refl, ap, subst, ◌∙◌, Option}
use Rattle.sqlite.proofs.Callers.{one_step}
use Rattle.sqlite.specs.{Cast.cast, Edit.edit_of, Edit.without_all, Edit.are_fresh, Edit.put_all, Kind.TheVariants.Integer, Ops.unary, Order.Row}
use Rattle.sqlite.specs.{Rowids.TheVariants.Given, Rows.Task, Rows.Written, Rows.Puts, Tree.Trees, Tree.has_rowid, declared.types.Value.Value}
use Rattle.sqlite.specs.declared.types.Value.TheVariants.{Null, Int, Blob}
use Rattle.sqlite_value.specs.Order.{value_cmp}
use Rattle.sqlite_schema.specs.declared.schema.Keys.{Keys}
use Rattle.keep_sql.specs.Table.{kept, kept_schema, stored}

abbrev pub IsFew : List Row → Type 0
IsFew rows = (rows ≡ []) ⊎ ((rest : Row) × (rows ≡ (Int (pos 0) ∷ rest) ∷ []))

pub either : (b : Bool) (x : Value) → cond b x x ≡ x
either true x = refl
either false x = refl

pub cast_null : cast Integer Null ≡ Null
unfolding unary
cast_null = either _ Null

pub cast_int : (n : ℤ) → cast Integer (Int n) ≡ Int n
unfolding unary
cast_int n = either _ (Int n)

-- a part that gave a value did not stop on the way
pub went : {B E R : Type 0} {b : B} {Stops : E → Type 0} → ((stop : E) × Stops stop × (Ok b ≡ Err stop)) ⊎ R → R
went (inl stopped) = absurd (let e = stopped.2 in cc)
went (inr on) = on

pub same_value : {B E : Type 0} {a b : B} → ◌≡◌ {A = Result B E} (Ok a) (Ok b) → a ≡ b
same_value e = cc

pub none_left : (ids : List ℤ) → without_all [] ids ≡ []
none_left [] = refl
none_left (id ∷ ids) = none_left ids

step_left : (b : Bool) (r : Row) (ids : List ℤ) → (without_all (r ∷ []) ids ≡ []) ⊎ (without_all (r ∷ []) ids ≡ r ∷ []) → (without_all (cond b (r ∷ []) []) ids ≡ []) ⊎ (without_all (cond b (r ∷ []) []) ids ≡ r ∷ [])
step_left true r ids h = h
step_left false r ids h = inl (none_left ids)

pub few_left : (r : Row) (ids : List ℤ) → (without_all (r ∷ []) ids ≡ []) ⊎ (without_all (r ∷ []) ids ≡ r ∷ [])
few_left r [] = inr refl
few_left r (id ∷ ids) = step_left (not (has_rowid id r)) r ids (few_left r ids)

pub still_few : (rows : List Row) (ids : List ℤ) → IsFew rows → IsFew (without_all rows ids)
still_few rows ids (inl none) = inl (rw none (none_left ids))
still_few rows ids (inr one) = elim (few_left (Int (pos 0) ∷ one.0) ids) [
  | inl gone ↦ inl (rw one.1 gone)
  | inr there ↦ inr (one.0, rw one.1 there)
]

pub fresh_none : (rows : List Row) (rest : Row) → IsFew rows → are_fresh rows ((Int (pos 0) ∷ rest) ∷ []) ≡ true → rows ≡ []
unfolding value_cmp lib.Ieee.is_nan lib.Ieee.lt
fresh_none rows rest (inl none) fresh = none
fresh_none rows rest (inr one) fresh = absurd (let e : false ≡ true = subst (λ all. are_fresh all ((Int (pos 0) ∷ rest) ∷ []) ≡ true) one.1 fresh in cc)

-- the row goes in where no row is
pub puts : (limit : Option ℕ) (keys : Keys) (params : Row) (iteration : ℤ) (body : List ℕ) (db : Trees) (one : Written) → IsFew (db 0)
    → Puts (record { limit = limit; keys = keys; schema = kept_schema; table = kept; params = params }) (stored iteration body) db (Ok one) → one.trees 0 ≡ stored iteration body ∷ []
puts limit keys params iteration body db one few h =
    let put = went h in
    let edit = edit_of db kept [] Given 0 (stored iteration body ∷ []) in
    let cast : edit.news ≡ stored iteration body ∷ [] = rw (cast_int (pos 0), cast_int iteration, cast_null) in
    let step = one_step kept_schema keys db put.0 edit refl put.1 in
    let none : db 0 ≡ [] = fresh_none (db 0) (Null ∷ Int iteration ∷ Blob body ∷ []) few (subst (λ news. are_fresh (db 0) news ≡ true) cast step.fresh) in
    ap (λ (w : Written). w.trees 0) (same_value put.2) ∙ step.rows ∙ ap (λ rows. put_all rows edit.news) none ∙ ap (put_all []) cast

abbrev pub task_of : Option ℕ → Keys → Row → Task
task_of limit keys params = record { limit = limit; keys = keys; schema = kept_schema; table = kept; params = params }
