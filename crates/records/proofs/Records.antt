-- The records of a text are the only list that a reader can give.
use Rattle.std.proofs.Common.{◌≡◌, ℕ, zero, suc, ◌+◌, ◌≤◌, Bool, true, false, cond, List, [], ◌∷◌, length, Option, None, Some, refl, sym, ap, subst, arith}
use Rattle.csv.specs.{Machine.Read, Machine.next_record, Machine.step, Machine.is_end, Machine.ends_at_end, Reading.Reached, Reading.AreRecords}
use Rattle.csv.specs.{Reading.records, Reading.records_from, Reading.strip_bom, Reading.is_bom, declared.parser.Config.Config, declared.parser.State.State}
use Rattle.csv.specs.declared.parser.State.TheVariants as st

some_is : (p q : Read) → Some p ≡ Some q → p ≡ q
some_is p q h = cc

-- at the end of a text, a record leaves the reader where it starts
at_end : (b : Bool) (f : List (List ℕ)) (p : Read) → cond b (Some (f, st.StartRecord, [])) None ≡ Some p → (p.1 ≡ st.StartRecord) × (p.2 ≡ [])
at_end true f p h = let same : (f, st.StartRecord, []) ≡ p = some_is _ _ h in (ap (λ (q : Read). q.1) (sym same), ap (λ (q : Read). q.2) (sym same))
at_end false f p h = cc

-- a record takes a byte of what is left, or it is the last
shorter_step : (b : Bool) (ended : Read) (more : Option Read) (n : ℕ) (p : Read) → length ended.2 ≤ n → (more ≡ Some p → length p.2 ≤ n) → cond b (Some ended) more ≡ Some p → length p.2 ≤ n
shorter_step true ended more n p le later h = subst (λ (q : Read). length q.2 ≤ n) (some_is _ _ h) le
shorter_step false ended more n p le later h = later h

shorter : (cfg : Config) (xs : List ℕ) (s : State) (f : List (List ℕ)) (g : List ℕ) (p : Read) → next_record cfg s f g xs ≡ Some p → length p.2 ≤ length xs
unfolding next_record
shorter cfg [] s f g p h = let e = (at_end (ends_at_end s) _ p h).1 in omega (arith, ap length e)
shorter cfg (c ∷ rest) s f g p h =
    shorter_step (is_end (step cfg s c).1) _ _ (length (c ∷ rest)) p (omega arith)
    (λ e. let le = shorter cfg rest _ _ _ p e in omega (arith, le)) h

takes : (cfg : Config) (s : State) (f : List (List ℕ)) (g : List ℕ) (c : ℕ) (rest : List ℕ) (p : Read) → next_record cfg s f g (c ∷ rest) ≡ Some p → length p.2 ≤ length rest
unfolding next_record
takes cfg s f g c rest p h = shorter_step (is_end (step cfg s c).1) _ _ (length rest) p (omega arith) (λ e. shorter cfg rest _ _ _ p e) h

-- from the start of a record there is none at the end
none_at_end : (cfg : Config) (p : Read) → next_record cfg st.StartRecord [] [] [] ≡ Some p → ⊥
unfolding next_record
none_at_end cfg p h = cc

few_at_end : (cfg : Config) (s s2 : State) (xs ys : List ℕ) (rows : List (List (List ℕ))) → s ≡ st.StartRecord → xs ≡ [] → Reached cfg s xs rows s2 ys → length rows ≤ 0
unfolding Reached
few_at_end cfg s s2 xs ys [] start end reached = omega arith
few_at_end cfg s s2 xs ys (r ∷ rows) start end (p, is, same, more) = absurd (none_at_end cfg p (rw (start, end) at is))

-- no more records than bytes and one
pub few : (cfg : Config) (s s2 : State) (xs ys : List ℕ) (rows : List (List (List ℕ))) → Reached cfg s xs rows s2 ys → length rows ≤ length xs + 1
unfolding Reached next_record
few cfg s s2 xs ys [] reached = omega arith
few cfg s s2 [] ys (r ∷ rows) (p, is, same, more) =
    let e = at_end (ends_at_end s) _ p is in
    let le = few_at_end cfg p.1 s2 p.2 ys rows e.0 e.1 more in omega (arith, le)
few cfg s s2 (c ∷ rest) ys (r ∷ rows) (p, is, same, more) =
    let le = few cfg p.1 s2 p.2 ys rows more in
    let less = takes cfg s [] [] c rest p is in omega (arith, le, less)

none_from : (cfg : Config) (n : ℕ) (s : State) (xs : List ℕ) → next_record cfg s [] [] xs ≡ None → records_from cfg n s xs ≡ []
unfolding records_from
none_from cfg zero s xs h = refl
none_from cfg (suc n) s xs h = rw h refl

reached_from : (cfg : Config) (n : ℕ) (s s2 : State) (xs ys : List ℕ) (rows : List (List (List ℕ))) → length rows ≤ n → Reached cfg s xs rows s2 ys → next_record cfg s2 [] [] ys ≡ None → records_from cfg n s xs ≡ rows
unfolding records_from Reached
reached_from cfg n s s2 xs ys [] le reached none = none_from cfg n s xs (rw (reached.0, reached.1) none)
reached_from cfg zero s s2 xs ys (r ∷ rows) le reached none = absurd (omega arith)
reached_from cfg (suc n) s s2 xs ys (r ∷ rows) le (p, is, same, more) none =
    rw (is, reached_from cfg n p.1 s2 p.2 ys rows (omega arith) more none, same) refl

pub all_records : (cfg : Config) (xs : List ℕ) (rows : List (List (List ℕ))) → AreRecords cfg st.StartRecord xs rows → rows ≡ records cfg xs
all_records cfg xs rows (s2, ys, reached, none) = sym (reached_from cfg (length xs + 1) st.StartRecord s2 xs ys rows (few cfg st.StartRecord s2 xs ys rows reached) reached none)

shorter_bom : (b : Bool) (rest whole : List ℕ) → length rest ≤ length whole → length (cond b rest whole) ≤ length whole
shorter_bom b rest whole le = grind arith

-- a byte order mark that is left out leaves no more bytes
pub length-strip_bom : (bytes : List ℕ) → length (strip_bom bytes) ≤ length bytes
unfolding strip_bom
length-strip_bom [] = omega arith
length-strip_bom (a ∷ []) = omega arith
length-strip_bom (a ∷ b ∷ []) = omega arith
length-strip_bom (a ∷ b ∷ c ∷ rest) = shorter_bom (is_bom a b c) rest (a ∷ b ∷ c ∷ rest) (omega arith)
