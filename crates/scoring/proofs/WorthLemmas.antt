-- How much activities, legs and lateness are worth at most.
use Rattle.std.proofs.Common.{◌≡◌, ℕ, zero, suc, ◌+◌, ◌-◌, ◌*◌, ◌≤◌, true, ◌&&◌, inl, inr, nat_eq, nat_le, int_le, List, [], ◌∷◌, length, map, slice_get}
use Rattle.std.proofs.Common.{Option, None, Some, ℤ, pos, ◌+ℤ◌, ◌*ℤ◌, ◌≤ℤ◌, neg_ℤ, FitsSigned, w64, to_z, of_z, sym, ap, ◌∙◌, subst, arith}
use Rattle.std.proofs.lemmas.{Bool.and_parts, Bool.cases_Bool, Bool.Decides.nat_tests, Int.ints}
use Rattle.std.specs.{List.list_all, Option.option_map_or}
use Rattle.limits.specs.declared.TheConstants.{LAST_SECOND}
use Rattle.events.specs.declared.event.Mode.{Mode}
use Rattle.scoring.{proofs.Bounds.product-within, proofs.Bounds.code_same, proofs.PointsLemmas.value-within, specs.Limits.kind_of, specs.Limits.are_distinct}
use Rattle.scoring.specs.{Limits.is_right, Limits.are_tables, Limits.is_mode, Limits.are_costs, Points.Point, Points.is_point, Points.are_rising, Points.value}
use Rattle.scoring.specs.{Ranges.is_within, Ranges.IsWithin, Tables.table_of, Tables.activity_worth, Tables.place_of, Tables.leg_worth, Tables.latest_of}
use Rattle.scoring.specs.{Tables.seconds_late, declared.TheConstants.MAX_LEG_WORTH, declared.TheConstants.MAX_PER_SECOND, declared.TheConstants.MAX_POINTS}
use Rattle.scoring.specs.declared.{TheConstants.MAX_SCORE, TheConstants.MAX_TABLES, TheConstants.MAX_WORTH, table.ModeScore.ModeScore, table.Table.Table}

-- what the tests say
at_most : (a b : ℕ) → nat_le a b ≡ true → a ≤ b
at_most a b h = grind (arith, nat_tests)

within_both : (m z : ℤ) → is_within m z ≡ true → IsWithin m z
within_both m z h =
    let g = and_parts (int_le (neg_ℤ m) z) (int_le z m) h in
    let low = g.0 in let high = g.1 in (omega (arith, ints), omega (arith, ints))

pub record IsRight (points : List Point) : Type 0 where
  pub some : 1 ≤ length points
  pub within : list_all is_point points ≡ true
  pub rising : are_rising points ≡ true

pub right_points : (t : Table) → is_right t ≡ true → IsRight t.points
right_points t h =
    let some = nat_le 1 (length t.points) in
    let few = nat_le (length t.points) MAX_POINTS in
    let within = list_all is_point t.points in
    let rising = are_rising t.points in
    let a = and_parts (some && few && within && rising) (option_map_or (λ second. nat_le second LAST_SECOND) t.latest true) h in
    let b = and_parts (some && few && within) rising a.0 in
    let c = and_parts (some && few) within b.0 in
    let d = and_parts some few c.0 in
    record { some = at_most 1 (length t.points) d.0; within = c.1; rising = b.1 }

pub tables_right : (tables : List Table) → are_tables tables ≡ true → list_all is_right tables ≡ true
tables_right tables h =
    let a = and_parts (nat_le (length tables) MAX_TABLES && list_all is_right tables) (are_distinct (map kind_of tables)) h in
    (and_parts (nat_le (length tables) MAX_TABLES) (list_all is_right tables) a.0).1

pub record AreCosts (late_per_second stuck : ℤ) : Type 0 where
  pub late_low : neg_ℤ MAX_PER_SECOND ≤ℤ late_per_second
  pub late_high : late_per_second ≤ℤ pos 0
  pub stuck_low : neg_ℤ MAX_WORTH ≤ℤ stuck
  pub stuck_high : stuck ≤ℤ pos 0

pub costs_are : (late_per_second stuck : ℤ) → are_costs late_per_second stuck ≡ true → AreCosts late_per_second stuck
costs_are late stuck h =
    let a = and_parts (int_le (neg_ℤ MAX_PER_SECOND) late && int_le late (pos 0) && int_le (neg_ℤ MAX_WORTH) stuck) (int_le stuck (pos 0)) h in
    let b = and_parts (int_le (neg_ℤ MAX_PER_SECOND) late && int_le late (pos 0)) (int_le (neg_ℤ MAX_WORTH) stuck) a.0 in
    let c = and_parts (int_le (neg_ℤ MAX_PER_SECOND) late) (int_le late (pos 0)) b.0 in
    let w = c.0 in let x = c.1 in let y = b.1 in let z = a.1 in
    record { late_low = omega (arith, ints); late_high = omega (arith, ints); stuck_low = omega (arith, ints); stuck_high = omega (arith, ints) }

-- ---- activities

table-within : (t : Table) (x : ℕ) → is_right t ≡ true → IsWithin MAX_WORTH (value t.points x)
table-within t x h = let r = right_points t h in value-within t.points x r.some r.within r.rising

found-within : (tables : List Table) (kind x : ℕ) → list_all is_right tables ≡ true
    → IsWithin MAX_WORTH (option_map_or (λ (t : Table). value t.points x) (table_of tables kind) (pos 0))
found-within [] kind x all = (omega (arith, ints), omega (arith, ints))
found-within (t ∷ tables) kind x all =
    let parts = and_parts (is_right t) (list_all is_right tables) all in
    elim (cases_Bool (nat_eq t.kind kind)) [
      | inl here ↦ rw here (table-within t x parts.0)
      | inr other ↦ rw other (found-within tables kind x parts.1)
    ]

pub activity_worth-within : (tables : List Table) (kind x : ℕ) → are_tables tables ≡ true → IsWithin MAX_WORTH (activity_worth tables kind x)
unfolding activity_worth
activity_worth-within tables kind x h = found-within tables kind x (tables_right tables h)

some_same : (t u : Table) → Some t ≡ Some u → t ≡ u
some_same t u e = cc

-- the table that is found
pub found_right : (tables : List Table) (kind : ℕ) (t : Table) → list_all is_right tables ≡ true → Some t ≡ table_of tables kind → is_right t ≡ true
found_right [] kind t all e = cc
found_right (u ∷ tables) kind t all e =
    let parts = and_parts (is_right u) (list_all is_right tables) all in
    elim (cases_Bool (nat_eq u.kind kind)) [
      | inl here ↦ (let same : t ≡ u = some_same t u (rw here at e) in subst (λ (x : Table). is_right x ≡ true) (sym same) parts.0)
      | inr other ↦ found_right tables kind t parts.1 (rw other at e)
    ]

-- ---- legs

pub record IsMode (m : ModeScore) : Type 0 where
  pub constant_in : IsWithin MAX_WORTH m.constant
  pub per_second_in : IsWithin MAX_PER_SECOND m.per_second

pub mode_is : (m : ModeScore) → is_mode m ≡ true → IsMode m
mode_is m h =
    let g = and_parts (is_within MAX_WORTH m.constant) (is_within MAX_PER_SECOND m.per_second) h in
    record { constant_in = within_both MAX_WORTH m.constant g.0; per_second_in = within_both MAX_PER_SECOND m.per_second g.1 }

one_mode-within : (m : ModeScore) (x : ℕ) → IsMode m → x ≤ LAST_SECOND → IsWithin MAX_LEG_WORTH (m.constant +ℤ m.per_second *ℤ pos x)
one_mode-within m x h few =
    let c0 = h.constant_in.0 in let c1 = h.constant_in.1 in
    let p = product-within m.per_second x 1000000 LAST_SECOND h.per_second_in few in
    let p0 = p.0 in let p1 = p.1 in
    (omega (arith, ints), omega (arith, ints))

mode-within : (modes : List ModeScore) (k x : ℕ) → list_all is_mode modes ≡ true → x ≤ LAST_SECOND
    → IsWithin MAX_LEG_WORTH (option_map_or (λ (m : ModeScore). m.constant +ℤ m.per_second *ℤ pos x) (slice_get modes k) (pos 0))
mode-within [] k x all few = (omega (arith, ints), omega (arith, ints))
mode-within (m ∷ modes) zero x all few = one_mode-within m x (mode_is m (and_parts (is_mode m) (list_all is_mode modes) all).0) few
mode-within (m ∷ modes) (suc k) x all few = mode-within modes k x (and_parts (is_mode m) (list_all is_mode modes) all).1 few

pub found_mode : (modes : List ModeScore) (k : ℕ) (m : ModeScore) → list_all is_mode modes ≡ true → slice_get modes k ≡ Some m → IsMode m
found_mode [] k m all e = cc
found_mode (n ∷ modes) zero m all e =
    let parts = and_parts (is_mode n) (list_all is_mode modes) all in
    let same : n ≡ m = cc in
    subst IsMode same (mode_is n parts.0)
found_mode (n ∷ modes) (suc k) m all e = found_mode modes k m (and_parts (is_mode n) (list_all is_mode modes) all).1 e

pub leg_worth-within : (modes : List ModeScore) (mode : Mode) (x : ℕ) → list_all is_mode modes ≡ true → x ≤ LAST_SECOND
    → IsWithin MAX_LEG_WORTH (leg_worth modes mode x)
unfolding leg_worth
leg_worth-within modes mode x all few = mode-within modes (place_of mode) x all few

-- ---- lateness

late-most : (latest : Option ℕ) (t : ℕ) → option_map_or (λ l. t - l) latest 0 ≤ t
late-most None t = omega arith
late-most (Some l) t = omega arith

pub seconds_late-most : (tables : List Table) (kind t : ℕ) → seconds_late tables kind t ≤ t
unfolding seconds_late
seconds_late-most tables kind t = late-most (latest_of tables kind) t

-- ---- what the code computes, where numbers go through 64 bits

-- a constant, and so much for each second
mode_code : (m : ModeScore) (x : ℕ) (z : ℤ) → IsMode m → x ≤ LAST_SECOND → z ≡ pos x
    → to_z w64 (of_z w64 (to_z w64 (of_z w64 m.constant) +ℤ to_z w64 (of_z w64 (to_z w64 (of_z w64 m.per_second) *ℤ to_z w64 (of_z w64 z)))))
    ≡ m.constant +ℤ m.per_second *ℤ pos x
mode_code m x z h few e =
    let c0 = h.constant_in.0 in let c1 = h.constant_in.1 in
    let p0 = h.per_second_in.0 in let p1 = h.per_second_in.1 in
    let g = product-within m.per_second x 1000000 LAST_SECOND h.per_second_in few in
    let g0 = g.0 in let g1 = g.1 in
    let second : to_z w64 (of_z w64 z) ≡ pos x = ap (λ (y : ℤ). to_z w64 (of_z w64 y)) e ∙ code_same (pos x) (omega (arith, ints), omega (arith, ints)) in
    let each : to_z w64 (of_z w64 m.per_second) ≡ m.per_second = code_same m.per_second (omega (arith, ints), omega (arith, ints)) in
    rw (second, each) (omega (arith, ints))

some_worth : (m : ModeScore) (found : Option ModeScore) (x : ℕ) → found ≡ Some m
    → m.constant +ℤ m.per_second *ℤ pos x ≡ option_map_or (λ (n : ModeScore). n.constant +ℤ n.per_second *ℤ pos x) found (pos 0)
some_worth m found x e = rw e

pub leg_code : (modes : List ModeScore) (mode : Mode) (m : ModeScore) (x : ℕ) (z : ℤ) → slice_get modes (place_of mode) ≡ Some m → IsMode m → x ≤ LAST_SECOND → z ≡ pos x
    → to_z w64 (of_z w64 (to_z w64 (of_z w64 m.constant) +ℤ to_z w64 (of_z w64 (to_z w64 (of_z w64 m.per_second) *ℤ to_z w64 (of_z w64 z)))))
    ≡ leg_worth modes mode x
unfolding leg_worth
leg_code modes mode m x z e h few seconds = mode_code m x z h few seconds ∙ some_worth m (slice_get modes (place_of mode)) x e

-- seconds of lateness, and what each costs
late_code : (p : ℤ) (x : ℕ) (z : ℤ) → IsWithin (pos 1000000) p → x ≤ LAST_SECOND → z ≡ pos x → to_z w64 (of_z w64 p) *ℤ to_z w64 (of_z w64 z) ≡ p *ℤ pos x
late_code p x z p_in few e =
    let p0 = p_in.0 in let p1 = p_in.1 in
    let second : to_z w64 (of_z w64 z) ≡ pos x = ap (λ (y : ℤ). to_z w64 (of_z w64 y)) e ∙ code_same (pos x) (omega (arith, ints), omega (arith, ints)) in
    let each : to_z w64 (of_z w64 p) ≡ p = code_same p (omega (arith, ints), omega (arith, ints)) in
    rw (second, each)

-- the same of a leg: what its seconds are worth, and its constant with that
pub mode_product_fits : (m : ModeScore) (x : ℕ) (z : ℤ) → IsMode m → x ≤ LAST_SECOND → z ≡ pos x
    → FitsSigned w64 (to_z w64 (of_z w64 m.per_second) *ℤ to_z w64 (of_z w64 z))
mode_product_fits m x z h few e =
    let g = product-within m.per_second x 1000000 LAST_SECOND h.per_second_in few in let g0 = g.0 in let g1 = g.1 in
    rw (late_code m.per_second x z h.per_second_in few e) (omega (arith, ints))

pub mode_sum_fits : (m : ModeScore) (x : ℕ) (z : ℤ) → IsMode m → x ≤ LAST_SECOND → z ≡ pos x
    → FitsSigned w64 (to_z w64 (of_z w64 m.constant) +ℤ to_z w64 (of_z w64 (to_z w64 (of_z w64 m.per_second) *ℤ to_z w64 (of_z w64 z))))
mode_sum_fits m x z h few e =
    let c0 = h.constant_in.0 in let c1 = h.constant_in.1 in
    let g = product-within m.per_second x 1000000 LAST_SECOND h.per_second_in few in let g0 = g.0 in let g1 = g.1 in
    rw (late_code m.per_second x z h.per_second_in few e) (omega (arith, ints))

pub late_sum_fits : (s p : ℤ) (x : ℕ) (z : ℤ) → IsWithin MAX_SCORE s → IsWithin (pos 1000000) p → x ≤ LAST_SECOND → z ≡ pos x
    → FitsSigned w64 (to_z w64 (of_z w64 s) +ℤ to_z w64 (of_z w64 (to_z w64 (of_z w64 p) *ℤ to_z w64 (of_z w64 z))))
late_sum_fits s p x z s_in p_in few e =
    let s0 = s_in.0 in let s1 = s_in.1 in
    let g = product-within p x 1000000 LAST_SECOND p_in few in let g0 = g.0 in let g1 = g.1 in
    rw (late_code p x z p_in few e) (omega (arith, ints))

pub late_sum_same : (s p : ℤ) (x : ℕ) (z : ℤ) → IsWithin MAX_SCORE s → IsWithin (pos 1000000) p → x ≤ LAST_SECOND → z ≡ pos x
    → to_z w64 (of_z w64 (to_z w64 (of_z w64 s) +ℤ to_z w64 (of_z w64 (to_z w64 (of_z w64 p) *ℤ to_z w64 (of_z w64 z))))) ≡ s +ℤ p *ℤ pos x
late_sum_same s p x z s_in p_in few e =
    let s0 = s_in.0 in let s1 = s_in.1 in
    let g = product-within p x 1000000 LAST_SECOND p_in few in let g0 = g.0 in let g1 = g.1 in
    rw (late_code p x z p_in few e) (omega (arith, ints))

-- a sum, and two numbers that are added to it
pub three_same : (s v u : ℤ) → IsWithin MAX_SCORE s → IsWithin MAX_LEG_WORTH v → IsWithin MAX_WORTH u
    → to_z w64 (of_z w64 (to_z w64 (of_z w64 s) +ℤ to_z w64 (of_z w64 (to_z w64 (of_z w64 v) +ℤ to_z w64 (of_z w64 u))))) ≡ s +ℤ (v +ℤ u)
three_same s v u f g h =
    let f0 = f.0 in let f1 = f.1 in let g0 = g.0 in let g1 = g.1 in let h0 = h.0 in let h1 = h.1 in omega (arith, ints)
