-- In a file without a fault each signal has a cycle of 1 to 3,600 seconds and an offset below it, and no conflict that is left is a clash.
use Rattle.records.proofs.Common.{◌≡◌, List, ℕ, length, ◌∙◌, arith, [], sym, None, Some, ◌∷◌, refl, Option, ◌+◌, get_or, ◌≤◌, take, subst, true, false, Bool}
use Rattle.records.proofs.Common.{cond, suc, zero, not, ◌||◌, Reason, field, holds_name, Row, nat_eq, nat_le, nat_lt, is_none, unwrap_or, take_all}
use Rattle.records.proofs.Unrefused.{none_applies, number_in_range, each_none}
use Rattle.records.specs.{Fields.is_blank, Files.optional_head_reason, Files.body_of}
use Rattle.std.proofs.lemmas.Bool.{or_parts, and_parts, leb-true, ltb-true, not-false, false≢true}
use Rattle.std.proofs.lemmas.List.Elements.{All-replicate, All-set, All-map, All-weaker, All-from_recursion, recursion_from_All}
use Rattle.std.specs.{List.list_all, List.AllByRecursion as Each, Prelude.find, Prelude.map, Prelude.option_map, Prelude.All}
use Rattle.edge_files.specs.declared.reasons.Reason.TheVariants as reason
use Rattle.limits.specs.declared.TheConstants.{MAX_CYCLE, MAX_SPANS}
use Rattle.rows.specs.Greens.{Phases, IsLawful, always, green_at}
use Rattle.signals.proofs.{Exact.clash_decides, Steps.seen_more}
use Rattle.signals.specs.Rows.{signals_header, Seen, link_in, texts_in, cycle_in, offset_in, phases_in, has_bad_number, has_signal, is_wrong, texts_reason}
use Rattle.signals.specs.Rows.{signal_reason, kind_of, kind_reason, row_reason, with_kind, with_row, with_rows, seen_in}
use Rattle.signals.specs.Signals.{reason_at, rows_fault, signals_fault, or_always, signal_rows_of, is_clash, first_clash, clash_fault, AreNeverGreen}
use Rattle.signals.specs.{Spans.has_numbers, Spans.span_of, Spans.ascend, declared.conflict.Conflict.Conflict, declared.kinds.RowKind.RowKind}
use Rattle.signals.specs.declared.kinds.RowKind.TheVariants as kind

-- a signal against whose row nothing speaks
row_lawful : (links : List (List ℕ)) (signals : List (Option Phases)) (row : Row) → signal_reason links signals row ≡ None → IsLawful (phases_in row)
unfolding texts_reason phases_in
row_lawful links signals row none =
    let a = none_applies (not (is_blank row 2)) reason.FieldCount _ none in
    let b = none_applies (not (holds_name row 1)) reason.BadName _ a.1 in
    let c = none_applies (has_bad_number row (texts_in row)) reason.BadNumber _ b.1 in
    let d = none_applies (has_signal signals (link_in links row)) reason.Twice _ c.1 in
    let e = none_applies (is_none (link_in links row)) reason.Unknown _ d.1 in
    let f = none_applies (nat_lt MAX_SPANS (length (texts_in row))) reason.TooMany _ e.1 in
    let g = none_applies (is_wrong row (texts_in row)) reason.SignalWrong _ f.1 in
    let texts = texts_in row in
    let cycle = unwrap_or (cycle_in row) 0 in
    let offset = unwrap_or (offset_in row) 0 in
    let numbers = or_parts (is_none (cycle_in row) || is_none (offset_in row)) (not (list_all has_numbers texts)) c.0 in
    let known = or_parts (is_none (cycle_in row)) (is_none (offset_in row)) numbers.0 in
    let range = and_parts (nat_le 1 cycle) (nat_le cycle MAX_CYCLE) (number_in_range 1 MAX_CYCLE (field row 3) known.0) in
    let right = or_parts (not (nat_lt offset cycle) || not (list_all (λ text. text.is_span) texts)) (not (ascend cycle 0 (map span_of texts))) g.0 in
    let before = or_parts (not (nat_lt offset cycle)) (not (list_all (λ text. text.is_span) texts)) right.0 in
    record {
      least = leb-true 1 cycle range.0;
      most = leb-true cycle MAX_CYCLE range.1;
      offset = ltb-true offset cycle (not-false (nat_lt offset cycle) before.0);
    }

-- a link has no signal, or such a one
abbrev IsSound : Option Phases → Type 0
IsSound None = Unit {0}
IsSound (Some p) = IsLawful p

kind_sound : (links : List (List ℕ)) (ends : List (ℕ × ℕ)) (number : ℕ) (row : Row) (seen : Seen) (k : RowKind) → kind_reason links ends seen row k ≡ None → All IsSound seen.signals → All IsSound (with_kind links number row seen k).signals
unfolding kind_reason with_kind
kind_sound links ends number row seen kind.Signal none sound = All-set IsSound seen.signals (unwrap_or (link_in links row) 0) (Some (phases_in row)) (row_lawful links seen.signals row none) sound
kind_sound links ends number row seen kind.Conflict none sound = sound
kind_sound links ends number row seen kind.Neither none sound = sound

then_none : (b : Bool) (o : Option Reason) (why : Reason) → cond b o (Some why) ≡ None → o ≡ None
then_none true o why h = h
then_none false o why h = cc

row_sound : (links : List (List ℕ)) (ends : List (ℕ × ℕ)) (number : ℕ) (row : Row) (seen : Seen) → row_reason links ends seen row ≡ None → All IsSound seen.signals → All IsSound (with_row links number row seen).signals
unfolding row_reason
row_sound links ends number row seen none sound = kind_sound links ends number row seen (kind_of row) (then_none (nat_eq (length row) 6) _ reason.FieldCount none) sound

sound_to : (head : Option Reason) (links : List (List ℕ)) (ends : List (ℕ × ℕ)) (rows : List Row) (n : ℕ) → n ≤ length rows → rows_fault head links ends rows ≡ None → All IsSound (seen_in links (take n rows)).signals
unfolding with_rows rows_fault reason_at
sound_to head links ends rows zero le none = All-replicate IsSound (length links) None tt
sound_to head links ends rows (suc n) le none =
    let before = sound_to head links ends rows n (omega arith) none in
    let free = each_none head (reason_at links ends rows) (length rows) n (omega arith) none in
    let after = row_sound links ends (n + 1) (get_or rows n []) (seen_in links (take n rows)) free before in
    let e : n + 1 ≡ suc n = omega arith in
    subst (λ (m : ℕ). All IsSound (seen_in links (take m rows)).signals) e (subst (λ (s : Seen). All IsSound s.signals) (sym (seen_more links rows n (omega arith))) after)

lawful_always : IsLawful always
lawful_always = record { least = omega arith; most = omega arith; offset = omega arith }

lawful_or : (o : Option Phases) → IsSound o → IsLawful (or_always o)
lawful_or None h = lawful_always
lawful_or (Some p) h = h

at_lawful : (greens : List Phases) (link : ℕ) → Each IsLawful greens → IsLawful (green_at greens link)
at_lawful [] link each = lawful_always
at_lawful (p ∷ ps) zero each = each.0
at_lawful (p ∷ ps) (suc link) each = at_lawful ps link each.1

-- the signal of each link
pub green_lawful : (links : List (List ℕ)) (ends : List (ℕ × ℕ)) (bytes : List ℕ) → signals_fault links ends bytes ≡ None → (link : ℕ) → IsLawful (green_at (signal_rows_of links (body_of bytes)).greens link)
green_lawful links ends bytes none link =
    let rows = body_of bytes in
    let all = sound_to (optional_head_reason signals_header bytes) links ends rows (length rows) (omega arith) none in
    let whole = subst (λ (l : List Row). All IsSound (seen_in links l).signals) (take_all (length rows) rows (omega arith)) all in
    let each = All-map IsLawful or_always (seen_in links rows).signals (All-weaker IsSound (λ o. IsLawful (or_always o)) lawful_or (seen_in links rows).signals whole) in
    at_lawful (signal_rows_of links rows).greens link (recursion_from_All IsLawful (signal_rows_of links rows).greens each)

-- CONFLICTS
found_not : (b : Bool) (c : Conflict) (o : Option Conflict) → cond b (Some c) o ≡ None → (b ≡ false) × (o ≡ None)
found_not true c o h = cc
found_not false c o h = (refl, h)

none_found : (greens : List Phases) (conflicts : List Conflict) → find (is_clash greens) conflicts ≡ None → Each (λ (c : Conflict). is_clash greens c ≡ false) conflicts
none_found greens [] none = tt
none_found greens (c ∷ cs) none = let parts = found_not (is_clash greens c) c (find (is_clash greens) cs) none in (parts.0, none_found greens cs parts.1)

map_none : {A B : Type 0} (f : A → B) (o : Option A) → option_map f o ≡ None → o ≡ None
map_none f None h = refl
map_none f (Some x) h = cc

-- where no conflict is a fault
pub never_both : (links : List (List ℕ)) (ends : List (ℕ × ℕ)) (bytes : List ℕ) → signals_fault links ends bytes ≡ None → clash_fault (signal_rows_of links (body_of bytes)) ≡ None
    → All (AreNeverGreen (signal_rows_of links (body_of bytes)).greens) (signal_rows_of links (body_of bytes)).conflicts
unfolding first_clash
never_both links ends bytes free none =
    let S = signal_rows_of links (body_of bytes) in
    let lawful = green_lawful links ends bytes free in
    All-weaker (λ (c : Conflict). is_clash S.greens c ≡ false) (AreNeverGreen S.greens)
    (λ c h t link other. false≢true (sym h ∙ (clash_decides (green_at S.greens c.link) (green_at S.greens c.other) (lawful c.link) (lawful c.other)).1 (t, link, other))) S.conflicts
    (All-from_recursion (λ (c : Conflict). is_clash S.greens c ≡ false) S.conflicts (none_found S.greens S.conflicts (map_none _ (find (is_clash S.greens) S.conflicts) none)))
