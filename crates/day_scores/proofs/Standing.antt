-- Scorers that take the events of a day stand for them.
use Rattle.std.proofs.Common.{◌≡◌, ◌≢◌, ℕ, zero, suc, ◌+◌, ◌<◌, nat_eq, List, [], ◌∷◌, ◌++◌, length, map, get_or, take, Some, refl, sym, ap, ◌∙◌, subst, inl}
use Rattle.std.proofs.{Common.inr, Common.append_assoc, Common.length-append, Common.arith, Math.ListN.set, Math.ListN.get_or-append, Math.ListN.get_or-map}
use Rattle.std.proofs.{Math.Seq.get_or-append_seam, lemmas.Bool.cases_Bool, lemmas.Bool.cases_lt, lemmas.Bool.eq-eqb, lemmas.Bool.eqb-true}
use Rattle.std.proofs.lemmas.{Grind.get_or-set_at, List.length-set, List.get_or-set_other, List.set-get_or, List.length-map, List.map-append, List.take_more}
use Rattle.events.specs.{Persons.own_events, declared.event.Event.Event}
use Rattle.scoring.specs.{Tables.ScoringRows, Taken.first_kind_of, Taken.IsTakenBy, declared.scorer.Scorer.Scorer}
use Rattle.day_scores.specs.Standing.{StandFor, MayCome, AllCome}
use Rattle.day_scores.proofs.Persons.{own-other, own-more, another, himself}

-- ---- new scorers

-- one scorer more that has taken nothing
pub stand-push : (R : ScoringRows) (ss : List Scorer) (s : Scorer) → StandFor R ss [] → IsTakenBy R s []
    → StandFor R (ss ++ s ∷ []) []
stand-push R ss s H new = record {
  each = λ i d here. elim (cases_lt i (length ss)) [
    | inl before ↦ subst (λ (x : Scorer). IsTakenBy R x []) (sym (get_or-append ss (s ∷ []) d i before)) (H.each i d before)
    | inr last ↦
        let same : i ≡ length ss = omega (arith, length-append ss (s ∷ [])) in
        let at : get_or (ss ++ s ∷ []) i d ≡ s = ap (λ (k : ℕ). get_or (ss ++ s ∷ []) k d) same ∙ get_or-append_seam ss s [] d in
        subst (λ (x : Scorer). IsTakenBy R x []) (sym at) new
  ];
}

-- ---- one event more

-- that names one of the persons
pub person_named : (R : ScoringRows) (ss : List Scorer) (es : List Event) (e : Event) (j : ℕ) (s : Scorer) → e.person ≡ Some j
    → j < length ss
    → IsTakenBy R s (own_events j es ++ e ∷ []) → StandFor R ss es → StandFor R (set ss j s) (es ++ e ∷ [])
person_named R ss es e j s is there taken H = record {
  each = λ i d here. elim (cases_Bool (nat_eq j i)) [
    | inl same ↦
        let equal : j ≡ i = eqb-true j i same in
        let at : get_or (set ss j s) i d ≡ s = get_or-set_at ss j i s d (sym equal) there in
        let own : own_events i (es ++ e ∷ []) ≡ own_events j es ++ e ∷ [] =
        own-more i es e (himself i j e is same) ∙ ap (λ (k : ℕ). own_events k es ++ e ∷ []) (sym equal) in
        subst (λ (x : Scorer). IsTakenBy R x (own_events i (es ++ e ∷ []))) (sym at) (subst (IsTakenBy R s) (sym own) taken)
    | inr other ↦
        let few : i < length ss = omega (arith, length-set ss j s) in
        let apart : i ≢ j = λ equal. let x = eq-eqb j i (sym equal) in cc in
        let at : get_or (set ss j s) i d ≡ get_or ss i d = get_or-set_other ss j i s d apart in
        subst (λ (x : Scorer). IsTakenBy R x (own_events i (es ++ e ∷ []))) (sym at)
        (subst (IsTakenBy R (get_or ss i d)) (sym (own-other i es e (another i j e is other))) (H.each i d few))
  ];
}

-- ---- the kinds stay

kind-set : (ss : List Scorer) (j : ℕ) (s : Scorer) → set (map first_kind_of ss) j (first_kind_of s) ≡ map first_kind_of (set ss j s)
kind-set [] j s = refl
kind-set (x ∷ ss) zero s = refl
kind-set (x ∷ ss) (suc j) s = ap (λ (ks : List ℕ). first_kind_of x ∷ ks) (kind-set ss j s)

-- a scorer of the same kind in a place changes no kind
pub kinds-set : (ss : List Scorer) (j : ℕ) (d s : Scorer) → j < length ss → first_kind_of s ≡ first_kind_of (get_or ss j d)
    → map first_kind_of (set ss j s) ≡ map first_kind_of ss
kinds-set ss j d s there same =
    sym (kind-set ss j s) ∙ ap (λ (k : ℕ). set (map first_kind_of ss) j k) (same ∙ sym (get_or-map first_kind_of ss j d))
    ∙ set-get_or (map first_kind_of ss) j (first_kind_of d)

-- ---- all scorers, one kind more

pub kinds-push : (ss : List Scorer) (s : Scorer) (kinds : List ℕ) (i : ℕ) (d : ℕ) → i < length kinds
    → first_kind_of s ≡ get_or kinds i d
    → map first_kind_of ss ≡ take i kinds → map first_kind_of (ss ++ s ∷ []) ≡ take (i + 1) kinds
kinds-push ss s kinds i d here kind so_far =
    map-append first_kind_of ss (s ∷ []) ∙ ap (λ (ks : List ℕ). ks ++ first_kind_of s ∷ []) so_far
    ∙ ap (λ (k : ℕ). take i kinds ++ k ∷ []) kind ∙ sym (take_more kinds i d here)

-- as many kinds as scorers
pub kinds-count : (ss : List Scorer) (kinds : List ℕ) → map first_kind_of ss ≡ kinds → length kinds ≡ length ss
kinds-count ss kinds e = sym (ap (λ (ks : List ℕ). length ks) e) ∙ length-map ss first_kind_of

-- one event more of a piece, behind those that were taken before the piece and those before it in the piece
pub come-more : (R : ScoringRows) (ss rs : List Scorer) (n : ℕ) (taken es : List Event) (i : ℕ) (d : Event) → i < length es
    → n ≡ length ss
    → AllCome n taken es → StandFor R ss (taken ++ take i es)
    → ((before : List Event) → StandFor R ss before → MayCome (length ss) before (get_or es i d)
    → StandFor R rs (before ++ get_or es i d ∷ []))
    → StandFor R rs (taken ++ take (i + 1) es)
come-more R ss rs n taken es i d here count comes stands goes =
    let longer : (taken ++ take i es) ++ get_or es i d ∷ [] ≡ taken ++ take (i + 1) es =
    append_assoc taken (take i es) (get_or es i d ∷ []) ∙ ap (λ (l : List Event). taken ++ l) (sym (take_more es i d here)) in
    subst (StandFor R rs) longer
    (goes (taken ++ take i es) stands (subst (λ (m : ℕ). MayCome m (taken ++ take i es) (get_or es i d)) count (comes i here d)))

-- an event of a piece may come behind those before it, by as many scorers
pub come-next : (n m : ℕ) (taken es : List Event) (i : ℕ) (d : Event) → i < length es → n ≡ m → AllCome n taken es
    → MayCome m (taken ++ take i es) (get_or es i d)
come-next n m taken es i d here count comes =
    subst (λ (k : ℕ). MayCome k (taken ++ take i es) (get_or es i d)) count (comes i here d)
