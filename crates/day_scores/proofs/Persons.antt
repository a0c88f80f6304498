-- The events of a person, one event more.
use Rattle.std.proofs.Common.{◌≡◌, ℕ, suc, ◌+◌, ◌<◌, true, false, nat_eq, List, [], ◌∷◌, ◌++◌, length, get_or, take, drop, Some, sym, ap, ◌∙◌, subst}
use Rattle.std.proofs.{Common.append-nil, Common.append_assoc, Common.length-append, Common.arith, Math.Seq.drop-cons, Math.Seq.get_or-append_seam}
use Rattle.std.proofs.{Math.Seq.take-append_seam, lemmas.List.take-append-drop, lemmas.List.Elements.filter-append}
use Rattle.events.specs.{Persons.names, Persons.of_person, Persons.own_events, declared.event.Event.Event}
use Rattle.scoring.specs.Taken.{MayFollow, AllFollow}
use Rattle.day_scores.specs.Standing.{AllCome, AreScored}

-- an event of somebody else
pub own-other : (i : ℕ) (es : List Event) (e : Event) → of_person i e ≡ false → own_events i (es ++ e ∷ []) ≡ own_events i es
own-other i es e other = filter-append (of_person i) es (e ∷ []) ∙ rw other (append-nil (own_events i es))

-- an event of his
pub own-more : (i : ℕ) (es : List Event) (e : Event) → of_person i e ≡ true
    → own_events i (es ++ e ∷ []) ≡ own_events i es ++ e ∷ []
own-more i es e his = filter-append (of_person i) es (e ∷ []) ∙ rw his

-- an event that names another person, and one that names him
pub another : (i j : ℕ) (e : Event) → e.person ≡ Some j → nat_eq j i ≡ false → of_person i e ≡ false
another i j e is other = ap (names i) is ∙ other

pub himself : (i j : ℕ) (e : Event) → e.person ≡ Some j → nat_eq j i ≡ true → of_person i e ≡ true
himself i j e is same = ap (names i) is ∙ same

-- an event of the day is one of the person's own, behind those of his that come before it
follows_split : (i : ℕ) (before later : List Event) (e : Event) → of_person i e ≡ true
    → AllFollow (own_events i (before ++ e ∷ later)) → MayFollow (own_events i before) e
follows_split i before later e his all =
    let xs = own_events i before in
    let ys = own_events i later in
    let own = own_events i (before ++ e ∷ later) in
    let his_own : own_events i (e ∷ later) ≡ e ∷ ys = rw his in
    let parts : own ≡ xs ++ e ∷ ys =
    filter-append (of_person i) before (e ∷ later) ∙ ap (λ (rest : List Event). xs ++ rest) his_own in
    let at : get_or own (length xs) e ≡ e = ap (λ (l : List Event). get_or l (length xs) e) parts ∙ get_or-append_seam xs e ys e in
    let front : take (length xs) own ≡ xs = ap (λ (l : List Event). take (length xs) l) parts ∙ take-append_seam xs (e ∷ ys) in
    let count : length xs < length own = omega (arith, ap (λ (l : List Event). length l) parts, length-append xs (e ∷ ys)) in
    subst (MayFollow xs) at (subst (λ (l : List Event). MayFollow l (get_or own (length xs) e)) front (all (length xs) count e))

-- a day, cut before one event of a piece of it
piece_split : (taken events rest : List Event) (k : ℕ) (d : Event) → k < length events
    → (taken ++ events) ++ rest ≡ (taken ++ take k events) ++ get_or events k d ∷ (drop (suc k) events ++ rest)
piece_split taken events rest k d here =
    let front : List Event = take k events in
    let back : List Event = drop (suc k) events in
    let e : Event = get_or events k d in
    let split : events ≡ front ++ e ∷ back =
    sym (take-append-drop k events) ∙ ap (λ (l : List Event). take k events ++ l) (drop-cons events k d here) in
    ap (λ (l : List Event). (taken ++ l) ++ rest) split
    ∙ ap (λ (l : List Event). l ++ rest) (sym (append_assoc taken front (e ∷ back)))
    ∙ append_assoc (taken ++ front) (e ∷ back) rest

-- where the events of each person follow one another in a day, each event of a piece of the day may come behind those before it
pub piece_comes : (n : ℕ) (taken events rest : List Event) → AreScored n ((taken ++ events) ++ rest) → AllCome n taken events
piece_comes n taken events rest scored = λ k here d. record {
  follows = λ i there his.
      follows_split i (taken ++ take k events) (drop (suc k) events ++ rest) (get_or events k d) his
      (subst (λ (l : List Event). AllFollow (own_events i l)) (piece_split taken events rest k d here) (scored i there));
}
