-- Pieces of a day, one event after the other.
use Rattle.std.proofs.Common.{◌≡◌, ℕ, ◌+◌, ◌<◌, ◌≤◌, List, [], ◌∷◌, ◌++◌, length, get_or, take, drop, sym, ◌∙◌, ap, subst, append_assoc, append-nil}
use Rattle.std.proofs.{Common.length-append, Common.arith, Math.ListN.get_or-append, lemmas.List.take_more, lemmas.List.take-append-drop, lemmas.List.take_all}
use Rattle.std.specs.Prelude.{IfSome}
use Rattle.events.specs.declared.event.Event.{Event}
use Rattle.travel_times.specs.{Known.Knows, Observed.AreInOrder, Observed.AreOnLinks, Tallies.IsPiece, declared.observations.Observations.Observations}

pub order_front : (xs ys : List Event) → AreInOrder (xs ++ ys) → AreInOrder xs
order_front xs ys h = λ i j d less here.
    let long = length-append xs ys in
    let before : i < length xs = omega arith in
    let first = ap (λ (e : Event). e.key.second) (get_or-append xs ys d i before) in
    let second = ap (λ (e : Event). e.key.second) (get_or-append xs ys d j here) in
    let s = h i j d less (omega arith) in
    omega arith

pub links_front : (links : ℕ) (xs ys : List Event) → AreOnLinks links (xs ++ ys) → AreOnLinks links xs
links_front links xs ys h = λ i d here.
    let long = length-append xs ys in
    let P : Event → Type 0 = λ e. IfSome e.link (λ link. link < links) in
    subst P (get_or-append xs ys d i here) (h i d (omega arith))

-- one event more
pub piece_more : (taken es : List Event) (i : ℕ) (d : Event) → i < length es
    → (taken ++ take i es) ++ get_or es i d ∷ [] ≡ taken ++ take (i + 1) es
piece_more taken es i d here =
    append_assoc taken (take i es) (get_or es i d ∷ []) ∙ ap (λ (l : List Event). taken ++ l) (sym (take_more es i d here))

-- an event of a piece is a piece behind those before it
pub piece_next : (n m : ℕ) (taken es : List Event) (i : ℕ) (d : Event) → i < length es → m ≡ n → IsPiece n taken es
    → IsPiece m (taken ++ take i es) (get_or es i d ∷ [])
piece_next n m taken es i d here same piece =
    let front : List Event = (taken ++ take i es) ++ get_or es i d ∷ [] in
    let rest : List Event = drop (i + 1) es in
    let whole : taken ++ es ≡ front ++ rest =
    ap (λ (l : List Event). taken ++ l) (sym (take-append-drop (i + 1) es)) ∙ sym (append_assoc taken (take (i + 1) es) rest)
    ∙ ap (λ (l : List Event). l ++ rest) (sym (piece_more taken es i d here)) in
    subst (λ (k : ℕ). IsPiece k (taken ++ take i es) (get_or es i d ∷ [])) (sym same) (record {
      order = order_front front rest (subst AreInOrder whole piece.order);
      on_links = links_front n front rest (subst (AreOnLinks n) whole piece.on_links);
      few =
          let fits = piece.few in
          let long = ap (λ (l : List Event). length l) whole in
          let parts = length-append front rest in
          omega arith;
    })

-- before the first event of a piece, and behind the last one
pub piece_begin : (known : Observations) (taken : List Event) → Knows known taken → Knows known (taken ++ [])
piece_begin known taken h = subst (Knows known) (sym (append-nil taken)) h

pub piece_end : (known : Observations) (taken es : List Event) (i : ℕ) → length es ≤ i → Knows known (taken ++ take i es)
    → Knows known (taken ++ es)
piece_end known taken es i done h = subst (λ (l : List Event). Knows known (taken ++ l)) (take_all i es done) h
