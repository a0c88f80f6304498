-- Whether somebody is on a link.
use Rattle.std.proofs.Common.{◌≡◌, Bool, true, false, List, [], ◌∷◌, refl, sym}
use Rattle.std.{proofs.lemmas.Bool.and_parts, proofs.lemmas.Bool.true≢false, specs.Prelude.IsTrue, specs.Prelude.◌↔◌, specs.Prelude.◌&&◌}
use Rattle.traffic.specs.{Lists.is_nil, declared.world.Row.Row}

pub nil_is : {X : Type 0} (xs : List X) → is_nil xs ≡ true → xs ≡ []
nil_is [] e = refl
nil_is (x ∷ xs) e = absurd (true≢false (sym e))

is_true : (b c : Bool) → (b ≡ true → c ≡ true) → (c ≡ true → b ≡ true) → b ≡ c
is_true true c f g = sym (f refl)
is_true false true f g = g refl
is_true false false f g = refl

nil_all : (q w y : List Row) → (q ≡ []) × (w ≡ []) × (y ≡ []) → (is_nil q && (is_nil w && is_nil y)) ≡ true
nil_all q w y h = rw (h.0, h.1, h.2) refl

pub clear_is : (b : Bool) (q w y : List Row) → IsTrue b ↔ ((q ≡ []) × (w ≡ []) × (y ≡ [])) → b ≡ (is_nil q && (is_nil w && is_nil y))
clear_is b q w y h =
    is_true b (is_nil q && (is_nil w && is_nil y)) (λ e. nil_all q w y (h.0 e))
    (λ e. (let p = and_parts (is_nil q) (is_nil w && is_nil y) e in let r = and_parts (is_nil w) (is_nil y) p.1 in
    h.1 (nil_is q p.0, nil_is w r.0, nil_is y r.1)))
