-- The order of keys is strict and total.
use Rattle.std.proofs.Common.{◌≡◌, ◌+◌, true, false, List, [], ◌∷◌, arith, All, suc}
use Rattle.std.proofs.lemmas.List.{Elements.All-from_get_or, Elements.All-nil, Elements.All-cons, Sorted.sorted_far}
use Rattle.std.specs.{Cmp.IsStrictWeakOrder, List.Sorted.IsSortedBy}
use Rattle.traffic.{proofs.Common.nat_tests, specs.Frames.AreAfter}
use Rattle.itertools.proofs.KMergeLemmas.{sorted-cons}
use Rattle.events.specs.{Keys.key_before, declared.event.Event.Event, declared.event.Key.Key}
use Rattle.event_merge.specs.Lists.{comes_before}

one_way : (a b : Key) → key_before a b ≡ true → key_before b a ≡ false
unfolding key_before
one_way a b h = grind (arith, nat_tests)

chain : (a b c : Key) → key_before a b ≡ false → key_before b c ≡ false → key_before a c ≡ false
unfolding key_before
chain a b c h g = grind (arith, nat_tests)

pub never_itself : (a : Key) → key_before a a ≡ false
unfolding key_before
never_itself a = grind (arith, nat_tests)

-- two keys of which none comes before the other are one
pub same_key : (a b : Key) → key_before a b ≡ false → key_before b a ≡ false → a ≡ b
unfolding key_before
same_key a b h g =
    let t : a.second ≡ b.second = grind (arith, nat_tests) in
    let p : a.phase ≡ b.phase = grind (arith, nat_tests) in
    let n : a.number ≡ b.number = grind (arith, nat_tests) in
    let i : a.index ≡ b.index = grind (arith, nat_tests) in
    λ x. record { second = t x; phase = p x; number = n x; index = i x }

pub order_of_keys : IsStrictWeakOrder comes_before
order_of_keys = record { one_way = λ a b h. one_way a.key b.key h; chain = λ a b c h g. chain a.key b.key c.key h g }

-- no later event of a sorted list comes before its first
pub after_first : (x : Event) (xs : List Event) → IsSortedBy comes_before (x ∷ xs) → All (λ y. comes_before y x ≡ false) xs
after_first x xs up = All-from_get_or (λ y. comes_before y x ≡ false) xs x (λ i b. let e : i + 1 ≡ suc i = omega arith in rw e at (sorted_far comes_before order_of_keys (x ∷ xs) up 0 (i + 1) x (omega arith) (omega (arith, b))))

-- those after an event do not come before it
not_before : (x : Event) (xs : List Event) → AreAfter x xs → All (λ y. comes_before y x ≡ false) xs
not_before x [] h = All-nil (λ y. comes_before y x ≡ false)
not_before x (y ∷ ys) h = All-cons (λ y. comes_before y x ≡ false) y ys (one_way x.key y.key h.0) (not_before x ys h.1)

pub sorted_behind : (x : Event) (xs : List Event) → AreAfter x xs → IsSortedBy comes_before xs → IsSortedBy comes_before (x ∷ xs)
sorted_behind x xs h up = sorted-cons comes_before x xs up (not_before x xs h)
