-- Persons who are there no more.
use Rattle.traffic.proofs.Common.{◌≡◌, ℕ, ◌<◌, List, [], ◌∷◌, ◌++◌, ◌∙◌, ap, refl, sym, arith, Bool, true, false, length, if◌then◌else◌, ◌||◌, ◌==◌, World}
use Rattle.traffic.{proofs.Common.person_of, proofs.Common.nobody, specs.declared.world.Person.Person}
use Rattle.node_seconds.specs.Networks.{is_among}
use Rattle.part_persons.specs.declared.persons.Persons.{Persons}
use Rattle.part_seconds.{proofs.Lists.among_next, specs.Leaving.AreWithout}

pub nobody_goes : (old : Persons) → AreWithout (λ i. false) old old
nobody_goes old = record { each = λ i lt. refl; count = refl; rest = refl; followed = λ S end t h. h; wakes = refl }

both : (a b : Bool) (P : Person) → (if b then nobody else (if a then nobody else P)) ≡ (if a || b then nobody else P)
both true true P = refl
both true false P = refl
both false b P = refl

pub one_more_goes : (n : ℕ) (ns : List ℕ) (old now new : Persons) → AreWithout (λ i. is_among i ns) old now
    → AreWithout (λ i. n == i) now new
    → AreWithout (λ i. is_among i (ns ++ n ∷ [])) old new
one_more_goes n ns old now new was one = record {
  each = λ i lt.
      let there : i < length now.world.persons = (let c = was.count in omega (arith, lt, c)) in
      one.each i there ∙ ap (λ (P : Person). if n == i then nobody else P) (was.each i lt)
      ∙ both (is_among i ns) (n == i) (person_of i old.world)
      ∙ ap (λ (b : Bool). if b then nobody else person_of i old.world) (sym (among_next i n ns));
  count = one.count ∙ was.count;
  rest = one.rest ∙ ap (λ (W : World). record W { persons = new.world.persons }) was.rest;
  followed = λ S end t h. one.followed S end t (was.followed S end t h);
  wakes = one.wakes ∙ was.wakes;
}

-- the same who go, by another rule
pub same_go : (f g : ℕ → Bool) (old new : Persons) → AreWithout f old new → ((i : ℕ) → i < length old.world.persons → f i ≡ g i)
    → AreWithout g old new
same_go f g old new h e = record {
  each = λ i lt. h.each i lt ∙ ap (λ (b : Bool). if b then nobody else person_of i old.world) (e i lt);
  count = h.count;
  rest = h.rest;
  followed = h.followed;
  wakes = h.wakes;
}
