-- Times are kept for each person.
use Rattle.std.proofs.{Common.◌≡◌, Common.ℕ, Common.List, Common.length, Common.refl, Common.inl, Common.inr, lemmas.Bool.cases_Bool, lemmas.List.length-set}
use Rattle.std.specs.Prelude.{Option, None, Some, nat_lt}
use Rattle.traffic.specs.{Setup.Setup, declared.world.Person.Person}
use Rattle.part_persons.specs.Dues.{followed_one, followed}

one_length : (S : Setup) (end : ℕ) (persons : List Person) (i : ℕ) (wakes : List (Option ℕ)) → length (followed_one S end persons i wakes) ≡ length wakes
one_length S end persons i wakes =
    elim (cases_Bool (nat_lt i (length persons))) [ inl e ↦ simp e (length-set wakes i _) | inr e ↦ simp e refl ]

pub followed_length : (S : Setup) (end : ℕ) (persons : List Person) (o : Option ℕ) (wakes : List (Option ℕ)) → length (followed S end persons o wakes) ≡ length wakes
followed_length S end persons None wakes = refl
followed_length S end persons (Some i) wakes = one_length S end persons i wakes
