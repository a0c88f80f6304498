-- What persons hear of what is told.
use Rattle.std.proofs.Common.{◌≡◌, ℕ, false, inl, inr, List, [], ◌∷◌, ◌++◌, refl, ap, sym, ◌∙◌}
use Rattle.std.proofs.lemmas.{Bool.cases_Bool, List.Elements.filter-append}
use Rattle.std.specs.{List.flat_map, Prelude.Option, Prelude.None, Prelude.Some, Prelude.is_some}
use Rattle.traffic.specs.{Moves.told, Moves.persons_by, Moves.persons_after, Rows.World, Setup.Setup}
use Rattle.traffic.specs.declared.{moves.Move.Move, moves.Occurrence.Occurrence, world.Person.Person}
use Rattle.part_links.specs.Phase.{of_persons}

pub heard_both : (xs ys : List Occurrence) → of_persons (xs ++ ys) ≡ of_persons xs ++ of_persons ys
heard_both xs ys = filter-append (λ (e : Occurrence). is_some e.person) xs ys

pub heard_by : (f : ℕ → List Occurrence) (ks : List ℕ) → flat_map (λ (k : ℕ). of_persons (f k)) ks ≡ of_persons (flat_map f ks)
heard_by f [] = refl
heard_by f (k ∷ ks) = ap (λ (es : List Occurrence). of_persons (f k) ++ es) (heard_by f ks) ∙ sym (heard_both (f k) (flat_map f ks))

unheard : (S : Setup) (t : ℕ) (e : Occurrence) (o : Option ℕ) (ps : List Person) → is_some o ≡ false → persons_by S t e o ps ≡ ps
unheard S t e None ps none = refl
unheard S t e (Some i) ps none = absurd (cc)

-- what tells of nobody changes nobody
pub heard_all : (S : Setup) (t : ℕ) (es : List Occurrence) (ps : List Person) → persons_after S t (of_persons es) ps ≡ persons_after S t es ps
heard_all S t [] ps = refl
heard_all S t (e ∷ es) ps =
    elim (cases_Bool (is_some e.person)) [
      | inl some ↦ rw some (heard_all S t es (persons_by S t e e.person ps))
      | inr none ↦ rw none (heard_all S t es ps ∙ ap (persons_after S t es) (sym (unheard S t e e.person ps none)))
    ]

-- where nothing was said before, the world of those who heard is that of all that was told
pub heard_world : (S : Setup) (t : ℕ) (ms : List Move) (spoken said : List Occurrence) (V W : World) → said ≡ spoken ++ of_persons (flat_map told ms)
    → spoken ≡ [] → W ≡ record V { persons = persons_after S t said V.persons }
    → W ≡ record V { persons = persons_after S t (flat_map told ms) V.persons }
heard_world S t ms spoken said V W s silent w =
    w
    ∙ ap (λ (ps : List Person). record V { persons = ps })
    (ap (λ (es : List Occurrence). persons_after S t es V.persons)
    (s ∙ ap (λ (xs : List Occurrence). xs ++ of_persons (flat_map told ms)) silent)
    ∙ heard_all S t (flat_map told ms) V.persons)
