-- A link's turn leaves all other links as they were, and depends on its own lists and credit, and on those who wait at its stops.
use Rattle.traffic.proofs.Common.{◌≡◌, ℕ, List, ◌∙◌, refl, [], ◌∷◌, arith, false, ◌≢◌, nat_tests, get_or-set_other, link_turns, Untouched, AreAt, IsAt}
use Rattle.traffic.proofs.Common.{link_state, Credit, Move, Transfer, run, done, touches, World, credit_of, Setup}
use Rattle.traffic.proofs.{LinkWalk.LinkCases, LinkWalk.link_walk, Moments.Along, Sublists.at-run_untouched}
use Rattle.traffic.specs.declared.stage.Stage.{Stage, TheVariants.Queue, TheVariants.Buffer, TheVariants.Wait, TheVariants.Bay}

link_cases : (S : Setup) (t l : ℕ) → LinkCases S t l (λ W m. IsAt l m)
link_cases S t l =
    record {
      due = λ k r W e c. (refl, refl);
      serve = λ s ws r xs W e c q. (refl, refl);
      arrive = λ s r xs W e c o. refl;
      pass = λ s b r xs W e c o. (refl, refl);
      pay = λ c W. refl;
      free = λ W. refl;
    }

at_along : (S : Setup) (t l : ℕ) (ms : List Move) (W : World) → Along (λ V m. IsAt l m) S t ms W → AreAt l ms
at_along S t l [] W h = tt
at_along S t l (m ∷ ms) W h = (h.0, at_along S t l ms (done S t m W) h.1)

-- all that a link's turn changes of vehicles is at that link
pub link-at : (S : Setup) (t l : ℕ) (W : World) → AreAt l (link_turns S t l W)
link-at S t l W = at_along S t l (link_turns S t l W) W (link_walk S t l _ (link_cases S t l) W)

untouched_move : (l a : ℕ) (s : Stage) (m : Move) → a ≢ l → IsAt l m → touches a s m ≡ false
untouched_move l a s (Transfer b z k was now) ne h = grind (arith, nat_tests, h.0, h.1)
untouched_move l a s _ ne h = grind (arith, nat_tests)

pub untouched_all : (l a : ℕ) (s : Stage) (ms : List Move) → a ≢ l → AreAt l ms → Untouched a s ms
untouched_all l a s [] ne h = tt
untouched_all l a s (m ∷ ms) ne h = (untouched_move l a s m ne h.0, untouched_all l a s ms ne h.1)

credit_kept : (S : Setup) (t l a : ℕ) (m : Move) (W : World) → a ≢ l → IsAt l m → credit_of a (done S t m W) ≡ credit_of a W
credit_kept S t l a (Credit b c) W ne h = let d : a ≢ b = λ q. ne (q ∙ h) in get_or-set_other W.credits b a c 0 d
credit_kept S t l a _ W ne h = refl

pub credit_kept_all : (S : Setup) (t l a : ℕ) (ms : List Move) (W : World) → a ≢ l → AreAt l ms → credit_of a (run S t ms W) ≡ credit_of a W
credit_kept_all S t l a [] W ne h = refl
credit_kept_all S t l a (m ∷ ms) W ne h = credit_kept_all S t l a ms (done S t m W) ne h.1 ∙ credit_kept S t l a m W ne h.0

-- moves at link l leave the lists of every other link as it was
pub link_state-other : (S : Setup) (t l a : ℕ) (ms : List Move) (W : World) → a ≢ l → AreAt l ms → link_state a (run S t ms W) ≡ link_state a W
link_state-other S t l a ms W ne h =
    let q = at-run_untouched S t a Queue ms W (untouched_all l a Queue ms ne h) in
    let b = at-run_untouched S t a Buffer ms W (untouched_all l a Buffer ms ne h) in
    let w = at-run_untouched S t a Wait ms W (untouched_all l a Wait ms ne h) in
    cc (credit_kept_all S t l a ms W ne h, at-run_untouched S t a Bay ms W (untouched_all l a Bay ms ne h))
