-- The turn of a link, by what it sees.
use Rattle.traffic.proofs.Common.{◌≡◌, ℕ, List, ◌∙◌, ap, refl, sym, [], ◌∷◌, Bool, false, list_any, filter, not, ◌&&◌, ◌==◌, or_parts, raised, link_turns}
use Rattle.traffic.proofs.Common.{rules, link_state, LinkState, link_moves, waiters, World, on, rank, credit_of, gain_of, Setup, nat_tests, arith}
use Rattle.traffic.{proofs.Idle.link_idle, specs.declared.moves.Move.Move, specs.declared.moves.Move.TheVariants.Credit, specs.declared.numbers.Rules.Rules}
use Rattle.traffic.specs.declared.stage.Stage.{Stage, TheVariants.Queue, TheVariants.Buffer, TheVariants.Wait, TheVariants.Bay}
use Rattle.traffic.specs.declared.world.{Row.Row, Waiter.Waiter}
use Rattle.town.specs.{Views.setup, declared.day_input.DayInput.DayInput}
use Rattle.plain_day.specs.Views.{stays_on}

-- a link with no row but in its buffer has no row in its queue, its wait list or its bay
apart : (z s : Stage) (b : Bool) → (rank s == rank Buffer) ≡ false → (b && not (rank z == rank Buffer)) ≡ false → ((rank z == rank s) && b) ≡ false
apart z s b h g = grind (arith, nat_tests)

pub unused : (l : ℕ) (s : Stage) (rows : List Row) → (rank s == rank Buffer) ≡ false → list_any (stays_on l) rows ≡ false → filter (on l s) rows ≡ []
unused l s [] h g = refl
unused l s (r ∷ rs) h g =
    let p = or_parts (stays_on l r) (list_any (stays_on l) rs) g in
    let e = apart r.stage s (r.link == l) h p.0 in
    rw e (unused l s rs h p.1)

-- a link with nothing to do raises its credit alone
pub idle_is : (day : DayInput) (t l : ℕ) (W : World) (rows : List Row) (gain before credit : ℕ) → rows ≡ W.rows → list_any (stays_on l) rows ≡ false →
    gain ≡ gain_of (setup day) l → before ≡ credit_of l W → credit ≡ raised gain before → link_turns (setup day) t l W ≡ Credit l credit ∷ []
idle_is day t l W rows gain before credit r u g b c =
    let S = setup day in
    let v : list_any (stays_on l) W.rows ≡ false = rw (← r) u in
    link_idle (rules S l) t l (waiters S l W) (link_state l W) (unused l Queue W.rows refl v) (unused l Wait W.rows refl v) (unused l Bay W.rows refl v)
    ∙ ap (λ x. Credit l x ∷ []) (sym (c ∙ ap (λ x. raised x before) g ∙ ap (λ x. raised (gain_of S l) x) b))

-- the turn of a link, by its parts
pub turn_is : (S : Setup) (t l : ℕ) (W : World) (K : Rules) (ws : List Waiter) (L : LinkState) (moves : List Move) → K ≡ rules S l →
    ws ≡ waiters S l W → L ≡ link_state l W → moves ≡ link_moves K t l ws L → moves ≡ link_turns S t l W
turn_is S t l W K ws L moves k w e m = rw (m, k, w, e)
