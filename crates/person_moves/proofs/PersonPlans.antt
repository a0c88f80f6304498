-- The plans of persons in the setup of a day.
use Rattle.traffic.proofs.Common.{◌≡◌, ℕ, List, ◌∙◌, ap, refl, sym, ◌+◌, Option, option_to_list, act_in, leg_in, PlanRows, plan_rows, Act, Leg, Plan, landing}
use Rattle.traffic.proofs.Common.{landing_moves, leaving_moves, leaving, person_plan, mode_of_leg}
use Rattle.traffic.specs.{Persons.waits, declared.moves.Move.Move, declared.world.Person.Person, declared.world.Waiter.Waiter}
use Rattle.rows.specs.declared.plan.Leg.TheVariants as leg
use Rattle.town.specs.{Views.setup, declared.day_input.DayInput.DayInput}
use Rattle.person_moves.specs.{Legs.kind_of, Legs.mode_of_kind, Waiting.waiter_on}

pub landing_is : (day : DayInput) (t i : ℕ) (plan : Plan) (P : Person) (moves : List Move) → person_plan (setup day) i ≡ plan_rows plan →
    moves ≡ landing t i (leg_in (plan_rows plan) P.element) (act_in (plan_rows plan) (P.element + 2)) P.place → moves ≡ landing_moves (setup day) t i P
unfolding landing_moves
landing_is day t i plan P moves h m = m ∙ ap (λ (x : PlanRows). landing t i (leg_in x P.element) (act_in x (P.element + 2)) P.place) (sym h)

pub leaving_is : (day : DayInput) (t i : ℕ) (plan : Plan) (P : Person) (moves : List Move) → person_plan (setup day) i ≡ plan_rows plan →
    moves ≡ leaving (setup day) t i (act_in (plan_rows plan) P.element) (leg_in (plan_rows plan) P.element) (act_in (plan_rows plan) (P.element + 2)) P.place →
    moves ≡ leaving_moves (setup day) t i P
unfolding leaving_moves
leaving_is day t i plan P moves h m =
    m ∙ ap (λ (x : PlanRows). leaving (setup day) t i (act_in x P.element) (leg_in x P.element) (act_in x (P.element + 2)) P.place) (sym h)

pub mode_is : (w : Leg) → mode_of_kind (kind_of w) ≡ mode_of_leg w
mode_is (leg.Car route) = refl
mode_is (leg.Teleport mode seconds) = refl
mode_is (leg.Transit line access egress) = refl

waits_by : (i : ℕ) (w : Leg) (next : Act) (stop since : ℕ) → option_to_list (waiter_on i w next.kind stop since) ≡ waits i w next stop since
waits_by i (leg.Car route) next stop since = refl
waits_by i (leg.Teleport mode seconds) next stop since = refl
waits_by i (leg.Transit line access egress) next stop since = refl

pub waits_are : (i : ℕ) (w : Leg) (next : Act) (kind stop since : ℕ) (o : Option Waiter) → kind ≡ next.kind → o ≡ waiter_on i w kind stop since → option_to_list o ≡ waits i w next stop since
waits_are i w next kind stop since o k e =
    ap option_to_list (e ∙ ap (λ n. waiter_on i w n stop since) k) ∙ waits_by i w next stop since
