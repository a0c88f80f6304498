-- Who waits, and who is under way when the day ends, by the plans in the setup of a day.
use Rattle.traffic.proofs.Common.{◌≡◌, ℕ, List, ◌∙◌, length, ap, sym, ◌+◌, flat_map, Mode, act_in, leg_in, PlanRows, plan_rows, Act, Plan, below, stuck_at}
use Rattle.traffic.proofs.Common.{waiter, waits_on, waiters, stranded, mode_of_leg, World, person_of, Setup, leg_at, act_at, person_plan}
use Rattle.traffic.specs.declared.{moves.Occurrence.Occurrence, world.Person.Person, world.Waiter.Waiter}
use Rattle.town.specs.{Views.setup, declared.day_input.DayInput.DayInput}

pub waiter_is : (day : DayInput) (l i : ℕ) (W : World) (plan : Plan) (P : Person) (o : List Waiter) → person_plan (setup day) i ≡ plan_rows plan →
    P ≡ person_of i W →
    o ≡ waits_on (setup day) l i (leg_in (plan_rows plan) P.element) (act_in (plan_rows plan) (P.element + 2)) P.place → o ≡ waiter (setup day) l i (person_of i W)
waiter_is day l i W plan P o h p q =
    let S = setup day in
    q ∙ ap (λ (x : PlanRows). waits_on S l i (leg_in x P.element) (act_in x (P.element + 2)) P.place) (sym h)
    ∙ ap (λ (x : Person). waiter S l i x) p

pub waiters_are : (S : Setup) (l n : ℕ) (W : World) (all : List Waiter) → n ≡ length W.persons → all ≡ flat_map (λ i. waiter S l i (person_of i W)) (below n) → all ≡ waiters S l W
unfolding waiters
waiters_are S l n W all h e = e ∙ ap (λ m. flat_map (λ i. waiter S l i (person_of i W)) (below m)) h

pub stranded_is : (day : DayInput) (i : ℕ) (W : World) (plan : Plan) (P : Person) (here : Act) (mode : Mode) (said : List Occurrence) → person_plan (setup day) i ≡ plan_rows plan →
    P ≡ person_of i W → here ≡ act_in (plan_rows plan) P.element → mode ≡ mode_of_leg (leg_in (plan_rows plan) P.element) →
    said ≡ stuck_at (setup day) W i here mode P.place → said ≡ stranded (setup day) W i
unfolding stranded
stranded_is day i W plan P here mode said h p a m s =
    let S = setup day in
    s ∙ ap (λ (x : Act). stuck_at S W i x mode P.place) a
    ∙ ap (λ (x : Mode). stuck_at S W i (act_in (plan_rows plan) P.element) x P.place) m
    ∙ ap (λ (x : PlanRows). stuck_at S W i (act_in x P.element) (mode_of_leg (leg_in x P.element)) P.place) (sym h)
    ∙ ap (λ (x : Person). stuck_at S W i (act_at S i x.element) (mode_of_leg (leg_at S i x.element)) x.place) p
