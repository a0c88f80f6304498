-- In a node's turn a vehicle enters a link by the rule, by the places that are taken in the world at that time.
use Rattle.traffic.proofs.Common.{◌≡◌, ℕ, List, ◌∙◌, ap, refl, sym, [], ◌∷◌, true, inl, inr, subst, cases_Bool, and_parts, ltb-true, leb-true, ltb-false, not}
use Rattle.traffic.proofs.Common.{Option, ◌&&◌, nat_lt, ◌||◌, Stuck, node_turns, credits_after, done, may_enter, out_links_by, is_out_link, entered, next_link}
use Rattle.traffic.proofs.Common.{has_room, node_view, out_link, is_stuck, taken_at, World, Setup, storage_of, VehicleState, arith}
use Rattle.traffic.proofs.{Moments.Along, NodeWalk.NodeCases, NodeWalk.AreOutLinks, NodeWalk.out_links_put, NodeWalk.out_links_gone, NodeWalk.out_links_mark}
use Rattle.traffic.{proofs.NodeWalk.node_walk, proofs.Nodes.out_of, specs.Worlds.IsEntering, specs.Worlds.EnterByRule}
use Rattle.traffic.specs.declared.{moves.Move.Move, moves.Move.TheVariants.Transfer, node_views.OutLink.OutLink, stage.Stage.TheVariants.Buffer, world.Row.Row}
use Rattle.law_capacity.specs.Moves.{IsElsewhere, IsLetIn, KeepsRule}

-- the two reasons
by_rule : (K : Stuck) (t : ℕ) (o : Option OutLink) (was : Row) (v : VehicleState) → may_enter K t was.second o ≡ true → IsEntering K t o was (entered t o v)
by_rule K t o was v h =
    elim (cases_Bool (has_room o)) [
      | inl e ↦ inl (e, ap not e)
      | inr e ↦ inr (e, grind arith, grind arith, ap not e)
    ]

-- BY THE PLACES THAT THE NODE COUNTS
abbrev EntersBy : Stuck → ℕ → (ℕ → Option OutLink) → Move → Type 0
EntersBy K t out_links (Transfer l s k was now) = IsEntering K t (out_links now.link) was now
EntersBy K t out_links _ = Unit {0}

-- where the node counts the places of the world, a move is by the rule, and it counts those of the world after it
abbrev Counts : Setup → ℕ → ℕ → World → Move → Type 0
Counts S t n W m = (out_links : ℕ → Option OutLink) → AreOutLinks S t n out_links W → EntersBy S.settings.stuck t out_links m × AreOutLinks S t n (out_links_by m out_links) (done S t m W)

count_cases : (S : Setup) (t n : ℕ) → NodeCases S t n (Counts S t n)
count_cases S t n =
    record {
      enter = λ a e r xs W f q c out_links h. (subst (λ (o : Option OutLink). IsEntering S.settings.stuck t o r (entered t e r.vehicle)) (q ∙ sym (h (next_link r.vehicle))) (by_rule S.settings.stuck t e r r.vehicle c), out_links_put S t n a e r out_links W h);
      abort = λ a r xs W f c out_links h. (tt, out_links_gone S t n a r out_links W h);
      mark = λ a W c out_links h. (tt, out_links_mark S t n a t out_links W h);
    }

rule_of : (S : Setup) (t n : ℕ) (out_links : ℕ → Option OutLink) (ms : List Move) (W : World) → AreOutLinks S t n out_links W → Along (Counts S t n) S t ms W → EnterByRule S.settings.stuck t out_links ms
rule_of S t n out_links [] W h g = tt
rule_of S t n out_links (Transfer l s k was now ∷ ms) W h g = let m = Transfer l s k was now in let y = g.0 out_links h in (y.0, rule_of S t n (out_links_by m out_links) ms (done S t m W) y.1 g.1)
rule_of S t n out_links (m ∷ ms) W h g = rule_of S t n out_links ms (done S t m W) (g.0 out_links h).1 g.1

pub node_rule : (S : Setup) (t n : ℕ) (W : World) → EnterByRule S.settings.stuck t (node_view S t n W).out_links (node_turns S t n W)
node_rule S t n W = rule_of S t n (out_link S t n W) (node_turns S t n W) W (λ l. refl) (node_walk S t n (Counts S t n) (count_cases S t n) W)

-- BY THE WORLD
let_in : (S : Setup) (t n : ℕ) (W : World) (e : Option OutLink) (was : Row) (v : VehicleState) → e ≡ out_link S t n W (next_link v) → may_enter S.settings.stuck t was.second e ≡ true → IsLetIn S t W was (entered t e v)
let_in S t n W e was v q c =
    let m = next_link v in
    let f = out_of S t n m W e q (and_parts (is_out_link e) (has_room e || (S.settings.stuck.push && is_stuck S.settings.stuck t was.second)) c).0 in
    let room : has_room e ≡ nat_lt (taken_at S t m W) (storage_of S m) = ap has_room q ∙ (rw f refl) in
    elim (by_rule S.settings.stuck t e was v c) [
      | inl a ↦ inl (ltb-true _ _ (sym room ∙ a.0), a.1)
      | inr b ↦ inr (ltb-false _ _ (sym room ∙ b.0), b.1, leb-true _ _ b.2, b.3)
    ]

-- a move of a node lets vehicles into queues alone, and that by the rule, and changes no credit
abbrev pub LetsIn : Setup → ℕ → World → Move → Type 0
LetsIn S t W m = KeepsRule S t W m × IsElsewhere Buffer m × ((cs : List ℕ) → credits_after m cs ≡ cs)

pub let_cases : (S : Setup) (t n : ℕ) → NodeCases S t n (LetsIn S t)
let_cases S t n =
    record {
      enter = λ a e r xs W f q c. ((λ s. (refl, refl, rw f.rows refl, let_in S t n W e r r.vehicle q c)), (λ s. cc), λ cs. refl);
      abort = λ a r xs W f c. (tt, tt, λ cs. refl);
      mark = λ a W c. (tt, tt, λ cs. refl);
    }
