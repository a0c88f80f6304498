use Rattle.std.proofs.Common.{ℕ, ◌∷◌, ◌++◌, [], List, map, take, None, sym, ◌∙◌, ap}
use Rattle.std.specs.List.{enumerate_from}
use Rattle.rows.specs.declared.plan.Act.{Act}
use Rattle.replanning.{proofs.Numbers.numbered_at, specs.Acts.moved_act}
use Rattle.replanning.proofs.acts.moved_at.Goals as goal

pub returns : goal.returns
returns c =
    let no_act : Act = record { kind = 0; link = 0; end = None } in
    let place = c.args.place in
    let f : ℕ × Act → Act = moved_act c.args.range c.args.end c.args.words.now in
    let before : List Act = map f (enumerate_from 0 (take place c.args.acts.now)) in
    numbered_at f c.args.acts.now place no_act c.requires.place
    ∙ ap (λ (a : Act). before ++ f (place, a) ∷ []) (sym c.act_at.ensures)
    ∙ ap (λ (a : Act). before ++ a ∷ []) (sym c.moved_act.ensures.act)
