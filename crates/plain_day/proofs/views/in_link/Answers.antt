use Rattle.traffic.proofs.Common.{◌∙◌, ap, World}
use Rattle.law_in_range.specs.Setups.{counts_in}
use Rattle.plain_day.proofs.{Fitting.going_at, Seen.in_link_is}
use Rattle.plain_day.proofs.views.in_link.Goals as goal

pub returns-clause-value : goal.returns-clause-value
returns-clause-value c =
    in_link_is c.args.day.now c.args.second c.args.link c.args.world.now c.link_row.result c.green_in.result c.deref.result.now c.in_ok-rows.rows.items c.link_row.ensures.row c.green_in.ensures
    (c.deref.ensures.value ∙ ap (λ (W : World). W.rows) c.world.view_is) c.in_ok-rows.ensures

pub returns-clause-fit_after : goal.returns-clause-fit_after
returns-clause-fit_after c =
    let e = c.deref.ensures.value ∙ ap (λ (W : World). W.rows) c.world.view_is in
    record {
      least = c.link_row.ensures.measures.some_capacity;
      most = c.link_row.ensures.measures.most_capacity;
      rows = rw (c.in_ok-rows.ensures, e) (going_at (counts_in c.args.day.now) c.args.link c.args.world.now c.requires.fit).0;
    }
