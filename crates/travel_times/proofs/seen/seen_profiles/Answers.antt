use Rattle.std.proofs.Common.{rules, ◌∙◌}
use Rattle.travel_times.proofs.Binning.{seen_push}
use Rattle.travel_times.proofs.seen.seen_profiles.Goals as goal

pub loop-place-preserved : goal.loop-place-preserved
loop-place-preserved c = record {
  count = search rules;
  seen = seen_push c.loop-place.profiles.items c.push.new.self.items c.args.links.now c.deref-link-items.result.now c.args.rows.now
      c.loop-place.place c.free_seconds-free.result
      c.in_ok-seen_profile.field-0 _ (c.deref-link-items.ensures.value ∙ c.links.view_is) c.loop-place.invariant.count
      c.loop-place-test.true c.free_seconds-free.ensures.value
      c.in_ok-seen_profile.ensures c.in_ok-push.ensures.items c.loop-place.invariant.seen;
}
