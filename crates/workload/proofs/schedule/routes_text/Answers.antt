use Rattle.workload.proofs.Lines.{route_lines}
use Rattle.workload.proofs.schedule.routes_text.Goals as goal

pub returns : goal.returns
returns c =
    rw (
      c.in_ok-push_str-2.ensures.bytes,
      c.in_ok-push_calls.ensures,
      c.in_ok-push_call_text.ensures,
      c.in_ok-push_str.ensures.bytes,
      c.in_ok-push_links.ensures,
      c.in_ok-push_link_name.ensures,
      c.in_ok-text.ensures.ok,
      route_lines c.args.size c.requires.some,
    )
