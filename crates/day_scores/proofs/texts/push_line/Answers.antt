use Rattle.std.{proofs.Common.ap, proofs.Common.◌∙◌, specs.Fmt.signed_decimal}
use Rattle.day_scores.proofs.LinesWritten.{pieces, fits-code}
use Rattle.day_scores.proofs.texts.push_line.Goals as goal

pub returns : goal.returns
returns c =
    pieces c.args.text.now.items _ _ _ _ _ _ _ _ c.args.person.now _ _ _ c.args.iteration c.args.plan c.args.score
    c.in_ok-extend_from_slice.ensures.items c.in_ok-extend_from_slice-2.ensures.items c.in_ok-extend_from_slice-3.ensures.items c.in_ok-extend_from_slice-4.ensures.items
    c.in_ok-extend_from_slice-5.ensures.items c.in_ok-extend_from_slice-6.ensures.items c.in_ok-extend_from_slice-7.ensures.items c.in_ok-extend_from_slice-8.ensures.items
    (c.as_bytes.ensures.value ∙ c.format.ensures.text) (c.as_bytes-2.ensures.value ∙ c.format-2.ensures.text) (c.as_bytes-3.ensures.value ∙ c.format-3.ensures.text ∙ ap signed_decimal (fits-code c.args.score c.ranges.score))
