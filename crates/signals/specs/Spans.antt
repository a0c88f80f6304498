-- The spans of a signal: `FROM-TO` joined by single spaces.
use Rattle.std.specs.Prelude.{ℕ, Bool, true, not, ◌&&◌, ◌||◌, nat_le, nat_lt, nat_eq, is_some, unwrap_or, List, [], ◌∷◌, length}
use Rattle.limits.specs.declared.TheConstants.{MAX_CYCLE}
use Rattle.records.specs.{Lists.part, Lists.parts_of, Numbers.number_in}
use Rattle.signals.specs.declared.spans.SpanText.{SpanText}

-- what the parts around each `-` say: a span has exactly one `-`; its numbers are seconds from 0 to 3,600
unfoldable pub text_of : List (List ℕ) → SpanText
text_of parts = record { is_span = nat_eq (length parts) 2; from = number_in 0 MAX_CYCLE (part parts 0); until = number_in 0 MAX_CYCLE (part parts 1) }

-- what the text of a span says
abbrev pub span_text : List ℕ → SpanText
span_text item = text_of (parts_of 45 item)

-- where it is a span, both of its numbers are such
abbrev pub has_numbers : SpanText → Bool
has_numbers text = not text.is_span || (is_some text.from && is_some text.until)

-- from its first second to the one behind its last
abbrev pub span_of : SpanText → ℕ × ℕ
span_of text = (unwrap_or text.from 0, unwrap_or text.until 0)

-- spans of a cycle of which each has seconds, lies in the cycle and begins no earlier than the one before it ends, the first no earlier than here
unfoldable pub ascend : ℕ → ℕ → List (ℕ × ℕ) → Bool
ascend cycle here [] = true
ascend cycle here (span ∷ spans) = nat_le here span.0 && nat_lt span.0 span.1 && nat_le span.1 cycle && ascend cycle span.1 spans
