use Rattle.std.proofs.Common.{subst, sym, ◌∙◌, ap, take}
use Rattle.sml_text.specs.Tokens.{Each}
use Rattle.sml_text.specs.Bytes.{is_digit}
use Rattle.sml_text.proofs.Spans.{span_each}
use Rattle.sml_text.proofs.front.int_at.Goals as goal

pub int-requires : goal.int-requires
int-requires c = subst (Each is_digit) (sym (c.split_at.ensures.front ∙ ap (λ n. take n c.args.text.now) c.digits_length-length.ensures.span)) (span_each is_digit c.args.text.now)
