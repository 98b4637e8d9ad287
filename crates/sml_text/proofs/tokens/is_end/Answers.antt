use Rattle.std.proofs.Common.{◌∙◌, ◌+◌, ap, sym, refl, arith}
use Rattle.sml_text.specs.declared.front.Front.TheVariants.{Skip}
use Rattle.sml_text.specs.Stream.{reading}
use Rattle.sml_text.proofs.Streams.{front_reading, front_takes, ended, not_ended}
use Rattle.sml_text.proofs.tokens.is_end.Goals as goal

pub skip-init : goal.skip-init
skip-init c at = (at, refl)

pub skip-smaller : goal.skip-smaller
skip-smaller c =
    let takes = front_takes _ _ (Skip c.in-Skip.size) c.in-Skip.ensures refl in
    omega (arith, takes, c.split_at.ensures.back_len)

pub skip-preserved : goal.skip-preserved
skip-preserved c at =
    let was = c.skip.invariant at in (
      was.0 + c.in-Skip.size,
      was.1
          ∙ front_reading _ was.0 _ (Skip c.in-Skip.size) c.in-Skip.ensures refl
          ∙ ap (reading c.args.source (was.0 + c.in-Skip.size)) (sym c.split_at.ensures.back),
    )

pub returns-in-End : goal.returns-in-End
returns-in-End c at = ended _ at c.args.text.now _ _ (c.skip.invariant at).1 c.in-End.ensures

pub returns-in_default : goal.returns-in_default
returns-in_default c at = not_ended _ at c.args.text.now _ _ _ (c.skip.invariant at).1 c.front_at.ensures c.in_default.not-End c.in_default.not-Skip
