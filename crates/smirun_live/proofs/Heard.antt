-- What is heard where a line was read.
use Rattle.std.proofs.Common.{◌∙◌, ℕ, List, Bool, sym, ap, subst}
use Rattle.std.specs.Prelude.{Option}
use Rattle.smi_live_loop.specs.declared.feed.Fed.{Fed}
use Rattle.smi_live_loop.specs.declared.feed.Fed.TheVariants.{Line, Asked, Nothing, End, Failed}
use Rattle.smirun_live.specs.Reading.{HearsNext, ReadsLine, SaysLine, is_question}

pub hears_said : (most : ℕ) (before after : Option (List ℕ)) (line : List ℕ) (ended : Bool) (fed : Fed)
    → SaysLine line fed → ReadsLine most before after line ended → HearsNext most before after fed
hears_said most before after line ended (Line said) h r =
    ((ended, subst (λ l. ReadsLine most before after l ended) (sym h.0) r), ap is_question h.0 ∙ h.1)
hears_said most before after line ended Asked h r = (line, (ended, r), h)
hears_said most before after line ended Nothing h r = absurd h
hears_said most before after line ended End h r = absurd h
hears_said most before after line ended Failed h r = absurd h
