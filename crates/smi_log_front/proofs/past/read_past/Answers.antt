use Rattle.smi_log_front.proofs.Wholes.{past_whole}
use Rattle.smi_log_front.proofs.past.read_past.Goals as goal

pub returns : goal.returns
returns c = record {
  suits = c.in-Ok.ensures.suits;
  held = c.in-Ok.ensures.held;
  longest = c.in-Ok.ensures.most;
  kills_suit = c.in-Ok-read_kills.ensures.suit;
  kills_held = c.in-Ok-read_kills.ensures.held;
  none = c.in-Ok-read_kills.ensures.none;
  says = past_whole c.args.domain.now c.args.text.now c.in-Ok.carried.1.now c.in-Ok-read_kills.kills.1.now c.in-Ok.carried.0
      c.in-Ok-read_kills.kills.0.items c.in-Ok.ensures.whole c.in-Ok-read_kills.ensures.whole;
}
