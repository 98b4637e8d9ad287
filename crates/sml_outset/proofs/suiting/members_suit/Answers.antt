-- What a set may have, and each once.
use Rattle.std.proofs.Common.{◌≡◌, ◌∙◌, All, sym, subst}
use Rattle.std.specs.List.{Contains}
use Rattle.sml_domain.specs.Lookups.{may_at}
use Rattle.sml_outset.proofs.suiting.members_suit.Goals as goal

pub returns-then-are_among : goal.returns-then-are_among
returns-then-are_among c = (
  λ t. record {
    may = subst (λ l. All (Contains l) c.args.members.now) c.may_have.ensures.is (c.are_among.ensures.0 c.if-are_among.true);
    once = c.each_once.ensures.0 t;
  },
  λ h. c.each_once.ensures.1 h.once,
)

pub returns-else-are_among : goal.returns-else-are_among
returns-else-are_among c = (
  λ e. absurd (cc (sym e ∙ c.if-are_among.false)),
  λ h. c.are_among.ensures.1 (subst (λ l. All (Contains l) c.args.members.now) (sym c.may_have.ensures.is) h.may),
)
