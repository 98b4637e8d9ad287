use Rattle.std.proofs.Common.{subst}
use Rattle.smirun_next.proofs.Nexts.{none_by}
use Rattle.smirun_next.proofs.Wholes.{where_ok}
use Rattle.smirun_next.specs.NextFront.{HasNoNext}
use Rattle.smirun_next.proofs.next_text.text_of_manager.Goals as goal

pub returns-clause-none : goal.returns-clause-none
returns-clause-none c =
    let names = c.args.names.now in
    where_ok c.text_after.result _ _ c.text_after.ensures.none (λ r none. none_by _ _ (λ h. (
      c.new-over.result,
      record {
        before = c.args.before.now;
        of_log = c.requires;
        kept = c.accounts.result.now;
        told = c.accounts.ensures.told;
        tells = c.accounts.ensures.tells;
        both = c.new-over.ensures;
      },
      subst (λ m. HasNoNext c.args.declared.now m c.new-over.result names.canonical.now names.capacity names.log.now) c.core.ensures h,
    )) r none)
