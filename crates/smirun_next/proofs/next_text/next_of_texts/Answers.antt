use Rattle.std.proofs.Common.{◌∙◌, ap, subst}
use Rattle.std.specs.Arc.{arc_value}
use Rattle.smi_live.specs.Managing.{keeper_of}
use Rattle.smirun_next.specs.NextLogs.{MakesNext, next_capacity}
use Rattle.smirun_next.proofs.Wholes.{where_ok}
use Rattle.smirun_next.proofs.next_text.next_of_texts.Goals as goal

pub returns-in-Ok-canonical_of : goal.returns-in-Ok-canonical_of
returns-in-Ok-canonical_of c =
    let d = arc_value c.in-Ok.made.declared in
    let k = keeper_of c.in-Ok.made.manager in
    let log = c.args.log.now in
    let canonical = c.in-Ok-canonical_of.canonical.items in
    let room = c.capacity_of.ensures ∙ ap (next_capacity c.args.capacity) c.in-Ok.ensures.capacity in
    where_ok c.next_of_made.result _ _ c.next_of_made.ensures (λ next makes. record {
      declared = d;
      of_text = c.in-Ok.ensures.declared;
      canonical = canonical;
      printed = c.in-Ok-canonical_of.ensures;
      keeper = k;
      continues = c.in-Ok.ensures.log;
      whole = c.is_whole.ensures c.if-not-is_whole.false;
      makes = subst (λ n. MakesNext d k canonical n log next) room
          (subst (λ t. MakesNext d k t c.capacity_of.result log next) c.deref-in-Ok-canonical_of.ensures.value makes);
    })
