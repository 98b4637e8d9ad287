use Rattle.std.proofs.Common.{◌≡◌, ◌∙◌, ◌++◌, ◌+◌, ap, codes, suc, arith, append_assoc}
use Rattle.smirun_live.specs.Aside.{unanswered_text}
use Rattle.smirun_live.proofs.Sending.{unanswered_more}
use Rattle.smirun_live.proofs.aside.add_unanswered.Goals as goal

pub loop-preserved : goal.loop-preserved
loop-preserved c =
    let n = c.loop.counter in
    let one : suc n ≡ n + 1 = omega arith in
    c.in-Ok.ensures.items ∙ ap (λ l. l ++ codes "? not told\n") c.loop.invariant ∙ append_assoc c.args.text.now.items (unanswered_text n) (codes "? not told\n")
    ∙ ap (λ l. c.args.text.now.items ++ l) (unanswered_more n ∙ ap unanswered_text one)
