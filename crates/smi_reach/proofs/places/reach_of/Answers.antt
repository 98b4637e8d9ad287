-- One more block is looked at.
use Rattle.std.proofs.Common.{rules, false, ◌≡◌, ◌<◌, ◌+◌, ◌-◌, length, get_or, ap, sym, ◌∙◌, subst, arith}
use Rattle.std.proofs.lemmas.List.{get_or_default}
use Rattle.sml_domain.specs.Places.{instrs_at}
use Rattle.sml_domain.proofs.Blocks.{before_of_sound}
use Rattle.smi_reach.specs.Reach.{BeginsBlocks, IsBranchFrom, IsReachUnderWay}
use Rattle.smi_reach.proofs.Begun.{all_reached, one_more_looked, one_more_passed_over, roots_begun}
use Rattle.smi_reach.proofs.Tables.{names_at}
use Rattle.smi_reach.proofs.places.reach_of.Goals.{then-index, else-index}
use Rattle.smi_reach.proofs.places.reach_of.Goals as goal

pub loop-looked_at-init : goal.loop-looked_at-init
loop-looked_at-init c =
    let d = c.args.domain.now in
    let passed = c.in_ok-passed.passed.items in
    let all = c.in_ok-passed.ensures.all in
    let count : c.len-count.result ≡ length passed = search rules in
    let size : length d.blocks ≡ c.len-count.result - 0 = omega (arith, all, count) in
    subst (IsReachUnderWay d passed c.begin_classes.new.begun.items) size
    (roots_begun d passed c.in_ok-begun.begun.items c.begin_classes.new.begun.items (c.in_ok-begun.ensures.count ∙ count ∙ all) c.in_ok-begun.ensures.none c.begin_classes.ensures)

pub loop-looked_at-preserved : goal.loop-looked_at-preserved
loop-looked_at-preserved c =
    let d = c.args.domain.now in
    let passed = c.in_ok-passed.passed.items in
    let begun = c.loop-looked_at.begun.items in
    let n = c.len-count.result - (c.loop-looked_at.looked_at + 1) in
    let all = c.in_ok-passed.ensures.all in
    let count : c.len-count.result ≡ length passed = search rules in
    let turn = c.loop-looked_at-test.true in
    let more : c.len-count.result - c.loop-looked_at.looked_at ≡ n + 1 = omega (arith, turn) in
    let was : IsReachUnderWay d passed begun (n + 1) = subst (IsReachUnderWay d passed begun) more c.loop-looked_at.invariant in
    let within : n < length passed = omega (arith, turn, count) in
    let place : c.len-count.result - 1 - c.loop-looked_at.looked_at ≡ n = omega (arith, turn) in
    let long : length begun ≡ length d.blocks = c.loop-looked_at.invariant.count in
    let inside : n < length begun = omega (arith, within, all, long) in
    let is : c.index.result.now ≡ get_or begun n false = c.index.ensures ∙ ap (λ k. get_or begun k c.index.result.now) place ∙ get_or_default begun n c.index.result.now false inside in
    elim c.if-index.branch [
      | then-index w ↦
          let block : w.new.result ≡ n = w.new.ensures ∙ place in
          let value : w.index-then-index.result.now ≡ get_or passed n 0 = w.index-then-index.ensures ∙ ap (λ k. get_or passed k w.index-then-index.result.now) place ∙ get_or_default passed n w.index-then-index.result.now 0 within in
          let new = w.begin_within.new.begun.items in
          let begins : BeginsBlocks (IsBranchFrom d n (get_or passed n 0)) begun new =
          subst (λ k. BeginsBlocks (IsBranchFrom d k (get_or passed n 0)) begun new) block (subst (λ v. BeginsBlocks (IsBranchFrom d w.new.result v) begun new) value w.begin_within.ensures) in
          subst (λ v. IsReachUnderWay d passed v n) (sym (ap (λ v. v.items) w.begun-is))
          (one_more_looked d passed begun new n c.in_ok-passed.ensures.counts all (omega (arith, within, all))
          (λ instr i at. names_at n (instrs_at d.blocks n) i instr (before_of_sound d n c.objects-objects.ensures.sound) at) was (sym is ∙ w.if-index.true) begins)
      | else-index w ↦
          subst (λ v. IsReachUnderWay d passed v n) (sym (ap (λ v. v.items) w.begun-is)) (one_more_passed_over d passed begun n was (sym is ∙ w.if-index.false))
    ]

pub returns : goal.returns
returns c =
    let d = c.args.domain.now in
    let passed = c.in_ok-passed.passed.items in
    let past = c.loop-looked_at-test.false in
    let done : c.len-count.result - c.loop-looked_at.looked_at ≡ 0 = omega (arith, past) in
    all_reached d _ c.in_ok-passed.ensures.counts c.in_ok-passed.ensures.all (subst (IsReachUnderWay d passed c.loop-looked_at.begun.items) done c.loop-looked_at.invariant)
