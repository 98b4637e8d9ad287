-- One more block.
use Rattle.std.proofs.Common.{rules, ◌≡◌, ◌<◌, ◌+◌, length, ap, sym, ◌∙◌, subst, arith}
use Rattle.std.specs.Prelude.{None, Some}
use Rattle.std.proofs.lemmas.List.{length-map}
use Rattle.sml_domain.specs.Domain.{block_items}
use Rattle.smi_reach.specs.Unreached.{IsFirstIn}
use Rattle.smi_reach.proofs.Begun.{begun_within}
use Rattle.smi_reach.proofs.Left.{ListsUpTo, lists_none, lists_one}
use Rattle.smi_reach.proofs.unreached.unreached_of.Goals.{in-Some+in_ok-push, in_default}
use Rattle.smi_reach.proofs.unreached.unreached_of.Goals as goal

pub loop-block-preserved : goal.loop-block-preserved
loop-block-preserved c =
    let d = c.args.domain.now in
    let n = c.loop-block.block in
    let list = c.loop-block.list.items in
    elim c.match-first_unreached.branch [
      | in-Some+in_ok-push w ↦ subst (λ l. ListsUpTo d l (n + 1)) (sym (ap (λ v. v.items) w.list-is ∙ w.in_ok-push.ensures.items)) (lists_one d list n w.in-Some.found c.loop-block.invariant (subst (λ b. IsFirstIn d b (Some w.in-Some.found)) c.new.ensures w.in-Some.ensures))
      | in_default w ↦ subst (λ l. ListsUpTo d l (n + 1)) (sym (ap (λ v. v.items) w.list-is)) (lists_none d list n c.loop-block.invariant (subst (λ x. IsFirstIn d n x) w.in_default.is (subst (λ b. IsFirstIn d b c.first_unreached.result) c.new.ensures c.first_unreached.ensures)))
    ]

pub returns : goal.returns
returns c =
    let d = c.args.domain.now in
    let r = c.args.reach.now in
    let all : length d.blocks ≡ length c.blocks-block-end.result.now = sym (ap length c.blocks-block-end.ensures) ∙ length-map c.blocks-block-end.result.now block_items in
    let past = c.loop-block-test.false in
    let size = c.requires.begun in
    record {
      only = c.loop-block.invariant.only;
      all = λ u h to. let lt = begun_within r.begun.items u.block ((c.requires.places u.block 0).1 to).begun in c.loop-block.invariant.all u (omega (arith, lt, size, all, past)) h to;
    }
