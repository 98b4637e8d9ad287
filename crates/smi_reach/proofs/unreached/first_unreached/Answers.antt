-- The instruction behind those that are passed.
use Rattle.std.specs.Prelude.{Some, slice_get}
use Rattle.std.proofs.Common.{rules, ◌≡◌, ◌<◌, ◌≤◌, ◌+◌, true, false, length, get_or, refl, ap, sym, ◌∙◌, subst, arith}
use Rattle.std.proofs.lemmas.Bool.{true≢false}
use Rattle.std.proofs.lemmas.List.{get_or_default, length-map}
use Rattle.std.proofs.lemmas.Option.{slice_get_within}
use Rattle.sml_domain.specs.Places.{instrs_at}
use Rattle.sml_domain.specs.Trees.{instruction}
use Rattle.smi_reach.proofs.Left.{next_is_unreached, not_passed}
use Rattle.smi_reach.proofs.unreached.first_unreached.Goals.{else-index-via-then-index+then-passed-count+else-passed-count-2, else-index-via-then-index+else-passed-count, else-index-via-else-index}
use Rattle.smi_reach.proofs.unreached.first_unreached.Goals as goal

pub returns-then-passed-count-2 : goal.returns-then-passed-count-2
returns-then-passed-count-2 c =
    let d = c.args.domain.now in
    let r = c.args.reach.now in
    let b = c.args.block in
    let p = c.index-passed.result.now in
    let within : b < length r.passed.items = search rules in
    let inside : b < length r.begun.items = search rules in
    let long : length (instrs_at d.blocks b) ≡ length c.instructions-count.result.now = sym (ap length c.instructions-count.ensures.is) ∙ length-map c.instructions-count.result.now instruction in
    let is : p ≡ get_or r.passed.items b 0 = c.index-passed.ensures ∙ ap (λ k. get_or r.passed.items k p) c.get.ensures ∙ get_or_default r.passed.items b p 0 within in
    let begun : get_or r.begun.items b false ≡ true = sym (c.index.ensures ∙ ap (λ k. get_or r.begun.items k c.index.result.now) c.get-2.ensures ∙ get_or_default r.begun.items b c.index.result.now false inside) ∙ c.if-index.true in
    let room = c.if-passed-count-2.true in
    (next_is_unreached d r b p c.requires.reach is (omega (arith, long, room)), refl, λ u at h. let past = not_passed d r b p c.requires.reach begun is u at h in omega (arith, past))

pub returns : goal.returns
returns c = λ u at h to.
    let d = c.args.domain.now in
    let r = c.args.reach.now in
    let b = c.args.block in
    let p = c.index-passed.result.now in
    let within : b < length r.passed.items = search rules in
    let inside : b < length r.begun.items = search rules in
    let long : length (instrs_at d.blocks b) ≡ length c.instructions-count.result.now = sym (ap length c.instructions-count.ensures.is) ∙ length-map c.instructions-count.result.now instruction in
    let is : p ≡ get_or r.passed.items b 0 = c.index-passed.ensures ∙ ap (λ k. get_or r.passed.items k p) c.get.ensures ∙ get_or_default r.passed.items b p 0 within in
    let begun : get_or r.begun.items b false ≡ c.index.result.now = sym (c.index.ensures ∙ ap (λ k. get_or r.begun.items k c.index.result.now) c.get-2.ensures ∙ get_or_default r.begun.items b c.index.result.now false inside) in
    let there = slice_get_within (instrs_at d.blocks b) u.place h.instr (subst (λ k. slice_get (instrs_at d.blocks k) u.place ≡ Some h.instr) at h.there) in
    elim c.else-index.branch [
      | else-index-via-then-index+then-passed-count+else-passed-count-2 w ↦
          let past = not_passed d r b p c.requires.reach (begun ∙ w.if-index.true) is u at h in
          let room = w.if-passed-count-2.false in
          omega (arith, past, room, there, long)
      | else-index-via-then-index+else-passed-count w ↦
          let past = not_passed d r b p c.requires.reach (begun ∙ w.if-index.true) is u at h in
          let room = w.if-passed-count.false in
          omega (arith, past, room, there, long)
      | else-index-via-else-index w ↦ true≢false (sym ((c.requires.reach.places b 0).1 to).begun ∙ begun ∙ w.if-index.false)
    ]
