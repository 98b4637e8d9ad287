-- One more instruction is passed.
use Rattle.std.proofs.Common.{◌≡◌, ◌<◌, length, ap, sym, ◌∙◌, subst, arith, ⊎_elim}
use Rattle.std.proofs.lemmas.Bool.{cases_eq, true≢false}
use Rattle.std.proofs.lemmas.List.{length-map}
use Rattle.std.proofs.lemmas.Option.{slice_get_within}
use Rattle.sml_domain.specs.Places.{instrs_at}
use Rattle.sml_domain.specs.Trees.{instruction}
use Rattle.sml_domain.proofs.Blocks.{before_of_sound}
use Rattle.smi_reach.specs.Reach.{IsPassedAt}
use Rattle.smi_reach.proofs.Begun.{names_below}
use Rattle.smi_reach.proofs.Tables.{names_at}
use Rattle.smi_reach.proofs.places.passed_in.Goals as goal

pub is_passed-requires-clause-names : goal.is_passed-requires-clause-names
is_passed-requires-clause-names c =
    let d = c.args.domain.now in
    let count = c.requires.count in
    let block = c.requires.block in
    names_below c.args.block (length c.args.ways.now) (instruction c.in-Some.instr.now) (omega (arith, count, block))
    (names_at c.args.block (instrs_at d.blocks c.args.block) _ (instruction c.in-Some.instr.now) (before_of_sound d c.args.block c.objects-objects.ensures.sound)
    (sym c.in-Some.ensures.is))

pub loop-place-preserved : goal.loop-place-preserved
loop-place-preserved c = λ i lt. ⊎_elim
    (λ e. subst (IsPassedAt c.args.domain.now c.args.block) (sym e) (record { instr = instruction c.in-Some.instr.now; there = sym c.in-Some.ensures.is; passed = sym c.is_passed.ensures ∙ c.if-not-is_passed.false }))
    (λ n. c.loop-place.invariant i (omega (arith, lt, n)))
    (cases_eq i c.loop-place.place)

pub returns : goal.returns
returns c =
    let instrs = instrs_at c.args.domain.now.blocks c.args.block in
    let long : length instrs ≡ length c.instructions-count.result.now = sym (ap length c.instructions-count.ensures.is) ∙ length-map c.instructions-count.result.now instruction in
    let past = c.loop-place-test.false in
    record {
      before = λ i lt. c.loop-place.invariant i (omega (arith, lt, past));
      here = λ p. let within = slice_get_within instrs (length c.instructions-count.result.now) p.instr p.there in omega (arith, within, long);
    }
