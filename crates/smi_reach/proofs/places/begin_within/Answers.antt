-- The branches of one more instruction are begun.
use Rattle.std.proofs.Common.{◌≡◌, ◌<◌, ◌≤◌, length, ap, sym, ◌∙◌, subst, arith, ⊎_elim}
use Rattle.std.proofs.lemmas.List.{length-map}
use Rattle.std.proofs.lemmas.Option.{slice_get_cases, slice_get_within}
use Rattle.std.specs.Prelude.{None, option_map, slice_get}
use Rattle.sml_domain.specs.Places.{NamesBefore, instrs_at}
use Rattle.sml_domain.specs.Trees.{instruction}
use Rattle.sml_domain.proofs.Blocks.{before_of_sound}
use Rattle.smi_reach.specs.Reach.{IsBranchFrom}
use Rattle.smi_reach.proofs.Begun.{IsBranchBefore, begins_as, branches_more, names_below}
use Rattle.smi_reach.proofs.Tables.{names_at}
use Rattle.smi_reach.proofs.places.begin_within.Goals as goal

pub returns-then-place-passed : goal.returns-then-place-passed
returns-then-place-passed c =
    let d = c.args.domain.now in
    let b = c.args.block in
    let n = c.args.passed in
    let past = c.if-place-passed.true in
    begins_as (IsBranchBefore d b n c.loop-place.place) (IsBranchFrom d b n) c.args.begun.now.items c.loop-place.begun.items (λ k h. h.0) (λ k f. let le = f.within in (f, omega (arith, le, past))) c.loop-place.invariant

pub unreachable-requires : goal.unreachable-requires
unreachable-requires c =
    let instrs = instrs_at c.args.domain.now.blocks c.args.block in
    let long : length instrs ≡ length c.instructions-count.result.now = sym (ap length c.instructions-count.ensures.is) ∙ length-map c.instructions-count.result.now instruction in
    let within = c.loop-place-test.true in
    let none : None ≡ slice_get instrs c.loop-place.place = ap (option_map (λ i. instruction i.now)) (sym c.in_default.is) ∙ c.instruction.ensures.is in
    ⊎_elim (λ x. absurd (cc (none, x.2))) (λ x. let past = x.0 in omega (arith, past, within, long)) (slice_get_cases instrs c.loop-place.place).1

pub begin_branches-requires : goal.begin_branches-requires
begin_branches-requires c =
    let d = c.args.domain.now in
    let count = c.requires.count in
    let more = c.loop-place.invariant.count in
    let block = c.requires.block in
    names_below c.args.block (length c.loop-place.begun.items) (instruction c.in-Some.instr.now) (omega (arith, count, more, block))
    (names_at c.args.block (instrs_at d.blocks c.args.block) _ (instruction c.in-Some.instr.now) (before_of_sound d c.args.block c.objects-objects.ensures.sound)
    (sym c.in-Some.ensures.is))

pub loop-place-preserved : goal.loop-place-preserved
loop-place-preserved c =
    branches_more c.args.domain.now c.args.block c.args.passed c.loop-place.place (instruction c.in-Some.instr.now) c.args.begun.now.items c.loop-place.begun.items c.begin_branches.new.begun.items
    c.if-place-passed.false (sym c.in-Some.ensures.is) c.loop-place.invariant c.begin_branches.ensures

pub returns : goal.returns
returns c =
    let d = c.args.domain.now in
    let b = c.args.block in
    let n = c.args.passed in
    let instrs = instrs_at d.blocks b in
    let long : length instrs ≡ length c.instructions-count.result.now = sym (ap length c.instructions-count.ensures.is) ∙ length-map c.instructions-count.result.now instruction in
    let past = c.loop-place-test.false in
    begins_as (IsBranchBefore d b n c.loop-place.place) (IsBranchFrom d b n) c.args.begun.now.items c.loop-place.begun.items (λ k h. h.0)
    (λ k f. let within = slice_get_within instrs f.place f.instr f.there in (f, omega (arith, within, long, past))) c.loop-place.invariant
