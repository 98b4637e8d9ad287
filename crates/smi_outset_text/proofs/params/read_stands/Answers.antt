use Rattle.std.proofs.Common.{◌≡◌, ◌++◌, ◌∷◌, ◌<◌, [], arith, flat_map, length, length-append, refl, rules, subst, sym}
use Rattle.std.specs.List.{range_with_len}
use Rattle.sml_outset.specs.Outset.{Stand}
use Rattle.sml_outset.specs.Suits.{ParamsSuit, StandSuits}
use Rattle.sml_domain.specs.Lookups.{class_params_at}
use Rattle.smi_outset_text.specs.OutsetText.{outset_param_lines, stand_param_lines}
use Rattle.smi_outset_text.specs.Lines.{BeginsWithLines, IsFirstBadLine, param_lines_of}
use Rattle.smi_outset_text.specs.Reading.{FaultIsIn, IsHeldStand, IsOwnState, state_of_stand}
use Rattle.smi_outset_text.proofs.Beginning.{begins_both, begins_flat_more, counts_fit, fault_at, flat_count, lines_fit}
use Rattle.smi_outset_text.proofs.Numbered.{all_push, count_push, each_push, map_push, numbered_read}
use Rattle.smi_outset_text.proofs.params.read_stands.Goals as goal

pub after_lines-requires : goal.after_lines-requires
after_lines-requires c = λ count e.
    let d = c.args.domain.now in
    let own = param_lines_of d c.new.result in
    let before = flat_map (param_lines_of d) (range_with_len 0 c.loop-o.o) in
    let bad : IsFirstBadLine d own c.loop-o.rest.now count = rw e at c.in-Err.ensures.fault in
    let fit = counts_fit d before own c.args.text.now c.loop-o.rest.now count c.loop-o.invariant.lines bad in
    omega (arith, fit, c.loop-o.invariant.count, c.length_of-bytes.ensures.is, c.length_of-bytes.ensures.few)

pub returns-in-Err-clause-fault : goal.returns-in-Err-clause-fault
returns-in-Err-clause-fault c =
    let d = c.args.domain.now in
    let o = c.loop-o.o in
    let rest = c.loop-o.rest.now in
    let before = flat_map (param_lines_of d) (range_with_len 0 o) in
    let lt : o < length d.objects = omega (arith, c.loop-o-test.true, c.objects-o-end.ensures.count) in
    let own : FaultIsIn d (param_lines_of d o) rest c.in-Err.fault
    = subst (λ k. FaultIsIn d (param_lines_of d k) rest c.in-Err.fault) c.new.ensures c.in-Err.ensures.fault in
    fault_at d (param_lines_of d) o (length d.objects) c.args.text.now c.after_lines.result lt
    (c.after_lines.ensures d before (param_lines_of d o) c.args.text.now rest c.loop-o.invariant.count c.loop-o.invariant.lines own)

pub overflow_add-lines : goal.overflow_add-lines
overflow_add-lines c =
    let d = c.args.domain.now in
    let own = param_lines_of d c.new.result in
    let before = flat_map (param_lines_of d) (range_with_len 0 c.loop-o.o) in
    let fit = lines_fit d (before ++ own) c.args.text.now c.in-Ok.params.rest.now
    (begins_both d before own c.args.text.now c.loop-o.rest.now c.in-Ok.params.rest.now c.loop-o.invariant.lines c.in-Ok.ensures.lines) in
    let both = length-append before own in
    omega (arith, fit, both, c.loop-o.invariant.count, c.in-Ok.ensures.count, c.length_of-bytes.ensures.is, c.length_of-bytes.ensures.few)

pub loop-o-preserved : goal.loop-o-preserved
loop-o-preserved c =
    let d = c.args.domain.now in
    let o = c.loop-o.o in
    let xs = c.loop-o.found.items in
    let ys = c.push.new.self.items in
    let s = c.index-states-o.result in
    let states = c.args.states.now in
    let params = c.in-Ok.params.found.items in
    let x : Stand = record { state = s; params = params } in
    let text = c.args.text.now in
    let rest = c.loop-o.rest.now in
    let more = c.in-Ok.params.rest.now in
    let inv = c.loop-o.invariant in
    let size = c.requires.count in
    let lt : o < length states = omega (arith, c.loop-o-test.true, c.objects-o-end.ensures.count, size) in
    let items : ys ≡ xs ++ x ∷ [] = search rules in
    let own : IsOwnState d o s = subst (IsOwnState d o) (sym c.index-states-o.is) (c.requires.each o s lt) in
    let whole : rest ≡ stand_param_lines d o x ++ more
    = subst (λ k. rest ≡ outset_param_lines d k params ++ more) c.new.ensures c.in-Ok.ensures.whole in
    let suit : ParamsSuit (class_params_at d o) params
    = subst (λ k. ParamsSuit (class_params_at d k) params) c.new.ensures c.in-Ok.ensures.suit in
    let lines : BeginsWithLines d (param_lines_of d o) rest more
    = subst (λ k. BeginsWithLines d (param_lines_of d k) rest more) c.new.ensures c.in-Ok.ensures.lines in
    let count : c.in-Ok.params.lines ≡ length (param_lines_of d o)
    = subst (λ k. c.in-Ok.params.lines ≡ length (param_lines_of d k)) c.new.ensures c.in-Ok.ensures.count in
    record {
      size = count_push xs ys o x inv.size items;
      states = map_push state_of_stand xs ys x states o s inv.states items refl lt c.index-states-o.is;
      suit = each_push (StandSuits d) xs ys o x inv.suit (record { state = own.is; params = suit }) inv.size items;
      held = all_push IsHeldStand xs ys x inv.held (record { state = own.small; params = c.in-Ok.ensures.held }) items;
      whole = numbered_read (stand_param_lines d) xs ys o x text rest more inv.whole whole inv.size items;
      count = flat_count d (param_lines_of d) o c.loop-o.lines c.in-Ok.params.lines inv.count count;
      lines = begins_flat_more d (param_lines_of d) o text rest more inv.lines lines;
    }
