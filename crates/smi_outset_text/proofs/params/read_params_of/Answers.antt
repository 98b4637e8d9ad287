use Rattle.std.proofs.Common.{◌≡◌, ◌∙◌, ◌++◌, ◌∷◌, ◌<◌, ℕ, [], Some, ap, arith, get_or, length, refl, rules, subst, sym}
use Rattle.std.proofs.lemmas.List.FromFn.{length-map-range_with_len}
use Rattle.std.proofs.lemmas.List.{get_or_default}
use Rattle.std.proofs.lemmas.Option.{slice_get-get_or}
use Rattle.sml_domain.specs.Domain.{Param}
use Rattle.sml_domain.specs.Lookups.{class_params_at}
use Rattle.sml_outset.specs.Suits.{ParamSuits}
use Rattle.smi_outset_text.specs.OutsetText.{outset_param_line}
use Rattle.smi_outset_text.specs.Lines.{ParamOf}
use Rattle.smi_outset_text.specs.Reading.{IsHeldParam, NoParamIsRead, ParamIsRead}
use Rattle.smi_outset_text.proofs.Beginning.{bad_at, begins_more}
use Rattle.smi_outset_text.proofs.Numbered.{all_push, count_push, each_push, flat_read}
use Rattle.smi_outset_text.proofs.Valued.{param_bad}
use Rattle.smi_outset_text.proofs.params.read_params_of.Goals as goal

pub returns-in-None-clause-fault : goal.returns-in-None-clause-fault
returns-in-None-clause-fault c =
    let d = c.args.domain.now in
    let o = c.args.o in
    let k = c.loop-place.place in
    let p = c.index-params-place.result in
    let ps = class_params_at d o in
    let rest = c.loop-place.rest.now in
    let size = ap length c.class_parameters-params.ensures.is in
    let lt : k < length ps = omega (arith, c.loop-place-test.true, size) in
    let is : p ≡ get_or ps k p = c.index-params-place.is ∙ ap (λ l. get_or l k p) c.class_parameters-params.ensures.is in
    let none : NoParamIsRead d o p rest = rw c.in-None.is at c.in-Ok.ensures in
    bad_at d (ParamOf o) k (length ps) c.args.text.now rest lt c.loop-place.invariant.lines
    (param_bad d o k p rest (slice_get-get_or ps k p lt ∙ ap Some (sym is)) none)

pub loop-place-preserved : goal.loop-place-preserved
loop-place-preserved c =
    let d = c.args.domain.now in
    let o = c.args.o in
    let k = c.loop-place.place in
    let p = c.index-params-place.result in
    let ps = class_params_at d o in
    let xs = c.loop-place.found.items in
    let ys = c.push.new.self.items in
    let x = c.in-Some.next.0 in
    let text = c.args.text.now in
    let rest = c.loop-place.rest.now in
    let more = c.in-Some.next.1.now in
    let size = ap length c.class_parameters-params.ensures.is in
    let lt : k < length ps = omega (arith, c.loop-place-test.true, size) in
    let is : p ≡ get_or ps k p = c.index-params-place.is ∙ ap (λ l. get_or l k p) c.class_parameters-params.ensures.is in
    let read : ParamIsRead d o p rest x more = rw c.in-Some.is at c.in-Ok.ensures in
    let items : ys ≡ xs ++ x ∷ [] = search rules in
    let count = c.loop-place.invariant.count in
    let own : (q : Param) → ParamSuits (get_or ps k q) x
    = λ q. subst (λ r. ParamSuits r x) (is ∙ get_or_default ps k p q lt) read.suits in
    let each = each_push (λ (j : ℕ) (y : Param). (q : Param) → ParamSuits (get_or ps j q) y) xs ys k x
    (λ j y l q. c.loop-place.invariant.each j q y (omega (arith, l, count))) own count items in
    let longer = count_push xs ys k x count items in
    record {
      count = longer;
      each = λ j q y l. each j y (omega (arith, l, longer)) q;
      held = all_push IsHeldParam xs ys x c.loop-place.invariant.held read.held items;
      whole = flat_read (outset_param_line d o) xs ys x text rest more c.loop-place.invariant.whole read.says items;
      lines = begins_more d (ParamOf o) k text rest (outset_param_line d o x) more c.loop-place.invariant.lines
          (record { param = p; given = x; at = slice_get-get_or ps k p lt ∙ ap Some (sym is); suits = read.suits; held = read.held; says = refl }) read.says;
    }

pub returns-clause-suit : goal.returns-clause-suit
returns-clause-suit c =
    let size = ap length c.class_parameters-params.ensures.is in
    let inv = c.loop-place.invariant in
    record {
      count = omega (arith, c.loop-place-test.false, c.loop-place.auto.place-end, size, inv.count);
      each = λ k p x lt. inv.each k p x (omega (arith, lt, c.loop-place-test.false, c.loop-place.auto.place-end, size));
    }

pub returns-clause-count : goal.returns-clause-count
returns-clause-count c =
    ap length c.class_parameters-params.ensures.is
    ∙ sym (length-map-range_with_len (ParamOf c.args.o) 0 (length (class_params_at c.args.domain.now c.args.o)))
