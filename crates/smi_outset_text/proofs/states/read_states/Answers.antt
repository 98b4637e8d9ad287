use Rattle.std.proofs.Common.{◌≡◌, ◌∙◌, ◌++◌, ◌∷◌, [], refl, sym, subst, length, rules}
use Rattle.std.proofs.lemmas.List.FromFn.{length-map-range_with_len}
use Rattle.smi_outset_text.specs.OutsetText.{outset_state_line}
use Rattle.smi_outset_text.specs.Lines.{StateOf}
use Rattle.smi_outset_text.specs.Reading.{IsOwnState, StateIsRead}
use Rattle.smi_outset_text.proofs.Beginning.{begins_more}
use Rattle.smi_outset_text.proofs.Numbered.{count_push, each_push, numbered_read}
use Rattle.smi_outset_text.proofs.states.read_states.Goals as goal

pub loop-o-preserved : goal.loop-o-preserved
loop-o-preserved c =
    let d = c.args.domain.now in
    let xs = c.loop-o.found.items in
    let ys = c.push.new.self.items in
    let o = c.loop-o.o in
    let s = c.in-Some.next.0 in
    let text = c.args.text.now in
    let rest = c.loop-o.rest.now in
    let more = c.in-Some.next.1.now in
    let read : StateIsRead d o rest s more = subst (λ k. StateIsRead d k rest s more) c.new.ensures c.in-Some.ensures in
    let items : ys ≡ xs ++ s ∷ [] = search rules in
    record {
      count = count_push xs ys o s c.loop-o.invariant.count items;
      each = each_push (IsOwnState d) xs ys o s c.loop-o.invariant.each read.0 c.loop-o.invariant.count items;
      whole = numbered_read (outset_state_line d) xs ys o s text rest more c.loop-o.invariant.whole read.1 c.loop-o.invariant.count items;
      lines = begins_more d StateOf o text rest (outset_state_line d o s) more c.loop-o.invariant.lines
          (record { state = s; is = read.0.is; held = read.0.small; says = refl }) read.1;
    }

pub returns-clause-count : goal.returns-clause-count
returns-clause-count c = c.objects-objects.ensures.count ∙ sym (length-map-range_with_len StateOf 0 (length c.args.domain.now.objects))
