use Rattle.std.proofs.Common.{◌≡◌, ◌∷◌, ◌++◌, [], ℕ, List, Result, Err, Bor, sym, subst, arith, refl, drop}
use Rattle.smi_core.specs.Output.{LineWrites}
use Rattle.smi_core.specs.declared.schedule.LineFault.{LineFault}
use Rattle.smi_core.specs.declared.schedule.LineFault.TheVariants.{Write}
use Rattle.smi_core.specs.Feeds.{Halted, HasNoEnd}
use Rattle.smi_core.proofs.Parts.{halted_line, halted_more, halted_before, went_line, went_more}
use Rattle.smi_core.proofs.Fronts.{went_front, all_front, front_and_end, same_fault}
use Rattle.smi_core.proofs.schedule.feed_line.Goals as goal

pub returns-then-length-bytes-clause-ok : goal.returns-then-length-bytes-clause-ok
returns-then-length-bytes-clause-ok g c line p =
    let bytes = c.args.bytes.now in
    let front = c.split_at.result.0.now in
    let behind = c.split_at.result.1.now in
    let cut = c.split_at.ensures in
    let found = c.front_length-length in
    let none : HasNoEnd front = subst HasNoEnd (sym cut.front) found.ensures.none in
    record {
      fed = front;
      split = all_front bytes front behind found.result cut.front cut.back cut.back_len c.if-length-bytes.true;
      went = went_front LineWrites _ line front _ _ _ none (c.in-Ok.ensures.ok line p);
    }

pub returns-in-Err-clause-err : goal.returns-in-Err-clause-err
returns-in-Err-clause-err g c line p =
    let bytes = c.args.bytes.now in
    let front = c.split_at.result.0.now in
    let behind = c.split_at.result.1.now in
    let cut = c.split_at.ensures in
    let found = c.front_length-length in
    let within = found.ensures.within in
    let ends = found.ensures.ends (omega (arith, within, c.if-length-bytes.false)) in
    let none : HasNoEnd front = subst HasNoEnd (sym cut.front) found.ensures.none in
    let old = g.W.Sink.contents c.args.writer.now in
    let went = went_front LineWrites _ line front old _ _ none (c.in-Ok.ensures.ok line p) in
    let h = halted_more LineWrites _ line front _ _ _ _ _ _ _ _ _ went
    (λ l q. halted_line LineWrites _ _ l 10 _ _ _ refl (c.in-Err.ensures.err l q)) in
    let k = halted_before LineWrites _ line _ (drop 1 behind) _ _ _ _ _ (same_fault c.in-Err.fault Write) h in
    let Fault : Type 0 = ◌≡◌ {A = Result (Bor (List ℕ)) LineFault} (Err c.in-Err.fault) (Err Write) in
    let new = g.W.Sink.contents c.end_line.new.writer in
    let P : List ℕ → Type 0 = λ l. Halted LineWrites c.args.core.now line l Fault old new c.end_line.new.core in
    subst P (sym (front_and_end bytes front behind (drop 1 behind) found.result cut.front cut.back ends refl)) k

pub returns-clause-ok : goal.returns-clause-ok
returns-clause-ok g c line p =
    let bytes = c.args.bytes.now in
    let front = c.split_at.result.0.now in
    let behind = c.split_at.result.1.now in
    let cut = c.split_at.ensures in
    let found = c.front_length-length in
    let within = found.ensures.within in
    let ends = found.ensures.ends (omega (arith, within, c.if-length-bytes.false)) in
    let none : HasNoEnd front = subst HasNoEnd (sym cut.front) found.ensures.none in
    let old = g.W.Sink.contents c.args.writer.now in
    let went = went_front LineWrites _ line front old _ _ none (c.in-Ok.ensures.ok line p) in
    let more = c.split_at-2.result.1.now in
    record {
      fed = front ++ 10 ∷ [];
      split = front_and_end bytes front behind more found.result cut.front cut.back ends c.split_at-2.ensures.back;
      went = went_more LineWrites _ line front _ _ _ _ _ _ _ _ _ _ went
          (λ l q. let e = c.in_default-end_line.ensures.ok l q in
          went_line LineWrites _ _ l e.0 10 _ _ _ _ refl e.1 e.2 e.3);
    }
