use Rattle.std.proofs.Common.{[], ◌∷◌}
use Rattle.sml_tree.specs.Content.{instr_content}
use Rattle.sml_tree.specs.Form.{Block}
use Rattle.sml_read_parts.proofs.Found.{found_front}
use Rattle.sml_read_parts.proofs.reader.Reader.plain.Goals as goal

-- an instruction of each kind
pub returns-in-Some-Do : goal.returns-in-Some-Do
returns-in-Some-Do g c = found_front (Block c.args.depth) (Block c.args.depth) (λ i v. instr_content i ∷ v) [] c.send.result c.as_some.result c.args.self.now c.send.new.self c.as_some.ensures c.send.ensures

pub returns-in-Some-Set : goal.returns-in-Some-Set
returns-in-Some-Set g c = found_front (Block c.args.depth) (Block c.args.depth) (λ i v. instr_content i ∷ v) [] c.assignment.result c.as_some-in-Some-Set.result c.args.self.now c.assignment.new.self c.as_some-in-Some-Set.ensures c.assignment.ensures

pub returns-in-Some-MoveTo : goal.returns-in-Some-MoveTo
returns-in-Some-MoveTo g c = found_front (Block c.args.depth) (Block c.args.depth) (λ i v. instr_content i ∷ v) [] c.movement.result c.as_some-in-Some-MoveTo.result c.args.self.now c.movement.new.self c.as_some-in-Some-MoveTo.ensures c.movement.ensures

pub returns-in-Some-TerminateAction : goal.returns-in-Some-TerminateAction
returns-in-Some-TerminateAction g c = found_front (Block c.args.depth) (Block c.args.depth) (λ i v. instr_content i ∷ v) [] c.termination.result c.as_some-in-Some-TerminateAction.result c.args.self.now c.termination.new.self c.as_some-in-Some-TerminateAction.ensures c.termination.ensures

pub returns-in-Some-Wait : goal.returns-in-Some-Wait
returns-in-Some-Wait g c = found_front (Block c.args.depth) (Block c.args.depth) (λ i v. instr_content i ∷ v) [] c.waiting.result c.as_some-in-Some-Wait.result c.args.self.now c.waiting.new.self c.as_some-in-Some-Wait.ensures c.waiting.ensures

pub returns-in-Some-Insert : goal.returns-in-Some-Insert
returns-in-Some-Insert g c = found_front (Block c.args.depth) (Block c.args.depth) (λ i v. instr_content i
    ∷ v) [] c.insertion.result c.as_some-in-Some-Insert.result c.args.self.now c.insertion.new.self
    c.as_some-in-Some-Insert.ensures c.insertion.ensures

pub returns-in-Some-Remove : goal.returns-in-Some-Remove
returns-in-Some-Remove g c = found_front (Block c.args.depth) (Block c.args.depth) (λ i v. instr_content i
    ∷ v) [] c.removal.result c.as_some-in-Some-Remove.result c.args.self.now c.removal.new.self
    c.as_some-in-Some-Remove.ensures c.removal.ensures
