-- The task stays one of the board's object.
use Rattle.std.proofs.Common.{◌≡◌, IfSome}
use Rattle.smi_board.specs.Contacts.{IsTaskOf}
use Rattle.tests_of_journals.proofs.acts.makes_all.Given as goal

abbrev pub invariant-loop-made : goal.invariant-loop-made
invariant-loop-made l = record {
  board : l.board.domain ≡ l.initial.board.domain;
  left : IfSome l.place (IsTaskOf l.board.domain l.o);
}
