use Rattle.std.proofs.Common.{arith}
use Rattle.sml_check_faults.proofs.Noted.{list_set}
use Rattle.sml_check_faults.proofs.may.add_at.Goals as goal

pub returns-in_ok-add_name : goal.returns-in_ok-add_name
returns-in_ok-add_name c =
    list_set c.args.may.now.items c.args.place c.index_mut.result.now c.add_name.new.list c.args.name.now
    (omega (arith, c.if-place-len.true, c.len.ensures, c.args.may.now.ok.0)) c.index_mut.ensures.value
    c.in_ok-add_name.ensures
