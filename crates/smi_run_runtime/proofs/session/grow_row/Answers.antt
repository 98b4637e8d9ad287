use Rattle.std.proofs.Common.{◌≡◌, ◌∙◌, ap, List}
use Rattle.std.specs.Prelude.{Vec}
use Rattle.std.specs.Global.{Global}
use Rattle.std.proofs.Math.Seq.{map-set_same}
use Rattle.smi_run_report.specs.declared.told.Accepted.{Accepted}
use Rattle.smi_run_runtime.proofs.Accepting.{has_room}
use Rattle.smi_run_runtime.proofs.session.grow_row.Goals as goal

pub returns-clause-same : goal.returns-clause-same
returns-clause-same c =
    let items : Vec Accepted Global → List Accepted = λ v. v.items in
    map-set_same items c.args.rows.now.items c.args.place c.reserve.new.self c.index_mut.result.now (c.reserve.ensures.items ∙ ap items c.index_mut.ensures.value)

pub returns-clause-room : goal.returns-clause-room
returns-clause-room c =
    has_room c.args.rows.now.items c.args.place c.reserve.new.self c.reserve.result c.requires c.reserve.ensures.ok
