use Rattle.std.proofs.Common.{◌≡◌, ◌∙◌, ◌++◌, ◌∷◌, [], sym, ap, set, map, List}
use Rattle.std.specs.Prelude.{Vec}
use Rattle.std.specs.Global.{Global}
use Rattle.std.proofs.lemmas.List.{map-set, get_or-map}
use Rattle.smi_run_report.specs.declared.told.Accepted.{Accepted}
use Rattle.smi_run_report.specs.Told.{rows_of}
use Rattle.smi_run_runtime.proofs.session.add_accepted.Goals as goal

pub returns : goal.returns
returns c =
    let items : Vec Accepted Global → List Accepted = λ v. v.items in
    let rows = c.args.rows.now.items in
    let v = c.index_mut.result.now in
    map-set items rows c.args.place c.push_reserved.new.self
    ∙ ap (set (rows_of rows) c.args.place) (c.push_reserved.ensures.items ∙ ap (λ (l : List Accepted). l ++ c.args.accepted ∷ []) (ap items c.index_mut.ensures.value ∙ sym (get_or-map items rows c.args.place v [] c.requires.within)))
