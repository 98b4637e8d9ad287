use Rattle.std.proofs.Common.{sym, subst}
use Rattle.smi_live_accounts.specs.Accounts.{AccountsTell, AccountsView}
use Rattle.smi_live_accounts.proofs.Putting.{put_instead, put_more}
use Rattle.smi_live_accounts.proofs.accounts.Accounts.put.Goals as goal

pub returns-then-place-requests-clause-tells : goal.returns-then-place-requests-clause-tells
returns-then-place-requests-clause-tells c = λ d J h came answers.
    let a : AccountsView = record { told = c.self.inside.table.told; fates = c.self.inside.fates; starts = c.self.inside.starts } in
    put_instead d J a c.hold.new.self c.in_ok-hold.ensures.same (record { name = c.args.name.now; number = c.args.number; answer = c.args.answer.now }) c.args.watched c.in_ok-place.place c.requests.result c.requests.ensures c.put.new.self.told
    (subst (AccountsTell d J) (sym c.self.view_is) h) came answers c.watch_instead.new.self c.in_ok-place.ensures.at c.if-place-requests.true c.watch_instead.ensures

pub returns-else-place-requests-clause-tells : goal.returns-else-place-requests-clause-tells
returns-else-place-requests-clause-tells c = λ d J h came answers.
    let a : AccountsView = record { told = c.self.inside.table.told; fates = c.self.inside.fates; starts = c.self.inside.starts } in
    put_more d J a c.hold.new.self c.in_ok-hold.ensures.same (record { name = c.args.name.now; number = c.args.number; answer = c.args.answer.now }) c.args.watched c.in_ok-place.place c.requests.result c.requests.ensures c.put.new.self.told
    (subst (AccountsTell d J) (sym c.self.view_is) h) came answers c.watch.new.self _ c.in_ok-place.ensures.at c.if-place-requests.false c.watch.ensures
