use Rattle.smi_live_accounts.proofs.Putting.{accounts_begin}
use Rattle.smi_live_accounts.proofs.accounts.Accounts.new.Goals as goal

pub returns-clause-tells : goal.returns-clause-tells
returns-clause-tells c =
    accounts_begin c.args.domain.now c.in_ok-fates.fates c.new-2.result.told c.in_ok-fates.ensures.tells c.in_ok-fates.ensures.count c.in_ok-fates.ensures.none c.new-2.ensures
