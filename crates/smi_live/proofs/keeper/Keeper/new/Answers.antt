use Rattle.std.proofs.Common.{[], subst}
use Rattle.sml_domain.specs.Sound.{IsSound}
use Rattle.smi_live_accounts.specs.Accounts.{AccountsTell}
use Rattle.smi_live.proofs.Opening.{opens}
use Rattle.smi_live.proofs.keeper.Keeper.new.Goals as goal

pub invariant_of-result : goal.invariant_of-result
invariant_of-result c =
    let begun = opens c.args.core c.in_ok-accounts.accounts (subst IsSound c.domain.ensures c.objects-sound.ensures.sound) c.requires.opening
    (subst (λ d. AccountsTell d [] c.in_ok-accounts.accounts) c.domain-2.ensures c.in_ok-accounts.ensures.tells) in
    (begun.0, begun.1, c.requires.starts)
