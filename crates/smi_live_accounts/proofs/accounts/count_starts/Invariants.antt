use Rattle.std.proofs.Common.{◌≡◌, length, take}
use Rattle.smi_journal_entries.specs.Words.{all_starts}
use Rattle.smi_live_accounts.proofs.accounts.count_starts.Given as goal

abbrev pub invariant-loop-place : goal.invariant-loop-place
invariant-loop-place l = l.starts ≡ length (all_starts (take l.place l.entries))
