use Rattle.std.proofs.Common.{◌≡◌, ◌++◌, false, drop, map, Some}
use Rattle.std.specs.List.{list_any}
use Rattle.sml_domain.specs.Completing.{complete}
use Rattle.smi_journal_entries.specs.BadArguments.{gets_none}
use Rattle.smi_journal_entries.proofs.completing.complete_values.Given as goal

abbrev pub invariant-loop-param : goal.invariant-loop-param
invariant-loop-param l = record {
  made : map Some l.values.items ++ complete (drop l.param-index l.params) l.passed ≡ complete l.params l.passed;
  rest : list_any (gets_none l.passed) (drop l.param-index l.params) ≡ false;
}
