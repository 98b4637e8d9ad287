-- The text of the front of a log of version 2.
use Rattle.std.specs.Prelude.{ℕ, List, ◌++◌, codes, flat_map}
use Rattle.sml_text.specs.Decimal.{decimal_text}
use Rattle.sml_domain.specs.Domain.{Domain}
use Rattle.smi_journal_entries.specs.declared.entry.Cause.TheVariants.{By}
use Rattle.smi_journal_entries.specs.declared.entry.Entry.TheVariants.{Kill}
use Rattle.smi_journal.specs.EntryText.{line_text}
use Rattle.smi_outset_text.specs.OutsetText.{outset_text}
use Rattle.smi_carried.specs.CarriedText.{carried_text}
use Rattle.smi_log_front.specs.declared.first_line.LogVersion.{LogVersion}
use Rattle.smi_log_front.specs.declared.first_line.LogVersion.TheVariants.{One, Two}
use Rattle.smi_log_front.specs.declared.front.FrontKill.{FrontKill}
use Rattle.smi_log_front.specs.Front.{FrontView}

-- with what a log of a version begins
abbrev pub log_words : LogVersion → List ℕ
log_words One = codes "! smirun live 1 "
log_words Two = codes "! smirun live 2 "

-- the first line of a log, by the SHA-1 of its domain's text and the room of its mailboxes
abbrev pub log_first_line : LogVersion → List ℕ → ℕ → List ℕ
log_first_line version sum capacity = log_words version ++ (sum ++ (codes " capacity " ++ decimal_text capacity))

-- the first line of a front
abbrev pub front_head : List ℕ → ℕ → List ℕ
front_head sum capacity = log_first_line Two sum capacity ++ codes "\n"

-- the line that kills a dead object again, as that of a journal
abbrev pub front_kill_line : Domain → FrontKill → List ℕ
front_kill_line d x = line_text d (Kill x.object (By x.session))

-- those of all dead objects
abbrev pub front_kills_text : Domain → List FrontKill → List ℕ
front_kills_text d kills = flat_map (front_kill_line d) kills

-- the last line of a front, by the SHA-1 of the log before
abbrev pub front_end : List ℕ → List ℕ
front_end sum = codes "! after " ++ (sum ++ codes "\n")

-- all lines of a front but the last
abbrev pub front_begin : Domain → FrontView → List ℕ
front_begin d f = front_head f.domain_sum f.capacity
    ++ (outset_text d f.outset ++ (carried_text d f.carried ++ front_kills_text d f.kills))

-- all lines of a front
abbrev pub front_text : Domain → FrontView → List ℕ
front_text d f = front_begin d f ++ front_end f.log_sum
