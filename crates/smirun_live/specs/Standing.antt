-- The lines of how all stands that tell what a manager keeps of what it did.
use Rattle.std.specs.Prelude.{ℕ, zero, suc, List, [], ◌++◌, Option, Some, None, codes, drop, length, flat_map, option_map, slice_get}
use Rattle.std.specs.List.{range_with_len}
use Rattle.sml_text.specs.Decimal.{decimal_text}
use Rattle.sml_domain.specs.Domain.{Domain}
use Rattle.smi_journal_entries.specs.declared.entry.Entry.{Entry}
use Rattle.smi_journal_entries.specs.declared.entry.Sender.{Sender}
use Rattle.smi_journal_entries.specs.declared.entry.Sender.TheVariants.{Object, Operator}
use Rattle.smi_journal.specs.CallText.{object_name_text, spaced, state_name_text}
use Rattle.smi_journal.specs.EntryText.{session_text}
use Rattle.smi_live_accounts.specs.Accounts.{AccountsView}
use Rattle.smi_live_once.specs.Tables.{OnceTold}
use Rattle.smi_request_fates.specs.declared.counts.Counts.{Counts}
use Rattle.smi_request_fates.specs.declared.fate.Came.{Came}
use Rattle.smi_request_fates.specs.declared.fate.Came.TheVariants.{Accepted, Past, Refused}
use Rattle.smi_request_fates.specs.declared.fate.Fate.{Fate}
use Rattle.smi_request_fates.specs.declared.fate.Fate.TheVariants.{Waits, Open, Ended, Skipped, Killed}
use Rattle.smi_request_fates.specs.declared.fate.Stands.{Stands}
use Rattle.smi_request_fates.specs.Kept.{WatchedView}

-- the line of a count of an object, unless it is 0
abbrev pub count_line : Domain → ℕ → List ℕ → ℕ → List ℕ
count_line d o word zero = []
count_line d o word (suc n) =
    word ++ (spaced (object_name_text d o) ++ (spaced (decimal_text (suc n)) ++ codes "\n"))

-- the lines of what is counted of an object
abbrev pub counts_lines : Domain → ℕ → Option Counts → List ℕ
counts_lines d o None = []
counts_lines d o (Some c) = count_line d o (codes "started") c.started ++ count_line d o (codes "ended") c.ended

-- those of all objects
abbrev pub all_counts_lines : Domain → List Counts → List ℕ
all_counts_lines d counts = flat_map (λ o. counts_lines d o (slice_get counts o)) (range_with_len 0 (length d.objects))

-- an object, its state and its version
abbrev pub stood_text : Domain → ℕ → Option Stands → List ℕ
stood_text d o None = codes " - - 0"
stood_text d o (Some at) =
    spaced (object_name_text d o) ++ (spaced (state_name_text d at.state) ++ spaced (decimal_text at.ended))

-- the session of a request, with its number there; those of an object's are not told
abbrev pub asker_text : Sender → ℕ → List ℕ
asker_text (Operator k) n = spaced (session_text k) ++ spaced (decimal_text n)
asker_text (Object x) n = []

-- a request is not over, as this word says: it is known by its session and its number
abbrev pub under_way_text : WatchedView → List ℕ → List ℕ
under_way_text w word = word ++ (asker_text w.sender w.number ++ codes "\n")

-- what became of an accepted request, whose object stands so now
abbrev pub fate_text : Domain → WatchedView → Option Stands → Fate → List ℕ
fate_text d w now Waits = stood_text d w.object now ++ under_way_text w (codes " waits")
fate_text d w now Open = stood_text d w.object now ++ under_way_text w (codes " open")
fate_text d w now (Ended at) = stood_text d w.object (Some at) ++ codes " ended\n"
fate_text d w now (Skipped at) = stood_text d w.object (Some at) ++ codes " skipped\n"
fate_text d w now (Killed at) = stood_text d w.object (Some at) ++ codes " killed\n"

-- what became of a request; of a refused one what was told of it, and of one that a log before had what stands after the
-- word `past`
abbrev pub came_text : Domain → WatchedView → Option Stands → List ℕ → Came → List ℕ
came_text d w now answer (Accepted fate) = fate_text d w now fate
came_text d w now answer (Refused at) = stood_text d w.object at ++ spaced answer
came_text d w now answer (Past at) = stood_text d w.object at ++ drop 4 answer

-- how an object stands now
abbrev pub stands_now : List Counts → ℕ → Option Stands
stands_now counts o = option_map (λ c. record { state = c.state; ended = c.ended }) (slice_get counts o)

-- the line of the last request of a name
abbrev pub once_line : Domain → List Counts → Option OnceTold → Option WatchedView → List ℕ
once_line d counts None w = []
once_line d counts (Some t) None = []
once_line d counts (Some t) (Some w) =
    codes "once" ++ (spaced t.name ++ (spaced (decimal_text t.number)
    ++ came_text d w (stands_now counts w.object) t.answer w.came))

-- those of all names, in the order in which they came
abbrev pub all_once_lines : Domain → AccountsView → List ℕ
all_once_lines d a =
    flat_map (λ p. once_line d a.fates.counts (slice_get a.told p) (slice_get a.fates.watched p))
    (range_with_len 0 (length a.told))

-- all of them, and last how many entries the journal has
abbrev pub accounts_text : Domain → List Entry → AccountsView → List ℕ
accounts_text d J a =
    all_counts_lines d a.fates.counts
    ++ (all_once_lines d a ++ (codes "stands" ++ (spaced (decimal_text (length J)) ++ codes "\n")))
