-- The numbers of letters that wait.
use Rattle.std.specs.Prelude.{◌≡◌, ◌++◌, ◌∷◌, List, [], length}
use Rattle.smi_journal_entries.specs.declared.letter.Letter.{Letter}
use Rattle.smi_journal_entries.specs.Requests.{Request, request_of, from_sender}

-- letters behind some requests: the number of each is the count of its sender's before it
abbrev pub AreNumbered : List Request → List Letter → Type 0
AreNumbered before [] = Unit {0}
AreNumbered before (l ∷ more) =
    (l.number ≡ length (from_sender l.sender before)) × AreNumbered (before ++ request_of l ∷ []) more
