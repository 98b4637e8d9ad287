-- With which table the next log begins.
use Rattle.std.specs.Prelude.{◌≡◌, true, List, [], ◌∷◌, ◌++◌, map}
use Rattle.smi_carried.specs.Carried.{CarriedView, OnceView}
use Rattle.smi_carried.specs.Suits.{are_named_once}
use Rattle.smi_live_accounts.specs.Accounts.{AccountsView}
use Rattle.smi_live_once.specs.Carrying.{SameNumbers, past_text}
use Rattle.smi_live_once.specs.Tables.{OnceTold, with_last_told}
use Rattle.smi_live_carried.specs.TakingAlong.{TakesNumbers}

-- what is told to a name of a log before: what became of its last request
abbrev pub recalled_told : OnceView → OnceTold
recalled_told x = record { name = x.name; number = x.number; answer = past_text x.what }

-- names are recalled, one after another
abbrev pub recalled_from : List OnceTold → List OnceView → List OnceTold
recalled_from ts [] = ts
recalled_from ts (x ∷ xs) = recalled_from (with_last_told ts (recalled_told x)) xs

-- what was told last where a log begins after others
abbrev pub recalled_table : List OnceView → List OnceTold
recalled_table names = recalled_from [] names

-- where one name more is recalled, what became of its last request is put last
abbrev pub RecallsOneMore : Type 0
RecallsOneMore =
    (ts : List OnceTold) (xs : List OnceView) (x : OnceView)
    → recalled_from ts (xs ++ x ∷ []) ≡ with_last_told (recalled_from ts xs) (recalled_told x)

-- if no name is there twice, it is what is told to each, in their order
abbrev pub RecallsEach : Type 0
RecallsEach = (names : List OnceView) → are_named_once names ≡ true → recalled_table names ≡ map recalled_told names

-- the next log begins with the names and the last numbers with which the one before ended
abbrev pub BeginsWithNumbers : Type 0
BeginsWithNumbers =
    (a : AccountsView) (c : CarriedView) → TakesNumbers a c → are_named_once c.names ≡ true
    → SameNumbers a.told (recalled_table c.names)
