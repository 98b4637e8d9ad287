-- What is told beside the output.
use Rattle.std.specs.Prelude.{◌≡◌, ◌⊎◌, ◌+◌, ◌^◌, ◌-◌, ℕ, zero, suc, min, List, [], ◌++◌, codes, length}
use Rattle.sml_text.specs.Decimal.{decimal_text}

-- a line for each answer that was not told
abbrev pub unanswered_text : ℕ → List ℕ
unanswered_text zero = []
unanswered_text (suc n) = codes "? not told\n" ++ unanswered_text n

-- the line of a count of bytes that were not told, unless it is 0
abbrev pub unsaid_line : ℕ → List ℕ
unsaid_line zero = []
unsaid_line (suc n) = decimal_text (suc n) ++ codes " bytes not told\n"

-- what is told of answers and bytes that were not told
abbrev pub lost_text : ℕ → ℕ → List ℕ
lost_text answers bytes = unanswered_text answers ++ unsaid_line bytes

-- a remark was told: it waits whole, after what is told of those that were lost, or it is lost itself, an answer or not
abbrev pub TellsAside : List ℕ → ℕ → ℕ → List ℕ → List ℕ → ℕ → ℕ → Type 0
TellsAside waiting answers bytes remark waiting2 answers2 bytes2 =
    ((waiting2 ≡ waiting ++ (lost_text answers bytes ++ remark)) × (answers2 ≡ 0) × (bytes2 ≡ 0))
    ⊎ ((waiting2 ≡ waiting) × (answers2 ≡ min (answers + 1) (2 ^ 64 - 1)) × (bytes2 ≡ bytes))
    ⊎ ((waiting2 ≡ waiting) × (answers2 ≡ answers) × (bytes2 ≡ min (bytes + length remark) (2 ^ 64 - 1)))
