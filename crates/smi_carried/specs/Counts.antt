-- How counts are read.
use Rattle.std.specs.Prelude.{◌≡◌, ◌<◌, ◌≤◌, ◌^◌, ◌⊎◌, ℕ, List, ◌++◌, All, codes, length}
use Rattle.sml_domain.specs.Domain.{Domain}
use Rattle.smi_carried.specs.declared.carried.CarriedCounts.{CarriedCounts}
use Rattle.smi_carried.specs.CarriedText.{carried_count_line, carried_counts_text}

-- counts of 64 bits
pub record CountsAreHeld (c : CarriedCounts) : Type 0 where
  pub started : c.started < 2 ^ 64
  pub ended : c.ended < 2 ^ 64

-- the line of a count that is not 0 is in front, and this comes after it
pub record CountIsRead (keyword : List ℕ) (d : Domain) (o : ℕ) (text : List ℕ) (n : ℕ) (more : List ℕ) : Type 0 where
  pub some : 0 < n
  pub held : n < 2 ^ 64
  pub says : text ≡ carried_count_line keyword d o n ++ more

-- the line of no count that is not 0 is in front
abbrev pub NoCountIsRead : List ℕ → Domain → ℕ → List ℕ → Type 0
NoCountIsRead keyword d o text = (n : ℕ) (more : List ℕ) → CountIsRead keyword d o text n more → ⊥

-- the count whose line is in front, and what comes after it; 0 and the text itself where there is no such line
pub record ReadsCount (keyword : List ℕ) (d : Domain) (o : ℕ) (text : List ℕ) (n : ℕ) (more : List ℕ) : Type 0 where
  pub held : n < 2 ^ 64
  pub says : text ≡ carried_count_line keyword d o n ++ more
  pub none : n ≡ 0 → NoCountIsRead keyword d o text

-- how often an object started and ended by the lines in front, and what comes after them
pub record ReadsCounts (d : Domain) (o : ℕ) (text : List ℕ) (c : CarriedCounts) (more : List ℕ) : Type 0 where
  pub between : List ℕ
  pub started : ReadsCount (codes "! started") d o text c.started between
  pub ended : ReadsCount (codes "! ended") d o between c.ended more

-- the line of a count may be in front
abbrev pub BeginsWithCount : List ℕ → Type 0
BeginsWithCount text = (more : List ℕ) × ((text ≡ codes "! started" ++ more) ⊎ (text ≡ codes "! ended" ++ more))

-- what other counts of all objects stand in front of the text: these, or some after which a line of a count comes, and
-- no less text than after these
abbrev pub CountsAreAll : Domain → List ℕ → List CarriedCounts → List ℕ → Type 0
CountsAreAll d text found rest =
    (others : List CarriedCounts) (more : List ℕ) → length others ≡ length d.objects → All CountsAreHeld others →
    text ≡ carried_counts_text d others ++ more
    → ((others ≡ found) × (more ≡ rest)) ⊎ (BeginsWithCount more × (length rest ≤ length more))
