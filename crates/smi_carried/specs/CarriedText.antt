-- The text of what goes along.
use Rattle.std.specs.Prelude.{ℕ, zero, suc, List, [], ◌++◌, Option, Some, None, codes, flat_map, length, slice_get}
use Rattle.std.specs.List.{range_with_len}
use Rattle.sml_text.specs.Decimal.{decimal_text}
use Rattle.sml_domain.specs.Domain.{Domain}
use Rattle.smi_journal.specs.CallText.{object_name_text, spaced, state_name_text}
use Rattle.smi_carried.specs.declared.carried.CarriedCounts.{CarriedCounts}
use Rattle.smi_carried.specs.declared.carried.CarriedPlace.{CarriedPlace}
use Rattle.smi_carried.specs.Carried.{CarriedView, OnceView}

-- a keyword, and then the name of an object
abbrev pub carried_object_text : List ℕ → Domain → ℕ → List ℕ
carried_object_text keyword d o = keyword ++ spaced (object_name_text d o)

-- the line of a count of an object, unless it is 0
abbrev pub carried_count_line : List ℕ → Domain → ℕ → ℕ → List ℕ
carried_count_line keyword d o zero = []
carried_count_line keyword d o (suc n) =
    carried_object_text keyword d o ++ (spaced (decimal_text (suc n)) ++ codes "\n")

-- the lines of how often an object started and ended
abbrev pub carried_counts_lines : Domain → ℕ → CarriedCounts → List ℕ
carried_counts_lines d o c =
    carried_count_line (codes "! started") d o c.started ++ carried_count_line (codes "! ended") d o c.ended

-- those of an object, if there are any
abbrev pub carried_counts_of : Domain → ℕ → Option CarriedCounts → List ℕ
carried_counts_of d o None = []
carried_counts_of d o (Some c) = carried_counts_lines d o c

-- those of the object of a number
abbrev pub carried_counts_at : Domain → List CarriedCounts → ℕ → List ℕ
carried_counts_at d counts o = carried_counts_of d o (slice_get counts o)

-- those of all objects
abbrev pub carried_counts_text : Domain → List CarriedCounts → List ℕ
carried_counts_text d counts = flat_map (carried_counts_at d counts) (range_with_len 0 (length counts))

-- an object, its state and its version
abbrev pub carried_place_text : Domain → Option CarriedPlace → List ℕ
carried_place_text d None = codes " - - 0"
carried_place_text d (Some p) =
    spaced (object_name_text d p.object) ++ (spaced (state_name_text d p.state) ++ spaced (decimal_text p.version))

-- the line of the last request of a name
abbrev pub carried_once_line : Domain → OnceView → List ℕ
carried_once_line d x =
    codes "! once" ++ (spaced x.name ++ (spaced (decimal_text x.number)
    ++ (carried_place_text d x.place ++ (spaced x.what ++ codes "\n"))))

-- those of all names
abbrev pub carried_names_text : Domain → List OnceView → List ℕ
carried_names_text d names = flat_map (carried_once_line d) names

-- the lines of what goes along
abbrev pub carried_text : Domain → CarriedView → List ℕ
carried_text d c = carried_counts_text d c.counts ++ carried_names_text d c.names
