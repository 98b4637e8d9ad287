-- Lines that end with no mark.
use Rattle.std.proofs.Common.{◌≡◌, ◌++◌, ℕ, IsTrue, List, [], ◌∷◌, length, arith, refl, codes, nat_le}
use Rattle.std.proofs.lemmas.Bool.{and_parts}
use Rattle.std.proofs.lemmas.Bool.Decides.{nat_tests}
use Rattle.std.specs.Char.{is_ascii_alphabetic}
use Rattle.std.specs.List.{list_all}
use Rattle.sml_text.specs.declared.limits.TheConstants.{LONGEST_NAME}
use Rattle.sml_tree.specs.Word.{is_name_byte, is_name_text, is_name_word}
use Rattle.smi_live_once.specs.Forms.{HasNoBlank, IsUnmarked}
use Rattle.smi_live_once.proofs.Reading.{no_mark_front}
use Rattle.smi_live.specs.Limiting.{line_for_bad}

no_blank_letter : (c : ℕ) → IsTrue (is_ascii_alphabetic c) → c ≡ 32 → ⊥
no_blank_letter c h e = grind (arith, nat_tests)

no_blank_byte : (c : ℕ) → IsTrue (is_name_byte c) → c ≡ 32 → ⊥
no_blank_byte c h e = grind (arith, nat_tests)

no_blank_bytes : (name : List ℕ) → IsTrue (list_all is_name_byte name) → HasNoBlank name
no_blank_bytes [] h = tt
no_blank_bytes (c ∷ cs) h =
    let p = and_parts (is_name_byte c) (list_all is_name_byte cs) h in
    (no_blank_byte c p.0, no_blank_bytes cs p.1)

no_blank_text : (name : List ℕ) → IsTrue (is_name_text name) → HasNoBlank name
no_blank_text [] h = tt
no_blank_text (c ∷ cs) h =
    let p = and_parts (is_ascii_alphabetic c) (list_all is_name_byte cs) h in
    (no_blank_letter c p.0, no_blank_bytes cs p.1)

-- a name has no blank
pub no_blank_name : (name : List ℕ) → IsTrue (is_name_word name) → HasNoBlank name
no_blank_name name h = no_blank_text name (and_parts (is_name_text name) (nat_le (length name) LONGEST_NAME) h).0

free_start : HasNoBlank (codes "start")
free_start = (λ e. omega (arith, e), (λ e. omega (arith, e), (λ e. omega (arith, e), (λ e. omega (arith, e), (λ e. omega (arith, e), tt)))))

free_go : HasNoBlank (codes "go")
free_go = (λ e. omega (arith, e), (λ e. omega (arith, e), tt))

-- the line of a start
pub start_unmarked : (text name : List ℕ) → text ≡ codes "start " ++ name → HasNoBlank name → IsUnmarked text
start_unmarked text name e free = no_mark_front text (codes "start") name e free free_start

-- the line of a go
pub go_unmarked : (text name : List ℕ) → text ≡ codes "go " ++ name → HasNoBlank name → IsUnmarked text
go_unmarked text name e free = no_mark_front text (codes "go") name e free free_go

free_refused : HasNoBlank (codes "refused")
free_refused = (λ e. omega (arith, e), (λ e. omega (arith, e), (λ e. omega (arith, e), (λ e. omega (arith, e), (λ e. omega (arith, e), (λ e. omega (arith, e), (λ e. omega (arith, e), tt)))))))

free_bad : HasNoBlank (codes "BadLine")
free_bad = (λ e. omega (arith, e), (λ e. omega (arith, e), (λ e. omega (arith, e), (λ e. omega (arith, e), (λ e. omega (arith, e), (λ e. omega (arith, e), (λ e. omega (arith, e), tt)))))))

-- the line of a refused line
pub bad_unmarked : IsUnmarked line_for_bad
bad_unmarked = no_mark_front line_for_bad (codes "refused") (codes "BadLine") refl free_bad free_refused
