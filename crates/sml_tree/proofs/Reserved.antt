-- A word is not a name exactly if it is reserved.
use Rattle.std.proofs.Common.{◌≡◌, Bool, true, false, List, [], ◌∷◌, ℕ, refl}
use Rattle.std.specs.Prelude.{◌↔◌}
use Rattle.std.specs.List.{list_any, AllByRecursion}
use Rattle.sml_tree.specs.declared.token_kind.TokenKind.TheVariants.{Name}
use Rattle.sml_tree.specs.Piece.{Reserved, is_row, kind_in, reserved}
use Rattle.sml_tree.specs.Laws.{NamesAreNotReserved}
use Rattle.sml_tree.proofs.Marks.{◌⨾◌}

abbrev IsNoName : Reserved → Type 0
IsNoName row = row.kind ≡ Name → ⊥

-- by whether the first row is of the word
by_first : (b : Bool) (word : List ℕ) (row : Reserved) (rows : List Reserved) → is_row word row ≡ b → IsNoName row
    → ((kind_in rows word ≡ Name) ↔ (list_any (is_row word) rows ≡ false))
    → (kind_in (row ∷ rows) word ≡ Name) ↔ (list_any (is_row word) (row ∷ rows) ≡ false)
by_first true word row rows e none h = rw e (λ k. absurd (none k), λ k. absurd (cc k))
by_first false word row rows e none h = rw e h

by_rows : (word : List ℕ) (rows : List Reserved) → AllByRecursion IsNoName rows → (kind_in rows word ≡ Name) ↔ (list_any (is_row word) rows ≡ false)
by_rows word [] all = (λ _. refl, λ _. refl)
by_rows word (row ∷ rows) all = by_first (is_row word row) word row rows refl all.0 (by_rows word rows all.1)

no_names : AllByRecursion IsNoName reserved
no_names =
    (λ e. cc e) ⨾ (λ e. cc e) ⨾ (λ e. cc e) ⨾ (λ e. cc e) ⨾ (λ e. cc e) ⨾ (λ e. cc e) ⨾ (λ e. cc e) ⨾ (λ e. cc e)
    ⨾ (λ e. cc e) ⨾ (λ e. cc e) ⨾ (λ e. cc e) ⨾ (λ e. cc e) ⨾ (λ e. cc e) ⨾ (λ e. cc e) ⨾ (λ e. cc e) ⨾ (λ e. cc e)
    ⨾ (λ e. cc e) ⨾ (λ e. cc e) ⨾ (λ e. cc e) ⨾ (λ e. cc e) ⨾ (λ e. cc e) ⨾ (λ e. cc e) ⨾ (λ e. cc e) ⨾ (λ e. cc e)
    ⨾ (λ e. cc e) ⨾ (λ e. cc e) ⨾ (λ e. cc e) ⨾ (λ e. cc e) ⨾ (λ e. cc e) ⨾ tt

pub names_are_not_reserved : NamesAreNotReserved
names_are_not_reserved word = by_rows word reserved no_names
