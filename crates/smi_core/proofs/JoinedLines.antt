-- The lines of a text are the text.
use Rattle.std.proofs.Common.{◌≡◌, ◌∙◌, sym, ap, refl, ℕ, ◌==◌, Bool, true, false, cond, not, ◌&&◌, List, [], ◌∷◌}
use Rattle.std.proofs.lemmas.Bool.{eqb-true}
use Rattle.std.specs.List.{list_all}
use Rattle.sml_text.specs.Bytes.{no_line_feed}
use Rattle.sml_text.specs.Lines.{onto, lines_of}
use Rattle.smi_core.specs.ScheduleLaws.{joined, AreLines}

-- some lines: there is one
abbrev Some : List (List ℕ) → Type 0
Some [] = ⊥
Some (l ∷ ls) = Unit {0}

onto_some : (front : List ℕ) (ls : List (List ℕ)) → Some (onto front ls)
onto_some front [] = tt
onto_some front (l ∷ ls) = tt

some_at : (b : Bool) (x : ℕ) (ls : List (List ℕ)) → Some (cond b ([] ∷ ls) (onto (x ∷ []) ls))
some_at true x ls = tt
some_at false x ls = onto_some (x ∷ []) ls

some_lines : (text : List ℕ) → Some (lines_of text)
some_lines [] = tt
some_lines (b ∷ bs) = some_at (b == 10) b (lines_of bs)

joined_feed : (ls : List (List ℕ)) → Some ls → joined ([] ∷ ls) ≡ 10 ∷ joined ls
joined_feed [] s = absurd s
joined_feed (l ∷ ls) s = refl

joined_onto : (x : ℕ) (ls : List (List ℕ)) → Some ls → joined (onto (x ∷ []) ls) ≡ x ∷ joined ls
joined_onto x [] s = absurd s
joined_onto x (l ∷ []) s = refl
joined_onto x (l ∷ m ∷ ls) s = refl

joined_at : (b : Bool) (x : ℕ) → (x == 10) ≡ b → (ls : List (List ℕ)) → Some ls → joined (cond b ([] ∷ ls) (onto (x ∷ []) ls)) ≡ x ∷ joined ls
joined_at true x e ls s = joined_feed ls s ∙ ap (λ y. y ∷ joined ls) (sym (eqb-true x 10 e))
joined_at false x e ls s = joined_onto x ls s

pub join : (text : List ℕ) → joined (lines_of text) ≡ text
join [] = refl
join (b ∷ bs) = joined_at (b == 10) b refl (lines_of bs) (some_lines bs) ∙ ap (λ y. b ∷ y) (join bs)

lines_onto : (x : ℕ) (ls : List (List ℕ)) → (x == 10) ≡ false → AreLines ls → AreLines (onto (x ∷ []) ls)
lines_onto x [] e h = (ap (λ b. not b && true) e, tt)
lines_onto x (l ∷ ls) e h = (ap (λ b. not b && list_all no_line_feed l) e ∙ h.0, h.1)

lines_at : (b : Bool) (x : ℕ) → (x == 10) ≡ b → (ls : List (List ℕ)) → AreLines ls → AreLines (cond b ([] ∷ ls) (onto (x ∷ []) ls))
lines_at true x e ls h = (refl, h)
lines_at false x e ls h = lines_onto x ls e h

pub are_lines : (text : List ℕ) → AreLines (lines_of text)
are_lines [] = (refl, tt)
are_lines (b ∷ bs) = lines_at (b == 10) b refl (lines_of bs) (are_lines bs)
