-- What is told, part by part.
use Rattle.std.proofs.Common.{◌≡◌, ◌∙◌, ap, refl, ℕ, Bool, true, false, ◌||◌, Some, List, [], ◌∷◌, ◌++◌, append_assoc, cond}
use Rattle.std.specs.Prelude.{find, is_some, option_map}
use Rattle.std.specs.List.{list_any}
use Rattle.smi_log_front.specs.declared.front.FrontKill.{FrontKill}
use Rattle.smi_front_moved.specs.declared.lines.MovedLine.{MovedLine}
use Rattle.smi_front_moved.specs.Moving.{MovingView, is_kill_at, front_killer, session_of_kill}
use Rattle.smi_front_moved.specs.MovedLines.{forgot_names, gone_kills, gone_lines, gone_members, gone_params, gone_states, new_objects, new_sets, not_members, other_lines}

four_added : {X : Type 0} (l a b c d s p q r : List X) → a ≡ l ++ s → b ≡ a ++ p → c ≡ b ++ q → d ≡ c ++ r → d ≡ l ++ (s ++ (p ++ (q ++ r)))
four_added l a b c d s p q r e f g h =
    h ∙ ap (λ t. t ++ r) (g ∙ ap (λ t. t ++ q) (f ∙ ap (λ t. t ++ p) e ∙ append_assoc l s p) ∙ append_assoc l (s ++ p) q)
    ∙ append_assoc l ((s ++ p) ++ q) r ∙ ap (λ t. l ++ t) (append_assoc (s ++ p) q r ∙ append_assoc s p (q ++ r))

-- what is gone was added
pub gone_added : (m : MovingView) (l a b c d : List MovedLine) → a ≡ l ++ gone_states m → b ≡ a ++ gone_params m → c ≡ b ++ gone_members m
    → d ≡ c ++ gone_kills m → d ≡ l ++ gone_lines m
gone_added m l a b c d e f g h = four_added l a b c d (gone_states m) (gone_params m) (gone_members m) (gone_kills m) e f g h

-- what else is otherwise was added
pub other_added : (m : MovingView) (l a b c d : List MovedLine) → a ≡ l ++ new_objects m → b ≡ a ++ new_sets m → c ≡ b ++ not_members m
    → d ≡ c ++ forgot_names m → d ≡ l ++ other_lines m
other_added m l a b c d e f g h = four_added l a b c d (new_objects m) (new_sets m) (not_members m) (forgot_names m) e f g h

-- an object is killed exactly if one of the kills is that of it
pub any_is_found : (kills : List FrontKill) (o : ℕ) → list_any (is_kill_at o) kills ≡ is_some (front_killer kills o)
any_is_found [] o = refl
any_is_found (x ∷ xs) o = by (is_kill_at o x) (any_is_found xs o)
  where
    by : (b : Bool) → list_any (is_kill_at o) xs ≡ is_some (front_killer xs o)
        → (b || list_any (is_kill_at o) xs) ≡ is_some (option_map session_of_kill (cond b (Some x) (find (is_kill_at o) xs)))
    by true h = refl
    by false h = h
