-- Tables that are made of one object after another.
use Rattle.std.proofs.Common.{◌≡◌, ◌∙◌, sym, ap, refl, subst, ℕ, ◌+◌, ◌<◌, Bool, true, false, ◌||◌, cond, List, [], ◌∷◌, ◌++◌, Option, None, Some, length, get_or, nat_eq, take, find, option_map}
use Rattle.std.specs.List.{list_any}
use Rattle.std.specs.Option.{option_or}
use Rattle.std.proofs.lemmas.List.{take_more}
use Rattle.std.proofs.lemmas.List.Folds.{find-append, list_any_more}
use Rattle.smi_log_front.specs.declared.front.FrontKill.{FrontKill}
use Rattle.smi_front_moved.specs.Moving.{is_kill_at, killer_by, front_killer, session_of_kill}
use Rattle.smi_front_moved.specs.Tables.{AreKillers, AreMarkedOf}

-- ---- marks

pub one_mark_more : (n : ℕ) (objects : List ℕ) (i x : ℕ) (old new : List Bool) → AreMarkedOf n (take i objects) old → length new ≡ length old
    → ((k : ℕ) → k < length old → get_or new k false ≡ (get_or old k false || nat_eq k x)) → i < length objects → x ≡ get_or objects i x
    → AreMarkedOf n (take (i + 1) objects) new
one_mark_more n objects i x old new are long put lt at = record {
  count = long ∙ are.count;
  each = λ o less.
      put o (subst (λ m. o < m) (sym are.count) less)
      ∙ ap (λ b. b || nat_eq o x) (are.each o less)
      ∙ ap (λ y. list_any (nat_eq o) (take i objects) || nat_eq o y) at
      ∙ sym (list_any_more (nat_eq o) objects i x lt);
}

-- ---- who kills

mapped_or : (a b : Option FrontKill) → option_map session_of_kill (option_or a b) ≡ option_or (option_map session_of_kill a) (option_map session_of_kill b)
mapped_or None b = refl
mapped_or (Some x) b = refl

of_one : (x : FrontKill) (p : ℕ) → front_killer (x ∷ []) p ≡ killer_by x p
of_one x p = by (is_kill_at p x)
  where
    by : (b : Bool) → option_map session_of_kill (cond b (Some x) None) ≡ cond b (Some x.session) None
    by true = refl
    by false = refl

killer_push : (xs : List FrontKill) (x : FrontKill) (p : ℕ) → front_killer (xs ++ x ∷ []) p ≡ option_or (front_killer xs p) (killer_by x p)
killer_push xs x p =
    ap (option_map session_of_kill) (find-append (is_kill_at p) xs (x ∷ []))
    ∙ mapped_or (find (is_kill_at p) xs) (find (is_kill_at p) (x ∷ []))
    ∙ ap (λ m. option_or (front_killer xs p) m) (of_one x p)

pub one_killer_more : (n : ℕ) (kills : List FrontKill) (i : ℕ) (x : FrontKill) (old new : List (Option ℕ)) → AreKillers n (take i kills) old → length new ≡ length old
    → ((k : ℕ) → k < length old → get_or new k None ≡ option_or (get_or old k None) (killer_by x k)) → i < length kills → x ≡ get_or kills i x
    → AreKillers n (take (i + 1) kills) new
one_killer_more n kills i x old new are long put lt at = record {
  count = long ∙ are.count;
  each = λ p less.
      put p (subst (λ m. p < m) (sym are.count) less)
      ∙ ap (λ m. option_or m (killer_by x p)) (are.each p less)
      ∙ sym (killer_push (take i kills) x p)
      ∙ ap (λ l. front_killer l p) (ap (λ y. take i kills ++ y ∷ []) at ∙ sym (take_more kills i x lt));
}
