-- Several writes as one.
use Rattle.std.proofs.Common.{◌≡◌, ◌∙◌, sym, ap, refl, ℕ, zero, suc, ◌<◌, ◌≤◌, ◌+◌, List, [], ◌∷◌, ◌++◌, Option, Bool, true, false, ◌==◌, subst, length, get_or, take, flat_map, map, codes, arith, append_assoc, append-nil}
use Rattle.std.proofs.lemmas.Bool.Decides.{nat_tests}
use Rattle.std.proofs.lemmas.List.{take_more, take_all}
use Rattle.std.proofs.lemmas.List.Concat.{flat_map-append}
use Rattle.std.proofs.KnownBytes.{Appends-nil}
use Rattle.sml_text.specs.Written.{Told}
use Rattle.sml_text.proofs.Writes.{told_both}
use Rattle.sml_tree.specs.Syntax.{InstrData, ClassParamData}
use Rattle.sml_tree.specs.Content.{block_of}
use Rattle.sml_print.specs.Blocks.{instr_text, block_text, else_text}
use Rattle.sml_print.specs.Items.{params_text}
use Rattle.sml_print.specs.Words.{indent, comma_behind, comma_text, comma_list, name_text, bracket_list, members_text, class_param_text}

module _ {old new mid : Option (List ℕ)} {f g h : Bool} {bs cs : List ℕ} where
  -- one after another
  pub then_told : Told old f mid g bs → Told mid g new h cs → Told old f new h (bs ++ cs)
  then_told x y = told_both old f mid g new h bs cs x y

-- one level more
pub indent_more : (n : ℕ) → indent n ++ codes "  " ≡ indent (n + 1)
indent_more zero = refl
indent_more (suc n) = let e : suc (n + 1) ≡ suc n + 1 = omega arith in ap (λ l. codes "  " ++ l) (indent_more n) ∙ ap indent e

-- the texts of one element more
pub flat_more : {X : Type 0} (f : X → List ℕ) (xs : List X) (k : ℕ) (x : X) → k < length xs → x ≡ get_or xs k x → flat_map f (take k xs) ++ f x ≡ flat_map f (take (k + 1) xs)
flat_more f xs k x within is =
    ap (λ l. flat_map f (take k xs) ++ l) (sym (append-nil (f x)))
    ∙ sym (flat_map-append f (take k xs) (x ∷ []))
    ∙ ap (flat_map f) (ap (λ y. take k xs ++ y ∷ []) is ∙ sym (take_more xs k x within))

-- the text of one element more, with its comma
pub listed_more : {X : Type 0} (f : X → List ℕ) (xs : List X) (k : ℕ) (x : X) → k < length xs → x ≡ get_or xs k x → comma_list f (take k xs) ++ (comma_behind k ++ f x) ≡ comma_list f (take (k + 1) xs)
listed_more f [] k x within is = absurd (omega arith)
listed_more f (y ∷ ys) zero x within is = ap f is ∙ sym (append-nil (f y))
listed_more f (y ∷ ys) (suc k) x within is =
    let e : suc (k + 1) ≡ suc k + 1 = omega arith in
    append_assoc (f y) (flat_map (comma_text f) (take k ys)) (comma_text f x) ∙ ap (λ l. f y ++ l) (flat_more (comma_text f) ys k x (omega arith) is)
    ∙ ap (λ n. comma_list f (take n (y ∷ ys))) e

-- texts of what things say
flat_said : {X : Type 0} {Y : Type 0} (f : Y → List ℕ) (say : X → Y) (xs : List X) → flat_map (λ x. f (say x)) xs ≡ flat_map f (map say xs)
flat_said f say [] = refl
flat_said f say (x ∷ xs) = ap (λ l. f (say x) ++ l) (flat_said f say xs)

listed_said : {X : Type 0} {Y : Type 0} (f : Y → List ℕ) (say : X → Y) (xs : List X) → comma_list (λ x. f (say x)) xs ≡ comma_list f (map say xs)
listed_said f say [] = refl
listed_said f say (x ∷ xs) = ap (λ l. f (say x) ++ l) (flat_said (comma_text f) say xs)

-- the texts of all
pub flat_all : {X : Type 0} {Y : Type 0} (f : Y → List ℕ) (say : X → Y) (xs : List X) (k : ℕ) → length xs ≤ k → flat_map (λ x. f (say x)) (take k xs) ≡ flat_map f (map say xs)
flat_all f say xs k end = ap (flat_map (λ x. f (say x))) (take_all k xs end) ∙ flat_said f say xs

pub listed_all : {X : Type 0} {Y : Type 0} (f : Y → List ℕ) (say : X → Y) (xs : List X) (k : ℕ) → length xs ≤ k → comma_list (λ x. f (say x)) (take k xs) ≡ comma_list f (map say xs)
listed_all f say xs k end = ap (comma_list (λ x. f (say x))) (take_all k xs end) ∙ listed_said f say xs

-- the text of a block is that of its instructions
pub block_flat : (level : ℕ) (is : List InstrData) → flat_map (instr_text level) is ≡ block_text level (block_of is)
block_flat level [] = refl
block_flat level (i ∷ is) = ap (λ l. instr_text level i ++ l) (block_flat level is)

-- nothing was written
pub told_nothing : (old : Option (List ℕ)) (f : Bool) → Told old f old f []
told_nothing old f = record { front = []; rest = []; split = refl; appends = Appends-nil old; whole = λ _. refl; stays = λ e. (e, refl) }

-- texts of lists that are not empty
pub members_some : (names : List (List ℕ)) → false ≡ (length names == 0) → codes "{ " ++ (comma_list name_text names ++ codes " }") ≡ members_text names
members_some [] h = absurd (cc h)
members_some (name ∷ names) h = refl

pub bracket_some : {X : Type 0} {Y : Type 0} (f : Y → List ℕ) (say : X → Y) (xs : List X) (n : ℕ) → n ≡ length xs → false ≡ (n == 0)
    → codes " (" ++ (comma_list f (map say xs) ++ codes ")") ≡ bracket_list f (map say xs)
bracket_some f say [] n e h = let none : false ≡ (0 == 0) = subst (λ k. false ≡ (k == 0)) e h in absurd (cc none)
bracket_some f say (x ∷ xs) n e h = refl

pub params_some : {X : Type 0} (say : X → ClassParamData) (xs : List X) (n : ℕ) → n ≡ length xs → false ≡ (n == 0)
    → codes "  parameters: " ++ (comma_list class_param_text (map say xs) ++ codes "\n") ≡ params_text (map say xs)
params_some say [] n e h = let none : false ≡ (0 == 0) = subst (λ k. false ≡ (k == 0)) e h in absurd (cc none)
params_some say (x ∷ xs) n e h = refl

pub else_some : {X : Type 0} (level : ℕ) (say : X → InstrData) (xs : List X) (text : List ℕ) (n : ℕ) → n ≡ length xs → false ≡ (n == 0)
    → indent level ++ (codes "else\n" ++ text) ≡ else_text level (block_of (map say xs)) text
else_some level say [] text n e h = let none : false ≡ (0 == 0) = subst (λ k. false ≡ (k == 0)) e h in absurd (cc none)
else_some level say (x ∷ xs) text n e h = refl

pub else_none : {X : Type 0} (level : ℕ) (say : X → InstrData) (xs : List X) (text : List ℕ) (n : ℕ) → n ≡ length xs → true ≡ (n == 0) → [] ≡ else_text level (block_of (map say xs)) text
else_none level say [] text n e h = refl
else_none level say (x ∷ xs) text n e h = let none : n ≡ 0 = grind (arith, nat_tests) in absurd (omega (arith, e, none))
