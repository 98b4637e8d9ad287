-- Names are recalled one after another.
use Rattle.std.proofs.Common.{◌≡◌, ◌∙◌, sym, ap, refl, ℕ, Bool, true, false, cond, List, [], ◌∷◌, ◌++◌, append_assoc, append-nil, Option, Some, None, map}
use Rattle.smi_carried.specs.Carried.{OnceView}
use Rattle.std.specs.Prelude.{◌&&◌, ◌||◌, not}
use Rattle.std.specs.List.{list_any}
use Rattle.smi_carried.specs.Suits.{are_named_once, has_none, is_once_of}
use Rattle.smi_live_once.specs.Carrying.{last_number}
use Rattle.smi_live_once.specs.Tables.{OnceTold, same_bytes, told_to, with_last_told}
use Rattle.smi_live_once.proofs.Growing.{is_same, same_is}
use Rattle.smi_live_once.proofs.Tables.{add_told}
use Rattle.smi_live_carried.specs.TakingAlong.{last_number_taken}
use Rattle.smi_live_carried.specs.Recalling.{BeginsWithNumbers, RecallsEach, RecallsOneMore, recalled_from, recalled_told}

-- nothing was told to any of these names
abbrev AreNew : List OnceTold → List OnceView → Type 0
AreNew ts [] = Unit {0}
AreNew ts (x ∷ xs) = (told_to ts x.name ≡ None) × AreNew ts xs

not_none : (b : Bool) (c : Bool) → not (b || c) ≡ true → (b ≡ false) × (not c ≡ true)
not_none true c h = absurd (cc h)
not_none false c h = (refl, h)

both : (b c : Bool) → (b && c) ≡ true → (b ≡ true) × (c ≡ true)
both true c h = (refl, h)
both false c h = absurd (cc h)

other_way : (b c : Bool) (x y : List ℕ) → same_bytes x y ≡ b → same_bytes y x ≡ c → b ≡ false → c ≡ false
other_way b true x y p q e = absurd (cc (sym (is_same x y (sym (same_is y x q))) ∙ p ∙ e))
other_way b false x y p q e = refl

if_not : (b : Bool) (t : OnceTold) (r : Option OnceTold) → b ≡ false → cond b (Some t) r ≡ r
if_not true t r h = absurd (cc h)
if_not false t r h = refl

none_of : (b : Bool) (t : OnceTold) (r : Option OnceTold) → cond b (Some t) r ≡ None → (b ≡ false) × (r ≡ None)
none_of true t r h = absurd (cc h)
none_of false t r h = (refl, h)

told_after : (ts : List OnceTold) (t : OnceTold) (name : List ℕ) → told_to ts name ≡ None → same_bytes t.name name ≡ false → told_to (ts ++ t ∷ []) name ≡ None
told_after [] t name h e = if_not (same_bytes t.name name) t None e
told_after (u ∷ ts) t name h e =
    let n = none_of (same_bytes u.name name) u (told_to ts name) h in
    if_not (same_bytes u.name name) u (told_to (ts ++ t ∷ []) name) n.0 ∙ told_after ts t name n.1 e

new_after : (ts : List OnceTold) (x : OnceView) (xs : List OnceView) → AreNew ts xs → has_none x.name xs ≡ true → AreNew (ts ++ recalled_told x ∷ []) xs
new_after ts x [] h e = tt
new_after ts x (y ∷ ys) h e =
    let n = not_none (same_bytes y.name x.name) (list_any (is_once_of x.name) ys) e in (
      told_after ts (recalled_told x) y.name h.0 (other_way (same_bytes y.name x.name) (same_bytes x.name y.name) y.name x.name refl refl n.0),
      new_after ts x ys h.1 n.1,
    )

recalled_all : (ts : List OnceTold) (xs : List OnceView) → AreNew ts xs → are_named_once xs ≡ true → recalled_from ts xs ≡ ts ++ map recalled_told xs
recalled_all ts [] h e = sym (append-nil ts)
recalled_all ts (x ∷ xs) h e =
    let n = both (has_none x.name xs) (are_named_once xs) e in
    ap (λ us. recalled_from us xs) (add_told ts (recalled_told x) h.0)
    ∙ recalled_all (ts ++ recalled_told x ∷ []) xs (new_after ts x xs h.1 n.0) n.1
    ∙ append_assoc ts (recalled_told x ∷ []) (map recalled_told xs)

all_new : (xs : List OnceView) → AreNew [] xs
all_new [] = tt
all_new (x ∷ xs) = (refl, all_new xs)

pub recalls_each : RecallsEach
recalls_each names e = recalled_all [] names (all_new names) e

same_map : (xs : List OnceView) → map last_number_taken xs ≡ map last_number (map recalled_told xs)
same_map [] = refl
same_map (x ∷ xs) = ap (λ l. last_number_taken x ∷ l) (same_map xs)

pub begins_with : BeginsWithNumbers
begins_with a c takes e = sym takes ∙ same_map c.names ∙ ap (map last_number) (sym (recalls_each c.names e))

pub one_more_recalled : RecallsOneMore
one_more_recalled ts [] x = refl
one_more_recalled ts (y ∷ xs) x = one_more_recalled (with_last_told ts (recalled_told y)) xs x
