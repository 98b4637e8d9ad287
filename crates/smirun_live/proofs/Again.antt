-- The lines of a text, one after another.
use Rattle.std.proofs.Common.{◌≡◌, ◌≢◌, ◌≤◌, ◌∙◌, sym, ap, ℕ, zero, suc, ◌+◌, ◌<◌, ◌==◌, ◌&&◌, Bool, true, false, cond, List, [], ◌∷◌, ◌++◌, length, take, drop, get_or, append-nil, arith, refl, subst, take-append-drop, Result, Ok, Err, OnOk}
use Rattle.std.proofs.Math.Seq.{drop-cons}
use Rattle.std.proofs.lemmas.Bool.Decides.{nat_tests}
use Rattle.std.specs.List.{list_all}
use Rattle.sml_text.specs.Bytes.{no_line_feed}
use Rattle.sml_text.specs.Lines.{Outputs, lines_of, onto}
use Rattle.smi_core.specs.Machines.{CoreView}
use Rattle.smi_core.specs.Output.{LineWrites}
use Rattle.smi_live_once.specs.Making.{Keeper, KeeperWrites}
use Rattle.smi_live_once.proofs.Writing.{line_first}
use Rattle.smi_live.specs.Logs.{LogOutputs}
use Rattle.smirun_live.specs.Reading.{HasNoFeed}

cut_at : (bytes : List ℕ) (n : ℕ) → n < length bytes → bytes ≡ take n bytes ++ get_or bytes n 0 ∷ drop (n + 1) bytes
cut_at bytes n h =
    let one : suc n ≡ n + 1 = omega arith in
    sym (take-append-drop n bytes) ∙ ap (λ l. take n bytes ++ l) (drop-cons bytes n 0 h ∙ ap (λ k. get_or bytes n 0 ∷ drop k bytes) one)

-- a text in parts at its first line feed
pub parts_at : (bytes : List ℕ) (n : ℕ) → n < length bytes → get_or bytes n 0 ≡ 10 → bytes ≡ take n bytes ++ 10 ∷ drop (n + 1) bytes
parts_at bytes n h e = cut_at bytes n h ∙ ap (λ b. take n bytes ++ b ∷ drop (n + 1) bytes) e

take_whole : (bytes : List ℕ) (n : ℕ) → length bytes ≤ n → take n bytes ≡ bytes
take_whole [] zero h = refl
take_whole [] (suc n) h = refl
take_whole (b ∷ bs) zero h = absurd (omega (arith, h))
take_whole (b ∷ bs) (suc n) h = ap (λ l. b ∷ l) (take_whole bs n (omega (arith, h)))

pub whole_part : (bytes : List ℕ) (n : ℕ) → length bytes ≤ n → HasNoFeed (take n bytes) → HasNoFeed bytes
whole_part bytes n h k = subst HasNoFeed (take_whole bytes n h) k

one_byte : (b : ℕ) → b ≢ 10 → no_line_feed b ≡ true
one_byte b h = grind (arith, nat_tests)

both : (a b : Bool) → a ≡ true → b ≡ true → a && b ≡ true
both a b e f = ap (λ x. x && b) e ∙ f

one_line : (line : List ℕ) → HasNoFeed line → list_all no_line_feed line ≡ true
one_line [] h = refl
one_line (b ∷ bs) h = both (no_line_feed b) (list_all no_line_feed bs) (one_byte b h.0) (one_line bs h.1)

not_feed : (b : ℕ) → b ≢ 10 → (b == 10) ≡ false
not_feed b h = grind (arith, nat_tests)

last_at : (e : Bool) (b : ℕ) (bs : List ℕ) (all : List (List ℕ)) → e ≡ false → all ≡ bs ∷ [] → cond e ([] ∷ all) (onto (b ∷ []) all) ≡ (b ∷ bs) ∷ []
last_at true b bs all h e = absurd (cc h)
last_at false b bs all h e = ap (onto (b ∷ [])) e

-- a text without a line feed is one line
last_lines : (line : List ℕ) → HasNoFeed line → lines_of line ≡ line ∷ []
last_lines [] h = refl
last_lines (b ∷ bs) h = last_at (b == 10) b bs (lines_of bs) (not_feed b h.0) (last_lines bs h.1)

-- what is still to be made of a text leads on from all that was made of it
abbrev pub GoesOn : Keeper CoreView → List ℕ → Keeper CoreView → List ℕ → Type 0
GoesOn k text mid rest = (out : List ℕ) (k2 : Keeper CoreView) → LogOutputs mid rest out k2 → (all : List ℕ) × LogOutputs k text all k2

pub nothing_made : (k : Keeper CoreView) (text : List ℕ) → GoesOn k text k text
nothing_made k text out k2 h = (out, h)

-- one line more was made
pub line_made : (k : Keeper CoreView) (text : List ℕ) (mid : Keeper CoreView) (rest line more one : List ℕ) (next : Keeper CoreView) → GoesOn k text mid rest → rest ≡ line ++ 10 ∷ more → HasNoFeed line → KeeperWrites LineWrites mid line one next → GoesOn k text next more
line_made k text mid rest line more one next goes e free made out k2 h =
    let lines : lines_of rest ≡ line ∷ lines_of more = ap lines_of e ∙ line_first line more (one_line line free) in
    goes (one ++ out) k2 (subst (λ ls. Outputs (KeeperWrites LineWrites) mid ls (one ++ out) k2) (sym lines) (next, one, out, made, h, refl))

-- the last line was made
pub all_made : (k : Keeper CoreView) (text : List ℕ) (mid : Keeper CoreView) (rest one : List ℕ) (next : Keeper CoreView) → GoesOn k text mid rest → HasNoFeed rest → KeeperWrites LineWrites mid rest one next → (out : List ℕ) × LogOutputs k text out next
all_made k text mid rest one next goes free made =
    goes one next (subst (λ ls. Outputs (KeeperWrites LineWrites) mid ls one next) (sym (last_lines rest free)) (next, one, [], made, (refl, refl), sym (append-nil one)))

-- what stands after a line is shorter
pub shorter : (rest line more : List ℕ) → rest ≡ line ++ 10 ∷ more → length more < length rest
shorter rest line more e = subst (λ t. length more < length t) (sym e) (after_line line more)
  where
    after_line : (line more : List ℕ) → length more < length (line ++ 10 ∷ more)
    after_line [] more = omega arith
    after_line (b ∷ bs) more = let h = after_line bs more in omega (arith, h)

-- what holds where a call returned, from what it says of that
pub on_ok : {A E P R : Type 0} (r : Result A E) → OnOk r P → (P → R) → OnOk r R
on_ok (Ok x) p f = f p
on_ok (Err x) p f = p
