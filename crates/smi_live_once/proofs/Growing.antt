-- The numbers of a name grow.
use Rattle.std.proofs.Common.{◌≡◌, ◌∙◌, sym, ap, refl, subst, ◌<◌, ◌⊎◌, inl, inr, ℕ, Bool, true, false, cond, List, [], ◌∷◌, ◌++◌, length, arith, Option, Some, None}
use Rattle.std.specs.Prelude.{nat_eq, nat_le}
use Rattle.std.proofs.lemmas.Bool.Decides.{nat_tests}
use Rattle.std.specs.Cmp.Lexicographic.{same_text}
use Rattle.sml_text.specs.Lines.{Outputs}
use Rattle.smi_live_once.specs.declared.table.Verdict.{Verdict}
use Rattle.smi_live_once.specs.declared.table.Verdict.TheVariants.{New, Again, Old, TooMany}
use Rattle.smi_live_once.specs.Forms.{IsMarked}
use Rattle.smi_live_once.specs.Laws.{LogsGrow, OneTable}
use Rattle.smi_live_once.specs.Tables.{NotesTold, OnceTold, same_bytes, told_to, verdict_in, verdict_on, with_last_told}
use Rattle.smi_live_once.proofs.Reading.{one_mark}

-- ---- whether two texts are one

pub same_is : (x y : List ℕ) → same_bytes x y ≡ true → x ≡ y
same_is x y h = same_text x y (sym h)

pub is_same : (x y : List ℕ) → x ≡ y → same_bytes x y ≡ true
is_same x y e = subst (λ z. same_bytes x z ≡ true) e (itself x)
  where
    itself : (x : List ℕ) → same_bytes x x ≡ true
    itself [] = refl
    itself (x ∷ xs) = let h = itself xs in grind (arith, nat_tests)

-- ---- what is told to a name afterwards

cond_yes : {A : Type 0} (b : Bool) (x y : A) → b ≡ true → cond b x y ≡ x
cond_yes true x y h = refl
cond_yes false x y h = absurd (cc h)

cond_not : {A : Type 0} (b : Bool) (x y : A) → b ≡ false → cond b x y ≡ y
cond_not true x y h = absurd (cc h)
cond_not false x y h = refl

-- to the name of what was put, that
put_told : (t x : OnceTold) (ts : List OnceTold) (name : List ℕ) → x.name ≡ name → told_to (with_last_told ts x) name ≡ Some x → (b : Bool) → same_bytes t.name x.name ≡ b → told_to (cond b (x ∷ ts) (t ∷ with_last_told ts x)) name ≡ Some x
put_told t x ts name e ih true p = cond_yes (same_bytes x.name name) (Some x) (told_to ts name) (is_same x.name name e)
put_told t x ts name e ih false p =
    cond_not (same_bytes t.name name) (Some t) (told_to (with_last_told ts x) name) (subst (λ n. same_bytes t.name n ≡ false) e p) ∙ ih

pub told_put : (ts : List OnceTold) (x : OnceTold) (name : List ℕ) → x.name ≡ name → told_to (with_last_told ts x) name ≡ Some x
told_put [] x name e = cond_yes (same_bytes x.name name) (Some x) None (is_same x.name name e)
told_put (t ∷ ts) x name e = put_told t x ts name e (told_put ts x name e) (same_bytes t.name x.name) refl

-- to any other name, what was told before
put_other : (t x : OnceTold) (ts : List OnceTold) (name : List ℕ) → same_bytes x.name name ≡ false → told_to (with_last_told ts x) name ≡ told_to ts name → (b : Bool) → same_bytes t.name x.name ≡ b → told_to (cond b (x ∷ ts) (t ∷ with_last_told ts x)) name ≡ told_to (t ∷ ts) name
put_other t x ts name e ih true p =
    cond_not (same_bytes x.name name) (Some x) (told_to ts name) e ∙ sym (cond_not (same_bytes t.name name) (Some t) (told_to ts name) (subst (λ n. same_bytes n name ≡ false) (sym (same_is t.name x.name p)) e))
put_other t x ts name e ih false p = ap (λ r. cond (same_bytes t.name name) (Some t) r) ih

pub told_other : (ts : List OnceTold) (x : OnceTold) (name : List ℕ) → same_bytes x.name name ≡ false → told_to (with_last_told ts x) name ≡ told_to ts name
told_other [] x name e = cond_not (same_bytes x.name name) (Some x) None e
told_other (t ∷ ts) x name e = put_other t x ts name e (told_other ts x name e) (same_bytes t.name x.name) refl

-- ---- a new number is greater

new_greater : (t : OnceTold) (count number : ℕ) → verdict_on (Some t) count number ≡ New → t.number < number
new_greater t count number h = by (nat_eq number t.number) (nat_le number t.number) refl refl h
  where
    by : (a b : Bool) → nat_eq number t.number ≡ a → nat_le number t.number ≡ b → cond a Again (cond b Old New) ≡ New → t.number < number
    by true b p q h = absurd (cc h)
    by false true p q h = absurd (cc h)
    by false false p q h = grind (arith, nat_tests)

-- the line of a mark with its name has a number that is greater than what was told
marked_greater : (ts ts2 : List OnceTold) (l out two : List ℕ) (name : List ℕ) (t : OnceTold) (number : ℕ) → told_to ts name ≡ Some t → l ≡ two → IsMarked two name number → NotesTold ts l out ts2 → t.number < number
marked_greater ts ts2 l out two name t number e line m (inl n) =
    let same = one_mark two n.0 name n.1 number (subst (λ x. IsMarked x n.0 n.1) line n.2) m in
    new_greater t (length ts) number (subst (λ r. verdict_on r (length ts) number ≡ New) e (subst (λ k. verdict_in ts name k ≡ New) same.1 (subst (λ x. verdict_in ts x n.1 ≡ New) same.0 n.3)))
marked_greater ts ts2 l out two name t number e line m (inr n) = absurd (n.0 name number (subst (λ x. IsMarked x name number) (sym line) m))

-- what is told to a name behind a line has no lesser number than before
put_greater : (ts ts2 : List OnceTold) (x : OnceTold) (name : List ℕ) (t : OnceTold) (number : ℕ) → told_to ts name ≡ Some t → ((u : OnceTold) → told_to ts2 name ≡ Some u → u.number < number) → (b : Bool) → same_bytes x.name name ≡ b → verdict_in ts x.name x.number ≡ New → ts2 ≡ with_last_told ts x → t.number < number
put_greater ts ts2 x name t number e ih true p v s =
    let is = same_is x.name name p in
    let greater = new_greater t (length ts) x.number (subst (λ r. verdict_on r (length ts) x.number ≡ New) e (subst (λ y. verdict_in ts y x.number ≡ New) is v)) in
    let more = ih x (subst (λ y. told_to y name ≡ Some x) (sym s) (told_put ts x name is)) in
    omega (arith, greater, more)
put_greater ts ts2 x name t number e ih false p v s = ih t (subst (λ y. told_to y name ≡ Some t) (sym s) (told_other ts x name p ∙ e))

noted_greater : (ts ts2 : List OnceTold) (l out : List ℕ) (name : List ℕ) (t : OnceTold) (number : ℕ) → told_to ts name ≡ Some t → ((u : OnceTold) → told_to ts2 name ≡ Some u → u.number < number) → NotesTold ts l out ts2 → t.number < number
noted_greater ts ts2 l out name t number e ih (inl n) = put_greater ts ts2 (record { name = n.0; number = n.1; answer = out }) name t number e ih (same_bytes n.0 name) refl n.3 n.4
noted_greater ts ts2 l out name t number e ih (inr n) = ih t (subst (λ y. told_to y name ≡ Some t) (sym n.1) e)

-- behind what was told to a name, all its numbers are greater
later_greater : (ts : List OnceTold) (lines : List (List ℕ)) (out : List ℕ) (ts2 : List OnceTold) → Outputs NotesTold ts lines out ts2 → (name : List ℕ) (t : OnceTold) → told_to ts name ≡ Some t
    → (between behind : List (List ℕ)) (two : List ℕ) (number : ℕ) → lines ≡ between ++ two ∷ behind → IsMarked two name number → t.number < number
later_greater ts [] out ts2 h name t e [] behind two number split m = absurd (cc split)
later_greater ts [] out ts2 h name t e (b ∷ between) behind two number split m = absurd (cc split)
later_greater ts (l ∷ ls) out ts2 h name t e [] behind two number split m =
    let line : l ≡ two = cc split in
    marked_greater ts h.0 l h.1 two name t number e line m h.3
later_greater ts (l ∷ ls) out ts2 h name t e (b ∷ between) behind two number split m =
    let rest : ls ≡ between ++ two ∷ behind = cc split in
    noted_greater ts h.0 l h.1 name t number e (λ u f. later_greater h.0 ls h.2 ts2 h.4 name u f between behind two number rest m) h.3

pub logs_grow : LogsGrow
logs_grow ts [] out ts2 h [] between behind one two name number number2 split m m2 = absurd (cc split)
logs_grow ts [] out ts2 h (b ∷ before) between behind one two name number number2 split m m2 = absurd (cc split)
logs_grow ts (l ∷ ls) out ts2 h (b ∷ before) between behind one two name number number2 split m m2 =
    let rest : ls ≡ before ++ one ∷ (between ++ two ∷ behind) = cc split in
    logs_grow h.0 ls h.2 ts2 h.4 before between behind one two name number number2 rest m m2
logs_grow ts (l ∷ ls) out ts2 h [] between behind one two name number number2 split m m2 = here h.3
  where
    line : l ≡ one
    line = cc split

    rest : ls ≡ between ++ two ∷ behind
    rest = cc split

    here : NotesTold ts l h.1 h.0 → number < number2
    here (inl n) =
        let same = one_mark one n.0 name n.1 number (subst (λ x. IsMarked x n.0 n.1) line n.2) m in
        let x : OnceTold = record { name = n.0; number = n.1; answer = h.1 } in
        let told : told_to h.0 name ≡ Some x = subst (λ y. told_to y name ≡ Some x) (sym n.4) (told_put ts x name same.0) in
        subst (λ k. k < number2) same.1 (later_greater h.0 ls h.2 ts2 h.4 name x told between behind two number2 rest m2)
    here (inr n) = absurd (n.0 name number (subst (λ x. IsMarked x name number) (sym line) m))

-- ---- one table

pub one_table : OneTable
one_table ts line out ts2 ts3 (inl p) (inl q) =
    let same = one_mark line p.0 q.0 p.1 q.1 p.2 q.2 in
    p.4 ∙ ap (λ n. with_last_told ts (record { name = n; number = p.1; answer = out })) same.0 ∙ ap (λ k. with_last_told ts (record { name = q.0; number = k; answer = out })) same.1 ∙ sym q.4
one_table ts line out ts2 ts3 (inl p) (inr q) = absurd (q.0 p.0 p.1 p.2)
one_table ts line out ts2 ts3 (inr p) (inl q) = absurd (p.0 q.0 q.1 q.2)
one_table ts line out ts2 ts3 (inr p) (inr q) = p.1 ∙ sym q.1
