-- Logs that follow one another: the numbers of a name grow over all of them.
use Rattle.std.proofs.Common.{◌≡◌, ◌∙◌, sym, ap, refl, subst, inl, inr, ℕ, Bool, true, false, cond, List, [], ◌∷◌, ◌++◌, append_assoc, append-nil, length, Option, Some, None, flat_map, map}
use Rattle.std.specs.Prelude.{nat_eq, nat_le}
use Rattle.std.proofs.lemmas.List.{length-map}
use Rattle.sml_text.specs.Lines.{Outputs}
use Rattle.smi_live_once.specs.declared.table.Verdict.TheVariants.{New, Again, Old}
use Rattle.smi_live_once.specs.Laws.{NumbersGrow}
use Rattle.smi_live_once.specs.Tables.{NotesTold, OnceTold, same_bytes, told_to, verdict_in, verdict_on, with_last_told}
use Rattle.smi_live_once.specs.Carrying.{Chain, ChainsGrow, LogLines, LastNumber, SameNumbers, lines_in, last_number}
use Rattle.smi_live_once.proofs.Growing.{logs_grow}

-- ---- the same names and numbers have the same verdicts

-- nothing was told to either name, or the same number was
abbrev Alike : Option OnceTold → Option OnceTold → Type 0
Alike None None = Unit {0}
Alike None (Some u) = ⊥
Alike (Some t) None = ⊥
Alike (Some t) (Some u) = t.number ≡ u.number

same_name : (t u : OnceTold) → last_number t ≡ last_number u → t.name ≡ u.name
same_name t u h = ap (λ (n : LastNumber). n.name) h

same_number : (t u : OnceTold) → last_number t ≡ last_number u → t.number ≡ u.number
same_number t u h = ap (λ (n : LastNumber). n.number) h

head_is : (t u : OnceTold) (ts us : List OnceTold) → SameNumbers (t ∷ ts) (u ∷ us) → last_number t ≡ last_number u
head_is t u ts us h = cc h

tail_is : (t u : OnceTold) (ts us : List OnceTold) → SameNumbers (t ∷ ts) (u ∷ us) → SameNumbers ts us
tail_is t u ts us h = cc h

alike_if : (b c : Bool) (t u : OnceTold) (r s : Option OnceTold) → b ≡ c → t.number ≡ u.number → Alike r s → Alike (cond b (Some t) r) (cond c (Some u) s)
alike_if true true t u r s e n h = n
alike_if true false t u r s e n h = absurd (cc e)
alike_if false true t u r s e n h = absurd (cc e)
alike_if false false t u r s e n h = h

told_alike : (ts us : List OnceTold) (name : List ℕ) → SameNumbers ts us → Alike (told_to ts name) (told_to us name)
told_alike [] [] name h = tt
told_alike [] (u ∷ us) name h = absurd (cc h)
told_alike (t ∷ ts) [] name h = absurd (cc h)
told_alike (t ∷ ts) (u ∷ us) name h =
    alike_if (same_bytes t.name name) (same_bytes u.name name) t u (told_to ts name) (told_to us name)
    (ap (λ n. same_bytes n name) (same_name t u (head_is t u ts us h))) (same_number t u (head_is t u ts us h))
    (told_alike ts us name (tail_is t u ts us h))

verdict_alike : (r s : Option OnceTold) (count number : ℕ) → Alike r s → verdict_on r count number ≡ verdict_on s count number
verdict_alike None None count number h = refl
verdict_alike None (Some u) count number h = absurd h
verdict_alike (Some t) None count number h = absurd h
verdict_alike (Some t) (Some u) count number h =
    ap (λ n. cond (nat_eq number n) Again (cond (nat_le number n) Old New)) h

same_length : (ts us : List OnceTold) → SameNumbers ts us → length ts ≡ length us
same_length ts us h = sym (length-map ts last_number) ∙ ap length h ∙ length-map us last_number

same_verdict : (ts us : List OnceTold) (name : List ℕ) (number : ℕ) → SameNumbers ts us → verdict_in ts name number ≡ verdict_in us name number
same_verdict ts us name number h =
    ap (λ n. verdict_on (told_to ts name) n number) (same_length ts us h)
    ∙ verdict_alike (told_to ts name) (told_to us name) (length us) number (told_alike ts us name h)

-- ---- and they stay the same

put_if : (b c : Bool) (t u x : OnceTold) (ts us vs ws : List OnceTold) → b ≡ c → last_number t ≡ last_number u → SameNumbers ts us → SameNumbers vs ws
    → SameNumbers (cond b (x ∷ ts) (t ∷ vs)) (cond c (x ∷ us) (u ∷ ws))
put_if true true t u x ts us vs ws e n h g = ap (λ l. last_number x ∷ l) h
put_if true false t u x ts us vs ws e n h g = absurd (cc e)
put_if false true t u x ts us vs ws e n h g = absurd (cc e)
put_if false false t u x ts us vs ws e n h g = ap (λ m. m ∷ map last_number vs) n ∙ ap (λ l. last_number u ∷ l) g

same_put : (ts us : List OnceTold) (x : OnceTold) → SameNumbers ts us → SameNumbers (with_last_told ts x) (with_last_told us x)
same_put [] [] x h = refl
same_put [] (u ∷ us) x h = absurd (cc h)
same_put (t ∷ ts) [] x h = absurd (cc h)
same_put (t ∷ ts) (u ∷ us) x h =
    put_if (same_bytes t.name x.name) (same_bytes u.name x.name) t u x ts us (with_last_told ts x) (with_last_told us x)
    (ap (λ n. same_bytes n x.name) (same_name t u (head_is t u ts us h))) (head_is t u ts us h) (tail_is t u ts us h)
    (same_put ts us x (tail_is t u ts us h))

-- what a line changes in one, it changes in the other
noted : (ts us us2 : List OnceTold) (line out : List ℕ) → SameNumbers ts us → NotesTold us line out us2
    → (ts2 : List OnceTold) × NotesTold ts line out ts2 × SameNumbers ts2 us2
noted ts us us2 line out h (inl n) =
    let x : OnceTold = record { name = n.0; number = n.1; answer = out } in (
      with_last_told ts x,
      inl (n.0, n.1, n.2, same_verdict ts us n.0 n.1 h ∙ n.3, refl),
      same_put ts us x h ∙ ap (map last_number) (sym n.4),
    )
noted ts us us2 line out h (inr n) = (ts, inr (n.0, refl), h ∙ ap (map last_number) (sym n.1))

-- and so do lines
all_noted : (ts us : List OnceTold) (lines : List (List ℕ)) (out : List ℕ) (us2 : List OnceTold) → SameNumbers ts us → Outputs NotesTold us lines out us2
    → (ts2 : List OnceTold) × Outputs NotesTold ts lines out ts2 × SameNumbers ts2 us2
all_noted ts us [] out us2 h g = (ts, (g.0, refl), h ∙ ap (map last_number) (sym g.1))
all_noted ts us (l ∷ ls) out us2 h g =
    let one = noted ts us g.0 l g.1 h g.3 in
    let rest = all_noted one.0 g.0 ls g.2 us2 one.2 g.4 in
    (rest.0, (one.0, g.1, g.2, one.1, rest.1, g.5), rest.2)

-- ---- the lines of a chain are those of one log

both : (ts : List OnceTold) (xs : List (List ℕ)) (out : List ℕ) (ts2 : List OnceTold) (ys : List (List ℕ)) (out2 : List ℕ) (ts3 : List OnceTold)
    → Outputs NotesTold ts xs out ts2 → Outputs NotesTold ts2 ys out2 ts3 → Outputs NotesTold ts (xs ++ ys) (out ++ out2) ts3
both ts [] out ts2 ys out2 ts3 p q =
    let P : List OnceTold → Type 0 = λ n. Outputs NotesTold n ys out2 ts3 in
    let Q : List ℕ → Type 0 = λ o. Outputs NotesTold ts ys (o ++ out2) ts3 in
    subst Q (sym p.0) (subst P p.1 q)
both ts (x ∷ xs) out ts2 ys out2 ts3 p q =
    (p.0, p.1, p.2 ++ out2, p.3, both p.0 xs p.2 ts2 ys out2 ts3 p.4 q, ap (λ l. l ++ out2) p.5 ∙ append_assoc p.1 p.2 out2)

-- what lines write that begin so
abbrev Writes : List OnceTold → List (List ℕ) → Type 0
Writes ts lines = (out : List ℕ) × (ts2 : List OnceTold) × Outputs NotesTold ts lines out ts2

one_log : (ts us : List OnceTold) (logs : List LogLines) → SameNumbers ts us → Chain us logs → Writes ts (flat_map lines_in logs)
one_log ts us [] h g = ([], ts, (refl, refl))
one_log ts us (log ∷ logs) h g =
    let first = all_noted ts us log.lines log.out g.0 h g.2 in
    let rest = one_log first.0 g.1 logs (first.2 ∙ g.3) g.4 in
    (log.out ++ rest.0, rest.1, both ts log.lines log.out first.0 (flat_map lines_in logs) rest.0 rest.1 first.1 rest.2)

pub chains_grow : ChainsGrow
chains_grow ts logs h =
    let all = one_log ts ts logs refl h in
    logs_grow ts (flat_map lines_in logs) all.0 all.1 all.2
