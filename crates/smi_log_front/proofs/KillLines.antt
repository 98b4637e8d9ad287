-- The lines that kill objects again.
use Rattle.std.proofs.Common.{◌≡◌, ◌≢◌, ◌∙◌, sym, ap, refl, subst, inl, inr, ℕ, suc, ◌<◌, ◌≤◌, ◌+◌, ◌&&◌, true, List, [], ◌∷◌, ◌++◌, All, append_assoc, length, arith}
use Rattle.std.specs.Prelude.{codes, nat_le}
use Rattle.std.proofs.lemmas.Bool.{cases_lt}
use Rattle.std.proofs.lemmas.Bool.Decides.{nat_tests}
use Rattle.std.proofs.lemmas.List.{append_cancel_left}
use Rattle.std.proofs.lemmas.List.Elements.{All-nil, All-push}
use Rattle.sml_domain.specs.Domain.{Domain}
use Rattle.smi_journal.specs.CallText.{object_name_text}
use Rattle.smi_journal.specs.EntryText.{session_text}
use Rattle.smi_journal.specs.HasText.{is_object_number}
use Rattle.smi_carried.specs.CarriedText.{carried_object_text}
use Rattle.smi_carried.proofs.Names.{both_true}
use Rattle.smi_carried.proofs.Numbered.{flat_read}
use Rattle.smi_log_front.specs.declared.front.FrontKill.{FrontKill}
use Rattle.smi_log_front.specs.FrontText.{front_kill_line, front_kills_text}
use Rattle.smi_log_front.specs.Reading.{KillIsRead, NoKillAfter, NoKillOf, SessionIsRead, TakesKill, session_words}
use Rattle.smi_log_front.specs.Suits.{IsHeldSession, KillIsHeld, are_kills_from, is_kill_from}

-- ---- one line

abbrev pub kill_front : Domain → ℕ → List ℕ
kill_front d o = carried_object_text (codes "kill") d o

pub kill_line_says : (d : Domain) (x : FrontKill) (more : List ℕ) → front_kill_line d x ++ more ≡ kill_front d x.object ++ (session_words x.session ++ more)
kill_line_says d x more =
    let name = object_name_text d x.object in
    ap (λ l. codes "kill " ++ l) (ap (λ l. l ++ more) (append_assoc name (32 ∷ session_text x.session) (10 ∷ []))
    ∙ append_assoc name (session_words x.session) more)

module _ (d : Domain) (o : ℕ) (text : List ℕ) where
  pub no_kill_front : ((more : List ℕ) → text ≢ kill_front d o ++ more) → NoKillOf d o text
  no_kill_front none x more read =
      none (session_words x.session ++ more) (read.says ∙ kill_line_says d x more ∙ ap (λ k. kill_front d k ++ (session_words x.session ++ more)) read.object)

  module _ (words_on : List ℕ) (is : text ≡ kill_front d o ++ words_on) where
    pub no_kill_session : ((k : ℕ) (more : List ℕ) → SessionIsRead words_on k more → ⊥) → NoKillOf d o text
    no_kill_session none x more read =
        none x.session more (record {
          held = read.held;
          says = append_cancel_left (kill_front d o) words_on (session_words x.session ++ more)
              (sym is ∙ read.says ∙ kill_line_says d x more ∙ ap (λ k. kill_front d k ++ (session_words x.session ++ more)) read.object);
        })

    pub kill_read : (k : ℕ) (more : List ℕ) → SessionIsRead words_on k more → KillIsRead d o text (record { object = o; session = k }) more
    kill_read k more read = record {
      object = refl;
      held = read.held;
      says = is ∙ ap (λ l. kill_front d o ++ l) read.says ∙ sym (kill_line_says d (record { object = o; session = k }) more);
    }

-- ---- a session

abbrev rest_after : List ℕ → List ℕ
rest_after [] = []
rest_after (c ∷ cs) = cs

module _ (text digits : List ℕ) (is : text ≡ codes " @" ++ digits) where
  digits_say : (k : ℕ) (more : List ℕ) → SessionIsRead text k more → digits ≡ (48 + k) ∷ 10 ∷ more
  digits_say k more read = append_cancel_left (codes " @") digits ((48 + k) ∷ 10 ∷ more) (sym is ∙ read.says)

  pub no_session_digit : digits ≡ [] → (k : ℕ) (more : List ℕ) → SessionIsRead text k more → ⊥
  no_session_digit none k more read =
      let f : 0 ≡ suc (suc (length more)) = ap length (sym none ∙ digits_say k more read) in omega (arith, f)

  module _ (digit : ℕ) (ends : List ℕ) (is1 : digits ≡ digit ∷ ends) where
    pub no_session_number : ((k : ℕ) → IsHeldSession k → digit ≢ 48 + k) → (k : ℕ) (more : List ℕ) → SessionIsRead text k more → ⊥
    no_session_number none k more read = let e : digit ∷ ends ≡ (48 + k) ∷ 10 ∷ more = sym is1 ∙ digits_say k more read in none k read.held (cc e)

    pub no_session_end : ((more : List ℕ) → ends ≢ codes "\n" ++ more) → (k : ℕ) (more : List ℕ) → SessionIsRead text k more → ⊥
    no_session_end none k more read = none more (ap rest_after (sym is1 ∙ digits_say k more read))

    pub session_read : (k : ℕ) (more : List ℕ) → digit ≡ 48 + k → IsHeldSession k → ends ≡ codes "\n" ++ more → SessionIsRead text k more
    session_read k more e held f = record {
      held = held;
      says = is ∙ ap (λ l. codes " @" ++ l) (is1 ∙ ap (λ c. c ∷ ends) e ∙ ap (λ l. (48 + k) ∷ l) f);
    }

-- ---- kills in order

-- the number after that of the last
abbrev pub kills_end : ℕ → List FrontKill → ℕ
kills_end n [] = n
kills_end n (x ∷ xs) = kills_end (suc x.object) xs

pub kills_end_push : (n : ℕ) (xs : List FrontKill) (x : FrontKill) → kills_end n (xs ++ x ∷ []) ≡ suc x.object
kills_end_push n [] x = refl
kills_end_push n (y ∷ ys) x = kills_end_push (suc y.object) ys x

module _ (d : Domain) where
  pub kill_parts : (n : ℕ) (x : FrontKill) → is_kill_from d n x ≡ true → (n ≤ x.object) × (x.object < length d.objects)
  kill_parts n x h =
      let parts = both_true (nat_le n x.object) (is_object_number d x.object) h in
      let from = parts.0 in
      let within = parts.1 in
      (grind (arith, nat_tests, from), grind (arith, nat_tests, within))

  kill_whole : (n : ℕ) (x : FrontKill) → n ≤ x.object → x.object < length d.objects → is_kill_from d n x ≡ true
  kill_whole n x from within =
      let a : nat_le n x.object ≡ true = grind (arith, nat_tests, from) in
      let b : is_object_number d x.object ≡ true = grind (arith, nat_tests, within) in
      ap (λ k. k && is_object_number d x.object) a ∙ b

  pub kills_push : (n : ℕ) (xs : List FrontKill) (x : FrontKill) → are_kills_from d n xs ≡ true → kills_end n xs ≤ x.object → x.object < length d.objects
      → are_kills_from d n (xs ++ x ∷ []) ≡ true
  kills_push n [] x h le lt = ap (λ b. b && true) (kill_whole n x le lt)
  kills_push n (y ∷ ys) x h le lt =
      let parts = both_true (is_kill_from d n y) (are_kills_from d (suc y.object) ys) h in
      ap (λ b. b && are_kills_from d (suc y.object) (ys ++ x ∷ [])) parts.0 ∙ kills_push (suc y.object) ys x parts.1 le lt

  -- the last of them
  pub kills_last : (n : ℕ) (xs : List FrontKill) (x : FrontKill) → are_kills_from d n (xs ++ x ∷ []) ≡ true → (kills_end n xs ≤ x.object) × (x.object < length d.objects)
  kills_last n [] x h = kill_parts n x (both_true (is_kill_from d n x) true h).0
  kills_last n (y ∷ ys) x h = kills_last (suc y.object) ys x (both_true (is_kill_from d n y) (are_kills_from d (suc y.object) (ys ++ x ∷ [])) h).1

-- no line of a kill is in front that may come after these and is of an object before a number
abbrev pub NoKillBefore : Domain → List FrontKill → ℕ → List ℕ → Type 0
NoKillBefore d kills o text =
    (x : FrontKill) (more : List ℕ) → x.object < o → are_kills_from d 0 (kills ++ x ∷ []) ≡ true → KillIsHeld x → text ≢ front_kill_line d x ++ more

module _ (d : Domain) (kills : List FrontKill) (o : ℕ) (text : List ℕ) where
  pub no_kill_next : NoKillBefore d kills o text → NoKillOf d o text → NoKillBefore d kills (o + 1) text
  no_kill_next before none x more lt suit held e =
      elim (cases_lt x.object o) [
        | inl below ↦ before x more below suit held e
        | inr top ↦ none x more (record { object = omega (arith, lt, top); held = held; says = e })
      ]

  pub no_kill_end : length d.objects ≤ o → NoKillBefore d kills o text → NoKillAfter d kills text
  no_kill_end all before x more suit held e = let within = (kills_last d 0 kills x suit).1 in before x more (omega (arith, all, within)) suit held e

-- none of an object before that of the last may come
pub no_kill_read : (d : Domain) (kills : List FrontKill) (x : FrontKill) (o : ℕ) (text : List ℕ) → x.object ≡ o → NoKillBefore d (kills ++ x ∷ []) (o + 1) text
no_kill_read d kills x o text is y more lt suit held e =
    let last = (kills_last d 0 (kills ++ x ∷ []) y suit).0 in
    let end = kills_end_push 0 kills x in
    omega (arith, last, end, is, lt)

-- ---- all lines

-- the kills of the objects before a number were read, and no other may come
pub record KillsSoFar (d : Domain) (text : List ℕ) (kills : List FrontKill) (o : ℕ) (rest : List ℕ) : Type 0 where
  pub suit : are_kills_from d 0 kills ≡ true
  pub last : kills_end 0 kills ≤ o
  pub held : All KillIsHeld kills
  pub whole : text ≡ front_kills_text d kills ++ rest
  pub none : NoKillBefore d kills o rest

pub kills_begin : (d : Domain) (text : List ℕ) → KillsSoFar d text [] 0 text
kills_begin d text = record {
  suit = refl;
  last = omega arith;
  held = All-nil KillIsHeld;
  whole = refl;
  none = λ x more lt. absurd (omega (arith, lt));
}

module _ (d : Domain) (text : List ℕ) (xs : List FrontKill) (o : ℕ) (rest : List ℕ) (far : KillsSoFar d text xs o rest) where
  no_more : NoKillOf d o rest → KillsSoFar d text xs (o + 1) rest
  no_more none =
      let last = far.last in
      record {
        suit = far.suit;
        last = omega (arith, last);
        held = far.held;
        whole = far.whole;
        none = no_kill_next d xs o rest far.none none;
      }

  one_more : (x : FrontKill) (more : List ℕ) → o < length d.objects → KillIsRead d o rest x more → KillsSoFar d text (xs ++ x ∷ []) (o + 1) more
  one_more x more lt read =
      let last = far.last in
      let is = read.object in
      let end = kills_end_push 0 xs x in
      record {
        suit = kills_push d 0 xs x far.suit (omega (arith, last, is)) (omega (arith, lt, is));
        last = omega (arith, end, is);
        held = All-push KillIsHeld xs x far.held read.held;
        whole = flat_read (front_kill_line d) xs (xs ++ x ∷ []) x text rest more far.whole read.says refl;
        none = no_kill_read d xs x o more is;
      }

  pub kills_step : (ys : List FrontKill) (more : List ℕ) → o < length d.objects → TakesKill d o xs rest ys more → KillsSoFar d text ys (o + 1) more
  kills_step ys more lt (inl t) =
      subst (KillsSoFar d text ys (o + 1)) (sym t.2) (subst (λ l. KillsSoFar d text l (o + 1) rest) (sym t.1) (no_more t.0))
  kills_step ys more lt (inr t) = subst (λ l. KillsSoFar d text l (o + 1) more) (sym t.2) (one_more t.0 more lt t.1)
