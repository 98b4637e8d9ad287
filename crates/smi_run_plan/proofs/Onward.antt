-- A text that is read line by line.
use Rattle.std.proofs.Common.{◌≡◌, ◌∙◌, ◌+◌, ℕ, List, [], ◌∷◌, ◌++◌, length, Option, Some, None, refl, sym, ap}
use Rattle.std.proofs.Common.{append_assoc, subst, Bool, true, Bor}
use Rattle.std.specs.Prelude.{Vec, MatchBool, MatchOption}
use Rattle.std.specs.Global.{Global}
use Rattle.std.proofs.lemmas.List.{length_push}
use Rattle.sml_domain.specs.Domain.{Domain}
use Rattle.smi_run.specs.declared.script.Line.{Line}
use Rattle.smi_run_plan.specs.declared.lines.Said.{Said}
use Rattle.smi_run_plan.specs.declared.device.ScriptDevice.{ScriptDevice}
use Rattle.smi_run_plan.specs.Says.{LineSays}
use Rattle.smi_run_plan.specs.Plans.{HoldSessions, HoldAnswers, HoldsText, IsFirstBad, LinesSay, PlanTakesLine, script_lines}

-- the lines in front of the rest are held
pub record ReadSoFar (d : Domain) (text rest : List ℕ) (next : ℕ) (lists : List (Vec Line Global))
    (devices : List ScriptDevice) : Type 0 where
  pub before : List (List ℕ)
  pub saids : List Said
  pub split : script_lines text ≡ before ++ script_lines rest
  pub says : LinesSay d before saids
  pub number : next ≡ length before + 1
  pub sessions : HoldSessions saids lists
  pub answers : HoldAnswers d saids devices

say_more : (d : Domain) (lines : List (List ℕ)) (saids : List Said) (line : List ℕ) (x : Said)
    → LinesSay d lines saids → LineSays d line (Some x) → LinesSay d (lines ++ line ∷ []) (saids ++ x ∷ [])
say_more d [] [] line x h s = (s, tt)
say_more d [] (y ∷ ys) line x h s = absurd h
say_more d (l ∷ ls) [] line x h s = absurd h
say_more d (l ∷ ls) (y ∷ ys) line x h s = (h.0, say_more d ls ys line x h.1 s)

pub begin_read : (d : Domain) (text : List ℕ) (number : ℕ) (lists : List (Vec Line Global))
    (devices : List ScriptDevice) → number ≡ 1 → HoldSessions [] lists → HoldAnswers d [] devices
    → ReadSoFar d text text number lists devices
begin_read d text number lists devices one s a = record {
  before = [];
  saids = [];
  split = refl;
  says = tt;
  number = one;
  sessions = s;
  answers = a;
}

module _ (d : Domain) (text rest : List ℕ) (number : ℕ) (lists lists2 : List (Vec Line Global))
    (devices devices2 : List ScriptDevice) (line : List ℕ)
    (h : ReadSoFar d text rest number lists devices) where
  pub next_line : (behind : List ℕ) → script_lines rest ≡ line ∷ script_lines behind
      → PlanTakesLine d line lists lists2 devices devices2 → ReadSoFar d text behind (number + 1) lists2 devices2
  next_line behind e t = record {
    before = h.before ++ line ∷ [];
    saids = h.saids ++ t.said ∷ [];
    split = h.split ∙ ap (λ l. h.before ++ l) e ∙ sym (append_assoc h.before (line ∷ []) (script_lines behind));
    says = say_more d h.before h.saids line t.said h.says t.says;
    number = ap (λ n. n + 1) (h.number ∙ sym (length_push h.before line));
    sessions = t.sessions h.saids h.sessions;
    answers = t.answers h.saids h.answers;
  }

  pub last_line : script_lines rest ≡ line ∷ [] → PlanTakesLine d line lists lists2 devices devices2
      → HoldsText d text lists2 devices2
  last_line e t = let all = h.split ∙ ap (λ l. h.before ++ l) e in record {
    saids = h.saids ++ t.said ∷ [];
    says = subst (λ ls. LinesSay d ls (h.saids ++ t.said ∷ [])) (sym all)
        (say_more d h.before h.saids line t.said h.says t.says);
    sessions = t.sessions h.saids h.sessions;
    answers = t.answers h.saids h.answers;
  }

  pub first_bad_line : (more : List (List ℕ)) → script_lines rest ≡ line ∷ more → LineSays d line None
      → IsFirstBad d text number
  first_bad_line more e b = record {
    before = h.before;
    line = line;
    behind = more;
    saids = h.saids;
    split = h.split ∙ ap (λ l. h.before ++ l) e;
    good = h.says;
    bad = b;
    number = h.number;
  }

-- a good line was taken
pub taken : (b : Bool) (X Y : Type 0) → b ≡ true → MatchBool b X Y → X
taken b X Y e h = subst (λ c. MatchBool c X Y) e h

-- what holds of the text behind a line feed, or of the lack of one
pub behind_some : (o : Option (Bor (List ℕ))) (x : Bor (List ℕ)) (none : Type 0) (some : Bor (List ℕ) → Type 0)
    → o ≡ Some x → MatchOption o none some → some x
behind_some o x none some e h = subst (λ r. MatchOption r none some) e h

pub behind_none : (o : Option (Bor (List ℕ))) (none : Type 0) (some : Bor (List ℕ) → Type 0) → o ≡ None
    → MatchOption o none some → none
behind_none o none some e h = subst (λ r. MatchOption r none some) e h
