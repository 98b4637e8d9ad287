-- Drafts that take one line more.
use Rattle.std.proofs.Common.{◌≡◌, ◌∙◌, ◌<◌, ◌==◌, ◌&&◌, ℕ, zero, suc, Bool, cond, List, [], ◌∷◌, ◌++◌, length, map}
use Rattle.std.proofs.Common.{set, Option, Some, None, refl, sym, ap, arith, ◌+◌, ⊎_elim, if◌then◌else◌}
use Rattle.std.specs.Prelude.{Vec, slice_get, max}
use Rattle.std.specs.Option.{option_map_or}
use Rattle.std.specs.Global.{Global}
use Rattle.std.proofs.lemmas.Bool.{cases_eq, eq-eqb, ne_eqb}
use Rattle.std.proofs.lemmas.Option.{slice_get_within}
use Rattle.std.proofs.lemmas.List.{flat_map_more, append-nil, map-append}
use Rattle.std.proofs.lemmas.List.Sums.{fold-append}
use Rattle.sml_domain.specs.Domain.{Domain}
use Rattle.smi_run.specs.declared.script.Line.{Line}
use Rattle.smi_run_plan.specs.declared.lines.Deed.{Deed}
use Rattle.smi_run_plan.specs.declared.lines.Said.{Said}
use Rattle.smi_run_plan.specs.declared.lines.Said.TheVariants as said
use Rattle.smi_run_plan.specs.declared.device.ScriptDevice.{ScriptDevice}
use Rattle.smi_run_plan.specs.Devices.{answer_to}
use Rattle.smi_run_plan.specs.Plans.{HoldSessions, HoldAnswers, answer_at, deed_of, deeds_of, deeds_at, part_of, parts_of}
use Rattle.smi_run_plan.specs.Plans.{more_sessions, sessions_in, later_answer, last_answer, named_session}

-- an empty list more holds nothing
pub more_lists : (lists : List (Vec Line Global)) (v : Vec Line Global) (i : ℕ) → v.items ≡ []
    → deeds_at (lists ++ v ∷ []) i ≡ deeds_at lists i
more_lists [] v zero e = ap (map deed_of) e
more_lists [] v (suc i) e = refl
more_lists (w ∷ ws) v zero e = refl
more_lists (w ∷ ws) v (suc i) e = more_lists ws v i e

-- a silent device more answers nothing
pub more_devices : (xs : List ScriptDevice) (x : ScriptDevice) (o a : ℕ) → answer_to x a ≡ None
    → answer_at xs o a ≡ None → answer_at (xs ++ x ∷ []) o a ≡ None
more_devices [] x zero a e h = e
more_devices [] x (suc o) a e h = refl
more_devices (y ∷ ys) x zero a e h = h
more_devices (y ∷ ys) x (suc o) a e h = more_devices ys x o a e h

module _ (saids : List Said) (x : Said) where
  -- one line more, and what it says for a session
  parts_more : (k : ℕ) → parts_of k (saids ++ x ∷ []) ≡ parts_of k saids ++ part_of k x
  parts_more k = sym (flat_map_more (part_of k) [] saids x)

  sessions_more : sessions_in (saids ++ x ∷ []) ≡ max (sessions_in saids) (named_session x)
  sessions_more = fold-append more_sessions 1 saids (x ∷ [])

  pub answers_more : (o a : ℕ) → last_answer o a (saids ++ x ∷ []) ≡ later_answer o a (last_answer o a saids) x
  answers_more o a = fold-append (later_answer o a) None saids (x ∷ [])

  -- a line that names no session
  pub sessions_stay : (lists : List (Vec Line Global)) → named_session x ≡ 0 → ((k : ℕ) → part_of k x ≡ [])
      → HoldSessions saids lists → HoldSessions (saids ++ x ∷ []) lists
  sessions_stay lists none silent h = record {
    count = h.count ∙ sym (sessions_more ∙ ap (max (sessions_in saids)) none ∙ (omega arith));
    parts = λ i. h.parts i ∙ sym (parts_more (suc i) ∙ ap (λ l. parts_of (suc i) saids ++ l) (silent (suc i))
        ∙ append-nil (parts_of (suc i) saids));
  }

  -- a line that says nothing of devices
  pub answers_stay : (d : Domain) (devices : List ScriptDevice) → ((o a : ℕ) (s : Option ℕ)
      → later_answer o a s x ≡ s) → HoldAnswers d saids devices → HoldAnswers d (saids ++ x ∷ []) devices
  answers_stay d devices silent h = record {
    count = h.count;
    answers = λ o a lt. h.answers o a lt ∙ sym (answers_more o a ∙ silent o a (last_answer o a saids));
  }

-- a session does one thing more
pub session_asks : (saids : List Said) (k : ℕ) (x : Deed) (line : Line) (lists lists2 : List (Vec Line Global))
    → deed_of line ≡ x → length lists2 ≡ max (length lists) k
    → ((i : ℕ) → deeds_at lists2 i ≡ deeds_at lists i ++ (if k == suc i then deed_of line ∷ [] else []))
    → HoldSessions saids lists → HoldSessions (saids ++ said.Asks k x ∷ []) lists2
session_asks saids k x line lists lists2 same long each h = record {
  count = long ∙ ap (λ n. max n k) h.count ∙ sym (sessions_more saids (said.Asks k x));
  parts = λ i. each i ∙ ap (λ (y : Deed). deeds_at lists i ++ (if k == suc i then y ∷ [] else [])) same
      ∙ ap (λ l. l ++ part_of (suc i) (said.Asks k x)) (h.parts i) ∙ sym (parts_more saids (said.Asks k x) (suc i));
}

-- a device answers one thing more
pub device_answers : (d : Domain) (saids : List Said) (p b s : ℕ) (xs ys : List ScriptDevice) → length ys ≡ length xs
    → ((o a : ℕ) → o < length xs → answer_at ys o a ≡ (if p == o && a == b then Some s else answer_at xs o a))
    → HoldAnswers d saids xs → HoldAnswers d (saids ++ said.Answers p b s ∷ []) ys
device_answers d saids p b s xs ys long each h = record {
  count = long ∙ h.count;
  answers = λ o a lt. each o a (omega (arith, h.count, lt))
      ∙ ap (λ r. if p == o && a == b then Some s else r) (h.answers o a lt)
      ∙ sym (answers_more saids (said.Answers p b s) o a);
}

set_same : (lists : List (Vec Line Global)) (p : ℕ) (v : Vec Line Global) → p < length lists
    → deeds_at (set lists p v) p ≡ deeds_of v
set_same [] p v h = absurd (omega (arith, h))
set_same (w ∷ ws) zero v h = refl
set_same (w ∷ ws) (suc p) v h = set_same ws p v (omega (arith, h))

set_other : (lists : List (Vec Line Global)) (p i : ℕ) (v : Vec Line Global) → (p ≡ i → ⊥)
    → deeds_at (set lists p v) i ≡ deeds_at lists i
set_other [] p i v h = refl
set_other (w ∷ ws) zero zero v h = absurd (h refl)
set_other (w ∷ ws) zero (suc i) v h = refl
set_other (w ∷ ws) (suc p) zero v h = refl
set_other (w ∷ ws) (suc p) (suc i) v h = set_other ws p i v (λ e. h (ap suc e))

-- one list is longer by one, where it stands for a session
pub part_set : (lists : List (Vec Line Global)) (k p i : ℕ) (w v : Vec Line Global) (x : Line) → k ≡ p + 1
    → slice_get lists p ≡ Some w → v.items ≡ w.items ++ x ∷ []
    → deeds_at (set lists p v) i ≡ deeds_at lists i ++ (if k == suc i then deed_of x ∷ [] else [])
part_set lists k p i w v x place at longer = ⊎_elim
    (λ (e : k ≡ suc i).
    let same : p ≡ i = omega (arith, place, e) in
    ap (deeds_at (set lists p v)) (sym same) ∙ set_same lists p v (slice_get_within lists p w at)
    ∙ ap (map deed_of) longer ∙ map-append deed_of w.items (x ∷ [])
    ∙ ap (λ (o : Option (Vec Line Global)). option_map_or deeds_of o [] ++ deed_of x ∷ [])
    (sym at ∙ ap (slice_get lists) same)
    ∙ ap (λ (b : Bool). deeds_at lists i ++ cond b (deed_of x ∷ []) []) (sym (eq-eqb k (suc i) e)))
    (λ apart.
    set_other lists p i v (λ e. apart (omega (arith, place, e))) ∙ sym (append-nil (deeds_at lists i))
    ∙ ap (λ (b : Bool). deeds_at lists i ++ cond b (deed_of x ∷ []) []) (sym (ne_eqb k (suc i) apart)))
    (cases_eq k (suc i))
