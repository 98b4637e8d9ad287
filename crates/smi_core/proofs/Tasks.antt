-- What holds of the tasks of all objects, while entries of one are added.
use Rattle.std.proofs.Common.{◌≡◌, ◌≢◌, ◌<◌, ℕ, true, List, [], ◌∷◌, ◌++◌, length, map, Option, Some, None, IfSome, refl, sym, ap, ◌∙◌, subst, ⊎_elim}
use Rattle.std.specs.Prelude.{is_some, slice_set}
use Rattle.std.proofs.lemmas.Bool.{cases_eq, ne_eqb}
use Rattle.std.proofs.lemmas.List.{get_or-set_same, get_or-set_other}
use Rattle.sml_domain.specs.declared.value.Value.{Value}
use Rattle.sml_domain.specs.Domain.{Domain}
use Rattle.sml_domain.specs.Lookups.{associated_at}
use Rattle.smi_journal_entries.specs.declared.entry.Entry.{Entry}
use Rattle.smi_journal_entries.specs.Words.{answer_of, is_open, object_of, open_at, shown_of, state_of, waits_at}
use Rattle.smi_journal_entries.proofs.OneMore.{waits_more}
use Rattle.smi_interp.specs.Turn.{TurnView}
use Rattle.smi_interp.specs.Task.{TaskView}
use Rattle.smi_board.specs.Boards.{own_at, kept_at}
use Rattle.smi_board.specs.Turns.{IsItsTurn, IsOf}
use Rattle.smi_board.proofs.Others.{if_each, open_elsewhere, state_elsewhere, shown_elsewhere}
use Rattle.smi_core.specs.Machines.{Tasks, HasTask, HaveTasks, either_task}

-- for the objects other than one, one journal says what another says
pub record Others (d : Domain) (o : ℕ) (J K : List Entry) : Type 0 where
  pub opened : (x : ℕ) → x ≢ o → open_at x K ≡ open_at x J
  pub state : (x : ℕ) → x ≢ o → state_of d x K ≡ state_of d x J
  pub shown : (x : ℕ) → x ≢ o → shown_of d x K ≡ shown_of d x J
  pub waits : (x : ℕ) → x ≢ o → waits_at x K ≡ waits_at x J

waits_elsewhere : (J : List Entry) (e : Entry) (x : ℕ) → x ≢ object_of e → waits_at x (J ++ e ∷ []) ≡ waits_at x J
waits_elsewhere J e x apart = waits_more x J e ∙ rw (ne_eqb x (object_of e) apart) refl

pub others_self : (d : Domain) (o : ℕ) (J : List Entry) → Others d o J J
others_self d o J = record { opened = λ x apart. refl; state = λ x apart. refl; shown = λ x apart. refl; waits = λ x apart. refl }

-- with one more entry of that one
pub others_more : (d : Domain) (o : ℕ) (J K : List Entry) (e : Entry) → object_of e ≡ o → Others d o J K → Others d o J (K ++ e ∷ [])
others_more d o J K e at h = record {
  opened = λ x apart. open_elsewhere K e x (λ is. apart (is ∙ at)) ∙ h.opened x apart;
  state = λ x apart. state_elsewhere d K e x (λ is. apart (is ∙ at)) ∙ h.state x apart;
  shown = λ x apart. shown_elsewhere d K e x (λ is. apart (is ∙ at)) ∙ h.shown x apart;
  waits = λ x apart. waits_elsewhere K e x (λ is. apart (is ∙ at)) ∙ h.waits x apart;
}

pub others_one : (d : Domain) (o : ℕ) (J : List Entry) (e : Entry) → object_of e ≡ o → Others d o J (J ++ e ∷ [])
others_one d o J e at = others_more d o J J e at (others_self d o J)

pub others_same : (d : Domain) (o : ℕ) (J K : List Entry) → K ≡ J → Others d o J K
others_same d o J K is = subst (Others d o J) (sym is) (others_self d o J)

turn_other : (d : Domain) (o x : ℕ) (J K : List Entry) (own : List Value) (t : TurnView) → t.object ≢ o → Others d o J K → IsItsTurn d J own t → IsItsTurn d K own t
turn_other d o x J K own t apart h is = record {
  logical = is.logical;
  opened = h.opened t.object apart ∙ is.opened;
  state = is.state ∙ sym (h.state t.object apart);
  params = is.params;
  answers = is.answers ∙ sym (ap (map answer_of) (h.shown t.object apart));
}

task_other : (d : Domain) (o x : ℕ) (J K : List Entry) (own : List Value) (t : TaskView) → x ≢ o → Others d o J K → IsOf d J own x t → IsOf d K own x t
task_other d o x J K own t apart h is = record {
  domain = is.domain;
  object = is.object;
  turn = turn_other d o x J K own t.turn (λ e. apart (sym is.object ∙ e)) h is.turn;
}

has_other : (d : Domain) (o x : ℕ) (J K : List Entry) (own : List Value) (beside kept : Option TaskView) → x ≢ o → Others d o J K → HasTask d J own x beside kept → HasTask d K own x beside kept
has_other d o x J K own beside kept apart h has = record {
  out = if_each (λ t. IsOf d J own x t × (kept ≡ None)) (λ t. IsOf d K own x t × (kept ≡ None)) beside (λ t p. (task_other d o x J K own t apart h p.0, p.1)) has.out;
  there = λ opened logical. has.there (sym (ap is_some (h.opened x apart)) ∙ opened) logical;
  waits = if_each (λ t. waits_at x J ≡ true) (λ t. waits_at x K ≡ true) kept (λ t p. h.waits x apart ∙ p) has.waits;
}

-- the lists of tasks and parameters are the same but at one object
pub record SameElsewhere (o : ℕ) (params params2 : List (List Value)) (kept kept2 : List (Option TaskView)) (tasks tasks2 : Tasks) : Type 0 where
  pub own : (x : ℕ) → x ≢ o → own_at params2 x ≡ own_at params x
  pub keeps : (x : ℕ) → x ≢ o → kept_at kept2 x ≡ kept_at kept x
  pub beside : (x : ℕ) → x ≢ o → kept_at tasks2 x ≡ kept_at tasks x
  pub count : length tasks2 ≡ length tasks

-- a list that is written at one object
pub written_elsewhere : (tasks : Tasks) (o : ℕ) (t : Option TaskView) (x : ℕ) → x ≢ o → kept_at (slice_set tasks o t) x ≡ kept_at tasks x
written_elsewhere tasks o t x apart = get_or-set_other tasks o x t None apart

pub written_here : (tasks : Tasks) (o : ℕ) (t : Option TaskView) → o < length tasks → kept_at (slice_set tasks o t) o ≡ t
written_here tasks o t lt = get_or-set_same tasks o t None lt

-- so the tasks of all objects are what they were, except that one's
pub have_after : (d : Domain) (o : ℕ) (J K : List Entry) (params params2 : List (List Value)) (kept kept2 : List (Option TaskView)) (tasks tasks2 : Tasks)
    → Others d o J K → SameElsewhere o params params2 kept kept2 tasks tasks2 → HaveTasks d J params kept tasks
    → HasTask d K (own_at params2 o) o (kept_at tasks2 o) (kept_at kept2 o)
    → HaveTasks d K params2 kept2 tasks2
have_after d o J K params params2 kept kept2 tasks tasks2 others same h here = record {
  count = same.count ∙ h.count;
  each = λ x lt. ⊎_elim
      (λ (at : x ≡ o). subst (λ y. HasTask d K (own_at params2 y) y (kept_at tasks2 y) (kept_at kept2 y)) (sym at) here)
      (λ apart. subst (λ p. HasTask d K p x (kept_at tasks2 x) (kept_at kept2 x)) (sym (same.own x apart))
      (subst (λ b. HasTask d K (own_at params x) x b (kept_at kept2 x)) (sym (same.beside x apart))
      (subst (λ k. HasTask d K (own_at params x) x (kept_at tasks x) k) (sym (same.keeps x apart))
      (has_other d o x J K (own_at params x) (kept_at tasks x) (kept_at kept x) apart others (h.each x lt)))))
      (cases_eq x o);
}

not_open : (J : List Entry) (o : ℕ) (X : Type 0) → open_at o J ≡ None → is_open o J ≡ true → X
not_open J o X none is = absurd (cc (sym (ap (λ z. is_some z) none) ∙ is))

-- no task is where nothing is open
pub has_none : (d : Domain) (J : List Entry) (own : List Value) (o : ℕ) (beside kept : Option TaskView) → open_at o J ≡ None → beside ≡ None → kept ≡ None → HasTask d J own o beside kept
has_none d J own o beside kept closed nil none = record {
  out = subst (λ b. IfSome b (λ t. IsOf d J own o t × (kept ≡ None))) (sym nil) tt;
  there = λ opened logical. not_open J o _ closed opened;
  waits = subst (λ k. IfSome k (λ t. waits_at o J ≡ true)) (sym none) tt;
}

-- no task is where a device performs
pub has_device : (d : Domain) (J : List Entry) (own : List Value) (o : ℕ) (beside kept : Option TaskView) → associated_at d o ≡ true → beside ≡ None → kept ≡ None → HasTask d J own o beside kept
has_device d J own o beside kept device nil none = record {
  out = subst (λ b. IfSome b (λ t. IsOf d J own o t × (kept ≡ None))) (sym nil) tt;
  there = λ opened logical. absurd (cc (sym device ∙ logical));
  waits = subst (λ k. IfSome k (λ t. waits_at o J ≡ true)) (sym none) tt;
}

-- the task beside the board
pub has_beside : (d : Domain) (J : List Entry) (own : List Value) (o : ℕ) (t : TaskView) (beside kept : Option TaskView) → beside ≡ Some t → kept ≡ None → IsOf d J own o t → HasTask d J own o beside kept
has_beside d J own o t beside kept is none task = record {
  out = subst (λ b. IfSome b (λ x. IsOf d J own o x × (kept ≡ None))) (sym is) (task, none);
  there = λ opened logical. ap (λ b. is_some (either_task b kept)) is;
  waits = subst (λ k. IfSome k (λ x. waits_at o J ≡ true)) (sym none) tt;
}

-- the task that the board keeps
pub has_kept : (d : Domain) (J : List Entry) (own : List Value) (o : ℕ) (t : TaskView) (beside kept : Option TaskView) → beside ≡ None → kept ≡ Some t → waits_at o J ≡ true → HasTask d J own o beside kept
has_kept d J own o t beside kept nil is waits = record {
  out = subst (λ b. IfSome b (λ x. IsOf d J own o x × (kept ≡ None))) (sym nil) tt;
  there = λ opened logical. ap (λ b. is_some (either_task b kept)) nil ∙ ap is_some is;
  waits = subst (λ k. IfSome k (λ x. waits_at o J ≡ true)) (sym is) waits;
}

pub others_then : (d : Domain) (o : ℕ) (J K L : List Entry) → Others d o J K → Others d o K L → Others d o J L
others_then d o J K L h k = record {
  opened = λ x apart. k.opened x apart ∙ h.opened x apart;
  state = λ x apart. k.state x apart ∙ h.state x apart;
  shown = λ x apart. k.shown x apart ∙ h.shown x apart;
  waits = λ x apart. k.waits x apart ∙ h.waits x apart;
}
