-- Why a step is refused, from what a board answers.
use Rattle.std.proofs.Common.{◌≡◌, ◌≤◌, ◌==◌, ℕ, Bool, true, false, cond, List, length, Option, Some, None, refl, ap, ◌∙◌, arith}
use Rattle.std.specs.Prelude.{nat_le, not, is_some, is_none, ◌&&◌, MatchBool}
use Rattle.std.proofs.lemmas.Bool.Decides.{nat_tests}
use Rattle.std.specs.Option.{option_map, option_map_or, option_and_then}
use Rattle.sml_domain.specs.Lookups.{object_named, associated_at}
use Rattle.sml_domain.specs.Completing.{Passed}
use Rattle.smi_journal_entries.specs.declared.addressing.AddressError.{AddressError}
use Rattle.smi_journal_entries.specs.declared.addressing.AddressError.TheVariants as address
use Rattle.smi_journal_entries.specs.Addressing.{IsAddressError, address_refusal, params_named}
use Rattle.smi_journal_entries.specs.BadArguments.{are_bad}
use Rattle.smi_journal_entries.specs.Words.{all_starts, is_killed, killed_at, is_open}
use Rattle.smi_board.specs.Refusals.{start_refusal, IsStartError, fault_refusal, kill_refusal, IsKillError, request_refusal, IsRequestError}
use Rattle.smi_board.specs.declared.errors.StartError.{StartError}
use Rattle.smi_board.specs.declared.errors.StartError.TheVariants as start
use Rattle.smi_board.specs.declared.errors.AnswerError.{AnswerError}
use Rattle.smi_board.specs.declared.errors.AnswerError.TheVariants as device
use Rattle.smi_board.specs.declared.errors.KillError.{KillError}
use Rattle.smi_board.specs.declared.errors.KillError.TheVariants as kill
use Rattle.smi_board.specs.declared.errors.RequestRefusal.{RequestRefusal}
use Rattle.smi_board.specs.declared.errors.RequestRefusal.TheVariants as request
use Rattle.smi_world.specs.declared.step.Step.{Step}
use Rattle.smi_world.specs.declared.step.Step.TheVariants as step
use Rattle.smi_world.specs.declared.refusal.StepError.{StepError}
use Rattle.smi_world.specs.declared.refusal.StepError.TheVariants as error
use Rattle.smi_world.specs.World.{Setup, World, waiting}
use Rattle.smi_world.specs.Steps.{IsRefusal, is_memory, object_in, names_state, refusal, refusal_stands, step_error_of}
use Rattle.smi_core.specs.Errors.{start_error, device_error, kill_error, request_error}

-- the second choice, where there is no first
abbrev or_else : Option StepError → Option StepError → Option StepError
or_else None rest = rest
or_else (Some e) rest = Some e

-- ---- no object has the name

first_is : (b : Bool) (e : StepError) (rest : Option StepError) → b ≡ true → cond b (Some e) rest ≡ Some e
first_is true e rest is = refl
first_is false e rest is = absurd (cc is)

pub unknown_object : (m : Setup) (w : World) (s : Step) → object_named m.domain (object_in s) ≡ None → IsRefusal m w s error.UnknownObject
unknown_object m w (step.Request k x y args) is = first_is (refusal_stands m w (step.Request k x y args) error.UnknownObject) error.UnknownObject _ (ap is_none is)
unknown_object m w (step.Start x) is = first_is (refusal_stands m w (step.Start x) error.UnknownObject) error.UnknownObject _ (ap is_none is)
unknown_object m w (step.Go x) is = first_is (refusal_stands m w (step.Go x) error.UnknownObject) error.UnknownObject _ (ap is_none is)
unknown_object m w (step.Answer x y) is = first_is (refusal_stands m w (step.Answer x y) error.UnknownObject) error.UnknownObject _ (ap is_none is)
unknown_object m w (step.Fault x) is = first_is (refusal_stands m w (step.Fault x) error.UnknownObject) error.UnknownObject _ (ap is_none is)
unknown_object m w (step.Kill x k) is = first_is (refusal_stands m w (step.Kill x k) error.UnknownObject) error.UnknownObject _ (ap is_none is)

module _ (m : Setup) (w : World) (x : List ℕ) (o : ℕ) (named : object_named m.domain x ≡ Some o) where
  known : is_none (object_named m.domain x) ≡ false
  known = ap is_none named

  at : (test : ℕ → Bool) → option_map_or test (object_named m.domain x) false ≡ test o
  at test = ap (λ y. option_map_or test y false) named

  -- ---- starts

  abbrev start_chain : Option ℕ → Option StepError
  start_chain y = cond (is_none y) (Some error.UnknownObject) (cond (nat_le m.max_starts (length (all_starts w.journal))) (Some error.Limit)
      (cond (option_map_or (λ z. is_killed z w.journal) y false) (Some error.Dead) (cond (option_map_or (λ z. is_open z w.journal) y false) (Some error.AlreadyOpen)
      (cond (option_map_or (λ z. waiting z w == 0) y false) (Some error.Empty) None))))

  start_found : (a k p : Bool) (rest : Option StepError) → cond a (Some error.Limit) (cond k (Some error.Dead) (cond p (Some error.AlreadyOpen) rest))
      ≡ or_else (option_map start_error (cond a (Some start.Limit) (cond k (Some start.Dead) (cond p (Some start.AlreadyOpen) None)))) rest
  start_found true k p rest = refl
  start_found false true p rest = refl
  start_found false false true rest = refl
  start_found false false false rest = refl

  start_is : refusal m w (step.Start x) ≡ or_else (option_map start_error (start_refusal m.max_starts w.journal o)) (cond (waiting o w == 0) (Some error.Empty) None)
  start_is = ap start_chain named ∙ start_found (nat_le m.max_starts (length (all_starts w.journal))) (is_killed o w.journal) (is_open o w.journal) (cond (waiting o w == 0) (Some error.Empty) None)

  pub start_free : start_refusal m.max_starts w.journal o ≡ None → (waiting o w == 0) ≡ false → refusal m w (step.Start x) ≡ None
  start_free free some = start_is ∙ ap (λ f. or_else (option_map start_error f) (cond (waiting o w == 0) (Some error.Empty) None)) free ∙ ap (λ z. cond z (Some error.Empty) None) some

  pub start_refused : (e : StartError) → IsStartError (start_refusal m.max_starts w.journal o) e → (e ≡ start.Empty → (waiting o w == 0) ≡ true) → IsRefusal m w (step.Start x) (start_error e)
  start_refused start.Memory is empty = ap (λ y. not (is_none y) && true) named
  start_refused start.Limit is empty = start_is ∙ ap (λ f. or_else (option_map start_error f) (cond (waiting o w == 0) (Some error.Empty) None)) is
  start_refused start.Dead is empty = start_is ∙ ap (λ f. or_else (option_map start_error f) (cond (waiting o w == 0) (Some error.Empty) None)) is
  start_refused start.AlreadyOpen is empty = start_is ∙ ap (λ f. or_else (option_map start_error f) (cond (waiting o w == 0) (Some error.Empty) None)) is
  start_refused start.Empty is empty = start_is ∙ ap (λ f. or_else (option_map start_error f) (cond (waiting o w == 0) (Some error.Empty) None)) is ∙ ap (λ z. cond z (Some error.Empty) None) (empty refl)

  -- ---- moves

  abbrev go_chain : Option ℕ → Option StepError
  go_chain y = cond (is_none y) (Some error.UnknownObject) (cond (option_map_or (associated_at m.domain) y false) (Some error.Associated) (cond (option_map_or (λ z. not (is_open z w.journal)) y false) (Some error.NotOpen) None))

  go_is : refusal m w (step.Go x) ≡ cond (associated_at m.domain o) (Some error.Associated) (cond (not (is_open o w.journal)) (Some error.NotOpen) None)
  go_is = ap go_chain named

  pub go_associated : associated_at m.domain o ≡ true → IsRefusal m w (step.Go x) error.Associated
  go_associated is = go_is ∙ ap (λ c. cond c (Some error.Associated) (cond (not (is_open o w.journal)) (Some error.NotOpen) None)) is

  pub go_closed : associated_at m.domain o ≡ false → is_open o w.journal ≡ false → IsRefusal m w (step.Go x) error.NotOpen
  go_closed is closed = go_is ∙ ap (λ c. cond c (Some error.Associated) (cond (not (is_open o w.journal)) (Some error.NotOpen) None)) is ∙ ap (λ c. cond (not c) (Some error.NotOpen) None) closed

  pub go_free : associated_at m.domain o ≡ false → is_open o w.journal ≡ true → refusal m w (step.Go x) ≡ None
  go_free is opened = go_is ∙ ap (λ c. cond c (Some error.Associated) (cond (not (is_open o w.journal)) (Some error.NotOpen) None)) is ∙ ap (λ c. cond (not c) (Some error.NotOpen) None) opened

  -- `Memory` comes only after these
  pub go_memory : associated_at m.domain o ≡ false → is_open o w.journal ≡ true → IsRefusal m w (step.Go x) error.Memory
  go_memory is opened =
      ap (λ y. not (is_none y) && (not (option_map_or (associated_at m.domain) y false) && (not (option_map_or (λ z. not (is_open z w.journal)) y false) && true))) named
      ∙ ap (λ c. not c && (not (not (is_open o w.journal)) && true)) is ∙ ap (λ c. not (not c) && true) opened

  -- ---- devices

  abbrev fault_chain : Option ℕ → Option StepError
  fault_chain y = cond (is_none y) (Some error.UnknownObject) (cond (option_map_or (λ z. not (associated_at m.domain z)) y false) (Some error.NotAssociated) (cond (option_map_or (λ z. not (is_open z w.journal)) y false) (Some error.NotOpen) None))

  fault_found : (a p : Bool) → cond a (Some error.NotAssociated) (cond p (Some error.NotOpen) None) ≡ option_map device_error (cond a (Some device.NotAssociated) (cond p (Some device.NotOpen) None))
  fault_found true p = refl
  fault_found false true = refl
  fault_found false false = refl

  fault_is : refusal m w (step.Fault x) ≡ option_map device_error (fault_refusal m.domain w.journal o)
  fault_is = ap fault_chain named ∙ fault_found (not (associated_at m.domain o)) (not (is_open o w.journal))

  pub fault_free : fault_refusal m.domain w.journal o ≡ None → refusal m w (step.Fault x) ≡ None
  fault_free free = fault_is ∙ ap (option_map device_error) free

  pub fault_refused : (e : AnswerError) → fault_refusal m.domain w.journal o ≡ Some e → IsRefusal m w (step.Fault x) (device_error e)
  fault_refused device.NotAssociated is = fault_is ∙ ap (option_map device_error) is
  fault_refused device.NotOpen is = fault_is ∙ ap (option_map device_error) is
  fault_refused device.NotAState is = fault_is ∙ ap (option_map device_error) is

  abbrev answer_chain : List ℕ → Option ℕ → Option StepError
  answer_chain y z = cond (is_none z) (Some error.UnknownObject) (cond (option_map_or (λ v. not (associated_at m.domain v)) z false) (Some error.NotAssociated) (cond (option_map_or (λ v. not (is_open v w.journal)) z false) (Some error.NotOpen)
      (cond (option_map_or (λ v. not (names_state m.domain y v)) z false) (Some error.NotAState) None)))

  answer_is : (y : List ℕ) → refusal m w (step.Answer x y) ≡ cond (not (associated_at m.domain o)) (Some error.NotAssociated) (cond (not (is_open o w.journal)) (Some error.NotOpen) (cond (not (names_state m.domain y o)) (Some error.NotAState) None))
  answer_is y = ap (answer_chain y) named

  pub answer_unassociated : (y : List ℕ) → associated_at m.domain o ≡ false → IsRefusal m w (step.Answer x y) error.NotAssociated
  answer_unassociated y is = answer_is y ∙ ap (λ c. cond (not c) (Some error.NotAssociated) (cond (not (is_open o w.journal)) (Some error.NotOpen) (cond (not (names_state m.domain y o)) (Some error.NotAState) None))) is

  answer_associated : (y : List ℕ) → associated_at m.domain o ≡ true → refusal m w (step.Answer x y) ≡ cond (not (is_open o w.journal)) (Some error.NotOpen) (cond (not (names_state m.domain y o)) (Some error.NotAState) None)
  answer_associated y is = answer_is y ∙ ap (λ c. cond (not c) (Some error.NotAssociated) (cond (not (is_open o w.journal)) (Some error.NotOpen) (cond (not (names_state m.domain y o)) (Some error.NotAState) None))) is

  pub answer_closed : (y : List ℕ) → associated_at m.domain o ≡ true → is_open o w.journal ≡ false → IsRefusal m w (step.Answer x y) error.NotOpen
  answer_closed y is closed = answer_associated y is ∙ ap (λ c. cond (not c) (Some error.NotOpen) (cond (not (names_state m.domain y o)) (Some error.NotAState) None)) closed

  answer_opened : (y : List ℕ) → associated_at m.domain o ≡ true → is_open o w.journal ≡ true → refusal m w (step.Answer x y) ≡ cond (not (names_state m.domain y o)) (Some error.NotAState) None
  answer_opened y is opened = answer_associated y is ∙ ap (λ c. cond (not c) (Some error.NotOpen) (cond (not (names_state m.domain y o)) (Some error.NotAState) None)) opened

  pub answer_stateless : (y : List ℕ) → associated_at m.domain o ≡ true → is_open o w.journal ≡ true → names_state m.domain y o ≡ false → IsRefusal m w (step.Answer x y) error.NotAState
  answer_stateless y is opened none = answer_opened y is opened ∙ ap (λ c. cond (not c) (Some error.NotAState) None) none

  pub answer_free : (y : List ℕ) → associated_at m.domain o ≡ true → is_open o w.journal ≡ true → names_state m.domain y o ≡ true → refusal m w (step.Answer x y) ≡ None
  answer_free y is opened state = answer_opened y is opened ∙ ap (λ c. cond (not c) (Some error.NotAState) None) state

  -- ---- kills

  abbrev kill_chain : Option ℕ → Option StepError
  kill_chain y = cond (is_none y) (Some error.UnknownObject) (cond (option_map_or (λ z. is_killed z w.journal) y false) (Some (error.AlreadyDead (option_map_or (λ p. p) (option_and_then (λ z. killed_at z w.journal) y) 0))) None)

  kill_found : (k : Option ℕ) → cond (is_some k) (Some (error.AlreadyDead (option_map_or (λ p. p) k 0))) None ≡ option_map kill_error (option_map kill.AlreadyDead k)
  kill_found None = refl
  kill_found (Some p) = refl

  kill_is : (k : ℕ) → refusal m w (step.Kill x k) ≡ option_map kill_error (kill_refusal w.journal o)
  kill_is k = ap kill_chain named ∙ kill_found (killed_at o w.journal)

  pub kill_free : (k : ℕ) → kill_refusal w.journal o ≡ None → refusal m w (step.Kill x k) ≡ None
  kill_free k free = kill_is k ∙ ap (option_map kill_error) free

  pub kill_refused : (k : ℕ) (e : KillError) → IsKillError (kill_refusal w.journal o) e → IsRefusal m w (step.Kill x k) (kill_error e)
  kill_refused k kill.Memory is = ap (λ y. not (is_none y) && true) named
  kill_refused k (kill.AlreadyDead p) is = kill_is k ∙ ap (option_map kill_error) is

-- ---- requests

-- the causes of the request itself come first, and `Memory` behind them
first_found : (a b c : Bool) (rest : Option StepError) (e : AddressError) → IsAddressError (cond a (Some address.UnknownObject) (cond b (Some address.UnknownAction) (cond c (Some address.BadArgs) None))) e
    → MatchBool (is_memory (step_error_of e)) ((not a && (not b && (not c && true))) ≡ true) (cond a (Some error.UnknownObject) (cond b (Some error.UnknownAction) (cond c (Some error.BadArgs) rest)) ≡ Some (step_error_of e))
first_found true b c rest address.UnknownObject h = refl
first_found true b c rest address.UnknownAction h = absurd (cc h)
first_found true b c rest address.BadArgs h = absurd (cc h)
first_found true b c rest address.Memory h = absurd (cc h)
first_found false true c rest address.UnknownObject h = absurd (cc h)
first_found false true c rest address.UnknownAction h = refl
first_found false true c rest address.BadArgs h = absurd (cc h)
first_found false true c rest address.Memory h = absurd (cc h)
first_found false false true rest address.UnknownObject h = absurd (cc h)
first_found false false true rest address.UnknownAction h = absurd (cc h)
first_found false false true rest address.BadArgs h = refl
first_found false false true rest address.Memory h = absurd (cc h)
first_found false false false rest address.UnknownObject h = absurd (cc h)
first_found false false false rest address.UnknownAction h = absurd (cc h)
first_found false false false rest address.BadArgs h = absurd (cc h)
first_found false false false rest address.Memory h = refl

-- where none of them stands, those behind them are left
rest_found : (a b c : Bool) (rest : Option StepError) → cond a (Some address.UnknownObject) (cond b (Some address.UnknownAction) (cond c (Some address.BadArgs) None)) ≡ None → cond a (Some error.UnknownObject) (cond b (Some error.UnknownAction) (cond c (Some error.BadArgs) rest)) ≡ rest
rest_found true b c rest h = absurd (cc h)
rest_found false true c rest h = absurd (cc h)
rest_found false false true rest h = absurd (cc h)
rest_found false false false rest h = refl

module _ (m : Setup) (w : World) (k : ℕ) (x y : List ℕ) (passed : List Passed) where
  -- the request was not made
  pub address_refused : (e : AddressError) → IsAddressError (address_refusal m.domain x y passed) e → IsRefusal m w (step.Request k x y passed) (step_error_of e)
  address_refused e h = first_found (is_none (object_named m.domain x)) (is_none (params_named m.domain x y)) (option_map_or (λ params. are_bad params passed) (params_named m.domain x y) false) _ e h

  module _ (o : ℕ) (made : address_refusal m.domain x y passed ≡ None) (named : object_named m.domain x ≡ Some o) where
    abbrev board_chain : Option ℕ → Option StepError
    board_chain z = cond (option_map_or (λ v. is_killed v w.journal) z false) (Some error.Dead) (cond (option_map_or (λ v. nat_le m.capacity (waiting v w)) z false) (Some error.Full) None)

    made_is : refusal m w (step.Request k x y passed) ≡ cond (is_killed o w.journal) (Some error.Dead) (cond (nat_le m.capacity (waiting o w)) (Some error.Full) None)
    made_is = rest_found (is_none (object_named m.domain x)) (is_none (params_named m.domain x y)) (option_map_or (λ params. are_bad params passed) (params_named m.domain x y) false) (board_chain (object_named m.domain x)) made ∙ ap board_chain named

    full_is : (n c : ℕ) → n ≤ c → nat_le c n ≡ (n == c)
    full_is n c le = grind (arith, nat_tests)

    request_found : (n : ℕ) → waiting o w ≡ n → n ≤ m.capacity → cond (is_killed o w.journal) (Some error.Dead) (cond (nat_le m.capacity (waiting o w)) (Some error.Full) None) ≡ option_map request_error (request_refusal w.journal o n m.capacity)
    request_found n is few =
        ap (λ c. cond (is_killed o w.journal) (Some error.Dead) (cond c (Some error.Full) None)) (ap (nat_le m.capacity) is ∙ full_is n m.capacity few) ∙ found (is_killed o w.journal) (n == m.capacity)
      where
        found : (d f : Bool) → cond d (Some error.Dead) (cond f (Some error.Full) None) ≡ option_map request_error (cond d (Some request.Dead) (cond f (Some request.Full) None))
        found true f = refl
        found false true = refl
        found false false = refl

    pub request_free : (n : ℕ) → waiting o w ≡ n → n ≤ m.capacity → request_refusal w.journal o n m.capacity ≡ None → refusal m w (step.Request k x y passed) ≡ None
    request_free n waits few free = made_is ∙ request_found n waits few ∙ ap (option_map request_error) free

    pub request_refused : (n : ℕ) (e : RequestRefusal) → waiting o w ≡ n → n ≤ m.capacity → IsRequestError (is_killed o w.journal) (request_refusal w.journal o n m.capacity) e → IsRefusal m w (step.Request k x y passed) (request_error e)
    request_refused n request.Memory waits few h = address_refused address.Memory made
    request_refused n request.Dead waits few h = made_is ∙ request_found n waits few ∙ ap (option_map request_error) h
    request_refused n request.Full waits few h = made_is ∙ request_found n waits few ∙ ap (option_map request_error) h
