-- What fits a domain fits one whose objects, sets and actions are the same, and whose classes are alike.
use Rattle.std.proofs.Common.{◌≡◌, ◌<◌, ℕ, true, List, [], Option, Some, None, All, IsSomeAnd, length, map, slice_get, slice_index_or, option_map, is_some, refl, sym, ap, ◌∙◌, subst}
use Rattle.std.specs.List.{Contains}
use Rattle.sml_tree.specs.declared.file.Kind.{Kind}
use Rattle.sml_domain.specs.Program.{Operand, Fixed, Own, Given, Argument, Target, ToOne, ToMembers, Subject, OfOne, OfEach, OfAny, Formula, Both, Either, Not, Test, Program, Nothing, SetThen, SendThen, SendNoneThen, IfThen, EndIn, TerminateIn, WaitThen, ChangeThen}
use Rattle.sml_domain.specs.Domain.{Domain, Class, State, Action, Signature, Param}
use Rattle.sml_domain.specs.Lookups.{params_at, may_at, has_state, tree_of_block, signature_in}
use Rattle.sml_domain.specs.Fits.{param_kind, kind_at, kind_named, operand_kind, HasKindOf, ArgumentFits, ArgumentsFit, RequestFits, SendFits, ArgumentHasKind, DoFits, AskedFits, IsStateName, FormulaFits, ChangeFits, ProgramFits}
use Rattle.sml_domain.specs.Sound.{ActionFits, StateFits, SignatureFits, FitsClass, TakesParams}
use Rattle.sml_domain.proofs.Blocks.{got_map}
use Rattle.sml_domain.specs.OtherRows.{with_rows}
use Rattle.sml_outset.proofs.Alike.{IsLike, same_has, same_signature}

pub some_more : {X : Type 0} (P Q : X → Type 0) (m : Option X) → ((x : X) → P x → Q x) → IsSomeAnd m P → IsSomeAnd m Q
some_more P Q None more h = h
some_more P Q (Some x) more h = more x h

-- two domains with the same state names, action names and blocks, in which the same may be sent and asked
pub record IsRoom (d e : Domain) : Type 0 where
  pub objects : length e.objects ≡ length d.objects
  pub groups : length e.groups ≡ length d.groups
  pub states : e.states ≡ d.states
  pub actions : e.actions ≡ d.actions
  pub blocks : e.blocks ≡ d.blocks
  pub takes : (o a : ℕ) → params_at e o a ≡ params_at d o a
  pub may : (set : ℕ) → may_at e set ≡ may_at d set

module _ (d e : Domain) (room : IsRoom d e) where
  object_there : (o : ℕ) → o < length d.objects → o < length e.objects
  object_there o lt = subst (λ n. o < n) (sym room.objects) lt

  set_there : (g : ℕ) → g < length d.groups → g < length e.groups
  set_there g lt = subst (λ n. g < n) (sym room.groups) lt

  asked_fits : (a : Subject) → AskedFits d a → AskedFits e a
  asked_fits (OfOne o) h = object_there o h
  asked_fits (OfEach g) h = set_there g h
  asked_fits (OfAny g) h = set_there g h

  formula_fits : (f : Formula) → FormulaFits d f → FormulaFits e f
  formula_fits (Both f g) h = (formula_fits f h.0, formula_fits g h.1)
  formula_fits (Either f g) h = (formula_fits f h.0, formula_fits g h.1)
  formula_fits (Not f) h = formula_fits f h
  formula_fits (Test asked negated states) h =
      (asked_fits asked h.0, λ k s lt. subst (λ (names : List (List ℕ)). slice_index_or states k s < length names) (sym room.states) (h.1 k s lt))

  change_fits : (add : _) (member set : ℕ) → ChangeFits d add member set → ChangeFits e add member set
  change_fits add member set h = record {
    member_is = object_there member h.member_is;
    set_is = set_there set h.set_is;
    may = λ is. subst (λ xs. Contains xs member) (sym (room.may set)) (h.may is);
  }

  module _ (c k : Class) (like : IsLike c k) (given : List Param) where
    kind_same : (p : ℕ) → kind_at k.params p ≡ kind_at c.params p
    kind_same p =
        sym (got_map param_kind k.params p) ∙ ap (λ kinds. slice_get kinds p) like.kinds ∙ got_map param_kind c.params p

    operand_same : (v : Operand) → operand_kind k.params given v ≡ operand_kind c.params given v
    operand_same (Fixed v) = refl
    operand_same (Own p) = kind_same p
    operand_same (Given p) = refl

    has_kind : (m n : Option Kind) (v : Operand) → n ≡ m → HasKindOf c.params given m v → HasKindOf k.params given n v
    has_kind m n v same h = record {
      kind = h.kind;
      param_is = same ∙ h.param_is;
      value_is = operand_same v ∙ h.value_is;
    }

    arguments_fit : (args : List Argument) (params : List Param) → ArgumentsFit c.params given args params → ArgumentsFit k.params given args params
    arguments_fit args params h = record {
      passed = λ i a lt. has_kind _ _ _ refl (h.passed i a lt);
      whole = h.whole;
    }

    request_fits : (action : ℕ) (args : List Argument) (o : ℕ) → RequestFits d c.params given action args o → RequestFits e k.params given action args o
    request_fits action args o h =
        subst (λ m. IsSomeAnd m (ArgumentsFit k.params given args)) (sym (room.takes o action))
        (some_more (ArgumentsFit c.params given args) (ArgumentsFit k.params given args) (params_at d o action) (arguments_fit args) h)

    send_fits : (action : ℕ) (args : List Argument) (t : Target) → SendFits d c.params given action args t → SendFits e k.params given action args t
    send_fits action args (ToOne o) h = (object_there o h.0, request_fits action args o h.1)
    send_fits action args (ToMembers set) h =
        (set_there set h.0, subst (All (RequestFits e k.params given action args)) (sym (room.may set)) (λ i a lt. request_fits action args _ (h.1 i a lt)))

    do_fits : (action : ℕ) (args : List Argument) (t : Target) → DoFits d c.params given action args t → DoFits e k.params given action args t
    do_fits action args t h = record {
      known = subst (λ names. action < length names) (sym room.actions) h.known;
      apart = h.apart;
      kinds = λ i a lt. ap is_some (operand_same _) ∙ h.kinds i a lt;
      targets = send_fits action args t h.targets;
    }

    pub program_fits : (p : Program) → ProgramFits d c given p → ProgramFits e k given p
    program_fits Nothing h = h
    program_fits (SetThen p v rest) h = (has_kind _ _ v (kind_same p) h.0, program_fits rest h.1)
    program_fits (SendThen t action args rest) h = (do_fits action args t h.0, program_fits rest h.1)
    program_fits (SendNoneThen set rest) h = (set_there set h.0, room.may set ∙ h.1, program_fits rest h.2)
    program_fits (IfThen f p q rest) h = (formula_fits f h.0, program_fits p h.1, program_fits q h.2, program_fits rest h.3)
    program_fits (EndIn s) h = same_has c k s like ∙ h
    program_fits (TerminateIn s) h = same_has c k s like ∙ h
    program_fits (WaitThen names rest) h = (λ i a lt. asked_fits _ (h.0 i a lt), program_fits rest h.1)
    program_fits (ChangeThen add member set rest) h = (change_fits add member set h.0, program_fits rest h.1)
