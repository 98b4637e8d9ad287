-- What a session posts, why it is refused, and what it notes.
use Rattle.std.specs.Prelude.{◌≡◌, ℕ, List, length, map, Option, Some, None, Result, Ok, Err, false}
use Rattle.sml_domain.specs.declared.value.Value.{Value}
use Rattle.sml_domain.specs.Domain.{Domain, Param}
use Rattle.sml_domain.specs.Lookups.{object_named, action_named, params_at}
use Rattle.sml_domain.specs.Completing.{Passed, complete}
use Rattle.smi_journal_entries.specs.declared.addressing.AddressError.{AddressError}
use Rattle.smi_journal_entries.specs.declared.addressing.AddressError.TheVariants as address
use Rattle.smi_journal_entries.specs.Addressing.{address_refusal}
use Rattle.smi_run_runtime.specs.declared.errors.PostError.{PostError}
use Rattle.smi_run_runtime.specs.declared.errors.PostError.TheVariants.{UnknownObject, UnknownAction, BadArgs, Memory, Dead, Full}
use Rattle.smi_run_runtime.specs.Sessions.{SessionBook, told_at, with_told, with_receipt}

-- why a request that was not made is not posted
abbrev pub post_error_of : AddressError → PostError
post_error_of address.UnknownObject = UnknownObject
post_error_of address.UnknownAction = UnknownAction
post_error_of address.BadArgs = BadArgs
post_error_of address.Memory = Memory

-- the error of a post: the cause that was found; or if no cause was found, out of memory, a killed object or a full
-- mailbox
abbrev pub IsPostError : Option AddressError → PostError → Type 0
IsPostError found UnknownObject = found ≡ Some address.UnknownObject
IsPostError found UnknownAction = found ≡ Some address.UnknownAction
IsPostError found BadArgs = found ≡ Some address.BadArgs
IsPostError found Memory = found ≡ None
IsPostError found (Dead p) = found ≡ None
IsPostError found Full = found ≡ None

-- what sending a request to an object leaves in its session
abbrev pub LeavesOfSend : ℕ → ℕ → List Value → SessionBook → Result ℕ PostError → SessionBook → Type 0
LeavesOfSend o a args s (Ok n) s2 =
    (n ≡ length (told_at s o)) × (s2 ≡ with_told s o (record { number = n; action = a; args = args }))
LeavesOfSend o a args s (Err UnknownObject) s2 = ⊥
LeavesOfSend o a args s (Err UnknownAction) s2 = ⊥
LeavesOfSend o a args s (Err BadArgs) s2 = ⊥
LeavesOfSend o a args s (Err Memory) s2 = s2 ≡ s
LeavesOfSend o a args s (Err (Dead p)) s2 = s2 ≡ with_receipt s o p false
LeavesOfSend o a args s (Err Full) s2 = s2 ≡ s

-- a request is accepted: no cause stands, its number is the count of those that the session was told are accepted at
-- the object before it, and it is noted there with its complete arguments
pub record AcceptsPost (d : Domain) (x y : List ℕ) (given : List Passed) (s s2 : SessionBook) (n : ℕ) : Type 0 where
  pub free : address_refusal d x y given ≡ None
  pub object : ℕ
  pub is_object : object_named d x ≡ Some object
  pub action : ℕ
  pub is_action : action_named d y ≡ Some action
  pub params : List Param
  pub has_params : params_at d object action ≡ Some params
  pub args : List Value
  pub completes : map Some args ≡ complete params given
  pub number : n ≡ length (told_at s object)
  pub after : s2 ≡ with_told s object (record { number = n; action = action; args = args })

-- what a refused post leaves in its session: a receipt if the object is dead, and else nothing
abbrev pub LeavesOfRefusal : Domain → List ℕ → SessionBook → SessionBook → PostError → Type 0
LeavesOfRefusal d x s s2 UnknownObject = s2 ≡ s
LeavesOfRefusal d x s s2 UnknownAction = s2 ≡ s
LeavesOfRefusal d x s s2 BadArgs = s2 ≡ s
LeavesOfRefusal d x s s2 Memory = s2 ≡ s
LeavesOfRefusal d x s s2 (Dead p) = (o : ℕ) × (object_named d x ≡ Some o) × (s2 ≡ with_receipt s o p false)
LeavesOfRefusal d x s s2 Full = s2 ≡ s
