-- Requests that name their object and their action, and why they are not made.
use Rattle.std.specs.Prelude.{◌≡◌, ◌<◌, ◌∷◌, ℕ, Bool, false, true, List, [], length, map, Option, Some, None, is_none}
use Rattle.std.specs.Option.{option_map_or, option_and_then}
use Rattle.sml_domain.specs.declared.value.Value.{Value}
use Rattle.sml_domain.specs.Domain.{Domain, Param}
use Rattle.sml_domain.specs.Lookups.{object_named, action_named, params_at}
use Rattle.sml_domain.specs.Completing.{Passed, complete}
use Rattle.smi_journal_entries.specs.declared.letter.Letter.{Letter}
use Rattle.smi_journal_entries.specs.declared.entry.Sender.TheVariants.{Operator}
use Rattle.smi_journal_entries.specs.declared.addressing.AddressError.{AddressError}
use Rattle.smi_journal_entries.specs.declared.addressing.AddressError.TheVariants.{UnknownObject, UnknownAction, BadArgs, Memory}
use Rattle.smi_journal_entries.specs.BadArguments.{are_bad}
use Rattle.smi_journal_entries.specs.Fits.{letter_fits}
use Rattle.smi_journal_entries.specs.Refusals.{first_standing}

-- the parameters of an action at an object, both by name
abbrev pub params_named : Domain → List ℕ → List ℕ → Option (List Param)
params_named d x y = option_and_then (λ o. option_and_then (params_at d o) (action_named d y)) (object_named d x)

-- the causes that a request itself may have for which it is not made, in their order
abbrev pub address_order : List AddressError
address_order = UnknownObject ∷ UnknownAction ∷ BadArgs ∷ []

-- whether a cause stands, of an object and an action by name and of what is passed
abbrev pub address_stands : Domain → List ℕ → List ℕ → List Passed → AddressError → Bool
address_stands d x y passed UnknownObject = is_none (object_named d x)
address_stands d x y passed UnknownAction = is_none (params_named d x y)
address_stands d x y passed BadArgs = option_map_or (λ params. are_bad params passed) (params_named d x y) false
address_stands d x y passed Memory = false

-- the first that stands
abbrev pub address_refusal : Domain → List ℕ → List ℕ → List Passed → Option AddressError
address_refusal d x y passed = first_standing (address_stands d x y passed) address_order

-- the error of a request that was not made: the cause that was found, or out of memory if no cause was found
abbrev pub IsAddressError : Option AddressError → AddressError → Type 0
IsAddressError found UnknownObject = found ≡ Some UnknownObject
IsAddressError found UnknownAction = found ≡ Some UnknownAction
IsAddressError found BadArgs = found ≡ Some BadArgs
IsAddressError found Memory = found ≡ None

-- a session's request is made of an object and an action by name and of what is passed: no cause stands, its
-- arguments are complete, and it fits the object
pub record IsAddressed (d : Domain) (session : ℕ) (x y : List ℕ) (passed : List Passed) (o a : ℕ) (args : List Value)
    (letter : Letter) : Type 0 where
  pub free : address_refusal d x y passed ≡ None
  pub is_object : object_named d x ≡ Some o
  pub within : o < length d.objects
  pub is_action : action_named d y ≡ Some a
  pub params : List Param
  pub has_params : params_at d o a ≡ Some params
  pub completes : map Some args ≡ complete params passed
  pub is_letter : letter ≡ record { sender = Operator session; number = 0; action = a; args = args }
  pub fits : letter_fits d o letter ≡ true
