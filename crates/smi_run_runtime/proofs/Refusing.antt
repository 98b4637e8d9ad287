-- Why a request was not posted.
use Rattle.std.proofs.Common.{◌≡◌, ℕ, List, Option, None, Result, Ok, Err, IfErr, refl, sym, subst}
use Rattle.std.specs.Result.{IsErrAnd}
use Rattle.sml_domain.specs.declared.value.Value.{Value}
use Rattle.sml_domain.specs.Domain.{Domain}
use Rattle.smi_journal_entries.specs.declared.addressing.AddressError.{AddressError}
use Rattle.smi_journal_entries.specs.declared.addressing.AddressError.TheVariants as address
use Rattle.smi_journal_entries.specs.Addressing.{IsAddressError}
use Rattle.smi_run_runtime.specs.declared.errors.PostError.{PostError}
use Rattle.smi_run_runtime.specs.declared.errors.PostError.TheVariants.{UnknownObject, UnknownAction, BadArgs, Memory, Dead, Full}
use Rattle.smi_run_runtime.specs.Posts.{LeavesOfRefusal, LeavesOfSend, IsPostError, post_error_of}
use Rattle.smi_run_runtime.specs.Sessions.{SessionBook}

not_posted : (found : Option AddressError) (why : AddressError) → IsAddressError found why → IsPostError found (post_error_of why)
not_posted found address.UnknownObject is = is
not_posted found address.UnknownAction is = is
not_posted found address.BadArgs is = is
not_posted found address.Memory is = is

nothing_left : (d : Domain) (x : List ℕ) (s : SessionBook) (why : AddressError) → LeavesOfRefusal d x s s (post_error_of why)
nothing_left d x s address.UnknownObject = refl
nothing_left d x s address.UnknownAction = refl
nothing_left d x s address.BadArgs = refl
nothing_left d x s address.Memory = refl

-- what was not made is refused for its own cause
pub refused_made : (found : Option AddressError) (why : AddressError) (r : Result ℕ PostError) → IsAddressError found why → IsErrAnd r (λ e. e ≡ post_error_of why) → IfErr r (IsPostError found)
refused_made found why (Ok n) is gives = tt
refused_made found why (Err e) is gives = subst (IsPostError found) (sym gives) (not_posted found why is)

-- and it leaves nothing
pub left_made : (d : Domain) (x : List ℕ) (s : SessionBook) (why : AddressError) (r : Result ℕ PostError) → IsErrAnd r (λ e. e ≡ post_error_of why) → IfErr r (LeavesOfRefusal d x s s)
left_made d x s why (Ok n) gives = tt
left_made d x s why (Err e) gives = subst (LeavesOfRefusal d x s s) (sym gives) (nothing_left d x s why)

-- what was made was refused for no cause of its own
pub refused_sent : (found : Option AddressError) → found ≡ None → (o a : ℕ) (args : List Value) (s s2 : SessionBook) (r : Result ℕ PostError) → LeavesOfSend o a args s r s2 → IfErr r (IsPostError found)
refused_sent found free o a args s s2 (Ok n) leaves = tt
refused_sent found free o a args s s2 (Err UnknownObject) leaves = absurd leaves
refused_sent found free o a args s s2 (Err UnknownAction) leaves = absurd leaves
refused_sent found free o a args s s2 (Err BadArgs) leaves = absurd leaves
refused_sent found free o a args s s2 (Err Memory) leaves = free
refused_sent found free o a args s s2 (Err (Dead p)) leaves = free
refused_sent found free o a args s s2 (Err Full) leaves = free
