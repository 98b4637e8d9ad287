-- Environments keep the kinds of parameters, and arguments have them.
use Rattle.std.proofs.Common.{◌≡◌, ℕ, zero, suc, Bool, true, false, List, [], ◌∷◌, Option, Some, None, map, option_map, slice_set, get_or, All, sym, ◌∙◌, subst}
use Rattle.std.specs.Prelude.{MatchBool, IsSomeAnd, IfSome}
use Rattle.std.specs.List.{filter_map, AllZip}
use Rattle.std.specs.Option.{option_and_then, option_map_or}
use Rattle.std.proofs.lemmas.List.Elements.{All-cons, All-nil, All-map, All-contains}
use Rattle.sml_tree.specs.declared.file.Kind.{Kind}
use Rattle.sml_domain.specs.declared.value.Value.{Value}
use Rattle.sml_domain.specs.Values.{kind_of}
use Rattle.sml_domain.specs.Names.{AreDistinct}
use Rattle.sml_domain.specs.Program.{Operand, Fixed, Own, Given, Argument, Target, ToOne, ToMembers, Program, Nothing, SetThen, SendThen, SendNoneThen, IfThen, EndIn, TerminateIn, WaitThen, ChangeThen}
use Rattle.sml_domain.specs.Domain.{Domain, Class, Signature, Param}
use Rattle.sml_domain.specs.Lookups.{class_at, params_at, may_at, is_signature, signature_in, params_of_action}
use Rattle.sml_domain.specs.Completing.{complete}
use Rattle.sml_domain.specs.Fits.{kind_at, HasKindOf, ArgumentsFit, RequestFits, SendFits, ProgramFits}
use Rattle.sml_domain.specs.Sound.{ParamFits, ClassFits, SignatureFits, IsSound, name_of_param}
use Rattle.sml_domain.specs.Laws.{passed_as, KeepsKinds, IsFilled, CompletesWithKinds}
use Rattle.sml_domain.proofs.Finds.{found}
use Rattle.sml_domain.proofs.Ranges.{class_fits}
use Rattle.smi_journal_entries.specs.Sets.{members_in}
use Rattle.smi_meaning.specs.Environment.{Env, value_in, value_of, with_set, ValuesFit, EnvFits}
use Rattle.smi_meaning.specs.Conditions.{is_true_over}
use Rattle.smi_meaning.specs.Meaning.{Move, Outcome, Through, To, Means, Goes, itself, values_for, post_to, wanted}
use Rattle.smi_meaning.specs.Laws.{PostFits, AreAllowedMembers}
use Rattle.smi_meaning.proofs.Picked.{same_some}

-- a value at a place has the kind of the parameter there
kind_in : (params : List Param) (values : List Value) (p : ℕ) (kind : Kind) → ValuesFit values params → kind_at params p ≡ Some kind → kind_of (value_in values p) ≡ kind
kind_in [] values p kind h e = absurd (cc e)
kind_in (x ∷ params) [] p kind h e = absurd h
kind_in (x ∷ params) (v ∷ values) zero kind h e = h.0 ∙ same_some x.kind kind e
kind_in (x ∷ params) (v ∷ values) (suc p) kind h e = kind_in params values p kind h.1 e

pub operands_have_kinds : (own given : List Param) (env : Env) → EnvFits own given env → KeepsKinds own given (value_of env)
operands_have_kinds own given env h (Fixed v) kind e = same_some (kind_of v) kind e
operands_have_kinds own given env h (Own p) kind e = kind_in own env.own p kind h.own_fit e
operands_have_kinds own given env h (Given p) kind e = kind_in given env.given p kind h.given_fit e

-- values keep their kinds where one of the same kind is put among them
set_fits : (params : List Param) (values : List Value) (p : ℕ) (v : Value) (kind : Kind) → ValuesFit values params → kind_at params p ≡ Some kind → kind_of v ≡ kind → ValuesFit (slice_set values p v) params
set_fits [] values p v kind h e is = absurd (cc e)
set_fits (x ∷ params) [] p v kind h e is = absurd h
set_fits (x ∷ params) (w ∷ values) zero v kind h e is = (is ∙ sym (same_some x.kind kind e), h.1)
set_fits (x ∷ params) (w ∷ values) (suc p) v kind h e is = (h.0, set_fits params values p v kind h.1 e is)

pub env_set : (own given : List Param) (env : Env) (p : ℕ) (x : Operand) → HasKindOf own given (kind_at own p) x → EnvFits own given env → EnvFits own given (with_set env p (value_of env x))
env_set own given env p x k h =
    record {
      own_fit = set_fits own env.own p (value_of env x) k.kind h.own_fit k.param_is (operands_have_kinds own given env h x k.kind k.value_is);
      given_fit = h.given_fit;
    }

-- what goes on after an if keeps them
goes_keeps : (d : Domain) (own given : List Param) (rest : Program) (r1 : Outcome) (e1 : Env) (ms : List Move) (e2 : Env) (r : Outcome) → ((ns : List Move) → EnvFits own given e1 → Means d rest e1 ns e2 r → EnvFits own given e2)
    → EnvFits own given e1 → Goes r1 e1 ms e2 r (Means d rest) → EnvFits own given e2
goes_keeps d own given rest Through e1 ms e2 r ih h g = ih ms h g
goes_keeps d own given rest (To s) e1 ms e2 r ih h g = subst (EnvFits own given) (sym g.1) h

pub branch_keeps : (d : Domain) (own given : List Param) (t : Bool) (p q : Program) (env : Env) (ms : List Move) (e1 : Env) (r1 : Outcome) → (Means d p env ms e1 r1 → EnvFits own given e1) → (Means d q env ms e1 r1 → EnvFits own given e1)
    → MatchBool t (Means d p env ms e1 r1) (Means d q env ms e1 r1) → EnvFits own given e1
branch_keeps d own given true p q env ms e1 r1 f g h = f h
branch_keeps d own given false p q env ms e1 r1 f g h = g h

pub meanings_keep_kinds : (d : Domain) (c : Class) (given : List Param) (b : Program) (env : Env) (ms : List Move) (env2 : Env) (r : Outcome) → ProgramFits d c given b → EnvFits c.params given env → Means d b env ms env2 r → EnvFits c.params given env2
meanings_keep_kinds d c given Nothing env ms env2 r f h m = subst (EnvFits c.params given) (sym m.1) h
meanings_keep_kinds d c given (EndIn s) env ms env2 r f h m = subst (EnvFits c.params given) (sym m.1) h
meanings_keep_kinds d c given (TerminateIn s) env ms env2 r f h m = subst (EnvFits c.params given) (sym m.1) h
meanings_keep_kinds d c given (SetThen p x rest) env ms env2 r f h m =
    meanings_keep_kinds d c given rest (with_set env p (value_of env x)) m.0 env2 r f.1 (env_set c.params given env p x f.0 h) m.2
meanings_keep_kinds d c given (SendThen t a args rest) env ms env2 r f h m =
    meanings_keep_kinds d c given rest env m.1 env2 r f.1 h m.4
meanings_keep_kinds d c given (SendNoneThen set rest) env ms env2 r f h m =
    meanings_keep_kinds d c given rest env m.1 env2 r f.2 h m.4
meanings_keep_kinds d c given (IfThen t p q rest) env ms env2 r f h m =
    let first = branch_keeps d c.params given (is_true_over (members_in d m.0.sets) m.0.readings t) p q env m.1 m.3 m.4
    (λ u. meanings_keep_kinds d c given p env m.1 m.3 m.4 f.1 h u) (λ u. meanings_keep_kinds d c given q env m.1 m.3 m.4 f.2 h u) m.7 in
    goes_keeps d c.params given rest m.4 m.3 m.2 env2 r (λ ns e u. meanings_keep_kinds d c given rest m.3 ns env2 r f.3 e u) first m.8
meanings_keep_kinds d c given (WaitThen names rest) env ms env2 r f h m =
    meanings_keep_kinds d c given rest env m.1 env2 r f.1 h m.4
meanings_keep_kinds d c given (ChangeThen add o set rest) env ms env2 r f h m =
    meanings_keep_kinds d c given rest env m.0 env2 r f.1 h m.2

-- values that are filled have the kinds of their parameters
filled_fit : (params : List Param) (values : List (Option Value)) → AllZip IsFilled params values → ValuesFit (filter_map itself values) params
filled_fit [] [] h = tt
filled_fit [] (v ∷ vs) h = absurd h
filled_fit (p ∷ ps) [] h = absurd h
filled_fit (p ∷ ps) (None ∷ vs) h = absurd h.0
filled_fit (p ∷ ps) (Some v ∷ vs) h = (h.0, filled_fit ps vs h.1)

pub arguments_have_kinds : CompletesWithKinds → (own given params : List Param) (args : List Argument) (env : Env) → EnvFits own given env → All ParamFits params → AreDistinct (map name_of_param params) → ArgumentsFit own given args params → ValuesFit (values_for params env args) params
arguments_have_kinds law own given params args env h fit apart whole =
    filled_fit params (complete params (map (passed_as (value_of env)) args)) (law own given params args (value_of env) (operands_have_kinds own given env h) fit apart whole)

-- the parameters of an action of a class are as they should be
pub record AreParams (params : List Param) : Type 0 where
  pub fit : All ParamFits params
  pub apart : AreDistinct (map name_of_param params)

pub signature_params : (d : Domain) (a : ℕ) (c : Option Class) → IfSome c (ClassFits d) → IfSome (option_map params_of_action (option_and_then (signature_in a) c)) AreParams
signature_params d a None h = tt
signature_params d a (Some c) h = go (signature_in a c) (found (SignatureFits d) (is_signature a) c.signatures h.signatures)
  where
    go : (o : Option Signature) → IfSome o (λ x. SignatureFits d x × (is_signature a x ≡ true)) → IfSome (option_map params_of_action o) AreParams
    go None h = tt
    go (Some x) h = record { fit = h.0.params; apart = h.0.apart }

-- a request that fits has arguments of its kinds
request_fits : CompletesWithKinds → (d : Domain) (own given : List Param) (env : Env) (a : ℕ) (args : List Argument) (o : ℕ) → IsSound d → RequestFits d own given a args o → EnvFits own given env → PostFits d (post_to d a args env o)
request_fits law d own given env a args o sound fits h = go (params_at d o a) (signature_params d a (class_at d o) (class_fits d o sound)) fits
  where
    go : (params : Option (List Param)) → IfSome params AreParams → IsSomeAnd params (ArgumentsFit own given args) → IsSomeAnd params (ValuesFit (values_for (option_map_or (λ ps. ps) params []) env args))
    go None p f = absurd f
    go (Some params) p f = arguments_have_kinds law own given params args env h p.fit p.apart f

pub wanted_fit : CompletesWithKinds → (d : Domain) (members : ℕ → List ℕ) (own given : List Param) (env : Env) (target : Target) (a : ℕ) (args : List Argument) → IsSound d → AreAllowedMembers d members → SendFits d own given a args target → EnvFits own given env → All (PostFits d) (wanted d members target a args env)
wanted_fit law d members own given env (ToOne o) a args sound within fits h =
    All-cons (PostFits d) (post_to d a args env o) [] (request_fits law d own given env a args o sound fits.1 h) (All-nil (PostFits d))
wanted_fit law d members own given env (ToMembers set) a args sound within fits h =
    All-map (PostFits d) (post_to d a args env) (members set)
    (λ k x lt. request_fits law d own given env a args (get_or (members set) k x) sound (All-contains (RequestFits d own given a args) (may_at d set) (get_or (members set) k x) fits.1 (within set k x lt)) h)
