-- What is read of lists whose items are behind commas or behind one another.
use Rattle.std.proofs.Common.{◌≡◌, ◌≤◌, ◌+◌, ℕ, Some, None, true, List, [], ◌∷◌, refl, ap, ◌∙◌, length, nat_lt, Result, Ok, Err, arith}
use Rattle.sml_tree.specs.declared.token_kind.TokenKind.{TokenKind}
use Rattle.sml_tree.specs.declared.token_kind.TokenKind.TheVariants.{Comma}
use Rattle.sml_tree.specs.Piece.{Piece}
use Rattle.sml_tree.specs.Syntax.{ClassParamData, ActionParamData, PassedData, WaitedData}
use Rattle.sml_tree.specs.Grammar.{Rule, rules, empty}
use Rattle.sml_tree.specs.Form as of
use Rattle.sml_tree.specs.Form.{B, P, Bone, Part, Value, Fine, needs}
use Rattle.sml_read_parts.specs.declared.fault.Stop.{Stop}
use Rattle.sml_read_parts.specs.declared.fault.Stop.TheVariants as stop
use Rattle.sml_read_parts.specs.Lists.{LeadsToClosed}
use Rattle.sml_read_parts.specs.Made.{MadeOf}
use Rattle.sml_read_parts.specs.Reads.{IfFault, LeadsOn, Passes, Reads, ReadsToken, Refusal, Stops}
use Rattle.sml_read_parts.specs.Stands.{Lacks, TokenIsTaken, ReadsLimited, Closes}
use Rattle.sml_read_parts.proofs.Lists.{read_end_to, read_err_to}
use Rattle.sml_tree.specs.declared.limits.TheConstants.{MAX_MEMBERS, MAX_NAMES}

-- a part that is left out, since its first token is not there
pub lacking : (n : Part) (r : Rule n) (none : Value n) (old : List Piece) → rules n ≡ r ∷ [] → empty n ≡ Some none → Lacks r.kind old → Passes n none old old
lacking n r none [] one can lacks g more k = rw can refl
lacking n r none (t ∷ ts) one can lacks g more k = rw (one, can) (rw lacks refl)

-- a token that is not there
pub token_lacked : (kind : TokenKind) (e : Stop) (old new : List Piece) → Lacks kind old → IfFault e (Refusal old) → ReadsToken kind old new (Err e)
token_lacked kind stop.Memory old new lacks fault = absurd fault
token_lacked kind (stop.Fault f) [] new lacks fault = λ g more mark k. rw fault refl
token_lacked kind (stop.Fault f) (t ∷ ts) new lacks fault = λ g more mark k. rw (fault, lacks) refl

-- a part begins with one of two tokens, and neither is there
pub both_lacked : (n : Part) (a b : Rule n) (e : Stop) (old : List Piece) → rules n ≡ a ∷ b ∷ [] → empty n ≡ None → Lacks a.kind old → Lacks b.kind old → IfFault e (Refusal old) → Stops n old e
both_lacked n a b stop.Memory old two full first second fault = absurd fault
both_lacked n a b (stop.Fault f) [] two full first second fault = λ g more k. rw (full, fault) refl
both_lacked n a b (stop.Fault f) (t ∷ ts) two full first second fault = λ g more k. rw (two, full, fault) (rw (first, second) refl)

-- an item behind its comma
pub class_param_more : (n : ℕ) (x : ClassParamData) (old mid new : List Piece) → TokenIsTaken Comma old mid → Passes (of.ClassParam n) x mid new
    → LeadsOn (of.MoreClassParam n) (of.MoreClassParam (n + 1)) (λ v. x ∷ v) old new
class_param_more n x old mid new taken passes g more k = rw (taken.1, taken.2) (passes g _ _)

pub action_param_more : (n : ℕ) (x : ActionParamData) (old mid new : List Piece) → TokenIsTaken Comma old mid → Passes (of.ActionParam n) x mid new
    → LeadsOn (of.MoreActionParam n) (of.MoreActionParam (n + 1)) (λ v. x ∷ v) old new
action_param_more n x old mid new taken passes g more k = rw (taken.1, taken.2) (passes g _ _)

pub passed_more : (n : ℕ) (x : PassedData) (old mid new : List Piece) → TokenIsTaken Comma old mid → Passes (of.Passed n) x mid new
    → LeadsOn (of.MorePassedArg n) (of.MorePassedArg (n + 1)) (λ v. x ∷ v) old new
passed_more n x old mid new taken passes g more k = rw (taken.1, taken.2) (passes g _ _)

pub waited_more : (n : ℕ) (x : WaitedData) (old mid new : List Piece) → TokenIsTaken Comma old mid → Passes (of.Waited n) x mid new
    → LeadsOn (of.MoreWaited n) (of.MoreWaited (n + 1)) (λ v. x ∷ v) old new
waited_more n x old mid new taken passes g more k = rw (taken.1, taken.2) (passes g _ _)

pub member_more : (n : ℕ) (w : List ℕ) (old mid new : List Piece) → TokenIsTaken Comma old mid → nat_lt n MAX_MEMBERS ≡ true → ReadsLimited MAX_MEMBERS n mid new (Ok w)
    → LeadsOn (of.MoreMember n) (of.MoreMember (n + 1)) (λ v. w ∷ v) old new
member_more n w old mid new taken room named g more k = rw (taken.1, named.1, taken.2, named.3, room) (rw named.2 refl)

pub name_more : (n : ℕ) (w : List ℕ) (old mid new : List Piece) → TokenIsTaken Comma old mid → nat_lt n MAX_NAMES ≡ true → ReadsLimited MAX_NAMES n mid new (Ok w)
    → LeadsOn (of.MoreName n) (of.MoreName (n + 1)) (λ v. w ∷ v) old new
name_more n w old mid new taken room named g more k = rw (taken.1, named.1, taken.2, named.3, room) (rw named.2 refl)

-- an item that is refused behind its comma
pub class_param_refused : (n : ℕ) (old mid : List Piece) (e : Stop) → TokenIsTaken Comma old mid → Stops (of.ClassParam n) mid e → Stops (of.MoreClassParam n) old e
class_param_refused n old mid stop.Memory taken a = tt
class_param_refused n old mid (stop.Fault f) taken a = λ g more k. rw (taken.1, taken.2) (a g _ _)

pub action_param_refused : (n : ℕ) (old mid : List Piece) (e : Stop) → TokenIsTaken Comma old mid → Stops (of.ActionParam n) mid e → Stops (of.MoreActionParam n) old e
action_param_refused n old mid stop.Memory taken a = tt
action_param_refused n old mid (stop.Fault f) taken a = λ g more k. rw (taken.1, taken.2) (a g _ _)

pub passed_refused : (n : ℕ) (old mid : List Piece) (e : Stop) → TokenIsTaken Comma old mid → Stops (of.Passed n) mid e → Stops (of.MorePassedArg n) old e
passed_refused n old mid stop.Memory taken a = tt
passed_refused n old mid (stop.Fault f) taken a = λ g more k. rw (taken.1, taken.2) (a g _ _)

pub waited_refused : (n : ℕ) (old mid : List Piece) (e : Stop) → TokenIsTaken Comma old mid → Stops (of.Waited n) mid e → Stops (of.MoreWaited n) old e
waited_refused n old mid stop.Memory taken a = tt
waited_refused n old mid (stop.Fault f) taken a = λ g more k. rw (taken.1, taken.2) (a g _ _)

pub member_refused : (n : ℕ) (old mid new : List Piece) (e : Stop) → TokenIsTaken Comma old mid → ReadsLimited MAX_MEMBERS n mid new (Err e) → Stops (of.MoreMember n) old e
member_refused n old mid new stop.Memory taken a = tt
member_refused n old mid new (stop.Fault f) taken a = λ g more k. rw (taken.1, taken.2) (a g _ _)

pub name_refused : (n : ℕ) (old mid new : List Piece) (e : Stop) → TokenIsTaken Comma old mid → ReadsLimited MAX_NAMES n mid new (Err e) → Stops (of.MoreName n) old e
name_refused n old mid new stop.Memory taken a = tt
name_refused n old mid new (stop.Fault f) taken a = λ g more k. rw (taken.1, taken.2) (a g _ _)

-- nothing was made of a name behind its comma
pub member_not_made : {X : Type 0} (Q : List ℕ → X → Type 0) (n : ℕ) (r : Result (List ℕ) Stop) (made : Result X Stop) (old mid new : List Piece) (e : Stop) → made ≡ Err e → MadeOf r made Q → TokenIsTaken Comma old mid
    → ReadsLimited MAX_MEMBERS n mid new r → Stops (of.MoreMember n) old e
member_not_made Q n r (Ok x) old mid new e none is taken a = absurd (cc none)
member_not_made Q n (Ok w) (Err s) old mid new e none is taken a = let same : e ≡ stop.Memory = cc (none, is) in rw same tt
member_not_made Q n (Err s') (Err s) old mid new e none is taken a = let same : e ≡ s' = cc (none, is) in rw same (member_refused n old mid new s' taken a)

pub name_not_made : {X : Type 0} (Q : List ℕ → X → Type 0) (n : ℕ) (r : Result (List ℕ) Stop) (made : Result X Stop) (old mid new : List Piece) (e : Stop) → made ≡ Err e → MadeOf r made Q → TokenIsTaken Comma old mid
    → ReadsLimited MAX_NAMES n mid new r → Stops (of.MoreName n) old e
name_not_made Q n r (Ok x) old mid new e none is taken a = absurd (cc none)
name_not_made Q n (Ok w) (Err s) old mid new e none is taken a = let same : e ≡ stop.Memory = cc (none, is) in rw same tt
name_not_made Q n (Err s') (Err s) old mid new e none is taken a = let same : e ≡ s' = cc (none, is) in rw same (name_refused n old mid new s' taken a)

-- what is behind others is refused, in a list that a sign closes
pub read_refused_to : (n mid : Part) (close : TokenKind) (f : Value mid → Value n) (old middle : List Piece) (e : Stop) → LeadsToClosed n mid close f old middle → Stops mid middle e → Stops n old e
read_refused_to n mid close f old middle stop.Memory a b = tt
read_refused_to n mid close f old middle (stop.Fault x) a b = λ g more k. a g more k ∙ b g (B close ∷ more) (λ v. needs close Fine (λ _. k (f v)))

-- nothing more is there, except the sign
pub list_closed : {X : Type 0} (n next : Part) (close : TokenKind) (view : X → Value n) (f : Value next → Value n) (none : Value next) (x : X) (r : Result X Stop) (old mid new : List Piece)
    → length mid ≤ length old → LeadsToClosed n next close f old mid → Passes next none mid mid → f none ≡ view x → Closes close mid new x r → Reads n view old new r
list_closed n next close view f none x (Ok y) old mid new le a b is h =
    let taken = h.1 in
    (omega (arith, le, ap length taken.1), rw h.0 (read_end_to n next close f none (view x) old mid mid new taken.0 a b taken.1 taken.2 is))
list_closed n next close view f none x (Err e) old mid new le a b is h = read_err_to n next close f none old mid mid new e a b h
