-- What the table of the grammar has: the rules of a part begin with different tokens, and no token that may follow a
-- part begins it.
use Rattle.std.proofs.Common.{◌≡◌, ℕ, zero, suc, List, [], ◌∷◌, refl, sym, subst, get_or, Option, Some, None, Bool, true, false, nat_eq, ◌&&◌, ◌||◌, not}
use Rattle.sml_tree.specs.declared.token_kind.TokenKind.{TokenKind}
use Rattle.sml_tree.specs.declared.token_kind.TokenKind.TheVariants.{Class, Object, ObjectSet, State, Action, Parameters, IntKind, StringKind, Do, If, Then, Else, Endif, Set, MoveTo, TerminateAction, Wait, Insert, Remove, InState, NotInState, AllIn, AnyIn, And, Or, Not, InitialState, DeadState, Comma, Equals, OpenBracket, CloseBracket, OpenBrace, CloseBrace, Slash, Name, Int, Str}
use Rattle.sml_tree.specs.Form as of
use Rattle.sml_tree.specs.Form.{Bone, B, P, Form, Mark, Part, Family, family, Value, Files, ClassMarks, ClassParamLists, Sorts, ClassParams, MoreClassParams, Literals, States, StateMarks, FirstMarks, InitialMarks, DeadMarks, Actions, ActionParamLists, ActionParams, MoreActionParams, Defaults, Blocks, ArgLists, PassedArgs, MorePassed, Waiteds, MoreWaiteds, Everys, Args, Branches, Arms, Elses, Conds, Conjs, Units, MoreAnds, MoreOrs, Senses, StateLists, NameLists, MoreNames, MemberLists, MoreMembers}
use Rattle.sml_tree.specs.Grammar.{Rule, rules, empty}
use Rattle.sml_read_parts.specs.Machine.{code, chosen}
use Rattle.sml_read_parts.proofs.Codes.{kinds, kind_at_code}

abbrev pub is_there : {A : Type 0} → Option A → Bool
is_there None = false
is_there (Some a) = true

abbrev pub among : TokenKind → List TokenKind → Bool
among c [] = false
among c (k ∷ ks) = nat_eq (code k) (code c) || among c ks

-- the kinds that begin a family's parts
abbrev pub begins : Family → TokenKind → Bool
begins Files c = among c (Class ∷ Object ∷ ObjectSet ∷ [])
begins ClassMarks c = among c (Slash ∷ [])
begins ClassParamLists c = among c (Parameters ∷ [])
begins Sorts c = among c (IntKind ∷ StringKind ∷ [])
begins ClassParams c = among c (IntKind ∷ StringKind ∷ [])
begins MoreClassParams c = among c (Comma ∷ [])
begins Literals c = among c (Int ∷ Str ∷ [])
begins States c = among c (State ∷ [])
begins StateMarks c = among c (Slash ∷ [])
begins FirstMarks c = among c (InitialState ∷ DeadState ∷ [])
begins InitialMarks c = among c (Slash ∷ [])
begins DeadMarks c = among c (Slash ∷ [])
begins Actions c = among c (Action ∷ [])
begins ActionParamLists c = among c (OpenBracket ∷ [])
begins ActionParams c = among c (IntKind ∷ StringKind ∷ [])
begins MoreActionParams c = among c (Comma ∷ [])
begins Defaults c = among c (Equals ∷ [])
begins Blocks c = among c (Do ∷ If ∷ Set ∷ MoveTo ∷ TerminateAction ∷ Wait ∷ Insert ∷ Remove ∷ [])
begins ArgLists c = among c (OpenBracket ∷ [])
begins PassedArgs c = among c (Name ∷ [])
begins MorePassed c = among c (Comma ∷ [])
begins Waiteds c = among c (AllIn ∷ Name ∷ [])
begins MoreWaiteds c = among c (Comma ∷ [])
begins Everys c = among c (AllIn ∷ [])
begins Args c = among c (Name ∷ Int ∷ Str ∷ [])
begins Branches c = among c (OpenBracket ∷ [])
begins Arms c = among c (Then ∷ [])
begins Elses c = among c (Else ∷ [])
begins Conds c = among c (AllIn ∷ AnyIn ∷ Not ∷ OpenBracket ∷ Name ∷ [])
begins Conjs c = among c (AllIn ∷ AnyIn ∷ Not ∷ OpenBracket ∷ Name ∷ [])
begins Units c = among c (AllIn ∷ AnyIn ∷ Not ∷ OpenBracket ∷ Name ∷ [])
begins MoreAnds c = among c (And ∷ [])
begins MoreOrs c = among c (Or ∷ [])
begins Senses c = among c (InState ∷ NotInState ∷ [])
begins StateLists c = among c (OpenBrace ∷ Name ∷ [])
begins NameLists c = among c (Name ∷ [])
begins MoreNames c = among c (Comma ∷ [])
begins MemberLists c = among c (Name ∷ [])
begins MoreMembers c = among c (Comma ∷ [])

-- whether a family's parts may be left out
abbrev pub skips : Family → Bool
skips Files = true
skips ClassMarks = true
skips ClassParamLists = true
skips Sorts = false
skips ClassParams = false
skips MoreClassParams = true
skips Literals = false
skips States = true
skips StateMarks = true
skips FirstMarks = false
skips InitialMarks = true
skips DeadMarks = true
skips Actions = true
skips ActionParamLists = true
skips ActionParams = false
skips MoreActionParams = true
skips Defaults = true
skips Blocks = true
skips ArgLists = true
skips PassedArgs = false
skips MorePassed = true
skips Waiteds = false
skips MoreWaiteds = true
skips Everys = true
skips Args = false
skips Branches = false
skips Arms = false
skips Elses = true
skips Conds = false
skips Conjs = false
skips Units = false
skips MoreAnds = true
skips MoreOrs = true
skips Senses = false
skips StateLists = false
skips NameLists = false
skips MoreNames = true
skips MemberLists = true
skips MoreMembers = true

-- the kinds that may follow a family's parts
abbrev pub follows : Family → TokenKind → Bool
follows Files c = false
follows ClassMarks c = among c (Class ∷ Object ∷ ObjectSet ∷ State ∷ Parameters ∷ [])
follows ClassParamLists c = among c (Class ∷ Object ∷ ObjectSet ∷ State ∷ [])
follows Sorts c = false
follows ClassParams c = among c (Class ∷ Object ∷ ObjectSet ∷ State ∷ Comma ∷ [])
follows MoreClassParams c = among c (Class ∷ Object ∷ ObjectSet ∷ State ∷ [])
follows Literals c = among c (Class ∷ Object ∷ ObjectSet ∷ State ∷ Comma ∷ CloseBracket ∷ [])
follows States c = among c (Class ∷ Object ∷ ObjectSet ∷ [])
follows StateMarks c = among c (Class ∷ Object ∷ ObjectSet ∷ State ∷ Action ∷ [])
follows FirstMarks c = among c (Class ∷ Object ∷ ObjectSet ∷ State ∷ Action ∷ [])
follows InitialMarks c = among c (Class ∷ Object ∷ ObjectSet ∷ State ∷ Action ∷ [])
follows DeadMarks c = among c (Class ∷ Object ∷ ObjectSet ∷ State ∷ Action ∷ [])
follows Actions c = among c (Class ∷ Object ∷ ObjectSet ∷ State ∷ [])
follows ActionParamLists c = among c (Class ∷ Object ∷ ObjectSet ∷ State ∷ Action ∷ Do ∷ If ∷ Set ∷ MoveTo
    ∷ TerminateAction ∷ Wait ∷ Insert ∷ Remove ∷ [])
follows ActionParams c = among c (Comma ∷ CloseBracket ∷ [])
follows MoreActionParams c = among c (CloseBracket ∷ [])
follows Defaults c = among c (Comma ∷ CloseBracket ∷ [])
follows Blocks c = among c (Class ∷ Object ∷ ObjectSet ∷ State ∷ Action ∷ Else ∷ Endif ∷ [])
follows ArgLists c = among c (AllIn ∷ Name ∷ [])
follows PassedArgs c = among c (Comma ∷ CloseBracket ∷ [])
follows MorePassed c = among c (CloseBracket ∷ [])
follows Waiteds c = among c (Comma ∷ CloseBracket ∷ [])
follows MoreWaiteds c = among c (CloseBracket ∷ [])
follows Everys c = among c (Name ∷ [])
follows Args c = among c (Class ∷ Object ∷ ObjectSet ∷ State ∷ Action ∷ Do ∷ If ∷ Else ∷ Endif ∷ Set ∷ MoveTo
    ∷ TerminateAction ∷ Wait ∷ Insert ∷ Remove ∷ Comma ∷ CloseBracket ∷ [])
follows Branches c = among c (Class ∷ Object ∷ ObjectSet ∷ State ∷ Action ∷ Do ∷ If ∷ Else ∷ Endif ∷ Set ∷ MoveTo
    ∷ TerminateAction ∷ Wait ∷ Insert ∷ Remove ∷ [])
follows Arms c = among c (Class ∷ Object ∷ ObjectSet ∷ State ∷ Action ∷ Do ∷ If ∷ Else ∷ Endif ∷ Set ∷ MoveTo
    ∷ TerminateAction ∷ Wait ∷ Insert ∷ Remove ∷ [])
follows Elses c = among c (Endif ∷ [])
follows Conds c = among c (CloseBracket ∷ [])
follows Conjs c = among c (Or ∷ CloseBracket ∷ [])
follows Units c = among c (And ∷ Or ∷ CloseBracket ∷ [])
follows MoreAnds c = among c (Or ∷ CloseBracket ∷ [])
follows MoreOrs c = among c (CloseBracket ∷ [])
follows Senses c = among c (OpenBrace ∷ Name ∷ [])
follows StateLists c = among c (And ∷ Or ∷ CloseBracket ∷ [])
follows NameLists c = among c (CloseBrace ∷ [])
follows MoreNames c = among c (CloseBrace ∷ [])
follows MemberLists c = among c (CloseBrace ∷ [])
follows MoreMembers c = among c (CloseBrace ∷ [])

-- whether what the bones derive may begin with this kind
abbrev pub starts : List Bone → TokenKind → Bool
starts [] c = false
starts (B kind ∷ bones) c = nat_eq (code kind) (code c)
starts (P f ∷ bones) c = begins f c || (skips f && starts bones c)

-- whether all of the bones may be left out
abbrev pub hollow : List Bone → Bool
hollow [] = true
hollow (B kind ∷ bones) = false
hollow (P f ∷ bones) = skips f && hollow bones

abbrev pub implies : Bool → Bool → Bool
implies a b = not a || b

-- the test that what follows the parts of a rule may follow them
abbrev pub rest_fits : Family → List Bone → TokenKind → Bool
rest_fits n [] c = true
rest_fits n (B kind ∷ bones) c = rest_fits n bones c
rest_fits n (P p ∷ bones) c = implies (starts bones c) (follows p c) && (implies (hollow bones && follows n c) (follows p c) && rest_fits n bones c)

abbrev pub all_fit : (n : Part) → List (Rule n) → TokenKind → Bool
all_fit n [] c = true
all_fit n (r ∷ rs) c = rest_fits (family n) r.bones c && all_fit n rs c

-- all that one kind shows of a part
pub record Tested (n : Part) (c : TokenKind) : Type 0 where
  pub begun : is_there (chosen (rules n) c) ≡ begins (family n) c
  pub apart : (skips (family n) && follows (family n) c && begins (family n) c) ≡ false
  pub fit : all_fit n (rules n) c ≡ true

-- the same as one test
abbrev pub same : Bool → Bool → Bool
same true b = b
same false b = not b

abbrev pub test : Part → TokenKind → Bool
test n c = same (is_there (chosen (rules n) c)) (begins (family n) c) && (not (skips (family n) && follows (family n) c && begins (family n) c) && all_fit n (rules n) c)

abbrev pub all : (TokenKind → Bool) → List TokenKind → Bool
all Q [] = true
all Q (k ∷ ks) = Q k && all Q ks

-- every kind passes it at every part, which is computed
tests : (n : Part) → all (test n) kinds ≡ true
tests (of.File a b d) = refl
tests _ = refl

left_of : (a b : Bool) → (a && b) ≡ true → a ≡ true
left_of true b h = refl
left_of false b h = h

right_of : (a b : Bool) → (a && b) ≡ true → b ≡ true
right_of true b h = h
right_of false b h = absurd (cc h)

agree : (a b : Bool) → same a b ≡ true → a ≡ b
agree true b h = sym h
agree false true h = absurd (cc h)
agree false false h = refl

denied : (a : Bool) → not a ≡ true → a ≡ false
denied true h = absurd (cc h)
denied false h = refl

reached : (Q : TokenKind → Bool) (ks : List TokenKind) (i : ℕ) (d : TokenKind) → all Q ks ≡ true → Q d ≡ true → Q (get_or ks i d) ≡ true
reached Q [] i d h e = e
reached Q (k ∷ ks) zero d h e = left_of (Q k) (all Q ks) h
reached Q (k ∷ ks) (suc i) d h e = reached Q ks i d (right_of (Q k) (all Q ks) h) e

passes : (n : Part) (c : TokenKind) → test n c ≡ true
passes n c = subst (λ k. test n k ≡ true) (kind_at_code c) (reached (test n) kinds (code c) Class (tests n) (left_of (test n Class) _ (tests n)))

pub tested : (n : Part) (c : TokenKind) → Tested n c
tested n c =
    let h = passes n c in
    let rest = right_of (same (is_there (chosen (rules n) c)) (begins (family n) c)) _ h in
    record {
      begun = agree (is_there (chosen (rules n) c)) (begins (family n) c) (left_of _ _ h);
      apart = denied (skips (family n) && follows (family n) c && begins (family n) c) (left_of _ _ rest);
      fit = right_of (not (skips (family n) && follows (family n) c && begins (family n) c)) _ rest;
    }

-- the test that one token tells the rules apart
abbrev pub lacks : (n : Part) → TokenKind → List (Rule n) → Bool
lacks n c [] = true
lacks n c (r ∷ rs) = not (nat_eq (code c) (code r.kind)) && lacks n c rs

abbrev pub distinct : (n : Part) → List (Rule n) → Bool
distinct n [] = true
distinct n (r ∷ rs) = lacks n r.kind rs && distinct n rs

-- what a part shows by itself
pub record Sorted (n : Part) : Type 0 where
  pub told_apart : distinct n (rules n) ≡ true
  pub skipped : is_there (empty n) ≡ skips (family n)

pub sorted : (n : Part) → Sorted n
sorted (of.File a b d) = record { told_apart = refl; skipped = refl }
sorted _ = record { told_apart = refl; skipped = refl }
