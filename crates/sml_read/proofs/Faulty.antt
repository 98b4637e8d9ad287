-- Where the machine refuses, it names the first fault.
use Rattle.std.proofs.Common.{◌≡◌, List, [], ◌∷◌, ◌++◌, refl, ap, ◌∙◌, subst, Option, Some, None, Err, true, false, Bool, inl, inr, ◌&&◌}
use Rattle.sml_text.specs.Tokens.{Session}
use Rattle.sml_tree.specs.declared.token_kind.TokenKind.{TokenKind}
use Rattle.sml_tree.specs.Piece.{Piece}
use Rattle.sml_tree.specs.Form as of
use Rattle.sml_tree.specs.Form.{Bone, B, P, Form, gives, needs, calls, part, Part, Family, family, Mark, Fine, Deep, Many, Value, Files, ClassMarks, ClassParamLists, Sorts, ClassParams, MoreClassParams, Literals, States, StateMarks, FirstMarks, InitialMarks, DeadMarks, Actions, ActionParamLists, ActionParams, MoreActionParams, Defaults, Blocks, ArgLists, PassedArgs, MorePassed, Waiteds, MoreWaiteds, Everys, Args, Branches, Arms, Elses, Conds, Conjs, Units, MoreAnds, MoreOrs, Senses, StateLists, NameLists, MoreNames, MemberLists, MoreMembers}
use Rattle.sml_tree.specs.Grammar.{Rule, rules, empty}
use Rattle.sml_tree.specs.Derive.{Marked, OneOf, Derives, nothing, token, left_out, written, marked, fine, plain}
use Rattle.sml_read_parts.specs.declared.fault.Fault.{Fault}
use Rattle.sml_read_parts.specs.declared.fault.Fault.TheVariants.{Unexpected, TooDeep, TooMany, Ends}
use Rattle.sml_read_parts.specs.Machine.{TokenMove, Goes, Stuck, advance, finish, go_on, ended, run}
use Rattle.sml_read.specs.Faults.{FormBegins, NoneBegins, FaultOf}
use Rattle.sml_read.proofs.Sound.{joined, Backed, backed}
use Rattle.sml_read.proofs.Tables.{is_there, skips, sorted}
use Rattle.sml_read.proofs.Complete.{and_true, Ready, Takes, stepped, finished}

abbrev a_token : TokenKind → Piece
a_token kind = record { kind = kind; lexeme = Session 0; at = 0 }

-- a part that some token begins, and nothing more follows but parts that derive something
abbrev Texts : Part → Type 0
Texts n = (ms : List Marked) × (w : Value n) × Derives n (P (family n) ∷ []) (part n) ms w

left : (n : Part) (w : Value n) → empty n ≡ Some w → Texts n
left n w e = ([], w, left_out n n [] gives w [] w e (nothing n w))

-- what a form derives
abbrev Some_of : (g : Part) (bones : List Bone) → Form (Value g) bones → Type 0
Some_of g bones form = (ms : List Marked) × (v : Value g) × Derives g bones form ms v

by_rule : (n : Part) (r : Rule n) → OneOf (rules n) r → Some_of n r.bones (r.rest (a_token r.kind)) → Texts n
by_rule n r one d =
    let us = record { token = a_token r.kind; mark = r.mark } ∷ d.0 in
    (us ++ [], d.1, written n n [] gives r d.1 us [] d.1 one (token n r.bones r.kind r.mark r.rest (a_token r.kind) d.0 d.1 refl d.2) (nothing n d.1))

behind : (g n : Part) (bones : List Bone) (f : Value n → Form (Value g) bones) (s : Texts n) → Some_of g bones (f s.1) → Some_of g (P (family n) ∷ bones) (calls n f)
behind g n bones f s d = (s.0 ++ d.0, d.1, joined n (P (family n) ∷ []) (part n) s.0 s.1 s.2 g bones f d.0 d.1 d.2)

-- bones of families that pass a test
abbrev all_of : (Family → Bool) → List Bone → Bool
all_of ok [] = true
all_of ok (B kind ∷ bones) = all_of ok bones
all_of ok (P f ∷ bones) = ok f && all_of ok bones

-- a form of parts that derive something does so
derives_some : (ok : Family → Bool) → ((m : Part) → ok (family m) ≡ true → Texts m) → (g : Part) (bones : List Bone) (form : Form (Value g) bones) → all_of ok bones ≡ true → Some_of g bones form
derives_some ok texts g [] (gives v) h = ([], v, nothing g v)
derives_some ok texts g (_ ∷ bones) (needs kind mark f) h =
    let d = derives_some ok texts g bones (f (a_token kind)) h in
    (record { token = a_token kind; mark = mark } ∷ d.0, d.1, token g bones kind mark f (a_token kind) d.0 d.1 refl d.2)
derives_some ok texts g (_ ∷ bones) (calls n f) h =
    let both = and_true (ok (family n)) (all_of ok bones) h in
    let s = texts n both.0 in
    behind g n bones f s (derives_some ok texts g bones (f s.1) both.1)

-- parts that may be left out
text_0 : (n : Part) → skips (family n) ≡ true → Texts n
text_0 n h = go (empty n) refl (sorted n).skipped
  where
    go : (o : Option (Value n)) → empty n ≡ o → is_there o ≡ skips (family n) → Texts n
    go (Some w) was e = left n w was
    go None was e = absurd (cc (e, h))

-- the parts that derive something by parts of lower levels, up to level 1
abbrev within_1 : Family → Bool
within_1 Files = true
within_1 ClassMarks = true
within_1 ClassParamLists = true
within_1 Sorts = true
within_1 ClassParams = false
within_1 MoreClassParams = true
within_1 Literals = true
within_1 States = true
within_1 StateMarks = true
within_1 FirstMarks = true
within_1 InitialMarks = true
within_1 DeadMarks = true
within_1 Actions = true
within_1 ActionParamLists = true
within_1 ActionParams = true
within_1 MoreActionParams = true
within_1 Defaults = true
within_1 Blocks = true
within_1 ArgLists = true
within_1 PassedArgs = false
within_1 MorePassed = true
within_1 Waiteds = true
within_1 MoreWaiteds = true
within_1 Everys = true
within_1 Args = true
within_1 Branches = false
within_1 Arms = true
within_1 Elses = true
within_1 Conds = false
within_1 Conjs = false
within_1 Units = false
within_1 MoreAnds = true
within_1 MoreOrs = true
within_1 Senses = true
within_1 StateLists = true
within_1 NameLists = true
within_1 MoreNames = true
within_1 MemberLists = true
within_1 MoreMembers = true

text_1 : (n : Part) → within_1 (family n) ≡ true → Texts n
text_1 (of.File a b d) h = text_0 (of.File a b d) refl
text_1 of.ClassMark h = text_0 of.ClassMark refl
text_1 of.ClassParamList h = text_0 of.ClassParamList refl
text_1 (of.Sort a) h = by_rule (of.Sort a) _ (inl refl) (derives_some skips text_0 (of.Sort a) _ _ refl)
text_1 (of.ClassParam a) h = absurd (cc h)
text_1 (of.MoreClassParam a) h = text_0 (of.MoreClassParam a) refl
text_1 of.Literal h = by_rule of.Literal _ (inl refl) (derives_some skips text_0 of.Literal _ _ refl)
text_1 (of.State a) h = text_0 (of.State a) refl
text_1 of.StateMark h = text_0 of.StateMark refl
text_1 of.FirstMark h = by_rule of.FirstMark _ (inl refl) (derives_some skips text_0 of.FirstMark _ _ refl)
text_1 of.InitialMark h = text_0 of.InitialMark refl
text_1 of.DeadMark h = text_0 of.DeadMark refl
text_1 (of.Action a) h = text_0 (of.Action a) refl
text_1 of.ActionParamList h = text_0 of.ActionParamList refl
text_1 (of.ActionParam a) h = by_rule (of.ActionParam a) _ (inl refl) (derives_some skips text_0 (of.ActionParam a) _ _ refl)
text_1 (of.MoreActionParam a) h = text_0 (of.MoreActionParam a) refl
text_1 of.Default h = text_0 of.Default refl
text_1 (of.Block a) h = text_0 (of.Block a) refl
text_1 of.ArgList h = text_0 of.ArgList refl
text_1 (of.Passed a) h = absurd (cc h)
text_1 (of.MorePassedArg a) h = text_0 (of.MorePassedArg a) refl
text_1 (of.Waited a) h = by_rule (of.Waited a) _ (inl refl) (derives_some skips text_0 (of.Waited a) _ _ refl)
text_1 (of.MoreWaited a) h = text_0 (of.MoreWaited a) refl
text_1 of.Every h = text_0 of.Every refl
text_1 of.Arg h = by_rule of.Arg _ (inl refl) (derives_some skips text_0 of.Arg _ _ refl)
text_1 (of.Branch a) h = absurd (cc h)
text_1 (of.Arm a) h = by_rule (of.Arm a) _ (inl refl) (derives_some skips text_0 (of.Arm a) _ _ refl)
text_1 (of.Else a) h = text_0 (of.Else a) refl
text_1 (of.Cond a b) h = absurd (cc h)
text_1 (of.Conj a b) h = absurd (cc h)
text_1 (of.Unit' a b) h = absurd (cc h)
text_1 (of.MoreAnd a b d) h = text_0 (of.MoreAnd a b d) refl
text_1 (of.MoreOr a b d) h = text_0 (of.MoreOr a b d) refl
text_1 of.Sense h = by_rule of.Sense _ (inl refl) (derives_some skips text_0 of.Sense _ _ refl)
text_1 of.StateList h = by_rule of.StateList _ (inl refl) (derives_some skips text_0 of.StateList _ _ refl)
text_1 of.Names h = by_rule of.Names _ (inl refl) (derives_some skips text_0 of.Names _ _ refl)
text_1 (of.MoreName a) h = text_0 (of.MoreName a) refl
text_1 of.Members h = text_0 of.Members refl
text_1 (of.MoreMember a) h = text_0 (of.MoreMember a) refl

-- the parts that derive something by parts of lower levels, up to level 2
abbrev within_2 : Family → Bool
within_2 Files = true
within_2 ClassMarks = true
within_2 ClassParamLists = true
within_2 Sorts = true
within_2 ClassParams = true
within_2 MoreClassParams = true
within_2 Literals = true
within_2 States = true
within_2 StateMarks = true
within_2 FirstMarks = true
within_2 InitialMarks = true
within_2 DeadMarks = true
within_2 Actions = true
within_2 ActionParamLists = true
within_2 ActionParams = true
within_2 MoreActionParams = true
within_2 Defaults = true
within_2 Blocks = true
within_2 ArgLists = true
within_2 PassedArgs = true
within_2 MorePassed = true
within_2 Waiteds = true
within_2 MoreWaiteds = true
within_2 Everys = true
within_2 Args = true
within_2 Branches = false
within_2 Arms = true
within_2 Elses = true
within_2 Conds = true
within_2 Conjs = true
within_2 Units = true
within_2 MoreAnds = true
within_2 MoreOrs = true
within_2 Senses = true
within_2 StateLists = true
within_2 NameLists = true
within_2 MoreNames = true
within_2 MemberLists = true
within_2 MoreMembers = true

text_2 : (n : Part) → within_2 (family n) ≡ true → Texts n
text_2 (of.File a b d) h = text_1 (of.File a b d) refl
text_2 of.ClassMark h = text_1 of.ClassMark refl
text_2 of.ClassParamList h = text_1 of.ClassParamList refl
text_2 (of.Sort a) h = text_1 (of.Sort a) refl
text_2 (of.ClassParam a) h = by_rule (of.ClassParam a) _ (inl refl) (derives_some within_1 text_1 (of.ClassParam a) _ _ refl)
text_2 (of.MoreClassParam a) h = text_1 (of.MoreClassParam a) refl
text_2 of.Literal h = text_1 of.Literal refl
text_2 (of.State a) h = text_1 (of.State a) refl
text_2 of.StateMark h = text_1 of.StateMark refl
text_2 of.FirstMark h = text_1 of.FirstMark refl
text_2 of.InitialMark h = text_1 of.InitialMark refl
text_2 of.DeadMark h = text_1 of.DeadMark refl
text_2 (of.Action a) h = text_1 (of.Action a) refl
text_2 of.ActionParamList h = text_1 of.ActionParamList refl
text_2 (of.ActionParam a) h = text_1 (of.ActionParam a) refl
text_2 (of.MoreActionParam a) h = text_1 (of.MoreActionParam a) refl
text_2 of.Default h = text_1 of.Default refl
text_2 (of.Block a) h = text_1 (of.Block a) refl
text_2 of.ArgList h = text_1 of.ArgList refl
text_2 (of.Passed a) h = by_rule (of.Passed a) _ (inl refl) (derives_some within_1 text_1 (of.Passed a) _ _ refl)
text_2 (of.MorePassedArg a) h = text_1 (of.MorePassedArg a) refl
text_2 (of.Waited a) h = text_1 (of.Waited a) refl
text_2 (of.MoreWaited a) h = text_1 (of.MoreWaited a) refl
text_2 of.Every h = text_1 of.Every refl
text_2 of.Arg h = text_1 of.Arg refl
text_2 (of.Branch a) h = absurd (cc h)
text_2 (of.Arm a) h = text_1 (of.Arm a) refl
text_2 (of.Else a) h = text_1 (of.Else a) refl
text_2 (of.Cond a b) h = by_rule (of.Cond a b) _ (inr (inr (inl refl))) (derives_some within_1 text_1 (of.Cond a b) _ _ refl)
text_2 (of.Conj a b) h = by_rule (of.Conj a b) _ (inr (inr (inl refl))) (derives_some within_1 text_1 (of.Conj a b) _ _ refl)
text_2 (of.Unit' a b) h = by_rule (of.Unit' a b) _ (inr (inr (inl refl))) (derives_some within_1 text_1 (of.Unit' a b) _ _ refl)
text_2 (of.MoreAnd a b d) h = text_1 (of.MoreAnd a b d) refl
text_2 (of.MoreOr a b d) h = text_1 (of.MoreOr a b d) refl
text_2 of.Sense h = text_1 of.Sense refl
text_2 of.StateList h = text_1 of.StateList refl
text_2 of.Names h = text_1 of.Names refl
text_2 (of.MoreName a) h = text_1 (of.MoreName a) refl
text_2 of.Members h = text_1 of.Members refl
text_2 (of.MoreMember a) h = text_1 (of.MoreMember a) refl

-- the parts that derive something by parts of lower levels, up to level 3
abbrev within_3 : Family → Bool
within_3 Files = true
within_3 ClassMarks = true
within_3 ClassParamLists = true
within_3 Sorts = true
within_3 ClassParams = true
within_3 MoreClassParams = true
within_3 Literals = true
within_3 States = true
within_3 StateMarks = true
within_3 FirstMarks = true
within_3 InitialMarks = true
within_3 DeadMarks = true
within_3 Actions = true
within_3 ActionParamLists = true
within_3 ActionParams = true
within_3 MoreActionParams = true
within_3 Defaults = true
within_3 Blocks = true
within_3 ArgLists = true
within_3 PassedArgs = true
within_3 MorePassed = true
within_3 Waiteds = true
within_3 MoreWaiteds = true
within_3 Everys = true
within_3 Args = true
within_3 Branches = true
within_3 Arms = true
within_3 Elses = true
within_3 Conds = true
within_3 Conjs = true
within_3 Units = true
within_3 MoreAnds = true
within_3 MoreOrs = true
within_3 Senses = true
within_3 StateLists = true
within_3 NameLists = true
within_3 MoreNames = true
within_3 MemberLists = true
within_3 MoreMembers = true

text_3 : (n : Part) → within_3 (family n) ≡ true → Texts n
text_3 (of.File a b d) h = text_2 (of.File a b d) refl
text_3 of.ClassMark h = text_2 of.ClassMark refl
text_3 of.ClassParamList h = text_2 of.ClassParamList refl
text_3 (of.Sort a) h = text_2 (of.Sort a) refl
text_3 (of.ClassParam a) h = text_2 (of.ClassParam a) refl
text_3 (of.MoreClassParam a) h = text_2 (of.MoreClassParam a) refl
text_3 of.Literal h = text_2 of.Literal refl
text_3 (of.State a) h = text_2 (of.State a) refl
text_3 of.StateMark h = text_2 of.StateMark refl
text_3 of.FirstMark h = text_2 of.FirstMark refl
text_3 of.InitialMark h = text_2 of.InitialMark refl
text_3 of.DeadMark h = text_2 of.DeadMark refl
text_3 (of.Action a) h = text_2 (of.Action a) refl
text_3 of.ActionParamList h = text_2 of.ActionParamList refl
text_3 (of.ActionParam a) h = text_2 (of.ActionParam a) refl
text_3 (of.MoreActionParam a) h = text_2 (of.MoreActionParam a) refl
text_3 of.Default h = text_2 of.Default refl
text_3 (of.Block a) h = text_2 (of.Block a) refl
text_3 of.ArgList h = text_2 of.ArgList refl
text_3 (of.Passed a) h = text_2 (of.Passed a) refl
text_3 (of.MorePassedArg a) h = text_2 (of.MorePassedArg a) refl
text_3 (of.Waited a) h = text_2 (of.Waited a) refl
text_3 (of.MoreWaited a) h = text_2 (of.MoreWaited a) refl
text_3 of.Every h = text_2 of.Every refl
text_3 of.Arg h = text_2 of.Arg refl
text_3 (of.Branch a) h = by_rule (of.Branch a) _ (inl refl) (derives_some within_2 text_2 (of.Branch a) _ _ refl)
text_3 (of.Arm a) h = text_2 (of.Arm a) refl
text_3 (of.Else a) h = text_2 (of.Else a) refl
text_3 (of.Cond a b) h = text_2 (of.Cond a b) refl
text_3 (of.Conj a b) h = text_2 (of.Conj a b) refl
text_3 (of.Unit' a b) h = text_2 (of.Unit' a b) refl
text_3 (of.MoreAnd a b d) h = text_2 (of.MoreAnd a b d) refl
text_3 (of.MoreOr a b d) h = text_2 (of.MoreOr a b d) refl
text_3 of.Sense h = text_2 of.Sense refl
text_3 of.StateList h = text_2 of.StateList refl
text_3 of.Names h = text_2 of.Names refl
text_3 (of.MoreName a) h = text_2 (of.MoreName a) refl
text_3 of.Members h = text_2 of.Members refl
text_3 (of.MoreMember a) h = text_2 (of.MoreMember a) refl

-- each part derives something
some_text : (n : Part) → Texts n
some_text (of.File a b d) = text_3 (of.File a b d) refl
some_text of.ClassMark = text_3 of.ClassMark refl
some_text of.ClassParamList = text_3 of.ClassParamList refl
some_text (of.Sort a) = text_3 (of.Sort a) refl
some_text (of.ClassParam a) = text_3 (of.ClassParam a) refl
some_text (of.MoreClassParam a) = text_3 (of.MoreClassParam a) refl
some_text of.Literal = text_3 of.Literal refl
some_text (of.State a) = text_3 (of.State a) refl
some_text of.StateMark = text_3 of.StateMark refl
some_text of.FirstMark = text_3 of.FirstMark refl
some_text of.InitialMark = text_3 of.InitialMark refl
some_text of.DeadMark = text_3 of.DeadMark refl
some_text (of.Action a) = text_3 (of.Action a) refl
some_text of.ActionParamList = text_3 of.ActionParamList refl
some_text (of.ActionParam a) = text_3 (of.ActionParam a) refl
some_text (of.MoreActionParam a) = text_3 (of.MoreActionParam a) refl
some_text of.Default = text_3 of.Default refl
some_text (of.Block a) = text_3 (of.Block a) refl
some_text of.ArgList = text_3 of.ArgList refl
some_text (of.Passed a) = text_3 (of.Passed a) refl
some_text (of.MorePassedArg a) = text_3 (of.MorePassedArg a) refl
some_text (of.Waited a) = text_3 (of.Waited a) refl
some_text (of.MoreWaited a) = text_3 (of.MoreWaited a) refl
some_text of.Every = text_3 of.Every refl
some_text of.Arg = text_3 of.Arg refl
some_text (of.Branch a) = text_3 (of.Branch a) refl
some_text (of.Arm a) = text_3 (of.Arm a) refl
some_text (of.Else a) = text_3 (of.Else a) refl
some_text (of.Cond a b) = text_3 (of.Cond a b) refl
some_text (of.Conj a b) = text_3 (of.Conj a b) refl
some_text (of.Unit' a b) = text_3 (of.Unit' a b) refl
some_text (of.MoreAnd a b d) = text_3 (of.MoreAnd a b d) refl
some_text (of.MoreOr a b d) = text_3 (of.MoreOr a b d) refl
some_text of.Sense = text_3 of.Sense refl
some_text of.StateList = text_3 of.StateList refl
some_text of.Names = text_3 of.Names refl
some_text (of.MoreName a) = text_3 (of.MoreName a) refl
some_text of.Members = text_3 of.Members refl
some_text (of.MoreMember a) = text_3 (of.MoreMember a) refl

productive : (g : Part) (bones : List Bone) (form : Form (Value g) bones) → Some_of g bones form
productive g bones form = derives_some (λ _. true) (λ m _. some_text m) g bones form (every bones)
  where
    every : (l : List Bone) → all_of (λ _. true) l ≡ true
    every [] = refl
    every (B kind ∷ l) = every l
    every (P f ∷ l) = every l

-- something begins with nothing
pub begins_all : (g : Part) (bones : List Bone) (form : Form (Value g) bones) → FormBegins g bones form []
begins_all g bones form = productive g bones form

-- a token that the machine takes may begin what the rest of it begins
pub begins_more : (g : Part) (bones : List Bone) (form : Form (Value g) bones) (t : Piece) (mark : Mark) (after : List Bone) (form' : Form (Value g) after) (ms : List Marked)
    → Backed g bones form t (Goes mark after form') → FormBegins g after form' ms → FormBegins g bones form (marked mark t ∷ ms)
begins_more g bones form t mark after form' ms b d = (d.0, d.1, b (ms ++ d.0) d.1 d.2)

-- behind a token that the machine takes, it is ready again
ready_after : (g : Part) (bones : List Bone) (form : Form (Value g) bones) (t : Piece) (mark : Mark) (after : List Bone) (form' : Form (Value g) after)
    → Ready bones → advance g bones form t ≡ Goes mark after form' → Backed g bones form t (Goes mark after form') → Ready after
ready_after g bones form t mark after form' ready was b =
    let d = productive g after form' in
    let s = stepped g bones form (marked mark t ∷ d.0) d.1 (b d.0 d.1 d.2) ready in
    let takes : Takes (Goes mark after form') mark d.0 d.1 = subst (λ (move : TokenMove g). Takes move mark d.0 d.1) was s.0 in
    takes.1

-- what begins with a token that the machine takes goes on behind it
none_more : (g : Part) (bones : List Bone) (form : Form (Value g) bones) (t : Piece) (mark : Mark) (after : List Bone) (form' : Form (Value g) after) (ts : List Piece)
    → Ready bones → advance g bones form t ≡ Goes mark after form' → NoneBegins g after form' ts → NoneBegins g bones form (t ∷ ts)
none_more g bones form t mark after form' ts ready was none [] e d = absurd (cc e)
none_more g bones form t mark after form' ts ready was none (m ∷ ms) e d =
    let s = stepped g bones form (m ∷ (ms ++ d.0)) d.1 d.2 ready in
    let same : m.token ≡ t = cc in
    let rest : plain ms ≡ ts = cc in
    let takes : Takes (Goes mark after form') m.mark (ms ++ d.0) d.1 = subst (λ (move : TokenMove g). Takes move m.mark (ms ++ d.0) d.1) (ap (λ x. advance g bones form x) same ∙ was) s.0 in
    none ms rest (d.0, d.1, takes.2)

-- where the machine is stuck nothing goes on
none_stuck : (g : Part) (bones : List Bone) (form : Form (Value g) bones) (t : Piece) → Ready bones → advance g bones form t ≡ Stuck → NoneBegins g bones form (t ∷ [])
none_stuck g bones form t ready was [] e d = absurd (cc e)
none_stuck g bones form t ready was (m ∷ ms) e d =
    let s = stepped g bones form (m ∷ (ms ++ d.0)) d.1 d.2 ready in
    let same : m.token ≡ t = cc in
    subst (λ (move : TokenMove g). Takes move m.mark (ms ++ d.0) d.1) (ap (λ x. advance g bones form x) same ∙ was) s.0

-- the same for what ends there
none_ends : (g : Part) (bones : List Bone) (form : Form (Value g) bones) (t : Piece) (mark : Mark) (after : List Bone) (form' : Form (Value g) after) (ts : List Piece)
    → Ready bones → advance g bones form t ≡ Goes mark after form' → ((ms : List Marked) (v : Value g) → plain ms ≡ ts → Derives g after form' ms v → ⊥)
    → (ms : List Marked) (v : Value g) → plain ms ≡ t ∷ ts → Derives g bones form ms v → ⊥
none_ends g bones form t mark after form' ts ready was none [] v e d = absurd (cc e)
none_ends g bones form t mark after form' ts ready was none (m ∷ ms) v e d =
    let s = stepped g bones form (m ∷ ms) v d ready in
    let same : m.token ≡ t = cc in
    let rest : plain ms ≡ ts = cc in
    let takes : Takes (Goes mark after form') m.mark ms v = subst (λ (move : TokenMove g). Takes move m.mark ms v) (ap (λ x. advance g bones form x) same ∙ was) s.0 in
    none ms v rest takes.2

-- a fault behind a token that the machine takes
later : (g : Part) (bones : List Bone) (form : Form (Value g) bones) (t : Piece) (after : List Bone) (form' : Form (Value g) after) (ts : List Piece) (f : Fault)
    → Ready bones → advance g bones form t ≡ Goes Fine after form' → Backed g bones form t (Goes Fine after form') → FaultOf g after form' ts f → FaultOf g bones form (t ∷ ts) f
later g bones form t after form' ts (Unexpected at) ready was b h = record {
  before = t ∷ h.before;
  this = h.this;
  after = h.after;
  whole = ap (λ l. t ∷ l) h.whole;
  place = h.place;
  begun = begins_more g bones form t Fine after form' (fine h.before) b h.begun;
  says = none_more g bones form t Fine after form' (h.before ++ h.this ∷ []) ready was h.says;
}
later g bones form t after form' ts (TooDeep at) ready was b h = record {
  before = t ∷ h.before;
  this = h.this;
  after = h.after;
  whole = ap (λ l. t ∷ l) h.whole;
  place = h.place;
  begun = begins_more g bones form t Fine after form' (fine h.before) b h.begun;
  says = begins_more g bones form t Fine after form' (fine h.before ++ marked Deep h.this ∷ []) b h.says;
}
later g bones form t after form' ts (TooMany at) ready was b h = record {
  before = t ∷ h.before;
  this = h.this;
  after = h.after;
  whole = ap (λ l. t ∷ l) h.whole;
  place = h.place;
  begun = begins_more g bones form t Fine after form' (fine h.before) b h.begun;
  says = begins_more g bones form t Fine after form' (fine h.before ++ marked Many h.this ∷ []) b h.says;
}
later g bones form t after form' ts Ends ready was b h =
    (begins_more g bones form t Fine after form' (fine ts) b h.0, none_ends g bones form t Fine after form' ts ready was h.1)

-- where the machine refuses, it names the first fault
pub faulty : (g : Part) (bones : List Bone) (form : Form (Value g) bones) (ts : List Piece) (f : Fault) → Ready bones → run g bones form ts ≡ Err f → FaultOf g bones form ts f
faulty g bones form [] f ready h = go (finish g bones form) refl h
  where
    go : (o : Option (Value g)) → finish g bones form ≡ o → ended o ≡ Err f → FaultOf g bones form [] f
    go (Some w) was h' = absurd (cc h')
    go None was h' =
        let e : Ends ≡ f = cc in
        let none : (ms : List Marked) (v : Value g) → plain ms ≡ [] → Derives g bones form ms v → ⊥ = none_left in
        subst (λ (x : Fault). FaultOf g bones form [] x) e (begins_all g bones form, none)
      where
        none_left : (ms : List Marked) (v : Value g) → plain ms ≡ [] → Derives g bones form ms v → ⊥
        none_left [] v e' d = let some = finished g bones form [] v d refl in absurd (cc (some, was))
        none_left (m ∷ ms) v e' d = absurd (cc e')
faulty g bones form (t ∷ ts) f ready h = go (advance g bones form t) refl (backed g bones form t) h (λ after form'. faulty g after form' ts f)
  where
    go : (move : TokenMove g) → advance g bones form t ≡ move → Backed g bones form t move → go_on move t.at (λ after form'. run g after form' ts) ≡ Err f
        → ((after : List Bone) (form' : Form (Value g) after) → Ready after → run g after form' ts ≡ Err f → FaultOf g after form' ts f) → FaultOf g bones form (t ∷ ts) f
    go Stuck was b h' rec = let e : Unexpected t.at ≡ f = cc in subst (λ (x : Fault). FaultOf g bones form (t ∷ ts) x) e (record {
      before = [];
      this = t;
      after = ts;
      whole = refl;
      place = refl;
      begun = begins_all g bones form;
      says = none_stuck g bones form t ready was;
    })
    go (Goes Fine after form') was b h' rec = later g bones form t after form' ts f ready was b (rec after form' (ready_after g bones form t Fine after form' ready was b) h')
    go (Goes Deep after form') was b h' rec = let e : TooDeep t.at ≡ f = cc in subst (λ (x : Fault). FaultOf g bones form (t ∷ ts) x) e (record {
      before = [];
      this = t;
      after = ts;
      whole = refl;
      place = refl;
      begun = begins_all g bones form;
      says = begins_more g bones form t Deep after form' [] b (begins_all g after form');
    })
    go (Goes Many after form') was b h' rec = let e : TooMany t.at ≡ f = cc in subst (λ (x : Fault). FaultOf g bones form (t ∷ ts) x) e (record {
      before = [];
      this = t;
      after = ts;
      whole = refl;
      place = refl;
      begun = begins_all g bones form;
      says = begins_more g bones form t Many after form' [] b (begins_all g after form');
    })
