-- What is read of an item, a state or an action, by the tokens and parts that were read of it.
use Rattle.std.proofs.Common.{◌≡◌, ◌<◌, ◌≤◌, ◌+◌, ℕ, Bool, true, false, List, [], ◌∷◌, ◌++◌, refl, ap, ◌∙◌, length, nat_lt, arith, Result, Ok, Err}
use Rattle.sml_tree.specs.declared.token_kind.TokenKind.TheVariants.{Class, Object, State, Action, Colon, Name, IsOfClass, ObjectSet, OpenBrace, CloseBrace}
use Rattle.sml_tree.specs.Piece.{Piece}
use Rattle.sml_tree.specs.Syntax as said
use Rattle.sml_tree.specs.Syntax.{InstrData, ActionParamData, ActionData, StateData, ClassParamData, ClassData, ItemData}
use Rattle.sml_tree.specs.Content.{block_of}
use Rattle.sml_tree.specs.Grammar.{most, name}
use Rattle.sml_tree.specs.Form as of
use Rattle.sml_tree.specs.Form.{Bone, B, P, Form, gives, needs, calls, ◌>>=◌, ◌>>◌, word, part, Fine, Many, Part, family, Value, Marks}
use Rattle.sml_read_parts.specs.declared.fault.Stop.{Stop}
use Rattle.sml_read_parts.specs.declared.fault.Stop.TheVariants as stop
use Rattle.sml_read_parts.specs.declared.fault.Fault.TheVariants.{TooMany}
use Rattle.sml_read_parts.specs.Machine.{Goes, go_on, run}
use Rattle.sml_read_parts.specs.Reads.{LeadsOn, Passes, Reads, Stops, SeesKind, ReadsToken}
use Rattle.sml_read_parts.specs.Heads.{Opens, ReadsHead}
use Rattle.sml_read_parts.specs.Stands.{ClosesAs}
use Rattle.sml_read_parts.specs.Trails.{Trail}
use Rattle.sml_read_parts.proofs.Steps.{Taken, seen}
use Rattle.sml_tree.specs.declared.limits.TheConstants.{MAX_ACTIONS, MAX_CLASSES, MAX_OBJECTS, MAX_SETS, MAX_STATES}

-- a part is in front of another
abbrev pub Ahead : (n next : Part) → (Value next → Value n) → List Piece → List Piece → Type 0
Ahead n next f old new = (length new < length old) × LeadsOn n next f old new

-- a part was read
abbrev pub Read : (n : Part) → Value n → List Piece → List Piece → Type 0
Read n v old new = (length new ≤ length old) × Passes n v old new

-- an item, a state or an action begins here with its word and its name
abbrev pub Headed : (before limit : ℕ) → List Piece → List Piece → List ℕ → Type 0
Headed before limit old new w = ReadsHead before limit old new (Ok w)

-- the first token, a colon and a name are there
pub record Head (before limit : ℕ) (old u v new : List Piece) (t a n : Piece) (w : List ℕ) : Type 0 where
  pub first : old ≡ t ∷ u
  pub room : nat_lt before limit ≡ true
  pub colon : Taken Colon a u v
  pub named : Taken Name n v new
  pub is : w ≡ name n

-- what the first token does
front : (n : Part) (before limit : ℕ) (bones : List Bone) (f : List ℕ → Form (Value n) bones) (t : Piece) (old u : List Piece) → old ≡ t ∷ u → Opens n before limit bones f old
    → (g : Part) (more : List Bone) (k : Value n → Form (Value g) more)
    → run g (P (family n) ∷ more) (calls n k) old
    ≡ go_on (Goes (most limit before Many) (B Colon ∷ B Name ∷ (bones ++ more)) (needs Colon Fine (λ _. needs Name Fine (λ x. f (name x) >>= k)))) t.at (λ after form. run g after form u)
front n before limit bones f t old u e opens g more k = ap (run g (P (family n) ∷ more) (calls n k)) e ∙ ap (λ move. go_on move t.at (λ after form. run g after form u)) (opens t u e g more k)

pub head_read : (before limit : ℕ) (old u v new : List Piece) (t a m : Piece) (w : List ℕ) → Head before limit old u v new t a m w → Headed before limit old new w
head_read before limit old u v new t a m w h = (
  omega (arith, ap length h.first, ap length h.colon.0, ap length h.named.0),
  λ n bones f opens g more k. front n before limit bones f t old u h.first opens g more k ∙ rw (h.room, h.colon.0, h.named.0, h.is) (rw (h.colon.1, h.named.1) refl),
)

-- one too many
pub head_too_many : (before limit : ℕ) (old u : List Piece) (t : Piece) → old ≡ t ∷ u → nat_lt before limit ≡ false → ReadsHead before limit old u (Err (stop.Fault (TooMany t.at)))
head_too_many before limit old u t e full n bones f opens g more k = front n before limit bones f t old u e opens g more k ∙ rw full refl

-- no colon is there
pub head_open : (before limit : ℕ) (old u new : List Piece) (t : Piece) (e : Stop) → old ≡ t ∷ u → nat_lt before limit ≡ true → ReadsToken Colon u new (Err e) → ReadsHead before limit old new (Err e)
head_open before limit old u new t stop.Memory first room none n bones f opens = tt
head_open before limit old u new t (stop.Fault x) first room none n bones f opens = λ g more k. front n before limit bones f t old u first opens g more k ∙ rw room (none g _ _ _)

-- no name is there
pub head_unnamed : (before limit : ℕ) (old u v new : List Piece) (t a : Piece) (e : Stop) → old ≡ t ∷ u → nat_lt before limit ≡ true → Taken Colon a u v → ReadsToken Name v new (Err e)
    → ReadsHead before limit old new (Err e)
head_unnamed before limit old u v new t a stop.Memory first room colon none n bones f opens = tt
head_unnamed before limit old u v new t a (stop.Fault x) first room colon none n bones f opens =
    λ g more k. front n before limit bones f t old u first opens g more k ∙ rw (room, colon.0) (rw colon.1 (none g _ _ _))

-- what is behind the name
abbrev action_form : (before : ℕ) → List ℕ → Form (Value (of.Action before)) (P of.ActionParamLists ∷ P of.Blocks ∷ P of.Actions ∷ [])
action_form before w = do
  params ← part of.ActionParamList
  body ← part (of.Block 0)
  others ← part (of.Action (before + 1))
  gives (record { name = w; params = params; body = block_of body } ∷ others)

abbrev state_form : (before : ℕ) → List ℕ → Form (Value (of.State before)) (P of.StateMarks ∷ P of.Actions ∷ P of.States ∷ [])
state_form before w = do
  marks ← part of.StateMark
  actions ← part (of.Action 0)
  others ← part (of.State (before + 1))
  gives (record { name = w; initial = marks.initial; dead = marks.dead; actions = actions } ∷ others)

abbrev class_form : (c o s : ℕ) → List ℕ → Form (Value (of.File c o s)) (P of.ClassMarks ∷ P of.ClassParamLists ∷ P of.States ∷ P of.Files ∷ [])
class_form c o s w = do
  associated ← part of.ClassMark
  params ← part of.ClassParamList
  states ← part (of.State 0)
  file ← part (of.File (c + 1) o s)
  gives (said.class (record { name = w; associated = associated; params = params; states = states }) ∷ file)

abbrev object_form : (c o s : ℕ) → List ℕ → Form (Value (of.File c o s)) (B IsOfClass ∷ B Name ∷ P of.Files ∷ [])
object_form c o s w = do
  word IsOfClass
  t ← word Name
  file ← part (of.File c (o + 1) s)
  gives (said.object (record { name = w; class = name t }) ∷ file)

abbrev set_form : (c o s : ℕ) → List ℕ → Form (Value (of.File c o s)) (B OpenBrace ∷ P of.MemberLists ∷ B CloseBrace ∷ P of.Files ∷ [])
set_form c o s w = do
  word OpenBrace
  members ← part of.Members
  word CloseBrace
  file ← part (of.File c o (s + 1))
  gives (said.group (record { name = w; members = members }) ∷ file)

-- what begins so
action_opens : (before : ℕ) (old : List Piece) → SeesKind Action old
    → Opens (of.Action before) before MAX_ACTIONS (P of.ActionParamLists ∷ P of.Blocks ∷ P of.Actions ∷ []) (action_form before) old
action_opens before old sees t ts e g more k = let kind = seen Action t old ts e sees in rw kind refl

state_opens : (before : ℕ) (old : List Piece) → SeesKind State old → Opens (of.State before) before MAX_STATES (P of.StateMarks ∷ P of.Actions ∷ P of.States ∷ []) (state_form before) old
state_opens before old sees t ts e g more k = let kind = seen State t old ts e sees in rw kind refl

class_opens : (c o s : ℕ) (old : List Piece) → SeesKind Class old
    → Opens (of.File c o s) c MAX_CLASSES (P of.ClassMarks ∷ P of.ClassParamLists ∷ P of.States ∷ P of.Files ∷ []) (class_form c o s) old
class_opens c o s old sees t ts e g more k = let kind = seen Class t old ts e sees in rw kind refl

object_opens : (c o s : ℕ) (old : List Piece) → SeesKind Object old → Opens (of.File c o s) o MAX_OBJECTS (B IsOfClass ∷ B Name ∷ P of.Files ∷ []) (object_form c o s) old
object_opens c o s old sees t ts e g more k = let kind = seen Object t old ts e sees in rw kind refl

set_opens : (c o s : ℕ) (old : List Piece) → SeesKind ObjectSet old
    → Opens (of.File c o s) s MAX_SETS (B OpenBrace ∷ P of.MemberLists ∷ B CloseBrace ∷ P of.Files ∷ []) (set_form c o s) old
set_opens c o s old sees t ts e g more k = let kind = seen ObjectSet t old ts e sees in rw kind refl

-- an action
action_trail : (before : ℕ) (old x : List Piece) (w : List ℕ) → SeesKind Action old → Headed before MAX_ACTIONS old x w → Trail (of.Action before) _ (action_form before w) old x
action_trail before old x w sees h = h.1 (of.Action before) _ (action_form before) (action_opens before old sees)

pub action_head_err : (before : ℕ) (old new : List Piece) (e : Stop) → SeesKind Action old → ReadsHead before MAX_ACTIONS old new (Err e) → Stops (of.Action before) old e
action_head_err before old new e sees h = h (of.Action before) _ (action_form before) (action_opens before old sees)

pub action_ok : (before : ℕ) (old x y new : List Piece) (w : List ℕ) (params : List ActionParamData) (body : List InstrData) → SeesKind Action old
    → Headed before MAX_ACTIONS old x w → Read of.ActionParamList params x y → Read (of.Block 0) body y new
    → Ahead (of.Action before) (of.Action (before + 1)) (λ v. record { name = w; params = params; body = block_of body } ∷ v) old new
action_ok before old x y new w params body sees h a b = (omega (arith, h.0, a.0, b.0), λ g more k. action_trail before old x w sees h g more k ∙ a.1 g _ _ ∙ b.1 g _ _)

pub action_params_err : (before : ℕ) (old x : List Piece) (w : List ℕ) (e : Stop) → SeesKind Action old → Headed before MAX_ACTIONS old x w → Stops of.ActionParamList x e → Stops (of.Action before) old e
action_params_err before old x w stop.Memory sees h a = tt
action_params_err before old x w (stop.Fault f) sees h a = λ g more k. action_trail before old x w sees h g more k ∙ a g _ _

pub action_body_err : (before : ℕ) (old x y : List Piece) (w : List ℕ) (params : List ActionParamData) (e : Stop) → SeesKind Action old
    → Headed before MAX_ACTIONS old x w → Read of.ActionParamList params x y → Stops (of.Block 0) y e → Stops (of.Action before) old e
action_body_err before old x y w params stop.Memory sees h a b = tt
action_body_err before old x y w params (stop.Fault f) sees h a b = λ g more k. action_trail before old x w sees h g more k ∙ a.1 g _ _ ∙ b g _ _

-- a state
state_trail : (before : ℕ) (old x : List Piece) (w : List ℕ) → SeesKind State old → Headed before MAX_STATES old x w → Trail (of.State before) _ (state_form before w) old x
state_trail before old x w sees h = h.1 (of.State before) _ (state_form before) (state_opens before old sees)

pub state_head_err : (before : ℕ) (old new : List Piece) (e : Stop) → SeesKind State old → ReadsHead before MAX_STATES old new (Err e) → Stops (of.State before) old e
state_head_err before old new e sees h = h (of.State before) _ (state_form before) (state_opens before old sees)

pub state_ok : (before : ℕ) (old x y new : List Piece) (w : List ℕ) (marks : Marks) (actions : List ActionData) → SeesKind State old
    → Headed before MAX_ACTIONS old x w → Read of.StateMark marks x y → Read (of.Action 0) actions y new
    → Ahead (of.State before) (of.State (before + 1)) (λ v. record { name = w; initial = marks.initial; dead = marks.dead; actions = actions } ∷ v) old new
state_ok before old x y new w marks actions sees h a b = (omega (arith, h.0, a.0, b.0), λ g more k. state_trail before old x w sees h g more k ∙ a.1 g _ _ ∙ b.1 g _ _)

pub state_marks_err : (before : ℕ) (old x : List Piece) (w : List ℕ) (e : Stop) → SeesKind State old → Headed before MAX_STATES old x w → Stops of.StateMark x e → Stops (of.State before) old e
state_marks_err before old x w stop.Memory sees h a = tt
state_marks_err before old x w (stop.Fault f) sees h a = λ g more k. state_trail before old x w sees h g more k ∙ a g _ _

pub state_actions_err : (before : ℕ) (old x y : List Piece) (w : List ℕ) (marks : Marks) (e : Stop) → SeesKind State old
    → Headed before MAX_STATES old x w → Read of.StateMark marks x y → Stops (of.Action 0) y e → Stops (of.State before) old e
state_actions_err before old x y w marks stop.Memory sees h a b = tt
state_actions_err before old x y w marks (stop.Fault f) sees h a b = λ g more k. state_trail before old x w sees h g more k ∙ a.1 g _ _ ∙ b g _ _

-- a class
class_trail : (c o s : ℕ) (old x : List Piece) (w : List ℕ) → SeesKind Class old → Headed c MAX_CLASSES old x w → Trail (of.File c o s) _ (class_form c o s w) old x
class_trail c o s old x w sees h = h.1 (of.File c o s) _ (class_form c o s) (class_opens c o s old sees)

pub class_head_err : (c o s : ℕ) (old new : List Piece) (e : Stop) → SeesKind Class old → ReadsHead c MAX_CLASSES old new (Err e) → Stops (of.File c o s) old e
class_head_err c o s old new e sees h = h (of.File c o s) _ (class_form c o s) (class_opens c o s old sees)

pub class_ok : (c o s : ℕ) (old x y z new : List Piece) (w : List ℕ) (associated : Bool) (params : List ClassParamData) (states : List StateData) → SeesKind Class old
    → Headed c MAX_CLASSES old x w → Read of.ClassMark associated x y → Read of.ClassParamList params y z → Read (of.State 0) states z new
    → Ahead (of.File c o s) (of.File (c + 1) o s) (λ v. said.class (record { name = w; associated = associated; params = params; states = states }) ∷ v) old new
class_ok c o s old x y z new w associated params states sees h a b d =
    (omega (arith, h.0, a.0, b.0, d.0), λ g more k. class_trail c o s old x w sees h g more k ∙ a.1 g _ _ ∙ b.1 g _ _ ∙ d.1 g _ _)

pub class_mark_err : (c o s : ℕ) (old x : List Piece) (w : List ℕ) (e : Stop) → SeesKind Class old → Headed c MAX_CLASSES old x w → Stops of.ClassMark x e → Stops (of.File c o s) old e
class_mark_err c o s old x w stop.Memory sees h a = tt
class_mark_err c o s old x w (stop.Fault f) sees h a = λ g more k. class_trail c o s old x w sees h g more k ∙ a g _ _

pub class_params_err : (c o s : ℕ) (old x y : List Piece) (w : List ℕ) (associated : Bool) (e : Stop) → SeesKind Class old
    → Headed c MAX_CLASSES old x w → Read of.ClassMark associated x y → Stops of.ClassParamList y e → Stops (of.File c o s) old e
class_params_err c o s old x y w associated stop.Memory sees h a b = tt
class_params_err c o s old x y w associated (stop.Fault f) sees h a b = λ g more k. class_trail c o s old x w sees h g more k ∙ a.1 g _ _ ∙ b g _ _

pub class_states_err : (c o s : ℕ) (old x y z : List Piece) (w : List ℕ) (associated : Bool) (params : List ClassParamData) (e : Stop) → SeesKind Class old
    → Headed c MAX_CLASSES old x w → Read of.ClassMark associated x y → Read of.ClassParamList params y z → Stops (of.State 0) z e → Stops (of.File c o s) old e
class_states_err c o s old x y z w associated params stop.Memory sees h a b d = tt
class_states_err c o s old x y z w associated params (stop.Fault f) sees h a b d = λ g more k. class_trail c o s old x w sees h g more k ∙ a.1 g _ _ ∙ b.1 g _ _ ∙ d g _ _

-- an object
object_trail : (c o s : ℕ) (old x : List Piece) (w : List ℕ) → SeesKind Object old → Headed o MAX_OBJECTS old x w → Trail (of.File c o s) _ (object_form c o s w) old x
object_trail c o s old x w sees h = h.1 (of.File c o s) _ (object_form c o s) (object_opens c o s old sees)

pub object_head_err : (c o s : ℕ) (old new : List Piece) (e : Stop) → SeesKind Object old → ReadsHead o MAX_OBJECTS old new (Err e) → Stops (of.File c o s) old e
object_head_err c o s old new e sees h = h (of.File c o s) _ (object_form c o s) (object_opens c o s old sees)

pub object_ok : (c o s : ℕ) (old x y new : List Piece) (w w' : List ℕ) (b d : Piece) → SeesKind Object old
    → Headed o MAX_OBJECTS old x w → Taken IsOfClass b x y → Taken Name d y new → w' ≡ name d
    → Ahead (of.File c o s) (of.File c (o + 1) s) (λ v. said.object (record { name = w; class = w' }) ∷ v) old new
object_ok c o s old x y new w w' b d sees h is_of class is = (
  omega (arith, h.0, ap length is_of.0, ap length class.0),
  λ g more k. object_trail c o s old x w sees h g more k ∙ rw (is_of.0, class.0, is) (rw (is_of.1, class.1) refl),
)

pub object_word_err : (c o s : ℕ) (old x y : List Piece) (w : List ℕ) (e : Stop) → SeesKind Object old → Headed o MAX_OBJECTS old x w → ReadsToken IsOfClass x y (Err e) → Stops (of.File c o s) old e
object_word_err c o s old x y w stop.Memory sees h none = tt
object_word_err c o s old x y w (stop.Fault f) sees h none = λ g more k. object_trail c o s old x w sees h g more k ∙ none g _ _ _

pub object_class_err : (c o s : ℕ) (old x y new : List Piece) (w : List ℕ) (b : Piece) (e : Stop) → SeesKind Object old
    → Headed o MAX_OBJECTS old x w → Taken IsOfClass b x y → ReadsToken Name y new (Err e) → Stops (of.File c o s) old e
object_class_err c o s old x y new w b stop.Memory sees h is_of none = tt
object_class_err c o s old x y new w b (stop.Fault f) sees h is_of none = λ g more k. object_trail c o s old x w sees h g more k ∙ rw is_of.0 (rw is_of.1 (none g _ _ _))

-- a set
set_trail : (c o s : ℕ) (old x : List Piece) (w : List ℕ) → SeesKind ObjectSet old → Headed s MAX_SETS old x w → Trail (of.File c o s) _ (set_form c o s w) old x
set_trail c o s old x w sees h = h.1 (of.File c o s) _ (set_form c o s) (set_opens c o s old sees)

pub set_head_err : (c o s : ℕ) (old new : List Piece) (e : Stop) → SeesKind ObjectSet old → ReadsHead s MAX_SETS old new (Err e) → Stops (of.File c o s) old e
set_head_err c o s old new e sees h = h (of.File c o s) _ (set_form c o s) (set_opens c o s old sees)

pub set_ok : (c o s : ℕ) (old x y z new : List Piece) (w : List ℕ) (members : List (List ℕ)) (b d : Piece) → SeesKind ObjectSet old
    → Headed s MAX_SETS old x w → Taken OpenBrace b x y → Read of.Members members y z → Taken CloseBrace d z new
    → Ahead (of.File c o s) (of.File c o (s + 1)) (λ v. said.group (record { name = w; members = members }) ∷ v) old new
set_ok c o s old x y z new w members b d sees h open' a close = (
  omega (arith, h.0, ap length open'.0, a.0, ap length close.0),
  λ g more k. set_trail c o s old x w sees h g more k ∙ rw open'.0 (rw open'.1 (a.1 g _ _ ∙ rw close.0 (rw close.1 refl))),
)

pub set_brace_err : (c o s : ℕ) (old x y : List Piece) (w : List ℕ) (e : Stop) → SeesKind ObjectSet old → Headed s MAX_SETS old x w → ReadsToken OpenBrace x y (Err e) → Stops (of.File c o s) old e
set_brace_err c o s old x y w stop.Memory sees h none = tt
set_brace_err c o s old x y w (stop.Fault f) sees h none = λ g more k. set_trail c o s old x w sees h g more k ∙ none g _ _ _

pub set_members_err : (c o s : ℕ) (old x y : List Piece) (w : List ℕ) (b : Piece) (e : Stop) → SeesKind ObjectSet old
    → Headed s MAX_SETS old x w → Taken OpenBrace b x y → Stops of.Members y e → Stops (of.File c o s) old e
set_members_err c o s old x y w b stop.Memory sees h open' a = tt
set_members_err c o s old x y w b (stop.Fault f) sees h open' a = λ g more k. set_trail c o s old x w sees h g more k ∙ rw open'.0 (rw open'.1 (a g _ _))

pub set_end_err : (c o s : ℕ) (old x y z new : List Piece) (w : List ℕ) (members : List (List ℕ)) (b : Piece) (e : Stop) → SeesKind ObjectSet old
    → Headed s MAX_SETS old x w → Taken OpenBrace b x y → Read of.Members members y z → ReadsToken CloseBrace z new (Err e) → Stops (of.File c o s) old e
set_end_err c o s old x y z new w members b stop.Memory sees h open' a none = tt
set_end_err c o s old x y z new w members b (stop.Fault f) sees h open' a none =
    λ g more k. set_trail c o s old x w sees h g more k ∙ rw open'.0 (rw open'.1 (a.1 g _ _ ∙ none g _ _ _))

-- the members of a set or the brace behind them are refused
pub set_refused : {X : Type 0} (view : X → List (List ℕ)) (c o s : ℕ) (old x y z new : List Piece) (w : List ℕ) (read made : Result X Stop) (b : Piece) (e : Stop) → made ≡ Err e → SeesKind ObjectSet old
    → Headed s MAX_SETS old x w → Taken OpenBrace b x y → Reads of.Members view y z read → ClosesAs CloseBrace z new (λ v. v) read made → Stops (of.File c o s) old e
set_refused view c o s old x y z new w read (Ok v) b e none sees h open' a close = absurd (cc none)
set_refused view c o s old x y z new w (Ok v) (Err f) b e none sees h open' a close = let same : e ≡ f = cc none in rw same (set_end_err c o s old x y z new w (view v) b f sees h open' a close)
set_refused view c o s old x y z new w (Err d) (Err f) b e none sees h open' a close = let same : e ≡ d = cc (none, close) in rw same (set_members_err c o s old x y w b d sees h open' a)

-- a set, its members and the brace behind them
pub set_whole : {X : Type 0} (view : X → List (List ℕ)) (c o s : ℕ) (old x y z new : List Piece) (w : List ℕ) (read made : Result X Stop) (v : X) (b : Piece) → made ≡ Ok v → SeesKind ObjectSet old
    → Headed s MAX_SETS old x w → Taken OpenBrace b x y → Reads of.Members view y z read → ClosesAs CloseBrace z new (λ v. v) read made
    → Ahead (of.File c o s) (of.File c o (s + 1)) (λ u. said.group (record { name = w; members = view v }) ∷ u) old new
set_whole view c o s old x y z new w (Ok u) made v b got sees h open' a close =
    let close' = rw got at close in
    rw close'.0 (set_ok c o s old x y z new w (view u) b close'.1.0 sees h open' a (close'.1.1, close'.1.2))
set_whole view c o s old x y z new w (Err d) made v b got sees h open' a close = absurd (cc (got, close))
