-- A conjunction is read as its first operand, and a condition as its first conjunction.
use Rattle.std.proofs.Common.{◌≡◌, ◌≤◌, ◌+◌, ℕ, true, false, List, [], ◌∷◌, refl, ap, ◌∙◌, length, nat_lt, Result, Ok, Err, OnOk, arith}
use Rattle.sml_tree.specs.declared.token_kind.TokenKind.{TokenKind}
use Rattle.sml_tree.specs.declared.token_kind.TokenKind.TheVariants.{Class, And, Or, Not, OpenBracket, CloseBracket}
use Rattle.sml_tree.specs.Piece.{Piece}
use Rattle.sml_tree.specs.declared.cond.Cond.{Cond}
use Rattle.sml_tree.specs.Content.{cond_content}
use Rattle.sml_tree.specs.Syntax.{CondData, both, either, neither}
use Rattle.sml_tree.specs.Form as of
use Rattle.sml_tree.specs.Form.{Bone, P, Form, Part, family, Value, Counted, calls}
use Rattle.sml_tree.specs.Grammar.{rules}
use Rattle.sml_read_parts.specs.declared.fault.Fault.TheVariants.{TooDeep}
use Rattle.sml_read_parts.specs.declared.fault.Stop.{Stop}
use Rattle.sml_read_parts.specs.declared.fault.Stop.TheVariants as stop
use Rattle.sml_read_parts.specs.Reads.{Reads, LeadsOn, Passes, Refuses, Stops, SeesKind, ReadsToken}
use Rattle.sml_read_parts.specs.Machine.{chosen, TokenMove, Stuck, take_rule, or_else, run}
use Rattle.sml_read_parts.specs.Made.{MadeOf}
use Rattle.sml_read_parts.specs.Stands.{ClosesAs}
use Rattle.sml_read_parts.proofs.Heads.{Read}
use Rattle.sml_read_parts.proofs.Steps.{Taken, seen}
use Rattle.sml_tree.specs.declared.limits.TheConstants.{MAX_OPEN, MAX_TESTS}

-- what a token does to a part that may not be left out
abbrev moved : (n g : Part) (more : List Bone) → (Value n → Form (Value g) more) → Piece → TokenKind → TokenMove g
moved n g more k t c = or_else (chosen (rules n) c) (take_rule n g more k t) Stuck

conj_moved : (d n : ℕ) (g : Part) (more : List Bone) (k : Counted → Form (Value g) more) (t : Piece) (c : TokenKind)
    → moved (of.Conj d n) g more k t c ≡ moved (of.Unit' d n) g (P of.MoreAnds ∷ more) (λ u. calls (of.MoreAnd d u.count u.formula) k) t c
conj_moved d n g more k t Class = refl
conj_moved d n g more k t _ = refl

cond_moved : (d n : ℕ) (g : Part) (more : List Bone) (k : Counted → Form (Value g) more) (t : Piece) (c : TokenKind)
    → moved (of.Cond d n) g more k t c ≡ moved (of.Conj d n) g (P of.MoreOrs ∷ more) (λ u. calls (of.MoreOr d u.count u.formula) k) t c
cond_moved d n g more k t Class = refl
cond_moved d n g more k t _ = refl

pub conj_run : (d n : ℕ) (g : Part) (more : List Bone) (k : Counted → Form (Value g) more) (ts : List Piece)
    → run g (P of.Conjs ∷ more) (calls (of.Conj d n) k) ts ≡ run g (P of.Units ∷ P of.MoreAnds ∷ more) (calls (of.Unit' d n) (λ u. calls (of.MoreAnd d u.count u.formula) k)) ts
conj_run d n g more k [] = refl
conj_run d n g more k (t ∷ ts) = rw (conj_moved d n g more k t t.kind) refl

pub cond_run : (d n : ℕ) (g : Part) (more : List Bone) (k : Counted → Form (Value g) more) (ts : List Piece)
    → run g (P of.Conds ∷ more) (calls (of.Cond d n) k) ts ≡ run g (P of.Conjs ∷ P of.MoreOrs ∷ more) (calls (of.Conj d n) (λ u. calls (of.MoreOr d u.count u.formula) k)) ts
cond_run d n g more k [] = refl
cond_run d n g more k (t ∷ ts) = rw (cond_moved d n g more k t t.kind) refl

-- one more operand of a chain of `and`
pub and_step : (d n n' : ℕ) (left right x : CondData) (t : Piece) (old mid new : List Piece)
    → old ≡ t ∷ mid → t.kind ≡ And → x ≡ both left right → Passes (of.Unit' d n) (record { formula = right; count = n' }) mid new
    → (g : Part) (more : List Bone) (k : Counted → Form (Value g) more) → run g (P of.MoreAnds ∷ more) (calls (of.MoreAnd d n left) k) old ≡ run g (P of.MoreAnds ∷ more) (calls (of.MoreAnd d n' x) k) new
and_step d n n' left right x t old mid new e kind same passes g more k =
    rw (e, same) (rw kind (passes g (P of.MoreAnds ∷ more) (λ u. calls (of.MoreAnd d u.count (both left u.formula)) k)))

-- one more operand of a chain of `or`
pub or_step : (d n n' : ℕ) (left right x : CondData) (t : Piece) (old mid new : List Piece)
    → old ≡ t ∷ mid → t.kind ≡ Or → x ≡ either left right → Passes (of.Conj d n) (record { formula = right; count = n' }) mid new
    → (g : Part) (more : List Bone) (k : Counted → Form (Value g) more) → run g (P of.MoreOrs ∷ more) (calls (of.MoreOr d n left) k) old ≡ run g (P of.MoreOrs ∷ more) (calls (of.MoreOr d n' x) k) new
or_step d n n' left right x t old mid new e kind same passes g more k =
    rw (e, same) (rw kind (passes g (P of.MoreOrs ∷ more) (λ u. calls (of.MoreOr d u.count (either left u.formula)) k)))

-- an operand of a chain of `and` is refused
pub and_err : (d n : ℕ) (left : CondData) (t : Piece) (old mid : List Piece) (e : Stop) → old ≡ t ∷ mid → t.kind ≡ And → Stops (of.Unit' d n) mid e → Stops (of.MoreAnd d n left) old e
and_err d n left t old mid stop.Memory first kind a = tt
and_err d n left t old mid (stop.Fault f) first kind a = λ g more k. rw first (rw kind (a g _ _))

-- an operand of a chain of `or` is refused
pub or_err : (d n : ℕ) (left : CondData) (t : Piece) (old mid : List Piece) (e : Stop) → old ≡ t ∷ mid → t.kind ≡ Or → Stops (of.Conj d n) mid e → Stops (of.MoreOr d n left) old e
or_err d n left t old mid stop.Memory first kind a = tt
or_err d n left t old mid (stop.Fault f) first kind a = λ g more k. rw first (rw kind (a g _ _))

-- a `not` inside too many others
pub not_deep : (d n : ℕ) (t : Piece) (old new : List Piece) → old ≡ t ∷ new → SeesKind Not old → nat_lt d MAX_OPEN ≡ false → Refuses (of.Unit' d n) old (TooDeep t.at)
not_deep d n t old new e sees full = let kind = seen Not t old new e sees in λ g more k. rw (e, kind, full) refl

-- what a `not` denies is refused
pub not_err : (d n : ℕ) (t : Piece) (old mid : List Piece) (e : Stop) → old ≡ t ∷ mid → SeesKind Not old → nat_lt d MAX_OPEN ≡ true → Stops (of.Unit' (d + 1) n) mid e → Stops (of.Unit' d n) old e
not_err d n t old mid stop.Memory first sees room a = tt
not_err d n t old mid (stop.Fault f) first sees room a = let kind = seen Not t old mid first sees in λ g more k. rw (first, kind, room) (a g _ _)

pub not_ok : (d n n' : ℕ) (inner x : CondData) (t : Piece) (old mid new : List Piece) → old ≡ t ∷ mid → SeesKind Not old → nat_lt d MAX_OPEN ≡ true
    → Read (of.Unit' (d + 1) n) (record { formula = inner; count = n' }) mid new → x ≡ neither inner → Read (of.Unit' d n) (record { formula = x; count = n' }) old new
not_ok d n n' inner x t old mid new first sees room a is =
    let kind = seen Not t old mid first sees in
    (omega (arith, ap length first, a.0), λ g more k. rw (first, kind, room, is) (a.1 g _ _))

-- a bracket inside too many others
pub bracket_deep : (d n : ℕ) (t : Piece) (old new : List Piece) → old ≡ t ∷ new → SeesKind OpenBracket old → nat_lt d MAX_OPEN ≡ false → Refuses (of.Unit' d n) old (TooDeep t.at)
bracket_deep d n t old new e sees full = let kind = seen OpenBracket t old new e sees in λ g more k. rw (e, kind, full) refl

-- what is in brackets is refused
pub bracket_err : (d n : ℕ) (t : Piece) (old mid : List Piece) (e : Stop) → old ≡ t ∷ mid → SeesKind OpenBracket old → nat_lt d MAX_OPEN ≡ true → Stops (of.Cond (d + 1) n) mid e → Stops (of.Unit' d n) old e
bracket_err d n t old mid stop.Memory first sees room a = tt
bracket_err d n t old mid (stop.Fault f) first sees room a = let kind = seen OpenBracket t old mid first sees in λ g more k. rw (first, kind, room) (a g _ _)

-- the second bracket is not there
pub bracket_open : (d n : ℕ) (v : Counted) (t : Piece) (old mid u new : List Piece) (e : Stop) → old ≡ t ∷ mid → SeesKind OpenBracket old → nat_lt d MAX_OPEN ≡ true
    → Read (of.Cond (d + 1) n) v mid u → ReadsToken CloseBracket u new (Err e) → Stops (of.Unit' d n) old e
bracket_open d n v t old mid u new stop.Memory first sees room a none = tt
bracket_open d n v t old mid u new (stop.Fault f) first sees room a none =
    let kind = seen OpenBracket t old mid first sees in
    λ g more k. rw (first, kind, room) (a.1 g _ _ ∙ none g _ _ _)

-- what holds where something was read holds where something was made of it
pub made_room : {X Y : Type 0} (Q : X → Y → Type 0) (r : Result X Stop) (made : Result Y Stop) (R : Type 0) → MadeOf r made Q → OnOk r R → OnOk made R
made_room Q (Ok x) (Ok y) R is h = h
made_room Q (Err e) (Ok y) R is h = absurd (cc is)
made_room Q r (Err e) R is h = tt

-- a `not` was made
pub not_made : {A : Type 0} (d n n' : ℕ) (r made : Result (Cond A) Stop) (t : Piece) (old mid new : List Piece) → old ≡ t ∷ mid → SeesKind Not old → nat_lt d MAX_OPEN ≡ true
    → Reads (of.Unit' (d + 1) n) (λ c. record { formula = cond_content c; count = n' }) mid new r → MadeOf r made (λ x c. cond_content c ≡ neither (cond_content x))
    → Reads (of.Unit' d n) (λ c. record { formula = cond_content c; count = n' }) old new made
not_made d n n' (Ok x) (Ok c) t old mid new first sees room a is = not_ok d n n' (cond_content x) (cond_content c) t old mid new first sees room a is
not_made d n n' (Ok x) (Err e) t old mid new first sees room a is = rw is tt
not_made d n n' (Err e) made t old mid new first sees room a is = rw is (not_err d n t old mid e first sees room a)

pub bracket_ok : (d n : ℕ) (v : Counted) (t s : Piece) (old mid u new : List Piece) → old ≡ t ∷ mid → SeesKind OpenBracket old → nat_lt d MAX_OPEN ≡ true
    → Read (of.Cond (d + 1) n) v mid u → Taken CloseBracket s u new → Read (of.Unit' d n) v old new
bracket_ok d n v t s old mid u new first sees room a close =
    let kind = seen OpenBracket t old mid first sees in
    (omega (arith, ap length first, a.0, ap length close.0), λ g more k. rw (first, kind, room) (a.1 g _ _ ∙ rw close.0 (rw close.1 refl)))

-- what is in brackets, and what may be the second of them
pub bracket_closed : {X : Type 0} (view : X → Counted) (d n : ℕ) (r made : Result X Stop) (t : Piece) (old mid u new : List Piece) → old ≡ t ∷ mid → SeesKind OpenBracket old → nat_lt d MAX_OPEN ≡ true
    → Reads (of.Cond (d + 1) n) view mid u r → ClosesAs CloseBracket u new (λ x. x) r made → Reads (of.Unit' d n) view old new made
bracket_closed view d n (Ok x) (Ok y) t old mid u new first sees room a close = rw close.0 (bracket_ok d n (view x) t close.1.0 old mid u new first sees room a (close.1.1, close.1.2))
bracket_closed view d n (Ok x) (Err e) t old mid u new first sees room a close = bracket_open d n (view x) t old mid u new e first sees room a close
bracket_closed view d n (Err e) made t old mid u new first sees room a close = rw close (bracket_err d n t old mid e first sees room a)

-- what holds where something was read holds where it was passed on
pub ended_room : {X Y : Type 0} (kind : TokenKind) (form : X → Y) (r : Result X Stop) (made : Result Y Stop) (old new : List Piece) (R : Type 0) → ClosesAs kind old new form r made → OnOk r R → OnOk made R
ended_room kind form (Ok x) (Ok y) old new R close h = h
ended_room kind form (Err e) (Ok y) old new R close h = absurd (cc close)
ended_room kind form r (Err e) old new R close h = tt

-- the first operand is refused
pub conj_err : (d n : ℕ) (old : List Piece) (e : Stop) → Stops (of.Unit' d n) old e → Stops (of.Conj d n) old e
conj_err d n old stop.Memory a = tt
conj_err d n old (stop.Fault f) a = λ g more k. conj_run d n g more k old ∙ a g _ _

-- the first conjunction is refused
pub cond_err : (d n : ℕ) (old : List Piece) (e : Stop) → Stops (of.Conj d n) old e → Stops (of.Cond d n) old e
cond_err d n old stop.Memory a = tt
cond_err d n old (stop.Fault f) a = λ g more k. cond_run d n g more k old ∙ a g _ _

-- the first operand was read, and others may follow
pub conj_begun : (d n m : ℕ) (first : CondData) (old new : List Piece) → Passes (of.Unit' d n) (record { formula = first; count = m }) old new
    → LeadsOn (of.Conj d n) (of.MoreAnd d m first) (λ v. v) old new
conj_begun d n m first old new a g more k = conj_run d n g more k old ∙ a g _ _

-- the first conjunction was read, and others may follow
pub cond_begun : (d n m : ℕ) (first : CondData) (old new : List Piece) → Passes (of.Conj d n) (record { formula = first; count = m }) old new
    → LeadsOn (of.Cond d n) (of.MoreOr d m first) (λ v. v) old new
cond_begun d n m first old new a g more k = cond_run d n g more k old ∙ a g _ _

-- one more operand of a chain of `and` was read
pub and_more : {A : Type 0} (n d m m' : ℕ) (left x : Cond A) (r made : Result (Cond A) Stop) (t : Piece) (first old mid new : List Piece) → made ≡ Ok x → MadeOf r made (λ y c. cond_content c ≡ both (cond_content left) (cond_content y))
    → length old ≤ length first → OnOk r (m' ≤ MAX_TESTS) → LeadsOn (of.Conj d n) (of.MoreAnd d m (cond_content left)) (λ v. v) first old → old ≡ t ∷ mid → t.kind ≡ And
    → Reads (of.Unit' d m) (λ c. record { formula = cond_content c; count = m' }) mid new r
    → (length new ≤ length first) × (m' ≤ MAX_TESTS) × LeadsOn (of.Conj d n) (of.MoreAnd d m' (cond_content x)) (λ v. v) first new
and_more n d m m' left x (Ok y) made t first old mid new got is le room before e kind a =
    let content = rw got at is in (
      omega (arith, le, ap length e, a.0),
      room,
      λ g more k. before g more k ∙ and_step d m m' (cond_content left) (cond_content y) (cond_content x) t old mid new e kind content a.1 g more k,
    )
and_more n d m m' left x (Err s) made t first old mid new got is le room before e kind a = absurd (cc (got, is))

-- one more operand of a chain of `or` was read
pub or_more : {A : Type 0} (n d m m' : ℕ) (left x : Cond A) (r made : Result (Cond A) Stop) (t : Piece) (first old mid new : List Piece) → made ≡ Ok x → MadeOf r made (λ y c. cond_content c ≡ either (cond_content left) (cond_content y))
    → length old ≤ length first → OnOk r (m' ≤ MAX_TESTS) → LeadsOn (of.Cond d n) (of.MoreOr d m (cond_content left)) (λ v. v) first old → old ≡ t ∷ mid → t.kind ≡ Or
    → Reads (of.Conj d m) (λ c. record { formula = cond_content c; count = m' }) mid new r
    → (length new ≤ length first) × (m' ≤ MAX_TESTS) × LeadsOn (of.Cond d n) (of.MoreOr d m' (cond_content x)) (λ v. v) first new
or_more n d m m' left x (Ok y) made t first old mid new got is le room before e kind a =
    let content = rw got at is in (
      omega (arith, le, ap length e, a.0),
      room,
      λ g more k. before g more k ∙ or_step d m m' (cond_content left) (cond_content y) (cond_content x) t old mid new e kind content a.1 g more k,
    )
or_more n d m m' left x (Err s) made t first old mid new got is le room before e kind a = absurd (cc (got, is))
