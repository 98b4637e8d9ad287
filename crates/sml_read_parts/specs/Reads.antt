-- What a method of the reader promises, of the tokens that were left before it and are left behind it.
use Rattle.std.specs.Prelude.{◌≡◌, ◌<◌, ◌≤◌, length, List, [], ◌∷◌, Option, Some, None, Result, Ok, Err}
use Rattle.sml_tree.specs.declared.token_kind.TokenKind.{TokenKind}
use Rattle.sml_tree.specs.Piece.{Piece}
use Rattle.sml_tree.specs.Form.{Bone, B, P, Form, needs, calls, Mark, Part, family, Value}
use Rattle.sml_read_parts.specs.declared.fault.Fault.{Fault}
use Rattle.sml_read_parts.specs.declared.fault.Fault.TheVariants.{Ends, Unexpected}
use Rattle.sml_read_parts.specs.declared.fault.Stop.{Stop}
use Rattle.sml_read_parts.specs.declared.fault.Stop.TheVariants as stop
use Rattle.sml_read_parts.specs.Machine.{run}

-- the tokens are refused, with anything behind the part
abbrev pub Refuses : Part → List Piece → Fault → Type 0
Refuses n old f = (g : Part) (more : List Bone) (k : Value n → Form (Value g) more) →
    run g (P (family n) ∷ more) (calls n k) old ≡ Err f

-- reading continues behind the part, which was worth this
abbrev pub Passes : (n : Part) → Value n → List Piece → List Piece → Type 0
Passes n v old new = (g : Part) (more : List Bone) (k : Value n → Form (Value g) more) →
    run g (P (family n) ∷ more) (calls n k) old ≡ run g more (k v) new

-- reading continues with another part, whose worth is mapped by a function
abbrev pub LeadsOn : (n next : Part) → (Value next → Value n) → List Piece → List Piece → Type 0
LeadsOn n next front old new = (g : Part) (more : List Bone) (k : Value n → Form (Value g) more) →
    run g (P (family n) ∷ more) (calls n k) old ≡ run g (P (family next) ∷ more) (calls next (λ v. k (front v))) new

-- a stop is a refusal of the tokens, or out of memory
abbrev pub Stops : Part → List Piece → Stop → Type 0
Stops n old stop.Memory = Unit {0}
Stops n old (stop.Fault f) = Refuses n old f

-- what is read of a part
abbrev pub Reads : {X : Type 0} (n : Part) → (X → Value n) → List Piece → List Piece → Result X Stop → Type 0
Reads n view old new (Ok x) = (length new ≤ length old) × Passes n (view x) old new
Reads n view old new (Err e) = Stops n old e

-- what is read of a token of one kind
abbrev pub ReadsToken : TokenKind → List Piece → List Piece → Result Piece Stop → Type 0
ReadsToken kind old new (Ok x) = (old ≡ x ∷ new) × (x.kind ≡ kind)
ReadsToken kind old new (Err stop.Memory) = ⊥
ReadsToken kind old new (Err (stop.Fault f)) = (g : Part) (more : List Bone) (mark : Mark) (k : Piece →
    Form (Value g) more) → run g (B kind ∷ more) (needs kind mark k) old ≡ Err f

-- what is read of the first part of a list, which is empty if there is no first part
abbrev pub ReadsNext : {X : Type 0} (n next : Part) → (X → Value next → Value n) → Value n → List Piece → List Piece →
    Result (Option X) Stop → Type 0
ReadsNext n next front none old new (Ok None) = (new ≡ old) × Passes n none old new
ReadsNext n next front none old new (Ok (Some x)) = (length new < length old) × LeadsOn n next (front x) old new
ReadsNext n next front none old new (Err e) = Stops n old e

-- the same of a first part that is there
abbrev pub ReadsFront : {X : Type 0} (n next : Part) → (X → Value next → Value n) → List Piece → List Piece →
    Result X Stop → Type 0
ReadsFront n next front old new (Ok x) = (length new < length old) × LeadsOn n next (front x) old new
ReadsFront n next front old new (Err e) = Stops n old e

-- the kind of the token in front
abbrev pub SeesTokenKind : List Piece → Option TokenKind → Type 0
SeesTokenKind [] seen = seen ≡ None
SeesTokenKind (t ∷ ts) seen = seen ≡ Some t.kind

-- a token of this kind is in front
abbrev pub SeesKind : TokenKind → List Piece → Type 0
SeesKind kind [] = ⊥
SeesKind kind (t ∷ ts) = t.kind ≡ kind

-- what is returned is what the machine returns, unless memory ran out
abbrev pub Gives : {X Y : Type 0} → (X → Y) → Result X Stop → Result Y Fault → Type 0
Gives view (Ok x) read = read ≡ Ok (view x)
Gives view (Err stop.Memory) read = Unit {0}
Gives view (Err (stop.Fault f)) read = read ≡ Err f

-- the fault of tokens that do not continue as they should
abbrev pub Refusal : List Piece → Fault → Type 0
Refusal [] f = f ≡ Ends
Refusal (t ∷ ts) f = f ≡ Unexpected t.at

-- a stop is a fault of which something is said
abbrev pub IfFault : Stop → (Fault → Type 0) → Type 0
IfFault stop.Memory Q = ⊥
IfFault (stop.Fault f) Q = Q f
