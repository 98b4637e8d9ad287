-- A token that may be in front, and one that closes what was read.
use Rattle.std.specs.Prelude.{ℕ, ◌≡◌, ◌==◌, nat_lt, List, [], ◌∷◌, Bool, true, false, Result, Ok, Err}
use Rattle.sml_tree.specs.declared.token_kind.TokenKind.{TokenKind}
use Rattle.sml_tree.specs.declared.token_kind.TokenKind.TheVariants.{Name, Slash}
use Rattle.sml_tree.specs.Piece.{Piece}
use Rattle.sml_tree.specs.Form.{Bone, B, Form, needs, Many, Part, Value}
use Rattle.sml_tree.specs.Grammar.{most, name}
use Rattle.sml_read_parts.specs.declared.fault.Fault.TheVariants.{TooDeep}
use Rattle.sml_read_parts.specs.declared.fault.Stop.{Stop}
use Rattle.sml_read_parts.specs.declared.fault.Stop.TheVariants as stop
use Rattle.sml_read_parts.specs.Machine.{code, run}
use Rattle.sml_read_parts.specs.Reads.{SeesKind, ReadsToken}

-- no token of this kind is in front
abbrev pub Lacks : TokenKind → List Piece → Type 0
Lacks kind [] = Unit {0}
Lacks kind (t ∷ ts) = (code kind == code t.kind) ≡ false

-- whether a token of this kind is in front
abbrev pub TokenStands : TokenKind → List Piece → Bool → Type 0
TokenStands kind old true = SeesKind kind old
TokenStands kind old false = Lacks kind old

-- a token of this kind was taken from the front
abbrev pub TokenIsTaken : TokenKind → List Piece → List Piece → Type 0
TokenIsTaken kind old new = (t : Piece) × (old ≡ t ∷ new) × (t.kind ≡ kind)

-- a token of this kind was taken, if it was in front
abbrev pub Skips : TokenKind → List Piece → List Piece → Bool → Type 0
Skips kind old new true = TokenIsTaken kind old new
Skips kind old new false = (new ≡ old) × Lacks kind old

-- what was read is passed on, if a token of this kind is behind it
abbrev pub Closes : {X : Type 0} → TokenKind → List Piece → List Piece → X → Result X Stop → Type 0
Closes kind old new inner (Ok x) = (x ≡ inner) × TokenIsTaken kind old new
Closes kind old new inner (Err e) = ReadsToken kind old new (Err e)

-- what is read of a name, with `before` names before it and room for `limit`
abbrev pub ReadsLimited : (limit before : ℕ) → List Piece → List Piece → Result (List ℕ) Stop → Type 0
ReadsLimited limit before old new (Ok w) = (t : Piece) × (old ≡ t ∷ new) × (t.kind ≡ Name) × (w ≡ name t)
ReadsLimited limit before old new (Err stop.Memory) = ⊥
ReadsLimited limit before old new (Err (stop.Fault f)) =
    (g : Part) (more : List Bone) (k : Piece → Form (Value g) more) →
    run g (B Name ∷ more) (needs Name (most limit before Many) k) old ≡ Err f

-- the token in front was taken; it is inside `depth` others, which must be fewer than `limit`
abbrev pub Deeper : {X : Type 0} → (limit depth : ℕ) → List Piece → List Piece → Result X Stop → Type 0
Deeper limit depth old new (Ok x) = (t : Piece) × (old ≡ t ∷ new) × (nat_lt depth limit ≡ true)
Deeper limit depth old new (Err e) =
    (t : Piece) × (old ≡ t ∷ new) × (nat_lt depth limit ≡ false) × (e ≡ stop.Fault (TooDeep t.at))

-- what was read, if anything was, is passed on in another form, if a token of this kind is behind it
abbrev pub ClosesAs : {X Y : Type 0} → TokenKind → List Piece → List Piece → (X → Y) → Result X Stop → Result Y Stop →
    Type 0
ClosesAs kind old new form (Ok x) made = Closes kind old new (form x) made
ClosesAs kind old new form (Err e) made = made ≡ Err e

-- whether a slash and this word are in front; if so, they were taken
abbrev pub ReadsMark : TokenKind → List Piece → List Piece → Result Bool Stop → Type 0
ReadsMark word old new (Ok true) = (mid : List Piece) × TokenIsTaken Slash old mid × TokenIsTaken word mid new
ReadsMark word old new (Ok false) = (new ≡ old) × Lacks Slash old
ReadsMark word old new (Err e) =
    (mid : List Piece) × (after : List Piece) × TokenIsTaken Slash old mid × ReadsToken word mid after (Err e)
