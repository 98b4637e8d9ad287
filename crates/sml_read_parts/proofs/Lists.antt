-- A list of items, read one after another.
use Rattle.std.proofs.Common.{◌≡◌, List, Err, [], ◌∷◌, ◌++◌, map, ap, sym, ◌∙◌, append_assoc}
use Rattle.std.proofs.lemmas.List.{map-append}
use Rattle.sml_tree.specs.Piece.{Piece}
use Rattle.sml_tree.specs.Form.{P, Part, family, Value, calls}
use Rattle.sml_read_parts.specs.Machine.{run}
use Rattle.sml_tree.specs.declared.token_kind.TokenKind.{TokenKind}
use Rattle.sml_tree.specs.Form.{B, Fine, needs}
use Rattle.sml_read_parts.specs.Reads.{LeadsOn, Passes, Stops, ReadsToken}
use Rattle.sml_read_parts.specs.declared.fault.Stop.{Stop}
use Rattle.sml_read_parts.specs.declared.fault.Stop.TheVariants as stop
use Rattle.sml_read_parts.specs.Lists.{LeadsToClosed}
use Rattle.sml_read_parts.proofs.Codes.{same_code}

-- functions that agree are one
pub agree : {X : Type 0} {Y : Type 0} (f g : X → Y) → ((x : X) → f x ≡ g x) → f ≡ g
agree f g e = λ i x. e x i

-- one thing read behind others
pub read_more : (n mid next : Part) (f : Value mid → Value n) (h : Value next → Value mid) (all : Value next → Value n) (old middle new : List Piece)
    → LeadsOn n mid f old middle → LeadsOn mid next h middle new → ((v : Value next) → f (h v) ≡ all v) → LeadsOn n next all old new
read_more n mid next f h all old middle new a b e g more k =
    a g more k ∙ b g more (λ v. k (f v)) ∙ ap (λ (w : Value next → Value n). run g (P (family next) ∷ more) (calls next (λ v. k (w v))) new) (agree (λ v. f (h v)) all e)

-- a name behind others, before the rest
pub pushed_plain : {X : Type 0} (xs ys : List X) (x : X) → ys ≡ xs ++ x ∷ [] → (v : List X) → xs ++ (x ∷ v) ≡ ys ++ v
pushed_plain xs ys x e v = sym (append_assoc xs (x ∷ []) v) ∙ ap (λ l. l ++ v) (sym e)

-- an item behind others, before the rest
pub pushed : {X : Type 0} {Y : Type 0} (f : X → Y) (xs ys : List X) (x : X) → ys ≡ xs ++ x ∷ [] → (v : List Y) → map f xs ++ (f x ∷ v) ≡ map f ys ++ v
pushed f xs ys x e v =
    sym (append_assoc (map f xs) (f x ∷ []) v) ∙ ap (λ l. l ++ v) (sym (map-append f xs (x ∷ [])) ∙ ap (map f) (sym e))

-- nothing more was read
pub read_end : (n next : Part) (f : Value next → Value n) (none : Value next) (v : Value n) (old mid new : List Piece)
    → LeadsOn n next f old mid → Passes next none mid new → f none ≡ v → Passes n v old new
read_end n next f none v old mid new a b e g more k = a g more k ∙ b g more (λ w. k (f w)) ∙ ap (λ w. run g more (k w) new) e

-- what is behind others is refused
pub read_err : (n mid : Part) (f : Value mid → Value n) (old middle : List Piece) (e : Stop) → LeadsOn n mid f old middle → Stops mid middle e → Stops n old e
read_err n mid f old middle stop.Memory a b = tt
read_err n mid f old middle (stop.Fault x) a b = λ g more k. a g more k ∙ b g more (λ v. k (f v))

-- one thing read behind others in a list that a sign closes
pub read_more_to : (n mid next : Part) (close : TokenKind) (f : Value mid → Value n) (h : Value next → Value mid) (all : Value next → Value n) (old middle new : List Piece)
    → LeadsToClosed n mid close f old middle → LeadsOn mid next h middle new → ((v : Value next) → f (h v) ≡ all v) → LeadsToClosed n next close all old new
read_more_to n mid next close f h all old middle new a b e g more k =
    a g more k ∙ b g (B close ∷ more) (λ v. needs close Fine (λ _. k (f v)))
    ∙ ap (λ (w : Value next → Value n). run g (P (family next) ∷ B close ∷ more) (calls next (λ v. needs close Fine (λ _. k (w v)))) new) (agree (λ v. f (h v)) all e)

-- nothing more was read, and the sign
pub read_end_to : (n next : Part) (close : TokenKind) (f : Value next → Value n) (none : Value next) (v : Value n) (old mid middle new : List Piece) (t : Piece)
    → LeadsToClosed n next close f old mid → Passes next none mid middle → middle ≡ t ∷ new → t.kind ≡ close → f none ≡ v → Passes n v old new
read_end_to n next close f none v old mid middle new t a b e kind is g more k =
    a g more k ∙ b g (B close ∷ more) (λ w. needs close Fine (λ _. k (f w)))
    ∙ rw e (rw (same_code close t.kind (sym kind)) (ap (λ w. run g more (k w) new) is))

-- nothing more was read, and the sign is not there
pub read_err_to : (n next : Part) (close : TokenKind) (f : Value next → Value n) (none : Value next) (old mid middle new : List Piece) (e : Stop)
    → LeadsToClosed n next close f old mid → Passes next none mid middle → ReadsToken close middle new (Err e) → Stops n old e
read_err_to n next close f none old mid middle new stop.Memory a b h = tt
read_err_to n next close f none old mid middle new (stop.Fault x) a b h =
    λ g more k. a g more k ∙ b g (B close ∷ more) (λ w. needs close Fine (λ _. k (f w))) ∙ h g more Fine (λ _. k (f none))
