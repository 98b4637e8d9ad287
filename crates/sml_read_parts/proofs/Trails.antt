-- The rest of a part behind one more token or part.
use Rattle.std.proofs.Common.{◌≡◌, Bool, true, false, Some, None, List, [], ◌∷◌, ◌++◌, refl, sym, ap, ◌∙◌, ◌==◌, cond, Err}
use Rattle.sml_tree.specs.declared.token_kind.TokenKind.{TokenKind}
use Rattle.sml_tree.specs.Piece.{Piece}
use Rattle.sml_tree.specs.Form.{Bone, B, P, Form, needs, calls, ◌>>=◌, Mark, Fine, Part, family, Value}
use Rattle.sml_tree.specs.Grammar.{Rule, rules, empty}
use Rattle.sml_read_parts.specs.declared.fault.Stop.{Stop}
use Rattle.sml_read_parts.specs.declared.fault.Stop.TheVariants as stop
use Rattle.sml_read_parts.specs.Machine.{code, Stuck, Goes, take_rule, or_else, go_on, run}
use Rattle.sml_read_parts.specs.Reads.{Passes, Stops, ReadsToken}
use Rattle.sml_read_parts.specs.Trails.{Trail}
use Rattle.sml_read_parts.proofs.Codes.{same_code}
use Rattle.sml_read_parts.proofs.Steps.{Taken}

pub token_read : (n : Part) (kind : TokenKind) (mark : Mark) (bones : List Bone) (f : Piece → Form (Value n) bones) (t : Piece) (old mid new : List Piece)
    → Trail n (B kind ∷ bones) (needs kind mark f) old mid → mark ≡ Fine → Taken kind t mid new → Trail n bones (f t) old new
token_read n kind mark bones f t old mid new a fine b g more k = a g more k ∙ rw b.0 (rw (same_code kind t.kind (sym b.1), fine) refl)

pub token_refused : (n : Part) (kind : TokenKind) (mark : Mark) (bones : List Bone) (f : Piece → Form (Value n) bones) (old mid new : List Piece) (e : Stop)
    → Trail n (B kind ∷ bones) (needs kind mark f) old mid → ReadsToken kind mid new (Err e) → Stops n old e
token_refused n kind mark bones f old mid new stop.Memory a b = absurd b
token_refused n kind mark bones f old mid new (stop.Fault x) a b = λ g more k. a g more k ∙ b g (bones ++ more) mark (λ t. f t >>= k)

pub part_read : (n m : Part) (bones : List Bone) (f : Value m → Form (Value n) bones) (v : Value m) (old mid new : List Piece)
    → Trail n (P (family m) ∷ bones) (calls m f) old mid → Passes m v mid new → Trail n bones (f v) old new
part_read n m bones f v old mid new a b g more k = a g more k ∙ b g (bones ++ more) (λ w. f w >>= k)

pub part_refused : (n m : Part) (bones : List Bone) (f : Value m → Form (Value n) bones) (old mid : List Piece) (e : Stop)
    → Trail n (P (family m) ∷ bones) (calls m f) old mid → Stops m mid e → Stops n old e
part_refused n m bones f old mid stop.Memory a b = tt
part_refused n m bones f old mid (stop.Fault x) a b = λ g more k. a g more k ∙ b g (bones ++ more) (λ w. f w >>= k)

only_move : (n g : Part) (more : List Bone) (k : Value n → Form (Value g) more) (r : Rule n) (t : Piece) (same : Bool)
    → or_else (cond same (Some r) None) (take_rule n g more k t) Stuck ≡ cond same (Goes r.mark (r.bones ++ more) (r.rest t >>= k)) Stuck
only_move n g more k r t true = refl
only_move n g more k r t false = refl

-- a part that is written in one way, and not left out, is a token and what follows it
pub only_way : (n : Part) (r : Rule n) → rules n ≡ r ∷ [] → empty n ≡ None → (old : List Piece) → Trail n (B r.kind ∷ r.bones) (needs r.kind r.mark r.rest) old old
only_way n r one none [] g more k = rw none refl
only_way n r one none (t ∷ ts) g more k =
    rw (one, none) (ap (λ move. go_on move t.at (λ after form. run g after form ts)) (only_move n g more k r t (code r.kind == code t.kind)))
