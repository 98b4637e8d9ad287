-- What is read of a value that is written out, and of what is passed or set.
use Rattle.std.proofs.Common.{◌≡◌, ◌==◌, false, ℕ, List, [], ◌∷◌, refl, ap, ◌∙◌, length, Result, Ok, Err, arith}
use Rattle.sml_tree.specs.declared.token_kind.TokenKind.{TokenKind}
use Rattle.sml_tree.specs.declared.token_kind.TokenKind.TheVariants.{Class, Name, Str}
use Rattle.sml_tree.specs.Piece.{Piece, bytes_of}
use Rattle.sml_tree.specs.Syntax.{LiteralData, ArgData, str, lit, param}
use Rattle.sml_tree.specs.Grammar.{rules, name}
use Rattle.sml_tree.specs.Form as of
use Rattle.sml_tree.specs.Form.{Bone, P, Form, Part, Value, calls}
use Rattle.sml_read_parts.specs.declared.fault.Stop.{Stop}
use Rattle.sml_read_parts.specs.declared.fault.Stop.TheVariants as stop
use Rattle.sml_read_parts.specs.Machine.{code, chosen, TokenMove, Stuck, take_rule, or_else, run}
use Rattle.sml_read_parts.specs.Made.{OrMemory, OfRead}
use Rattle.sml_read_parts.specs.Reads.{Reads, Stops, SeesKind}
use Rattle.sml_read_parts.specs.Stands.{Lacks}
use Rattle.sml_read_parts.proofs.Heads.{Read}
use Rattle.sml_read_parts.proofs.Steps.{seen}

-- what a token does to a part that may not be left out
abbrev moved : (n g : Part) (more : List Bone) → (Value n → Form (Value g) more) → Piece → TokenKind → TokenMove g
moved n g more k t c = or_else (chosen (rules n) c) (take_rule n g more k t) Stuck

arg_moved : (g : Part) (more : List Bone) (k : ArgData → Form (Value g) more) (t : Piece) (c : TokenKind) → (code Name == code c) ≡ false
    → moved of.Arg g more k t c ≡ moved of.Literal g more (λ l. k (lit l)) t c
arg_moved g more k t Name lacks = absurd (cc lacks)
arg_moved g more k t Class lacks = refl
arg_moved g more k t _ lacks = refl

arg_run : (g : Part) (more : List Bone) (k : ArgData → Form (Value g) more) (ts : List Piece) → Lacks Name ts
    → run g (P of.Args ∷ more) (calls of.Arg k) ts ≡ run g (P of.Literals ∷ more) (calls of.Literal (λ l. k (lit l))) ts
arg_run g more k [] lacks = refl
arg_run g more k (t ∷ ts) lacks = rw (arg_moved g more k t t.kind lacks) refl

arg_refused : (old : List Piece) (e : Stop) → Lacks Name old → Stops of.Literal old e → Stops of.Arg old e
arg_refused old stop.Memory lacks a = tt
arg_refused old (stop.Fault f) lacks a = λ g more k. arg_run g more k old lacks ∙ a g _ _

-- a value was read, and is what is passed
pub arg_written : {X Y : Type 0} (value : X → LiteralData) (view : Y → ArgData) (r : Result X Stop) (made : Result Y Stop) (old new : List Piece) → Lacks Name old → Reads of.Literal value old new r
    → OfRead r made (λ x y. view y ≡ lit (value x)) → Reads of.Arg view old new made
arg_written value view (Ok x) (Ok y) old new lacks a is = (a.0, λ g more k. rw is (arg_run g more k old lacks ∙ a.1 g more (λ l. k (lit l))))
arg_written value view (Ok x) (Err e) old new lacks a is = absurd is
arg_written value view (Err e) made old new lacks a is = rw is (arg_refused old e lacks a)

-- a name is there
pub arg_named : (t : Piece) (w : List ℕ) (old new : List Piece) → old ≡ t ∷ new → SeesKind Name old → w ≡ name t → Read of.Arg (param w) old new
arg_named t w old new e sees is =
    let kind = seen Name t old new e sees in
    (omega (arith, ap length e), λ g more k. rw (e, kind, is) refl)

-- a string is written out, or memory ran out
pub literal_text : {X : Type 0} (view : X → LiteralData) (t : Piece) (bytes : List ℕ) (r : Result X Stop) (old new : List Piece) → old ≡ t ∷ new → SeesKind Str old → bytes ≡ bytes_of t.lexeme → OrMemory r (λ x. view x ≡ str bytes)
    → Reads of.Literal view old new r
literal_text view t bytes (Ok x) old new e sees is made =
    let kind = seen Str t old new e sees in
    (omega (arith, ap length e), λ g more k. rw (e, kind, made, is) refl)
literal_text view t bytes (Err d) old new e sees is made = rw made tt
