-- Reading from left to right, with one token seen.
use Rattle.std.specs.Prelude.{ℕ, List, [], ◌∷◌, ◌++◌, Option, Some, None, Result, Ok, Err, ◌==◌, cond}
use Rattle.sml_tree.specs.declared.token_kind.TokenKind.{TokenKind}
use Rattle.sml_tree.specs.declared.token_kind.TokenKind.TheVariants.{Class, Object, ObjectSet, IsOfClass, State, Action, Parameters, IntKind, StringKind, Do, If, Then, Else, Endif, Set, MoveTo, TerminateAction, InState, NotInState, AllIn, AnyIn, And, Or, Not, Wait, Insert, Remove, In, From, Associated, InitialState, DeadState, Colon, Comma, Equals, OpenBracket, CloseBracket, OpenBrace, CloseBrace, Slash, Name, Int, Str, Stray}
use Rattle.sml_tree.specs.Piece.{Piece}
use Rattle.sml_read_parts.specs.declared.fault.Fault.{Fault}
use Rattle.sml_read_parts.specs.declared.fault.Fault.TheVariants.{Unexpected, TooDeep, TooMany, Ends}
use Rattle.sml_tree.specs.Form.{Bone, Form, gives, needs, calls, ◌>>=◌, Mark, Fine, Deep, Many, Part, Value}
use Rattle.sml_tree.specs.Grammar.{Rule, rules, empty}

-- the number of a kind
abbrev pub code : TokenKind → ℕ
code Class = 0
code Object = 1
code ObjectSet = 2
code IsOfClass = 3
code State = 4
code Action = 5
code Parameters = 6
code IntKind = 7
code StringKind = 8
code Do = 9
code If = 10
code Then = 11
code Else = 12
code Endif = 13
code Set = 14
code MoveTo = 15
code TerminateAction = 16
code InState = 17
code NotInState = 18
code AllIn = 19
code AnyIn = 20
code And = 21
code Or = 22
code Not = 23
code Wait = 24
code Insert = 25
code Remove = 26
code In = 27
code From = 28
code Associated = 29
code InitialState = 30
code DeadState = 31
code Colon = 32
code Comma = 33
code Equals = 34
code OpenBracket = 35
code CloseBracket = 36
code OpenBrace = 37
code CloseBrace = 38
code Slash = 39
code Name = 40
code Int = 41
code Str = 42
code Stray = 43

-- the rule that begins with this kind
abbrev pub chosen : {n : Part} → List (Rule n) → TokenKind → Option (Rule n)
chosen [] kind = None
chosen (r ∷ rs) kind = cond (code r.kind == code kind) (Some r) (chosen rs kind)

-- what a token does
pub data TokenMove (g : Part) : Type 0 where
  Stuck : TokenMove g
  Goes : Mark → (bones : List Bone) → Form (Value g) bones → TokenMove g

abbrev pub take_rule : (n g : Part) (bones : List Bone) → (Value n → Form (Value g) bones) → Piece → Rule n →
    TokenMove g
take_rule n g bones f t r = Goes r.mark (r.bones ++ bones) (r.rest t >>= f)

abbrev pub or_else : {A C : Type 0} → Option A → (A → C) → C → C
or_else None f c = c
or_else (Some a) f c = f a

abbrev pub advance : (g : Part) (bones : List Bone) → Form (Value g) bones → Piece → TokenMove g
advance g [] (gives v) t = Stuck
advance g (_ ∷ bones) (needs kind mark f) t = cond (code kind == code t.kind) (Goes mark bones (f t)) Stuck
advance g (_ ∷ bones) (calls n f) t = or_else (chosen (rules n) t.kind) (take_rule n g bones f t)
    (or_else (empty n) (λ w. advance g bones (f w) t) Stuck)

-- the value if nothing more comes
abbrev pub finish : (g : Part) (bones : List Bone) → Form (Value g) bones → Option (Value g)
finish g [] (gives v) = Some v
finish g (_ ∷ bones) (needs kind mark f) = None
finish g (_ ∷ bones) (calls n f) = or_else (empty n) (λ w. finish g bones (f w)) None

abbrev pub go_on : {g : Part} → TokenMove g → ℕ → ((bones : List Bone) → Form (Value g) bones →
    Result (Value g) Fault) → Result (Value g) Fault
go_on Stuck at next = Err (Unexpected at)
go_on (Goes Fine bones form) at next = next bones form
go_on (Goes Deep bones form) at next = Err (TooDeep at)
go_on (Goes Many bones form) at next = Err (TooMany at)

abbrev pub ended : {A : Type 0} → Option A → Result A Fault
ended None = Err Ends
ended (Some a) = Ok a

abbrev pub run : (g : Part) (bones : List Bone) → Form (Value g) bones → List Piece → Result (Value g) Fault
run g bones form [] = ended (finish g bones form)
run g bones form (t ∷ ts) = go_on (advance g bones form t) t.at (λ bones' form'. run g bones' form' ts)
