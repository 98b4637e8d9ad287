-- Values, parameters and lists are written as the table reads them.
use Rattle.std.proofs.Common.{ℕ, ◌+◌, Bool, false, true, List, [], ◌∷◌, ◌++◌, refl, codes, Option, Some, None, IfSome, inl, inr, flat_map, arith}
use Rattle.std.specs.List.{AllByRecursion}
use Rattle.sml_text.specs.declared.source.Sign.TheVariants as sign
use Rattle.sml_text.specs.Decimal.{int_text}
use Rattle.sml_tree.specs.declared.token_kind.TokenKind.TheVariants as kind
use Rattle.sml_tree.specs.declared.file.Kind.{Kind}
use Rattle.sml_tree.specs.declared.file.Kind.TheVariants as sort
use Rattle.sml_tree.specs.Syntax.{LiteralData, int, str, ArgData, lit, param, PassedData, WaitedData, ClassParamData, ActionParamData}
use Rattle.sml_tree.specs.Form as of
use Rattle.sml_tree.specs.Form.{Part, Value}
use Rattle.sml_print.specs.Words.{literal_text, arg_text, passed_text, default_text, class_param_text, action_param_text, comma_text, comma_list, bracket_list, name_text}
use Rattle.sml_print.specs.Items.{params_text}
use Rattle.sml_print.specs.Blocks.{waited_text}
use Rattle.sml_print.specs.Conditions.{states_text}
use Rattle.sml_round_trip.specs.Writable.{IsWritableName, IsLiteral, IsArg, IsPassed, IsWaited, AreNamed, IsClassParam, IsActionParam}
use Rattle.sml_round_trip.proofs.Says.{Edge, Anywhere, Wrote, say_end, say_blank, say_part, say_last, say_grouped, wrote_by, wrote_none, say_alone}
use Rattle.sml_round_trip.proofs.Words.{say_word, say_name, say_sign, say_string, say_int}

-- ---- where a word ends
-- behind it stands a list in brackets, or what is behind that
pub bracket_edge : {X : Type 0} (f : X → List ℕ) (xs : List X) (text more : List ℕ) → Edge (text ++ more) → Edge ((bracket_list f xs ++ text) ++ more)
bracket_edge f [] text more e = e
bracket_edge f (x ∷ xs) text more e = refl

-- behind it stands the rest of a list
pub comma_edge : {X : Type 0} (f : X → List ℕ) (xs : List X) (more : List ℕ) → Edge more → Edge (flat_map (comma_text f) xs ++ more)
comma_edge f [] more e = e
comma_edge f (x ∷ xs) more e = refl

-- and that and more
pub comma_more : {X : Type 0} (f : X → List ℕ) (xs : List X) (text more : List ℕ) → Edge (text ++ more) → Edge ((flat_map (comma_text f) xs ++ text) ++ more)
comma_more f [] text more e = e
comma_more f (x ∷ xs) text more e = refl

-- ---- values
pub literal_wrote : (l : LiteralData) → IsLiteral l → Wrote false Edge of.Literal (literal_text l) l
literal_wrote (int n) h = wrote_by _ (inl refl) (say_alone (int_text n) (say_int n h (λ more e. e) (λ at. refl) say_end))
literal_wrote (str bytes) h = wrote_by _ (inr (inl refl)) (say_alone (literal_text (str bytes)) (say_string bytes h.0 h.1 (λ at. refl) say_end))

pub arg_wrote : (a : ArgData) → IsArg a → Wrote false Edge of.Arg (arg_text a) a
arg_wrote (lit (int n)) h = wrote_by _ (inl refl) (say_alone (int_text n) (say_int n h (λ more e. e) (λ at. refl) say_end))
arg_wrote (lit (str bytes)) h = wrote_by _ (inr (inl refl)) (say_alone (literal_text (str bytes)) (say_string bytes h.0 h.1 (λ at. refl) say_end))
arg_wrote (param name) h = wrote_by _ (inr (inr (inl refl))) (say_alone name (say_name name h (λ more e. e) (λ at. refl) say_end))

pub default_wrote : (o : Option LiteralData) → IfSome o IsLiteral → Wrote false Edge of.Default (default_text o) o
default_wrote None h = wrote_none refl
default_wrote (Some l) h = wrote_by _ (inl refl) (say_blank refl refl (say_sign sign.Equals tt (λ at. refl) (say_blank refl refl (say_last (literal_wrote l h) refl))))

default_edge : (o : Option LiteralData) (more : List ℕ) → Edge more → Edge (default_text o ++ more)
default_edge None more e = e
default_edge (Some l) more e = refl

-- ---- parameters
pub class_param_wrote : (n : ℕ) (p : ClassParamData) → IsClassParam p → Wrote false Edge (of.ClassParam n) (class_param_text p) p
class_param_wrote n p h = go p.kind
  where
    go : (k : Kind) → Wrote false Edge (of.ClassParam n) (class_param_text (record p { kind = k })) (record p { kind = k })
    go sort.Int =
        wrote_by _ (inl refl)
        (say_word (codes "int") kind.IntKind refl refl tt (λ more e. refl) (λ at. refl)
        (say_blank refl refl
        (say_name p.name h.0 (λ more e. refl) (λ at. refl)
        (say_blank refl refl (say_sign sign.Equals tt (λ at. refl) (say_blank refl refl (say_last (literal_wrote p.value h.1) refl)))))))
    go sort.Str =
        wrote_by _ (inr (inl refl))
        (say_word (codes "string") kind.StringKind refl refl tt (λ more e. refl) (λ at. refl)
        (say_blank refl refl
        (say_name p.name h.0 (λ more e. refl) (λ at. refl)
        (say_blank refl refl (say_sign sign.Equals tt (λ at. refl) (say_blank refl refl (say_last (literal_wrote p.value h.1) refl)))))))

more_class_params : (n : ℕ) (ps : List ClassParamData) → AllByRecursion IsClassParam ps → Wrote false Edge (of.MoreClassParam n) (flat_map (comma_text class_param_text) ps) ps
more_class_params n [] h = wrote_none refl
more_class_params n (p ∷ ps) h =
    wrote_by _ (inl refl)
    (say_sign sign.Comma tt (λ at. refl)
    (say_blank refl refl (say_part (class_param_wrote n p h.0) (λ more e. comma_edge class_param_text ps more e) (say_last (more_class_params (n + 1) ps h.1) refl))))

pub class_params_wrote : (ps : List ClassParamData) → AllByRecursion IsClassParam ps → Wrote false Anywhere of.ClassParamList (params_text ps) ps
class_params_wrote [] h = wrote_none refl
class_params_wrote (p ∷ ps) h =
    wrote_by _ (inl refl)
    (say_blank refl refl (say_blank refl refl
    (say_word (codes "parameters") kind.Parameters refl refl tt (λ more e. refl) (λ at. refl)
    (say_sign sign.Colon tt (λ at. refl)
    (say_blank refl refl
    (say_grouped (class_param_text p) (flat_map (comma_text class_param_text) ps) (codes "\n")
    (say_part (class_param_wrote 0 p h.0) (λ more e. comma_more class_param_text ps _ more refl)
    (say_part (more_class_params 1 ps h.1) (λ more e. refl)
    (say_blank refl refl say_end)))))))))

pub action_param_wrote : (n : ℕ) (p : ActionParamData) → IsActionParam p → Wrote false Edge (of.ActionParam n) (action_param_text p) p
action_param_wrote n p h = go p.kind
  where
    go : (k : Kind) → Wrote false Edge (of.ActionParam n) (action_param_text (record p { kind = k })) (record p { kind = k })
    go sort.Int =
        wrote_by _ (inl refl)
        (say_word (codes "int") kind.IntKind refl refl tt (λ more e. refl) (λ at. refl)
        (say_blank refl refl (say_name p.name h.0 (λ more e. default_edge p.default more e) (λ at. refl) (say_last (default_wrote p.default h.1) refl))))
    go sort.Str =
        wrote_by _ (inr (inl refl))
        (say_word (codes "string") kind.StringKind refl refl tt (λ more e. refl) (λ at. refl)
        (say_blank refl refl (say_name p.name h.0 (λ more e. default_edge p.default more e) (λ at. refl) (say_last (default_wrote p.default h.1) refl))))

more_action_params : (n : ℕ) (ps : List ActionParamData) → AllByRecursion IsActionParam ps → Wrote false Edge (of.MoreActionParam n) (flat_map (comma_text action_param_text) ps) ps
more_action_params n [] h = wrote_none refl
more_action_params n (p ∷ ps) h =
    wrote_by _ (inl refl)
    (say_sign sign.Comma tt (λ at. refl)
    (say_blank refl refl (say_part (action_param_wrote n p h.0) (λ more e. comma_edge action_param_text ps more e) (say_last (more_action_params (n + 1) ps h.1) refl))))

pub action_params_wrote : (ps : List ActionParamData) → AllByRecursion IsActionParam ps → Wrote false Anywhere of.ActionParamList (bracket_list action_param_text ps) ps
action_params_wrote [] h = wrote_none refl
action_params_wrote (p ∷ ps) h =
    wrote_by _ (inl refl)
    (say_blank refl refl
    (say_sign sign.OpenBracket refl (λ at. refl)
    (say_grouped (action_param_text p) (flat_map (comma_text action_param_text) ps) (codes ")")
    (say_part (action_param_wrote 0 p h.0) (λ more e. comma_more action_param_text ps _ more refl)
    (say_part (more_action_params 1 ps h.1) (λ more e. refl)
    (say_sign sign.CloseBracket tt (λ at. refl) say_end))))))

-- ---- arguments
pub passed_wrote : (n : ℕ) (p : PassedData) → IsPassed p → Wrote false Edge (of.Passed n) (passed_text p) p
passed_wrote n p h =
    wrote_by _ (inl refl)
    (say_name p.name h.0 (λ more e. refl) (λ at. refl) (say_blank refl refl (say_sign sign.Equals tt (λ at. refl) (say_blank refl refl (say_last (arg_wrote p.value h.1) refl)))))

more_passed : (n : ℕ) (ps : List PassedData) → AllByRecursion IsPassed ps → Wrote false Edge (of.MorePassedArg n) (flat_map (comma_text passed_text) ps) ps
more_passed n [] h = wrote_none refl
more_passed n (p ∷ ps) h =
    wrote_by _ (inl refl)
    (say_sign sign.Comma tt (λ at. refl)
    (say_blank refl refl (say_part (passed_wrote n p h.0) (λ more e. comma_edge passed_text ps more e) (say_last (more_passed (n + 1) ps h.1) refl))))

pub args_wrote : (ps : List PassedData) → AllByRecursion IsPassed ps → Wrote false Anywhere of.ArgList (bracket_list passed_text ps) ps
args_wrote [] h = wrote_none refl
args_wrote (p ∷ ps) h =
    wrote_by _ (inl refl)
    (say_blank refl refl
    (say_sign sign.OpenBracket refl (λ at. refl)
    (say_grouped (passed_text p) (flat_map (comma_text passed_text) ps) (codes ")")
    (say_part (passed_wrote 0 p h.0) (λ more e. comma_more passed_text ps _ more refl)
    (say_part (more_passed 1 ps h.1) (λ more e. refl)
    (say_sign sign.CloseBracket tt (λ at. refl) say_end))))))

-- ---- what a `wait` names
pub waited_wrote : (n : ℕ) (w : WaitedData) → IsWaited w → Wrote false Edge (of.Waited n) (waited_text w) w
waited_wrote n w h = go w.all
  where
    go : (all : Bool) → Wrote false Edge (of.Waited n) (waited_text (record w { all = all })) (record w { all = all })
    go false = wrote_by _ (inl refl) (say_alone w.name (say_name w.name h (λ more e. e) (λ at. refl) say_end))
    go true =
        wrote_by _ (inr (inl refl))
        (say_word (codes "all_in") kind.AllIn refl refl tt (λ more e. refl) (λ at. refl)
        (say_blank refl refl (say_alone w.name (say_name w.name h (λ more e. e) (λ at. refl) say_end))))

pub more_waited : (n : ℕ) (ws : List WaitedData) → AllByRecursion IsWaited ws → Wrote false Edge (of.MoreWaited n) (flat_map (comma_text waited_text) ws) ws
more_waited n [] h = wrote_none refl
more_waited n (w ∷ ws) h =
    wrote_by _ (inl refl)
    (say_sign sign.Comma tt (λ at. refl)
    (say_blank refl refl (say_part (waited_wrote n w h.0) (λ more e. comma_edge waited_text ws more e) (say_last (more_waited (n + 1) ws h.1) refl))))

-- ---- names
more_names : (n : ℕ) (names : List (List ℕ)) → AllByRecursion IsWritableName names → Wrote false Edge (of.MoreName n) (flat_map (comma_text name_text) names) names
more_names n [] h = wrote_none refl
more_names n (name ∷ names) h =
    wrote_by _ (inl refl)
    (say_sign sign.Comma tt (λ at. refl)
    (say_blank refl refl (say_name name h.0 (λ more e. comma_edge name_text names more e) (λ at. refl) (say_last (more_names (n + 1) names h.1) refl))))

names_wrote : (name : List ℕ) (names : List (List ℕ)) → IsWritableName name → AllByRecursion IsWritableName names → Wrote false Edge of.Names (comma_list name_text (name ∷ names)) (name ∷ names)
names_wrote name names h k = wrote_by _ (inl refl) (say_name name h (λ more e. comma_edge name_text names more e) (λ at. refl) (say_last (more_names 1 names k) refl))

pub states_wrote : (names : List (List ℕ)) → AreNamed names → Wrote false Edge of.StateList (states_text names) names
states_wrote [] h = let few = h.0 in absurd (omega (arith, few))
states_wrote (name ∷ []) h = wrote_by _ (inl refl) (say_alone name (say_name name (h.1).0 (λ more e. e) (λ at. refl) say_end))
states_wrote (name ∷ other ∷ names) h =
    wrote_by _ (inr (inl refl))
    (say_sign sign.OpenBrace tt (λ at. refl)
    (say_blank refl refl
    (say_part (names_wrote name (other ∷ names) (h.1).0 (h.1).1) (λ more e. refl)
    (say_blank refl refl (say_sign sign.CloseBrace tt (λ at. refl) say_end)))))

more_members : (n : ℕ) (names : List (List ℕ)) → AllByRecursion IsWritableName names → Wrote false Edge (of.MoreMember n) (flat_map (comma_text name_text) names) names
more_members n [] h = wrote_none refl
more_members n (name ∷ names) h =
    wrote_by _ (inl refl)
    (say_sign sign.Comma tt (λ at. refl)
    (say_blank refl refl (say_name name h.0 (λ more e. comma_edge name_text names more e) (λ at. refl) (say_last (more_members (n + 1) names h.1) refl))))

pub members_wrote : (names : List (List ℕ)) → AllByRecursion IsWritableName names → Wrote false Edge of.Members (comma_list name_text names) names
members_wrote [] h = wrote_none refl
members_wrote (name ∷ names) h = wrote_by _ (inl refl) (say_name name h.0 (λ more e. comma_edge name_text names more e) (λ at. refl) (say_last (more_members 1 names h.1) refl))
