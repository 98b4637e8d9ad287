-- Files are written as the table reads them.
use Rattle.std.proofs.Common.{◌≤◌, ℕ, ◌+◌, Bool, true, false, List, [], ◌∷◌, ◌++◌, refl, ap, codes, append_assoc, inl, inr, flat_map}
use Rattle.std.specs.List.{AllByRecursion}
use Rattle.sml_text.specs.declared.source.Sign.TheVariants as sign
use Rattle.sml_tree.specs.declared.token_kind.TokenKind.TheVariants as kind
use Rattle.sml_tree.specs.Syntax.{CondData, ActionData, StateData, ClassData, ObjectData, ItemData, class, object, group}
use Rattle.sml_tree.specs.Form as of
use Rattle.sml_tree.specs.Form.{gives, Part, Value, Marks}
use Rattle.sml_tree.specs.Brackets.{open_depth}
use Rattle.sml_tree.specs.Inside.{action_conditions, state_conditions, conditions}
use Rattle.sml_tree.proofs.Marks.{all_front, all_back}
use Rattle.sml_print.specs.Words.{bracket_list, comma_list, name_text, action_param_text}
use Rattle.sml_print.specs.Blocks.{block_text}
use Rattle.sml_print.specs.Items.{mark_text, action_text, state_text, params_text, file_text}
use Rattle.sml_round_trip.specs.Writable.{IsWritableName, IsWritableAction, IsWritableState, IsWritableClass, IsWritable}
use Rattle.sml_round_trip.proofs.Says.{Edge, Anywhere, Wrote, say_end, say_blank, say_part, say_last, wrote_by, wrote_none, say_spelled}
use Rattle.sml_round_trip.proofs.Words.{say_word, say_name, say_sign}
use Rattle.sml_round_trip.proofs.Values.{class_params_wrote, action_params_wrote, members_wrote, bracket_edge}
use Rattle.sml_round_trip.proofs.Blocks.{block_again, Few, block_wrote}
use Rattle.sml_tree.specs.declared.limits.TheConstants.{MAX_OPEN}

-- ---- marks
abbrev marks : Bool → Bool → Marks
marks initial dead = record { initial = initial; dead = dead }

dead_wrote : (dead : Bool) → Wrote false Edge of.DeadMark (mark_text dead (codes " /dead_state")) dead
dead_wrote false = wrote_none refl
dead_wrote true = wrote_by _ (inl refl) (say_blank refl refl (say_sign sign.Slash tt (λ at. refl) (say_word (codes "dead_state") kind.DeadState refl refl tt (λ rest e. e) (λ at. refl) say_end)))

mark_edge : (b : Bool) (mark text more : List ℕ) → Edge (text ++ more) → Edge ((mark_text b (32 ∷ mark) ++ text) ++ more)
mark_edge false mark text more e = e
mark_edge true mark text more e = refl

end_edge : (b : Bool) (mark more : List ℕ) → Edge more → Edge (mark_text b (32 ∷ mark) ++ more)
end_edge false mark more e = e
end_edge true mark more e = refl

abbrev marks_text : Bool → Bool → List ℕ
marks_text initial dead = mark_text initial (codes " /initial_state") ++ mark_text dead (codes " /dead_state")

initial_none : Wrote false Edge of.InitialMark [] false
initial_none = wrote_none refl

only_dead : Wrote true Edge of.FirstMark (codes "dead_state") (marks false true)
only_dead = wrote_by _ (inr (inl refl)) (say_word (codes "dead_state") kind.DeadState refl refl tt (λ rest e. e) (λ at. refl) (say_last initial_none refl))

initial_first : (dead : Bool) → Wrote true Edge of.FirstMark (codes "initial_state" ++ mark_text dead (codes " /dead_state")) (marks true dead)
initial_first dead = wrote_by _ (inl refl) (say_word (codes "initial_state") kind.InitialState refl refl tt (λ rest e. end_edge dead (codes "/dead_state") rest e) (λ at. refl) (say_last (dead_wrote dead) refl))

marks_wrote : (initial dead : Bool) → Wrote false Edge of.StateMark (marks_text initial dead) (marks initial dead)
marks_wrote false false = wrote_none refl
marks_wrote false true = wrote_by _ (inl refl) (say_blank refl refl (say_sign sign.Slash tt (λ at. refl) (say_last only_dead refl)))
marks_wrote true dead = wrote_by _ (inl refl) (say_blank refl refl (say_sign sign.Slash tt (λ at. refl) (say_last (initial_first dead) refl)))

class_mark_wrote : (b : Bool) → Wrote false Edge of.ClassMark (mark_text b (codes " /associated")) b
class_mark_wrote false = wrote_none refl
class_mark_wrote true = wrote_by _ (inl refl) (say_blank refl refl (say_sign sign.Slash tt (λ at. refl) (say_word (codes "associated") kind.Associated refl refl tt (λ rest e. e) (λ at. refl) say_end)))

-- ---- actions
actions_wrote : (n : ℕ) (others : List ActionData) → AllByRecursion IsWritableAction others → Few (flat_map action_conditions others) → Wrote false Anywhere (of.Action n) (flat_map action_text others) others
actions_wrote n [] h few = wrote_none refl
actions_wrote n (a ∷ others) h few =
    let Q : CondData → Type 0 = λ c. open_depth c ≤ MAX_OPEN in
    wrote_by _ (inl refl)
    (say_blank refl refl (say_blank refl refl (say_blank refl refl (say_blank refl refl
    (say_word (codes "action") kind.Action refl refl tt (λ rest e. refl) (λ at. refl)
    (say_sign sign.Colon tt (λ at. refl)
    (say_blank refl refl
    (say_spelled _ (a.name ++ (bracket_list action_param_text a.params ++ (codes "\n" ++ (block_text 3 a.body ++ flat_map action_text others)))) (simp append_assoc)
    (say_name a.name (h.0).0 (λ more e. bracket_edge action_param_text a.params _ more refl) (λ at. refl)
    (say_part (action_params_wrote a.params (h.0).1) (λ more e. tt)
    (say_blank refl refl
    (say_part (block_wrote 0 3 a.body (h.0).2 (all_front Q (action_conditions a) (flat_map action_conditions others) few)) (λ more e. tt)
    (say_last (actions_wrote (n + 1) others h.1 (all_back Q (action_conditions a) (flat_map action_conditions others) few))
    (ap (λ b. gives (record a { body = b } ∷ others)) (block_again a.body)))))))))))))))

-- ---- states
states_wrote : (n : ℕ) (ss : List StateData) → AllByRecursion IsWritableState ss → Few (flat_map state_conditions ss) → Wrote false Anywhere (of.State n) (flat_map state_text ss) ss
states_wrote n [] h few = wrote_none refl
states_wrote n (s ∷ ss) h few =
    let Q : CondData → Type 0 = λ c. open_depth c ≤ MAX_OPEN in
    wrote_by _ (inl refl)
    (say_blank refl refl (say_blank refl refl
    (say_word (codes "state") kind.State refl refl tt (λ rest e. refl) (λ at. refl)
    (say_sign sign.Colon tt (λ at. refl)
    (say_blank refl refl
    (say_spelled _ (s.name ++ (marks_text s.initial s.dead ++ (codes "\n" ++ (flat_map action_text s.actions ++ flat_map state_text ss)))) (simp append_assoc)
    (say_name s.name (h.0).0 (λ more e. marks_edge s.initial s.dead _ more) (λ at. refl)
    (say_part (marks_wrote s.initial s.dead) (λ more e. refl)
    (say_blank refl refl
    (say_part (actions_wrote 0 s.actions (h.0).1 (all_front Q (state_conditions s) (flat_map state_conditions ss) few)) (λ more e. tt)
    (say_last (states_wrote (n + 1) ss h.1 (all_back Q (state_conditions s) (flat_map state_conditions ss) few)) refl)))))))))))
  where
    marks_edge : (i d : Bool) (text more : List ℕ) → Edge ((marks_text i d ++ (codes "\n" ++ text)) ++ more)
    marks_edge false false text more = refl
    marks_edge false true text more = refl
    marks_edge true d text more = refl

-- ---- items
abbrev FileWrote : (a b c : ℕ) → List ItemData → Type 0
FileWrote a b c items = Wrote false Anywhere (of.File a b c) (file_text items) items

class_wrote : (a b c : ℕ) (x : ClassData) (items : List ItemData) → IsWritableClass x → Few (flat_map state_conditions x.states) → FileWrote (a + 1) b c items → FileWrote a b c (class x ∷ items)
class_wrote a b c x items h few y =
    wrote_by _ (inl refl)
    (say_word (codes "class") kind.Class refl refl tt (λ rest e. refl) (λ at. refl)
    (say_sign sign.Colon tt (λ at. refl)
    (say_blank refl refl
    (say_spelled _ (x.name ++ (mark_text x.associated (codes " /associated") ++ (codes "\n" ++ (params_text x.params ++ (flat_map state_text x.states ++ file_text items))))) (simp append_assoc)
    (say_name x.name h.0 (λ more e. mark_edge x.associated (codes "/associated") _ more refl) (λ at. refl)
    (say_part (class_mark_wrote x.associated) (λ more e. refl)
    (say_blank refl refl
    (say_part (class_params_wrote x.params h.1) (λ more e. tt) (say_part (states_wrote 0 x.states h.2 few) (λ more e. tt) (say_last y refl))))))))))

object_wrote : (a b c : ℕ) (x : ObjectData) (items : List ItemData) → IsWritableName x.name → IsWritableName x.class → FileWrote a (b + 1) c items → FileWrote a b c (object x ∷ items)
object_wrote a b c x items h k y =
    wrote_by _ (inr (inl refl))
    (say_word (codes "object") kind.Object refl refl tt (λ rest e. refl) (λ at. refl)
    (say_sign sign.Colon tt (λ at. refl)
    (say_blank refl refl
    (say_spelled _ (x.name ++ (codes " is_of_class " ++ (x.class ++ (codes "\n" ++ file_text items)))) (simp append_assoc)
    (say_name x.name h (λ more e. refl) (λ at. refl)
    (say_blank refl refl
    (say_word (codes "is_of_class") kind.IsOfClass refl refl tt (λ rest e. refl) (λ at. refl)
    (say_blank refl refl (say_name x.class k (λ more e. refl) (λ at. refl) (say_blank refl refl (say_last y refl)))))))))))

group_wrote : (a b c : ℕ) (name : List ℕ) (members : List (List ℕ)) (items : List ItemData) → IsWritableName name → AllByRecursion IsWritableName members → FileWrote a b (c + 1) items
    → FileWrote a b c (group (record { name = name; members = members }) ∷ items)
group_wrote a b c name [] items h k y =
    wrote_by _ (inr (inr (inl refl)))
    (say_word (codes "objectset") kind.ObjectSet refl refl tt (λ rest e. refl) (λ at. refl)
    (say_sign sign.Colon tt (λ at. refl)
    (say_blank refl refl
    (say_spelled _ (name ++ (codes " { }\n" ++ file_text items)) (simp append_assoc)
    (say_name name h (λ more e. refl) (λ at. refl)
    (say_blank refl refl
    (say_sign sign.OpenBrace tt (λ at. refl)
    (say_blank refl refl
    (say_part {a = []} (members_wrote [] k) (λ more e. refl) (say_sign sign.CloseBrace tt (λ at. refl) (say_blank refl refl (say_last y refl))))))))))))
group_wrote a b c name (member ∷ members) items h k y =
    wrote_by _ (inr (inr (inl refl)))
    (say_word (codes "objectset") kind.ObjectSet refl refl tt (λ rest e. refl) (λ at. refl)
    (say_sign sign.Colon tt (λ at. refl)
    (say_blank refl refl
    (say_spelled _ (name ++ (codes " { " ++ (comma_list name_text (member ∷ members) ++ (codes " }\n" ++ file_text items)))) (simp append_assoc)
    (say_name name h (λ more e. refl) (λ at. refl)
    (say_blank refl refl
    (say_sign sign.OpenBrace tt (λ at. refl)
    (say_blank refl refl
    (say_part (members_wrote (member ∷ members) k) (λ more e. refl)
    (say_blank refl refl (say_sign sign.CloseBrace tt (λ at. refl) (say_blank refl refl (say_last y refl)))))))))))))

-- a file
pub file_wrote : (a b c : ℕ) (items : List ItemData) → IsWritable items → Few (conditions items) → FileWrote a b c items
file_wrote a b c [] h few = wrote_none refl
file_wrote a b c (class x ∷ items) h few =
    let Q : CondData → Type 0 = λ y. open_depth y ≤ MAX_OPEN in
    class_wrote a b c x items h.0 (all_front Q (flat_map state_conditions x.states) (conditions items) few) (file_wrote (a + 1) b c items h.1 (all_back Q (flat_map state_conditions x.states) (conditions items) few))
file_wrote a b c (object x ∷ items) h few = object_wrote a b c x items (h.0).0 (h.0).1 (file_wrote a (b + 1) c items h.1 few)
file_wrote a b c (group x ∷ items) h few = group_wrote a b c x.name x.members items (h.0).0 (h.0).1 (file_wrote a b (c + 1) items h.1 few)
