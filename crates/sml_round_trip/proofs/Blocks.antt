-- Instructions are written as the table reads them.
use Rattle.std.proofs.Common.{◌≡◌, ◌≤◌, ℕ, zero, suc, ◌+◌, Bool, true, false, List, [], ◌∷◌, ◌++◌, refl, ap, ◌∙◌, codes, append_assoc, inl, inr, flat_map, arith}
use Rattle.std.specs.List.{AllByRecursion}
use Rattle.sml_text.specs.declared.source.Sign.TheVariants as sign
use Rattle.sml_tree.specs.declared.token_kind.TokenKind.TheVariants as kind
use Rattle.sml_tree.specs.Syntax.{ArgData, SendData, WaitedData, CondData, InstrData, BlockData, send, choose, assign, move_to, terminate, wait_for, insert_in, remove_from, done as no_more, step}
use Rattle.sml_tree.specs.Content.{block_of}
use Rattle.sml_tree.specs.Form as of
use Rattle.sml_tree.specs.Form.{Bone, Form, gives, Part, Value, Two}
use Rattle.sml_tree.specs.Brackets.{open_depth}
use Rattle.sml_tree.specs.Inside.{block_conditions}
use Rattle.sml_tree.proofs.Marks.{all_front, all_back}
use Rattle.sml_print.specs.Words.{indent, deeper, comma_text, bracket_list, passed_text, arg_text}
use Rattle.sml_print.specs.Conditions.{cond_text}
use Rattle.sml_print.specs.Blocks.{every_text, send_text, assign_text, towards_text, waited_text, wait_text, change_text, else_text, instr_text, block_text}
use Rattle.sml_round_trip.specs.Writable.{IsWritableName, IsArg, IsWaited, IsWritableCond, IsWritableSend, IsWritableBlock}
use Rattle.sml_round_trip.proofs.Says.{Anywhere, Say, Wrote, say_end, say_blank, say_part, say_last, say_grouped, wrote_by, wrote_none, say_spelled}
use Rattle.sml_round_trip.proofs.Words.{say_word, say_name, say_sign}
use Rattle.sml_round_trip.proofs.Values.{arg_wrote, args_wrote, bracket_edge, comma_more, waited_wrote, more_waited}
use Rattle.sml_round_trip.proofs.Conditions.{cond_wrote}
use Rattle.sml_tree.specs.declared.limits.TheConstants.{MAX_OPEN}

-- the instructions of a block
abbrev pub instrs_of : BlockData → List InstrData
instrs_of no_more = []
instrs_of (step i b) = i ∷ instrs_of b

pub block_again : (b : BlockData) → block_of (instrs_of b) ≡ b
block_again no_more = refl
block_again (step i b) = ap (step i) (block_again b)

-- the brackets of each condition
abbrev pub Few : List CondData → Type 0
Few cs = AllByRecursion (λ c. open_depth c ≤ MAX_OPEN) cs

-- behind an indent
pub indented : {slash : Bool} {E : List ℕ → Type 0} {g : Part} {bones : List Bone} {form : Form (Value g) bones} {text : List ℕ} {v : Value g} (level : ℕ)
    → Say slash E g bones form text v → Say slash E g bones form (indent level ++ text) v
indented zero h = h
indented (suc level) h = say_blank refl refl (say_blank refl refl (indented level h))

every_wrote : (all : Bool) → Wrote false Anywhere of.Every (every_text all) all
every_wrote false = wrote_none refl
every_wrote true = wrote_by _ (inl refl) (say_word (codes "all_in") kind.AllIn refl refl tt (λ rest e. refl) (λ at. refl) (say_blank refl refl say_end))

-- ---- each instruction in front of a block
abbrev BlockWrote : ℕ → List ℕ → List InstrData → Type 0
BlockWrote d text is = Wrote false Anywhere (of.Block d) text is

send_wrote : (d level : ℕ) (s : SendData) (text : List ℕ) (is : List InstrData) → IsWritableSend s → BlockWrote d text is → BlockWrote d (instr_text level (send s) ++ text) (send s ∷ is)
send_wrote d level s text is h b =
    wrote_by _ (inl refl)
    (say_grouped (indent level) (send_text s) text
    (indented level
    (say_word (codes "do") kind.Do refl refl tt (λ rest e. refl) (λ at. refl)
    (say_blank refl refl
    (say_spelled _ (s.action ++ (bracket_list passed_text s.args ++ (codes " " ++ (every_text s.all ++ (s.target ++ (codes "\n" ++ text)))))) (simp append_assoc)
    (say_name s.action h.0 (λ more e. bracket_edge passed_text s.args _ more refl) (λ at. refl)
    (say_part (args_wrote s.args h.1) (λ more e. tt)
    (say_blank refl refl
    (say_part (every_wrote s.all) (λ more e. tt) (say_name s.target h.2 (λ more e. refl) (λ at. refl) (say_blank refl refl (say_last b refl))))))))))))

assign_wrote : (d level : ℕ) (name : List ℕ) (value : ArgData) (text : List ℕ) (is : List InstrData) → IsWritableName name → IsArg value → BlockWrote d text is
    → BlockWrote d (instr_text level (assign name value) ++ text) (assign name value ∷ is)
assign_wrote d level name value text is h k b =
    wrote_by _ (inr (inr (inl refl)))
    (say_grouped (indent level) (assign_text name value) text
    (indented level
    (say_word (codes "set") kind.Set refl refl tt (λ rest e. refl) (λ at. refl)
    (say_blank refl refl
    (say_spelled _ (name ++ (codes " = " ++ (arg_text value ++ (codes "\n" ++ text)))) (simp append_assoc)
    (say_name name h (λ more e. refl) (λ at. refl)
    (say_blank refl refl
    (say_sign sign.Equals tt (λ at. refl) (say_blank refl refl (say_part (arg_wrote value k) (λ more e. refl) (say_blank refl refl (say_last b refl))))))))))))

move_wrote : (d level : ℕ) (state text : List ℕ) (is : List InstrData) → IsWritableName state → BlockWrote d text is → BlockWrote d (instr_text level (move_to state) ++ text) (move_to state ∷ is)
move_wrote d level state text is h b =
    wrote_by _ (inr (inr (inr (inl refl))))
    (say_grouped (indent level) (towards_text (codes "move_to ") state) text
    (indented level
    (say_word (codes "move_to") kind.MoveTo refl refl tt (λ rest e. refl) (λ at. refl)
    (say_blank refl refl
    (say_spelled _ (state ++ (codes "\n" ++ text)) (simp append_assoc) (say_name state h (λ more e. refl) (λ at. refl) (say_blank refl refl (say_last b refl))))))))

terminate_wrote : (d level : ℕ) (state text : List ℕ) (is : List InstrData) → IsWritableName state → BlockWrote d text is → BlockWrote d (instr_text level (terminate state) ++ text) (terminate state ∷ is)
terminate_wrote d level state text is h b =
    wrote_by _ (inr (inr (inr (inr (inl refl)))))
    (say_grouped (indent level) (towards_text (codes "terminate_action /state=") state) text
    (indented level
    (say_word (codes "terminate_action") kind.TerminateAction refl refl tt (λ rest e. refl) (λ at. refl)
    (say_blank refl refl
    (say_sign sign.Slash tt (λ at. refl)
    (say_word (codes "state") kind.State refl refl tt (λ rest e. refl) (λ at. refl)
    (say_sign sign.Equals tt (λ at. refl)
    (say_spelled _ (state ++ (codes "\n" ++ text)) (simp append_assoc) (say_name state h (λ more e. refl) (λ at. refl) (say_blank refl refl (say_last b refl)))))))))))

wait_wrote : (d level : ℕ) (w : WaitedData) (ws : List WaitedData) (text : List ℕ) (is : List InstrData) → IsWaited w → AllByRecursion IsWaited ws → BlockWrote d text is
    → BlockWrote d (instr_text level (wait_for (w ∷ ws)) ++ text) (wait_for (w ∷ ws) ∷ is)
wait_wrote d level w ws text is h k b =
    wrote_by _ (inr (inr (inr (inr (inr (inl refl))))))
    (say_grouped (indent level) (wait_text (w ∷ ws)) text
    (indented level
    (say_word (codes "wait") kind.Wait refl refl tt (λ rest e. refl) (λ at. refl)
    (say_blank refl refl
    (say_sign sign.OpenBracket refl (λ at. refl)
    (say_blank refl refl
    (say_spelled _ (waited_text w ++ (flat_map (comma_text waited_text) ws ++ (codes " )\n" ++ text))) (simp append_assoc)
    (say_part (waited_wrote 0 w h) (λ more e. comma_more waited_text ws _ more refl)
    (say_part (more_waited 1 ws k) (λ more e. refl)
    (say_blank refl refl (say_sign sign.CloseBracket tt (λ at. refl) (say_blank refl refl (say_last b refl)))))))))))))

insert_wrote : (d level : ℕ) (member set text : List ℕ) (is : List InstrData) → IsWritableName member → IsWritableName set
    → BlockWrote d text is
    → BlockWrote d (instr_text level (insert_in member set) ++ text) (insert_in member set ∷ is)
insert_wrote d level member set text is h k b =
    wrote_by _ (inr (inr (inr (inr (inr (inr (inl refl)))))))
    (say_grouped (indent level) (change_text (codes "insert ") member (codes " in ") set) text
    (indented level
    (say_word (codes "insert") kind.Insert refl refl tt (λ rest e. refl) (λ at. refl)
    (say_blank refl refl
    (say_spelled _ (member ++ (codes " in " ++ (set ++ (codes "\n" ++ text)))) (simp append_assoc)
    (say_name member h (λ more e. refl) (λ at. refl)
    (say_blank refl refl
    (say_word (codes "in") kind.In refl refl tt (λ rest e. refl) (λ at. refl)
    (say_blank refl refl (say_name set k (λ more e. refl) (λ at. refl) (say_blank refl refl (say_last b refl))))))))))))

remove_wrote : (d level : ℕ) (member set text : List ℕ) (is : List InstrData) → IsWritableName member → IsWritableName set
    → BlockWrote d text is
    → BlockWrote d (instr_text level (remove_from member set) ++ text) (remove_from member set ∷ is)
remove_wrote d level member set text is h k b =
    wrote_by _ (inr (inr (inr (inr (inr (inr (inr (inl refl))))))))
    (say_grouped (indent level) (change_text (codes "remove ") member (codes " from ") set) text
    (indented level
    (say_word (codes "remove") kind.Remove refl refl tt (λ rest e. refl) (λ at. refl)
    (say_blank refl refl
    (say_spelled _ (member ++ (codes " from " ++ (set ++ (codes "\n" ++ text)))) (simp append_assoc)
    (say_name member h (λ more e. refl) (λ at. refl)
    (say_blank refl refl
    (say_word (codes "from") kind.From refl refl tt (λ rest e. refl) (λ at. refl)
    (say_blank refl refl (say_name set k (λ more e. refl) (λ at. refl) (say_blank refl refl (say_last b refl))))))))))))

else_wrote : (d level : ℕ) (b : BlockData) (text : List ℕ) → BlockWrote d text (instrs_of b) → Wrote false Anywhere (of.Else d) (else_text level b text) (instrs_of b)
else_wrote d level no_more text h = wrote_none refl
else_wrote d level (step i b) text h = wrote_by _ (inl refl) (indented level (say_word (codes "else") kind.Else refl refl tt (λ rest e. refl) (λ at. refl) (say_blank refl refl (say_last h refl))))

-- the two blocks of an `if`, and what is before them
abbrev arms_text : ℕ → BlockData → BlockData → List ℕ
arms_text level first second = codes "then\n" ++ (block_text (deeper level) first ++ (else_text level second (block_text (deeper level) second) ++ (indent level ++ codes "endif\n")))

abbrev branch_text : ℕ → CondData → BlockData → BlockData → List ℕ
branch_text level c first second = codes "( " ++ (cond_text c ++ (codes " ) " ++ arms_text level first second))

arms_wrote : (d level : ℕ) (first second : BlockData) → BlockWrote (d + 1) (block_text (deeper level) first) (instrs_of first) → BlockWrote (d + 1) (block_text (deeper level) second) (instrs_of second)
    → Wrote false Anywhere (of.Arm d) (arms_text level first second) (record { yes_part = instrs_of first; no_part = instrs_of second })
arms_wrote d level first second x y =
    wrote_by _ (inl refl)
    (say_word (codes "then") kind.Then refl refl tt (λ rest e. refl) (λ at. refl)
    (say_blank refl refl
    (say_part x (λ more e. tt)
    (say_part (else_wrote (d + 1) level second (block_text (deeper level) second) y) (λ more e. tt)
    (indented level (say_word (codes "endif") kind.Endif refl refl tt (λ rest e. refl) (λ at. refl) (say_blank refl refl say_end)))))))

branch_wrote : (d level : ℕ) (c : CondData) (first second : BlockData) → IsWritableCond c → open_depth c ≤ MAX_OPEN
    → BlockWrote (d + 1) (block_text (deeper level) first) (instrs_of first) → BlockWrote (d + 1) (block_text (deeper level) second) (instrs_of second)
    → Wrote false Anywhere (of.Branch d) (branch_text level c first second) (choose c first second)
branch_wrote d level c first second h few x y =
    let condition = cond_wrote c h few in
    wrote_by _ (inl refl)
    (say_sign sign.OpenBracket refl (λ at. refl)
    (say_blank refl refl
    (say_part condition.1 (λ more e. refl)
    (say_blank refl refl
    (say_sign sign.CloseBracket tt (λ at. refl)
    (say_blank refl refl (say_last (arms_wrote d level first second x y) (ap (λ b. gives (choose c b (block_of (instrs_of second)))) (block_again first) ∙ ap (λ b. gives (choose c first b)) (block_again second)))))))))

choose_wrote : (d level : ℕ) (c : CondData) (first second : BlockData) (text : List ℕ) (is : List InstrData) → IsWritableCond c → open_depth c ≤ MAX_OPEN
    → BlockWrote (d + 1) (block_text (deeper level) first) (instrs_of first) → BlockWrote (d + 1) (block_text (deeper level) second) (instrs_of second) → BlockWrote d text is
    → BlockWrote d (instr_text level (choose c first second) ++ text) (choose c first second ∷ is)
choose_wrote d level c first second text is h few x y b =
    wrote_by _ (inr (inl refl))
    (say_grouped (indent level) (codes "if " ++ branch_text level c first second) text
    (indented level
    (say_word (codes "if") kind.If refl refl tt (λ rest e. refl) (λ at. refl)
    (say_blank refl refl (say_part {a = branch_text level c first second} (branch_wrote d level c first second h few x y) (λ more e. tt) (say_last b refl))))))

-- a block
pub block_wrote : (d level : ℕ) (b : BlockData) → IsWritableBlock b → Few (block_conditions b) → BlockWrote d (block_text level b) (instrs_of b)
block_wrote d level no_more h few = wrote_none refl
block_wrote d level (step (send s) b) h few = send_wrote d level s _ _ h.0 (block_wrote d level b h.1 few)
block_wrote d level (step (choose c first second) b) h few =
    let Q : CondData → Type 0 = λ x. open_depth x ≤ MAX_OPEN in
    let here = all_front Q (block_conditions first ++ block_conditions second) (block_conditions b) few.1 in
    choose_wrote d level c first second _ _ (h.0).0 few.0
    (block_wrote (d + 1) (deeper level) first (h.0).1 (all_front Q (block_conditions first) (block_conditions second) here))
    (block_wrote (d + 1) (deeper level) second (h.0).2 (all_back Q (block_conditions first) (block_conditions second) here))
    (block_wrote d level b h.1 (all_back Q (block_conditions first ++ block_conditions second) (block_conditions b) few.1))
block_wrote d level (step (assign name value) b) h few = assign_wrote d level name value _ _ (h.0).0 (h.0).1 (block_wrote d level b h.1 few)
block_wrote d level (step (move_to state) b) h few = move_wrote d level state _ _ h.0 (block_wrote d level b h.1 few)
block_wrote d level (step (terminate state) b) h few = terminate_wrote d level state _ _ h.0 (block_wrote d level b h.1 few)
block_wrote d level (step (wait_for []) b) h few = let some = (h.0).0 in absurd (omega (arith, some))
block_wrote d level (step (wait_for (w ∷ ws)) b) h few = let named = (h.0).1 in wait_wrote d level w ws _ _ named.0 named.1 (block_wrote d level b h.1 few)
block_wrote d level (step (insert_in member set) b) h few = insert_wrote d level member set _ _ (h.0).0 (h.0).1
    (block_wrote d level b h.1 few)
block_wrote d level (step (remove_from member set) b) h few = remove_wrote d level member set _ _ (h.0).0 (h.0).1
    (block_wrote d level b h.1 few)
