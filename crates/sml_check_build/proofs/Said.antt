-- What an instruction says, by its parts.
use Rattle.std.proofs.Common.{◌≡◌, ◌∙◌, ◌<◌, ◌+◌, sym, ap, subst, ℕ, zero, suc, Bool, Vec, List, [], ◌∷◌, ◌++◌, length, get_or, map, rules, arith, append_assoc, length-append}
use Rattle.std.specs.Prelude.{Result, Ok, Err, OnOk}
use denote.Param.Weighed.{at_most}
use Rattle.sml_tree.proofs.Blocks.{instr_content-If}
use Rattle.sml_tree.specs.declared.block.Block.{Block, size-Block}
use Rattle.sml_tree.specs.declared.cond.Cond.{Cond}
use Rattle.sml_tree.specs.Syntax.{CondData, InstrData, BlockData, ClassData, ActionData, send, choose, assign, move_to, terminate, wait_for, insert_in, remove_from}
use Rattle.sml_tree.specs.Content.{instr_content, arg_content, passed_content, waited_content, instr_step, block_step, block_of}
use Rattle.sml_domain.specs.declared.instr.Cond.{Cond as Numbered}
use Rattle.sml_domain.specs.Program.{Instruction, Chooses}
use Rattle.sml_domain.specs.Trees.{formula}
use Rattle.sml_check_build.specs.Numbers.{Names}
use Rattle.sml_check_build.specs.Programs as says
use Rattle.sml_check_build.specs.Placed.{InstrPlaced, BlockPlaced}
use Rattle.sml_check_build.specs.Layout.{held_in, instr_laid, held_blocks, blocks_laid}
use Rattle.sml_check_build.proofs.Layouts.{length-laid}
use Rattle.sml_tree.specs.declared.literal.Arg.{Arg}
use Rattle.sml_tree.specs.declared.literal.Passed.{Passed}
use Rattle.sml_tree.specs.declared.name.Name.{Name}
use Rattle.sml_tree.specs.declared.block.Waited.{Waited}
use Rattle.sml_tree.specs.declared.block.Instr.{Instr, Do, If, Set, MoveTo, Terminate, Wait, Insert, Remove, size-Instr, the_lemmas}
use Rattle.sml_tree.specs.declared.block.Instr.TheOpen.{Instr-F}
use Rattle.sml_tree.specs.declared.block.Instr.TheViews.{rolls-Do, rolls-Set, rolls-MoveTo, rolls-Terminate, rolls-Wait, rolls-Insert, rolls-Remove}
use Rattle.sml_tree.specs.declared.block.Instr.TheFolds.{fold-roll-Instr}

pub says_Do : {A : Type 0} (action : Name) (args : Vec (Passed A) A) (all : Bool) (target : Name)
    → instr_content (Do action args all target) ≡ send (record { action = action; args = map passed_content args.items; all = all; target = target })
says_Do {A} action args all target = ap (instr_content {A = A}) (sym (rolls-Do action args all target)) ∙ fold-roll-Instr A InstrData BlockData instr_step block_step (Instr-F.Do action args all target)

pub says_Set : {A : Type 0} (p : Name) (v : Arg A) → instr_content (Set p v) ≡ assign p (arg_content v)
says_Set {A} p v = ap (instr_content {A = A}) (sym (rolls-Set p v)) ∙ fold-roll-Instr A InstrData BlockData instr_step block_step (Instr-F.Set p v)

pub says_MoveTo : (A : Type 0) (s : Name) → instr_content {A = A} (MoveTo s) ≡ move_to s
says_MoveTo A s = ap (instr_content {A = A}) (sym (rolls-MoveTo s)) ∙ fold-roll-Instr A InstrData BlockData instr_step block_step (Instr-F.MoveTo s)

pub says_Terminate : (A : Type 0) (s : Name) → instr_content {A = A} (Terminate s) ≡ terminate s
says_Terminate A s = ap (instr_content {A = A}) (sym (rolls-Terminate s)) ∙ fold-roll-Instr A InstrData BlockData instr_step block_step (Instr-F.Terminate s)

pub says_Wait : {A : Type 0} (ws : Vec Waited A) → instr_content (Wait ws) ≡ wait_for (map waited_content ws.items)
says_Wait {A} ws = ap (instr_content {A = A}) (sym (rolls-Wait ws)) ∙ fold-roll-Instr A InstrData BlockData instr_step block_step (Instr-F.Wait ws)

pub says_Insert : (A : Type 0) (member set : Name) → instr_content {A = A} (Insert member set) ≡ insert_in member set
says_Insert A member set = ap (instr_content {A = A}) (sym (rolls-Insert member set))
    ∙ fold-roll-Instr A InstrData BlockData instr_step block_step (Instr-F.Insert member set)

pub says_Remove : (A : Type 0) (member set : Name) → instr_content {A = A} (Remove member set) ≡ remove_from member set
says_Remove A member set = ap (instr_content {A = A}) (sym (rolls-Remove member set))
    ∙ fold-roll-Instr A InstrData BlockData instr_step block_step (Instr-F.Remove member set)

-- the blocks of a choice are smaller than the choice
pub yes_smaller : {A : Type 0} (c : Cond A) (b d : Block A) (i : Instr A) → i ≡ If c b d → size-Block A b < size-Instr A i
yes_smaller {A} c b d i is = search (rules, the_lemmas, at_most)

pub no_smaller : {A : Type 0} (c : Cond A) (b d : Block A) (i : Instr A) → i ≡ If c b d → size-Block A d < size-Instr A i
no_smaller {A} c b d i is = search (rules, the_lemmas, at_most)

-- an instruction of a block whose names have numbers
pub placed_at : {X : Type 0} (n : Names) (c : ClassData) (a : ActionData) (g : X → InstrData) (xs : List X) (k : ℕ) (x : X) → BlockPlaced n c a (block_of (map g xs)) → k < length xs → x ≡ get_or xs k x → InstrPlaced n c a (g x)
placed_at n c a g [] k x h within is = absurd (omega arith)
placed_at n c a g (y ∷ xs) zero x h within is = subst (λ z. InstrPlaced n c a (g z)) (sym is) h.0
placed_at n c a g (y ∷ xs) (suc k) x h within is = placed_at n c a g xs k x h.1 (omega arith) is

-- what holds for anything that comes back
pub on_any : {T E P : Type 0} (r : Result T E) → P → OnOk r P
on_any (Ok x) h = h
on_any (Err e) h = tt

-- a choice between two blocks that were laid out one after the other
pub chosen : (n : Names) (c : ClassData) (a : ActionData) (was mid now : List (List Instruction)) (f : Numbered) (y z : ℕ) (fx : CondData) (yx zx : BlockData) → formula f ≡ says.formula_numbered n fx
    → mid ≡ was ++ blocks_laid n c a (length was) yx → now ≡ mid ++ blocks_laid n c a (length mid) zx → y ≡ length was + held_in yx → z ≡ length mid + held_in zx → (x : InstrData) → x ≡ choose fx yx zx
    → (Chooses (formula f) y z ≡ instr_laid n c a (length was) x) × (now ≡ was ++ held_blocks n c a (length was) x)
chosen n c a was mid now f y z fx yx zx ef first second ey ez x is =
    let second_at = length was + suc (held_in yx) in
    let long : length mid ≡ second_at = omega (arith, ap length first, length-append was (blocks_laid n c a (length was) yx), length-laid n c a (length was) yx) in (
      ap (λ g. Chooses g y z) ef ∙ ap (λ k. Chooses (says.formula_numbered n fx) k z) ey
          ∙ ap (Chooses (says.formula_numbered n fx) (length was + held_in yx)) (ez ∙ ap (λ m. m + held_in zx) long) ∙ sym (ap (instr_laid n c a (length was)) is),
      second ∙ ap (λ m. mid ++ blocks_laid n c a m zx) long ∙ ap (λ bs. bs ++ blocks_laid n c a second_at zx) first
          ∙ append_assoc was (blocks_laid n c a (length was) yx) (blocks_laid n c a second_at zx) ∙ sym (ap (λ i. was ++ held_blocks n c a (length was) i) is),
    )

pub ruleset layouts = (instr_content-If)
