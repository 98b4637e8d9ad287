-- What an instruction says.
use Rattle.std.proofs.Common.{◌≡◌, ◌∙◌, sym, ap, Bool, true, false, Vec, map, ◌⊎◌, inl, inr, [], ◌∷◌}
use Rattle.sml_tree.specs.Syntax.{InstrData, BlockData, send, assign, move_to, terminate, wait_for, insert_in, remove_from}
use Rattle.sml_tree.specs.Content.{instr_content, arg_content, passed_content, waited_content, instr_step, block_step}
use Rattle.sml_tree.specs.declared.literal.Arg.{Arg}
use Rattle.sml_tree.specs.declared.literal.Passed.{Passed}
use Rattle.sml_tree.specs.declared.name.Name.{Name}
use Rattle.sml_tree.specs.declared.block.Waited.{Waited}
use Rattle.sml_tree.specs.declared.block.Instr.{Instr, Do, Set, MoveTo, Terminate, Wait, Insert, Remove}
use Rattle.sml_tree.specs.declared.block.Instr.TheOpen.{Instr-F}
use Rattle.sml_tree.specs.declared.block.Instr.TheViews.{rolls-Do, rolls-Set, rolls-MoveTo, rolls-Terminate, rolls-Wait, rolls-Insert, rolls-Remove}
use Rattle.sml_tree.specs.declared.block.Instr.TheFolds.{fold-roll-Instr}
use Rattle.sml_check_faults.specs.Sites.{ends, changes, instr_sites}

pub says_Do : {A : Type 0} (action : Name) (args : Vec (Passed A) A) (all : Bool) (target : Name)
    → instr_content (Do action args all target) ≡ send (record { action = action; args = map passed_content args.items; all = all; target = target })
says_Do {A} action args all target = ap (instr_content {A = A}) (sym (rolls-Do action args all target)) ∙ fold-roll-Instr A InstrData BlockData instr_step block_step (Instr-F.Do action args all target)

pub says_Set : {A : Type 0} (p : Name) (v : Arg A) → instr_content (Set p v) ≡ assign p (arg_content v)
says_Set {A} p v = ap (instr_content {A = A}) (sym (rolls-Set p v)) ∙ fold-roll-Instr A InstrData BlockData instr_step block_step (Instr-F.Set p v)

pub says_MoveTo : (A : Type 0) (s : Name) → instr_content {A = A} (MoveTo s) ≡ move_to s
says_MoveTo A s = ap (instr_content {A = A}) (sym (rolls-MoveTo s)) ∙ fold-roll-Instr A InstrData BlockData instr_step block_step (Instr-F.MoveTo s)

pub says_Terminate : (A : Type 0) (s : Name) → instr_content {A = A} (Terminate s) ≡ terminate s
says_Terminate A s = ap (instr_content {A = A}) (sym (rolls-Terminate s)) ∙ fold-roll-Instr A InstrData BlockData instr_step block_step (Instr-F.Terminate s)

pub says_Wait : {A : Type 0} (ws : Vec Waited A) → instr_content (Wait ws) ≡ wait_for (map waited_content ws.items)
says_Wait {A} ws = ap (instr_content {A = A}) (sym (rolls-Wait ws)) ∙ fold-roll-Instr A InstrData BlockData instr_step block_step (Instr-F.Wait ws)

pub says_Insert : (A : Type 0) (member set : Name) → instr_content {A = A} (Insert member set) ≡ insert_in member set
says_Insert A member set = ap (instr_content {A = A}) (sym (rolls-Insert member set))
    ∙ fold-roll-Instr A InstrData BlockData instr_step block_step (Instr-F.Insert member set)

pub says_Remove : (A : Type 0) (member set : Name) → instr_content {A = A} (Remove member set) ≡ remove_from member set
says_Remove A member set = ap (instr_content {A = A}) (sym (rolls-Remove member set))
    ∙ fold-roll-Instr A InstrData BlockData instr_step block_step (Instr-F.Remove member set)

-- an instruction that ends an action names its state
pub ends_in : {A : Type 0} (i : Instr A) (s : Name) → (i ≡ MoveTo s) ⊎ (i ≡ Terminate s) → instr_sites (instr_content i) ≡ ends s ∷ []
ends_in {A} i s (inl e) = ap (λ j. instr_sites (instr_content j)) e ∙ ap instr_sites (says_MoveTo A s)
ends_in {A} i s (inr e) = ap (λ j. instr_sites (instr_content j)) e ∙ ap instr_sites (says_Terminate A s)

-- an instruction that changes a set names the object and the set
pub changes_in : {A : Type 0} (i : Instr A) (m s : Name) → (i ≡ Insert m s) ⊎ (i ≡ Remove m s) → (add : Bool)
    × (instr_sites (instr_content i) ≡ changes add m s ∷ [])
changes_in {A} i m s (inl e) = (true, ap (λ j. instr_sites (instr_content j)) e ∙ ap instr_sites (says_Insert A m s))
changes_in {A} i m s (inr e) = (false, ap (λ j. instr_sites (instr_content j)) e ∙ ap instr_sites (says_Remove A m s))

-- the same, of the set alone
pub changes_set : {A : Type 0} (i : Instr A) (s : Name) → ((m : Name) × (i ≡ Insert m s))
    ⊎ ((m : Name) × (i ≡ Remove m s)) → (m : Name) × (add : Bool) × (instr_sites (instr_content i) ≡ changes add m s
    ∷ [])
changes_set i s (inl e) = let its = changes_in i e.0 s (inl e.1) in (e.0, its.0, its.1)
changes_set i s (inr e) = let its = changes_in i e.0 s (inr e.1) in (e.0, its.0, its.1)
