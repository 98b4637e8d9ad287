-- What a block says, by its instructions.
use Rattle.std.proofs.Common.{◌≡◌, ◌∙◌, sym, ap, List, [], ◌∷◌, refl}
use Rattle.std.specs.Prelude.{Result, Ok, IfOk}
use Rattle.std.proofs.lemmas.Result.{IfOk-weaker, IfOk-at_ok}
use Rattle.sml_tree.specs.Syntax.{BlockData, InstrData, choose}
use Rattle.sml_tree.specs.Content.{instr_content, block_content, block_of, instr_step, block_step, cond_content}
use Rattle.sml_tree.specs.declared.block.Instr.{Instr, If}
use Rattle.sml_tree.specs.declared.block.Instr.TheOpen.{Instr-F}
use Rattle.sml_tree.specs.declared.cond.Cond.{Cond}
use Rattle.sml_tree.specs.declared.block.Block.{Block}
use Rattle.sml_tree.specs.declared.block.Instr.TheViews.{rolls-If}
use Rattle.sml_tree.specs.declared.block.Instr.TheFolds.{fold-Block, fold_out-Block, fold-roll-Instr}

block_fold : {A : Type 0} (b : Block A) → fold-Block A InstrData BlockData instr_step block_step b ≡ block_content b
block_fold {A} b = fold_out-Block A InstrData BlockData instr_step block_step b

pub instr_content-If : {A : Type 0} (c : Cond A) (b d : Block A) → instr_content (If c b d) ≡ choose (cond_content c) (block_content b) (block_content d)
instr_content-If {A} c b d =
    ap (instr_content {A = A}) (sym (rolls-If c b d))
    ∙ fold-roll-Instr A InstrData BlockData instr_step block_step (Instr-F.If c b d)
    ∙ ap (λ x. choose (cond_content c) x (fold-Block A InstrData BlockData instr_step block_step d)) (block_fold b)
    ∙ ap (choose (cond_content c) (block_content b)) (block_fold d)

pub ruleset instr_equations = (instr_content-If)

-- an `if` of copies is the `if` that was copied
pub If_same : {A B : Type 0} {E : Type 0} (cond : Result (Cond A) E) (first second : Result (Block A) E) (c' : Cond B) (b' d' : Block B) (i : Instr B) (copy : Result (Instr A) E) →
    i ≡ If c' b' d' → IfOk cond (λ c. cond_content c ≡ cond_content c') → IfOk first (λ b. block_content b ≡ block_content b') → IfOk second (λ d. block_content d ≡ block_content d') →
    IfOk copy (λ j. (c : Cond A) × (b : Block A) × (d : Block A) × (cond ≡ Ok c) × (first ≡ Ok b) × (second ≡ Ok d) × (instr_content j ≡ choose (cond_content c) (block_content b) (block_content d))) →
    IfOk copy (λ j. instr_content j ≡ instr_content i)
If_same cond first second c' b' d' i copy is e f h made = IfOk-weaker copy _ _ (λ j (c, b, d, cs, ys, ns, says).
    says ∙ ap (λ x. choose x (block_content b) (block_content d)) (IfOk-at_ok _ cs e) ∙ ap (λ x. choose (cond_content c') x (block_content d)) (IfOk-at_ok _ ys f)
    ∙ ap (choose (cond_content c') (block_content b')) (IfOk-at_ok _ ns h) ∙ sym (ap instr_content is ∙ instr_content-If c' b' d')) made

-- equal blocks have equal instructions
pub block_of-injective : (is js : List InstrData) → block_of is ≡ block_of js → is ≡ js
block_of-injective [] [] h = refl
block_of-injective [] (j ∷ js) h = cc
block_of-injective (i ∷ is) [] h = cc
block_of-injective (i ∷ is) (j ∷ js) h =
    let rest : block_of is ≡ block_of js = cc in
    let same = block_of-injective is js rest in cc
