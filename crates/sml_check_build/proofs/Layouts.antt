-- Blocks as they are laid out: how many there are, which they name, and what they stand for.
use Rattle.std.proofs.Common.{◌≡◌, ◌∙◌, sym, ap, refl, subst, ℕ, suc, ◌+◌, ◌≤◌, Bool, true, false, List, [], ◌∷◌, ◌++◌, length, map, Option, None, Some, append_assoc, append-nil, length-append, arith}
use Rattle.std.specs.Prelude.{if◌then◌else◌}
use Rattle.std.specs.List.{AllByRecursion, sum_by}
use Rattle.std.proofs.lemmas.List.{map-append}
use Rattle.std.proofs.lemmas.List.Sums.{sum_by-cons}
use Rattle.std.proofs.Math.Seq.{get_or-append_seam}
use Rattle.sml_tree.specs.Syntax.{SendData, InstrData, send, choose, assign, move_to, terminate, wait_for, insert_in, remove_from, BlockData, done, step, ClassData, StateData, ActionData}
use Rattle.sml_check_faults.specs.Lookup.{dead_name, adds_dead}
use Rattle.sml_domain.specs.Program.{Instruction, Program, Nothing, IfThen}
use Rattle.sml_domain.specs.Trees.{tree_at, with_instr, block_onto, trees_from}
use Rattle.sml_domain.specs.Places.{NamesBefore, NameBefore, AreOrdered}
use Rattle.sml_domain.proofs.Blocks.{trees_kept, length-trees}
use Rattle.sml_check_build.specs.Numbers.{Names, place, number}
use Rattle.sml_check_build.specs.Programs.{formula_numbered, request, instr_then, program}
use Rattle.sml_check_build.specs.Grown.{ActionThere, StateThere, ClassThere}
use Rattle.sml_check_build.specs.Rows.{ActionRow, StateRow, ClassRow, action_row, action_shown, state_row, row_of_state, bare_state, class_row, class_shown, class_param_row, signature_rows, initial_name, last_name, number_where}
use Rattle.sml_check_build.specs.Layout.{held_by, held_in, blocks_of_action, blocks_of_state, blocks_of_class, request_laid, instr_laid, instrs_laid, held_blocks, inner_blocks, blocks_laid, blocks_from, action_blocks, state_blocks, class_blocks, rows_from, action_laid, state_laid, added_laid, class_laid}

-- ---- of lists of blocks

trees-append : (known : List Program) (xs ys : List (List Instruction)) → trees_from known (xs ++ ys) ≡ trees_from (trees_from known xs) ys
trees-append known [] ys = refl
trees-append known (x ∷ xs) ys = trees-append (known ++ block_onto known x Nothing ∷ []) xs ys

ordered-append : (m : ℕ) (xs ys : List (List Instruction)) → AreOrdered m xs → AreOrdered (m + length xs) ys → AreOrdered m (xs ++ ys)
ordered-append m [] ys h g = subst (λ k. AreOrdered k ys) (omega arith) g
ordered-append m (x ∷ xs) ys h g = (h.0, ordered-append (suc m) xs ys h.1 (subst (λ k. AreOrdered k ys) (omega arith) g))

all-append : {Y : Type 0} (P : Y → Type 0) (xs ys : List Y) → AllByRecursion P xs → AllByRecursion P ys → AllByRecursion P (xs ++ ys)
all-append P [] ys h g = g
all-append P (x ∷ xs) ys h g = (h.0, all-append P xs ys h.1 g)

-- ---- of an action

module _ (n : Names) (c : ClassData) (a : ActionData) where
  laid_long : (k : ℕ) (b : BlockData) → length (inner_blocks n c a k b) ≡ held_in b → length (blocks_laid n c a k b) ≡ suc (held_in b)
  laid_long k b inner = omega (arith, length-append (inner_blocks n c a k b) (instrs_laid n c a k b ∷ []), inner)

  mutual
    pub length-held : (k : ℕ) (i : InstrData) → length (held_blocks n c a k i) ≡ held_by i
    length-held k (send s) = refl
    length-held k (choose f y z) =
        omega (arith, length-append (blocks_laid n c a k y) (blocks_laid n c a (k + suc (held_in y)) z), laid_long k y (length-inner k y), laid_long (k + suc (held_in y)) z (length-inner (k + suc (held_in y)) z))
    length-held k (assign x v) = refl
    length-held k (move_to s) = refl
    length-held k (terminate s) = refl
    length-held k (wait_for ws) = refl
    length-held k (insert_in m s) = refl
    length-held k (remove_from m s) = refl

    pub length-inner : (k : ℕ) (b : BlockData) → length (inner_blocks n c a k b) ≡ held_in b
    length-inner k done = refl
    length-inner k (step i rest) = omega (arith, length-append (held_blocks n c a k i) (inner_blocks n c a (k + held_by i) rest), length-held k i, length-inner (k + held_by i) rest)

  pub length-laid : (k : ℕ) (b : BlockData) → length (blocks_laid n c a k b) ≡ suc (held_in b)
  length-laid k b = laid_long k b (length-inner k b)

  -- ---- which they name

  request_before : (m : ℕ) (s : SendData) (o : Option ℕ) → NamesBefore m (request_laid n c a s o)
  request_before m s None = tt
  request_before m s (Some k) = tt

  instr_before : (k m : ℕ) (i : InstrData) → k + held_by i ≤ m → NamesBefore m (instr_laid n c a k i)
  instr_before k m (send s) le = request_before m s (place n.actions s.action)
  instr_before k m (choose f y z) le = let g : k + (suc (held_in y) + suc (held_in z)) ≤ m = le in (omega (arith, g), omega (arith, g))
  instr_before k m (assign x v) le = tt
  instr_before k m (move_to s) le = tt
  instr_before k m (terminate s) le = tt
  instr_before k m (wait_for ws) le = tt
  instr_before k m (insert_in x s) le = tt
  instr_before k m (remove_from x s) le = tt

  block_before : (k m : ℕ) (b : BlockData) → k + held_in b ≤ m → NameBefore m (instrs_laid n c a k b)
  block_before k m done le = tt
  block_before k m (step i rest) le =
      let g : k + (held_by i + held_in rest) ≤ m = le in
      (instr_before k m i (omega (arith, g)), block_before (k + held_by i) m rest (omega (arith, g)))

  laid_ordered : (k : ℕ) (b : BlockData) → AreOrdered k (inner_blocks n c a k b) → AreOrdered k (blocks_laid n c a k b)
  laid_ordered k b inner =
      ordered-append k (inner_blocks n c a k b) (instrs_laid n c a k b ∷ []) inner
      (block_before k (k + length (inner_blocks n c a k b)) b (omega (arith, length-inner k b)), tt)

  mutual
    held_ordered : (k : ℕ) (i : InstrData) → AreOrdered k (held_blocks n c a k i)
    held_ordered k (send s) = tt
    held_ordered k (choose f y z) =
        let second = k + suc (held_in y) in
        let at : second ≡ k + length (blocks_laid n c a k y) = omega (arith, length-laid k y) in
        ordered-append k (blocks_laid n c a k y) (blocks_laid n c a second z) (laid_ordered k y (inner_ordered k y))
        (subst (λ m. AreOrdered m (blocks_laid n c a second z)) at (laid_ordered second z (inner_ordered second z)))
    held_ordered k (assign x v) = tt
    held_ordered k (move_to s) = tt
    held_ordered k (terminate s) = tt
    held_ordered k (wait_for ws) = tt
    held_ordered k (insert_in m s) = tt
    held_ordered k (remove_from m s) = tt

    inner_ordered : (k : ℕ) (b : BlockData) → AreOrdered k (inner_blocks n c a k b)
    inner_ordered k done = tt
    inner_ordered k (step i rest) =
        let at : k + held_by i ≡ k + length (held_blocks n c a k i) = omega (arith, length-held k i) in
        ordered-append k (held_blocks n c a k i) (inner_blocks n c a (k + held_by i) rest) (held_ordered k i)
        (subst (λ m. AreOrdered m (inner_blocks n c a (k + held_by i) rest)) at (inner_ordered (k + held_by i) rest))

  -- ---- what they stand for, with anything after them

  request_tree : (known : List Program) (s : SendData) (o : Option ℕ) (rest : Program) → with_instr known (request_laid n c a s o) rest ≡ request n c a s o rest
  request_tree known s None rest = refl
  request_tree known s (Some k) rest = refl

  -- the tree of a block, whose instructions stand for its program
  laid_tree : (known : List Program) (b : BlockData) (more : List (List Instruction))
      → block_onto (trees_from known (inner_blocks n c a (length known) b ++ [])) (instrs_laid n c a (length known) b) Nothing ≡ program n c a b
      → tree_at (trees_from known (blocks_laid n c a (length known) b ++ more)) (length known + held_in b) ≡ program n c a b
  laid_tree known b more inside =
      let k = length known in
      let inner = inner_blocks n c a k b in
      let own = instrs_laid n c a k b in
      let before : List Program = trees_from known inner in
      let t : Program = block_onto before own Nothing in
      let long : length before ≡ k + held_in b = omega (arith, length-trees known inner, length-inner k b) in
      ap (λ bs. tree_at (trees_from known bs) (k + held_in b)) (append_assoc inner (own ∷ []) more)
      ∙ ap (λ ts. tree_at ts (k + held_in b)) (trees-append known inner (own ∷ more))
      ∙ trees_kept (before ++ t ∷ []) more (k + held_in b) (omega (arith, long, length-append before (t ∷ [])))
      ∙ ap (tree_at (before ++ t ∷ [])) (sym long) ∙ get_or-append_seam before t [] Nothing
      ∙ sym (ap (λ bs. block_onto (trees_from known bs) own Nothing) (append-nil inner)) ∙ inside

  mutual
    instr_tree : (known : List Program) (i : InstrData) (more : List (List Instruction)) (rest : Program)
        → with_instr (trees_from known (held_blocks n c a (length known) i ++ more)) (instr_laid n c a (length known) i) rest ≡ instr_then n c a i rest
    instr_tree known (send s) more rest = request_tree (trees_from known more) s (place n.actions s.action) rest
    instr_tree known (choose f y z) more rest =
        let k = length known in
        let second = k + suc (held_in y) in
        let first = blocks_laid n c a k y in
        let other = blocks_laid n c a second z in
        let before : List Program = trees_from known first in
        let after : List Program = trees_from known ((first ++ other) ++ more) in
        let at : length before ≡ second = omega (arith, length-trees known first, length-laid k y) in
        let yes : tree_at after (k + held_in y) ≡ program n c a y =
        ap (λ bs. tree_at (trees_from known bs) (k + held_in y)) (append_assoc first other more) ∙ laid_tree known y (other ++ more) (block_tree known y []) in
        let no : tree_at after (second + held_in z) ≡ program n c a z =
        ap (λ bs. tree_at (trees_from known bs) (second + held_in z)) (append_assoc first other more)
        ∙ ap (λ ts. tree_at ts (second + held_in z)) (trees-append known first (other ++ more))
        ∙ subst (λ m. tree_at (trees_from before (blocks_laid n c a m z ++ more)) (m + held_in z) ≡ program n c a z) at (laid_tree before z more (block_tree before z [])) in
        ap (λ t. IfThen (formula_numbered n f) t (tree_at after (second + held_in z)) rest) yes ∙ ap (λ t. IfThen (formula_numbered n f) (program n c a y) t rest) no
    instr_tree known (assign x v) more rest = refl
    instr_tree known (move_to s) more rest = refl
    instr_tree known (terminate s) more rest = refl
    instr_tree known (wait_for ws) more rest = refl
    instr_tree known (insert_in m s) more rest = refl
    instr_tree known (remove_from m s) more rest = refl

    block_tree : (known : List Program) (b : BlockData) (more : List (List Instruction))
        → block_onto (trees_from known (inner_blocks n c a (length known) b ++ more)) (instrs_laid n c a (length known) b) Nothing ≡ program n c a b
    block_tree known done more = refl
    block_tree known (step i rest) more =
        let k = length known in
        let second = k + held_by i in
        let own = held_blocks n c a k i in
        let others = inner_blocks n c a second rest in
        let before : List Program = trees_from known own in
        let after : List Program = trees_from known ((own ++ others) ++ more) in
        let at : length before ≡ second = omega (arith, length-trees known own, length-held k i) in
        let left : block_onto after (instrs_laid n c a second rest) Nothing ≡ program n c a rest =
        ap (λ bs. block_onto (trees_from known bs) (instrs_laid n c a second rest) Nothing) (append_assoc own others more)
        ∙ ap (λ ts. block_onto ts (instrs_laid n c a second rest) Nothing) (trees-append known own (others ++ more))
        ∙ subst (λ m. block_onto (trees_from before (inner_blocks n c a m rest ++ more)) (instrs_laid n c a m rest) Nothing ≡ program n c a rest) at (block_tree before rest more) in
        ap (with_instr after (instr_laid n c a k i)) left
        ∙ ap (λ bs. with_instr (trees_from known bs) (instr_laid n c a k i) (program n c a rest)) (append_assoc own others more)
        ∙ instr_tree known i (others ++ more) (program n c a rest)

-- ---- one instruction more

module _ (n : Names) (c : ClassData) (a : ActionData) (was now : List (List Instruction)) (i : InstrData) (zs : BlockData) (e : now ≡ was ++ held_blocks n c a (length was) i) where
  grown : length now ≡ length was + held_by i
  grown = omega (arith, ap length e, length-append was (held_blocks n c a (length was) i), length-held n c a (length was) i)

  pub more_instrs : (fs gs : List Instruction) (f : Instruction) → gs ≡ fs ++ f ∷ [] → f ≡ instr_laid n c a (length was) i
      → fs ++ instrs_laid n c a (length was) (step i zs) ≡ gs ++ instrs_laid n c a (length now) zs
  more_instrs fs gs f adds is =
      let left = instrs_laid n c a (length was + held_by i) zs in
      sym (ap (λ m. gs ++ instrs_laid n c a m zs) grown ∙ ap (λ l. l ++ left) adds ∙ append_assoc fs (f ∷ []) left ∙ ap (λ x. fs ++ x ∷ left) is)

  pub more_inner : was ++ inner_blocks n c a (length was) (step i zs) ≡ now ++ inner_blocks n c a (length now) zs
  more_inner =
      let left = inner_blocks n c a (length was + held_by i) zs in
      sym (ap (λ m. now ++ inner_blocks n c a m zs) grown ∙ ap (λ l. l ++ left) e ∙ append_assoc was (held_blocks n c a (length was) i) left)

-- ---- of some things in order

module _ {X : Type 0} (blocks : ℕ → X → List (List Instruction)) (size : X → ℕ) (long : (k : ℕ) (x : X) → length (blocks k x) ≡ size x) where
  pub length-from : (k : ℕ) (xs : List X) → length (blocks_from blocks size k xs) ≡ sum_by size xs
  length-from k [] = refl
  length-from k (x ∷ xs) = omega (arith, length-append (blocks k x) (blocks_from blocks size (k + size x) xs), long k x, length-from (k + size x) xs, sum_by-cons size x xs)

  blocks-append : (k : ℕ) (xs ys : List X) → blocks_from blocks size k (xs ++ ys) ≡ blocks_from blocks size k xs ++ blocks_from blocks size (k + sum_by size xs) ys
  blocks-append k [] ys = let e : k ≡ k + 0 = omega arith in ap (λ m. blocks_from blocks size m ys) e
  blocks-append k (x ∷ xs) ys =
      let e : k + size x + sum_by size xs ≡ k + sum_by size (x ∷ xs) = omega (arith, sum_by-cons size x xs) in
      let own = blocks_from blocks size (k + size x) xs in
      ap (λ l. blocks k x ++ l) (blocks-append (k + size x) xs ys ∙ ap (λ m. own ++ blocks_from blocks size m ys) e)
      ∙ sym (append_assoc (blocks k x) own (blocks_from blocks size (k + sum_by size (x ∷ xs)) ys))

  rows-append : {Y : Type 0} (row : ℕ → X → Y) (k : ℕ) (xs ys : List X) → rows_from row size k (xs ++ ys) ≡ rows_from row size k xs ++ rows_from row size (k + sum_by size xs) ys
  rows-append row k [] ys = let e : k ≡ k + 0 = omega arith in ap (λ m. rows_from row size m ys) e
  rows-append row k (x ∷ xs) ys =
      let e : k + size x + sum_by size xs ≡ k + sum_by size (x ∷ xs) = omega (arith, sum_by-cons size x xs) in
      ap (λ l. row k x ∷ l) (rows-append row (k + size x) xs ys ∙ ap (λ m. rows_from row size (k + size x) xs ++ rows_from row size m ys) e)

  -- some more
  module _ (was now : List (List Instruction)) (xs zs : List X) (e : now ≡ was ++ blocks_from blocks size (length was) xs) where
    longer : length now ≡ length was + sum_by size xs
    longer = omega (arith, ap length e, length-append was (blocks_from blocks size (length was) xs), length-from (length was) xs)

    pub more_rows : {Y : Type 0} (row : ℕ → X → Y) (made next : List Y) → next ≡ made ++ rows_from row size (length was) xs
        → made ++ rows_from row size (length was) (xs ++ zs) ≡ next ++ rows_from row size (length now) zs
    more_rows row made next adds =
        let own = rows_from row size (length was) xs in
        let left = rows_from row size (length was + sum_by size xs) zs in
        ap (λ l. made ++ l) (rows-append row (length was) xs zs) ∙ sym (append_assoc made own left) ∙ sym (ap (λ m. next ++ rows_from row size m zs) longer ∙ ap (λ l. l ++ left) adds)

    pub more_blocks : was ++ blocks_from blocks size (length was) (xs ++ zs) ≡ now ++ blocks_from blocks size (length now) zs
    more_blocks =
        let own = blocks_from blocks size (length was) xs in
        let left = blocks_from blocks size (length was + sum_by size xs) zs in
        ap (λ l. was ++ l) (blocks-append (length was) xs zs) ∙ sym (append_assoc was own left) ∙ sym (ap (λ m. now ++ blocks_from blocks size m zs) longer ∙ ap (λ l. l ++ left) e)

  -- one more
  pub one_block : (was now : List (List Instruction)) (x : X) → now ≡ was ++ blocks (length was) x → now ≡ was ++ blocks_from blocks size (length was) (x ∷ [])
  one_block was now x e = e ∙ ap (λ l. was ++ l) (sym (append-nil (blocks (length was) x)))

  pub ordered_from : ((k : ℕ) (x : X) → AreOrdered k (blocks k x)) → (k : ℕ) (xs : List X) → AreOrdered k (blocks_from blocks size k xs)
  ordered_from each k [] = tt
  ordered_from each k (x ∷ xs) =
      let at : k + size x ≡ k + length (blocks k x) = omega (arith, long k x) in
      ordered-append k (blocks k x) (blocks_from blocks size (k + size x) xs) (each k x)
      (subst (λ m. AreOrdered m (blocks_from blocks size (k + size x) xs)) at (ordered_from each (k + size x) xs))

  pub there_from : {Y : Type 0} (row : ℕ → X → Y) (P : Y → Type 0) (m : ℕ) → ((k : ℕ) (x : X) → k + size x ≤ m → P (row k x)) → (k : ℕ) (xs : List X) → k + sum_by size xs ≤ m → AllByRecursion P (rows_from row size k xs)
  there_from row P m each k [] le = tt
  there_from row P m each k (x ∷ xs) le =
      let s = sum_by-cons size x xs in
      (each k x (omega (arith, le, s)), there_from row P m each (k + size x) xs (omega (arith, le, s)))

  pub shown_from : {Y R : Type 0} (row : ℕ → X → Y) (show : List Program → Y → R) (said : X → R)
      → ((known : List Program) (x : X) (more : List (List Instruction)) → show (trees_from known (blocks (length known) x ++ more)) (row (length known) x) ≡ said x)
      → (known : List Program) (xs : List X) (more : List (List Instruction))
      → map (show (trees_from known (blocks_from blocks size (length known) xs ++ more))) (rows_from row size (length known) xs) ≡ map said xs
  shown_from row show said each known [] more = refl
  shown_from row show said each known (x ∷ xs) more =
      let k = length known in
      let own = blocks k x in
      let others = blocks_from blocks size (k + size x) xs in
      let before : List Program = trees_from known own in
      let after : List Program = trees_from known ((own ++ others) ++ more) in
      let at : length before ≡ k + size x = omega (arith, length-trees known own, long k x) in
      let here : show after (row k x) ≡ said x = ap (λ bs. show (trees_from known bs) (row k x)) (append_assoc own others more) ∙ each known x (others ++ more) in
      let left : map (show after) (rows_from row size (k + size x) xs) ≡ map said xs =
      ap (λ bs. map (show (trees_from known bs)) (rows_from row size (k + size x) xs)) (append_assoc own others more)
      ∙ ap (λ ts. map (show ts) (rows_from row size (k + size x) xs)) (trees-append known own (others ++ more))
      ∙ subst (λ m. map (show (trees_from before (blocks_from blocks size m xs ++ more))) (rows_from row size m xs) ≡ map said xs) at (shown_from row show said each before xs more) in
      ap (λ y. y ∷ map (show after) (rows_from row size (k + size x) xs)) here ∙ ap (λ ys. said x ∷ ys) left

-- ---- of actions, states and classes

module _ (n : Names) (c : ClassData) where
  pub action_long : (k : ℕ) (a : ActionData) → length (action_blocks n c k a) ≡ blocks_of_action a
  action_long k a = length-laid n c a k a.body

  pub state_long : (k : ℕ) (s : StateData) → length (state_blocks n c k s) ≡ blocks_of_state s
  state_long k s = length-from (action_blocks n c) blocks_of_action action_long k s.actions

  state_ordered : (k : ℕ) (s : StateData) → AreOrdered k (state_blocks n c k s)
  state_ordered k s = ordered_from (action_blocks n c) blocks_of_action action_long (λ k a. laid_ordered n c a k a.body (inner_ordered n c a k a.body)) k s.actions

  pub class_ordered : (k : ℕ) → AreOrdered k (class_blocks n k c)
  class_ordered k = ordered_from (state_blocks n c) blocks_of_state state_long state_ordered k c.states

  action_there : (m k : ℕ) (a : ActionData) → k + blocks_of_action a ≤ m → ActionThere m (action_laid n c k a)
  action_there m k a le = let g : k + suc (held_in a.body) ≤ m = le in omega (arith, g)

  state_there : (m k : ℕ) (s : StateData) → k + blocks_of_state s ≤ m → StateThere m (state_laid n c k s)
  state_there m k s le = there_from (action_blocks n c) blocks_of_action action_long (action_laid n c) (ActionThere m) m (action_there m) k s.actions le

  added_there : (m : ℕ) (b : Bool) → AllByRecursion (StateThere m) (if b then record { number = number n.states dead_name; actions = [] } ∷ [] else [])
  added_there m false = tt
  added_there m true = (tt, tt)

  pub class_there : (m k : ℕ) → k + blocks_of_class c ≤ m → ClassThere m (class_laid n k c)
  class_there m k le =
      all-append (StateThere m) (rows_from (state_laid n c) blocks_of_state k c.states) (added_laid n c)
      (there_from (state_blocks n c) blocks_of_state state_long (state_laid n c) (StateThere m) m (state_there m) k c.states le) (added_there m (adds_dead c))

  action_says : (known : List Program) (a : ActionData) (more : List (List Instruction))
      → action_shown (trees_from known (action_blocks n c (length known) a ++ more)) (action_laid n c (length known) a) ≡ action_row n c a
  action_says known a more =
      let row : Program → ActionRow = λ p. record { number = number n.actions a.name; program = p } in
      ap row (laid_tree n c a known a.body more (block_tree n c a known a.body []))

  state_says : (known : List Program) (s : StateData) (more : List (List Instruction))
      → row_of_state (trees_from known (state_blocks n c (length known) s ++ more)) (state_laid n c (length known) s) ≡ state_row n c s
  state_says known s more =
      let row : List ActionRow → StateRow = λ rows. record { number = number n.states s.name; actions = rows } in
      ap row (shown_from (action_blocks n c) blocks_of_action action_long (action_laid n c) action_shown (action_row n c) action_says known s.actions more)

  added_says : (known : List Program) (b : Bool)
      → map (row_of_state known) (if b then record { number = number n.states dead_name; actions = [] } ∷ [] else []) ≡ (if b then bare_state n dead_name ∷ [] else [])
  added_says known false = refl
  added_says known true = refl

  pub class_says : (known : List Program) (more : List (List Instruction))
      → class_shown (trees_from known (class_blocks n (length known) c ++ more)) (class_laid n (length known) c) ≡ class_row n c
  class_says known more =
      let row : List StateRow → ClassRow = λ rows. record {
        name = c.name;
        associated = c.associated;
        params = map class_param_row c.params;
        states = rows;
        initial = number_where n.states (initial_name c);
        dead = number n.states (last_name c);
        signatures = signature_rows n c;
      } in
      let after : List Program = trees_from known (class_blocks n (length known) c ++ more) in
      let declared = rows_from (state_laid n c) blocks_of_state (length known) c.states in
      ap row (map-append (row_of_state after) declared (added_laid n c)
      ∙ ap (λ rows. rows ++ map (row_of_state after) (added_laid n c)) (shown_from (state_blocks n c) blocks_of_state state_long (state_laid n c) row_of_state (state_row n c) state_says known c.states more)
      ∙ ap (λ rows. map (state_row n c) c.states ++ rows) (added_says after (adds_dead c)))

pub class_long : (n : Names) (k : ℕ) (c : ClassData) → length (class_blocks n k c) ≡ blocks_of_class c
class_long n k c = length-from (state_blocks n c) blocks_of_state (state_long n c) k c.states
