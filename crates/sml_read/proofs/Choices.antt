-- What is read of an `if`, by the tokens and parts that were read of it.
use Rattle.std.proofs.Common.{◌≡◌, ◌≤◌, ◌+◌, ℕ, map, List, [], ◌∷◌, refl, ap, ◌∙◌, length, nat_lt, true, false, Result, Ok, Err, arith}
use Rattle.sml_tree.specs.declared.token_kind.TokenKind.TheVariants.{If, Then, Else, Endif, OpenBracket, CloseBracket}
use Rattle.sml_tree.specs.Piece.{Piece}
use Rattle.sml_tree.specs.Syntax as said
use Rattle.sml_tree.specs.Syntax.{InstrData, CondData}
use Rattle.sml_tree.specs.declared.block.Block.{Block as InBlock}
use Rattle.sml_tree.specs.Content.{block_of, instr_content}
use Rattle.sml_tree.specs.Grammar.{way}
use Rattle.sml_tree.specs.Form.{Block, Branch, Arm, Cond, Value, Form, B, P, Fine, word, part, gives, ◌>>=◌, ◌>>◌}
use Rattle.sml_tree.specs.Form as of
use Rattle.sml_read_parts.specs.declared.fault.Stop.{Stop}
use Rattle.sml_read_parts.specs.declared.fault.Stop.TheVariants as stop
use Rattle.sml_read_parts.specs.declared.fault.Fault.TheVariants.{TooDeep}
use Rattle.sml_read_parts.specs.Reads.{Reads, ReadsFront, Refuses, Stops, SeesKind, ReadsToken}
use Rattle.sml_read.specs.Arms.{armed, ReadsAskedFor}
use Rattle.sml_read_parts.specs.Made.{OrMemory, OfRead}
use Rattle.sml_read_parts.specs.Stands.{Lacks, ClosesAs}
use Rattle.sml_read_parts.specs.Trails.{Trail}
use Rattle.sml_read_parts.proofs.Behind.{lacking}
use Rattle.sml_read_parts.proofs.Steps.{Taken, seen}
use Rattle.sml_read_parts.proofs.Heads.{Read}
use Rattle.sml_read_parts.proofs.Trails.{only_way, token_refused}
use Rattle.sml_tree.specs.declared.limits.TheConstants.{MAX_IFS}

-- what is behind `then`
abbrev arms_rest : (d : ℕ) → Piece → Form (Value (Arm d)) (P of.Blocks ∷ P of.Elses ∷ B Endif ∷ [])
arms_rest d t = do
  inner ← part (Block (d + 1))
  other ← part (of.Else (d + 1))
  word Endif
  gives (record { yes_part = inner; no_part = other })

-- what is behind the bracket
abbrev branch_rest : (d : ℕ) → Piece → Form (Value (Branch d)) (P of.Conds ∷ B CloseBracket ∷ P of.Arms ∷ [])
branch_rest d t = do
  condition ← part (Cond 0 0)
  word CloseBracket
  arms ← part (Arm d)
  gives (said.choose condition.formula (block_of arms.yes_part) (block_of arms.no_part))

-- `then` is not there
pub arms_word_err : (d : ℕ) (old new : List Piece) (e : Stop) → ReadsToken Then old new (Err e) → Stops (Arm d) old e
arms_word_err d old new e none = token_refused (Arm d) Then Fine _ (arms_rest d) old old new e (only_way (Arm d) (way Then Fine (arms_rest d)) refl refl old) none

-- the first block is refused
pub arms_yes_err : (d : ℕ) (old u : List Piece) (t : Piece) (e : Stop) → Taken Then t old u → Stops (Block (d + 1)) u e → Stops (Arm d) old e
arms_yes_err d old u t stop.Memory first a = tt
arms_yes_err d old u t (stop.Fault f) first a = λ g more k. rw (first.0, first.1) (a g _ _)

-- the bracket is not there
pub branch_word_err : (d : ℕ) (old new : List Piece) (e : Stop) → ReadsToken OpenBracket old new (Err e) → Stops (Branch d) old e
branch_word_err d old new e none = token_refused (Branch d) OpenBracket Fine _ (branch_rest d) old old new e (only_way (Branch d) (way OpenBracket Fine (branch_rest d)) refl refl old) none

-- the condition is refused
pub branch_cond_err : (d : ℕ) (old u : List Piece) (t : Piece) (e : Stop) → Taken OpenBracket t old u → Stops (Cond 0 0) u e → Stops (Branch d) old e
branch_cond_err d old u t stop.Memory first a = tt
branch_cond_err d old u t (stop.Fault f) first a = λ g more k. rw (first.0, first.1) (a g _ _)

-- the second bracket is not there
pub branch_sign_err : (d count : ℕ) (old u x new : List Piece) (t : Piece) (formula : CondData) (e : Stop) → Taken OpenBracket t old u
    → Read (Cond 0 0) (record { formula = formula; count = count }) u x → ReadsToken CloseBracket x new (Err e) → Stops (Branch d) old e
branch_sign_err d count old u x new t formula stop.Memory first a none = tt
branch_sign_err d count old u x new t formula (stop.Fault f) first a none = λ g more k. rw (first.0, first.1) (a.1 g _ _ ∙ none g _ _ _)

-- the condition, and what may be the second bracket
pub asked_for_closed : {X : Type 0} (view : X → CondData) (count : ℕ) (old u v new : List Piece) (t : Piece) (read r : Result X Stop) → Taken OpenBracket t old u
    → Reads (Cond 0 0) (λ x. record { formula = view x; count = count }) u v read → ClosesAs CloseBracket v new (λ x. x) read r → ReadsAskedFor view old new r
asked_for_closed view count old u v new t (Ok x) (Ok y) first a close =
    let sign = close.1 in
    (omega (arith, ap length first.0, a.0, ap length sign.1), λ depth g more k. rw (first.0, first.1, close.0) (a.1 g _ _ ∙ rw sign.1 (rw sign.2 refl)))
asked_for_closed view count old u v new t (Ok x) (Err e) first a close = λ depth. branch_sign_err depth count old u v new t (view x) e first a close
asked_for_closed view count old u v new t (Err e) r first a close = rw close (λ depth. branch_cond_err depth old u t e first a)

-- the blocks are behind the condition
pub branch_read : (d : ℕ) (old u new : List Piece) (formula : CondData) (yes' no' : List InstrData) → length u ≤ length old → Trail (Branch d) (P of.Arms ∷ []) (armed d formula) old u
    → Read (Arm d) (record { yes_part = yes'; no_part = no' }) u new → Read (Branch d) (said.choose formula (block_of yes') (block_of no')) old new
branch_read d old u new formula yes' no' le a b = (omega (arith, le, b.0), λ g more k. a g more k ∙ b.1 g _ _)

-- the blocks behind the condition are refused
pub branch_refused : (d : ℕ) (old u : List Piece) (formula : CondData) (e : Stop) → Trail (Branch d) (P of.Arms ∷ []) (armed d formula) old u → Stops (Arm d) u e → Stops (Branch d) old e
branch_refused d old u formula stop.Memory a b = tt
branch_refused d old u formula (stop.Fault f) a b = λ g more k. a g more k ∙ b g _ _

pub arms_ok : (d : ℕ) (old u x y new : List Piece) (t e : Piece) (yes' no' : List InstrData) → old ≡ t ∷ u → t.kind ≡ Then → Read (Block (d + 1)) yes' u x
    → Read (of.Else (d + 1)) no' x y → Taken Endif e y new → Read (Arm d) (record { yes_part = yes'; no_part = no' }) old new
arms_ok d old u x y new t e yes' no' first kind a b close =
    (omega (arith, ap length first, a.0, b.0, ap length close.0), λ g more k. rw (first, kind) (a.1 g _ _ ∙ b.1 g _ _ ∙ rw close.0 (rw close.1 refl)))

-- the second block is refused
pub arms_err : (d : ℕ) (old u x : List Piece) (t : Piece) (yes' : List InstrData) (e : Stop) → old ≡ t ∷ u → t.kind ≡ Then → Read (Block (d + 1)) yes' u x
    → Stops (of.Else (d + 1)) x e → Stops (Arm d) old e
arms_err d old u x t yes' stop.Memory first kind a b = tt
arms_err d old u x t yes' (stop.Fault f) first kind a b = λ g more k. rw (first, kind) (a.1 g _ _ ∙ b g _ _)

-- `endif` is not there
pub arms_open : (d : ℕ) (old u x y new : List Piece) (t : Piece) (yes' no' : List InstrData) (e : Stop) → old ≡ t ∷ u → t.kind ≡ Then → Read (Block (d + 1)) yes' u x
    → Read (of.Else (d + 1)) no' x y → ReadsToken Endif y new (Err e) → Stops (Arm d) old e
arms_open d old u x y new t yes' no' stop.Memory first kind a b none = tt
arms_open d old u x y new t yes' no' (stop.Fault f) first kind a b none = λ g more k. rw (first, kind) (a.1 g _ _ ∙ b.1 g _ _ ∙ none g _ _ _)

-- two blocks, and what may be `endif`
pub arms_closed : {X Y : Type 0} (view : Y → of.Two) (second : X → List InstrData) (form : X → Y) (d : ℕ) (old u x y new : List Piece) (t : Piece) (no' : Result X Stop) (r : Result Y Stop) (yes' : List InstrData)
    → ((z : X) → view (form z) ≡ record { yes_part = yes'; no_part = second z }) → Taken Then t old u → Read (Block (d + 1)) yes' u x → Reads (of.Else (d + 1)) second x y no' → ClosesAs Endif y new form no' r
    → Reads (Arm d) view old new r
arms_closed view second form d old u x y new t (Ok z) (Ok both) yes' is first a b close =
    let word' = close.1 in
    rw (close.0, is z) (arms_ok d old u x y new t word'.0 yes' (second z) first.0 first.1 a b (word'.1, word'.2))
arms_closed view second form d old u x y new t (Ok z) (Err e) yes' is first a b close = arms_open d old u x y new t yes' (second z) e first.0 first.1 a b close
arms_closed view second form d old u x y new t (Err e) r yes' is first a b close = rw close (arms_err d old u x t yes' e first.0 first.1 a b)

-- an `if` inside too many others
pub if_deep : (d : ℕ) (t : Piece) (old new : List Piece) → old ≡ t ∷ new → SeesKind If old → nat_lt d MAX_IFS ≡ false → Refuses (Block d) old (TooDeep t.at)
if_deep d t old new e sees full = let kind = seen If t old new e sees in λ g more k. rw (e, kind, full) refl

-- the blocks of an `if`, and what is made of them
pub branch_made : {X Y : Type 0} (arms : X → of.Two) (view : Y → InstrData) (d : ℕ) (old u new : List Piece) (formula : CondData) (r : Result X Stop) (made : Result Y Stop) → length u ≤ length old
    → Trail (Branch d) (P of.Arms ∷ []) (armed d formula) old u → Reads (Arm d) arms u new r
    → OfRead r made (λ a i. view i ≡ said.choose formula (block_of (arms a).yes_part) (block_of (arms a).no_part)) → Reads (Branch d) view old new made
branch_made arms view d old u new formula (Ok a) (Ok i) le first b is = rw is (branch_read d old u new formula (arms a).yes_part (arms a).no_part le first b)
branch_made arms view d old u new formula (Ok a) (Err e) le first b is = absurd is
branch_made arms view d old u new formula (Err e) made le first b is = rw is (branch_refused d old u formula e first b)

-- an `if` and what follows it
pub if_front : {X : Type 0} (view : X → InstrData) (d : ℕ) (r : Result X Stop) (t : Piece) (old u new : List Piece) → old ≡ t ∷ u → SeesKind If old → nat_lt d MAX_IFS ≡ true
    → Reads (Branch d) view u new r → ReadsFront (Block d) (Block d) (λ x v. view x ∷ v) old new r
if_front view d (Ok x) t old u new e sees room a = let kind = seen If t old u e sees in (omega (arith, ap length e, a.0), λ g more k. rw (e, kind, room) (a.1 g _ _))
if_front view d (Err stop.Memory) t old u new e sees room a = tt
if_front view d (Err (stop.Fault f)) t old u new e sees room a = let kind = seen If t old u e sees in λ g more k. rw (e, kind, room) (a g _ _)

-- an `else` that is left out
pub else_left_out : {A : Type 0} (d : ℕ) (r : Result (InBlock A) Stop) (old new : List Piece) → new ≡ old → Lacks Else old → OrMemory r (λ b. b.instrs.items ≡ [])
    → Reads (of.Else d) (λ b. map instr_content b.instrs.items) old new r
else_left_out d (Ok b) old new same lacks made = (omega (arith, ap length same), rw (same, made) (lacking (of.Else d) _ [] old refl refl lacks))
else_left_out d (Err e) old new same lacks made = rw made tt

-- an `else` and its block
pub else_block : {X : Type 0} (view : X → List InstrData) (d : ℕ) (r : Result X Stop) (t : Piece) (old u new : List Piece) → old ≡ t ∷ u → t.kind ≡ Else
    → Reads (Block d) view u new r → Reads (of.Else d) view old new r
else_block view d (Ok x) t old u new e kind a = (omega (arith, ap length e, a.0), λ g more k. rw (e, kind) (a.1 g _ _))
else_block view d (Err stop.Memory) t old u new e kind a = tt
else_block view d (Err (stop.Fault f)) t old u new e kind a = λ g more k. rw (e, kind) (a g _ _)
